-- Writing turns reading round: tables that hold the words of a job that was read, with anything behind them, write the bytes that the job was read from. So do the tables that reading leaves, and
-- those that the check leaves, whose type table holds more entries than the job declares.
use Rattle.std.specs.Prelude.{◌≡◌, Bool, true, false, cond, length, take, eqb}
use Rattle.std.proofs.Math.Path.{refl, ap, ap₂}
use Rattle.std.proofs.Common.{sym, ◌∙◌, subst, length-append, lt-ltb}
use Prim.Native.Nat.{ℕ, zero, suc, ◌+◌, ◌-◌, ◌*◌, ◌/◌, ◌%◌, ◌^◌, ◌≤◌, ◌<◌}
use native.Mathlib.Omega.{arith}
use mathlib.Core.List.{List, [], ◌∷◌, ◌++◌, map, flat_map, map-append, append_assoc, append-nil, Memᴰ}
use Rattle.std.proofs.Math.Option.{Option, some, none-ne-some, some-injective}
use Rattle.std.proofs.Math.ListN.{get_or, get_elem?, get_or-append}
use Rattle.order.proofs.Bools.{and2}
use Rattle.order.proofs.OrderLaws.{get_elem?_lt}
use Rattle.syntax.specs.Types.{TypeEntry, e_num, e_pair, e_cell, e_fn, e_lim, e_grant}
use Rattle.syntax.specs.Commands.{Cmd, c_num, c_top, c_var, c_pair, c_part, c_fn, c_app, c_new, c_asg, c_read, c_sum, c_test, c_lim, c_grant, c_newkey, c_assoc, c_access, c_divide, c_spawn}
use Rattle.syntax.specs.Commands.{Op, o_host, o_local, o_value, o_rights, form, op_of, find_op, commands, operands, section_of, row}
use Rattle.syntax.specs.Operands.{nth, of_roles, plain, inner, children, types_of, uses_var, binds_var, binds_name}
use Rattle.syntax.specs.Job.{Name, HostValue, Job}
use Rattle.syntax.specs.Reading.{read, reading, w_name, w_type, w_value, w_rights, w_cmd, w_end, most_names, most_types, most_variables, most_expressions}
use Rattle.syntax.specs.Words.{name_word, entry_row, type_bits, type_word, set_word, value_word, packed, head_roles, head_bits}
use Rattle.syntax.specs.Words.{head_word, filled, slots, slot_words}
use Rattle.syntax.specs.Loading.{JobTables, short, filled_with}
use Rattle.syntax.proofs.LoadLaws.{long_with}
use Rattle.syntax.specs.ReadLaws.{JobOk}
use Rattle.syntax.proofs.ReadLaws.{read_ok}
use Rattle.syntax.proofs.ReadPlaces.{op_found, byte_low}
use Rattle.syntax.specs.WrittenLaws.{numbers_in, numbers_of}
use Rattle.syntax.specs.WordLaws.{CmdFits, TypeFits, t_num, t_pair, t_cell, t_fn, t_lim, t_grant, JobFits, Bytes}
use Rattle.syntax.proofs.WordLaws.{job_fits, slots_at, slots_length}
use Rattle.syntax.specs.JobBytes.{command_bytes, row_of, entry_bytes, bytes_to, job_bytes}
use Rattle.syntax.proofs.BytesBack.{bytes_back}
use Rattle.syntax.specs.RowsRead.{Narrow, narrow_none, narrow_more}
use Rattle.syntax.specs.Writing.{Item, item, fits, item_of, within, name_at, value_at, place_at, type_numbers, name_fields, type_fields, value_fields, expr_fields}
use Rattle.syntax.specs.Writing.{name_item, type_item, value_item, fields_of, cmd_item, each, items, Script, script, sent, judged, writing, write_with}
use Rattle.syntax.proofs.BufferLaws.{long_enough_lem}
use Rattle.syntax.specs.WrittenBack.{Fronts, counts_of}

narrow_fits : {ws o : List ℕ} → Narrow ws o → fits ws o ≡ true
unfolding fits
narrow_fits narrow_none = refl
narrow_fits (narrow_more {w} {n} {ws} {o} h k) = and2 _ _ (lt-ltb n (256 ^ w) h) (narrow_fits k)

fit : (w n : ℕ) {ws o : List ℕ} → n < 256 ^ w → Narrow ws o → Narrow (w ∷ ws) (n ∷ o)
fit w n h k = narrow_more h k

-- an entry whose command is found in its section, and whose numbers fit
item_is : (sec : ℕ) (b : Option Op) (f : Op → List ℕ) (op : Op) (o : List ℕ) → b ≡ some op → eqb (section_of op) sec ≡ true → f op ≡ o → Narrow (operands op) o → item_of sec b f ≡ item (op, o)
unfolding item_of
item_is sec b f op o e s g h = ap (λ x. item_of sec x f) e ∙ rw (s, g, narrow_fits h)

-- below its limit
within_is : (limit i : ℕ) (e : Item) → i < limit → within limit i e ≡ e
unfolding within
within_is limit i e h = rw (lt-ltb i limit h)

-- a name
name_item_lem : (h : Bool) (u : ℕ) → u < 64 → name_fields (u + 256 * cond h 1 2) ≡ item (cond h o_host o_local, u ∷ [])
unfolding op_of find_op commands section_of operands
name_item_lem true u l =
    let x : (u + 256) / 256 ≡ 1 = omega arith in
    let y : (u + 256) % 256 ≡ u = omega arith in
    item_is 0 _ _ o_host (u ∷ []) (ap op_of x) refl (ap (λ (n : ℕ). n ∷ []) y) (fit 1 u (omega arith) narrow_none)
name_item_lem false u l =
    let x : (u + 512) / 256 ≡ 2 = omega arith in
    let y : (u + 512) % 256 ≡ u = omega arith in
    item_is 0 _ _ o_local (u ∷ []) (ap op_of x) refl (ap (λ (n : ℕ). n ∷ []) y) (fit 1 u (omega arith) narrow_none)

-- a type entry in its row
record EntryStands (op : Op) (o : List ℕ) : Type 0 where
  key : get_or o 0 0 < 256
  part : get_or o 1 0 < 65536
  section : eqb (section_of op) 1 ≡ true
  numbers : take (length (operands op)) (get_or o 0 0 ∷ get_or o 1 0 ∷ get_or o 2 0 ∷ get_or o 3 0 ∷ []) ≡ o
  narrow : Narrow (operands op) o

entry_stands : (e : TypeEntry) → TypeFits e → EntryStands (entry_row e).0 (entry_row e).1
unfolding entry_row operands section_of
entry_stands (e_num q) (t_num h) = record { key = omega arith; part = omega arith; section = refl; numbers = refl; narrow = fit 1 q (omega arith) narrow_none }
entry_stands (e_pair q a b) (t_pair h k l) =
    record { key = omega arith; part = omega arith; section = refl; numbers = refl; narrow = fit 1 q (omega arith) (fit 2 a (omega arith) (fit 2 b (omega arith) narrow_none)) }
entry_stands (e_cell q a) (t_cell h k) = record { key = omega arith; part = omega arith; section = refl; numbers = refl; narrow = fit 1 q (omega arith) (fit 2 a (omega arith) narrow_none) }
entry_stands (e_fn q a b s) (t_fn h k l m) =
    record { key = omega arith; part = omega arith; section = refl; numbers = refl; narrow = fit 1 q (omega arith) (fit 2 a (omega arith) (fit 2 b (omega arith) (fit 8 s.set m narrow_none))) }
entry_stands (e_lim q r) (t_lim h k) = record { key = omega arith; part = omega arith; section = refl; numbers = refl; narrow = fit 1 q (omega arith) (fit 1 r (omega arith) narrow_none) }
entry_stands (e_grant q r) (t_grant h k) = record { key = omega arith; part = omega arith; section = refl; numbers = refl; narrow = fit 1 q (omega arith) (fit 1 r (omega arith) narrow_none) }

-- the parts of a type's word
type_parts : (byte q a b : ℕ) → byte < 256 → q < 256 → a < 65536 → let d : ℕ = type_bits byte q a b in (d % 256 ≡ byte) × (d / 256 % 256 ≡ q) × (d / 65536 % 65536 ≡ a) × (d / 4294967296 ≡ b)
type_parts byte q a b h k l =
    let w : ℕ = type_bits byte q a b in
    let x : w / 256 ≡ q + 256 * (a + 65536 * b) = omega arith in
    let y : w / 65536 ≡ a + 65536 * b = omega arith in
    let u : (q + 256 * (a + 65536 * b)) % 256 ≡ q = omega arith in
    let v : (a + 65536 * b) % 65536 ≡ a = omega arith in
    (omega arith, ap (λ n. n % 256) x ∙ u, ap (λ n. n % 65536) y ∙ v, omega arith)

type_item_lem : (e : TypeEntry) → TypeFits e → (d s : ℕ) → d ≡ type_word e → s ≡ set_word e → type_fields d s ≡ item (entry_row e)
unfolding type_word set_word
type_item_lem e f d s x y =
    let op : Op = (entry_row e).0 in
    let o : List ℕ = (entry_row e).1 in
    let t = entry_stands e f in
    let p = type_parts (form op).byte (get_or o 0 0) (get_or o 1 0) (get_or o 2 0) (byte_low op) t.key t.part in
    item_is 1 _ _ op o (ap (λ n. op_of (n % 256)) x ∙ ap op_of p.0 ∙ op_found op) t.section
    ((λ i. type_numbers (x i) (y i) op)
    ∙ (λ i. take (length (operands op)) (p.1 i ∷ p.2 i ∷ p.3 i ∷ get_or o 3 0 ∷ [])) ∙ t.numbers) t.narrow

-- a host value
value_item_lem : (t n : ℕ) → t < 256 → n < 4294967296 → value_fields (0x20 + 256 * t + 16777216 * n) ≡ item (o_value, t ∷ n ∷ [])
unfolding op_of find_op commands section_of operands
value_item_lem t n h k =
    let d : ℕ = 0x20 + 256 * t + 16777216 * n in
    let x : d % 256 ≡ 0x20 = omega arith in
    let y : d / 256 ≡ t + 65536 * n = omega arith in
    let z : (t + 65536 * n) % 65536 ≡ t = omega arith in
    let u : d / 16777216 ≡ n = omega arith in
    item_is 2 _ _ o_value (t ∷ n ∷ []) (ap op_of x) refl (ap₂ (λ (a b : ℕ). a ∷ b ∷ []) (ap (λ m. m % 65536) y ∙ z) u) (fit 2 t (omega arith) (fit 4 n k narrow_none))

-- an expression in its row
record CmdStands (k : Cmd ℕ) : Type 0 where
  section : eqb (section_of (row k).op) 4 ≡ true
  numbers : fields_of (packed (of_roles head_roles k)) (get_or (slots k) 0 0 ∷ get_or (slots k) 1 0 ∷ get_or (slots k) 2 0 ∷ get_or (slots k) 3 0 ∷ get_or (slots k) 4 0 ∷ []) (row k).op ≡ numbers_of k
  narrow : Narrow (operands (row k).op) (numbers_of k)

at0 : {a : ℕ} {l : List ℕ} → Memᴰ a (a ∷ l)
at0 = Memᴰ.head refl

at1 : {a b : ℕ} {l : List ℕ} → Memᴰ b (a ∷ b ∷ l)
at1 = Memᴰ.tail at0

at2 : {a b c : ℕ} {l : List ℕ} → Memᴰ c (a ∷ b ∷ c ∷ l)
at2 = Memᴰ.tail at1

at3 : {a b c d : ℕ} {l : List ℕ} → Memᴰ d (a ∷ b ∷ c ∷ d ∷ l)
at3 = Memᴰ.tail at2

at4 : {a b c d e : ℕ} {l : List ℕ} → Memᴰ e (a ∷ b ∷ c ∷ d ∷ e ∷ l)
at4 = Memᴰ.tail at3

-- an operand that is an expression, and one that is a type
module _ (k : Cmd ℕ) (f : CmdFits k) where
  for_e : {ws o : List ℕ} (c : ℕ) → Memᴰ c (children k) → Narrow ws o → Narrow (2 ∷ ws) (c ∷ o)
  for_e c m n = fit 2 c (omega (arith, f.operand c m)) n

  for_t : {ws o : List ℕ} (t : ℕ) → Memᴰ t (types_of k) → Narrow ws o → Narrow (2 ∷ ws) (t ∷ o)
  for_t t m n = fit 2 t (omega (arith, f.type_operand t m)) n

-- a place that is not used
unused : {ws o : List ℕ} → Narrow ws o → Narrow (2 ∷ ws) (0xFFFF ∷ o)
unused n = fit 2 0xFFFF (omega arith) n

cmd_stands : (k : Cmd ℕ) → CmdFits k → CmdStands k
unfolding section_of row fields_of packed of_roles slots numbers_in operands children plain inner types_of uses_var binds_var binds_name
cmd_stands (c_num n) f = record { section = refl; numbers = refl; narrow = fit 4 n (f.number n at0) narrow_none }
cmd_stands c_top f = record { section = refl; numbers = refl; narrow = narrow_none }
cmd_stands (c_var v) f = record { section = refl; numbers = refl; narrow = fit 1 v (omega (arith, f.used_variable v at0)) narrow_none }
cmd_stands (c_pair a b) f = record { section = refl; numbers = refl; narrow = for_e (c_pair a b) f a at0 (for_e (c_pair a b) f b at1 narrow_none) }
cmd_stands (c_part a true) f = record { section = refl; numbers = refl; narrow = for_e (c_part a true) f a at0 (fit 1 1 (omega arith) narrow_none) }
cmd_stands (c_part a false) f = record { section = refl; numbers = refl; narrow = for_e (c_part a false) f a at0 (fit 1 2 (omega arith) narrow_none) }
cmd_stands (c_fn v t b) f =
    let k : Cmd ℕ = c_fn v t b in record { section = refl; numbers = refl; narrow = fit 1 v (omega (arith, f.bound_variable v at0)) (for_t k f t at0 (for_e k f b at0 narrow_none)) }
cmd_stands (c_app a b) f = record { section = refl; numbers = refl; narrow = for_e (c_app a b) f a at0 (for_e (c_app a b) f b at1 narrow_none) }
cmd_stands (c_new t a) f = record { section = refl; numbers = refl; narrow = for_t (c_new t a) f t at0 (for_e (c_new t a) f a at0 narrow_none) }
cmd_stands (c_asg a b) f = record { section = refl; numbers = refl; narrow = for_e (c_asg a b) f a at0 (for_e (c_asg a b) f b at1 narrow_none) }
cmd_stands (c_read a) f = record { section = refl; numbers = refl; narrow = for_e (c_read a) f a at0 narrow_none }
cmd_stands (c_sum true a b) f =
    let k : Cmd ℕ = c_sum true a b in record { section = refl; numbers = refl; narrow = fit 1 0 (omega arith) (for_e k f a at0 (for_e k f b at1 narrow_none)) }
cmd_stands (c_sum false a b) f =
    let k : Cmd ℕ = c_sum false a b in record { section = refl; numbers = refl; narrow = fit 1 1 (omega arith) (for_e k f a at0 (for_e k f b at1 narrow_none)) }
cmd_stands (c_test a b c t) f =
    let k : Cmd ℕ = c_test a b c t in record { section = refl; numbers = refl; narrow = for_e k f a at0 (for_e k f b at1 (for_e k f c at2 (for_t k f t at0 narrow_none))) }
cmd_stands (c_lim [] b) f = record { section = refl; numbers = refl; narrow = fit 1 0 (omega arith) (unused (unused (unused (unused (for_e (c_lim [] b) f b at0 narrow_none))))) }
cmd_stands (c_lim (x ∷ []) b) f =
    let k : Cmd ℕ = c_lim (x ∷ []) b in
    record { section = refl; numbers = refl; narrow = fit 1 1 (omega arith) (for_e k f x at0 (unused (unused (unused (for_e k f b at1 narrow_none))))) }
cmd_stands (c_lim (x ∷ y ∷ []) b) f =
    let k : Cmd ℕ = c_lim (x ∷ y ∷ []) b in
    record { section = refl; numbers = refl; narrow = fit 1 2 (omega arith) (for_e k f x at0 (for_e k f y at1 (unused (unused (for_e k f b at2 narrow_none))))) }
cmd_stands (c_lim (x ∷ y ∷ z ∷ []) b) f =
    let k : Cmd ℕ = c_lim (x ∷ y ∷ z ∷ []) b in
    record { section = refl; numbers = refl; narrow = fit 1 3 (omega arith) (for_e k f x at0 (for_e k f y at1 (for_e k f z at2 (unused (for_e k f b at3 narrow_none))))) }
cmd_stands (c_lim (x ∷ y ∷ z ∷ w ∷ []) b) f =
    let k : Cmd ℕ = c_lim (x ∷ y ∷ z ∷ w ∷ []) b in
    record { section = refl; numbers = refl; narrow = fit 1 4 (omega arith) (for_e k f x at0 (for_e k f y at1 (for_e k f z at2 (for_e k f w at3 (for_e k f b at4 narrow_none))))) }
cmd_stands (c_lim (x ∷ y ∷ z ∷ w ∷ u ∷ ks) b) f = absurd (omega (arith, f.few_keys _ at0))
cmd_stands (c_grant a b) f = record { section = refl; numbers = refl; narrow = for_e (c_grant a b) f a at0 (for_e (c_grant a b) f b at1 narrow_none) }
cmd_stands (c_newkey v r a b t) f =
    let k : Cmd ℕ = c_newkey v r a b t in
    let h = f.bound_variable v at0 in
    let l = f.bound_name_lem r at0 in
    let x : (v + 256 * r) % 256 ≡ v = omega (arith, h) in
    let y : (v + 256 * r) / 256 ≡ r = omega (arith, h) in
    record {
      section = refl;
      numbers = ap₂ (λ (n m : ℕ). n ∷ m ∷ a ∷ b ∷ t ∷ []) x y;
      narrow = fit 1 v (omega (arith, h)) (fit 1 r (omega (arith, l)) (for_e k f a at0 (for_e k f b at1 (for_t k f t at0 narrow_none))));
    }
cmd_stands (c_assoc a b) f = record { section = refl; numbers = refl; narrow = for_e (c_assoc a b) f a at0 (for_e (c_assoc a b) f b at1 narrow_none) }
cmd_stands (c_access a b c t) f =
    let k : Cmd ℕ = c_access a b c t in record { section = refl; numbers = refl; narrow = for_e k f a at0 (for_e k f b at1 (for_e k f c at2 (for_t k f t at0 narrow_none))) }
cmd_stands (c_divide a b) f = record { section = refl; numbers = refl; narrow = for_e (c_divide a b) f a at0 (for_e (c_divide a b) f b at1 narrow_none) }
cmd_stands (c_spawn b) f = record { section = refl; numbers = refl; narrow = for_e (c_spawn b) f b at0 narrow_none }

cmd_item_lem : (k : Cmd ℕ) → CmdFits k → (d : ℕ) (p : ℕ → ℕ) → d ≡ head_word k → ((i : ℕ) → i < 5 → p i ≡ get_or (slots k) i 0)
    → expr_fields d (p 0) (p 1) (p 2) (p 3) (p 4) ≡ item ((row k).op, numbers_of k)
unfolding head_word
cmd_item_lem k f d p x y =
    let op : Op = (row k).op in
    let byte : ℕ = (form op).byte in
    let t = cmd_stands k f in
    let low = parts byte (packed (of_roles head_roles k)) d (byte_low op) x in
    item_is 4 _ _ op (numbers_of k) (ap op_of low.0 ∙ op_found op) t.section
    ((λ i. fields_of (low.1 i) (y 0 (omega arith) i ∷ y 1 (omega arith) i ∷ y 2 (omega arith) i ∷ y 3 (omega arith) i ∷ y 4 (omega arith) i ∷ []) op) ∙ t.numbers) t.narrow
  where
    parts : (byte x d : ℕ) → byte < 256 → d ≡ head_bits byte x → (d % 256 ≡ byte) × (d / 256 ≡ x)
    parts byte x d h e = (omega arith, omega arith)

-- Tables

-- the word of an entry, with anything behind the table's front
front_at : {A : Type 0} (f : A → ℕ) (l : List A) (behind : List ℕ) (i : ℕ) (a : A) → get_elem? l i ≡ some a → get_or (map f l ++ behind) i 0 ≡ f a
front_at f [] behind i a e = absurd (none-ne-some a e)
front_at f (x ∷ l) behind zero a e = ap f (some-injective x a e)
front_at f (x ∷ l) behind (suc i) a e = front_at f l behind i a e

nth_is : (l : List (Cmd ℕ)) (i : ℕ) (k : Cmd ℕ) → get_elem? l i ≡ some k → nth l i ≡ k
unfolding nth
nth_is [] i k e = absurd (none-ne-some k e)
nth_is (x ∷ l) zero k e = some-injective x k e
nth_is (x ∷ l) (suc i) k e = nth_is l i k e

places_length : (l : List (Cmd ℕ)) → ((e : ℕ) → CmdFits (nth l e)) → length (flat_map slots l) ≡ length l * 5
unfolding flat_map nth
places_length [] f = refl
places_length (k ∷ l) f = omega (arith, length-append (slots k) (flat_map slots l), slots_length k (f 0), places_length l (λ e. f (suc e)))

module _ (J : Job) (j : JobOk J) (f : JobFits J) (w : JobTables) (t : Fronts J w) where
  name_at_lem : (i : ℕ) (d : Name) → get_elem? J.names i ≡ some d → name_item w i ≡ item (row_of (w_name d))
  unfolding name_item row_of name_word
  name_at_lem i d e =
      let z : 2 + i ≡ suc (suc i) = omega arith in
      let x : name_at w i ≡ name_word d = ap₂ (λ (l : List ℕ) (n : ℕ). get_or l n 0) t.names_are z ∙ front_at name_word J.names t.names_behind i d e in
      ap (λ (n : ℕ). within (most_names - 2) i (name_fields n)) x
      ∙ within_is (most_names - 2) i _ (omega (arith, j.few_names, get_elem?_lt J.names i d e))
      ∙ name_item_lem d.host d.upper (f.upper i d e)

  type_at : (i : ℕ) (e : TypeEntry) → get_elem? J.types i ≡ some e → type_item w i ≡ item (row_of (w_type e))
  unfolding type_item row_of
  type_at i e h =
      within_is most_types i _ (omega (arith, j.few_types, get_elem?_lt J.types i e h))
      ∙ type_item_lem e (f.types i e h) _ _
      (ap (λ (l : List ℕ). get_or l i 0) t.types_are ∙ front_at type_word J.types t.types_behind i e h)
      (ap (λ (l : List ℕ). get_or l i 0) t.sets_are ∙ front_at set_word J.types t.sets_behind i e h)

  value_at_lem : (i : ℕ) (h : HostValue ℕ) → get_elem? J.values i ≡ some h → value_item w i ≡ item (row_of (w_value h))
  unfolding value_item row_of value_word
  value_at_lem i h e =
      let x : value_at w i ≡ value_word h = ap (λ (l : List ℕ). get_or l i 0) t.values_are ∙ front_at value_word J.values t.values_behind i h e in
      ap (λ (n : ℕ). within most_variables i (value_fields n)) x
      ∙ within_is most_variables i _ (omega (arith, j.few_values, get_elem?_lt J.values i h e))
      ∙ value_item_lem h.ty h.init (f.values i h e).ty (f.values i h e).init

  cmd_at : (i : ℕ) (k : Cmd ℕ) → get_elem? J.cmds i ≡ some k → cmd_item w i ≡ item (row_of (w_cmd k))
  unfolding cmd_item row_of
  cmd_at i k e =
      within_is most_expressions i _ (omega (arith, j.few_cmds, get_elem?_lt J.cmds i k e))
      ∙ cmd_item_lem k (subst (λ c. CmdFits c) n (f.cmds i)) _ (place_at w i)
      (ap (λ (l : List ℕ). get_or l i 0) t.heads_are ∙ front_at head_word J.cmds t.heads_behind i k e)
      place
    where
      n : nth J.cmds i ≡ k
      n = nth_is J.cmds i k e

      place : (m : ℕ) → m < 5 → place_at w i m ≡ get_or (slots k) m 0
      place m h =
          ap (λ (l : List ℕ). get_or l (i * 5 + m) 0) t.slots_are
          ∙ get_or-append (slot_words J) t.slots_behind 0 (i * 5 + m) (omega (arith, h, places_length J.cmds f.cmds, get_elem?_lt J.cmds i k e))
          ∙ slots_at J.cmds f.cmds i m h ∙ ap (λ c. get_or (slots c) m 0) n

  rights_item : item_of 3 (some o_rights) (λ op. J.rights.set ∷ []) ≡ item (row_of (w_rights J.rights))
  unfolding row_of section_of operands
  rights_item = item_is 3 (some o_rights) _ o_rights (J.rights.set ∷ []) refl refl refl (fit 8 J.rights.set f.rights narrow_none)

-- Scripts

-- all entries of a list of n entries are items, from entry i of a table on
each_is : {A : Type 0} (g : ℕ → Item) (r : A → Op × List ℕ) (l : List A) (i : ℕ) → ((n : ℕ) (a : A) → get_elem? l n ≡ some a → g (i + n) ≡ item (r a)) → each g i (length l) ≡ map (λ a. item (r a)) l
unfolding each
each_is g r [] i h = refl
each_is g r (a ∷ l) i h =
    let z : i ≡ i + 0 = omega arith in
    ap₂ (λ (x : Item) (y : List Item). x ∷ y) (ap g z ∙ h 0 a refl)
    (each_is g r l (suc i) (λ n b e. let y : suc i + n ≡ i + suc n = omega arith in ap g y ∙ h (suc n) b e))

-- the script of entries that are items, before m
script_of : {A : Type 0} (r : A → Op × List ℕ) (l : List A) (m : List Item) (b : List ℕ) (n : ℕ) → script m ≡ record { bytes = b; fault = n }
    → script (map (λ a. item (r a)) l ++ m) ≡ record { bytes = flat_map (λ a. command_bytes (r a)) l ++ b; fault = n }
unfolding script flat_map
script_of r [] m b n e = e
script_of r (a ∷ l) m b n e =
    ap (λ (s : Script). record { bytes = command_bytes (r a) ++ s.bytes; fault = s.fault }) (script_of r l m b n e)
    ∙ ap (λ (x : List ℕ). record { bytes = x; fault = n }) (sym (append_assoc (command_bytes (r a)) (flat_map (λ a. command_bytes (r a)) l) b))

-- in another order of joining
joined : (n t v r c e : List ℕ) → n ++ (t ++ (v ++ (r ++ (c ++ (e ++ []))))) ≡ ((((n ++ t) ++ v) ++ r) ++ c) ++ e
joined n t v r c e = simp (append_assoc, append-nil)

-- the script of the tables is the job's bytes, with no fault
job_script : (J : Job) → JobOk J → JobFits J → (w : JobTables) → Fronts J w → script (items w (counts_of J)) ≡ record { bytes = job_bytes J; fault = 0 }
unfolding items counts_of script row_of job_bytes bytes_to
job_script J j f w t =
    ap script are
    ∙ script_of (λ d. row_of (w_name d)) J.names _ _ 0
    (script_of (λ e. row_of (w_type e)) J.types _ _ 0
    (script_of (λ h. row_of (w_value h)) J.values _ _ 0
    (ap (λ (s : Script). record { bytes = entry_bytes (w_rights J.rights) ++ s.bytes; fault = s.fault }) (script_of (λ k. row_of (w_cmd k)) J.cmds (item (row_of w_end) ∷ []) _ 0 refl))))
    ∙ ap (λ (x : List ℕ). record { bytes = x; fault = 0 })
    (joined (flat_map (λ d. entry_bytes (w_name d)) J.names) (flat_map (λ e. entry_bytes (w_type e)) J.types) (flat_map (λ h. entry_bytes (w_value h)) J.values) (entry_bytes (w_rights J.rights))
    (flat_map (λ k. entry_bytes (w_cmd k)) J.cmds) (entry_bytes w_end))
  where
    all : {A : Type 0} (g : ℕ → Item) (r : A → Op × List ℕ) (l : List A) → ((n : ℕ) (a : A) → get_elem? l n ≡ some a → g n ≡ item (r a)) → each g 0 (length l) ≡ map (λ a. item (r a)) l
    all g r l h = each_is g r l 0 (λ n a e. let z : 0 + n ≡ n = omega arith in ap g z ∙ h n a e)

    are : items w (counts_of J) ≡ map (λ d. item (row_of (w_name d))) J.names ++ (map (λ e. item (row_of (w_type e))) J.types ++ (map (λ h. item (row_of (w_value h))) J.values
        ++ (item (row_of (w_rights J.rights)) ∷ (map (λ k. item (row_of (w_cmd k))) J.cmds ++ (item (row_of w_end) ∷ [])))))
    are =
        let n = all (name_item w) (λ d. row_of (w_name d)) J.names (name_at_lem J j f w t) in
        let e = all (type_item w) (λ e. row_of (w_type e)) J.types (type_at J j f w t) in
        let v = all (value_item w) (λ h. row_of (w_value h)) J.values (value_at_lem J j f w t) in
        let r = rights_item J j f w t in
        let c = all (cmd_item w) (λ k. row_of (w_cmd k)) J.cmds (cmd_at J j f w t) in
        λ i. n i ++ (e i ++ (v i ++ (r i ∷ (c i ++ (item (row_of w_end) ∷ [])))))

-- tables that hold the words of a job write the bytes that it was read from
pub written_back : (s : List ℕ) (J : Job) → Bytes s → reading s ≡ read J → (w : JobTables) → Fronts J w → writing w (counts_of J) ≡ sent s
unfolding writing judged
written_back s J b e w t =
    ap (λ (x : Script). judged x.fault x.bytes (reading x.bytes)) (job_script J (read_ok s J e) (job_fits s J b e) w t)
    ∙ ap (λ (x : List ℕ). judged 0 x (reading x)) (bytes_back s J b e)
    ∙ ap (judged 0 s) e

-- tables that are filled with the job's words, with more types behind the job's
fronts_filled : (J : Job) (w : JobTables) (more : List TypeEntry) → Fronts J (filled_with (J.types ++ more) J w)
unfolding filled_with filled
fronts_filled J w more =
    record {
      name0 = 0;
      name1 = 0;
      names_behind = _;
      types_behind = _;
      sets_behind = _;
      values_behind = _;
      heads_behind = _;
      slots_behind = _;
      names_are = refl;
      types_are = behind type_word _;
      sets_are = behind set_word _;
      values_are = refl;
      heads_are = refl;
      slots_are = refl;
    }
  where
    behind : (g : TypeEntry → ℕ) (l : List ℕ) → map g (J.types ++ more) ++ l ≡ map g J.types ++ (map g more ++ l)
    behind g l = ap (λ (x : List ℕ). x ++ l) (map-append g J.types more) ∙ append_assoc (map g J.types) (map g more) l

-- so do the tables that the check leaves
pub read_written : (s : List ℕ) (J : Job) → Bytes s → reading s ≡ read J → (w : JobTables) (more : List TypeEntry) → writing (filled_with (J.types ++ more) J w) (counts_of J) ≡ sent s
read_written s J b e w more = written_back s J b e (filled_with (J.types ++ more) J w) (fronts_filled J w more)

-- and those that reading leaves
pub loaded_written : (s : List ℕ) (J : Job) → Bytes s → reading s ≡ read J → (w : JobTables) → writing (filled_with J.types J w) (counts_of J) ≡ sent s
loaded_written s J b e w = ap (λ (T : List TypeEntry). writing (filled_with T J w) (counts_of J)) (sym (append-nil J.types)) ∙ read_written s J b e w []

-- "Any job that the reader takes comes back byte for byte": from tables that are long enough, which hold the job and may hold more types, into a buffer that is
pub sent_back : (s : List ℕ) (J : Job) → Bytes s → reading s ≡ read J → (w : JobTables) → short w ≡ false → (more : List TypeEntry) (n : ℕ) → length s ≤ n
    → write_with (filled_with (J.types ++ more) J w) (counts_of J) n ≡ sent s
sent_back s J b e w h more n l = long_enough_lem (filled_with (J.types ++ more) J w) (counts_of J) n s (long_with (J.types ++ more) J w h) (read_written s J b e w more) l
