-- A job is written by one string of bytes alone: the bytes that it was read from. So two files that read as the same job are the same file.
use Rattle.std.specs.Prelude.{◌≡◌, refl, Bool, true, false, cond, length, take, drop, eqb, ltb}
use Rattle.std.proofs.Math.Path.{sym, ap}
use Rattle.std.proofs.Common.{ap₂, ◌∙◌, subst, arith, length-drop, take-append-drop, take-add, eqb-true, ltb-false, le-leb}
use Prim.Native.Nat.{ℕ, zero, suc, ◌+◌, ◌*◌, ◌/◌, ◌%◌, ◌≤◌, ◌<◌}
use mathlib.Core.List.{List, [], ◌∷◌, ◌++◌, flat_map, append_assoc, append-nil}
use Rattle.std.proofs.Math.Option.{Option, none, some}
use Rattle.std.proofs.Math.Seq.{take-nil}
use Rattle.std.proofs.lemmas.Bool.{lt-leb}
use Rattle.order.specs.Effects.{Effect}
use Rattle.syntax.specs.Types.{TypeEntry}
use Rattle.syntax.specs.Commands.{Cmd, Op, o_host, o_local, o_number, o_pair, o_cell, o_function, o_limit, o_grant, o_value, o_rights, o_end, form, op_of, operands, total, width, section_of, little, fields}
use Rattle.syntax.specs.Commands.{x_number, x_top, x_variable, x_pair, x_part, x_function, x_apply, x_cell, x_assign, x_read, x_sum, x_test, x_limit, x_grant, x_newkey, x_associate, x_access, x_divide, x_spawn}
use Rattle.syntax.specs.Job.{Name, HostValue, Job}
use Rattle.syntax.specs.Reading.{State, Written, w_name, w_type, w_value, w_rights, w_cmd, w_end, unwritten, written, given, enter, misplaced, full, name_ok, type_ok, host_value_ok, rights_ok, cmd_ok}
use Rattle.syntax.specs.Reading.{Refusal, Step, refuse, proceed, finish, settle, command, refused, read, ended, onward, on_op, read_from, no_job, reading}
use Rattle.syntax.specs.ReadLaws.{Sofar, Placed, Wrote, wrote_name, wrote_type, wrote_value, wrote_rights, wrote_cmd, wrote_end, wrote_none, StepOk, step_refuse, step_proceed, step_finish}
use Rattle.syntax.proofs.ReadLaws.{placed, wrote, step_ok, at_start}
use Rattle.syntax.proofs.ReadPlaces.{op_byte}
use Rattle.syntax.specs.WrittenLaws.{firsts}
use Rattle.syntax.proofs.WrittenLaws.{firsts_are, numbers_back}
use Rattle.syntax.specs.WordLaws.{Bytes}
use Rattle.syntax.proofs.WordLaws.{bytes_drop}
use Rattle.syntax.specs.JobBytes.{bytes_of, operand_bytes, command_bytes, row_of, entry_bytes, bytes_to, job_bytes}

-- Operands

-- an operand's bytes are those that it was read from
operand_back : (w : ℕ) (s : List ℕ) → Bytes s → w ≤ length s → bytes_of w (little (take w s)) ≡ take w s
unfolding bytes_of little
operand_back zero s h l = refl
operand_back (suc w) [] h l = absurd (omega arith)
operand_back (suc w) (b ∷ s) h l =
    let n : ℕ = little (take w s) in
    let low : (b + 256 * n) % 256 ≡ b = omega (arith, h 0) in
    let high : (b + 256 * n) / 256 ≡ n = omega (arith, h 0) in
    ap₂ (λ (x : ℕ) y. x ∷ y) low (ap (bytes_of w) high ∙ operand_back w s (λ i. h (suc i)) (omega arith))

pub operands_back : (ws s : List ℕ) → Bytes s → total ws ≤ length s → operand_bytes ws (fields ws s) ≡ take (total ws) s
unfolding operand_bytes fields total
operands_back [] s h l = refl
operands_back (w ∷ ws) s h l =
    ap₂ (λ x y. x ++ y) (operand_back w s h (omega arith)) (operands_back ws (drop w s) (bytes_drop w s h) (omega (arith, length-drop w s))) ∙ sym (take-add w (total ws) s)

fields_length : (ws s : List ℕ) → length (fields ws s) ≡ length ws
unfolding fields
fields_length [] s = refl
fields_length (w ∷ ws) s = ap suc (fields_length ws (drop w s))

-- Commands

-- what a command writes is written by it and its operands
data Back (op : Op) (o : List ℕ) : Written → Type 0 where
  back_none : Back op o unwritten
  back_row : {w : Written} → row_of w ≡ (op, o) → Back op o w

-- an expression
cmd_back : (op : Op) (o : List ℕ) → length o ≡ length (operands op) → section_of op ≡ 4 → Back op o (written op o)
unfolding row_of
cmd_back op o h f = at (section_of op) (written op o) (wrote op o) f refl
  where
    at : (sec : ℕ) (w : Written) → Wrote sec w → sec ≡ 4 → written op o ≡ w → Back op o w
    at sec w (wrote_name d) z e = absurd (omega arith)
    at sec w (wrote_type t) z e = absurd (omega arith)
    at sec w (wrote_value v) z e = absurd (omega arith)
    at sec w (wrote_rights s) z e = absurd (omega arith)
    at sec w (wrote_cmd k) z e = let r = numbers_back op o k h e in back_row (ap₂ (λ a (b : List ℕ). (a, b)) r.command r.numbers_are)
    at sec w wrote_end z e = absurd (omega arith)
    at sec w (wrote_none n) z e = back_none

row_back : (op : Op) (o : List ℕ) → length o ≡ length (operands op) → Back op o (written op o)
unfolding written operands row_of section_of firsts
row_back o_host o h = back_row (ap (λ (l : List ℕ). (o_host, l)) (firsts_are 1 o h))
row_back o_local o h = back_row (ap (λ (l : List ℕ). (o_local, l)) (firsts_are 1 o h))
row_back o_number o h = back_row (ap (λ (l : List ℕ). (o_number, l)) (firsts_are 1 o h))
row_back o_pair o h = back_row (ap (λ (l : List ℕ). (o_pair, l)) (firsts_are 3 o h))
row_back o_cell o h = back_row (ap (λ (l : List ℕ). (o_cell, l)) (firsts_are 2 o h))
row_back o_function o h = back_row (ap (λ (l : List ℕ). (o_function, l)) (firsts_are 4 o h))
row_back o_limit o h = back_row (ap (λ (l : List ℕ). (o_limit, l)) (firsts_are 2 o h))
row_back o_grant o h = back_row (ap (λ (l : List ℕ). (o_grant, l)) (firsts_are 2 o h))
row_back o_value o h = back_row (ap (λ (l : List ℕ). (o_value, l)) (firsts_are 2 o h))
row_back o_rights o h = back_row (ap (λ (l : List ℕ). (o_rights, l)) (firsts_are 1 o h))
row_back x_number o h = cmd_back x_number o h refl
row_back x_top o h = cmd_back x_top o h refl
row_back x_variable o h = cmd_back x_variable o h refl
row_back x_pair o h = cmd_back x_pair o h refl
row_back x_part o h = cmd_back x_part o h refl
row_back x_function o h = cmd_back x_function o h refl
row_back x_apply o h = cmd_back x_apply o h refl
row_back x_cell o h = cmd_back x_cell o h refl
row_back x_assign o h = cmd_back x_assign o h refl
row_back x_read o h = cmd_back x_read o h refl
row_back x_sum o h = cmd_back x_sum o h refl
row_back x_test o h = cmd_back x_test o h refl
row_back x_limit o h = cmd_back x_limit o h refl
row_back x_grant o h = cmd_back x_grant o h refl
row_back x_newkey o h = cmd_back x_newkey o h refl
row_back x_associate o h = cmd_back x_associate o h refl
row_back x_access o h = cmd_back x_access o h refl
row_back x_divide o h = cmd_back x_divide o h refl
row_back x_spawn o h = cmd_back x_spawn o h refl
row_back o_end o h = back_row (ap (λ (l : List ℕ). (o_end, l)) (firsts_are 0 o h))

-- Entries

snoc : {A : Type 0} (f : A → List ℕ) (l : List A) (a : A) → flat_map f (l ++ (a ∷ [])) ≡ flat_map f l ++ f a
unfolding flat_map
snoc f [] a = append-nil (f a)
snoc f (x ∷ l) a = ap (λ m. f x ++ m) (snoc f l a) ∙ sym (append_assoc (f x) (flat_map f l) (f a))

-- the bytes of names, and of names and types, and of host values after them
abbrev names_to : Job → List ℕ
names_to J = flat_map (λ d. entry_bytes (w_name d)) J.names

abbrev types_to : Job → List ℕ
types_to J = names_to J ++ flat_map (λ e. entry_bytes (w_type e)) J.types

abbrev values_to : Job → List ℕ
values_to J = types_to J ++ flat_map (λ h. entry_bytes (w_value h)) J.values

module _ (cur : ℕ) (J : Job) where
  in_values : cur < 3 → J.cmds ≡ [] → bytes_to cur J ≡ values_to J
  unfolding bytes_to flat_map
  in_values h c = simp (lt-leb 3 cur h, c, append-nil)

  in_types : cur < 3 → J.cmds ≡ [] → J.values ≡ [] → bytes_to cur J ≡ types_to J
  unfolding flat_map
  in_types h c v = in_values h c ∙ simp (v, append-nil)

  in_names : cur < 3 → J.cmds ≡ [] → J.values ≡ [] → J.types ≡ [] → bytes_to cur J ≡ names_to J
  unfolding flat_map
  in_names h c v t = in_types h c v ∙ simp (t, append-nil)

  past_rights : 3 ≤ cur → bytes_to cur J ≡ bytes_to 5 J
  unfolding bytes_to
  past_rights h = rw (le-leb 3 cur h)

-- what one command comes to, where p was read before it and x is read with it
data Tells (p x : List ℕ) : Step → Type 0 where
  tells_refuse : (n : ℕ) → Tells p x (refuse n)
  tells_proceed : (st : State) → bytes_to st.section st.job ≡ p ++ x → Tells p x (proceed st)
  tells_finish : (J : Job) → job_bytes J ≡ p ++ x → Tells p x (finish J)

told : (sec : ℕ) (J : Job) (p x : List ℕ) → sec < 5 → (b : Bool) → (b ≡ true → bytes_to sec J ≡ p ++ x) → Tells p x (settle sec (given b J))
unfolding settle given
told sec J p x h false f = tells_refuse 6
told sec J p x h true f = at (eqb sec 5) refl
  where
    at : (c : Bool) → eqb sec 5 ≡ c → Tells p x (cond c (finish J) (proceed (record { section = sec; job = J })))
    at true e = absurd (omega (arith, eqb-true sec 5 e))
    at false e = tells_proceed (record { section = sec; job = J }) (f refl)

-- one entry more
module _ (cur : ℕ) (J : Job) (i : Sofar cur J) where
  one_name : (d : Name) → cur ≤ 0
      → bytes_to 0 (record { names = J.names ++ (d ∷ []); types = J.types; values = J.values; rights = J.rights; cmds = J.cmds }) ≡ bytes_to cur J ++ entry_bytes (w_name d)
  one_name d h =
      let c : J.cmds ≡ [] = i.no_cmds (omega arith) in
      let v : J.values ≡ [] = i.no_values (omega arith) in
      let t : J.types ≡ [] = i.no_types (omega arith) in
      in_names 0 _ (omega arith) c v t ∙ snoc (λ d. entry_bytes (w_name d)) J.names d ∙ ap (λ l. l ++ entry_bytes (w_name d)) (sym (in_names cur J (omega arith) c v t))

  one_type : (e : TypeEntry) → cur ≤ 1
      → bytes_to 1 (record { names = J.names; types = J.types ++ (e ∷ []); values = J.values; rights = J.rights; cmds = J.cmds }) ≡ bytes_to cur J ++ entry_bytes (w_type e)
  one_type e h =
      let c : J.cmds ≡ [] = i.no_cmds (omega arith) in
      let v : J.values ≡ [] = i.no_values (omega arith) in
      in_types 1 _ (omega arith) c v ∙ ap (λ l. names_to J ++ l) (snoc (λ e. entry_bytes (w_type e)) J.types e) ∙ sym (append_assoc (names_to J) _ (entry_bytes (w_type e)))
      ∙ ap (λ l. l ++ entry_bytes (w_type e)) (sym (in_types cur J (omega arith) c v))

  one_value : (h : HostValue ℕ) → cur ≤ 2
      → bytes_to 2 (record { names = J.names; types = J.types; values = J.values ++ (h ∷ []); rights = J.rights; cmds = J.cmds }) ≡ bytes_to cur J ++ entry_bytes (w_value h)
  one_value h l =
      let c : J.cmds ≡ [] = i.no_cmds (omega arith) in
      in_values 2 _ (omega arith) c ∙ ap (λ l. types_to J ++ l) (snoc (λ h. entry_bytes (w_value h)) J.values h) ∙ sym (append_assoc (types_to J) _ (entry_bytes (w_value h)))
      ∙ ap (λ l. l ++ entry_bytes (w_value h)) (sym (in_values cur J (omega arith) c))

  the_rights : (s : Effect) → cur < 3 → bytes_to 3 (record { names = J.names; types = J.types; values = J.values; rights = s; cmds = J.cmds }) ≡ bytes_to cur J ++ entry_bytes (w_rights s)
  unfolding bytes_to flat_map
  the_rights s h =
      let c : J.cmds ≡ [] = i.no_cmds (omega arith) in
      let a : (values_to J ++ entry_bytes (w_rights s)) ++ flat_map (λ k. entry_bytes (w_cmd k)) J.cmds ≡ values_to J ++ entry_bytes (w_rights s) = simp (c, append-nil) in
      a ∙ ap (λ l. l ++ entry_bytes (w_rights s)) (sym (in_values cur J h c))

  one_cmd : (k : Cmd ℕ) → 3 ≤ cur → bytes_to 4 (record { names = J.names; types = J.types; values = J.values; rights = J.rights; cmds = J.cmds ++ (k ∷ []) }) ≡ bytes_to cur J ++ entry_bytes (w_cmd k)
  unfolding bytes_to
  one_cmd k h =
      let p : List ℕ = values_to J ++ entry_bytes (w_rights J.rights) in
      ap (λ l. p ++ l) (snoc (λ k. entry_bytes (w_cmd k)) J.cmds k) ∙ sym (append_assoc p _ (entry_bytes (w_cmd k))) ∙ ap (λ l. l ++ entry_bytes (w_cmd k)) (sym (past_rights cur J h))

entered : (sec : ℕ) (w : Written) → Wrote sec w → (cur : ℕ) (J : Job) → Sofar cur J → Placed cur sec (length J.cmds) → Tells (bytes_to cur J) (entry_bytes w) (settle sec (enter w J))
unfolding enter settle job_bytes
entered sec w (wrote_name d) cur J i p = told 0 _ _ _ (omega arith) (name_ok J.names d) (λ e. one_name cur J i d p.after)
entered sec w (wrote_type t) cur J i p = told 1 _ _ _ (omega arith) (type_ok J.names J.types t) (λ e. one_type cur J i t p.after)
entered sec w (wrote_value v) cur J i p = told 2 _ _ _ (omega arith) (host_value_ok J.names J.types v) (λ e. one_value cur J i v p.after)
entered sec w (wrote_rights s) cur J i p = told 3 _ _ _ (omega arith) (rights_ok J.names s) (λ e. the_rights cur J i s (p.once refl))
entered sec w (wrote_cmd k) cur J i p = told 4 _ _ _ (omega arith) (cmd_ok J k) (λ e. one_cmd cur J i k (p.late (omega arith)))
entered sec w wrote_end cur J i p = tells_finish J (ap (λ l. l ++ entry_bytes w_end) (sym (past_rights cur J (p.late (omega arith)))))
entered sec w (wrote_none n) cur J i p = tells_refuse 6

-- Commands: what is read with one is its byte and its operands
command_tells : (op : Op) (s : List ℕ) → Bytes s → (st : State) → Sofar st.section st.job → Tells (bytes_to st.section st.job) ((form op).byte ∷ take (width op) s) (command op s st)
unfolding command settle enter total width command_bytes
command_tells op s h st i = at (misplaced st (section_of op)) refl (ltb (length s) (width op)) refl (full st.job (section_of op))
  where
    o : List ℕ
    o = fields (operands op) s

    by : (w : Written) → Wrote (section_of op) w → Back op o w → Placed st.section (section_of op) (length st.job.cmds) → width op ≤ length s
        → Tells (bytes_to st.section st.job) ((form op).byte ∷ take (width op) s) (settle (section_of op) (enter w st.job))
    by w r back_none p l = tells_refuse 6
    by w r (back_row e) p l =
        subst (λ x. Tells (bytes_to st.section st.job) x (settle (section_of op) (enter w st.job)))
        (ap command_bytes e ∙ ap (λ x. (form op).byte ∷ x) (operands_back (operands op) s h l))
        (entered (section_of op) w r st.section st.job i p)

    at : (a : Bool) → misplaced st (section_of op) ≡ a → (b : Bool) → ltb (length s) (width op) ≡ b → (c : Bool)
        → Tells (bytes_to st.section st.job) ((form op).byte ∷ take (width op) s)
        (cond a (refuse 3) (cond b (refuse 4) (cond c (refuse 5) (settle (section_of op) (enter (written op (fields (operands op) s)) st.job)))))
    at true x b y c = tells_refuse 3
    at false x true y c = tells_refuse 4
    at false x false y true = tells_refuse 5
    at false x false y false = by (written op o) (wrote op o) (row_back op o (fields_length (operands op) s)) (placed st (section_of op) x) (ltb-false (length s) (width op) y)

-- Reading

no_read : {X : Type 0} {r : Refusal} {J : Job} → refused r ≡ read J → X
no_read e = absurd (let z : ◌≡◌ {A = ℕ} 0 1 = cc in omega arith)

-- at the end nothing is left
nothing_left : (pos : ℕ) (s : List ℕ) (J K : Job) → ended pos s K ≡ read J → (s ≡ []) × (K ≡ J)
unfolding ended
nothing_left pos [] J K e = (refl, cc)
nothing_left pos (b ∷ s) J K e = no_read e

-- from any state
back_from : (f pos : ℕ) (st : State) (s : List ℕ) → Bytes s → Sofar st.section st.job → (J : Job) → read_from f pos st s ≡ read J → bytes_to st.section st.job ++ s ≡ job_bytes J
unfolding read_from on_op op_of onward
back_from zero pos st s h i J e = no_read e
back_from (suc f) pos st [] h i J e = no_read e
back_from (suc f) pos st (b ∷ s) h i J e = at (op_of b) refl e (λ op next g j. back_from f (pos + 1 + width op) next (drop (width op) s) (bytes_drop (width op) s (λ n. h (suc n))) g J j)
  where
    p : List ℕ
    p = bytes_to st.section st.job

    went : (op : Op) → (form op).byte ≡ b → (t : Step) → StepOk t → Tells p ((form op).byte ∷ take (width op) s) t
        → ((next : State) → Sofar next.section next.job → read_from f (pos + 1 + width op) next (drop (width op) s) ≡ read J → bytes_to next.section next.job ++ drop (width op) s ≡ job_bytes J)
        → onward t pos s (λ next. read_from f (pos + 1 + width op) next (drop (width op) s)) ≡ read J → p ++ (b ∷ s) ≡ job_bytes J
    went op q t (step_refuse n) l g r = no_read r
    went op q t (step_proceed next j) (tells_proceed m z) g r =
        ap (λ x. p ++ (x ∷ s)) (sym q) ∙ ap (λ x. p ++ ((form op).byte ∷ x)) (sym (take-append-drop (width op) s)) ∙ sym (append_assoc p ((form op).byte ∷ take (width op) s) (drop (width op) s))
        ∙ ap (λ x. x ++ drop (width op) s) (sym z) ∙ g next j r
    went op q t (step_finish K j) (tells_finish L z) g r =
        let n = nothing_left (suc pos) s J K r in
        let none_left : take (width op) s ≡ s = ap (take (width op)) n.0 ∙ take-nil (width op) ∙ sym n.0 in
        ap (λ x. p ++ (x ∷ s)) (sym q) ∙ ap (λ x. p ++ ((form op).byte ∷ x)) (sym none_left) ∙ sym z ∙ ap job_bytes n.1

    at : (o : Option Op) → op_of b ≡ o → on_op o pos (λ op. onward (command op s st) pos s (λ next. read_from f (pos + 1 + width op) next (drop (width op) s))) ≡ read J
        → ((op : Op) (next : State) → Sofar next.section next.job → read_from f (pos + 1 + width op) next (drop (width op) s) ≡ read J → bytes_to next.section next.job ++ drop (width op) s ≡ job_bytes J)
        → p ++ (b ∷ s) ≡ job_bytes J
    at none q r g = no_read r
    at (some op) q r g = went op (sym (op_byte b op q)) (command op s st) (step_ok op s st i) (command_tells op s (λ n. h (suc n)) st i) (g op) r

-- the bytes of a job that is read are those that it was read from
pub bytes_back : (s : List ℕ) (J : Job) → Bytes s → reading s ≡ read J → job_bytes J ≡ s
unfolding reading bytes_to flat_map
bytes_back s J h e = sym (back_from (suc (length s)) 0 (record { section = 0; job = no_job }) s h at_start J e)

-- so reading is injective on jobs
pub read_once : (s t : List ℕ) (J : Job) → Bytes s → Bytes t → reading s ≡ read J → reading t ≡ read J → s ≡ t
read_once s t J h l e f = sym (bytes_back s J h e) ∙ bytes_back t J l f
