-- The numbers of a job that is read fit its tables, and an expression is read back from its words.
use Rattle.std.specs.Prelude.{◌≡◌, refl, ℕ, zero, suc, ◌+◌, ◌-◌, ◌*◌, ◌/◌, ◌%◌, ◌^◌, ◌≤◌, ◌<◌, Bool, true, false, cond, ◌⊎◌, length, get_or, set, replicate, take, drop, eqb, ltb}
use Rattle.std.proofs.Common.{sym, ap, ap₂, ◌∙◌, subst, arith, inl, inr, length-append, length-take, get_or-append-add, get_or-drop, ltb-true}
use Rattle.std.proofs.Math.Path.{subst⁻¹}
use Rattle.std.proofs.Math.Nat.{sub-zero, pow-succ', one-le-pow}
use mathlib.Core.List.Memᴰ
use mathlib.Core.List.{List, [], ◌∷◌, ◌++◌, map, flat_map, append_assoc, Memᴰ}
use Rattle.std.proofs.Math.Option.{Option, none, some, none-ne-some, some-injective}
use Rattle.std.proofs.lemmas.List.{length-replicate}
use Rattle.std.proofs.Math.ListN.{get_elem?, get_or-append}
use Rattle.std.proofs.Math.Seq.{set-append_seam}
use Rattle.order.specs.Bools.{◌and◌}
use Rattle.order.proofs.Bools.{and_l, and_r}
use Rattle.order.specs.Sets.{all_of}
use Rattle.order.proofs.SetLaws.{all_of→}
use Rattle.order.specs.Effects.{Effect, of_word, pure}
use Rattle.order.specs.EffectLaws.{Within}
use Rattle.order.proofs.EffectLaws.{within_names}
use Rattle.order.proofs.OrderLaws.{get_elem?_lt, get_elem?_snoc, length_snoc}
use Rattle.syntax.specs.Types.{TypeEntry, e_num, e_pair, e_cell, e_fn, e_lim, e_grant}
use Rattle.syntax.specs.Commands.{Cmd, c_num, c_top, c_var, c_pair, c_part, c_fn, c_app, c_new, c_asg, c_read, c_sum, c_test, c_lim, c_grant, c_newkey, c_assoc, c_access, c_divide, c_spawn}
use Rattle.syntax.specs.Commands.{Op, o_host, o_local, o_number, o_pair, o_cell, o_function, o_limit, o_grant, o_value, o_rights, o_end, op_of, operands, width, section_of, little, fields}
use Rattle.syntax.specs.Commands.{x_number, x_top, x_variable, x_pair, x_part, x_function, x_apply, x_cell, x_assign, x_read, x_sum, x_test, x_limit, x_grant, x_newkey, x_associate, x_access, x_divide, x_spawn}
use Rattle.syntax.specs.Commands.{r_count, r_number, form, allowed, row}
use Rattle.syntax.specs.Operands.{nth, wanted, of_roles, plain, inner, children, types_of, uses_var, binds_var, binds_name}
use Rattle.syntax.specs.RowLaws.{among}
use Rattle.syntax.proofs.RowLaws.{roles_among}
use Rattle.syntax.specs.Job.{Name, HostValue, Job}
use Rattle.syntax.specs.Reading.{Refusal, State, declared, local_name, set_ok, name_ok, parts_ok, type_ok, host_value_ok, rights_ok, cmd_ok}
use Rattle.syntax.specs.Reading.{Written, w_name, w_type, w_value, w_rights, w_cmd, w_end, unwritten, means, written, given, enter, misplaced, full}
use Rattle.syntax.specs.Reading.{Step, refuse, proceed, finish, settle, command, Read, refused, read, ended, onward, on_op, read_from, no_job, reading}
use Rattle.syntax.specs.Words.{value_word, head_bits, head_word, filled, slots, value_words, head_words, slot_words, effect_words, decode, code_in}
use Rattle.syntax.specs.ReadLaws.{JobOk}
use Rattle.syntax.proofs.ReadLaws.{built_at, read_ok}
use Rattle.syntax.specs.ReadFormed.{CmdFormed}
use Rattle.syntax.proofs.ReadFormed.{declared_lt, nth_at, entry_parts, cmds_formed}
use Rattle.syntax.specs.WrittenLaws.{numbers_in, numbers_of}
use Rattle.syntax.specs.WordLaws.{Bytes, CmdFits, InWords, JobFits, Narrow, Slim, TypeFits, ValueFits, t_cell, t_fn, t_grant, t_lim, t_num, t_pair}

-- a list that is filled up with zeros has the same entries, and 0 past them
pub zeros_at : (k i : ℕ) → ◌≡◌ {A = ℕ} (get_or (replicate k 0) i 0) 0
zeros_at zero i = refl
zeros_at (suc k) zero = refl
zeros_at (suc k) (suc i) = zeros_at k i

padded_at : (l : List ℕ) (k i : ℕ) → get_or (l ++ replicate k 0) i 0 ≡ get_or l i 0
padded_at [] k i = zeros_at k i
padded_at (x ∷ l) k zero = refl
padded_at (x ∷ l) k (suc i) = padded_at l k i

pub filled_at : (n : ℕ) (l : List ℕ) (i : ℕ) → get_or (filled n 0 l) i 0 ≡ get_or l i 0
unfolding filled
filled_at n l i = padded_at l (n - length l) i

-- nothing is used yet
pub filled_none : (n : ℕ) → filled n 0 [] ≡ replicate n 0
unfolding filled
filled_none n = ap (λ (k : ℕ). replicate k 0) (sub-zero n)

-- a store just past what is used is one entry more
-- an effect is read back from its word
pub effect_back : (n : ℕ) (l : List Effect) (i : ℕ) → of_word (get_or (filled n 0 (effect_words l)) i 0) ≡ get_or l i pure
effect_back n l i = ap of_word (filled_at n (effect_words l) i) ∙ at l i
  where
    at : (l : List Effect) (i : ℕ) → of_word (get_or (effect_words l) i 0) ≡ get_or l i pure
    at [] i = refl
    at (s ∷ l) zero = refl
    at (s ∷ l) (suc i) = at l i

pub filled_set : (n : ℕ) (l : List ℕ) (i x : ℕ) → length l < n → i ≡ length l → set (filled n 0 l) i x ≡ filled n 0 (l ++ (x ∷ []))
unfolding filled
filled_set n l i x h e =
    let z : n - length l ≡ suc (n - suc (length l)) = omega arith in
    ap₂ (λ (k j : ℕ). set (l ++ replicate k 0) j x) z e
    ∙ set-append_seam l 0 (replicate (n - suc (length l)) 0) x
    ∙ sym (append_assoc l (x ∷ []) (replicate (n - length (l ++ (x ∷ []))) 0) ∙ ap (λ (k : ℕ). l ++ x ∷ replicate (n - k) 0) (length_snoc l x))

-- a zero more is no change
pub filled_zero : (n : ℕ) (l : List ℕ) → length l < n → filled n 0 (l ++ (0 ∷ [])) ≡ filled n 0 l
unfolding filled
filled_zero n l h =
    let z : n - length l ≡ suc (n - length (l ++ (0 ∷ []))) = omega (arith, length_snoc l 0) in
    append_assoc l (0 ∷ []) (replicate (n - length (l ++ (0 ∷ []))) 0) ∙ ap (λ (k : ℕ). l ++ replicate k 0) (sym z)

-- the length that was asked for
pub filled_length : (n : ℕ) (l : List ℕ) → length l ≤ n → length (filled n 0 l) ≡ n
unfolding filled
filled_length n l h = omega (arith, length-append l (replicate (n - length l) 0), length-replicate {A = ℕ} (n - length l) 0)

-- a table of words, filled up with zeros: the word of each entry, and 0 past them
module _ {A : Type 0} (f : A → ℕ) where
  pub map_at : (l : List A) (i : ℕ) (a : A) → get_elem? l i ≡ some a → get_or (map f l) i 0 ≡ f a
  map_at [] i a e = absurd (none-ne-some a e)
  map_at (x ∷ l) zero a e = ap f (some-injective x a e)
  map_at (x ∷ l) (suc i) a e = map_at l i a e

  pub map_past : (l : List A) (i : ℕ) → get_elem? l i ≡ none → get_or (map f l) i 0 ≡ 0
  map_past [] i e = refl
  map_past (x ∷ l) zero e = absurd (none-ne-some x (sym e))
  map_past (x ∷ l) (suc i) e = map_past l i e

  pub word_at : (n : ℕ) (l : List A) (i : ℕ) (a : A) → get_elem? l i ≡ some a → get_or (filled n 0 (map f l)) i 0 ≡ f a
  word_at n l i a e = filled_at n (map f l) i ∙ map_at l i a e

  pub word_past : (n : ℕ) (l : List A) (i : ℕ) → get_elem? l i ≡ none → get_or (filled n 0 (map f l)) i 0 ≡ 0
  word_past n l i e = filled_at n (map f l) i ∙ map_past l i e

-- Expressions read back

-- the parts of a head
head_parts : (byte x a b c d e : ℕ) → byte < 256 → x < 4294967296 → decode (head_bits byte x % 256) (head_bits byte x / 256 % 4294967296) a b c d e ≡ decode byte x a b c d e
head_parts byte x a b c d e h k =
    let w : ℕ = head_bits byte x in
    let y : w % 256 ≡ byte = low w (omega arith) in
    let z : w / 256 % 4294967296 ≡ x = ap (λ n. n % 4294967296) (high w (omega arith)) ∙ small in
    λ i. decode (y i) (z i) a b c d e
  where
    low : (w : ℕ) → w ≡ byte + 256 * x → w % 256 ≡ byte
    low w e = omega arith

    high : (w : ℕ) → w ≡ byte + 256 * x → w / 256 ≡ x
    high w e = omega arith

    small : x % 4294967296 ≡ x
    small = omega arith

pub low_byte : (r : ℕ) → r < 256 → r % 256 ≡ r
low_byte r h = omega arith

two_low : (v r : ℕ) → v < 256 → (v + 256 * r) % 256 ≡ v
two_low v r h = omega arith

two_high : (v r : ℕ) → v < 256 → r < 256 → (v + 256 * r) / 256 % 256 ≡ r
two_high v r h k = let z : (v + 256 * r) / 256 ≡ r = omega arith in ap (λ n. n % 256) z ∙ low_byte r k

first : {a : ℕ} {l : List ℕ} → Memᴰ a (a ∷ l)
first = Memᴰ.head refl

pub in_words : (k : Cmd ℕ) → CmdFits k → InWords k
unfolding head_word slots decode uses_var binds_var binds_name of_roles numbers_in row written all_of operands ◌and◌
in_words (c_num n) f = let h = f.number n first in record { back = head_parts 0x30 n 0 0 0 0 0 (omega arith) h; five = refl; writes = refl; wide = refl }
in_words c_top f = record { back = head_parts 0x31 0 0 0 0 0 0 (omega arith) (omega arith); five = refl; writes = refl; wide = refl }
in_words (c_var v) f =
    let h = f.used_variable v first in record { back = head_parts 0x32 v 0 0 0 0 0 (omega arith) (omega arith) ∙ ap c_var (low_byte v (omega arith)); five = refl; writes = refl; wide = refl }
in_words (c_pair a b) f = record { back = head_parts 0x33 0 a b 0 0 0 (omega arith) (omega arith); five = refl; writes = refl; wide = refl }
in_words (c_part a true) f = record { back = head_parts 0x34 1 a 0 0 0 0 (omega arith) (omega arith); five = refl; writes = refl; wide = refl }
in_words (c_part a false) f = record { back = head_parts 0x34 2 a 0 0 0 0 (omega arith) (omega arith); five = refl; writes = refl; wide = refl }
in_words (c_fn v t b) f =
    let h = f.bound_variable v first in
    record { back = head_parts 0x35 v b t 0 0 0 (omega arith) (omega arith) ∙ ap (λ n. c_fn n t b) (low_byte v (omega arith)); five = refl; writes = refl; wide = refl }
in_words (c_app a b) f = record { back = head_parts 0x36 0 a b 0 0 0 (omega arith) (omega arith); five = refl; writes = refl; wide = refl }
in_words (c_new t a) f = record { back = head_parts 0x37 0 a t 0 0 0 (omega arith) (omega arith); five = refl; writes = refl; wide = refl }
in_words (c_asg a b) f = record { back = head_parts 0x38 0 a b 0 0 0 (omega arith) (omega arith); five = refl; writes = refl; wide = refl }
in_words (c_read a) f = record { back = head_parts 0x39 0 a 0 0 0 0 (omega arith) (omega arith); five = refl; writes = refl; wide = refl }
in_words (c_sum true a b) f = record { back = head_parts 0x3A 0 a b 0 0 0 (omega arith) (omega arith); five = refl; writes = refl; wide = refl }
in_words (c_sum false a b) f = record { back = head_parts 0x3A 1 a b 0 0 0 (omega arith) (omega arith); five = refl; writes = refl; wide = refl }
in_words (c_test a b c t) f = record { back = head_parts 0x3B 0 a b c t 0 (omega arith) (omega arith); five = refl; writes = refl; wide = refl }
in_words (c_lim [] b) f = record { back = head_parts 0x3C 0 0xFFFF 0xFFFF 0xFFFF 0xFFFF b (omega arith) (omega arith); five = refl; writes = refl; wide = refl }
in_words (c_lim (x ∷ []) b) f = record { back = head_parts 0x3C 1 x 0xFFFF 0xFFFF 0xFFFF b (omega arith) (omega arith); five = refl; writes = refl; wide = refl }
in_words (c_lim (x ∷ y ∷ []) b) f = record { back = head_parts 0x3C 2 x y 0xFFFF 0xFFFF b (omega arith) (omega arith); five = refl; writes = refl; wide = refl }
in_words (c_lim (x ∷ y ∷ z ∷ []) b) f = record { back = head_parts 0x3C 3 x y z 0xFFFF b (omega arith) (omega arith); five = refl; writes = refl; wide = refl }
in_words (c_lim (x ∷ y ∷ z ∷ w ∷ []) b) f = record { back = head_parts 0x3C 4 x y z w b (omega arith) (omega arith); five = refl; writes = refl; wide = refl }
in_words (c_lim (x ∷ y ∷ z ∷ w ∷ u ∷ ks) b) f = absurd (omega (arith, f.few_keys _ first))
in_words (c_grant a b) f = record { back = head_parts 0x3D 0 a b 0 0 0 (omega arith) (omega arith); five = refl; writes = refl; wide = refl }
in_words (c_newkey v r a b t) f =
    let h = f.bound_variable v first in
    let k = f.bound_name_lem r first in
    record {
      back = head_parts 0x3E (v + 256 * r) a b t 0 0 (omega arith) (omega arith) ∙ (λ i. c_newkey (two_low v r (omega arith) i) (two_high v r (omega arith) (omega arith) i) a b t);
      five = refl;
      writes = refl;
      wide = refl;
    }
in_words (c_assoc a b) f = record { back = head_parts 0x3F 0 a b 0 0 0 (omega arith) (omega arith); five = refl; writes = refl; wide = refl }
in_words (c_access a b c t) f = record { back = head_parts 0x40 0 a b c t 0 (omega arith) (omega arith); five = refl; writes = refl; wide = refl }
in_words (c_divide a b) f = record { back = head_parts 0x41 0 a b 0 0 0 (omega arith) (omega arith); five = refl; writes = refl; wide = refl }
in_words (c_spawn b) f = record { back = head_parts 0x42 0 b 0 0 0 0 (omega arith) (omega arith); five = refl; writes = refl; wide = refl }

-- the numbers of an expression's operands write it
pub numbers_write : (k : Cmd ℕ) → CmdFits k → written (row k).op (numbers_of k) ≡ w_cmd k
numbers_write k f = (in_words k f).writes

pub numbers_wide : (k : Cmd ℕ) → CmdFits k → length (numbers_of k) ≡ length (operands (row k).op)
numbers_wide k f = (in_words k f).wide

-- from any tables that hold its words
pub decode_back : (heads places : List ℕ) (e : ℕ) (k : Cmd ℕ) → CmdFits k → get_or heads e 0 ≡ head_word k → ((i : ℕ) → i < 5 → get_or places (e * 5 + i) 0 ≡ get_or (slots k) i 0)
    → code_in heads places e ≡ k
unfolding code_in
decode_back heads places e k f h p =
    let z : e * 5 ≡ e * 5 + 0 = omega arith in
    let a = ap (λ i. get_or places i 0) z ∙ p 0 (omega arith) in
    (λ i. decode (h i % 256) (h i / 256 % 4294967296) (a i) (p 1 (omega arith) i) (p 2 (omega arith) i) (p 3 (omega arith) i) (p 4 (omega arith) i)) ∙ (in_words k f).back

-- a head that is 0 stands for the number 0
pub decode_past : (heads places : List ℕ) (e : ℕ) → get_or heads e 0 ≡ 0 → code_in heads places e ≡ c_num 0
unfolding code_in decode
decode_past heads places e h =
    λ i. decode (h i % 256) (h i / 256 % 4294967296) (get_or places (e * 5) 0) (get_or places (e * 5 + 1) 0) (get_or places (e * 5 + 2) 0) (get_or places (e * 5 + 3) 0) (get_or places (e * 5 + 4) 0)

-- each expression has five places
pub slots_length : (k : Cmd ℕ) → CmdFits k → length (slots k) ≡ 5
slots_length k f = (in_words k f).five

-- so 0x3C has four keys at most
pub slots_few : (ks : List ℕ) (b : ℕ) → length (slots (c_lim ks b)) ≡ 5 → length ks ≤ 4
unfolding slots
slots_few ks b h =
    let u : List ℕ = replicate (4 - length ks) 0xFFFF in
    omega (arith, h, length-append ((ks ++ (u ++ (b ∷ []))) ++ []) (replicate (5 - length ((ks ++ (u ++ (b ∷ []))) ++ [])) 0), length-append (ks ++ (u ++ (b ∷ []))) [], length-append ks (u ++ (b ∷ [])), length-append u (b ∷ []))

-- the places of expression e; past the end zeros, as of the number 0
pub slots_at : (l : List (Cmd ℕ)) → ((e : ℕ) → CmdFits (nth l e)) → (e i : ℕ) → i < 5 → get_or (flat_map slots l) (e * 5 + i) 0 ≡ get_or (slots (nth l e)) i 0
unfolding flat_map nth
slots_at [] f e i h = sym (unfold slots filled in zeros_at 5 i)
slots_at (k ∷ l) f zero i h =
    let z : zero * 5 + i ≡ i = omega arith in
    ap (λ n. get_or (slots k ++ flat_map slots l) n 0) z ∙ get_or-append (slots k) (flat_map slots l) 0 i (omega (arith, slots_length k (f 0)))
slots_at (k ∷ l) f (suc e) i h =
    let z : suc e * 5 + i ≡ length (slots k) + (e * 5 + i) = omega (arith, slots_length k (f 0)) in
    ap (λ n. get_or (slots k ++ flat_map slots l) n 0) z ∙ get_or-append-add (slots k) (flat_map slots l) (e * 5 + i) 0 ∙ slots_at l (λ x. f (suc x)) e i h

-- the head of expression e, and past the end 0
pub heads_at : (l : List (Cmd ℕ)) (e : ℕ) → (get_or (map head_word l) e 0 ≡ head_word (nth l e)) ⊎ ((get_or (map head_word l) e 0 ≡ 0) × (nth l e ≡ c_num 0))
unfolding nth
heads_at [] e = inr (refl, refl)
heads_at (k ∷ l) zero = inl refl
heads_at (k ∷ l) (suc e) = heads_at l e

-- the expressions of a job, from the tables that hold them, filled up with zeros to any length
pub code_back : (J : Job) → JobOk J → JobFits J → (n m e : ℕ) → code_in (filled n 0 (head_words J)) (filled m 0 (slot_words J)) e ≡ nth J.cmds e
code_back J j f n m e = at (heads_at J.cmds e)
  where
    place : (i : ℕ) → i < 5 → get_or (filled m 0 (slot_words J)) (e * 5 + i) 0 ≡ get_or (slots (nth J.cmds e)) i 0
    place i h = filled_at m (slot_words J) (e * 5 + i) ∙ slots_at J.cmds f.cmds e i h

    at : (get_or (head_words J) e 0 ≡ head_word (nth J.cmds e)) ⊎ ((get_or (head_words J) e 0 ≡ 0) × (nth J.cmds e ≡ c_num 0))
        → code_in (filled n 0 (head_words J)) (filled m 0 (slot_words J)) e ≡ nth J.cmds e
    at (inl z) = decode_back _ _ e _ (f.cmds e) (filled_at n (head_words J) e ∙ z) place
    at (inr z) = decode_past _ _ e (filled_at n (head_words J) e ∙ z.0) ∙ sym z.1

-- Bytes

pub bytes_drop : (n : ℕ) (s : List ℕ) → Bytes s → Bytes (drop n s)
bytes_drop n s h i = omega (arith, get_or-drop n s i 0, h (n + i))

-- an operand of k bytes
pub little_lt : (k : ℕ) (s : List ℕ) → Bytes s → little (take k s) < 256 ^ k
unfolding little
little_lt zero s h = omega arith
little_lt (suc k) [] h = omega (arith, one-le-pow (suc k) 256 (omega arith))
little_lt (suc k) (b ∷ s) h = omega (arith, pow-succ' 256 k, h 0, little_lt k s (λ i. h (suc i)))

-- Reading

data Thin : Written → Type 0 where
  thin_name : (d : Name) → Thin (w_name d)
  thin_type : (e : TypeEntry) → Thin (w_type e)
  thin_value : (h : HostValue ℕ) → h.init < 4294967296 → Thin (w_value h)
  thin_rights : (s : Effect) → Thin (w_rights s)
  thin_cmd : (k : Cmd ℕ) → Narrow k → Thin (w_cmd k)
  thin_end : Thin w_end
  thin_none : Thin unwritten

-- neither a number nor keys
narrow_plain : (k : Cmd ℕ) → of_roles (r_number ∷ r_count ∷ []) k ≡ [] → Narrow k
unfolding among wanted ◌and◌
narrow_plain k e = record { number = λ n m. none (roles_among (r_number ∷ []) (r_number ∷ r_count ∷ []) refl k m); few_keys = λ c m. none (roles_among (r_count ∷ []) (r_number ∷ r_count ∷ []) refl k m) }
  where
    none : {A : Type 0} {n : ℕ} → Memᴰ n (of_roles (r_number ∷ r_count ∷ []) k) → A
    none {n = n} m = absurd (Memᴰ.not-nil (subst (λ l. Memᴰ n l) e m))

thin_plain : (k : Cmd ℕ) → of_roles (r_number ∷ r_count ∷ []) k ≡ [] → Thin (w_cmd k)
thin_plain k e = thin_cmd k (narrow_plain k e)

-- at most four keys
thin_limit : (c : ℕ) (l : List ℕ) (b : ℕ) → Thin (w_cmd (c_lim (take c (take 4 l)) b))
unfolding of_roles
thin_limit c l b = thin_cmd (c_lim (take c (take 4 l)) b) (record { number = λ n m. absurd (Memᴰ.not-nil m); few_keys = λ n m. omega (arith, Memᴰ.eq_of_singleton m, length-take c (take 4 l), length-take 4 l) })

thin_means : (op : Op) (s : List ℕ) → Bytes s → Thin (means op (fields (operands op) s))
unfolding means fields operands of_roles
thin_means o_host s h = thin_name _
thin_means o_local s h = thin_name _
thin_means o_number s h = thin_type _
thin_means o_pair s h = thin_type _
thin_means o_cell s h = thin_type _
thin_means o_function s h = thin_type _
thin_means o_limit s h = thin_type _
thin_means o_grant s h = thin_type _
thin_means o_value s h = thin_value _ (little_lt 4 (drop 2 s) (bytes_drop 2 s h))
thin_means o_rights s h = thin_rights _
thin_means x_number s h = thin_cmd (c_num (little (take 4 s))) (record { number = λ n m. omega (arith, Memᴰ.eq_of_singleton m, little_lt 4 s h); few_keys = λ c m. absurd (Memᴰ.not-nil m) })
thin_means x_top s h = thin_plain _ refl
thin_means x_variable s h = thin_plain _ refl
thin_means x_pair s h = thin_plain _ refl
thin_means x_part s h = thin_plain _ refl
thin_means x_function s h = thin_plain _ refl
thin_means x_apply s h = thin_plain _ refl
thin_means x_cell s h = thin_plain _ refl
thin_means x_assign s h = thin_plain _ refl
thin_means x_read s h = thin_plain _ refl
thin_means x_sum s h = thin_plain _ refl
thin_means x_test s h = thin_plain _ refl
thin_means x_limit s h = let o = fields (operands x_limit) s in thin_limit (get_or o 0 0) (drop 1 o) (get_or o 5 0)
thin_means x_grant s h = thin_plain _ refl
thin_means x_newkey s h = thin_plain _ refl
thin_means x_associate s h = thin_plain _ refl
thin_means x_access s h = thin_plain _ refl
thin_means x_divide s h = thin_plain _ refl
thin_means x_spawn s h = thin_plain _ refl
thin_means o_end s h = thin_end

thin_op : (op : Op) (s : List ℕ) → Bytes s → Thin (written op (fields (operands op) s))
unfolding written
thin_op op s h = at (allowed (form op).roles (fields (operands op) s))
  where
    at : (b : Bool) → Thin (cond b (means op (fields (operands op) s)) unwritten)
    at true = thin_means op s h
    at false = thin_none

-- what one command comes to, what reading comes to
data SlimStep : Step → Type 0 where
  slim_refuse : (n : ℕ) → SlimStep (refuse n)
  slim_proceed : (st : State) → Slim st.job → SlimStep (proceed st)
  slim_finish : (J : Job) → Slim J → SlimStep (finish J)

data SlimRead : Read → Type 0 where
  slim_refused : (r : Refusal) → SlimRead (refused r)
  slim_read : (J : Job) → Slim J → SlimRead (read J)

slim_settle : (sec : ℕ) (J : Job) → Slim J → (b : Bool) → SlimStep (settle sec (given b J))
unfolding settle given
slim_settle sec J i false = slim_refuse 6
slim_settle sec J i true = at (eqb sec 5)
  where
    at : (c : Bool) → SlimStep (cond c (finish J) (proceed (record { section = sec; job = J })))
    at true = slim_finish J i
    at false = slim_proceed (record { section = sec; job = J }) i

slim_enter : (sec : ℕ) (w : Written) → Thin w → (J : Job) → Slim J → SlimStep (settle sec (enter w J))
unfolding enter settle given
slim_enter sec w (thin_name d) J i = slim_settle sec _ (record { values = i.values; cmds = i.cmds }) (name_ok J.names d)
slim_enter sec w (thin_type e) J i = slim_settle sec _ (record { values = i.values; cmds = i.cmds }) (type_ok J.names J.types e)
slim_enter sec w (thin_value h l) J i = slim_settle sec _ (record { values = λ n x e. at n x (get_elem?_snoc J.values h n x e); cmds = i.cmds }) (host_value_ok J.names J.types h)
  where
    at : (n : ℕ) (x : HostValue ℕ) → (get_elem? J.values n ≡ some x) ⊎ ((n ≡ length J.values) × (h ≡ x)) → x.init < 4294967296
    at n x (inl z) = i.values n x z
    at n x (inr z) = subst (λ (v : HostValue ℕ). v.init < 4294967296) z.1 l
slim_enter sec w (thin_rights s) J i = slim_settle sec _ (record { values = i.values; cmds = i.cmds }) (rights_ok J.names s)
slim_enter sec w (thin_cmd k l) J i = slim_settle sec _ (record { values = i.values; cmds = λ n x e. at n x (get_elem?_snoc J.cmds k n x e) }) (cmd_ok J k)
  where
    at : (n : ℕ) (x : Cmd ℕ) → (get_elem? J.cmds n ≡ some x) ⊎ ((n ≡ length J.cmds) × (k ≡ x)) → Narrow x
    at n x (inl z) = i.cmds n x z
    at n x (inr z) = subst (λ v. Narrow v) z.1 l
slim_enter sec w thin_end J i = slim_settle sec J i true
slim_enter sec w thin_none J i = slim_refuse 6

slim_command : (op : Op) (s : List ℕ) → Bytes s → (st : State) → Slim st.job → SlimStep (command op s st)
unfolding command
slim_command op s h st i = at (misplaced st (section_of op)) (ltb (length s) (width op)) (full st.job (section_of op))
  where
    at : (a b c : Bool) → SlimStep (cond a (refuse 3) (cond b (refuse 4) (cond c (refuse 5) (settle (section_of op) (enter (written op (fields (operands op) s)) st.job)))))
    at true b c = slim_refuse 3
    at false true c = slim_refuse 4
    at false false true = slim_refuse 5
    at false false false = slim_enter (section_of op) (written op (fields (operands op) s)) (thin_op op s h) st.job i

slim_onward : (t : Step) → SlimStep t → (pos : ℕ) (s : List ℕ) (next : State → Read) → ((st : State) → Slim st.job → SlimRead (next st)) → SlimRead (onward t pos s next)
unfolding onward ended
slim_onward t (slim_refuse n) pos s next f = slim_refused _
slim_onward t (slim_proceed st i) pos s next f = f st i
slim_onward t (slim_finish J i) pos [] next f = slim_read J i
slim_onward t (slim_finish J i) pos (b ∷ s) next f = slim_refused _

slim_from : (f pos : ℕ) (st : State) (s : List ℕ) → Bytes s → Slim st.job → SlimRead (read_from f pos st s)
unfolding read_from on_op
slim_from zero pos st s h i = slim_refused _
slim_from (suc f) pos st [] h i = slim_refused _
slim_from (suc f) pos st (b ∷ s) h i = at (op_of b) (λ op next j. slim_from f (pos + 1 + width op) next (drop (width op) s) (bytes_drop (width op) s rest) j)
  where
    rest : Bytes s
    rest k = h (suc k)

    at : (o : Option Op) → ((op : Op) (next : State) → Slim next.job → SlimRead (read_from f (pos + 1 + width op) next (drop (width op) s)))
        → SlimRead (on_op o pos (λ op. onward (command op s st) pos s (λ next. read_from f (pos + 1 + width op) next (drop (width op) s))))
    at none g = slim_refused _
    at (some op) g = slim_onward (command op s st) (slim_command op s rest st i) pos s (λ next. read_from f (pos + 1 + width op) next (drop (width op) s)) (λ next j. g op next j)

slim_done : {r : Read} → SlimRead r → (J : Job) → r ≡ read J → Slim J
slim_done (slim_refused q) J e = absurd (let z : ◌≡◌ {A = ℕ} 0 1 = cc in omega arith)
slim_done (slim_read K i) J e = let z : K ≡ J = cc in subst (λ j. Slim j) z i

read_slim : (s : List ℕ) (J : Job) → Bytes s → reading s ≡ read J → Slim J
unfolding reading
read_slim s J h e = slim_done (slim_from (suc (length s)) 0 (record { section = 0; job = no_job }) s h start) J e
  where
    start : Slim no_job
    start = record { values = λ i x z. absurd (none-ne-some x z); cmds = λ i x z. absurd (none-ne-some x z) }

-- The ranges of a job that is read

-- a set of declared names
set_lt : (ds : List Name) (s : Effect) → 2 + length ds ≤ 64 → set_ok ds s ≡ true → Within 64 s
unfolding set_ok declared
set_lt ds s h e = within_names 64 s (omega arith) (λ i m. omega (arith, ltb-true i (2 + length ds) (all_of→ (λ q. ltb q (2 + length ds)) (and_l _ _ e) m)))

name_lt : (ds : List Name) (q : ℕ) → 2 + length ds ≤ 64 → declared ds q ≡ true → q < 64
name_lt ds q h e = omega (arith, declared_lt ds q e)

part_lt : (a n : ℕ) → n < 256 → ltb a n ≡ true → a < 256
part_lt a n h e = omega (arith, ltb-true a n e)

type_fits : (ds : List Name) (n : ℕ) (x : TypeEntry) → 2 + length ds ≤ 64 → n < 256 → parts_ok ds n x ≡ true → TypeFits x
unfolding parts_ok
type_fits ds n (e_num q) h k e = t_num (name_lt ds q h e)
type_fits ds n (e_pair q a b) h k e = t_pair (name_lt ds q h (and_l _ _ (and_l _ _ e))) (part_lt a n k (and_r _ _ (and_l _ _ e))) (part_lt b n k (and_r _ _ e))
type_fits ds n (e_cell q a) h k e = t_cell (name_lt ds q h (and_l _ _ e)) (part_lt a n k (and_r _ _ e))
type_fits ds n (e_fn q a b s) h k e =
    let l = and_l _ _ e in t_fn (name_lt ds q h (and_l _ _ (and_l _ _ l))) (part_lt a n k (and_r _ _ (and_l _ _ l))) (part_lt b n k (and_r _ _ l)) (set_lt ds s h (and_r _ _ e))
type_fits ds n (e_lim q r) h k e = t_lim (name_lt ds q h (and_l _ _ (and_l _ _ e))) (name_lt ds r h (and_r _ _ (and_l _ _ e)))
type_fits ds n (e_grant q r) h k e = t_grant (name_lt ds q h (and_l _ _ (and_l _ _ e))) (name_lt ds r h (and_r _ _ (and_l _ _ e)))

cmd_fits : {ds : List Name} {types values e : ℕ} (k : Cmd ℕ) → CmdFormed ds types values e k → 2 + length ds ≤ 64 → types ≤ 256 → e ≤ 512 → Narrow k → CmdFits k
unfolding local_name
cmd_fits {ds} k w d t n x =
    record {
      operand = λ c m. omega (arith, w.operand c m);
      type_operand = λ c m. omega (arith, w.type_operand c m);
      used_variable = w.used_variable;
      bound_variable = λ v m. (w.bound_variable v m).1;
      bound_name_lem = λ r m. name_lt ds r d (and_r _ _ (and_l _ _ (w.bound_name_lem r m)));
      number = x.number;
      few_keys = x.few_keys;
    }

past_fits : CmdFits (c_num 0)
unfolding children plain inner types_of uses_var binds_var binds_name of_roles
past_fits =
    record {
      operand = λ c m. absurd (Memᴰ.not-nil m);
      type_operand = λ c m. absurd (Memᴰ.not-nil m);
      used_variable = λ v m. absurd (Memᴰ.not-nil m);
      bound_variable = λ v m. absurd (Memᴰ.not-nil m);
      bound_name_lem = λ r m. absurd (Memᴰ.not-nil m);
      number = λ n m. omega (arith, Memᴰ.eq_of_singleton m);
      few_keys = λ c m. absurd (Memᴰ.not-nil m);
    }

-- a job that is read from bytes
pub job_fits : (s : List ℕ) (J : Job) → Bytes s → reading s ≡ read J → JobFits J
unfolding name_ok host_value_ok rights_ok
job_fits s J b r =
    record {
      upper = λ i d e. omega (arith, j.few_names, length-take i J.names, declared_lt (take i J.names) d.upper (and_r _ _ (and_l _ _ (built_at _ j.names i d e))));
      types = λ i x e. type_fits J.names i x j.few_names (omega (arith, j.few_types, get_elem?_lt J.types i x e)) (entry_parts J.names j.types i x e);
      values = λ i h e. record { ty = part_le h.ty (length J.types) j.few_types (and_l _ _ (built_at _ j.values i h e)); init = t.values i h e };
      rights = set_lt J.names J.rights j.few_names (and_l _ _ j.rights);
      cmds = λ e. at e (nth_at J.cmds e);
    }
  where
    j : JobOk J
    j = read_ok s J r

    t : Slim J
    t = read_slim s J b r

    part_le : (a n : ℕ) → n ≤ 256 → ltb a n ≡ true → a < 256
    part_le a n h e = omega (arith, ltb-true a n e)

    at : (e : ℕ) → (get_elem? J.cmds e ≡ some (nth J.cmds e)) ⊎ (nth J.cmds e ≡ c_num 0) → CmdFits (nth J.cmds e)
    at e (inl z) =
        cmd_fits (nth J.cmds e) (cmds_formed j e) j.few_names j.few_types (omega (arith, j.few_cmds, get_elem?_lt J.cmds e _ z)) (t.cmds e (nth J.cmds e) z)
    at e (inr z) = subst⁻¹ (λ k. CmdFits k) z past_fits

-- The words themselves

-- a host value's type and starting number
pub value_back : (h : HostValue ℕ) → ValueFits h → (value_word h / 256 % 65536 ≡ h.ty) × (value_word h / 16777216 % 4294967296 ≡ h.init)
unfolding value_word
value_back h f = at h.ty h.init f.ty f.init
  where
    at : (t n : ℕ) → t < 256 → n < 4294967296 → ((0x20 + 256 * t + 16777216 * n) / 256 % 65536 ≡ t) × ((0x20 + 256 * t + 16777216 * n) / 16777216 % 4294967296 ≡ n)
    at t n a b =
        let x : (0x20 + 256 * t + 16777216 * n) / 256 ≡ t + 65536 * n = omega arith in
        let y : (t + 65536 * n) % 65536 ≡ t = omega arith in
        let z : (0x20 + 256 * t + 16777216 * n) / 16777216 ≡ n = omega arith in
        let w : n % 4294967296 ≡ n = omega arith in
        (ap (λ k. k % 65536) x ∙ y, ap (λ k. k % 4294967296) z ∙ w)

-- The tables of a job that fits

module _ (J : Job) (f : JobFits J) where
  -- the type and starting number of a host value, from its table
  pub values_back : (n i : ℕ) (h : HostValue ℕ) → get_elem? J.values i ≡ some h
      → (get_or (filled n 0 (value_words J)) i 0 / 256 % 65536 ≡ h.ty) × (get_or (filled n 0 (value_words J)) i 0 / 16777216 % 4294967296 ≡ h.init)
  values_back n i h e =
      let z = word_at value_word n J.values i h e in
      let b = value_back h (f.values i h e) in
      (ap (λ w. w / 256 % 65536) z ∙ b.0, ap (λ w. w / 16777216 % 4294967296) z ∙ b.1)
