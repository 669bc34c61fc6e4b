-- The names in each declared type: the pass over the type table finds those of its tree. 0 is left out: it is in scope everywhere.
use Rattle.std.specs.Prelude.{◌≡◌, refl, Bool, true, false, cond, ◌||◌, List, [], ◌∷◌, ◌++◌, ◌≢◌, length, get_or, set, replicate, eqb}
use Rattle.std.proofs.Math.Path.{sym, ap, ap₂}
use Rattle.std.proofs.Common.{◌∙◌, arith, length-set, get_or-set_same, get_or-set_other}
use Prim.Native.Nat.{ℕ, zero, suc, ◌+◌, ◌/◌, ◌%◌, ◌≤◌, ◌<◌}
use Rattle.std.proofs.Math.Option.{some}
use Rattle.std.proofs.Math.ListN.{get_elem?}
use Rattle.std.proofs.lemmas.List.{length-replicate}
use Rattle.std.specs.Int.Bits.{bit_or}
use borrow.Author.Tests.{ltb-true, eqb-true, eqb-false}
use Rattle.order.proofs.Bools.{and_l, and_r}
use Rattle.order.specs.Sets.{bit, some_of}
use Rattle.order.proofs.SetLaws.{bool_ext, bit_or_lem, bit_pow}
use Rattle.order.specs.Effects.{Effect, names}
use Rattle.order.proofs.NameSetLaws.{name_bit, bit_name}
use Rattle.syntax.specs.Types.{Ty, names_in, TypeEntry, e_num, e_pair, e_cell, e_fn, e_lim, e_grant, entry_tree, tree}
use Rattle.syntax.specs.Job.{Name}
use Rattle.syntax.specs.Reading.{declared, parts_ok}
use Rattle.syntax.specs.Words.{type_bits, type_word, set_word}
use Rattle.syntax.specs.Tree.{mem_b}
use Rattle.syntax.proofs.Scope.{mem_b→, →mem_b}
use Rattle.syntax.specs.ReadLaws.{TypesOk}
use Rattle.syntax.proofs.ReadFormed.{entry_parts, tree_at}
use Rattle.names.specs.Ancestors.{one_of}
use Rattle.tree.specs.Passes.{type_names, masks_from, masks_by}
use Rattle.names.proofs.Bits.{one_of_lem}
use Rattle.uses.specs.Binders.{mem_b_cons, mem_b_app}

one_all : (q n : ℕ) → q < 64 → bit (one_of q) n ≡ eqb n q
one_all q n h = ap (λ (x : ℕ). bit x n) (one_of_lem q h) ∙ bit_pow q n

set_names_lem : (s : Effect) (n : ℕ) → n ≢ 0 → bit s.set n ≡ mem_b n (names s)
unfolding names
set_names_lem s n h = bool_ext (bit s.set n) (mem_b n (names s)) (λ e. →mem_b n (names s) (bit_name s.set e h)) (λ e. (name_bit s.set (mem_b→ n (names s) e)).0)

-- the fields of a type's word
record Fields (w byte q a b : ℕ) : Type 0 where
  at_byte : w % 256 ≡ byte
  at_key : w / 256 % 256 ≡ q
  at_first : w / 65536 % 65536 ≡ a
  at_second : w / 4294967296 % 65536 ≡ b
  at_name : w / 65536 % 256 ≡ a

fields : (byte q a b : ℕ) → byte < 256 → q < 256 → a < 256 → b < 256 → Fields (type_bits byte q a b) byte q a b
fields byte q a b h k l m = record { at_byte = omega arith; at_key = omega arith; at_first = omega arith; at_second = omega arith; at_name = omega arith }

unfoldable names_by : ℕ → ℕ → ℕ → ℕ → ℕ → ℕ → List ℕ → ℕ
names_by byte q a b r s m =
    cond (eqb byte 0x11) (bit_or (one_of q) (bit_or (get_or m a 0) (get_or m b 0)))
    (cond (eqb byte 0x12) (bit_or (one_of q) (get_or m a 0))
    (cond (eqb byte 0x13) (bit_or (one_of q) (bit_or (bit_or (get_or m a 0) (get_or m b 0)) s))
    (cond (eqb byte 0x14) (bit_or (one_of q) (one_of r))
    (cond (eqb byte 0x15) (bit_or (one_of q) (one_of r))
    (one_of q)))))

by_fields : {w byte q a b : ℕ} → Fields w byte q a b → (s : ℕ) (m : List ℕ) → type_names w s m ≡ names_by byte q a b a s m
unfolding type_names names_by
by_fields {w} {byte} {q} {a} {b} x s m =
    ap₂ (λ (c q : ℕ). names_by c q (w / 65536 % 65536) (w / 4294967296 % 65536) (w / 65536 % 256) s m) x.at_byte x.at_key
    ∙ ap₂ (λ (a b : ℕ). names_by byte q a b (w / 65536 % 256) s m) x.at_first x.at_second
    ∙ ap (λ (r : ℕ). names_by byte q a b r s m) x.at_name

or_three : (a b c : Bool) → ((a || b) || c) ≡ (a || (b || c))
or_three true b c = refl
or_three false b c = refl

name_lt : (ds : List Name) (q : ℕ) → 2 + length ds ≤ 64 → declared ds q ≡ true → q < 64
unfolding declared
name_lt ds q h e = omega (arith, ltb-true q (2 + length ds) e)

or_false : (a : Bool) → (a || false) ≡ a
or_false true = refl
or_false false = refl

single : (n q : ℕ) → mem_b n (q ∷ []) ≡ eqb n q
unfolding mem_b some_of
single n q = mem_b_cons n q [] ∙ or_false (eqb n q)

-- two names
two : (n q r : ℕ) → q < 64 → r < 64 → bit (bit_or (one_of q) (one_of r)) n ≡ mem_b n (q ∷ r ∷ [])
unfolding mem_b some_of
two n q r k l =
    bit_or_lem n (one_of q) (one_of r)
    ∙ ap₂ (λ (u v : Bool). u || v) (one_all q n k) (one_all r n l ∙ sym (or_false (eqb n r)) ∙ sym (mem_b_cons n r []))
    ∙ sym (mem_b_cons n q (r ∷ []))

-- an entry's names, where those of the entries before it are right
module _ (ds : List Name) (few : 2 + length ds ≤ 64) (T : ℕ → Ty) (m : List ℕ) (n : ℕ) (some_name : n ≢ 0) where
  entry_names : (i : ℕ) → i ≤ 256 → ((a : ℕ) → a < i → bit (get_or m a 0) n ≡ mem_b n (names_in (T a))) → (t : TypeEntry) → parts_ok ds i t ≡ true → bit (type_names (type_word t) (set_word t) m) n ≡ mem_b n (names_in (entry_tree (some t) T))
  unfolding names_by type_word set_word entry_tree names_in parts_ok
  entry_names i h f (e_num q) p =
      let k : q < 64 = name_lt ds q few p in
      ap (λ (x : ℕ). bit x n) (by_fields (fields 0x10 q 0 0 (omega arith) (omega arith) (omega arith) (omega arith)) 0 m) ∙ one_all q n k ∙ sym (single n q)
  entry_names i h f (e_pair q a b) p =
      let k : q < 64 = name_lt ds q few (and_l _ _ (and_l _ _ p)) in
      let x : a < i = ltb-true a i (and_r _ _ (and_l _ _ p)) in
      let y : b < i = ltb-true b i (and_r _ _ p) in
      ap (λ (x : ℕ). bit x n) (by_fields (fields 0x11 q a b (omega arith) (omega arith) (omega arith) (omega arith)) 0 m)
      ∙ bit_or_lem n (one_of q) (bit_or (get_or m a 0) (get_or m b 0))
      ∙ ap₂ (λ (u v : Bool). u || v) (one_all q n k) (bit_or_lem n (get_or m a 0) (get_or m b 0) ∙ ap₂ (λ (u v : Bool). u || v) (f a x) (f b y) ∙ sym (mem_b_app n (names_in (T a)) (names_in (T b))))
      ∙ sym (mem_b_cons n q (names_in (T a) ++ names_in (T b)))
  entry_names i h f (e_cell q a) p =
      let k : q < 64 = name_lt ds q few (and_l _ _ p) in
      let x : a < i = ltb-true a i (and_r _ _ p) in
      ap (λ (x : ℕ). bit x n) (by_fields (fields 0x12 q a 0 (omega arith) (omega arith) (omega arith) (omega arith)) 0 m)
      ∙ bit_or_lem n (one_of q) (get_or m a 0)
      ∙ ap₂ (λ (u v : Bool). u || v) (one_all q n k) (f a x)
      ∙ sym (mem_b_cons n q (names_in (T a)))
  entry_names i h f (e_fn q a b s) p =
      let k : q < 64 = name_lt ds q few (and_l _ _ (and_l _ _ (and_l _ _ p))) in
      let x : a < i = ltb-true a i (and_r _ _ (and_l _ _ (and_l _ _ p))) in
      let y : b < i = ltb-true b i (and_r _ _ (and_l _ _ p)) in
      ap (λ (x : ℕ). bit x n) (by_fields (fields 0x13 q a b (omega arith) (omega arith) (omega arith) (omega arith)) s.set m)
      ∙ bit_or_lem n (one_of q) (bit_or (bit_or (get_or m a 0) (get_or m b 0)) s.set)
      ∙ ap₂ (λ (u v : Bool). u || v) (one_all q n k)
      (bit_or_lem n (bit_or (get_or m a 0) (get_or m b 0)) s.set
      ∙ ap₂ (λ (u v : Bool). u || v) (bit_or_lem n (get_or m a 0) (get_or m b 0) ∙ ap₂ (λ (u v : Bool). u || v) (f a x) (f b y)) (set_names_lem s n some_name)
      ∙ or_three (mem_b n (names_in (T a))) (mem_b n (names_in (T b))) (mem_b n (names s))
      ∙ ap (λ (u : Bool). mem_b n (names_in (T a)) || u) (sym (mem_b_app n (names_in (T b)) (names s)))
      ∙ sym (mem_b_app n (names_in (T a)) (names_in (T b) ++ names s)))
      ∙ sym (mem_b_cons n q (names_in (T a) ++ (names_in (T b) ++ names s)))
  entry_names i h f (e_lim q r) p =
      let k : q < 64 = name_lt ds q few (and_l _ _ (and_l _ _ p)) in
      let l : r < 64 = name_lt ds r few (and_r _ _ (and_l _ _ p)) in
      ap (λ (x : ℕ). bit x n) (by_fields (fields 0x14 q r 0 (omega arith) (omega arith) (omega arith) (omega arith)) 0 m) ∙ two n q r k l
  entry_names i h f (e_grant q r) p =
      let k : q < 64 = name_lt ds q few (and_l _ _ (and_l _ _ p)) in
      let l : r < 64 = name_lt ds r few (and_r _ _ (and_l _ _ p)) in
      ap (λ (x : ℕ). bit x n) (by_fields (fields 0x15 q r 0 (omega arith) (omega arith) (omega arith) (omega arith)) 0 m) ∙ two n q r k l

-- the pass

module _ (ds : List Name) (few : 2 + length ds ≤ 64) (ts : List TypeEntry) (ok : TypesOk ds ts) (few_types : length ts ≤ 256) (types sets : List ℕ)
    (type_word_lem : (i : ℕ) (t : TypeEntry) → get_elem? ts i ≡ some t → get_or types i 0 ≡ type_word t)
    (set_word_lem : (i : ℕ) (t : TypeEntry) → get_elem? ts i ≡ some t → get_or sets i 0 ≡ set_word t) where
  at_entry : (m : List ℕ) (i n : ℕ) → n ≢ 0 → i < length ts → ((a : ℕ) → a < i → bit (get_or m a 0) n ≡ mem_b n (names_in (tree ts a)))
      → bit (type_names (get_or types i 0) (get_or sets i 0) m) n ≡ mem_b n (names_in (tree ts i))
  at_entry m i n z h f = at (found ts i h)
    where
      found : (l : List TypeEntry) (j : ℕ) → j < length l → (t : TypeEntry) × (get_elem? l j ≡ some t)
      found [] j k = absurd (omega arith)
      found (t ∷ l) zero k = (t, refl)
      found (t ∷ l) (suc j) k = found l j (omega arith)

      at : (t : TypeEntry) × (get_elem? ts i ≡ some t) → bit (type_names (get_or types i 0) (get_or sets i 0) m) n ≡ mem_b n (names_in (tree ts i))
      at (t, e) =
          ap₂ (λ (w s : ℕ). bit (type_names w s m) n) (type_word_lem i t e) (set_word_lem i t e)
          ∙ entry_names ds few (tree ts) m n z i (omega arith) f t (entry_parts ds ok i t e)
          ∙ ap (λ (T : Ty). mem_b n (names_in T)) (sym (tree_at ds ok i t e))

  from : (f i : ℕ) (m : List ℕ) → i + f ≡ length ts → length m ≡ 256 → ((a n : ℕ) → a < i → n ≢ 0 → bit (get_or m a 0) n ≡ mem_b n (names_in (tree ts a)))
      → (a n : ℕ) → a < length ts → n ≢ 0 → bit (get_or (masks_from types sets i f m) a 0) n ≡ mem_b n (names_in (tree ts a))
  unfolding masks_from
  from zero i m s k g a n h z = g a n (omega arith) z
  from (suc f) i m s k g a n h z =
      from f (i + 1) (set m i x) (omega arith) (length-set m i x ∙ k) step a n h z
    where
      x : ℕ
      x = type_names (get_or types i 0) (get_or sets i 0) m

      step : (b l : ℕ) → b < i + 1 → l ≢ 0 → bit (get_or (set m i x) b 0) l ≡ mem_b l (names_in (tree ts b))
      step b l q y = at (eqb b i) refl
        where
          at : (c : Bool) → eqb b i ≡ c → bit (get_or (set m i x) b 0) l ≡ mem_b l (names_in (tree ts b))
          at true e =
              let v : b ≡ i = eqb-true b i e in
              rw (v, get_or-set_same m i x 0 (omega arith)) (at_entry m i l y (omega arith) (λ d u. g d l u y))
          at false e = let v : b ≢ i = eqb-false b i e in rw (get_or-set_other m i b x 0 v) (g b l (omega arith) y)

  pub masks_are : (a n : ℕ) → a < length ts → n ≢ 0 → bit (get_or (masks_by types sets (length ts)) a 0) n ≡ mem_b n (names_in (tree ts a))
  unfolding masks_by
  masks_are a n h z = from (length ts) 0 (replicate 256 0) (omega arith) (length-replicate {A = ℕ} 256 0) (λ b l q y. absurd (omega arith)) a n h z
