-- Comparison of two entries by their words: kinds first, then keys, then what the kind has.
use mathlib.Core.Path.{◌≡◌, refl, sym}
use Prim.Native.Nat.{ℕ, ◌/◌, ◌%◌}
use native.Mathlib.Omega.{arith}
use mathlib.Core.Bool.{Bool, true, false, cond}
use mathlib.Core.Logic.{◌≢◌}
use mathlib.Core.Option.{none}
use lib.Dec.{eqb}
use borrow.Author.Tests.{eqb-true, eqb-false, ne_eqb}
use Rattle.order.specs.Bools.{◌and◌}
use Rattle.order.specs.Effects.{Effect, of_word}
use Rattle.syntax.specs.Words.{entry_bits}
use Rattle.typing.specs.Entries.{if_num, if_pair, if_cell, if_fn, if_lim, if_grant, level_by}
use Rattle.equality.specs.Known.{leaf_by, leaves_of}

-- the kinds of entry
data Kind : ℕ → Type 0 where
  k_num : Kind 0x10
  k_pair : Kind 0x11
  k_cell : Kind 0x12
  k_fn : Kind 0x13
  k_lim : Kind 0x14
  k_grant : Kind 0x15
  k_none : {k : ℕ} → k ≢ 0x10 → k ≢ 0x11 → k ≢ 0x12 → k ≢ 0x13 → k ≢ 0x14 → k ≢ 0x15 → Kind k

kind_of : (k : ℕ) → Kind k
kind_of k = at0 (eqb k 0x10) refl
  where
    at5 : k ≢ 0x10 → k ≢ 0x11 → k ≢ 0x12 → k ≢ 0x13 → k ≢ 0x14 → (b : Bool) → eqb k 0x15 ≡ b → Kind k
    at5 n0 n1 n2 n3 n4 true e = rw (eqb-true k 0x15 e) k_grant
    at5 n0 n1 n2 n3 n4 false e = k_none n0 n1 n2 n3 n4 (eqb-false k 0x15 e)

    at4 : k ≢ 0x10 → k ≢ 0x11 → k ≢ 0x12 → k ≢ 0x13 → (b : Bool) → eqb k 0x14 ≡ b → Kind k
    at4 n0 n1 n2 n3 true e = rw (eqb-true k 0x14 e) k_lim
    at4 n0 n1 n2 n3 false e = at5 n0 n1 n2 n3 (eqb-false k 0x14 e) (eqb k 0x15) refl

    at3 : k ≢ 0x10 → k ≢ 0x11 → k ≢ 0x12 → (b : Bool) → eqb k 0x13 ≡ b → Kind k
    at3 n0 n1 n2 true e = rw (eqb-true k 0x13 e) k_fn
    at3 n0 n1 n2 false e = at4 n0 n1 n2 (eqb-false k 0x13 e) (eqb k 0x14) refl

    at2 : k ≢ 0x10 → k ≢ 0x11 → (b : Bool) → eqb k 0x12 ≡ b → Kind k
    at2 n0 n1 true e = rw (eqb-true k 0x12 e) k_cell
    at2 n0 n1 false e = at3 n0 n1 (eqb-false k 0x12 e) (eqb k 0x13) refl

    at1 : k ≢ 0x10 → (b : Bool) → eqb k 0x11 ≡ b → Kind k
    at1 n0 true e = rw (eqb-true k 0x11 e) k_pair
    at1 n0 false e = at2 n0 (eqb-false k 0x11 e) (eqb k 0x12) refl

    at0 : (b : Bool) → eqb k 0x10 ≡ b → Kind k
    at0 true e = rw (eqb-true k 0x10 e) k_num
    at0 false e = at1 (eqb-false k 0x10 e) (eqb k 0x11) refl

back : {k n : ℕ} → k ≢ n → n ≢ k
back h e = h (sym e)

-- A test of an entry where it is of a kind, by its word

module _ (q a b s : ℕ) where
  bits_none : {l : ℕ} → l ≢ 0x10 → l ≢ 0x11 → l ≢ 0x12 → l ≢ 0x13 → l ≢ 0x14 → l ≢ 0x15 → entry_bits l q a b s ≡ none
  unfolding entry_bits
  bits_none {l} n0 n1 n2 n3 n4 n5 = simp (ne_eqb l 0x10 n0, ne_eqb l 0x11 n1, ne_eqb l 0x12 n2, ne_eqb l 0x13 n3, ne_eqb l 0x14 n4, ne_eqb l 0x15 n5)

  if_num_lem : {l : ℕ} → Kind l → (f : ℕ → Bool) → if_num (entry_bits l q a b s) f ≡ cond (eqb 0x10 l) (f q) false
  unfolding entry_bits if_num
  if_num_lem k_num f = refl
  if_num_lem k_pair f = refl
  if_num_lem k_cell f = refl
  if_num_lem k_fn f = refl
  if_num_lem k_lim f = refl
  if_num_lem k_grant f = refl
  if_num_lem {l} (k_none n0 n1 n2 n3 n4 n5) f = rw (bits_none n0 n1 n2 n3 n4 n5, ne_eqb 0x10 l (back n0))

  if_pair_lem : {l : ℕ} → Kind l → (f : ℕ → ℕ → ℕ → Bool) → if_pair (entry_bits l q a b s) f ≡ cond (eqb 0x11 l) (f q a b) false
  unfolding entry_bits if_pair
  if_pair_lem k_num f = refl
  if_pair_lem k_pair f = refl
  if_pair_lem k_cell f = refl
  if_pair_lem k_fn f = refl
  if_pair_lem k_lim f = refl
  if_pair_lem k_grant f = refl
  if_pair_lem {l} (k_none n0 n1 n2 n3 n4 n5) f = rw (bits_none n0 n1 n2 n3 n4 n5, ne_eqb 0x11 l (back n1))

  if_cell_lem : {l : ℕ} → Kind l → (f : ℕ → ℕ → Bool) → if_cell (entry_bits l q a b s) f ≡ cond (eqb 0x12 l) (f q a) false
  unfolding entry_bits if_cell
  if_cell_lem k_num f = refl
  if_cell_lem k_pair f = refl
  if_cell_lem k_cell f = refl
  if_cell_lem k_fn f = refl
  if_cell_lem k_lim f = refl
  if_cell_lem k_grant f = refl
  if_cell_lem {l} (k_none n0 n1 n2 n3 n4 n5) f = rw (bits_none n0 n1 n2 n3 n4 n5, ne_eqb 0x12 l (back n2))

  if_fn_lem : {l : ℕ} → Kind l → (f : ℕ → ℕ → ℕ → Effect → Bool) → if_fn (entry_bits l q a b s) f ≡ cond (eqb 0x13 l) (f q a b (of_word s)) false
  unfolding entry_bits if_fn
  if_fn_lem k_num f = refl
  if_fn_lem k_pair f = refl
  if_fn_lem k_cell f = refl
  if_fn_lem k_fn f = refl
  if_fn_lem k_lim f = refl
  if_fn_lem k_grant f = refl
  if_fn_lem {l} (k_none n0 n1 n2 n3 n4 n5) f = rw (bits_none n0 n1 n2 n3 n4 n5, ne_eqb 0x13 l (back n3))

  if_lim_lem : {l : ℕ} → Kind l → (f : ℕ → ℕ → Bool) → if_lim (entry_bits l q a b s) f ≡ cond (eqb 0x14 l) (f q (a % 256)) false
  unfolding entry_bits if_lim
  if_lim_lem k_num f = refl
  if_lim_lem k_pair f = refl
  if_lim_lem k_cell f = refl
  if_lim_lem k_fn f = refl
  if_lim_lem k_lim f = refl
  if_lim_lem k_grant f = refl
  if_lim_lem {l} (k_none n0 n1 n2 n3 n4 n5) f = rw (bits_none n0 n1 n2 n3 n4 n5, ne_eqb 0x14 l (back n4))

  if_grant_lem : {l : ℕ} → Kind l → (f : ℕ → ℕ → Bool) → if_grant (entry_bits l q a b s) f ≡ cond (eqb 0x15 l) (f q (a % 256)) false
  unfolding entry_bits if_grant
  if_grant_lem k_num f = refl
  if_grant_lem k_pair f = refl
  if_grant_lem k_cell f = refl
  if_grant_lem k_fn f = refl
  if_grant_lem k_lim f = refl
  if_grant_lem k_grant f = refl
  if_grant_lem {l} (k_none n0 n1 n2 n3 n4 n5) f = rw (bits_none n0 n1 n2 n3 n4 n5, ne_eqb 0x15 l (back n5))

-- Tests joined, as tests one after the other

one : (x : Bool) → x ≡ cond x true false
one true = refl
one false = refl

and_two : (i x y : Bool) → cond i (x and y) false ≡ cond (cond i x false) y false
unfolding ◌and◌
and_two true true y = refl
and_two true false y = refl
and_two false x y = refl

and_three : (i x y z : Bool) → cond i (x and y and z) false ≡ cond (cond i x false) (cond y z false) false
unfolding ◌and◌
and_three true true true z = refl
and_three true true false z = refl
and_three true false y z = refl
and_three false x y z = refl

-- the last test may come second
and_four : (i x y z w : Bool) → cond i (x and y and z and w) false ≡ cond (cond i x false) (cond w (cond y z false) false) false
unfolding ◌and◌
and_four true true true true true = refl
and_four true true true true false = refl
and_four true true true false true = refl
and_four true true true false false = refl
and_four true true false z true = refl
and_four true true false z false = refl
and_four true false y z w = refl
and_four false x y z w = refl

pub never : (x : Bool) → false ≡ cond x false false
never true = refl
never false = refl

-- the answer for kind k: the heads, then the kinds with parts, then the leaves
unfoldable pub by_kind : Bool → ℕ → Bool → Bool → Bool → Bool → Bool
by_kind heads k pairs cells functions leaves =
    cond heads
    (cond (eqb k 0x11) pairs
    (cond (eqb k 0x12) cells
    (cond (eqb k 0x13) functions leaves)))
    false

-- the first and the second part of a word, and the name of a limit or grant key
abbrev pub first_of : ℕ → ℕ
first_of w = w / 65536 % 65536

abbrev pub second_of : ℕ → ℕ
second_of w = w / 4294967296 % 65536

pub name_in_first : (w : ℕ) → first_of w % 256 ≡ w / 65536 % 256
name_in_first w = omega arith

-- the answer for the words x and y and their sets s and t
abbrev pub level_of : (ℕ → ℕ → Bool) → (ℕ → ℕ → Bool) → (ℕ → ℕ → Bool) → (ℕ → ℕ → Bool) → (ℕ → ℕ → Bool) → ℕ → ℕ → ℕ → ℕ → Bool
level_of ky ef rec arg eq x y s t =
    by_kind (cond (eqb (x % 256) (y % 256)) (ky (x / 256 % 256) (y / 256 % 256)) false) (x % 256)
    (cond (rec (first_of x) (first_of y)) (rec (second_of x) (second_of y)) false)
    (eq (first_of x) (first_of y))
    (cond (ef s t) (cond (arg (first_of x) (first_of y)) (rec (second_of x) (second_of y)) false) false)
    (leaves_of x y)

-- one level of a comparison by words
module _ (ky : ℕ → ℕ → Bool) (ef : Effect → Effect → Bool) (rec arg eq : ℕ → ℕ → Bool) where
  of_kinds : {k l : ℕ} → Kind k → Kind l → (p a b s q c d t : ℕ)
      → level_by ky ef rec arg eq (entry_bits k p a b s) (entry_bits l q c d t) ≡
      by_kind (cond (eqb k l) (ky p q) false) k (cond (rec a c) (rec b d) false) (eq a c) (cond (ef (of_word s) (of_word t)) (cond (arg a c) (rec b d) false) false) (leaf_by k (eqb (a % 256) (c % 256)))
  unfolding level_by entry_bits by_kind leaf_by
  of_kinds {l = l} k_num h p a b s q c d t = rw (if_num_lem q c d t h (λ r. ky p r)) (one (cond (eqb 0x10 l) (ky p q) false))
  of_kinds {l = l} k_pair h p a b s q c d t = rw (if_pair_lem q c d t h (λ r x y. ky p r and rec a x and rec b y)) (and_three (eqb 0x11 l) (ky p q) (rec a c) (rec b d))
  of_kinds {l = l} k_cell h p a b s q c d t = rw (if_cell_lem q c d t h (λ r x. ky p r and eq a x)) (and_two (eqb 0x12 l) (ky p q) (eq a c))
  of_kinds {l = l} k_fn h p a b s q c d t = rw (if_fn_lem q c d t h (λ r x y u. ky p r and arg a x and rec b y and ef (of_word s) u)) (and_four (eqb 0x13 l) (ky p q) (arg a c) (rec b d) (ef (of_word s) (of_word t)))
  of_kinds {l = l} k_lim h p a b s q c d t = rw (if_lim_lem q c d t h (λ r x. ky p r and eqb (a % 256) x)) (and_two (eqb 0x14 l) (ky p q) (eqb (a % 256) (c % 256)))
  of_kinds {l = l} k_grant h p a b s q c d t = rw (if_grant_lem q c d t h (λ r x. ky p r and eqb (a % 256) x)) (and_two (eqb 0x15 l) (ky p q) (eqb (a % 256) (c % 256)))
  of_kinds {k} {l} (k_none n0 n1 n2 n3 n4 n5) h p a b s q c d t =
      simp (ne_eqb k 0x10 n0, ne_eqb k 0x11 n1, ne_eqb k 0x12 n2, ne_eqb k 0x13 n3, ne_eqb k 0x14 n4, ne_eqb k 0x15 n5)
      (never (cond (eqb k l) (ky p q) false))

  pub of_words : (x y s t : ℕ)
      → level_by ky ef rec arg eq (entry_bits (x % 256) (x / 256 % 256) (first_of x) (second_of x) s) (entry_bits (y % 256) (y / 256 % 256) (first_of y) (second_of y) t) ≡ level_of ky (λ i j. ef (of_word i) (of_word j)) rec arg eq x y s t
  of_words x y s t = rw (← name_in_first x, ← name_in_first y) (of_kinds (kind_of (x % 256)) (kind_of (y % 256)) _ _ _ _ _ _ _ _)
