-- A thread's part of the words, lent and put back: it holds what was left in it, and every other part is as it was.
use mathlib.Core.Path.{◌≡◌, refl, sym, ap, ◌∙◌}
use Prim.Native.Nat.{ℕ, zero, suc, ◌+◌, ◌-◌, ◌*◌, ◌≤◌, ◌<◌}
use native.Mathlib.Omega.{arith}
use mathlib.Core.Bool.{Bool, true, false}
use mathlib.Core.List.{List, [], ◌∷◌, ◌++◌}
use lib.ListN.{length, length-take, take, drop}
use lib.Seq.{drop_at, drop-drop}
use lib.Dec.{ltb}
use borrow.Author.Tests.{ltb-true, ltb-false}
use borrow.Rule.Slice.PartMut.{mid_of, post_of, put_mid, take_put, drop_put}
use Rattle.machine.specs.Scheduled.{part_of}

take_front : (ys zs : List ℕ) (n : ℕ) → length ys ≡ n → take n (ys ++ zs) ≡ ys
take_front [] zs zero h = refl
take_front [] zs (suc n) h = absurd (omega arith)
take_front (y ∷ ys) zs zero h = absurd (omega arith)
take_front (y ∷ ys) zs (suc n) h = ap (λ l. y ∷ l) (take_front ys zs n (omega arith))

-- a part before place a is that of what lies before a
take_within : (a b n : ℕ) (l : List ℕ) → b + n ≤ a → take n (drop b (take a l)) ≡ take n (drop b l)
take_within a b zero l h = refl
take_within zero b (suc n) l h = absurd (omega arith)
take_within (suc a) zero (suc n) [] h = refl
take_within (suc a) zero (suc n) (x ∷ l) h = ap (λ m. x ∷ m) (take_within a zero n l (omega arith))
take_within (suc a) (suc b) (suc n) [] h = refl
take_within (suc a) (suc b) (suc n) (x ∷ l) h = take_within a b (suc n) l (omega arith)

-- what is lent to thread i
pub part_is : (i : ℕ) (xs : List ℕ) → part_of xs i ≡ mid_of (i * 1542) ((i + 1) * 1542 - i * 1542) xs
unfolding part_of
part_is i xs = let h : (i + 1) * 1542 - i * 1542 ≡ 1542 = omega arith in ap (λ k. take k (drop (i * 1542) xs)) (sym h)

module _ (i : ℕ) (xs ys : List ℕ) (hi : i < 8) (hx : length xs ≡ 12336) (hy : length ys ≡ 1542) where
  abbrev put : List ℕ
  put = put_mid (i * 1542) ((i + 1) * 1542 - i * 1542) xs ys

  pub part_here : part_of put i ≡ ys
  unfolding part_of
  part_here =
      let l : length (take (i * 1542) xs) ≡ i * 1542 = omega (arith, length-take (i * 1542) xs, hx, hi) in
      ap (take 1542) (drop_at (take (i * 1542) xs) (ys ++ post_of (i * 1542) ((i + 1) * 1542 - i * 1542) xs) (i * 1542) l)
      ∙ take_front ys (post_of (i * 1542) ((i + 1) * 1542 - i * 1542) xs) 1542 hy

  pub part_there : (j : ℕ) → (j ≡ i → ⊥) → part_of put j ≡ part_of xs j
  unfolding part_of
  part_there j n = at (ltb j i) refl
    where
      at : (b : Bool) → ltb j i ≡ b → take 1542 (drop (j * 1542) put) ≡ take 1542 (drop (j * 1542) xs)
      at true e =
          let h : j * 1542 + 1542 ≤ i * 1542 = omega (arith, ltb-true j i e) in
          sym (take_within (i * 1542) (j * 1542) 1542 put h)
          ∙ ap (λ l. take 1542 (drop (j * 1542) l)) (take_put (i * 1542) ((i + 1) * 1542 - i * 1542) xs ys (omega (arith, hx, hi)))
          ∙ take_within (i * 1542) (j * 1542) 1542 xs h
      at false e =
          let h : i < j = omega (arith, ltb-false j i e, n) in
          let q : j * 1542 ≡ (i + 1) * 1542 + (j - (i + 1)) * 1542 = omega (arith, h) in
          let d : drop ((i + 1) * 1542) put ≡ drop ((i + 1) * 1542) xs = drop_put (i * 1542) ((i + 1) * 1542) xs ys (omega arith) (omega (arith, hx, hi)) (omega (arith, hy)) in
          ap (λ k. take 1542 (drop k put)) q
          ∙ ap (take 1542) (sym (drop-drop ((j - (i + 1)) * 1542) ((i + 1) * 1542) put) ∙ ap (drop ((j - (i + 1)) * 1542)) d ∙ drop-drop ((j - (i + 1)) * 1542) ((i + 1) * 1542) xs)
          ∙ ap (λ k. take 1542 (drop k xs)) (sym q)
