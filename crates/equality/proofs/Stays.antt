-- A comparison that holds still holds when an entry is written where none stood, so what is remembered stays right.
use mathlib.Core.Path.{◌≡◌, refl, sym, ◌∙◌}
use Prim.Native.Nat.{ℕ, zero, suc, ◌/◌, ◌%◌}
use mathlib.Core.Bool.{Bool, true, false, cond, false≢true}
use mathlib.Core.List.{List}
use mathlib.Core.Logic.{◌≢◌}
use lib.ListN.{get_or, set}
use lib.Seq.{get_or-set_other}
use lib.Dec.{eqb}
use borrow.Author.Tests.{eqb-true}
use Rattle.names.specs.Ancestors.{below_by, eff_below_by}
use Rattle.equality.specs.Known.{Known, keys_by, leaf_by, leaves_of, turned_of, relation_of, compared_in}
use Rattle.equality.proofs.Words.{by_kind, level_of, first_of, second_of, never}
use Rattle.equality.specs.declared.Relation.{Relation}
use Rattle.equality.specs.declared.Relation.TheVariants.{Same}
use Rattle.equality.proofs.Known.{level_at, no_levels}

and_true : (p q : Bool) → cond p q false ≡ true → (p ≡ true) × (q ≡ true)
and_true true q h = (refl, h)
and_true false q h = absurd (false≢true h)

and_more : {p q p' q' : Bool} → (p ≡ true → p' ≡ true) → (q ≡ true → q' ≡ true) → cond p q false ≡ true → cond p' q' false ≡ true
and_more {p} {q} f g h = let z = and_true p q h in simp (f z.0, g z.1)

-- a level that holds has heads that compare, and its kind is not 0
heads_hold : (h : Bool) (k : ℕ) (pairs cells functions leaves : Bool) → by_kind h k pairs cells functions leaves ≡ true → h ≡ true
unfolding by_kind
heads_hold h k pairs cells functions leaves e = (and_true h _ e).0

kind_there : (h : Bool) (k : ℕ) (pairs cells functions same : Bool) → by_kind h k pairs cells functions (leaf_by k same) ≡ true → k ≢ 0
unfolding by_kind leaf_by
kind_there h k pairs cells functions same e z = false≢true (never h ∙ (rw z at e))

-- and it holds where more of its parts do
kind_more : (h : Bool) (k : ℕ) {p c f p' c' f' : Bool} (l : Bool) → (p ≡ true → p' ≡ true) → (c ≡ true → c' ≡ true) → (f ≡ true → f' ≡ true)
    → by_kind h k p c f l ≡ true → by_kind h k p' c' f' l ≡ true
unfolding by_kind
kind_more h k {p} {c} {f} {p'} {c'} {f'} l hp hc hf e =
    let z = and_true h _ e in
    simp z.0 (at (eqb k 0x11) (eqb k 0x12) (eqb k 0x13) z.1)
  where
    at : (i j m : Bool) → cond i p (cond j c (cond m f l)) ≡ true → cond i p' (cond j c' (cond m f' l)) ≡ true
    at true j m e = hp e
    at false true m e = hc e
    at false false true e = hf e
    at false false false e = e

-- one test gives what another gives
abbrev More : (ℕ → ℕ → Bool) → (ℕ → ℕ → Bool) → Type 0
More f g = (a b : ℕ) → f a b ≡ true → g a b ≡ true

level_more : (ky ef : ℕ → ℕ → Bool) {rec arg eq rec' arg' eq' : ℕ → ℕ → Bool} → More rec rec' → More arg arg' → More eq eq' → (x y s t : ℕ)
    → level_of ky ef rec arg eq x y s t ≡ true → level_of ky ef rec' arg' eq' x y s t ≡ true
level_more ky ef f g h x y s t =
    kind_more (cond (eqb (x % 256) (y % 256)) (ky (x / 256 % 256) (y / 256 % 256)) false) (x % 256) (leaves_of x y)
    (and_more (f (first_of x) (first_of y)) (f (second_of x) (second_of y))) (h (first_of x) (first_of y))
    (and_more (λ (e : ef s t ≡ true). e) (and_more (g (first_of x) (first_of y)) (f (second_of x) (second_of y))))

module _ (anc types sets : List ℕ) (n w s : ℕ) (free : get_or types n 0 ≡ 0) where
  -- a word of a kind is none of the place that is written
  other : (a : ℕ) → get_or types a 0 % 256 ≢ 0 → a ≢ n
  other a h e = h (rw (e, free))

  stays : (d : ℕ) (r : Relation) (a b : ℕ) → compared_in anc types sets r d a b ≡ true → compared_in anc (set types n w) (set sets n s) r d a b ≡ true
  stays zero r a b h = absurd (false≢true (no_levels anc types sets a b zero refl r ∙ h))
  stays (suc d) r a b h =
      let g = sym (level_at anc types sets r d a b) ∙ h in
      let k = kind_there _ _ _ _ _ _ g in
      let l = eqb-true _ _ (and_true _ _ (heads_hold _ _ _ _ _ _ g)).0 in
      let oa = other a k in
      let ob = other b (λ e. k (l ∙ e)) in
      level_at anc (set types n w) (set sets n s) r d a b
      ∙ rw (get_or-set_other types n a w 0 oa, get_or-set_other types n b w 0 ob, get_or-set_other sets n a s 0 oa, get_or-set_other sets n b s 0 ob)
      (level_more (keys_by (below_by anc) r) (keys_by (eff_below_by anc) r) (λ x y. stays d r x y) (λ x y. stays d (turned_of r) x y) (λ x y. stays d Same x y) (get_or types a 0) (get_or types b 0) (get_or sets a 0) (get_or sets b 0) g)

  pub known_stays : {known : List ℕ} → Known anc types sets known → Known anc (set types n w) (set sets n s) known
  known_stays k = record { holds = λ i r d a b h hd ha hb e. stays d (relation_of r) a b (k.holds i r d a b h hd ha hb e) }
