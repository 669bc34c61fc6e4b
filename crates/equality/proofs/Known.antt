-- A memory of comparisons, and one level of a comparison.
use mathlib.Core.Path.{◌≡◌, refl, ap, sym, subst, ◌∙◌}
use Prim.Native.Nat.{ℕ, zero, suc, ◌-◌, ◌%◌, ◌<◌}
use native.Mathlib.Omega.{arith}
use native.Mathlib.Numerals.{sub-one}
use mathlib.Core.Bool.{Bool, true, false, cond}
use mathlib.Core.List.{List, [], ◌∷◌}
use mathlib.Core.Logic.{◌≢◌, ◌⊎◌, inl, inr, ⊎_elim}
use lib.ListN.{length, get_or, set, replicate}
use lib.Dec.{eqb}
use borrow.Author.Tests.{eqb-true, ne_eqb}
use Rattle.order.specs.Effects.{same_effect}
use Rattle.syntax.specs.Words.{entry_in}
use Rattle.syntax.proofs.WordLaws.{zeros_at}
use Rattle.typing.specs.Entries.{same_in, sub_in}
use Rattle.names.specs.Ancestors.{below_by, eff_below_by, effects_by}
use Rattle.equality.specs.declared.Relation.{Relation}
use Rattle.equality.specs.declared.Relation.TheVariants.{Same, Below, Above}
use Rattle.equality.specs.Known.{Known, number_of, relation_of, word_of, pick, turned_of, keys_by, heads_by, leaves_of, compared_in, pack_of}
use Rattle.equality.proofs.Words.{by_kind, level_of, first_of, second_of, of_words}

-- the number of a relation is its own
pub relation_is : (r : Relation) → relation_of (number_of r) ≡ r
unfolding relation_of number_of
relation_is Same = refl
relation_is Below = refl
relation_is Above = refl

-- one place of a table is written, if it is there
set_at : (t : List ℕ) (i w j : ℕ) → (get_or (set t i w) j 0 ≡ get_or t j 0) ⊎ (get_or (set t i w) j 0 ≡ w)
set_at [] i w j = inl refl
set_at (x ∷ t) zero w zero = inr refl
set_at (x ∷ t) zero w (suc j) = inl refl
set_at (x ∷ t) (suc i) w zero = inl refl
set_at (x ∷ t) (suc i) w (suc j) = set_at t i w j

module _ (anc types sets : List ℕ) where
  -- a memory of words that are 0 knows nothing
  pub known_none : {known : List ℕ} → ((i : ℕ) → get_or known i 0 ≡ 0) → Known anc types sets known
  known_none z = record { holds = λ i rel d a b h hd ha hb e. absurd (h (no rel d a b (sym (z i) ∙ e))) }
    where
      no : (r d a b : ℕ) → 0 ≡ word_of r d a b → d ≡ 0
      no rel d a b e = omega arith

  pub known_cleared : (t : List ℕ) {known : List ℕ} → known ≡ replicate (length t) 0 → Known anc types sets known
  known_cleared t e = known_none (λ i. ap (λ (l : List ℕ). get_or l i 0) e ∙ zeros_at (length t) i)

  -- a comparison w that is remembered holds, and one that holds may be remembered
  module _ {known : List ℕ} (k : Known anc types sets known) (rel : Relation) (d a b : ℕ) (n : d ≢ 0) (hd : d < 256) (ha : a < 65536) (hb : b < 65536) (w i : ℕ) (hw : w ≡ pack_of rel d a b) where
    pub known_found : eqb (get_or known i 0) w ≡ true → compared_in anc types sets rel d a b ≡ true
    known_found e = subst (λ (r : Relation). compared_in anc types sets r d a b ≡ true) (relation_is rel) (k.holds i (number_of rel) d a b n hd ha hb (eqb-true _ _ e ∙ hw))

    pub known_kept : compared_in anc types sets rel d a b ≡ true → Known anc types sets (set known i w)
    known_kept h = record {
      holds = λ j rel' d' a' b' n' hd' ha' hb' e.
          ⊎_elim (λ z. k.holds j rel' d' a' b' n' hd' ha' hb' (sym z ∙ e)) (λ z. at rel' d' a' b' hd' ha' hb' (sym hw ∙ sym z ∙ e)) (set_at known i w j);
    }
      where
        at : (r d' a' b' : ℕ) → d' < 256 → a' < 65536 → b' < 65536 → pack_of rel d a b ≡ word_of r d' a' b' → compared_in anc types sets (relation_of r) d' a' b' ≡ true
        at r d' a' b' hd' ha' hb' e =
            let e3 : number_of rel ≡ r = omega arith in let e2 : d ≡ d' = omega arith in let e1 : b ≡ b' = omega arith in let e0 : a ≡ a' = omega arith in
            rw (← e0, ← e1, ← e2, ← e3, relation_is rel) h

  -- One level of a comparison

  abbrev pub LevelAt : Relation → ℕ → ℕ → ℕ → Type 0
  LevelAt r d a b =
      compared_in anc types sets r (suc d) a b ≡
      level_of (keys_by (below_by anc) r) (keys_by (eff_below_by anc) r) (compared_in anc types sets r d) (compared_in anc types sets (turned_of r) d) (compared_in anc types sets Same d)
      (get_or types a 0) (get_or types b 0) (get_or sets a 0) (get_or sets b 0)

  pub level_at : (r : Relation) (d a b : ℕ) → LevelAt r d a b
  unfolding compared_in keys_by turned_of pick same_in sub_in entry_in
  level_at Same d a b = of_words (λ p q. eqb p q) (λ s t. same_effect s t) _ _ _ (get_or types a 0) (get_or types b 0) (get_or sets a 0) (get_or sets b 0)
  level_at Below d a b = of_words (below_by anc) (effects_by anc) _ _ _ (get_or types a 0) (get_or types b 0) (get_or sets a 0) (get_or sets b 0)
  level_at Above d a b = of_words (λ p q. below_by anc q p) (λ s t. effects_by anc t s) _ _ _ (get_or types a 0) (get_or types b 0) (get_or sets a 0) (get_or sets b 0)

  -- A level of d, by the words x and y of its entries

  module _ (r : Relation) (d a b : ℕ) (n : d ≢ 0) {x : ℕ} (hx : x ≡ get_or types a 0) {y : ℕ} (hy : y ≡ get_or types b 0) {h : Bool} (hh : h ≡ heads_by (below_by anc) r x y) where
    by_words :
        compared_in anc types sets r d a b ≡
        by_kind h (x % 256) (cond (compared_in anc types sets r (d - 1) (first_of x) (first_of y)) (compared_in anc types sets r (d - 1) (second_of x) (second_of y)) false)
        (compared_in anc types sets Same (d - 1) (first_of x) (first_of y))
        (cond (keys_by (eff_below_by anc) r (get_or sets a 0) (get_or sets b 0)) (cond (compared_in anc types sets (turned_of r) (d - 1) (first_of x) (first_of y)) (compared_in anc types sets r (d - 1) (second_of x) (second_of y)) false) false)
        (leaves_of x y)
    unfolding heads_by
    by_words = at d n
      where
        at : (d : ℕ) → d ≢ 0 →
            compared_in anc types sets r d a b ≡
            by_kind h (x % 256) (cond (compared_in anc types sets r (d - 1) (first_of x) (first_of y)) (compared_in anc types sets r (d - 1) (second_of x) (second_of y)) false)
            (compared_in anc types sets Same (d - 1) (first_of x) (first_of y))
            (cond (keys_by (eff_below_by anc) r (get_or sets a 0) (get_or sets b 0)) (cond (compared_in anc types sets (turned_of r) (d - 1) (first_of x) (first_of y)) (compared_in anc types sets r (d - 1) (second_of x) (second_of y)) false) false)
            (leaves_of x y)
        at zero z = absurd (z refl)
        at (suc e) z = rw sub-one (simp (hh, hx, hy) (level_at r e a b))

    pub other_heads : h ≡ false → false ≡ compared_in anc types sets r d a b
    unfolding by_kind
    other_heads f = simp (by_words, f)

    module _ (g : h ≡ true) {k : ℕ} (hk : k ≡ x % 256) where
      pub leaves : k ≢ 0x11 → k ≢ 0x12 → k ≢ 0x13 → {v : Bool} → v ≡ leaves_of x y → v ≡ compared_in anc types sets r d a b
      unfolding by_kind
      leaves n1 n2 n3 hv = hv ∙ sym (simp (by_words, g, ← hk, ne_eqb k 0x11 n1, ne_eqb k 0x12 n2, ne_eqb k 0x13 n3))

      pub other_effects : k ≡ 0x13 → {i j : ℕ} → i ≡ get_or sets a 0 → j ≡ get_or sets b 0 → {w : Bool} → w ≡ keys_by (eff_below_by anc) r i j → w ≡ false → false ≡ compared_in anc types sets r d a b
      unfolding by_kind
      other_effects m hi hj hw f = simp (by_words, g, ← hk, m, ← hi, ← hj, ← hw, f)

      module _ {p q : ℕ} (hp : p ≡ first_of x) (hq : q ≡ first_of y) where
        pub cells : k ≡ 0x12 → {v : Bool} → v ≡ compared_in anc types sets Same (d - 1) p q → v ≡ compared_in anc types sets r d a b
        unfolding by_kind
        cells m hv = simp (by_words, g, ← hk, m, ← hp, ← hq) hv

        -- the first parts of pairs, then the second ones
        module _ (m : k ≡ 0x11) {v : Bool} (hv : v ≡ compared_in anc types sets r (d - 1) p q) where
          pub pairs_first : v ≡ false → false ≡ compared_in anc types sets r d a b
          unfolding by_kind
          pairs_first f = simp (by_words, g, ← hk, m, ← hp, ← hq, ← hv, f)

          pub pairs : v ≡ true → {s t : ℕ} → s ≡ second_of x → t ≡ second_of y → {u : Bool} → u ≡ compared_in anc types sets r (d - 1) s t → u ≡ compared_in anc types sets r d a b
          unfolding by_kind
          pairs f hs ht hu = simp (by_words, g, ← hk, m, ← hp, ← hq, ← hv, f, ← hs, ← ht) hu

        -- effects, the arguments of functions, then the results
        module _ (m : k ≡ 0x13) {i j : ℕ} (hi : i ≡ get_or sets a 0) (hj : j ≡ get_or sets b 0) {w : Bool} (hw : w ≡ keys_by (eff_below_by anc) r i j) (f : w ≡ true)
            {v : Bool} (hv : v ≡ compared_in anc types sets (turned_of r) (d - 1) p q) where
          pub functions_first : v ≡ false → false ≡ compared_in anc types sets r d a b
          unfolding by_kind
          functions_first l = simp (by_words, g, ← hk, m, ← hi, ← hj, ← hw, f, ← hp, ← hq, ← hv, l)

          pub functions : v ≡ true → {s t : ℕ} → s ≡ second_of x → t ≡ second_of y → {u : Bool} → u ≡ compared_in anc types sets r (d - 1) s t → u ≡ compared_in anc types sets r d a b
          unfolding by_kind
          functions l hs ht hu = simp (by_words, g, ← hk, m, ← hi, ← hj, ← hw, f, ← hp, ← hq, ← hv, l, ← hs, ← ht) hu

-- no levels
module _ (anc types sets : List ℕ) (a b d : ℕ) (e : d ≡ 0) where
  pub no_levels : (r : Relation) → false ≡ compared_in anc types sets r d a b
  unfolding compared_in pick same_in sub_in
  no_levels Same = rw e
  no_levels Below = rw e
  no_levels Above = rw e
