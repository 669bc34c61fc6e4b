-- The types of values in a running machine: as the types of a job, but with keys where those have names. A job's type is read under a map from names to keys.
use Rattle.std.specs.Prelude.{◌≡◌, refl, ℕ}
use Rattle.std.proofs.Common.{ap, ap₂}
use Rattle.std.proofs.Math.Path.{subst}
use mathlib.Core.List.Memᴰ
use mathlib.Core.List.{List, [], ◌∷◌, map, Memᴰ}
use Rattle.order.specs.Order.{Below, here}
use Rattle.order.proofs.OrderLaws.{below_trans}
use Rattle.order.specs.Effects.{Effect, names, EffBelow}
use Rattle.order.proofs.EffectLaws.{eff_each}
use Rattle.syntax.specs.Types.{Ty, num, pair, cell, fn, lim, grant, key_of, rekey}
use Rattle.typing.specs.FreeNames.{At, a_num, a_pair, a_pair1, a_pair2, a_cell, a_cell1, a_fn, a_fn1, a_fn2, a_fn3, a_lim, a_lim1, a_grant, a_grant1}
use Rattle.typing.specs.Subtype.{Sub, s_num, s_pair, s_cell, s_fn, s_lim, s_grant}
use Rattle.semantics.specs.RuntimeTypes.{RSub, RTy, Under, inst, r_cell, r_fn, r_grant, r_lim, r_num, r_pair, rcell, rfn, rgrant, rkey, rlim, rnum, rpair, rrekey}

pub under_refl : {ks L : List ℕ} → Under ks L L
under_refl = record { each = λ k m. (k, m, here) }

pub under_trans : {ks L M N : List ℕ} → Under ks L M → Under ks M N → Under ks L N
under_trans f g = record { each = λ k m. let z = f.each k m in let y = g.each z.0 z.1 in (y.0, y.1, below_trans z.2 y.2) }

pub rsub_refl : {ks : List ℕ} (A : RTy) → RSub ks A A
rsub_refl (rnum p) = r_num here
rsub_refl (rpair p A B) = r_pair here (rsub_refl A) (rsub_refl B)
rsub_refl (rcell p A) = r_cell here (rsub_refl A) (rsub_refl A)
rsub_refl (rfn p A B L) = r_fn here (rsub_refl A) (rsub_refl B) under_refl
rsub_refl (rlim p j) = r_lim here
rsub_refl (rgrant p j) = r_grant here

pub rsub_trans : {ks : List ℕ} (B : RTy) {A C : RTy} → RSub ks A B → RSub ks B C → RSub ks A C
rsub_trans (rnum q) (r_num a) (r_num b) = r_num (below_trans a b)
rsub_trans (rpair q X Y) (r_pair a x y) (r_pair b z w) = r_pair (below_trans a b) (rsub_trans X x z) (rsub_trans Y y w)
rsub_trans (rcell q X) (r_cell a x y) (r_cell b z w) = r_cell (below_trans a b) (rsub_trans X x z) (rsub_trans X w y)
rsub_trans (rfn q X Y L) (r_fn a x y u) (r_fn b z w v) = r_fn (below_trans a b) (rsub_trans X z x) (rsub_trans Y y w) (under_trans u v)
rsub_trans (rlim q j) (r_lim a) (r_lim b) = r_lim (below_trans a b)
rsub_trans (rgrant q j) (r_grant a) (r_grant b) = r_grant (below_trans a b)

pub rsub_key : {ks : List ℕ} {A B : RTy} → RSub ks A B → Below ks (rkey A) (rkey B)
unfolding rkey
rsub_key (r_num a) = a
rsub_key (r_pair a x y) = a
rsub_key (r_cell a x y) = a
rsub_key (r_fn a x y u) = a
rsub_key (r_lim a) = a
rsub_key (r_grant a) = a

pub rsub_rekey : {ks : List ℕ} {A B : RTy} (k : ℕ) → RSub ks A B → RSub ks (rrekey k A) (rrekey k B)
unfolding rrekey
rsub_rekey k (r_num a) = r_num here
rsub_rekey k (r_pair a x y) = r_pair here x y
rsub_rekey k (r_cell a x y) = r_cell here x y
rsub_rekey k (r_fn a x y u) = r_fn here x y u
rsub_rekey k (r_lim a) = r_lim here
rsub_rekey k (r_grant a) = r_grant here

-- a tree of keys that grows
pub rsub_wider : {ks ls : List ℕ} (w : (a b : ℕ) → Below ks a b → Below ls a b) {A B : RTy} → RSub ks A B → RSub ls A B
rsub_wider w (r_num a) = r_num (w _ _ a)
rsub_wider w (r_pair a x y) = r_pair (w _ _ a) (rsub_wider w x) (rsub_wider w y)
rsub_wider w (r_cell a x y) = r_cell (w _ _ a) (rsub_wider w x) (rsub_wider w y)
rsub_wider w (r_fn a x y u) = r_fn (w _ _ a) (rsub_wider w x) (rsub_wider w y) (record { each = λ k m. let z = u.each k m in (z.0, z.1, w _ _ z.2) })
rsub_wider w (r_lim a) = r_lim (w _ _ a)
rsub_wider w (r_grant a) = r_grant (w _ _ a)

-- a monotone map carries subtypes to subtypes
module _ (up ks : List ℕ) (μ : ℕ → ℕ) (mono : (a b : ℕ) → Below up a b → Below ks (μ a) (μ b)) where
  pub under_map : {s t : Effect} → EffBelow up s t → Under ks (map μ (names s)) (map μ (names t))
  under_map {s} {t} f = record { each = λ k m. at k (Memᴰ.of_map μ (names s) m) }
    where
      at : (k : ℕ) → (n : ℕ) × Memᴰ n (names s) × (μ n ≡ k) → (j : ℕ) × Memᴰ j (map μ (names t)) × Below ks k j
      at k z = let y = eff_each f z.0 z.1 in (μ y.0, Memᴰ.map μ y.1, subst (λ t. Below ks t (μ y.0)) z.2 (mono z.0 y.0 y.2))

  pub inst_mono : {A B : Ty} → Sub up A B → RSub ks (inst μ A) (inst μ B)
  unfolding inst
  inst_mono (s_num a) = r_num (mono _ _ a)
  inst_mono (s_pair a x y) = r_pair (mono _ _ a) (inst_mono x) (inst_mono y)
  inst_mono (s_cell a x y) = r_cell (mono _ _ a) (inst_mono x) (inst_mono y)
  inst_mono (s_fn a x y u) = r_fn (mono _ _ a) (inst_mono x) (inst_mono y) (under_map u)
  inst_mono (s_lim {p = p} {q = q} {r = r} a e) = subst (λ (j : ℕ). RSub ks (rlim (μ p) (μ r)) (rlim (μ q) j)) (ap μ e) (r_lim (mono p q a))
  inst_mono (s_grant {p = p} {q = q} {r = r} a e) = subst (λ (j : ℕ). RSub ks (rgrant (μ p) (μ r)) (rgrant (μ q) j)) (ap μ e) (r_grant (mono p q a))

-- maps that agree on the names that stand free in a type read it alike
map_same : (μ ν : ℕ → ℕ) (L : List ℕ) → ((n : ℕ) → Memᴰ n L → μ n ≡ ν n) → map μ L ≡ map ν L
map_same μ ν [] f = refl
map_same μ ν (x ∷ L) f = ap₂ ◌∷◌ (f x (Memᴰ.head refl)) (map_same μ ν L (λ n m. f n (Memᴰ.tail m)))

pub inst_same : (μ ν : ℕ → ℕ) (T : Ty) → ((n : ℕ) → At n T → μ n ≡ ν n) → inst μ T ≡ inst ν T
unfolding inst
inst_same μ ν (num q) f = ap rnum (f q (a_num refl))
inst_same μ ν (pair q A B) f =
    let a = inst_same μ ν A (λ n m. f n (a_pair1 m)) in let b = inst_same μ ν B (λ n m. f n (a_pair2 m)) in
    λ i. rpair (f q (a_pair refl) i) (a i) (b i)
inst_same μ ν (cell q A) f = ap₂ rcell (f q (a_cell refl)) (inst_same μ ν A (λ n m. f n (a_cell1 m)))
inst_same μ ν (fn q A B s) f =
    let a = inst_same μ ν A (λ n m. f n (a_fn1 m)) in let b = inst_same μ ν B (λ n m. f n (a_fn2 m)) in let c = map_same μ ν (names s) (λ n m. f n (a_fn3 m)) in
    λ i. rfn (f q (a_fn refl) i) (a i) (b i) (c i)
inst_same μ ν (lim q r) f = ap₂ rlim (f q (a_lim refl)) (f r (a_lim1 refl))
inst_same μ ν (grant q r) f = ap₂ rgrant (f q (a_grant refl)) (f r (a_grant1 refl))

pub inst_rekey : (μ : ℕ → ℕ) (r : ℕ) (A : Ty) → inst μ (rekey r A) ≡ rrekey (μ r) (inst μ A)
unfolding inst rekey rrekey
inst_rekey μ r (num p) = refl
inst_rekey μ r (pair p A B) = refl
inst_rekey μ r (cell p A) = refl
inst_rekey μ r (fn p A B s) = refl
inst_rekey μ r (lim p s) = refl
inst_rekey μ r (grant p s) = refl

pub inst_key : (μ : ℕ → ℕ) (A : Ty) → rkey (inst μ A) ≡ μ (key_of A)
unfolding inst key_of rkey
inst_key μ (num p) = refl
inst_key μ (pair p A B) = refl
inst_key μ (cell p A) = refl
inst_key μ (fn p A B s) = refl
inst_key μ (lim p s) = refl
inst_key μ (grant p s) = refl
