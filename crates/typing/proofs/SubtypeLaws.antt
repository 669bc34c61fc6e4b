-- Below is a partial order up to equality of what is written: on names (`here`, `below_trans`, `below_antisym` of OrderLaws), on reduced sets (`eff_refl`, `eff_trans`,
-- `reduced_unique` of EffectLaws) and, here, on types whose sets are reduced (`sub_refl`, `sub_antisym`, `sub_trans`). And the tests of subtypes and of equality say
-- exactly what they are tests of, that of subtypes of types whose sets are reduced.
use Rattle.std.specs.Prelude.{◌≡◌, refl, ℕ, true, List}
use Rattle.std.proofs.Common.{sym, subst, ◌∙◌, eqb-true, eq-eqb}
use Rattle.std.proofs.lemmas.Bool.{false≢true}
use Rattle.order.proofs.Bools.{and_l, and_r, and2, and3, and4}
use Rattle.order.specs.Order.{Below, here}
use Rattle.order.specs.OrderLaws.{Proper}
use Rattle.order.proofs.OrderLaws.{below_trans, below_antisym, below→, →below}
use Rattle.order.proofs.EffectLaws.{same_effect_lem, effect_same, eff_refl, eff_trans, reduced_unique, eff_below→, →eff_below}
use Rattle.syntax.specs.Types.{Ty, num, pair, cell, fn, lim, grant, by_type, on_num, on_pair, on_cell, on_fn, on_lim, on_grant, key_of, rekey}
use Rattle.syntax.specs.Formed.{ReducedTy, r_num, r_pair, r_cell, r_fn, r_lim, r_grant}
use Rattle.typing.specs.Subtype.{Sub, s_num, s_pair, s_cell, s_fn, s_lim, s_grant, same_ty, sub_ty, super_ty}

-- The order of types

pub sub_refl : {up : List ℕ} (A : Ty) → Sub up A A
sub_refl (num p) = s_num here
sub_refl (pair p A B) = s_pair here (sub_refl A) (sub_refl B)
sub_refl (cell p A) = s_cell here (sub_refl A) (sub_refl A)
sub_refl (fn p A B s) = s_fn here (sub_refl A) (sub_refl B) eff_refl
sub_refl (lim p r) = s_lim here refl
sub_refl (grant p r) = s_grant here refl

-- two types with reduced sets, each below the other, are written alike
pub sub_antisym : {up : List ℕ} → Proper up → {A B : Ty} → ReducedTy up A → ReducedTy up B → Sub up A B → Sub up B A → A ≡ B
sub_antisym {up = up} ok (r_num {q = q}) (r_pair {A = A} {B = B} rc rd) x14 _ = elim x14 [ ]
sub_antisym {up = up} ok (r_num {q = q}) (r_cell {A = A} rc) x14 _ = elim x14 [ ]
sub_antisym {up = up} ok (r_num {q = q}) (r_fn {A = A} {B = B} {s = s} rc rd rt) x17 _ = elim x17 [ ]
sub_antisym {up = up} ok (r_num {q = q}) (r_lim {r = r}) x15 _ = elim x15 [ ]
sub_antisym {up = up} ok (r_num {q = q}) (r_grant {r = r}) x16 _ = elim x16 [ ]
sub_antisym {up = up} ok (r_pair {q = q} {A = A} {B = B} ra rb) r_num x13 _ = elim x13 [ ]
sub_antisym {up = up} ok (r_pair {q = q} {A = A} {B = B} ra rb) (r_cell rc) x15 _ = elim x15 [ ]
sub_antisym {up = up} ok (r_pair {q = q} {A = A} {B = B} ra rb) (r_fn {s = s} rc rd rt) x18 _ = elim x18 [ ]
sub_antisym {up = up} ok (r_pair {q = q} {A = A} {B = B} ra rb) (r_lim {r = r}) x16 _ = elim x16 [ ]
sub_antisym {up = up} ok (r_pair {q = q} {A = A} {B = B} ra rb) (r_grant {r = r}) x17 _ = elim x17 [ ]
sub_antisym {up = up} ok (r_cell {q = q} {A = A} ra) r_num x14 _ = elim x14 [ ]
sub_antisym {up = up} ok (r_cell {q = q} {A = A} ra) (r_pair {B = B} rc rd) x17 _ = elim x17 [ ]
sub_antisym {up = up} ok (r_cell {q = q} {A = A} ra) (r_fn {B = B} {s = s} rc rd rt) x19 _ = elim x19 [ ]
sub_antisym {up = up} ok (r_cell {q = q} {A = A} ra) (r_lim {r = r}) x17 _ = elim x17 [ ]
sub_antisym {up = up} ok (r_cell {q = q} {A = A} ra) (r_grant {r = r}) x18 _ = elim x18 [ ]
sub_antisym {up = up} ok (r_fn {q = q} {A = A} {B = B} {s = s} ra rb rs) r_num x15 _ = elim x15 [ ]
sub_antisym {up = up} ok (r_fn {q = q} {A = A} {B = B} {s = s} ra rb rs) (r_pair rc rd) x18 _ = elim x18 [ ]
sub_antisym {up = up} ok (r_fn {q = q} {A = A} {B = B} {s = s} ra rb rs) (r_cell rc) x18 _ = elim x18 [ ]
sub_antisym {up = up} ok (r_fn {q = q} {A = A} {B = B} {s = s} ra rb rs) (r_lim {r = r}) x18 _ = elim x18 [ ]
sub_antisym {up = up} ok (r_fn {q = q} {A = A} {B = B} {s = s} ra rb rs) (r_grant {r = r}) x19 _ = elim x19 [ ]
sub_antisym {up = up} ok (r_lim {q = q} {r = r}) r_num x16 _ = elim x16 [ ]
sub_antisym {up = up} ok (r_lim {q = q} {r = r}) (r_pair {A = A} {B = B} rc rd) x19 _ = elim x19 [ ]
sub_antisym {up = up} ok (r_lim {q = q} {r = r}) (r_cell {A = A} rc) x19 _ = elim x19 [ ]
sub_antisym {up = up} ok (r_lim {q = q} {r = r}) (r_fn {A = A} {B = B} {s = s} rc rd rt) x22 _ = elim x22 [ ]
sub_antisym {up = up} ok (r_lim {q = q} {r = r}) r_grant x20 _ = elim x20 [ ]
sub_antisym {up = up} ok (r_grant {q = q} {r = r}) r_num x17 _ = elim x17 [ ]
sub_antisym {up = up} ok (r_grant {q = q} {r = r}) (r_pair {A = A} {B = B} rc rd) x20 _ = elim x20 [ ]
sub_antisym {up = up} ok (r_grant {q = q} {r = r}) (r_cell {A = A} rc) x20 _ = elim x20 [ ]
sub_antisym {up = up} ok (r_grant {q = q} {r = r}) (r_fn {A = A} {B = B} {s = s} rc rd rt) x23 _ = elim x23 [ ]
sub_antisym {up = up} ok (r_grant {q = q} {r = r}) r_lim x21 _ = elim x21 [ ]
sub_antisym ok r_num r_num (s_num a) (s_num b) = λ i. num (below_antisym ok a b i)
sub_antisym ok (r_pair ra rb) (r_pair rc rd) (s_pair a x y) (s_pair b z w) = λ i. pair (below_antisym ok a b i) (sub_antisym ok ra rc x z i) (sub_antisym ok rb rd y w i)
sub_antisym ok (r_cell ra) (r_cell rc) (s_cell a x y) (s_cell b z w) = λ i. cell (below_antisym ok a b i) (sub_antisym ok ra rc x z i)
sub_antisym ok (r_fn ra rb rs) (r_fn rc rd rt) (s_fn a x y u) (s_fn b z w v) =
    λ i. fn (below_antisym ok a b i) (sub_antisym ok ra rc z x i) (sub_antisym ok rb rd y w i) (reduced_unique ok rs rt u v i)
sub_antisym ok r_lim r_lim (s_lim a e) (s_lim b f) = λ i. lim (below_antisym ok a b i) (e i)
sub_antisym ok r_grant r_grant (s_grant a e) (s_grant b f) = λ i. grant (below_antisym ok a b i) (e i)

-- so "cells compare by equality down to the leaves"
pub cell_equal : {up : List ℕ} → Proper up → {p q : ℕ} {A C : Ty} → ReducedTy up A → ReducedTy up C → Sub up (cell p A) (cell q C) → A ≡ C
cell_equal ok ra rc (s_cell a x y) = sub_antisym ok ra rc x y

pub sub_trans : {up : List ℕ} (B : Ty) {A C : Ty} → Sub up A B → Sub up B C → Sub up A C
sub_trans (num q) (s_num a) (s_num b) = s_num (below_trans a b)
sub_trans (pair q X Y) (s_pair a x y) (s_pair b z w) = s_pair (below_trans a b) (sub_trans X x z) (sub_trans Y y w)
sub_trans (cell q X) (s_cell a x y) (s_cell b z w) = s_cell (below_trans a b) (sub_trans X x z) (sub_trans X w y)
sub_trans (fn q X Y s) (s_fn a x y u) (s_fn b z w v) = s_fn (below_trans a b) (sub_trans X z x) (sub_trans Y y w) (eff_trans u v)
sub_trans (lim q r) (s_lim a e) (s_lim b f) = s_lim (below_trans a b) (e ∙ f)
sub_trans (grant q r) (s_grant a e) (s_grant b f) = s_grant (below_trans a b) (e ∙ f)

-- Keys

pub sub_key : {up : List ℕ} {A B : Ty} → Sub up A B → Below up (key_of A) (key_of B)
unfolding key_of
sub_key (s_num a) = a
sub_key (s_pair a x y) = a
sub_key (s_cell a x y) = a
sub_key (s_fn a x y u) = a
sub_key (s_lim a e) = a
sub_key (s_grant a e) = a

pub sub_rekey : {up : List ℕ} {A B : Ty} (k : ℕ) → Sub up A B → Sub up (rekey k A) (rekey k B)
unfolding rekey
sub_rekey k (s_num a) = s_num here
sub_rekey k (s_pair a x y) = s_pair here x y
sub_rekey k (s_cell a x y) = s_cell here x y
sub_rekey k (s_fn a x y u) = s_fn here x y u
sub_rekey k (s_lim a e) = s_lim here e
sub_rekey k (s_grant a e) = s_grant here e

-- The test of equality

pub same_ty→ : (A B : Ty) → same_ty A B ≡ true → A ≡ B
unfolding same_ty by_type on_num on_pair on_cell on_fn on_lim on_grant
same_ty→ (num p) (num q) e = λ i. num (eqb-true p q e i)
same_ty→ (num p) (pair q C D) e = absurd (false≢true e)
same_ty→ (num p) (cell q C) e = absurd (false≢true e)
same_ty→ (num p) (fn q C D t) e = absurd (false≢true e)
same_ty→ (num p) (lim q t) e = absurd (false≢true e)
same_ty→ (num p) (grant q t) e = absurd (false≢true e)
same_ty→ (pair p A B) (num q) e = absurd (false≢true e)
same_ty→ (pair p A B) (pair q C D) e = λ i. pair (eqb-true p q (and_l _ _ (and_l _ _ e)) i) (same_ty→ A C (and_r _ _ (and_l _ _ e)) i) (same_ty→ B D (and_r _ _ e) i)
same_ty→ (pair p A B) (cell q C) e = absurd (false≢true e)
same_ty→ (pair p A B) (fn q C D t) e = absurd (false≢true e)
same_ty→ (pair p A B) (lim q t) e = absurd (false≢true e)
same_ty→ (pair p A B) (grant q t) e = absurd (false≢true e)
same_ty→ (cell p A) (num q) e = absurd (false≢true e)
same_ty→ (cell p A) (pair q C D) e = absurd (false≢true e)
same_ty→ (cell p A) (cell q C) e = λ i. cell (eqb-true p q (and_l _ _ e) i) (same_ty→ A C (and_r _ _ e) i)
same_ty→ (cell p A) (fn q C D t) e = absurd (false≢true e)
same_ty→ (cell p A) (lim q t) e = absurd (false≢true e)
same_ty→ (cell p A) (grant q t) e = absurd (false≢true e)
same_ty→ (fn p A B s) (num q) e = absurd (false≢true e)
same_ty→ (fn p A B s) (pair q C D) e = absurd (false≢true e)
same_ty→ (fn p A B s) (cell q C) e = absurd (false≢true e)
same_ty→ (fn p A B s) (fn q C D t) e = λ i. fn (eqb-true p q (and_l _ _ (and_l _ _ (and_l _ _ e))) i) (same_ty→ A C (and_r _ _ (and_l _ _ (and_l _ _ e))) i) (same_ty→ B D (and_r _ _ (and_l _ _ e)) i) (same_effect_lem s t (and_r _ _ e) i)
same_ty→ (fn p A B s) (lim q t) e = absurd (false≢true e)
same_ty→ (fn p A B s) (grant q t) e = absurd (false≢true e)
same_ty→ (lim p r) (num q) e = absurd (false≢true e)
same_ty→ (lim p r) (pair q C D) e = absurd (false≢true e)
same_ty→ (lim p r) (cell q C) e = absurd (false≢true e)
same_ty→ (lim p r) (fn q C D t) e = absurd (false≢true e)
same_ty→ (lim p r) (lim q t) e = λ i. lim (eqb-true p q (and_l _ _ e) i) (eqb-true r t (and_r _ _ e) i)
same_ty→ (lim p r) (grant q t) e = absurd (false≢true e)
same_ty→ (grant p r) (num q) e = absurd (false≢true e)
same_ty→ (grant p r) (pair q C D) e = absurd (false≢true e)
same_ty→ (grant p r) (cell q C) e = absurd (false≢true e)
same_ty→ (grant p r) (fn q C D t) e = absurd (false≢true e)
same_ty→ (grant p r) (lim q t) e = absurd (false≢true e)
same_ty→ (grant p r) (grant q t) e = λ i. grant (eqb-true p q (and_l _ _ e) i) (eqb-true r t (and_r _ _ e) i)

same_itself : (T : Ty) → same_ty T T ≡ true
unfolding same_ty by_type on_num on_pair on_cell on_fn on_lim on_grant
same_itself (num p) = eq-eqb p p refl
same_itself (pair p A B) = and3 _ _ _ (eq-eqb p p refl) (same_itself A) (same_itself B)
same_itself (cell p A) = and2 _ _ (eq-eqb p p refl) (same_itself A)
same_itself (fn p A B s) = and4 _ _ _ _ (eq-eqb p p refl) (same_itself A) (same_itself B) (effect_same s)
same_itself (lim p r) = and2 _ _ (eq-eqb p p refl) (eq-eqb r r refl)
same_itself (grant p r) = and2 _ _ (eq-eqb p p refl) (eq-eqb r r refl)

pub →same_ty : {A B : Ty} → A ≡ B → same_ty A B ≡ true
→same_ty {A} e = subst (λ (T : Ty). same_ty A T ≡ true) e (same_itself A)

-- The tests of subtypes

cell_by_lem : {up : List ℕ} {p q : ℕ} {A C : Ty} → Below up p q → A ≡ C → Sub up (cell p A) (cell q C)
cell_by_lem {up} {p} {q} {A} a e = subst (λ t. Sub up (cell p A) (cell q t)) e (s_cell a (sub_refl A) (sub_refl A))

right : (up : List ℕ) (S T : Ty) → (sub_ty up S T ≡ true → Sub up S T) × (super_ty up S T ≡ true → Sub up T S)
unfolding sub_ty by_type on_num on_pair on_cell on_fn on_lim on_grant
right up (num p) (num q) = (λ e. s_num (below→ up p q e), λ e. s_num (below→ up q p e))
right up (num p) (pair q C D) = (λ e. absurd (false≢true e), λ e. absurd (false≢true e))
right up (num p) (cell q C) = (λ e. absurd (false≢true e), λ e. absurd (false≢true e))
right up (num p) (fn q C D t) = (λ e. absurd (false≢true e), λ e. absurd (false≢true e))
right up (num p) (lim q t) = (λ e. absurd (false≢true e), λ e. absurd (false≢true e))
right up (num p) (grant q t) = (λ e. absurd (false≢true e), λ e. absurd (false≢true e))
right up (pair p A B) (num q) = (λ e. absurd (false≢true e), λ e. absurd (false≢true e))
right up (pair p A B) (pair q C D) = (
  λ e. s_pair (below→ up p q (and_l _ _ (and_l _ _ e))) ((right up A C).0 (and_r _ _ (and_l _ _ e))) ((right up B D).0 (and_r _ _ e)),
  λ e. s_pair (below→ up q p (and_l _ _ (and_l _ _ e))) ((right up A C).1 (and_r _ _ (and_l _ _ e))) ((right up B D).1 (and_r _ _ e)),
)
right up (pair p A B) (cell q C) = (λ e. absurd (false≢true e), λ e. absurd (false≢true e))
right up (pair p A B) (fn q C D t) = (λ e. absurd (false≢true e), λ e. absurd (false≢true e))
right up (pair p A B) (lim q t) = (λ e. absurd (false≢true e), λ e. absurd (false≢true e))
right up (pair p A B) (grant q t) = (λ e. absurd (false≢true e), λ e. absurd (false≢true e))
right up (cell p A) (num q) = (λ e. absurd (false≢true e), λ e. absurd (false≢true e))
right up (cell p A) (pair q C D) = (λ e. absurd (false≢true e), λ e. absurd (false≢true e))
right up (cell p A) (cell q C) = (
  λ e. cell_by_lem (below→ up p q (and_l _ _ e)) (same_ty→ A C (and_r _ _ e)),
  λ e. cell_by_lem (below→ up q p (and_l _ _ e)) (sym (same_ty→ A C (and_r _ _ e))),
)
right up (cell p A) (fn q C D t) = (λ e. absurd (false≢true e), λ e. absurd (false≢true e))
right up (cell p A) (lim q t) = (λ e. absurd (false≢true e), λ e. absurd (false≢true e))
right up (cell p A) (grant q t) = (λ e. absurd (false≢true e), λ e. absurd (false≢true e))
right up (fn p A B s) (num q) = (λ e. absurd (false≢true e), λ e. absurd (false≢true e))
right up (fn p A B s) (pair q C D) = (λ e. absurd (false≢true e), λ e. absurd (false≢true e))
right up (fn p A B s) (cell q C) = (λ e. absurd (false≢true e), λ e. absurd (false≢true e))
right up (fn p A B s) (fn q C D t) = (
  λ e. s_fn (below→ up p q (and_l _ _ (and_l _ _ (and_l _ _ e)))) ((right up A C).1 (and_r _ _ (and_l _ _ (and_l _ _ e)))) ((right up B D).0 (and_r _ _ (and_l _ _ e))) (eff_below→ up s t (and_r _ _ e)),
  λ e. s_fn (below→ up q p (and_l _ _ (and_l _ _ (and_l _ _ e)))) ((right up A C).0 (and_r _ _ (and_l _ _ (and_l _ _ e)))) ((right up B D).1 (and_r _ _ (and_l _ _ e))) (eff_below→ up t s (and_r _ _ e)),
)
right up (fn p A B s) (lim q t) = (λ e. absurd (false≢true e), λ e. absurd (false≢true e))
right up (fn p A B s) (grant q t) = (λ e. absurd (false≢true e), λ e. absurd (false≢true e))
right up (lim p r) (num q) = (λ e. absurd (false≢true e), λ e. absurd (false≢true e))
right up (lim p r) (pair q C D) = (λ e. absurd (false≢true e), λ e. absurd (false≢true e))
right up (lim p r) (cell q C) = (λ e. absurd (false≢true e), λ e. absurd (false≢true e))
right up (lim p r) (fn q C D t) = (λ e. absurd (false≢true e), λ e. absurd (false≢true e))
right up (lim p r) (lim q t) = (
  λ e. s_lim (below→ up p q (and_l _ _ e)) (eqb-true r t (and_r _ _ e)),
  λ e. s_lim (below→ up q p (and_l _ _ e)) (sym (eqb-true r t (and_r _ _ e))),
)
right up (lim p r) (grant q t) = (λ e. absurd (false≢true e), λ e. absurd (false≢true e))
right up (grant p r) (num q) = (λ e. absurd (false≢true e), λ e. absurd (false≢true e))
right up (grant p r) (pair q C D) = (λ e. absurd (false≢true e), λ e. absurd (false≢true e))
right up (grant p r) (cell q C) = (λ e. absurd (false≢true e), λ e. absurd (false≢true e))
right up (grant p r) (fn q C D t) = (λ e. absurd (false≢true e), λ e. absurd (false≢true e))
right up (grant p r) (lim q t) = (λ e. absurd (false≢true e), λ e. absurd (false≢true e))
right up (grant p r) (grant q t) = (
  λ e. s_grant (below→ up p q (and_l _ _ e)) (eqb-true r t (and_r _ _ e)),
  λ e. s_grant (below→ up q p (and_l _ _ e)) (sym (eqb-true r t (and_r _ _ e))),
)

-- what the test finds holds
pub sub_ty→ : (up : List ℕ) (A B : Ty) → sub_ty up A B ≡ true → Sub up A B
sub_ty→ up A B = (right up A B).0

complete : {up : List ℕ} → Proper up → {A B : Ty} → ReducedTy up A → ReducedTy up B → Sub up A B → (sub_ty up A B ≡ true) × (super_ty up B A ≡ true)
unfolding sub_ty by_type on_num on_pair on_cell on_fn on_lim on_grant
complete {up = up} ok (r_num {q = q}) (r_pair {A = A} {B = B} rc rd) x15 = elim x15 [ ]
complete {up = up} ok (r_num {q = q}) (r_cell {A = A} rc) x15 = elim x15 [ ]
complete {up = up} ok (r_num {q = q}) (r_fn {A = A} {B = B} {s = s} rc rd rt) x18 = elim x18 [ ]
complete {up = up} ok (r_num {q = q}) (r_lim {r = r}) x16 = elim x16 [ ]
complete {up = up} ok (r_num {q = q}) (r_grant {r = r}) x17 = elim x17 [ ]
complete {up = up} ok (r_pair {q = q} {A = A} {B = B} ra rb) r_num x14 = elim x14 [ ]
complete {up = up} ok (r_pair {q = q} {A = A} {B = B} ra rb) (r_cell rc) x16 = elim x16 [ ]
complete {up = up} ok (r_pair {q = q} {A = A} {B = B} ra rb) (r_fn {s = s} rc rd rt) x19 = elim x19 [ ]
complete {up = up} ok (r_pair {q = q} {A = A} {B = B} ra rb) (r_lim {r = r}) x17 = elim x17 [ ]
complete {up = up} ok (r_pair {q = q} {A = A} {B = B} ra rb) (r_grant {r = r}) x18 = elim x18 [ ]
complete {up = up} ok (r_cell {q = q} {A = A} ra) r_num x15 = elim x15 [ ]
complete {up = up} ok (r_cell {q = q} {A = A} ra) (r_pair {B = B} rc rd) x18 = elim x18 [ ]
complete {up = up} ok (r_cell {q = q} {A = A} ra) (r_fn {B = B} {s = s} rc rd rt) x20 = elim x20 [ ]
complete {up = up} ok (r_cell {q = q} {A = A} ra) (r_lim {r = r}) x18 = elim x18 [ ]
complete {up = up} ok (r_cell {q = q} {A = A} ra) (r_grant {r = r}) x19 = elim x19 [ ]
complete {up = up} ok (r_fn {q = q} {A = A} {B = B} {s = s} ra rb rs) r_num x16 = elim x16 [ ]
complete {up = up} ok (r_fn {q = q} {A = A} {B = B} {s = s} ra rb rs) (r_pair rc rd) x19 = elim x19 [ ]
complete {up = up} ok (r_fn {q = q} {A = A} {B = B} {s = s} ra rb rs) (r_cell rc) x19 = elim x19 [ ]
complete {up = up} ok (r_fn {q = q} {A = A} {B = B} {s = s} ra rb rs) (r_lim {r = r}) x19 = elim x19 [ ]
complete {up = up} ok (r_fn {q = q} {A = A} {B = B} {s = s} ra rb rs) (r_grant {r = r}) x20 = elim x20 [ ]
complete {up = up} ok (r_lim {q = q} {r = r}) r_num x17 = elim x17 [ ]
complete {up = up} ok (r_lim {q = q} {r = r}) (r_pair {A = A} {B = B} rc rd) x20 = elim x20 [ ]
complete {up = up} ok (r_lim {q = q} {r = r}) (r_cell {A = A} rc) x20 = elim x20 [ ]
complete {up = up} ok (r_lim {q = q} {r = r}) (r_fn {A = A} {B = B} {s = s} rc rd rt) x23 = elim x23 [ ]
complete {up = up} ok (r_lim {q = q} {r = r}) r_grant x21 = elim x21 [ ]
complete {up = up} ok (r_grant {q = q} {r = r}) r_num x18 = elim x18 [ ]
complete {up = up} ok (r_grant {q = q} {r = r}) (r_pair {A = A} {B = B} rc rd) x21 = elim x21 [ ]
complete {up = up} ok (r_grant {q = q} {r = r}) (r_cell {A = A} rc) x21 = elim x21 [ ]
complete {up = up} ok (r_grant {q = q} {r = r}) (r_fn {A = A} {B = B} {s = s} rc rd rt) x24 = elim x24 [ ]
complete {up = up} ok (r_grant {q = q} {r = r}) r_lim x22 = elim x22 [ ]
complete ok r_num r_num (s_num a) = (→below ok a, →below ok a)
complete ok (r_pair ra rb) (r_pair rc rd) (s_pair a x y) =
    let z = complete ok ra rc x in let w = complete ok rb rd y in
    (and3 _ _ _ (→below ok a) z.0 w.0, and3 _ _ _ (→below ok a) z.1 w.1)
complete ok (r_cell ra) (r_cell rc) (s_cell a x y) =
    let e = cell_equal ok ra rc (s_cell a x y) in
    (and2 _ _ (→below ok a) (→same_ty e), and2 _ _ (→below ok a) (→same_ty (sym e)))
complete ok (r_fn ra rb rs) (r_fn rc rd rt) (s_fn a x y u) =
    let z = complete ok rc ra x in let w = complete ok rb rd y in
    (and4 _ _ _ _ (→below ok a) z.1 w.0 (→eff_below ok u), and4 _ _ _ _ (→below ok a) z.0 w.1 (→eff_below ok u))
complete ok r_lim r_lim (s_lim {r = r} {s = t} a e) = (and2 _ _ (→below ok a) (eq-eqb r t e), and2 _ _ (→below ok a) (eq-eqb t r (sym e)))
complete ok r_grant r_grant (s_grant {r = r} {s = t} a e) = (and2 _ _ (→below ok a) (eq-eqb r t e), and2 _ _ (→below ok a) (eq-eqb t r (sym e)))

-- what holds of types with reduced sets it finds
pub →sub_ty : {up : List ℕ} → Proper up → {A B : Ty} → ReducedTy up A → ReducedTy up B → Sub up A B → sub_ty up A B ≡ true
→sub_ty ok ra rb h = (complete ok ra rb h).0
