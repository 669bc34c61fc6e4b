-- The two commands whose effect says which access to cells a job gains or asks for, 0x3F and 0x40 (F-1 of document 02), said apart from their rules and from the checker's function: which effects
-- their own is below, exactly; their types; and of 0x40 the number of each refusal.
use Rattle.std.specs.Prelude.{◌≡◌, Bool, ◌↔◌, ◌≢◌, ◌⊎◌, eqb}
use Rattle.std.proofs.Math.Path.{refl}
use Rattle.std.proofs.Common.{sym, ◌∙◌, subst, inl, inr, eqb-true}
use Prim.Native.Nat.{ℕ}
use Rattle.std.proofs.Math.Bool.{true, false, cond}
use Rattle.std.proofs.lemmas.Bool.{false≢true, eqb-false}
use mathlib.Core.List.{List, Memᴰ}
use Rattle.order.specs.Order.{Below, below}
use Rattle.order.specs.OrderLaws.{Proper}
use Rattle.order.proofs.OrderLaws.{→below}
use Rattle.order.specs.Effects.{Effect, names, touch, join, drop, reduce, EffBelow}
use Rattle.order.proofs.EffectLaws.{touch_name, touch_old, touch_cases, join_left, join_right, join_cases, drop_in, drop_or, eff_each, eff_trans, reduce_below, below_reduce, name_not_zero}
use Rattle.syntax.specs.Types.{Ty, num, pair, cell, fn, lim, grant, by_type, on_lim, key_of, rekey}
use Rattle.syntax.specs.Commands.{c_assoc, c_access}
use Rattle.syntax.specs.Job.{Src, up_of}
use Rattle.syntax.specs.Tree.{Entry}
use Rattle.syntax.specs.WellScoped.{ScopedType}
use Rattle.typing.specs.Subtype.{Sub, sub_ty}
use Rattle.typing.specs.Rules.{code_of, Has, h_assoc, h_access}
use Rattle.typing.specs.Least.{Typed, typed, untyped, with, want_lim, require, type_at}
use Rattle.typing.specs.AccessLaws.{Asks, BothTouched, Under}

each_below : {up : List ℕ} {s v : Effect} → ((n : ℕ) → Memᴰ n (names s) → (m : ℕ) × Memᴰ m (names v) × Below up n m) → EffBelow up s v
unfolding names
each_below f = record { sets = record { each = f } }

-- a reduced effect is below the same effects
pub reduced_same : {up : List ℕ} → Proper up → (x v : Effect) {X : Type 0} → EffBelow up x v ↔ X → EffBelow up (reduce up x) v ↔ X
reduced_same {up} ok x v i = (λ h. i.0 (eff_trans (below_reduce ok x) h), λ a. eff_trans (reduce_below up x) (i.1 a))

-- Which effects a touched, a joined and a dropped effect are below, exactly

touch_exactly : {up : List ℕ} (q : ℕ) (x v : Effect) → EffBelow up (touch q x) v ↔ (Under up q v × EffBelow up x v)
touch_exactly {up} q x v = (λ h. (zero_or h (eqb q 0) refl, each_below (λ n m. eff_each h n (touch_old q x m))), λ a. each_below (λ n m. from a n m (touch_cases q x m)))
  where
    zero_or : EffBelow up (touch q x) v → (b : Bool) → eqb q 0 ≡ b → Under up q v
    zero_or h true e = inl (eqb-true q 0 e)
    zero_or h false e = inr (eff_each h q (touch_name q x (eqb-false q 0 e)))

    met : (n : ℕ) → Memᴰ n (names (touch q x)) → Under up n v → (k : ℕ) × Memᴰ k (names v) × Below up n k
    met n m (inl z) = absurd (name_not_zero (touch q x) m z)
    met n m (inr z) = z

    from : Under up q v × EffBelow up x v → (n : ℕ) → Memᴰ n (names (touch q x)) → (n ≡ q) ⊎ Memᴰ n (names x) → (k : ℕ) × Memᴰ k (names v) × Below up n k
    from a n m (inl e) = met n m (subst (λ k. Under up k v) (sym e) a.0)
    from a n m (inr i) = eff_each a.1 n i

join_exactly : {up : List ℕ} (s t v : Effect) → EffBelow up (join s t) v ↔ (EffBelow up s v × EffBelow up t v)
join_exactly {up} s t v = (λ h. (each_below (λ n m. eff_each h n (join_left s t m)), each_below (λ n m. eff_each h n (join_right s t m))), λ a. each_below (λ n m. from a n (join_cases s t m)))
  where
    from : EffBelow up s v × EffBelow up t v → (n : ℕ) → Memᴰ n (names s) ⊎ Memᴰ n (names t) → (k : ℕ) × Memᴰ k (names v) × Below up n k
    from a n (inl i) = eff_each a.0 n i
    from a n (inr i) = eff_each a.1 n i

drop_exactly : {up : List ℕ} → Proper up → (r : ℕ) (t v : Effect) → EffBelow up (drop up r t) v ↔ ((n : ℕ) → Memᴰ n (names t) → Below up n r ⊎ Under up n v)
drop_exactly {up} ok r t v = (λ h n m. to h n (drop_or up r t m), λ f. each_below (λ n m. let d = drop_in up r t m in from n m d.1 (f n d.0)))
  where
    to : EffBelow up (drop up r t) v → (n : ℕ) → Memᴰ n (names (drop up r t)) ⊎ Below up n r → Below up n r ⊎ Under up n v
    to h n (inl m) = inr (inr (eff_each h n m))
    to h n (inr b) = inl b

    from : (n : ℕ) → Memᴰ n (names (drop up r t)) → below up n r ≡ false → Below up n r ⊎ Under up n v → (k : ℕ) × Memᴰ k (names v) × Below up n k
    from n m d (inl b) = absurd (false≢true (sym d ∙ →below ok b))
    from n m d (inr (inl z)) = absurd (name_not_zero (drop up r t) m z)
    from n m d (inr (inr z)) = z

pub both_exactly : {up : List ℕ} (p q : ℕ) (s t v : Effect) → EffBelow up (touch p (touch q (join s t))) v ↔ BothTouched up p q s t v
both_exactly {up} p q s t v = (to, λ a. (touch_exactly p _ v).1 (a.first_touched, (touch_exactly q _ v).1 (a.second_touched, (join_exactly s t v).1 (a.first, a.second))))
  where
    to : EffBelow up (touch p (touch q (join s t))) v → BothTouched up p q s t v
    to h =
        let x = (touch_exactly p _ v).0 h in
        let y = (touch_exactly q _ v).0 x.1 in
        let z = (join_exactly s t v).0 y.1 in
        record { first = z.0; second = z.1; first_touched = x.0; second_touched = y.0 }

-- 0x3F: the value, whose key is touched since a new one would else open what was closed, and the limit key, with the key that it carries itself

-- the rule: the value's type with the new key, and an effect that is below those that have what it asks for, and no others
pub associate_rule : (S : Src) {Γ : List Entry} {e a b q r : ℕ} {A : Ty} {s t : Effect} → code_of S e ≡ c_assoc a b → Has S Γ a A s → Has S Γ b (lim q r) t
    → (w : Effect) × Has S Γ e (rekey r A) w × ((v : Effect) → EffBelow (up_of S) w v ↔ BothTouched (up_of S) (key_of A) q s t v)
associate_rule S {q = q} {A = A} {s = s} {t = t} k x y = (touch (key_of A) (touch q (join s t)), h_assoc k x y, λ v. both_exactly (key_of A) q s t v)

-- the checker's function, when the operands' types and effects are known
module _ (S : Src) (tab : ℕ → Typed) {a b q r : ℕ} {A : Ty} {s t : Effect} (ha : tab a ≡ typed A s) (hb : tab b ≡ typed (lim q r) t) where
  pub associate_typed : Proper (up_of S) → (w : Effect) × (type_at S tab (c_assoc a b) ≡ typed (rekey r A) w) × ((v : Effect) → EffBelow (up_of S) w v ↔ BothTouched (up_of S) (key_of A) q s t v)
  unfolding type_at with want_lim on_lim by_type
  associate_typed ok = (reduce (up_of S) (touch (key_of A) (touch q (join s t))), rw (ha, hb), λ v. reduced_same ok _ v (both_exactly (key_of A) q s t v))

-- 0x40

asks_exactly : {up : List ℕ} → Proper up → (q r : ℕ) (s t u v : Effect) → EffBelow up (touch q (join s (join (drop up r t) u))) v ↔ Asks up q r s t u v
asks_exactly {up} ok q r s t u v = (to, from)
  where
    to : EffBelow up (touch q (join s (join (drop up r t) u))) v → Asks up q r s t u v
    to h =
        let x = (touch_exactly q _ v).0 h in
        let y = (join_exactly s _ v).0 x.1 in
        let z = (join_exactly (drop up r t) u v).0 y.1 in
        record { key = y.0; touched = x.0; first = (drop_exactly ok r t v).0 z.0; second = z.1 }

    from : Asks up q r s t u v → EffBelow up (touch q (join s (join (drop up r t) u))) v
    from a = (touch_exactly q _ v).1 (a.touched, (join_exactly s _ v).1 (a.key, (join_exactly (drop up r t) u v).1 ((drop_exactly ok r t v).1 a.first, a.second)))

-- the rule: from what its operands have, the type operand, and an effect that is below those that have what it asks for, and no others
pub access_rule : (S : Src) {Γ : List Entry} {e a b c q r : ℕ} {B C T : Ty} {s t u : Effect} → Proper (up_of S) → code_of S e ≡ c_access a b c T → ScopedType Γ T
    → Has S Γ a (lim q r) s → Has S Γ b B t → Has S Γ c C u → Sub (up_of S) B T → Sub (up_of S) C T
    → (w : Effect) × Has S Γ e T w × ((v : Effect) → EffBelow (up_of S) w v ↔ Asks (up_of S) q r s t u v)
access_rule S {q = q} {r = r} {s = s} {t = t} {u = u} ok k o x y z p n = (touch q (join s (join (drop (up_of S) r t) u)), h_access k o x y z p n, λ v. asks_exactly ok q r s t u v)

-- the checker's function, when the operands' types and effects are known
module _ (S : Src) (tab : ℕ → Typed) {a b c : ℕ} {A B C : Ty} {s t u : Effect} (ha : tab a ≡ typed A s) (hb : tab b ≡ typed B t) (hc : tab c ≡ typed C u) (T : Ty) where
  -- "wrong kinds and subtypes use 11 and 12": 11 where the first operand is no limit key, whatever the branches are
  pub access_11 : ((q r : ℕ) → A ≢ lim q r) → type_at S tab (c_access a b c T) ≡ untyped 11
  unfolding type_at with want_lim on_lim by_type
  access_11 h = rw (ha, hb, hc) (at A _ h)
    where
      at : (A : Ty) (f : ℕ → ℕ → Typed) → ((q r : ℕ) → A ≢ lim q r) → on_lim A f (untyped 11) ≡ untyped 11
      at (num q) f h = refl
      at (pair q A B) f h = refl
      at (cell q A) f h = refl
      at (fn q A B s) f h = refl
      at (lim q r) f h = absurd (h q r refl)
      at (grant q r) f h = refl

  -- 12 where it is one, and a branch is no subtype of the type operand
  pub access_12 : {q r : ℕ} → A ≡ lim q r → (sub_ty (up_of S) B T ≡ false) ⊎ (sub_ty (up_of S) C T ≡ false) → type_at S tab (c_access a b c T) ≡ untyped 12
  unfolding type_at with want_lim on_lim by_type require
  access_12 {q} {r} e h = rw (ha, hb, hc, e) (at (sub_ty (up_of S) B T) (sub_ty (up_of S) C T) _ h)
    where
      at : (x y : Bool) (z : Typed) → (x ≡ false) ⊎ (y ≡ false) → cond x (cond y z (untyped 12)) (untyped 12) ≡ untyped 12
      at false y z h = refl
      at true false z h = refl
      at true true z (inl h) = absurd (false≢true (sym h))
      at true true z (inr h) = absurd (false≢true (sym h))

  -- else the type operand, and an effect that is below those that have what it asks for, and no others
  pub access_typed : {q r : ℕ} → Proper (up_of S) → A ≡ lim q r → sub_ty (up_of S) B T ≡ true → sub_ty (up_of S) C T ≡ true
      → (w : Effect) × (type_at S tab (c_access a b c T) ≡ typed T w) × ((v : Effect) → EffBelow (up_of S) w v ↔ Asks (up_of S) q r s t u v)
  unfolding type_at with want_lim on_lim by_type require
  access_typed {q} {r} ok e x y = (reduce (up_of S) (touch q (join s (join (drop (up_of S) r t) u))), rw (ha, hb, hc, e, x, y), λ v. reduced_same ok _ v (asks_exactly ok q r s t u v))
