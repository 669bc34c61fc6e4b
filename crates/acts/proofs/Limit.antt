-- A limit on one to four values, as one on four of which the last may come again.
use Prim.Native.Nat.{ℕ, zero, suc, ◌<◌}
use Rattle.std.specs.Prelude.{Option, Some, None}
use mathlib.Core.Path.{◌≡◌, refl, ◌∙◌, ap}
use mathlib.Core.Bool.{Bool, true, false, cond}
use mathlib.Core.List.{List, [], ◌∷◌, ◌++◌}
use native.Mathlib.Omega.{arith}
use borrow.Author.Tests.{lt-ltb, ne_eqb}
use lib.Dec.{ltb}
use Rattle.order.specs.Sets.{some_of, all_of}
use Rattle.semantics.specs.Machine.{Kind, k_num, k_pair, k_fn, k_cell, k_lim, k_grant, Value, Machine as Clean}
use Rattle.semantics.specs.Keys.{enabled, narrow}
use Rattle.semantics.specs.Step.{Out, o_stuck, o_denied, room, touch, touch_all, Plan, settle, as_lim, found, limit_keys, keys_of, act_lim}
use Rattle.store.specs.declared.Keys.{Keys}
use Rattle.store.specs.declared.Own.{Own}
use Rattle.store.specs.Meaning.{keys_in, own_in}
use Rattle.store.specs.Words.{up_in}
use Rattle.store.specs.Tables.{capped, list_of}
use Rattle.store.specs.Frames.{hand_of}
use Rattle.acts.specs.declared.State.{State}
use Rattle.acts.specs.View.{Tables, view}
use Rattle.acts.specs.Inner.{go, limits_in}

-- all keys are enabled
pub touched : (ks : List ℕ) (m : Clean) (o : Out) → touch_all ks m o ≡ cond (all_of (enabled m.store.keys m.thread.on) ks) o o_denied
unfolding touch_all touch all_of
touched [] m o = refl
touched (k ∷ ks) m o = at (enabled m.store.keys m.thread.on k) (touched ks m o)
  where
    at : (b : Bool) → touch_all ks m o ≡ cond (all_of (enabled m.store.keys m.thread.on) ks) o o_denied →
        cond b (touch_all ks m o) o_denied ≡ cond (cond b (all_of (enabled m.store.keys m.thread.on) ks) false) o o_denied
    at true e = e
    at false e = refl

on_same : (k : Kind) (f g : ℕ → Plan) → ((j : ℕ) → settle (f j) ≡ settle (g j)) → settle (found (as_lim k) f) ≡ settle (found (as_lim k) g)
unfolding as_lim found
on_same (k_num n) f g h = refl
on_same (k_pair n) f g h = refl
on_same (k_fn n) f g h = refl
on_same (k_cell n) f g h = refl
on_same (k_lim n) f g h = h n
on_same (k_grant n) f g h = refl

twice : (l : List Value) (v : Value) (f g : List ℕ → Plan) → ((js : List ℕ) (j : ℕ) → settle (f (js ++ (j ∷ []))) ≡ settle (g (js ++ (j ∷ j ∷ [])))) →
    settle (limit_keys (l ++ (v ∷ [])) f) ≡ settle (limit_keys (l ++ (v ∷ v ∷ [])) g)
unfolding limit_keys as_lim found
twice [] v f g h = last v.kind
  where
    last : (k : Kind) → settle (found (as_lim k) (λ j. f (j ∷ []))) ≡ settle (found (as_lim k) (λ i. found (as_lim k) (λ j. g (i ∷ j ∷ []))))
    last (k_num n) = refl
    last (k_pair n) = refl
    last (k_fn n) = refl
    last (k_cell n) = refl
    last (k_lim n) = h [] n
    last (k_grant n) = refl
twice (x ∷ l) v f g h = on_same x.kind _ _ (λ j. twice l v (λ js. f (j ∷ js)) (λ js. g (j ∷ js)) (λ js i. h (j ∷ js) i))

some_twice : (js : List ℕ) (j : ℕ) (p : ℕ → Bool) → some_of p (js ++ (j ∷ [])) ≡ some_of p (js ++ (j ∷ j ∷ []))
unfolding some_of
some_twice [] j p = at (p j)
  where
    at : (b : Bool) → cond b true false ≡ cond b true (cond b true false)
    at true = refl
    at false = refl
some_twice (x ∷ js) j p = ap (λ (b : Bool). cond (p x) true b) (some_twice js j p)

narrow_twice : (up : List ℕ) (on : ℕ) (js : List ℕ) (j : ℕ) → narrow up on (js ++ (j ∷ [])) ≡ narrow up on (js ++ (j ∷ j ∷ []))
unfolding narrow
narrow_twice up on js j = simp (some_twice js j)

touch_twice : (l : List Value) (v : Value) (m : Clean) (o : Out) → touch_all (keys_of (l ++ (v ∷ []))) m o ≡ touch_all (keys_of (l ++ (v ∷ v ∷ []))) m o
unfolding touch_all touch keys_of
touch_twice [] v m o = at (enabled m.store.keys m.thread.on v.key)
  where
    at : (b : Bool) → cond b o o_denied ≡ cond b (cond b o o_denied) o_denied
    at true = refl
    at false = refl
touch_twice (x ∷ l) v m o = ap (λ (r : Out). cond (enabled m.store.keys m.thread.on x.key) r o_denied) (touch_twice l v m o)

lim_twice : (b : ℕ) (l : List Value) (v : Value) (m : Clean) → settle (act_lim b (l ++ (v ∷ [])) m) ≡ settle (act_lim b (l ++ (v ∷ v ∷ [])) m)
unfolding act_lim settle room
lim_twice b l v m = twice l v _ _ (λ js j.
    touch_twice l v m _
    ∙ ap (λ (s : ℕ). touch_all (keys_of (l ++ (v ∷ v ∷ []))) m (go b m.thread.env s m)) (narrow_twice m.store.keys m.thread.on js j))

-- the values in hand, filled up to four
pub padded :
    (n b : ℕ) (p q r v : Value) (m : Clean) → settle (act_lim b (hand_of n p q r ++ (v ∷ [])) m) ≡ settle (act_lim b (cond (ltb 0 n) p v ∷ cond (ltb 1 n) q v ∷ cond (ltb 2 n) r v ∷ v ∷ []) m)
padded zero b p q r v m = lim_twice b [] v m ∙ lim_twice b (v ∷ []) v m ∙ lim_twice b (v ∷ v ∷ []) v m
padded (suc zero) b p q r v m = lim_twice b (p ∷ []) v m ∙ lim_twice b (p ∷ v ∷ []) v m
padded (suc (suc zero)) b p q r v m = lim_twice b (p ∷ q ∷ []) v m
padded (suc (suc (suc n))) b p q r v m =
    let e0 : suc (suc (suc n)) ≡ 0 → ⊥ = λ e. omega arith in
    let e1 : suc (suc (suc n)) ≡ 1 → ⊥ = λ e. omega arith in
    let e2 : suc (suc (suc n)) ≡ 2 → ⊥ = λ e. omega arith in
    let l0 : 0 < suc (suc (suc n)) = omega arith in
    let l1 : 1 < suc (suc (suc n)) = omega arith in
    let l2 : 2 < suc (suc (suc n)) = omega arith in
    simp (ne_eqb _ _ e0, ne_eqb _ _ e1, ne_eqb _ _ e2, lt-ltb _ _ l0, lt-ltb _ _ l1, lt-ltb _ _ l2)

-- the act of a limit
module _ (back : State) (w : Tables) (b : ℕ) (v : List Value) (l : Option Own) (hl : (f : List ℕ → Plan) → limit_keys v f ≡ limits_in l f) where
  pub lim_stuck : l ≡ None → settle (act_lim b v (view back w)) ≡ o_stuck
  unfolding act_lim settle
  lim_stuck h = simp (hl, h)

  pub lim_denied : {own : Own} {o : Bool} → l ≡ Some own → o ≡ all_of (enabled (list_of up_in w.keys (capped back.keys 128)) (keys_in back.now.on)) (keys_of v) → o ≡ false →
      settle (act_lim b v (view back w)) ≡ o_denied
  unfolding act_lim view settle room
  lim_denied e h f = simp (hl, e, touched (keys_of v), ← h, f)

  pub lim_goes : {own : Own} {o : Bool} (s : Keys) → l ≡ Some own → o ≡ all_of (enabled (list_of up_in w.keys (capped back.keys 128)) (keys_in back.now.on)) (keys_of v) → o ≡ true →
      keys_in s ≡ narrow (list_of up_in w.keys (capped back.keys 128)) (keys_in back.now.on) (own_in own) →
      settle (act_lim b v (view back w)) ≡ go b back.now.env (keys_in s) (view back w)
  unfolding act_lim view settle room
  lim_goes s e h f g = simp (hl, e, touched (keys_of v), ← h, f, ← g)
