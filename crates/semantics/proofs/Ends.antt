-- Where a plan ends: what is true of the machine after it, if its room is found free. Laws of steps are proved of plans by this.
use Rattle.std.proofs.Math.Path.{◌≡◌}
use Rattle.std.specs.Prelude.{refl, ℕ, Bool, cond}
use Rattle.std.proofs.Common.{sym, arith}
use Rattle.std.proofs.Math.Bool.{true, false}
use mathlib.Core.List.{List, [], ◌∷◌}
use Rattle.std.proofs.Math.Option.{Option, none, some}
use Rattle.semantics.specs.Machine.{Value, Machine}
use Rattle.semantics.specs.Keys.{enabled}
use Rattle.semantics.specs.Step.{Out, o_step, o_denied, Plan, room, touch, touch_all, settle, as_lim, found, bare, one, two, limit_keys}
use Rattle.semantics.specs.Ends.{Ends, en_done, en_try, en_wrong}

module _ {P : Machine → Type 0} where
  pub settle_ends : {p : Plan} {n : Machine} → Ends P p → settle p ≡ o_step n → P n
  unfolding settle touch_all touch room
  settle_ends en_done e = let z : ◌≡◌ {A = ℕ} 0 1 = cc in absurd (omega arith)
  settle_ends en_wrong e = let z : ◌≡◌ {A = ℕ} 0 1 = cc in absurd (omega arith)
  settle_ends {n = n} (en_try {ks = ks} {free = free} {m = m} {n = x} h) e = all ks e
    where
      last : (b : Bool) → (b ≡ true → P x) → room b (o_step x) ≡ o_step n → P n
      last true g e = let z : x ≡ n = cc in rw (sym z) (g refl)
      last false g e = let z : ◌≡◌ {A = ℕ} 0 1 = cc in absurd (omega arith)

      at : (b : Bool) (o : Out) → (o ≡ o_step n → P n) → cond b o o_denied ≡ o_step n → P n
      at true o g e = g e
      at false o g e = let z : ◌≡◌ {A = ℕ} 0 1 = cc in absurd (omega arith)

      all : (ks : List ℕ) → touch_all ks m (room free (o_step x)) ≡ o_step n → P n
      all [] e = last free h e
      all (k ∷ ks) e = at (enabled m.store.keys m.thread.on k) _ (all ks) e

  pub found_ends : {A : Type 0} (o : Option A) (f : A → Plan) → ((a : A) → Ends P (f a)) → Ends P (found o f)
  unfolding found
  found_ends none f g = en_wrong
  found_ends (some a) f g = g a

  pub bare_ends : (h : List Value) {p : Plan} → Ends P p → Ends P (bare h p)
  unfolding bare
  bare_ends [] g = g
  bare_ends (v ∷ h) g = en_wrong

  pub one_ends : (h : List Value) (f : Value → Plan) → ((v : Value) → Ends P (f v)) → Ends P (one h f)
  unfolding one
  one_ends [] f g = en_wrong
  one_ends (v ∷ []) f g = g v
  one_ends (v ∷ w ∷ h) f g = en_wrong

  pub two_ends : (h : List Value) (f : Value → Value → Plan) → ((v w : Value) → Ends P (f v w)) → Ends P (two h f)
  unfolding two
  two_ends [] f g = en_wrong
  two_ends (v ∷ []) f g = en_wrong
  two_ends (v ∷ w ∷ []) f g = g v w
  two_ends (v ∷ w ∷ x ∷ h) f g = en_wrong

  pub limits_end : (vs : List Value) (f : List ℕ → Plan) → ((js : List ℕ) → Ends P (f js)) → Ends P (limit_keys vs f)
  unfolding limit_keys
  limits_end [] f g = g []
  limits_end (v ∷ vs) f g = found_ends (as_lim v.kind) _ (λ j. limits_end vs _ (λ js. g (j ∷ js)))
