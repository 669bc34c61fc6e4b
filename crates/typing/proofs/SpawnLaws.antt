-- 0x42 (F-6 of document 02), said apart from its rule and from the checker's function: its type, that its effect is below every one, and its refusal. `SpawnExactly` says of a job's own expressions
-- when they have a type, and which.
use Rattle.std.specs.Prelude.{◌≡◌, ℕ, Bool, ◌↔◌, ◌≢◌, ◌⊎◌}
use Rattle.std.proofs.Math.Path.{refl}
use Rattle.std.proofs.Common.{sym, ◌∙◌, subst}
use Rattle.std.proofs.Math.Bool.{true, false, false≢true}
use mathlib.Core.List.{List, [], ◌∷◌, Memᴰ}
use Rattle.std.proofs.Math.Logic.{inl, inr}
use Rattle.order.specs.Sets.{all_of}
use Rattle.order.specs.Effects.{Effect, pure, names, set_below, EffBelow, eff_below}
use Rattle.order.proofs.EffectLaws.{pure_name, eff_each, eff_pure, eff_below→}
use Rattle.syntax.specs.Types.{Ty, num}
use Rattle.syntax.specs.Commands.{c_spawn}
use Rattle.syntax.specs.Job.{Src, up_of}
use Rattle.syntax.specs.Tree.{Entry}
use Rattle.syntax.specs.WellScoped.{ScopedType}
use Rattle.syntax.proofs.ScopeLaws.{pure_scoped}
use Rattle.typing.proofs.SubtypeLaws.{sub_refl}
use Rattle.typing.specs.Rules.{code_of, Has, h_spawn, h_sub}
use Rattle.typing.specs.Least.{Typed, typed, untyped, with, require, type_at}
use Rattle.typing.proofs.Filled.{untyped_not}

-- an effect is below the empty one exactly where it has no name
pub below_pure : {up : List ℕ} {s : Effect} → EffBelow up s pure → names s ≡ []
below_pure {up} {s} h = at (names s) refl
  where
    at : (l : List ℕ) → names s ≡ l → l ≡ []
    at [] e = refl
    at (n ∷ l) e = absurd (pure_name (eff_each h n (subst (λ m. Memᴰ n m) (sym e) (Memᴰ.head refl))).1)

no_names : (up : List ℕ) (s : Effect) → names s ≡ [] → eff_below up s pure ≡ true
unfolding names eff_below set_below all_of
no_names up s e = rw e

-- the rule: of a body of any type and an effect that has no name, the unkeyed number, and an effect that is below every one
pub spawn_rule : (S : Src) {Γ : List Entry} {e b : ℕ} {U : Ty} {t : Effect} → code_of S e ≡ c_spawn b → Has S Γ b U t → ScopedType Γ U → names t ≡ []
    → (w : Effect) × Has S Γ e (num 0) w × ((v : Effect) → EffBelow (up_of S) w v)
spawn_rule S {U = U} {t = t} k x o h = (pure, h_spawn k (h_sub x (sub_refl U) o (eff_below→ (up_of S) t pure (no_names (up_of S) t h)) pure_scoped), λ v. eff_pure)

-- The checker's function, when the body's type and effect are known

module _ (S : Src) (tab : ℕ → Typed) {b : ℕ} {T : Ty} {t : Effect} (hb : tab b ≡ typed T t) where
  abbrev Ends : Type 0
  Ends = ((names t ≡ []) × (type_at S tab (c_spawn b) ≡ typed (num 0) pure)) ⊎ ((names t ≢ []) × (type_at S tab (c_spawn b) ≡ untyped 16))

  ends : Ends
  unfolding type_at with require
  ends = at (eff_below (up_of S) t pure) refl
    where
      at : (x : Bool) → eff_below (up_of S) t pure ≡ x → Ends
      at true y = inl (below_pure (eff_below→ (up_of S) t pure y), rw (hb, y))
      at false y = inr (λ n. false≢true (sym y ∙ no_names (up_of S) t n), rw (hb, y))

  -- "16 if the body's effect isn't empty"
  pub spawn_16 : (type_at S tab (c_spawn b) ≡ untyped 16) ↔ (names t ≢ [])
  spawn_16 = at ends
    where
      at : Ends → (type_at S tab (c_spawn b) ≡ untyped 16) ↔ (names t ≢ [])
      at (inl (n, e)) = (λ h. untyped_not (sym h ∙ e), λ h. absurd (h n))
      at (inr (n, e)) = (λ h. n, λ h. e)

  -- else the unkeyed number, and no effect
  pub spawn_typed : (type_at S tab (c_spawn b) ≡ typed (num 0) pure) ↔ (names t ≡ [])
  spawn_typed = at ends
    where
      at : Ends → (type_at S tab (c_spawn b) ≡ typed (num 0) pure) ↔ (names t ≡ [])
      at (inl (n, e)) = (λ h. n, λ h. e)
      at (inr (n, e)) = (λ h. untyped_not (sym e ∙ h), λ h. absurd (n h))
