-- What the rules give is in scope: in a context whose types are in scope, each type and effect that they give an expression has names of that context alone (Γ ⊢ e : τ; L has Γ ⊢ τ and Γ ⊢ L).
use Rattle.std.specs.Prelude.{ℕ}
use mathlib.Core.List.{List}
use Rattle.order.specs.Effects.{Effect}
use Rattle.syntax.specs.Types.{Ty}
use Rattle.syntax.specs.Tree.{Entry}
use Rattle.syntax.specs.WellScoped.{ScopedType, ScopedEffect}
use Rattle.typing.specs.Rules.{Lookup}

-- the types of a context's variables are in scope there
pub record ScopedContext (Γ : List Entry) : Type 0 where
  pub each : (x : ℕ) (T : Ty) → Lookup Γ x T → ScopedType Γ T

-- a type and an effect are in scope
pub record ScopedResult (Γ : List Entry) (T : Ty) (s : Effect) : Type 0 where
  pub ty : ScopedType Γ T
  pub eff : ScopedEffect Γ s
