-- A derivation for an expression holds one for each of its operands, in the operand's context; so a derivation for the last expression holds one for every expression. And what an expression with a
-- derivation uses is in scope.
use Rattle.std.specs.Prelude.{ℕ}
use mathlib.Core.List.{List}
use Rattle.order.specs.Effects.{Effect}
use Rattle.syntax.specs.Types.{Ty}
use Rattle.syntax.specs.Job.{Src}
use Rattle.syntax.specs.Tree.{Entry}
use Rattle.typing.specs.Rules.{Has}

-- the rules give the expression some type and effect
pub record Given (S : Src) (Γ : List Entry) (e : ℕ) : Type 0 where
  pub ty : Ty
  pub eff : Effect
  pub has : Has S Γ e ty eff
