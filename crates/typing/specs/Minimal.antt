-- What the rules give, the table has, and has it least: where there is a derivation for an expression in its context, the expression is typed, with a type and an
-- effect below those of the derivation.
use Rattle.std.specs.Prelude.{◌≡◌, ℕ}
use Rattle.order.specs.Effects.{Effect, EffBelow}
use Rattle.syntax.specs.Types.{Ty}
use Rattle.syntax.specs.Job.{Src, up_of}
use Rattle.typing.specs.Subtype.{Sub}
use Rattle.typing.specs.Least.{typed, type_of}

-- the entry of e in the table, and that it is at most T and t
pub record Least (S : Src) (e : ℕ) (T : Ty) (t : Effect) : Type 0 where
  pub ty : Ty
  pub eff : Effect
  pub got : type_of S e ≡ typed ty eff
  pub sub : Sub (up_of S) ty T
  pub under : EffBelow (up_of S) eff t
