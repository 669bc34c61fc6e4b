-- 16 is the refusal of a 0x42 alone (F-6 of document 02): bytes are refused with 16 only where they are a job, at a 0x42 whose body has a type, with a least effect that has a name.
use Rattle.std.specs.Prelude.{◌≡◌, ℕ, ◌≢◌}
use mathlib.Core.List.{[]}
use Rattle.order.specs.Effects.{Effect, names}
use Rattle.syntax.specs.Types.{Ty}
use Rattle.syntax.specs.Commands.{Cmd, c_spawn}
use Rattle.typing.specs.Least.{Typed, typed}

-- a 0x42 whose body has a type, by a table of least types and effects, with an effect that has a name
pub record SpawnEffect (tab : ℕ → Typed) (c : Cmd Ty) : Type 0 where
  pub body : ℕ
  pub is : c ≡ c_spawn body
  pub type : Ty
  pub effect : Effect
  pub has : tab body ≡ typed type effect
  pub named : names effect ≢ []
