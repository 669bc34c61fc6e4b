-- The rule of 0x42, exactly: when a job's own expression of this command has a type, and which types and effects.
use Rattle.std.specs.Prelude.{◌≡◌, ℕ}
use mathlib.Core.List.{List, []}
use Rattle.order.specs.Effects.{Effect, names}
use Rattle.syntax.specs.Types.{Ty}
use Rattle.syntax.specs.Job.{Src}
use Rattle.syntax.specs.Tree.{Entry}
use Rattle.typing.specs.Rules.{Has}

-- the rules give the body some type, with an effect that has no name
abbrev pub EmptyBody : Src → List Entry → ℕ → Type 0
EmptyBody S Γ b = (U : Ty) × (t : Effect) × Has S Γ b U t × (names t ≡ [])
