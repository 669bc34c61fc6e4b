use mathlib.Core.Path.{refl}
use Rattle.order.specs.Bools.{◌or◌}
use Rattle.syntax.specs.Loading as loads
use Rattle.typing.specs.Tables.{short}
use native.Mathlib.Omega.{arith}
use Rattle.print.proofs.Prints.{told_refused, told_accepted}
use Rattle.print.proofs.told.Goals as goal

pub returns-in-Err : goal.returns-in-Err
unfolding short loads.short ◌or◌
returns-in-Err c = told_refused _ _ _ _ _ c.in-Err.ensures c.refused.ensures refl

pub returns-in-Ok : goal.returns-in-Ok
returns-in-Ok c = told_accepted _ _ _ _ _ c.in-Ok.ensures c.accepted.ensures (λ i. omega (arith, c.shared_slice_known-1.given i))
