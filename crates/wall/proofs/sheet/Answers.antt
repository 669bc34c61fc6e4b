use mathlib.Core.Path.{refl}
use native.Mathlib.Omega.{arith}
use Rattle.order.specs.Bools.{◌or◌}
use Rattle.syntax.specs.Loading as loads
use Rattle.typing.specs.Tables.{short}
use Rattle.wall.proofs.Answers.{sheet_short, sheet_refused, sheet_accepted}
use Rattle.wall.proofs.sheet.Goals as goal

pub returns-then-text-lt-SHEET_BYTES : goal.returns-then-text-lt-SHEET_BYTES
returns-then-text-lt-SHEET_BYTES c = sheet_short _ _ c.if-text-lt-SHEET_BYTES.true

pub returns-in-Err : goal.returns-in-Err
unfolding short loads.short ◌or◌
returns-in-Err c = sheet_refused _ _ _ _ _ _ _ c.in-Err.ensures refl c.if-text-lt-SHEET_BYTES.false c.refused.ensures

pub returns-in-Ok : goal.returns-in-Ok
returns-in-Ok c = sheet_accepted _ _ _ _ _ _ _ c.in-Ok.ensures (λ i. omega (arith, c.shared_slice_known-1.given i)) c.if-text-lt-SHEET_BYTES.false c.accepted.ensures
