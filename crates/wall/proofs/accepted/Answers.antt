use native.Mathlib.Omega.{arith}
use Rattle.wall.specs.HeldSheet.{held_sheet, ready_few}
use Rattle.wall.proofs.Texts.{laid_as}
use Rattle.wall.proofs.accepted.Goals as goal

pub returns-then-g-le-MOST_DECLARED : goal.returns-then-g-le-MOST_DECLARED
returns-then-g-le-MOST_DECLARED c = λ J y. laid_as (held_sheet y _) c.lines.ensures

pub returns : goal.returns
returns c = λ J y. absurd (omega (arith, ready_few y, c.if-g-le-MOST_DECLARED.false))
