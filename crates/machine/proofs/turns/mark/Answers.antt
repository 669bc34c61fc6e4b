use borrow.Author.Tests.{eq-eqb, ne_eqb}
use mathlib.Core.Bool.{true, false}
use Rattle.machine.proofs.Marks.{mark_enter, mark_hand}
use Rattle.machine.proofs.turns.mark.Goals as goal

pub returns-in-Hand : goal.returns-in-Hand
returns-in-Hand c = mark_hand c.args.t true _ c.in-Hand.is (eq-eqb _ _ c.if-t-eq0.true)

pub returns-in_default : goal.returns-in_default
returns-in_default c = mark_hand c.args.t false _ c.in-Hand.is (ne_eqb _ _ c.if-t-eq0.false)

pub returns-in_default-2 : goal.returns-in_default-2
returns-in_default-2 c = mark_enter c.args.t _ c.in_default.is
