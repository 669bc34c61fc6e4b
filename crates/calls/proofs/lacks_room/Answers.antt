use borrow.Author.Tests.{ne_eqb}
use Rattle.std.proofs.Common.{sym, ap, ◌∙◌}
use mathlib.Core.Bool.{not}
use Rattle.calls.proofs.Laws.{room_no, room_is}
use Rattle.calls.proofs.lacks_room.Goals as goal

pub returns-then-calls-ne0 : goal.returns-then-calls-ne0
returns-then-calls-ne0 c = ap not (ne_eqb _ _ c.if-calls-ne0.true ∙ sym (room_no _ _ c.if-calls-ne0.true))

pub returns-else-calls-ne0 : goal.returns-else-calls-ne0
returns-else-calls-ne0 c = room_is _ _ c.if-calls-ne0.false
