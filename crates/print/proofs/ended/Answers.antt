use mathlib.Core.Path.{ap, ◌∙◌}
use Rattle.format.specs.Text.{no_room_as}
use Rattle.machine.specs.View.{answer_in}
use Rattle.print.proofs.Prints.{ended_with, with_spent, with_no_room, quiet}
use Rattle.print.proofs.ended.Goals as goal

pub returns-in-Finished : goal.returns-in-Finished
returns-in-Finished c = λ T s fs f some_thread d. ended_with T s c.args.o fs _ _ c.in-Finished.is (c.finished.ensures T s fs f some_thread (d (ap answer_in c.in-Finished.is)))

pub returns-in-Spent : goal.returns-in-Spent
returns-in-Spent c = λ T s fs f some_thread d. ended_with T s c.args.o fs _ _ c.in-Spent.is (with_spent T s _ _ _ _ _ _ f c.spent.ensures c.both.ensures)

pub returns-in-NoRoom : goal.returns-in-NoRoom
returns-in-NoRoom c = λ T s fs f some_thread d. ended_with T s c.args.o fs _ _ c.in-NoRoom.is (with_no_room T s _ _ _ _ _ _ f (c.no_room.ensures ∙ ap no_room_as c.get_or.ensures) c.both-in-NoRoom.ensures)

pub returns-in-Taken : goal.returns-in-Taken
returns-in-Taken c = λ T s fs f some_thread d. quiet T s c.args.o fs _ c.in-Taken.is f
