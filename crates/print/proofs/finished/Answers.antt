use mathlib.Core.Path.{refl}
use Rattle.print.proofs.Prints.{kind_is, finished_hand, finished_enter}
use Rattle.print.proofs.finished.Goals as goal

pub returns-in-Hand : goal.returns-in-Hand
returns-in-Hand c = λ T s fs f some_thread done. finished_hand T s c.args.o fs _ c.unpack-v.result _ _ _ _ _ _ f some_thread done c.in-Hand.is c.unpack-v.ensures refl (kind_is _ _) c.kind_number-x.ensures c.done-second.ensures c.both.ensures

pub returns-in-Enter : goal.returns-in-Enter
returns-in-Enter c = λ T s fs f some_thread done. finished_enter c.args.o fs _ c.in-Enter.is some_thread done
