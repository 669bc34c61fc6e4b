use Rattle.machine.proofs.Marks.{known_at, known_nobody}
use Rattle.machine.proofs.ahead.known.Goals as goal

pub returns-in-Some : goal.returns-in-Some
returns-in-Some c = known_at _ _ _ _ _ c.next_turn.ensures c.in-Some.is

pub returns-in-None : goal.returns-in-None
returns-in-None c = known_nobody _ _ _ _ c.next_turn.ensures c.in-None.is
