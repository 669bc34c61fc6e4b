use Rattle.machine.proofs.turns.rounded.Goals as goal

pub returns : goal.returns
returns c = simp (c.later.ensures, c.later-2.ensures)
