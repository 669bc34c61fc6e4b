use Rattle.calls.proofs.Going.{Noting}
use Rattle.calls.proofs.note_counts.Given as goal

abbrev pub invariant-loop-n : goal.invariant-loop-n
invariant-loop-n l = Noting l.initial.answers l.at l.fn.counts l.answers l.next l.n-index
