use Rattle.machine.proofs.InWords.{ReadTo}
use Rattle.machine.proofs.words.threads_in.Given as goal

abbrev pub invariant-loop-i : goal.invariant-loop-i
invariant-loop-i l = ReadTo l.words l.threads l.i
