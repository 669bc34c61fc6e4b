use Rattle.machine.proofs.InWords.{PutTo}
use Rattle.machine.proofs.words.put_threads.Given as goal

abbrev pub invariant-loop-i : goal.invariant-loop-i
invariant-loop-i l = PutTo l.threads l.initial.words l.words l.i
