-- The whole machine in words, seen as the machine of the semantics, and what a call gave. The frames of all threads are lent to it.
use Rattle.std.specs.Prelude.{ℕ, List, []}
use Rattle.semantics.specs.Machine.{System, most_threads}
use Rattle.semantics.specs.Calls.{Answer as SAnswer, taken, finished, spent, noroom, stuck, denied, Ran, ran}
use Rattle.store.specs.Tables.{capped}
use Rattle.acts.specs.View.{Tables, tables}
use Rattle.machine.specs.declared.Answer.{Answer}
use Rattle.machine.specs.declared.Answer.TheVariants.{Taken, Finished, Spent, NoRoom, Stuck, Denied}
use Rattle.machine.specs.declared.Machine.{Machine}
use Rattle.machine.specs.declared.Outcome.{Outcome}
use Rattle.machine.specs.Scheduled.{system_of}

abbrev pub words_of : Machine → List ℕ → Tables
words_of m fs = tables [] fs m.cells m.keys m.pairs m.functions m.bindings

-- never more threads than there are places
abbrev pub seen : Machine → List ℕ → System
seen m fs = system_of m.threads (capped m.count most_threads) (capped m.round most_threads) m.from m.used (words_of m fs)

abbrev pub answer_in : Answer → SAnswer
answer_in Taken = taken
answer_in Finished = finished
answer_in Spent = spent
answer_in NoRoom = noroom
answer_in Stuck = stuck
answer_in Denied = denied

-- what a call gave
abbrev pub ran_in : Outcome → List ℕ → Ran
ran_in o fs = ran (answer_in o.answer) o.counts o.thread (seen o.machine fs)
