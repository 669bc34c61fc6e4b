-- What control and answers stand for.
use Rattle.semantics.specs.Machine.{Control as SControl, enter, hand}
use Rattle.store.specs.Words.{word_in}
use Rattle.acts.specs.declared.Control.{Control}
use Rattle.acts.specs.declared.Control.TheVariants.{Enter, Hand}
use Rattle.acts.specs.declared.Answer.{Answer}
use Rattle.acts.specs.declared.Answer.TheVariants.{Taken, Finished, NoRoom, Stuck, Denied, Starts}

abbrev pub control_in : Control → SControl
control_in (Enter e) = enter e.0
control_in (Hand w) = hand (word_in w)

-- the answers of a thread's step: those of `Out`, and that it is to start a thread
pub data StepAnswer : Type 0 where
  s_taken s_finished s_noroom s_stuck s_denied s_starts : StepAnswer

abbrev pub answer_in : Answer → StepAnswer
answer_in Taken = s_taken
answer_in Finished = s_finished
answer_in NoRoom = s_noroom
answer_in Stuck = s_stuck
answer_in Denied = s_denied
answer_in Starts = s_starts
