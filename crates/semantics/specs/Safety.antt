-- The claim: from the start of a job that is well read and well typed, with an effect below its rights, every list of calls gives only what it may, whichever thread's turn it is. Each
-- step is taken, or all threads are finished, or the step lacks room; each run ends finished, spent or without room after the steps counted. No answer is "stuck" or
-- "denied".
use Rattle.semantics.specs.Calls.{Answer, taken, finished, spent, noroom}

-- the answers that may be given; stuck and denied are not among them
pub data Fine : Answer → Type 0 where
  fine_taken : Fine taken
  fine_finished : Fine finished
  fine_spent : Fine spent
  fine_noroom : Fine noroom
