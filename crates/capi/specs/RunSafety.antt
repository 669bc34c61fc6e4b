-- Demand 3 of `jobdesk_run`: of bytes that the check accepts, with tables and answers that are long enough, it gives only answers that demand 3 allows. The hypotheses are what
-- `check` and `jobdesk_run` ensure, and nothing else.
use Rattle.std.specs.Prelude.{◌≡◌, ℕ, ◌*◌, List, ◌++◌, drop}
use Rattle.syntax.specs.Job.{Job}
use Rattle.syntax.specs.Reading.{read, reading}
use Rattle.semantics.specs.Calls as semantics
use Rattle.semantics.specs.Demand3.{calls_of, Allowed}
use Rattle.calls.specs.Words.{answer_words_lem, call_count, calls_in, result_words}

-- the job that the bytes are is started; the results are those of its calls from its start, demand 3 allows them, and they are what is written
pub record SafeRun (bytes words : List ℕ) (r : ℕ) (a a' : List ℕ) : Type 0 where
  pub job : Job
  pub is : reading bytes ≡ read job
  pub number : r ≡ 0
  pub results : List semantics.Ran
  pub actual : results ≡ calls_of job (calls_in words)
  pub allowed : Allowed job (calls_in words) results
  pub written : a' ≡ result_words results ++ drop (answer_words_lem * call_count words) a
