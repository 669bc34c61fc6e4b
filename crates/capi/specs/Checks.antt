-- Checking a job: the verdict in numbers.
use Rattle.std.specs.Prelude.{◌≡◌, ℕ, List}
use Rattle.typing.specs.Tables.{Tables}
use Rattle.calls.specs.Words.{over}
use Rattle.checker.specs.Answer.{Answer, verdict_from, CheckTo}
use Rattle.results.specs.Told.{number_for, out_words}

-- the answer r to `bytes` with the lent tables w, which are x afterwards; o and o' are what is written, before and after
pub record Checks (bytes : List ℕ) (r : ℕ) (w x : Tables) (o o' : List ℕ) : Type 0 where
  pub checked : Answer
  pub to : CheckTo bytes checked w x
  pub number : r ≡ number_for (verdict_from checked)
  pub out : o' ≡ over o (out_words (verdict_from checked))
