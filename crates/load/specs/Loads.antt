-- What a load answers, and the lent tables afterwards.
use Rattle.std.specs.Prelude.{◌≡◌, ℕ, List}
use Rattle.syntax.specs.Loading.{JobTables, load_with, tables_after_load}
use Rattle.job.specs.Answer.{Answer, answer_of}

-- loading `bytes` with the lent tables w, which are x afterwards
pub record LoadTo (bytes : List ℕ) (r : Answer) (w x : JobTables) : Type 0 where
  pub answer : r ≡ answer_of (load_with w bytes)
  pub tables : x ≡ tables_after_load w bytes
