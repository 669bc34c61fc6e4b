-- What `write` answers, and the lent buffer and tables afterwards.
use Rattle.std.specs.Prelude.{◌≡◌, ℕ, List, length, Ok, Err}
use Rattle.std.specs.declared.result.Result.{Result}
use Rattle.syntax.specs.Loading.{JobTables}
use Rattle.syntax.specs.Writing as writing
use Rattle.syntax.specs.Writing.{Counts, fitting, write_with, buffer_after}
use Rattle.table.specs.declared.Refusal.{Refusal}

-- how many bytes there are, or the refusal
abbrev pub Sent : Type 0
Sent = Result ℕ Refusal

abbrev pub refused_by : ℕ → ℕ → Sent
refused_by n p = Err (record { number = n; place = p })

-- how many bytes there are, or the number and the place of the refusal
unfoldable pub answer_of : writing.Sent → Sent
answer_of (writing.sent s) = Ok (length s)
answer_of (writing.unsent q) = refused_by q.number q.place

-- what was to be sent, the answer, and the buffer before and after
pub record Delivered (s : writing.Sent) (r : Sent) (b b' : List ℕ) : Type 0 where
  pub answer : r ≡ answer_of (fitting (length b) s)
  pub buffer : b' ≡ buffer_after (fitting (length b) s) b

-- `write`: its answer, the buffer before and after, and the tables, which stay as they were
pub record WriteTo (w x : JobTables) (c : Counts) (r : Sent) (b b' : List ℕ) : Type 0 where
  pub answer : r ≡ answer_of (write_with w c (length b))
  pub buffer : b' ≡ buffer_after (write_with w c (length b)) b
  pub tables : x ≡ w
