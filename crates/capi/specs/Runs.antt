-- Running a job: it is started, and if that is not refused the calls are made on its machine.
use Rattle.std.specs.Prelude.{◌≡◌, ℕ, ◌*◌, Bool, true, false, List, ◌++◌, set, drop}
use Rattle.syntax.specs.Words.{code_in}
use Rattle.syntax.specs.Reading.{Refusal}
use Rattle.semantics.specs.Machine.{System}
use Rattle.syntax.specs.Loading.{JobTables, tables_after_load}
use Rattle.semantics.specs.Threads.{Steps, steps_of}
use Rattle.semantics.specs.Calls.{calls, last_of}
use Rattle.semantics.specs.Starting.{Started, started, unstarted, start_with}
use Rattle.calls.specs.Words.{answer_words_lem, call_count, calls_in, room_for, result_words, over}
use Rattle.calls.specs.Made.{Made}
use Rattle.results.specs.Told.{room_words}

-- 0 if there is no refusal
unfoldable pub number_of : Started → ℕ
number_of (started m) = 0
number_of (unstarted q) = q.number

-- the start of a job whose calls have room for their answers; 1 where they have none, and nothing is written then but the place
unfoldable pub opened_with : Bool → JobTables → List ℕ → Started
opened_with true w s = start_with w s
opened_with false w s = unstarted (record { number = 1; place = 0 })

unfoldable pub opened_tables : Bool → JobTables → List ℕ → JobTables
opened_tables true w s = tables_after_load w s
opened_tables false w s = w

-- the calls `words` on machine m: a and a' are the answers before and after, k and k' the rooms
pub record Goes (K : Steps) (words : List ℕ) (m : System) (a a' k k' : List ℕ) : Type 0 where
  pub last : System
  pub made : Made K words m a a' last
  pub rooms : k' ≡ over k (room_words last)

-- the same with all answers written
pub record Ran (K : Steps) (words : List ℕ) (m : System) (a a' k k' : List ℕ) : Type 0 where
  pub answers : a' ≡ result_words (calls K (calls_in words) m) ++ drop (answer_words_lem * call_count words) a
  pub rooms : k' ≡ over k (room_words (last_of K (calls_in words) m))

-- a refusal writes its place and makes no call
pub record Stops (q : Refusal) (a a' k k' : List ℕ) : Type 0 where
  pub answers : a' ≡ a
  pub rooms : k' ≡ set k 0 q.place

-- the answer r to `bytes` with the lent tables w, which are x afterwards, and the calls `words` with the answers and rooms
pub record Runs (bytes : List ℕ) (r : ℕ) (words : List ℕ) (w x : JobTables) (a a' k k' : List ℕ) : Type 0 where
  pub tables : x ≡ opened_tables (room_for words a) w bytes
  pub number : r ≡ number_of (opened_with (room_for words a) w bytes)
  pub goes : (m : System) → opened_with (room_for words a) w bytes ≡ started m → Ran (steps_of (code_in x.heads x.slots)) words m a a' k k'
  pub stops : (q : Refusal) → opened_with (room_for words a) w bytes ≡ unstarted q → Stops q a a' k k'
