-- What the desk program prints, by demand 3: a refused job's line; or an accepted job's line and then one of the three lines of a run, `done`, `spent` or `no room`, with the
-- steps and the value of a run that document 01 allows. There is no fourth way, and never a missing line.
use Rattle.std.specs.Prelude.{◌≡◌, ℕ, ◌≤◌, ◌<◌, true, List, ◌++◌, get_or}
use Rattle.std.proofs.Math.Option.{some}
use Rattle.order.specs.Effects.{Effect}
use Rattle.syntax.specs.Types.{Ty}
use Rattle.syntax.specs.Job.{Job, source_of}
use Rattle.syntax.specs.Reading.{Refusal, read, reading}
use Rattle.typing.specs.Verdict.{accept, refuse, verdict_of}
use Rattle.semantics.specs.Machine.{Value, System, most_threads}
use Rattle.semantics.specs.Start.{start_of}
use Rattle.semantics.specs.Threads.{live, value_of}
use Rattle.semantics.specs.Calls.{run_of, finished, spent, noroom, Ran, ran, Gives}
use Rattle.semantics.specs.Demand3.{steps_in}
use Rattle.output.specs.Lines.{decimal, space, line, w_done, w_spent, w_no_room, value_kind, refused_line, accepted_line, most_steps, desk_allows}

-- the line of the run that gave r, with the steps of thread 0 or, without room, of the thread without it, and of a job that is done thread 0's value. That count is at most 100,000; where the run is spent every thread
-- that is not finished has taken 100,000, and a thread without room has taken fewer
pub data RunLine : Ran → List ℕ → Type 0 where
  says_done : {c : List ℕ} {t : System} (v : Value) → get_or c 0 0 ≤ most_steps → value_of t ≡ some v → RunLine (ran finished c 0 t) (line (space w_done (space (decimal (get_or c 0 0)) (value_kind v.kind))))
  says_spent : {c : List ℕ} {t : System} → get_or c 0 0 ≤ most_steps → ((i : ℕ) → i < most_threads → live t i ≡ true → get_or c i 0 ≡ most_steps) → RunLine (ran spent c 0 t) (line (space w_spent (decimal (get_or c 0 0))))
  says_no_room : {c : List ℕ} {i : ℕ} {t : System} → get_or c i 0 < most_steps → RunLine (ran noroom c i t) (line (space w_no_room (decimal (get_or c i 0))))

pub data DeskLines (s : List ℕ) : List ℕ → Type 0 where
  refused_line_lem : (q : Refusal) → verdict_of s ≡ refuse q → DeskLines s (refused_line q)
  run_line_lem :
      (T : Ty) (e : Effect) (J : Job) (r : Ran) (l : List ℕ) → verdict_of s ≡ accept T e → reading s ≡ read J → Gives (steps_in J) (start_of (source_of J)) (run_of desk_allows) r → RunLine r l →
      DeskLines s (accepted_line T e ++ l)
