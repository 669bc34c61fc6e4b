-- A session: a job is checked, started and called, and the answers are those that the calls themselves give.
use Rattle.std.specs.Prelude.{◌≡◌, ℕ, ◌*◌, Bool, true, false, List, ◌++◌, length, drop}
use Rattle.order.specs.Effects.{Effect}
use Rattle.syntax.specs.Types.{Ty}
use Rattle.syntax.specs.Job.{Job, source_of}
use Rattle.syntax.specs.Reading.{Refusal, read, reading}
use Rattle.typing.specs.Verdict.{Verdict, accept, refuse}
use Rattle.typing.specs.Tables.{Tables, verdict_with, tables_after}
use Rattle.semantics.specs.Machine.{System}
use Rattle.semantics.specs.Start.{start_of}
use Rattle.semantics.specs.Calls.{Ran, last_of}
use Rattle.semantics.specs.Demand3.{steps_in, calls_of, Allowed}
use Rattle.machine.specs.View.{seen}
use Rattle.calls.specs.Words.{answer_words_lem, call_count, calls_in, room_for, result_words}
use Rattle.initial.specs.Empty.{empty_machine}
use Rattle.judge.specs.Answer.{accepted_by, refused_by}
use Rattle.checker.specs.Answer.{verdict_in, last_in}
use Rattle.safety.specs.FromContracts.{ThreadsSafe}
use Rattle.session.specs.declared.Held.{Held}

-- 1 where the calls are no whole number, or the answers have no room for them
unfoldable pub session_verdict : Bool → Tables → List ℕ → Verdict
session_verdict true w s = verdict_with w s
session_verdict false w s = refuse (record { number = 1; place = 0 })

unfoldable pub session_tables : Bool → Tables → List ℕ → Tables
session_tables true w s = tables_after w s
session_tables false w s = w

-- the job that the bytes are; the results of the calls, each made on the machine that the last one gave, from the machine that starting the job gives; they are
-- what demand 3 allows; their answers and counts are what is written, the places after them being as before; the machine is the one that the last call gave, and every thread of it is safe
pub record Answered (bytes words before after : List ℕ) (last : System) : Type 0 where
  pub job : Job
  pub is : reading bytes ≡ read job
  pub results : List Ran
  pub actual : results ≡ calls_of job (calls_in words)
  pub allowed : Allowed job (calls_in words) results
  pub written : after ≡ result_words results ++ drop (answer_words_lem * call_count words) before
  pub machine : last ≡ last_of (steps_in job) (calls_in words) (start_of (source_of job))
  pub threads : ThreadsSafe job last

-- no call is made, the frames stay, and there is no machine but the empty one
pub record Unanswered (fs fs' before after : List ℕ) (last : System) : Type 0 where
  pub written : after ≡ before
  pub frames : fs' ≡ fs
  pub machine : last ≡ empty_machine

-- a session that is refused with a number and a place; its machine is the empty one, whatever the frames hold
pub record RefusedWith (n p : ℕ) (r : Held) : Type 0 where
  pub verdict : r.verdict ≡ refused_by n p
  pub machine : (fs : List ℕ) → seen r.machine fs ≡ empty_machine

-- fs and fs' are what the lent frames hold before and after; of fs' only the words are fixed that the machine is seen with, the frames in use
pub record SessionTo (bytes words : List ℕ) (r : Held) (w x : Tables) (fs fs' before after : List ℕ) : Type 0 where
  pub verdict : verdict_in x.job.types x.job.sets r.verdict ≡ session_verdict (room_for words before) w bytes
  pub tables : x ≡ session_tables (room_for words before) w bytes
  -- the entry that an acceptance names is that of the last expression
  pub entry : (i s : ℕ) → r.verdict ≡ accepted_by i s → (J : Job) → reading bytes ≡ read J → i ≡ last_in x.entries (length J.cmds)
  pub refused : (q : Refusal) → session_verdict (room_for words before) w bytes ≡ refuse q → Unanswered fs fs' before after (seen r.machine fs')
  pub accepted : (T : Ty) (e : Effect) → session_verdict (room_for words before) w bytes ≡ accept T e → Answered bytes words before after (seen r.machine fs')
