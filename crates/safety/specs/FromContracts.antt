-- Demand 3 from the contracts of the public functions alone. Whoever checks a job by `check`, starts it by `start` (or by `built`, from the tables that the check left) and then
-- makes any list of calls of `Machine::step` and `Machine::run`, each on the machine that the last one gave and with the frames as that one left them (at the first they may hold
-- anything), while the job's tables stay as the check or the start left them, gets answers that demand 3 allows. The hypotheses are what these functions ensure, and nothing else.
use Rattle.std.specs.Prelude.{◌≡◌, ℕ, false, List, [], ◌∷◌, map, Ok}
use Rattle.std.proofs.Math.Option.{some}
use Rattle.std.proofs.Math.ListN.{get_elem?}
use Rattle.syntax.specs.Job.{Job, source_of}
use Rattle.syntax.specs.Reading.{read, reading}
use Rattle.syntax.specs.Words.{code_in}
use Rattle.syntax.specs.Loading.{JobTables}
use Rattle.typing.specs.Tables.{Tables}
use Rattle.semantics.specs.Machine.{Thread, System}
use Rattle.semantics.specs.Start.{start_of}
use Rattle.semantics.specs.Wants.{needs, wrong, shut}
use Rattle.semantics.specs.Threads.{steps_of, alone}
use Rattle.semantics.specs.Calls.{Call, one_step, run_of, Ran, call}
use Rattle.semantics.specs.Demand3.{expr_of, calls_of, Allowed}
use Rattle.machine.specs.declared.Machine.{Machine}
use Rattle.machine.specs.declared.Outcome.{Outcome}
use Rattle.machine.specs.View.{seen, ran_in}
use Rattle.checker.specs.declared.Checked.{Checked}
use Rattle.start.specs.declared.Opened.{Opened}
use Rattle.start.specs.Starts.{Starts, built_from}

-- what a call gave, and what the lent frames held then
pub record Gave : Type 0 where
  pub outcome : Outcome
  pub frames : List ℕ

abbrev pub ran_of : Gave → Ran
ran_of g = ran_in g.outcome g.frames

-- what the two functions ensure of one call on the machine m with the frames fs, by the words of the job's expressions
pub data Called (heads slots : List ℕ) (m : Machine) (fs : List ℕ) : Call → Gave → Type 0 where
  by_step : {g : Gave} → ran_of g ≡ call (steps_of (code_in heads slots)) one_step (seen m fs) → Called heads slots m fs one_step g
  by_run : {allow : List ℕ} {g : Gave} → ran_of g ≡ call (steps_of (code_in heads slots)) (run_of allow) (seen m fs) → Called heads slots m fs (run_of allow) g

-- a list of calls, each on the machine that the last one gave, with the frames as that one left them; the words are the same at each
pub data AllCalled (heads slots : List ℕ) : Machine → List ℕ → List Call → List Gave → Type 0 where
  no_call : {m : Machine} {fs : List ℕ} → AllCalled heads slots m fs [] []
  next_call : {m : Machine} {fs : List ℕ} {c : Call} {cs : List Call} {g : Gave} {gs : List Gave} → Called heads slots m fs c g → AllCalled heads slots g.outcome.machine g.frames cs gs
      → AllCalled heads slots m fs (c ∷ cs) (g ∷ gs)

-- the machine of a job that is checked, and the words of its expressions: those that the start left or those that the check left
pub data Opening (bytes : List ℕ) (r : Checked) (x : Tables) : Machine → List ℕ → List ℕ → Type 0 where
  start_start : (o : Opened) (w y : JobTables) → Starts bytes o w y → o.told ≡ Ok tt → Opening bytes r x o.machine y.heads y.slots
  start_check : (o : Opened) (w y : JobTables) → Starts bytes o w y → o.told ≡ Ok tt → Opening bytes r x o.machine x.job.heads x.job.slots
  built_check : (m : Machine) → ((fs : List ℕ) → seen m fs ≡ built_from r.shape x.job.names x.job.types x.job.values) → Opening bytes r x m x.job.heads x.job.slots

-- the machine that the last of the calls gave, with the frames as that one left them; without a call the first one
unfoldable pub last_seen : Machine → List ℕ → List Gave → System
last_seen m fs [] = seen m fs
last_seen m fs (g ∷ gs) = last_seen g.outcome.machine g.frames gs

-- of every thread of a machine, also where its turn is not next, the next step finds no wrong kind, no missing entry and no shut key
abbrev pub ThreadsSafe : Job → System → Type 0
ThreadsSafe J m = (i : ℕ) (t : Thread) → get_elem? m.threads i ≡ some t → (wrong (needs (expr_of J)) (alone m t) ≡ false) × (shut (needs (expr_of J)) (alone m t) ≡ false)

-- demand 3 of the outcomes of calls on m with the frames fs: the bytes are a job, the outcomes are those of its calls from its start, demand 3 allows them, and every thread of the last
-- machine is safe
pub record Demand3Of (bytes : List ℕ) (m : Machine) (fs : List ℕ) (cs : List Call) (gs : List Gave) : Type 0 where
  pub job : Job
  pub is : reading bytes ≡ read job
  pub actual : map ran_of gs ≡ calls_of job cs
  pub allowed : Allowed job cs (map ran_of gs)
  pub threads : ThreadsSafe job (last_seen m fs gs)

-- the job of accepted bytes, and its start
pub record StartsJob (bytes : List ℕ) (o : Opened) : Type 0 where
  pub job : Job
  pub is : reading bytes ≡ read job
  pub says : o.told ≡ Ok tt
  -- the machine is the one that demand 3 speaks of, whatever the frames hold
  pub machine : (fs : List ℕ) → seen o.machine fs ≡ start_of (source_of job)
