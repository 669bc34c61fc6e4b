-- What an accepted job's tables say: the job that its bytes are, held by the tables, and demand 3 of its calls. And what a refusal says, where no table is too short.
use Rattle.std.specs.Prelude.{◌≡◌, ℕ, List}
use Rattle.order.specs.Effects.{Effect}
use Rattle.syntax.specs.Types.{Ty}
use Rattle.syntax.specs.Job.{Job}
use Rattle.syntax.specs.Reading.{read, reading}
use Rattle.syntax.specs.Words.{code_in}
use Rattle.typing.specs.Verdict.{accept, verdict_of}
use Rattle.typing.specs.Tables.{Tables}
use Rattle.semantics.specs.Calls.{Call}
use Rattle.semantics.specs.Demand3.{expr_of, calls_of, Allowed}
use Rattle.entry.specs.declared.Shape.{Shape}
use Rattle.start.specs.Starts.{Ready}

-- an accepted job
pub record Accepting (bytes : List ℕ) (g : Shape) (T : Ty) (e : Effect) (x : Tables) : Type 0 where
  pub job : Job
  pub is : reading bytes ≡ read job
  pub verdict : verdict_of bytes ≡ accept T e
  pub allowed : (cs : List Call) → Allowed job cs (calls_of job cs)
  pub ready : Ready job g x.job.names x.job.types x.job.values
  pub code : (i : ℕ) → code_in x.job.heads x.job.slots i ≡ expr_of job i
