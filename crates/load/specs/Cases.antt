-- What a load came to, by its answer.
use Rattle.std.proofs.Math.Path.{◌≡◌}
use Rattle.std.specs.Prelude.{ℕ, List}
use Rattle.std.proofs.Math.Bool.{false}
use Rattle.syntax.specs.Job.{Job}
use Rattle.syntax.specs.Reading.{read}
use Rattle.syntax.specs.Loading.{JobTables, short, filled_with, loading}
use Rattle.entry.specs.declared.Shape.{Shape}
use Rattle.entry.specs.Shapes.{shape_of}

-- the tables hold the job, which has so many entries
pub record Loaded (bytes : List ℕ) (g : Shape) (w x : JobTables) : Type 0 where
  pub job : Job
  pub is : loading bytes ≡ read job
  pub shape : g ≡ shape_of job
  pub long : short w ≡ false
  pub tables : x ≡ filled_with job.types job w
