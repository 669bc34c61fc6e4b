-- The machine of tables that are ready is that of the job's own start.
use Rattle.std.specs.Prelude.{◌≡◌, ℕ, List}
use Rattle.std.proofs.Common.{ap}
use Rattle.syntax.specs.Job.{Job, source_of}
use Rattle.semantics.specs.Start.{start_of}
use Rattle.initial.specs.Held.{held_start}
use Rattle.entry.specs.declared.Shape.{Shape}
use Rattle.entry.specs.Shapes.{shape_of}
use Rattle.start.specs.Starts.{Ready, built_from}

-- of tables that are ready it is the job's own
pub ready_built : {J : Job} {g : Shape} {n t v : List ℕ} → Ready J g n t v → built_from g n t v ≡ start_of (source_of J)
unfolding built_from shape_of
ready_built l = held_start l.ok l.holds (ap (λ (k : Shape). k.cmds) l.shape)
