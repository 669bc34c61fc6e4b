-- The counts of a job.
use Rattle.std.specs.Prelude.{length}
use Rattle.syntax.specs.Job.{Job}
use Rattle.syntax.specs.Writing.{Counts}
use Rattle.entry.specs.declared.Shape.{Shape}

-- the counts of a job's entries, and its rights
unfoldable pub shape_of : Job → Shape
shape_of J = record { names = length J.names; types = length J.types; values = length J.values; cmds = length J.cmds; rights = J.rights.set }

-- the same five numbers as the definitions have them
abbrev pub counts_of : Shape → Counts
counts_of g = record { names = g.names; types = g.types; values = g.values; cmds = g.cmds; rights = g.rights }

-- those of no job
abbrev pub no_shape : Shape
no_shape = record { names = 0; types = 0; values = 0; cmds = 0; rights = 0 }
