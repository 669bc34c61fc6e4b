use Rattle.start.specs.Starts.{built_from}
use Rattle.start.proofs.built.Goals as goal

pub returns : goal.returns
unfolding built_from
returns c = λ fs. c.machine_of.ensures _ fs c.tables.ensures
