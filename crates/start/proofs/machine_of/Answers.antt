use Rattle.start.proofs.Building.{started}
use Rattle.start.proofs.machine_of.Goals as goal

pub returns : goal.returns
returns c = λ S fs g. started S _ g fs _ _
