use native.Mathlib.Omega.{arith}
use Rattle.std.proofs.lemmas.Bool.Decides.{nat_tests}
use Rattle.order.specs.Bools.{◌and◌}
use Rattle.initial.specs.Begun.{is_job}
use Rattle.initial.proofs.is_job.Goals as goal
use Rattle.initial.proofs.is_job.Goals.{then-nnames-le-MOST_DECLARED, else-nnames-le-MOST_DECLARED, then-nvalues-le-MOST_VARIABLES, else-nvalues-le-MOST_VARIABLES}

pub returns-then-cmds-gt0 : goal.returns-then-cmds-gt0
unfolding is_job ◌and◌
returns-then-cmds-gt0 c = grind (arith, nat_tests)

pub returns-else-cmds-gt0 : goal.returns-else-cmds-gt0
unfolding is_job ◌and◌
returns-else-cmds-gt0 c = grind (arith, nat_tests)
