use Rattle.std.proofs.Common.{arith}
use Rattle.std.proofs.lemmas.Bool.Decides.{nat_tests}
use Rattle.order.specs.Bools.{◌or◌}
use Rattle.names.specs.Ancestors.{below_by}
use Rattle.names.proofs.below.Goals as goal

pub returns-then-a-b : goal.returns-then-a-b
unfolding below_by ◌or◌
returns-then-a-b c = grind (arith, nat_tests)

pub returns-else-a-b : goal.returns-else-a-b
unfolding below_by ◌or◌
returns-else-a-b c = grind (arith, nat_tests)
