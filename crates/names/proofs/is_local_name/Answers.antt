use Rattle.std.proofs.Common.{arith}
use Rattle.std.proofs.lemmas.Bool.Decides.{nat_tests}
use Rattle.order.specs.Bools.{◌and◌}
use Rattle.syntax.specs.Reading.{local_name}
use Rattle.names.proofs.Tables.{declared_of_lem}
use Rattle.names.proofs.is_local_name.Goals as goal

pub returns-then-is_declared : goal.returns-then-is_declared
unfolding local_name ◌and◌
returns-then-is_declared c = grind (arith, nat_tests, declared_of_lem)

pub returns-else-is_declared : goal.returns-else-is_declared
unfolding local_name ◌and◌
returns-else-is_declared c = grind (arith, nat_tests, declared_of_lem)
