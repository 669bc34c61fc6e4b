use native.Mathlib.Omega.{arith}
use Rattle.std.proofs.lemmas.Bool.Decides.{nat_tests}
use Rattle.order.specs.Bools.{◌or◌}
use Rattle.results.specs.Told.{lent_short}
use Rattle.results.proofs.is_short.Goals as goal

pub returns-then-cells-lt-TOLD_WORDS : goal.returns-then-cells-lt-TOLD_WORDS
unfolding lent_short ◌or◌
returns-then-cells-lt-TOLD_WORDS c = grind (arith, nat_tests)

pub returns-else-cells-lt-TOLD_WORDS : goal.returns-else-cells-lt-TOLD_WORDS
unfolding lent_short ◌or◌
returns-else-cells-lt-TOLD_WORDS c = grind (arith, nat_tests)
