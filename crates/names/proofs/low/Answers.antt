use mathlib.Core.Path.{refl}
use native.Mathlib.Omega.{arith}
use lib.Count.{trailing_le}
use Rattle.names.specs.Ancestors.{lowest}
use Rattle.names.proofs.low.Goals as goal

pub overflow_cast-result : goal.overflow_cast-result
overflow_cast-result c = record { fits = omega (arith, trailing_le 64 c.args.s) }

pub returns : goal.returns
unfolding lowest
returns c = refl
