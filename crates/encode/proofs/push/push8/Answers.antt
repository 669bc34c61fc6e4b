use native.Mathlib.Omega.{arith}
use Rattle.encode.proofs.Laying.{pushed_as, bytes_one}
use Rattle.encode.proofs.push.push8.Goals as goal

pub returns : goal.returns
returns c = pushed_as (bytes_one _ (omega (arith, c.ranges.x))) c.push.ensures
