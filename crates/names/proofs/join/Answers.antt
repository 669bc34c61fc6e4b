use mathlib.Core.Path.{refl}
use Rattle.order.specs.Effects.{join}
use Rattle.names.proofs.join.Goals as goal

pub returns : goal.returns
unfolding join
returns c = refl
