use mathlib.Core.Path.{refl}
use Rattle.acts.proofs.State.give.Goals as goal

pub returns : goal.returns
returns c = record { word = _; means = c.pack.ensures; gives = refl }
