use mathlib.Core.Path.{◌∙◌}
use Rattle.start.proofs.Tables.{none_built}
use Rattle.start.proofs.empty.Goals as goal

pub returns : goal.returns
returns c = λ fs. let built = c.built.ensures fs in (rw c.no_shape.ensures at built) ∙ none_built _ _ _
