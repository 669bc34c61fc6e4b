use mathlib.Core.Path.{refl}
use Rattle.format.specs.Text.{text_of}
use Rattle.format.proofs.empty.Goals as goal

-- Nothing is written yet.
pub returns : goal.returns
unfolding text_of
returns c = refl
