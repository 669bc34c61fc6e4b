use mathlib.Core.Path.{◌∙◌}
use lib.ListN.{get_or}
use Rattle.entry.proofs.Leaves.{little_one, field_read}
use Rattle.entry.proofs.bytes.op8.Goals as goal

pub returns-in-Some : goal.returns-in-Some
returns-in-Some c = c.from_le_bytes.ensures ∙ field_read 1 _ _ _ (λ l. get_or l 0 0) little_one c.in-Some.ensures
