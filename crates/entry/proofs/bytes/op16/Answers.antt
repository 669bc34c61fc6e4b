use mathlib.Core.Path.{◌∙◌}
use Rattle.std.specs.Int.{from_le_bytes, w16}
use Rattle.entry.proofs.Leaves.{little_two, field_read}
use Rattle.entry.proofs.bytes.op16.Goals as goal

pub returns-in-Some : goal.returns-in-Some
returns-in-Some c = c.from_le_bytes.ensures ∙ field_read 2 _ _ _ (from_le_bytes w16) little_two c.in-Some.ensures
