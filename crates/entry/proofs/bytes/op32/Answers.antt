use mathlib.Core.Path.{◌∙◌}
use Rattle.std.specs.Int.{from_le_bytes, w32}
use Rattle.entry.proofs.Leaves.{little_four, field_read}
use Rattle.entry.proofs.bytes.op32.Goals as goal

pub returns-in-Some : goal.returns-in-Some
returns-in-Some c = c.from_le_bytes.ensures ∙ field_read 4 _ _ _ (from_le_bytes w32) little_four c.in-Some.ensures
