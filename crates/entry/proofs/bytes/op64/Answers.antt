use mathlib.Core.Path.{◌∙◌}
use Rattle.std.specs.Int.{from_le_bytes, w64}
use Rattle.entry.proofs.Leaves.{little_eight, field_read}
use Rattle.entry.proofs.bytes.op64.Goals as goal

pub returns-in-Some : goal.returns-in-Some
returns-in-Some c = c.from_le_bytes.ensures ∙ field_read 8 _ _ _ (from_le_bytes w64) little_eight c.in-Some.ensures
