-- The commands by their bytes: sections and widths are those of reading.
use Rattle.std.specs.Prelude.{ℕ}
use Rattle.syntax.specs.Commands.{Op, form}

unfoldable pub byte_of : Op → ℕ
unfolding form
byte_of o = (form o).byte
