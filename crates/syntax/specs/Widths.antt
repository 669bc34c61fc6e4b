-- The widths of the commands' operands by command byte (document 02, F-8): a table of 256, one for every byte.
use Rattle.std.specs.Prelude.{ℕ, List, map}
use Rattle.std.proofs.Math.Option.{Option, none, some}
use Rattle.order.specs.Ranges.{range}
use Rattle.syntax.specs.Commands.{Op, op_of, width}

-- "255 for bytes that are no command"; a command's is the sum of its operands' widths
unfoldable pub width_on : Option Op → ℕ
width_on none = 255
width_on (some o) = width o

unfoldable pub width_byte : ℕ → ℕ
width_byte b = width_on (op_of b)

unfoldable pub width_table : List ℕ
width_table = map width_byte (range 0 256)
