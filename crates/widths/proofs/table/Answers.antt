use mathlib.Core.Path.{refl}
use Rattle.order.specs.Ranges.{range}
use Rattle.syntax.specs.Commands.{form, traits, commands, find_op, op_of, operands, total, width}
use Rattle.syntax.specs.Widths.{width_on, width_byte, width_table}
use Rattle.widths.proofs.table.Goals as goal

-- all 256 entries together, computed
pub returns : goal.returns
unfolding width_table width_byte width_on range op_of find_op commands form traits operands total width
returns c = refl
