use Rattle.print.proofs.Prints.{low_bits, all_bits}
use Rattle.print.proofs.kind_number.Goals as goal

pub returns-in-Limit : goal.returns-in-Limit
returns-in-Limit c = low_bits _ _ c.in-Limit.is

pub returns-in_default : goal.returns-in_default
returns-in_default c = all_bits _ _ c.in_default.not-Limit c.in_default.not-Grant
