use Rattle.std.proofs.Common.{◌∙◌, rules, sym, le-ltb}
use Rattle.order.proofs.SetLaws.{bit_at}
use Rattle.names.proofs.Bits.{bit_out}
use Rattle.names.proofs.has.Goals as goal

pub returns-then-n-lt64 : goal.returns-then-n-lt64
returns-then-n-lt64 c = sym (bit_at _ _)

pub returns-else-n-lt64 : goal.returns-else-n-lt64
returns-else-n-lt64 c = le-ltb _ _ c.if-n-lt64.false ∙ bit_out _ _ (search rules) c.if-n-lt64.false
