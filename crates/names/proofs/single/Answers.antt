use Rattle.std.proofs.Common.{rules, le-ltb}
use Rattle.names.specs.Ancestors.{one_of}
use Rattle.names.proofs.Bits.{shifted}
use Rattle.names.proofs.single.Goals as goal

pub returns-then-n-lt64 : goal.returns-then-n-lt64
returns-then-n-lt64 c = shifted _ (search rules)

pub returns-else-n-lt64 : goal.returns-else-n-lt64
unfolding one_of
returns-else-n-lt64 c = simp (le-ltb _ _ c.if-n-lt64.false)
