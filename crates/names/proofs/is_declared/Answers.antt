use Rattle.std.proofs.Common.{◌∙◌, lt-ltb}
use Rattle.names.proofs.Bits.{declared_low, declared_at}
use Rattle.names.proofs.is_declared.Goals as goal

pub returns-then-q-lt2 : goal.returns-then-q-lt2
returns-then-q-lt2 c = lt-ltb _ _ c.if-q-lt2.true ∙ declared_low _ _ c.if-q-lt2.true

pub returns-else-q-lt2 : goal.returns-else-q-lt2
returns-else-q-lt2 c = rw c.from.ensures (declared_at _ _ c.if-q-lt2.false)
