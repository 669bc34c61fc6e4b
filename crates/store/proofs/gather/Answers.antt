use Rattle.store.proofs.Sets.{bits_step, bits_none}
use mathlib.Core.Path.{sym}
use Rattle.store.proofs.gather.Goals as goal

pub loop-j-init : goal.loop-j-init
loop-j-init c = sym (bits_none _ _)

pub loop-j-preserved : goal.loop-j-preserved
loop-j-preserved c = bits_step _ _ _ c.loop-j.invariant c.both.ensures c.one_bit-acc.ensures
