use Rattle.std.proofs.Common.{refl}
use Rattle.tree.specs.Passes.{host_names}
use Rattle.tree.proofs.Loops.{names_on}
use Rattle.tree.proofs.host_names.Goals as goal

pub loop-i-init : goal.loop-i-init
unfolding host_names
loop-i-init c = refl

pub loop-i-preserved : goal.loop-i-preserved
loop-i-preserved c = names_on _ _ c.loop-i.invariant c.get_or.ensures c.host_name-s.ensures
