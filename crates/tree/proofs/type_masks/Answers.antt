use Rattle.tree.specs.Passes.{masks_by}
use Rattle.tree.proofs.Loops.{masks_start, masks_on, masks_end}
use Rattle.tree.proofs.type_masks.Goals as goal

pub loop-i-init : goal.loop-i-init
unfolding masks_by
loop-i-init c = masks_start _ _ _ _

pub loop-i-preserved : goal.loop-i-preserved
loop-i-preserved c = masks_on _ _ _ _ _ c.loop-i-test.true c.get_or.ensures c.get_or-in-loop-i.ensures c.names_of.ensures c.loop-i.invariant

pub returns : goal.returns
returns c = masks_end _ _ _ _ _ c.loop-i-test.false c.loop-i.invariant
