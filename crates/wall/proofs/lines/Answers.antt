use native.Mathlib.Omega.{arith}
use Rattle.wall.proofs.Texts.{lines_first, lines_length, lines_room, lines_next, lines_all}
use Rattle.wall.proofs.lines.Goals as goal

pub loop-k-init : goal.loop-k-init
loop-k-init c = lines_first _ _ _ _

pub put_name-at-requires : goal.put_name-at-requires
put_name-at-requires c = lines_room _ _ _ _ c.loop-k.invariant c.loop-k-test.true c.requires.0 c.requires.1

pub loop-k-preserved : goal.loop-k-preserved
loop-k-preserved c = lines_next _ _ _ _ _ _ _ _ _ _ c.loop-k.invariant c.loop-k-test.true c.get_or-w.ensures c.put_name-at.ensures

pub shape_of-text : goal.shape_of-text
shape_of-text c = lines_length _ _ _ _ c.loop-k.invariant c.requires.0 c.requires.1

pub returns : goal.returns
returns c = lines_all _ _ _ _ _ _ _ _ _ _ c.ancestors-anc.ensures c.loop-k.invariant (omega arith)
