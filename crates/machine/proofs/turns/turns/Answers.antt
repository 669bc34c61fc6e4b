use Rattle.std.proofs.Common.{rules, sym, ◌∙◌}
use Rattle.machine.proofs.Advancing.{leads_first, held_now, goes_on, measure_falls}
use Rattle.machine.proofs.turns.turns.Goals as goal

pub loop-t-init : goal.loop-t-init
loop-t-init c = leads_first _ _ _ _ c.requires.0 c.requires.1

pub advance-t-requires : goal.advance-t-requires
advance-t-requires c = (c.loop-t.invariant.long, held_now c.args.heads.now c.args.slots.now c.loop-t.invariant (search rules))

pub loop-t-smaller : goal.loop-t-smaller
loop-t-smaller c = measure_falls c.args.heads.now c.args.slots.now c.loop-t.invariant (search rules) c.advance-t.ensures

pub loop-t-preserved : goal.loop-t-preserved
loop-t-preserved c = goes_on c.args.heads.now c.args.slots.now c.loop-t.invariant (search rules) c.advance-t.ensures

pub shape_of-words : goal.shape_of-words
shape_of-words c = c.loop-t.invariant.long ∙ sym c.requires.0

pub returns : goal.returns
returns c = record { turns = c.loop-t.invariant.over (search rules); few = c.loop-t.invariant.few }
