use Rattle.syntax.specs.Words.{code_in}
use Rattle.machine.proofs.Tells.{within_few, nobody_told, asked_small, step_told}
use borrow.Author.Rules.{rules}
use Rattle.machine.proofs.Machine.step.Goals as goal

pub marks-live-requires : goal.marks-live-requires
marks-live-requires c = within_few c.args.self.count c.within-count.ensures

pub next_turn-requires : goal.next_turn-requires
next_turn-requires c = (within_few c.args.self.round c.within.ensures, within_few c.args.self.count c.within-count.ensures)

pub returns-in_default : goal.returns-in_default
returns-in_default c = nobody_told c.args.self c.args.frames.now _ c.within-count.ensures c.within.ensures c.marks-live.ensures c.next_turn.result c.next_turn.ensures (code_in c.args.heads.now c.args.slots.now) c.in_default.is

pub offset_bounds-one-turn : goal.offset_bounds-one-turn
offset_bounds-one-turn c = let h = asked_small c.args.self c.args.frames.now _ c.within-count.ensures c.within.ensures c.marks-live.ensures c.next_turn.result c.next_turn.ensures (code_in c.args.heads.now c.args.slots.now) c.in-Some.is in search (rules, h)

pub bounds-one-turn : goal.bounds-one-turn
bounds-one-turn c = let h = asked_small c.args.self c.args.frames.now _ c.within-count.ensures c.within.ensures c.marks-live.ensures c.next_turn.result c.next_turn.ensures (code_in c.args.heads.now c.args.slots.now) c.in-Some.is in search (rules, h)

pub returns : goal.returns
returns c = step_told c.args.self c.args.frames.now _ c.within-count.ensures c.within.ensures c.marks-live.ensures c.next_turn.result c.next_turn.ensures (code_in c.args.heads.now c.args.slots.now) c.in-Some.is c.call.ensures
