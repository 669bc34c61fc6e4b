use Prim.Native.Nat.{◌+◌}
use native.Mathlib.Omega.{arith}
use Rattle.std.proofs.lemmas.Grind.{common_steps}
use Rattle.typing.specs.Numbered.{need, need_lim}
use Rattle.equality.specs.Entry.{entry_of}
use Rattle.rules.specs.Answer.{result_in}
use Rattle.rules.proofs.Keys.{keys_begun, keys_turn, keys_ended}
use Rattle.rules.proofs.limit.Goals as goal

pub loop-j-init : goal.loop-j-init
loop-j-init c = rw c.min.ensures (keys_begun c.args.table.now.anc.now c.args.table.now.types.now c.args.table.now.sets.now c.args.slots.now c.args.entries.now c.args.effects.now c.args.at c.args.n)

pub returns-in_default : goal.returns-in_default
unfolding result_in need_lim entry_of
returns-in_default c =
    let e = keys_turn c.args.table.now.anc.now c.args.table.now.types.now c.args.table.now.sets.now c.args.slots.now c.args.entries.now c.args.effects.now c.args.at c.loop-j.j (c.args.at + c.min.result) c.loop-j.rs c.loop-j.s c.entry_at.result c.loop-j-test.true c.operand_at-x.ensures c.entry_at.ensures in
    rw (c.loop-j.invariant, e) (grind (arith, common_steps))

pub loop-j-preserved : goal.loop-j-preserved
unfolding need_lim entry_of
loop-j-preserved c =
    let e = keys_turn c.args.table.now.anc.now c.args.table.now.types.now c.args.table.now.sets.now c.args.slots.now c.args.entries.now c.args.effects.now c.args.at c.loop-j.j (c.args.at + c.min.result) c.loop-j.rs c.loop-j.s c.entry_at.result c.loop-j-test.true c.operand_at-x.ensures c.entry_at.ensures in
    rw (c.loop-j.invariant, e, c.in-Limit.is) (grind (arith, common_steps))

pub returns-then-not-eff_below : goal.returns-then-not-eff_below
unfolding result_in need
returns-then-not-eff_below c =
    let e = keys_ended c.args.table.now.anc.now c.args.table.now.types.now c.args.table.now.sets.now c.args.slots.now c.args.entries.now c.args.effects.now c.args.at c.loop-j.j (c.args.at + c.min.result) c.loop-j.rs c.loop-j.s c.loop-j-test.false in
    rw (c.loop-j.invariant, e) (grind (arith, common_steps))

pub returns : goal.returns
unfolding result_in need
returns c =
    let e = keys_ended c.args.table.now.anc.now c.args.table.now.types.now c.args.table.now.sets.now c.args.slots.now c.args.entries.now c.args.effects.now c.args.at c.loop-j.j (c.args.at + c.min.result) c.loop-j.rs c.loop-j.s c.loop-j-test.false in
    rw (c.loop-j.invariant, e) (grind (arith, common_steps))
