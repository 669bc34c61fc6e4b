use Rattle.std.proofs.Common.{arith, rules}
use Rattle.machine.proofs.Lefts.{taken_none, taken_more, taken_all}
use Rattle.machine.proofs.run.taken.Goals as goal

pub loop-i-init : goal.loop-i-init
loop-i-init c = taken_none _ _ (search rules)

pub overflow_sub-counts : goal.overflow_sub-counts
overflow_sub-counts c = let t = c.loop-i.invariant.todo c.loop-i.i (omega arith) in let h = c.requires c.loop-i.i (omega arith) in search (rules, t, h)

pub loop-i-preserved : goal.loop-i-preserved
loop-i-preserved c = taken_more c.loop-i.invariant c.loop-i-test.true (c.requires _ c.loop-i-test.true)

pub returns : goal.returns
returns c = taken_all (search rules) c.loop-i.invariant c.loop-i-test.false
