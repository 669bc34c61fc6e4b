use native.Mathlib.Omega.{arith}
use Rattle.machine.proofs.Tells.{within_few, held_put, call_told}
use borrow.Author.Rules.{rules}
use Rattle.machine.proofs.Machine.call.Goals as goal

pub marks-requires : goal.marks-requires
marks-requires c = within_few c.args.self.count c.within-count.ensures

pub turns-s-requires : goal.turns-s-requires
turns-s-requires c = (search rules, held_put c.args.self c.args.frames.now _ _ _ c.within-count.ensures c.within.ensures (omega (arith, c.struct_known-1.given)) c.put_threads.ensures c.marks.ensures (search rules) (search rules))

pub taken-requires : goal.taken-requires
taken-requires c = λ j _. c.turns-s.ensures.few.left j

pub returns : goal.returns
returns c = call_told _ _ c.args.allow c.args.self _ _ _ _ c.turns-s.result _ _ _ _ _ _ _ _ c.taken.result _ c.told.result c.within-count.ensures c.within.ensures c.put_threads.ensures c.turns-s.ensures.turns c.turns-s.ensures.few c.threads_in-threads.ensures c.all_finished-done.ensures (search rules) (search (rules, c.well_formed)) c.taken.ensures c.thread_told.ensures c.told.ensures
