use native.Mathlib.Nat.{sub-zero}
use Rattle.std.proofs.Common.{arith, ◌+◌, ◌*◌, ◌-◌}
use Rattle.machine.specs.View.{ran_in}
use Rattle.calls.specs.Words.{call_words, call_count}
use Rattle.calls.proofs.Going.{going_start, going_within, going_on, going_end}
use Rattle.calls.proofs.make_calls.Goals as goal

pub loop-i-init : goal.loop-i-init
loop-i-init c = simp sub-zero (going_start _ _ _ _)

pub make-o-requires : goal.make-o-requires
unfolding call_count
make-o-requires c = going_within c.loop-i.invariant (omega (arith, c.loop-i-test.true))

pub loop-i-preserved : goal.loop-i-preserved
unfolding call_count
loop-i-preserved c = going_on _ (ran_in c.make-o.result c.make-o.new.frames) _ (omega (arith, c.loop-i-test.true)) c.make-o.ensures c.note_answer-place.ensures c.loop-i.invariant ((c.loop-i.i + 1) * call_words) (call_count c.args.calls.now - (c.loop-i.i + 1)) (omega arith) (omega arith)

pub shape_of-answers : goal.shape_of-answers
shape_of-answers c = c.loop-i.invariant.same

pub returns : goal.returns
unfolding call_count
returns c = going_end (omega (arith, c.loop-i-test.false)) c.loop-i.invariant
