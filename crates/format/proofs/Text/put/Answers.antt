use borrow.Author.Rules.{rules}
use Rattle.format.proofs.Fit.{text_nil, next_byte}
use Rattle.format.proofs.Text.put.Goals as goal

pub loop-b-init : goal.loop-b-init
loop-b-init c = text_nil c.args.self (search rules)

pub loop-b-preserved : goal.loop-b-preserved
loop-b-preserved c = next_byte _ _ _ _ _ c.loop-b-test.true c.loop-b.invariant c.push-self.ensures
