use borrow.Author.Rules.{rules}
use Rattle.machine.proofs.InWords.{put_none, put_more, put_all}
use Rattle.machine.proofs.words.put_threads.Goals as goal

pub loop-i-init : goal.loop-i-init
loop-i-init c = put_none _ _ c.requires

pub loop-i-preserved : goal.loop-i-preserved
loop-i-preserved c = put_more c.loop-i.invariant c.loop-i-test.true (search rules) c.put_at.ensures

pub returns : goal.returns
returns c = put_all c.loop-i.invariant c.loop-i-test.false
