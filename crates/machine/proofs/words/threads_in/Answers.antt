use Rattle.machine.proofs.InWords.{read_first, read_more, read_all}
use Rattle.machine.proofs.words.threads_in.Goals as goal

pub loop-i-init : goal.loop-i-init
loop-i-init c = read_first _ _ c.thread_at-threads.ensures

pub loop-i-preserved : goal.loop-i-preserved
loop-i-preserved c = read_more c.loop-i.invariant c.loop-i-test.true c.thread_at.ensures

pub returns : goal.returns
returns c = read_all c.loop-i.invariant c.loop-i-test.false
