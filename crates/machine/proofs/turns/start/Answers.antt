use Rattle.machine.proofs.InWords.{started}
use Rattle.machine.proofs.turns.start.Goals as goal

pub returns : goal.returns
returns c =
    started c.args.slots.now c.requires.0 c.thread_at-t.ensures
    c.fresh.ensures c.handing.ensures
    c.put_at.ensures c.put_at-2.ensures
