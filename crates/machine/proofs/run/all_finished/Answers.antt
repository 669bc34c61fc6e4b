use Rattle.machine.proofs.Tells.{within_few, finished_told}
use Rattle.machine.proofs.run.all_finished.Goals as goal

pub marks-live-requires : goal.marks-live-requires
marks-live-requires c = within_few c.args.count c.within-n.ensures

pub first-requires : goal.first-requires
first-requires c = within_few c.args.count c.within-n.ensures

pub returns : goal.returns
returns c = finished_told c.args.threads c.args.count c.first.result c.marks-live.result c.within-n.ensures c.marks-live.ensures c.first.ensures
