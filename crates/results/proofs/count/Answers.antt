use mathlib.Core.Path.{refl}
use Rattle.results.proofs.Told.{within_few, rooms_told}
use Rattle.results.proofs.count.Goals as goal

pub frames_of-frames-requires : goal.frames_of-frames-requires
frames_of-frames-requires c = within_few c.args.m.count c.within-n.ensures

pub returns : goal.returns
returns c = rooms_told c.args.m _ c.within-n.ensures refl c.frames_of-frames.ensures c.put_rooms.ensures
