use Rattle.encode.proofs.Laying.{room_after, two_length, pushed_then}
use Rattle.encode.proofs.push.four.Goals as goal

pub two-requires : goal.two-requires
two-requires c = room_after 4 4 (two_length _ _) c.two-p.ensures c.requires

pub returns : goal.returns
returns c = pushed_then c.two-p.ensures c.two.ensures
