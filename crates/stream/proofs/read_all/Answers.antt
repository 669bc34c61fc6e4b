use Rattle.std.proofs.Common.{◌≤◌, length, arith}
use Rattle.stream.proofs.Parts.{read_within, Consumes-more}
use Rattle.stream.proofs.read_all.Goals as goal

pub loop-n-preserved : goal.loop-n-preserved
loop-n-preserved g c =
    let within : c.loop-n.n ≤ length c.loop-n.job = omega arith in
    record {
      within = read_within c.loop-n.n c.in-Ok.more _ c.read.new.buf _ within c.in-Ok.ensures.bound.0;
      bytes = Consumes-more _ _ _ c.loop-n.n c.in-Ok.more _ _ _ within c.in-Ok.ensures.bound.0 c.loop-n.invariant.bytes c.in-Ok.ensures.bytes.0;
    }
