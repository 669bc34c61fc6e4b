use Rattle.std.proofs.Common.{◌-◌, ◌≤◌, drop, arith}
use Rattle.stream.proofs.Parts.{taken_within, Appends-more}
use Rattle.stream.proofs.write.Goals as goal

pub loop-done-preserved : goal.loop-done-preserved
loop-done-preserved g c =
    let done = c.loop-done.done in
    let left = c.args.n - done in
    let within : c.in_ok-more.more ≤ left = taken_within _ left (drop done c.args.bytes.now) c.in_ok-more.ensures.bound in
    record {
      within = omega arith;
      bytes = Appends-more _ _ _ done left _ c.args.bytes.now within c.loop-done.invariant.bytes c.in_ok-more.ensures.bytes;
    }
