use mathlib.Core.Path.{◌≡◌}
use Prim.Native.Nat.{◌+◌, ◌*◌, ◌<◌}
use lib.ListN.{length}
use borrow.Rule.Slice.PartMut.{mid_len}
use native.Mathlib.Omega.{arith}
use borrow.Author.Rules.{rules}
use Rattle.machine.proofs.Parts.{part_is, part_here, part_there}
use Rattle.machine.proofs.turns.visit.Goals as goal

pub returns : goal.returns
returns c =
    let b = c.before in
    let y = c.step.new.t in
    let hi : b.args.i < 8 = search rules in
    let hx : length b.args.words.now ≡ 12336 = search rules in
    let mid = mid_len (b.args.i * 1542) ((b.args.i + 1) * 1542) b.args.words.now (omega (arith, hi, hx)) in
    let hy : length y ≡ 1542 = search (rules, mid) in record {
      its = (λ ts.
          rw (
            part_here b.args.i b.args.words.now y hi hx hy,
            part_is b.args.i b.args.words.now,
          )
          (c.step.ensures ts));
      others = part_there b.args.i b.args.words.now y hi hx hy;
    }
