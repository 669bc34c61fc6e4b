use mathlib.Core.Path.{◌≡◌}
use Prim.Native.Nat.{◌+◌, ◌*◌, ◌<◌}
use native.Mathlib.Omega.{arith}
use lib.ListN.{length}
use borrow.Rule.Slice.PartMut.{mid_len}
use Rattle.machine.proofs.InWords.{put_part}
use borrow.Author.Rules.{rules}
use Rattle.machine.proofs.words.put_at.Goals as goal

pub returns : goal.returns
returns c =
    let b = c.before in
    let y = c.put_thread.new.t in
    let hi : b.args.i < 8 = search rules in
    let hx : length b.args.words.now ≡ 12336 = search rules in
    let mid = mid_len (b.args.i * 1542) ((b.args.i + 1) * 1542) b.args.words.now (omega (arith, hi, hx)) in
    let hy : length y ≡ 1542 = search (rules, mid) in
    put_part b.args.i b.args.words.now y hi hx hy c.put_thread.ensures
