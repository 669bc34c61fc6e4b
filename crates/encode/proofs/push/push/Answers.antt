use native.Mathlib.Omega.{arith}
use mathlib.Core.Path.{◌≡◌}
use lib.ListN.{length}
use borrow.Author.Rules.{rules}
use Rattle.encode.proofs.Laying.{pushed_copy}
use Rattle.encode.proofs.push.push.Goals as goal

pub returns : goal.returns
returns g c =
    let long : g.row.N ≡ length c.args.bytes = search rules in
    pushed_copy _ _ _ _ _ long (omega (arith, c.told-out, c.requires)) c.copy_from_slice.ensures.after
