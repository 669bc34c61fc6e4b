use Rattle.std.proofs.Common.{◌≡◌}
use Rattle.order.specs.Sets.{members, set_of, keep}
use Rattle.std.specs.Int.Bits.{bit_or}
use Rattle.names.specs.Ancestors.{drop_by, stays_by}
use Rattle.names.proofs.Walk.{Small}
use Rattle.names.proofs.drop_below.Given as goal

abbrev pub invariant-loop-n : goal.invariant-loop-n
invariant-loop-n l = (drop_by l.anc l.r.0 l.s ≡ bit_or l.acc (set_of (keep (stays_by l.anc l.r.0) (members l.n-iterator.0)))) × Small (members l.n-iterator.0)
