use Rattle.std.proofs.Common.{◌≡◌}
use Rattle.order.specs.Sets.{members, set_of, keep}
use Rattle.std.specs.Int.Bits.{bit_or}
use Rattle.names.specs.Ancestors.{reduce_by, maximal_by}
use Rattle.names.proofs.Walk.{Small}
use Rattle.names.proofs.reduce.Given as goal

abbrev pub invariant-loop-n : goal.invariant-loop-n
invariant-loop-n l = (reduce_by l.anc l.s ≡ bit_or l.acc (set_of (keep (maximal_by l.anc l.s) (members l.n-iterator.0)))) × Small (members l.n-iterator.0)
