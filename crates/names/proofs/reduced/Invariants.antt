use Rattle.std.proofs.Common.{◌≡◌}
use Rattle.order.specs.Sets.{members, all_of}
use Rattle.names.specs.Ancestors.{reduced_by, maximal_by}
use Rattle.names.proofs.Walk.{Small}
use Rattle.names.proofs.reduced.Given as goal

abbrev pub invariant-loop-n : goal.invariant-loop-n
invariant-loop-n l = (reduced_by l.anc l.s ≡ all_of (maximal_by l.anc l.s) (members l.n-iterator.0)) × Small (members l.n-iterator.0)
