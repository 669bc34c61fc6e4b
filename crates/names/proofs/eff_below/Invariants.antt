use Rattle.std.proofs.Common.{◌≡◌}
use Rattle.order.specs.Sets.{members, all_of}
use Rattle.names.specs.Ancestors.{eff_below_by, meets_by}
use Rattle.names.proofs.eff_below.Given as goal

abbrev pub invariant-loop-n : goal.invariant-loop-n
invariant-loop-n l = eff_below_by l.anc l.s l.t ≡ all_of (meets_by l.anc l.t) (members l.n-iterator.0)
