use Rattle.std.proofs.Common.{◌≡◌}
use Rattle.names.specs.Ancestors.{ancestors_by, names_in}
use Rattle.names.proofs.ancestors.Given as goal

abbrev pub invariant-loop-k : goal.invariant-loop-k
invariant-loop-k l = l.anc ≡ ancestors_by (names_in l.names l.k)
