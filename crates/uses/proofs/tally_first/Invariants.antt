use Rattle.std.proofs.Common.{◌≡◌}
use Rattle.uses.specs.Places.{at_first, tally_at}
use Rattle.uses.proofs.tally_first.Given as goal

abbrev pub invariant-loop-i : goal.invariant-loop-i
invariant-loop-i l = at_first (tally_at l.slots l.e) l.n l.initial.counts ≡ at_first (tally_at l.slots l.e) l.i l.counts
