use Rattle.std.proofs.Common.{◌≡◌}
use Rattle.uses.specs.Places.{at_first}
use Rattle.tree.specs.Places.{pass_at}
use Rattle.tree.proofs.pass_first.Given as goal

abbrev pub invariant-loop-i : goal.invariant-loop-i
invariant-loop-i l = (at_first (pass_at l.slots l.e) l.n l.initial.vars ≡ at_first (pass_at l.slots l.e) l.i l.vars) × (at_first (pass_at l.slots l.e) l.n l.initial.locals ≡ at_first (pass_at l.slots l.e) l.i l.locals)
