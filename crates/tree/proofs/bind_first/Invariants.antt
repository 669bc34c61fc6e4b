use Rattle.std.proofs.Common.{◌≡◌, true, false}
use Rattle.uses.specs.Places.{at_first}
use Rattle.tree.specs.Places.{inherit_at}
use Rattle.tree.proofs.bind_first.Given as goal

abbrev pub invariant-loop-i : goal.invariant-loop-i
invariant-loop-i l = (at_first (inherit_at false l.slots l.head l.e) l.n l.initial.vars ≡ at_first (inherit_at false l.slots l.head l.e) l.i l.vars) × (at_first (inherit_at true l.slots l.head l.e) l.n l.initial.locals ≡ at_first (inherit_at true l.slots l.head l.e) l.i l.locals)
