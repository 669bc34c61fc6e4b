use mathlib.Core.List.{[]}
use Rattle.acts.specs.View.{tables}
use Rattle.machine.proofs.Rounding.{PriorTo}
use Rattle.machine.proofs.turns.rounds.Given as goal

abbrev pub invariant-loop-left : goal.invariant-loop-left
invariant-loop-left l =
    PriorTo l.heads l.slots l.n l.initial.i l.known l.initial.rest l.initial.used (tables [] l.initial.words l.initial.cells l.initial.keys l.initial.pairs l.initial.functions l.initial.bindings) l.rest (tables [] l.words l.cells l.keys l.pairs l.functions l.bindings) l.i l.prior l.used l.left

abbrev pub decreases-loop-left : goal.decreases-loop-left
decreases-loop-left l =
    l.left
