use mathlib.Core.List.{[]}
use Rattle.syntax.specs.Words.{code_in}
use Rattle.acts.specs.View.{tables}
use Rattle.machine.specs.Ahead.{Leads}
use Rattle.machine.proofs.Advancing.{measure}
use Rattle.machine.proofs.turns.turns.Given as goal

abbrev pub invariant-loop-t : goal.invariant-loop-t
invariant-loop-t l = Leads (code_in l.heads l.slots) l.initial.t.scheduler (tables [] l.initial.words l.initial.cells l.initial.keys l.initial.pairs l.initial.functions l.initial.bindings) l.t (tables [] l.words l.cells l.keys l.pairs l.functions l.bindings)

abbrev pub decreases-loop-t : goal.decreases-loop-t
decreases-loop-t l = measure l.t
