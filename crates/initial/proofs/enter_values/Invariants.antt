use Rattle.initial.specs.Entries.{key_in, ValuesLeft}
use Rattle.initial.proofs.enter_values.Given as goal

abbrev pub invariant-loop-v : goal.invariant-loop-v
invariant-loop-v l = ValuesLeft (key_in l.of l.n) l.types l.values l.m l.nbindings l.initial.bindings l.cells l.bindings l.ncells l.v
