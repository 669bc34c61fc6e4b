use Prim.Native.Nat.{◌+◌}
use Rattle.names.specs.Ancestors.{names_in}
use Rattle.initial.specs.Entries.{NamesEntered}
use Rattle.initial.proofs.enter_names.Given as goal

abbrev pub invariant-loop-k : goal.invariant-loop-k
invariant-loop-k l = NamesEntered (names_in l.names l.k) l.keys l.of l.bindings l.nkeys (l.k + 2)
