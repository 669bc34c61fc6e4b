use Rattle.equality.specs.Known.{Known}
use mathlib.Core.Path.{◌≡◌}
use Prim.Native.Nat.{◌≤◌, ◌+◌, ◌-◌, ◌*◌}
use lib.ListN.{length}
use Rattle.elaborate.specs.Pass.{work, typed_from}
use Rattle.elaborate.proofs.type_all.Given as goal

abbrev pub invariant-loop-e : goal.invariant-loop-e
invariant-loop-e l =
    (l.count ≤ l.n + 2 * l.e) × (length l.types ≡ length l.initial.types) × (length l.sets ≡ length l.initial.sets) × (length l.entries ≡ length l.initial.entries) × (length l.effects ≡ length l.initial.effects) × (typed_from l.anc l.names l.vars l.heads l.slots l.cmds 0 (work l.n l.initial.types l.initial.sets l.initial.entries l.initial.effects) ≡ typed_from l.anc l.names l.vars l.heads l.slots (l.cmds - l.e) l.e (work l.count l.types l.sets l.entries l.effects)) × (length l.known ≡ length l.initial.known) × Known l.anc l.types l.sets l.known
