use mathlib.Core.Path.{◌≡◌}
use Prim.Native.Nat.{◌-◌}
use Rattle.rules.specs.Commands.{slots_from, keys_by, limit_by}
use Rattle.rules.proofs.limit.Given as goal

abbrev pub invariant-loop-j : goal.invariant-loop-j
invariant-loop-j l = limit_by l.table.anc.now l.table.types.now l.table.sets.now l.slots l.entries l.effects l.at l.n ≡ keys_by l.table.anc.now l.table.types.now l.table.sets.now l.slots l.entries l.effects l.at (slots_from l.slots l.j (l.j-end - l.j)) l.rs l.s
