use mathlib.Core.Path.{◌≡◌}
use Prim.Native.Nat.{ℕ, ◌≤◌}
use mathlib.Core.List.{List}
use lib.ListN.{length, get_elem?}
use Rattle.semantics.specs.Threads.{live_thread}
use Rattle.machine.specs.Scheduled.{thread_at, listed, marked}
use Rattle.machine.proofs.run.marks.Given as goal

abbrev pub invariant-loop-i : goal.invariant-loop-i
invariant-loop-i l = (length l.live ≡ 8) × (l.i ≤ l.count) × ((fs : List ℕ) (j : ℕ) → marked l.live j ≡ live_thread (get_elem? (listed (thread_at l.threads fs) l.i) j))
