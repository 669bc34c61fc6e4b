use mathlib.Core.Path.{◌≡◌, subst}
use Prim.Native.Nat.{ℕ}
use native.Mathlib.Omega.{arith}
use mathlib.Core.List.{List}
use lib.ListN.{get_elem?, length-set}
use Rattle.semantics.specs.Threads.{live_thread}
use Rattle.machine.specs.Scheduled.{thread_at, listed, marked}
use Rattle.machine.proofs.Marks.{marks_none, marks_more}
use Rattle.machine.proofs.run.marks.Goals as goal

pub loop-i-init : goal.loop-i-init
loop-i-init c = (omega arith, omega arith, marks_none c.args.threads)

pub offset_bounds-threads-i : goal.offset_bounds-threads-i
offset_bounds-threads-i c = omega arith

pub bounds-threads-i : goal.bounds-threads-i
bounds-threads-i c = omega arith

pub mark-requires : goal.mark-requires
mark-requires c = tt

pub bounds-live-i : goal.bounds-live-i
bounds-live-i c = omega arith

pub loop-i-smaller : goal.loop-i-smaller
loop-i-smaller c = omega arith

pub loop-i-preserved : goal.loop-i-preserved
loop-i-preserved c = (
  simp length-set c.loop-i.invariant.0,
  omega arith,
  marks_more _ _ _ _ (omega arith) c.mark.ensures c.loop-i.invariant.2,
)

pub returns : goal.returns
returns c =
    let z : c.loop-i.i ≡ c.args.count = omega arith in
    subst (λ (n : ℕ). (fs : List ℕ) (j : ℕ) → marked c.loop-i.live j ≡ live_thread (get_elem? (listed (thread_at c.args.threads fs) n) j)) z
    c.loop-i.invariant.2
