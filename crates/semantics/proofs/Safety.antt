-- The claim: from the start of a job that is well read and well typed, with an effect below its rights, every list of calls gives only what it may, whichever thread's turn it is. Each
-- step is taken, or all threads are finished, or the step lacks room; each run ends finished, spent or without room after the steps counted. No answer is "stuck" or
-- "denied".
use Rattle.std.specs.Prelude.{◌≡◌, ℕ, false, List}
use Rattle.std.proofs.Math.Option.{some}
use Rattle.std.proofs.Math.ListN.{get_elem?}
use Rattle.order.specs.Effects.{Effect, EffBelow}
use Rattle.syntax.specs.Types.{Ty}
use Rattle.syntax.specs.Job.{Src, up_of}
use Rattle.syntax.specs.Tree.{host_ctx, root}
use Rattle.syntax.specs.WellRead.{WellRead}
use Rattle.typing.specs.Rules.{Has}
use Rattle.semantics.specs.Machine.{Thread, System}
use Rattle.semantics.specs.Start.{start_of}
use Rattle.semantics.specs.Wants.{wrong, shut}
use Rattle.semantics.specs.Threads.{Steps, alone}
use Rattle.semantics.specs.Calls.{Call, Ran, calls, last_of, Policy, RunGives, run_finished, run_spent, run_noroom, Gives, step_taken, step_finished, step_noroom, run_gives, AllGive}
use Rattle.semantics.proofs.Begin.{start_ok}
use Rattle.semantics.proofs.AllThreads.{begun_ok, thread_safe}
use Rattle.semantics.specs.CallLaws.{steps}
use Rattle.semantics.proofs.CallLaws.{calls_give, all_given, last_ok}
use Rattle.semantics.specs.Safety.{Fine, fine_finished, fine_noroom, fine_spent, fine_taken}

pub safety : (S : Src) → WellRead S → {T : Ty} {s : Effect} → Has S (host_ctx S) (root S) T s → EffBelow (up_of S) s S.rights
    → (cs : List Call) → AllGive (steps S) cs (start_of S) (calls (steps S) cs (start_of S))
safety S w h u cs = calls_give S cs (start_of S) (begun_ok S (start_ok S w h u))

-- the other way round: what the calls may give is what they give
pub exactly : (S : Src) → WellRead S → {T : Ty} {s : Effect} → Has S (host_ctx S) (root S) T s → EffBelow (up_of S) s S.rights
    → (cs : List Call) (l : List Ran) → AllGive (steps S) cs (start_of S) l → calls (steps S) cs (start_of S) ≡ l
exactly S w h u cs l g = all_given S (begun_ok S (start_ok S w h u)) g

-- "covers every thread after any count of turns": after every list of calls, every thread that there is, whether or not its turn is next
pub threads_safe : (S : Src) → WellRead S → {T : Ty} {s : Effect} → Has S (host_ctx S) (root S) T s → EffBelow (up_of S) s S.rights
    → (cs : List Call) (i : ℕ) (t : Thread) → let m = last_of (steps S) cs (start_of S) in get_elem? m.threads i ≡ some t
    → (wrong (steps S).needs (alone m t) ≡ false) × (shut (steps S).needs (alone m t) ≡ false)
threads_safe S w h u cs i t e = thread_safe S (last_of (steps S) cs (start_of S)) (last_ok S cs (start_of S) (begun_ok S (start_ok S w h u))) i t e

fine_run : {K : Steps} {may : Policy} {c : List ℕ} {s : System} {r : Ran} → RunGives K may c s r → Fine r.answer
fine_run (run_finished h e) = fine_finished
fine_run (run_spent h e f) = fine_spent
fine_run (run_noroom h a l) = fine_noroom

pub fine : {K : Steps} {s : System} {c : Call} {r : Ran} → Gives K s c r → Fine r.answer
fine (step_taken a l e) = fine_taken
fine (step_finished d) = fine_finished
fine (step_noroom a l) = fine_noroom
fine (run_gives h c) = fine_run h
