-- Demand 3, from the bytes: whatever the bytes of a job, if the check accepts it, then every list of calls, each a turn or a run with any allowances, made one after another from
-- the machine that starting the job gives, gets only the answers that document 01 allows, each exactly when document 01 has it, as document 02 means it of several threads: "The promise about stuck
-- and denied now covers every thread after any count of turns." `AllGive` says which those are, by "finished" and "needs a place that is not there", which are defined apart from the step; stuck and
-- denied are not among them.
use Rattle.std.specs.Prelude.{◌≡◌, ℕ, false}
use Rattle.std.proofs.Common.{sym, subst}
use mathlib.Core.List.{List, Memᴰ}
use Rattle.std.proofs.Math.Option.{some}
use Rattle.std.proofs.Math.ListN.{get_elem?}
use Rattle.order.specs.Effects.{Effect}
use Rattle.syntax.specs.Types.{Ty, tree}
use Rattle.syntax.specs.Commands.{map_cmd}
use Rattle.syntax.specs.Job.{Job, source_of}
use Rattle.syntax.specs.Reading.{read, reading}
use Rattle.syntax.proofs.ReadFormed.{read_well, nth_map}
use Rattle.typing.specs.Verdict.{accept, verdict_of}
use Rattle.typing.proofs.Demand2.{accepts_typed}
use Rattle.typing.specs.Rules.{code_of}
use Rattle.semantics.specs.Machine.{Thread, System}
use Rattle.semantics.specs.Start.{start_of}
use Rattle.semantics.specs.Wants.{needs, wrong, shut}
use Rattle.semantics.specs.Threads.{Steps, alone}
use Rattle.semantics.specs.Calls.{Call, Ran, calls, last_of, AllGive, all_cons, all_nil}
use Rattle.semantics.proofs.TypeFree.{steps_same}
use Rattle.semantics.proofs.TurnLaws.{lawful}
use Rattle.semantics.specs.CallLaws.{steps}
use Rattle.semantics.proofs.Only.{all_one}
use Rattle.semantics.specs.Safety.{Fine}
use Rattle.semantics.proofs.Safety.{fine, safety, threads_safe}
use Rattle.semantics.specs.Demand3.{Allowed, calls_of, expr_of, steps_in}

-- the rules see the same expressions with trees for types
pub same_steps : (J : Job) → steps (source_of J) ≡ steps_in J
unfolding source_of
same_steps J = steps_same (tree J.types) (expr_of J) (code_of (source_of J)) same
  where
    same : (e : ℕ) → code_of (source_of J) e ≡ map_cmd (tree J.types) (expr_of J e)
    same e = nth_map (tree J.types) J.cmds e

-- no hypothesis but acceptance
pub demand3 : (s : List ℕ) {T : Ty} {e : Effect} → verdict_of s ≡ accept T e → (J : Job) × (reading s ≡ read J) × ((cs : List Call) → Allowed J cs (calls_of J cs))
demand3 s h =
    let z = accepts_typed s h in
    (z.0, z.1, λ cs. from z.0 cs (safety (source_of z.0) (read_well s z.0 z.1) z.2.has z.2.within cs))
  where
    from : (J : Job) (cs : List Call) → AllGive (steps (source_of J)) cs (start_of (source_of J)) (calls (steps (source_of J)) cs (start_of (source_of J))) → Allowed J cs (calls_of J cs)
    from J cs g = subst (λ K. AllGive K cs (start_of (source_of J)) (calls K cs (start_of (source_of J)))) (same_steps J) g

-- "The promise about stuck and denied now covers every thread after any count of turns": after every list of calls, so after any count of turns, of every thread that there is, also where its turn is not
-- next, the next step finds no wrong kind, no missing entry and no shut key. Both are defined apart from the step (`Wants`)
pub demand3_threads : (s : List ℕ) {T : Ty} {e : Effect} → verdict_of s ≡ accept T e
    → (J : Job) × (reading s ≡ read J) × ((cs : List Call) (i : ℕ) (t : Thread) → let m = last_of (steps_in J) cs (start_of (source_of J)) in get_elem? m.threads i ≡ some t
    → (wrong (needs (expr_of J)) (alone m t) ≡ false) × (shut (needs (expr_of J)) (alone m t) ≡ false))
demand3_threads s h =
    let z = accepts_typed s h in
    (z.0, z.1, λ cs i t. from z.0 cs i t (threads_safe (source_of z.0) (read_well s z.0 z.1) z.2.has z.2.within cs i t))
  where
    Safe : Job → List Call → ℕ → Thread → Steps → Type 0
    Safe J cs i t K =
        let m = last_of K cs (start_of (source_of J)) in
        get_elem? m.threads i ≡ some t → (wrong K.needs (alone m t) ≡ false) × (shut K.needs (alone m t) ≡ false)

    from : (J : Job) (cs : List Call) (i : ℕ) (t : Thread) → Safe J cs i t (steps (source_of J)) → Safe J cs i t (steps_in J)
    from J cs i t g = subst (λ K. Safe J cs i t K) (same_steps J) g

-- and nothing else is allowed: what a list of calls may give is what it gives
pub demand3_one : (J : Job) (cs : List Call) (l : List Ran) → Allowed J cs l → Allowed J cs (calls_of J cs) → calls_of J cs ≡ l
demand3_one J cs l g h = all_one (lawful (expr_of J)) h g

-- in plain words: each answer is taken, finished, spent or no room; none is stuck or denied
all_fine : {K : Steps} {cs : List Call} {m : System} {l : List Ran} → AllGive K cs m l → (r : Ran) → Memᴰ r l → Fine r.answer
all_fine {K = K} (all_nil {s = s}) r x5 = elim x5 [ ]
all_fine (all_cons g h) r (Memᴰ.head e) = subst (λ q. Fine q.answer) (sym e) (fine g)
all_fine (all_cons g h) r (Memᴰ.tail i) = all_fine h r i

pub demand3_answers : (s : List ℕ) {T : Ty} {e : Effect} → verdict_of s ≡ accept T e
    → (J : Job) × (reading s ≡ read J) × ((cs : List Call) (r : Ran) → Memᴰ r (calls_of J cs) → Fine r.answer)
demand3_answers s h = let z = demand3 s h in (z.0, z.1, λ cs. all_fine (z.2 cs))
