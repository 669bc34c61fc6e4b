-- Demand 3 from the contracts of the public functions alone. Whoever checks a job by `check`, starts it by `start` (or by `built`, from the tables that the check left) and then
-- makes any list of calls of `Machine::step` and `Machine::run`, each on the machine that the last one gave and with the frames as that one left them (at the first they may hold
-- anything), while the job's tables stay as the check or the start left them, gets answers that demand 3 allows. The hypotheses are what these functions ensure, and nothing else.
use Rattle.std.specs.Prelude.{◌≡◌, refl, ℕ, Bool, true, false, List, [], ◌∷◌, map, Ok, Err}
use Rattle.std.proofs.Math.Path.{sym, fun_ext}
use Rattle.std.proofs.Common.{ap, ◌∙◌, subst, arith}
use Rattle.std.proofs.Math.Option.{Option, none, some}
use Rattle.order.specs.Effects.{Effect, of_word}
use Rattle.syntax.specs.Types.{Ty}
use Rattle.syntax.specs.Commands.{Cmd}
use Rattle.syntax.specs.Job.{Job, source_of}
use Rattle.syntax.specs.Reading.{Refusal, Read, read, reading}
use Rattle.syntax.proofs.ReadLaws.{read_ok, or_none}
use Rattle.syntax.specs.Tree.{tree_refusal}
use Rattle.syntax.specs.Words.{code_in}
use Rattle.syntax.specs.WordLaws.{Bytes}
use Rattle.syntax.proofs.WordLaws.{job_fits, code_back}
use Rattle.syntax.specs.Loading.{JobTables, short, filled_with, loading, holding, tables_after_load}
use Rattle.syntax.proofs.LoadLaws.{load_whole, short_load, long_load, long_after, long_with}
use Rattle.typing.specs.Verdict.{accept, refuse, unless, judge, judge_read, verdict_of}
use Rattle.typing.specs.Tables as tables
use Rattle.typing.specs.Tables.{Tables, verdict_with}
use Rattle.semantics.specs.Machine.{System}
use Rattle.semantics.specs.Start.{start_of}
use Rattle.semantics.specs.Starting.{started, unstarted, start_loaded, start_with}
use Rattle.semantics.specs.Threads.{steps_of}
use Rattle.semantics.specs.Calls.{Call, Ran, call, calls, last_of}
use Rattle.semantics.specs.Demand3.{expr_of, steps_in, calls_of, Allowed}
use Rattle.semantics.proofs.Demand3.{demand3_threads}
use Rattle.machine.specs.declared.Machine.{Machine}
use Rattle.machine.specs.View.{seen}
use Rattle.checker.specs.declared.Checked.{Checked}
use Rattle.checker.specs.Answer.{tree_of, verdict_in, CheckTo}
use Rattle.start.specs.declared.Opened.{Opened}
use Rattle.start.specs.Starts.{Told, told_in, started_in, Starts}
use Rattle.start.proofs.Starts.{ready_built}
use Rattle.safety.specs.Accepting.{Accepting}
use Rattle.safety.proofs.Accepting.{accepting, if_accepted, after_accept}
use Rattle.safety.specs.FromContracts.{AllCalled, Called, Demand3Of, Gave, Opening, StartsJob, ThreadsSafe, built_check, by_run, by_step, last_seen, next_call, no_call, ran_of, start_check, start_start}

-- a list of calls gives what `calls` says
called : {heads slots : List ℕ} {m : Machine} {fs : List ℕ} {c : Call} {g : Gave} → Called heads slots m fs c g → ran_of g ≡ call (steps_of (code_in heads slots)) c (seen m fs)
called (by_step e) = e
called (by_run e) = e

all_called : {heads slots : List ℕ} {m : Machine} {fs : List ℕ} {cs : List Call} {gs : List Gave} → AllCalled heads slots m fs cs gs → map ran_of gs ≡ calls (steps_of (code_in heads slots)) cs (seen m fs)
unfolding calls
all_called no_call = refl
all_called {heads} {slots} (next_call {cs = cs} {g = g} h t) =
    ap (λ l. ran_of g ∷ l) (all_called t) ∙ ap (λ (r : Ran). r ∷ calls (steps_of (code_in heads slots)) cs r.machine) (called h)

all_last : {heads slots : List ℕ} {m : Machine} {fs : List ℕ} {cs : List Call} {gs : List Gave} → AllCalled heads slots m fs cs gs → last_seen m fs gs ≡ last_of (steps_of (code_in heads slots)) cs (seen m fs)
unfolding last_seen last_of
all_last no_call = refl
all_last {heads} {slots} (next_call {cs = cs} h t) = all_last t ∙ ap (λ (r : Ran). last_of (steps_of (code_in heads slots)) cs r.machine) (called h)

-- what demand 3 says of every thread, of the job that the bytes are
pub threads_of : (bytes : List ℕ) (J : Job) {T : Ty} {e : Effect} → verdict_of bytes ≡ accept T e → reading bytes ≡ read J → (cs : List Call) {s : System} → s ≡ last_of (steps_in J) cs (start_of (source_of J))
    → ThreadsSafe J s
threads_of bytes J v r cs {s} e = subst (λ (m : System). ThreadsSafe J m) (sym e) (at (demand3_threads bytes v))
  where
    at : (K : Job) × (reading bytes ≡ read K) × ((ds : List Call) → ThreadsSafe K (last_of (steps_in K) ds (start_of (source_of K)))) → ThreadsSafe J (last_of (steps_in J) cs (start_of (source_of J)))
    at (K, q, f) = let z : read K ≡ read J = sym q ∙ r in let k : K ≡ J = cc in subst (λ (L : Job). ThreadsSafe L (last_of (steps_in L) cs (start_of (source_of L)))) k (f cs)

-- an accepted job is free of 8 to 10
pub accepted_tree : (bytes : List ℕ) (J : Job) {T : Ty} {e : Effect} → verdict_of bytes ≡ accept T e → reading bytes ≡ read J → tree_refusal (source_of J) ≡ none
unfolding verdict_of judge_read judge unless
accepted_tree bytes J {T} {e} v i = at (tree_refusal (source_of J)) refl (sym (ap judge_read i) ∙ v)
  where
    at : (o : Option Refusal) → tree_refusal (source_of J) ≡ o → judge (source_of J) ≡ accept T e → o ≡ none
    at none f g = refl
    at (some q) f g = absurd (let h : refuse q ≡ accept T e = rw f at g in let z : ◌≡◌ {A = ℕ} 0 1 = cc in omega arith)

-- so it is loaded
pub accepted_loads : (bytes : List ℕ) (J : Job) {T : Ty} {e : Effect} → verdict_of bytes ≡ accept T e → reading bytes ≡ read J → loading bytes ≡ read J
accepted_loads bytes J v i = load_whole bytes J i (accepted_tree bytes J v i)

-- and starts
pub start_is : (w : JobTables) (bytes : List ℕ) (J : Job) → short w ≡ false → loading bytes ≡ read J → start_with w bytes ≡ started (start_of (source_of J))
unfolding start_with start_loaded
start_is w bytes J h i = ap start_loaded (long_load w bytes h ∙ i)

-- and its tables hold its expressions
pub loaded_code : (bytes : List ℕ) (J : Job) → Bytes bytes → reading bytes ≡ read J → loading bytes ≡ read J → (w : JobTables) {y : JobTables} → short w ≡ false → y ≡ tables_after_load w bytes
    → (k : ℕ) → code_in y.heads y.slots k ≡ expr_of J k
unfolding holding filled_with
loaded_code bytes J by i l w h e k =
    rw (e ∙ long_after w bytes h ∙ ap (λ (R : Read). holding R w) l) (code_back J (read_ok bytes J i) (job_fits bytes J by i) _ _ k)

-- a start that says so had tables long enough
was_long : {bytes : List ℕ} {o : Opened} {w y : JobTables} → Starts bytes o w y → o.told ≡ Ok tt → short w ≡ false
unfolding start_with start_loaded
was_long {bytes} {o} {w} {y} h e = at (short w) refl (sym (ap (λ (u : Told). told_in u (seen o.machine [])) e) ∙ h.answer [])
  where
    at : (b : Bool) → short w ≡ b → started (seen o.machine []) ≡ start_with w bytes → b ≡ false
    at true f g =
        absurd (let k : started (seen o.machine []) ≡ unstarted (record { number = 1; place = 0 }) = g ∙ ap start_loaded (short_load w bytes f) in let z : ◌≡◌ {A = ℕ} 0 1 = cc in omega arith)
    at false f g = refl

-- the answer of a start that is the machine m
says_started : (o : Opened) {m : System} → ((fs : List ℕ) → started_in o fs ≡ started m) → (o.told ≡ Ok tt) × ((fs : List ℕ) → seen o.machine fs ≡ m)
says_started o {m} h = (at o.told (h []), λ fs. is o.told fs (h fs))
  where
    at : (u : Told) → told_in u (seen o.machine []) ≡ started m → u ≡ Ok tt
    at (Ok u) g = refl
    at (Err k) g = absurd (let z : ◌≡◌ {A = ℕ} 0 1 = cc in omega arith)

    is : (u : Told) (fs : List ℕ) → told_in u (seen o.machine fs) ≡ started m → seen o.machine fs ≡ m
    is (Ok u) fs g = cc
    is (Err k) fs g = absurd (let z : ◌≡◌ {A = ℕ} 0 1 = cc in omega arith)

-- tables that the check found long enough are so for the start
still_long : (J : Job) (w : Tables) → tables.short w ≡ false → short (tables.filled_by J w).job ≡ false
unfolding tables.short tables.filled_by
still_long J w e = long_with _ J w.job (or_none _ _ (or_none _ _ e).0).0

module _ (bytes : List ℕ) (by : Bytes bytes) {r : Checked} {w x : Tables} (c : CheckTo bytes (Ok r) w x) where
  its : Accepting bytes r.shape (tree_of x.job.types x.job.sets r.accepted.entry) (of_word r.accepted.effect) x
  its = accepting bytes by r w x c

  its_loads : loading bytes ≡ read its.job
  its_loads = accepted_loads bytes its.job its.verdict its.is

  -- accepted bytes start, with any tables that are long enough
  pub accepted_starts : {o : Opened} {u y : JobTables} → Starts bytes o u y → short u ≡ false → StartsJob bytes o
  accepted_starts {o} {u} h l =
      let z = says_started o (λ fs. h.answer fs ∙ start_is u bytes its.job l its_loads) in
      record { job = its.job; is = its.is; says = z.0; machine = z.1 }

  -- and with the tables that the check left
  pub checked_starts : {o : Opened} {y : JobTables} → Starts bytes o x.job y → StartsJob bytes o
  unfolding verdict_in verdict_with
  checked_starts h =
      let a : accept (tree_of x.job.types x.job.sets r.accepted.entry) (of_word r.accepted.effect) ≡ verdict_with w bytes = c.verdict in
      let b = if_accepted (tables.short w) _ (verdict_of bytes) _ _ a in
      let t : x ≡ tables.filled_by its.job w = c.tables ∙ after_accept w bytes its.job b.0 its.verdict its.is in
      accepted_starts h (ap (λ (y : Tables). short y.job) t ∙ still_long its.job w b.0)

  start_code : {o : Opened} {u y : JobTables} → Starts bytes o u y → o.told ≡ Ok tt → (k : ℕ) → code_in y.heads y.slots k ≡ expr_of its.job k
  start_code {u = u} h e k = loaded_code bytes its.job by its.is its_loads u (was_long h e) h.tables k

  -- every opening has the job's start and its expressions
  opened : {m : Machine} {heads slots : List ℕ} → Opening bytes r x m heads slots → ((fs : List ℕ) → seen m fs ≡ start_of (source_of its.job)) × ((k : ℕ) → code_in heads slots k ≡ expr_of its.job k)
  unfolding its accepted_starts
  opened (start_start o u y h e) = ((accepted_starts h (was_long h e)).machine, start_code h e)
  opened (start_check o u y h e) = ((accepted_starts h (was_long h e)).machine, its.code)
  opened (built_check m h) = (λ fs. h fs ∙ ready_built its.ready, its.code)

  pub demand3_from_contracts : {m : Machine} {heads slots : List ℕ} → Opening bytes r x m heads slots → {fs : List ℕ} {cs : List Call} {gs : List Gave} → AllCalled heads slots m fs cs gs → Demand3Of bytes m fs cs gs
  demand3_from_contracts {m} {heads} {slots} o {fs} {cs} {gs} h =
      let z = opened o in
      let e : map ran_of gs ≡ calls_of its.job cs =
      all_called h ∙ ap (λ (k : ℕ → Cmd ℕ). calls (steps_of k) cs (seen m fs)) (fun_ext z.1) ∙ ap (calls (steps_in its.job) cs) (z.0 fs) in
      let l : last_seen m fs gs ≡ last_of (steps_in its.job) cs (start_of (source_of its.job)) =
      all_last h ∙ ap (λ (k : ℕ → Cmd ℕ). last_of (steps_of k) cs (seen m fs)) (fun_ext z.1) ∙ ap (last_of (steps_in its.job) cs) (z.0 fs) in
      record {
        job = its.job;
        is = its.is;
        actual = e;
        allowed = subst (λ l. Allowed its.job cs l) (sym e) (its.allowed cs);
        threads = threads_of bytes its.job its.verdict its.is cs l;
      }
