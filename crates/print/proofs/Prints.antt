-- The lines that the functions put together are the desk program's.
use mathlib.Core.Path.{◌≡◌, refl, sym, ap, ◌∙◌, fun_ext}
use Prim.Native.Nat.{ℕ, min, ◌%◌, ◌≤◌, ◌<◌}
use native.Mathlib.Omega.{arith}
use mathlib.Core.Bool.{Bool, true, false, cond, not, false≢true}
use mathlib.Core.List.{List, [], ◌++◌, append-nil}
use mathlib.Core.Logic.{◌⊎◌, inl, inr}
use lib.ListN.{length, get_elem?, get_or, take}
use lib.Seq.{length-take-le}
use Rattle.std.proofs.lemmas.List.{take_min}
use lib.Dec.{eqb}
use borrow.Author.Tests.{ne_eqb}
use Rattle.order.specs.Effects.{Effect, of_word}
use mathlib.Core.Option.{none, some}
use Rattle.syntax.specs.Types.{Ty, e_num, entry_tree, tree_in}
use Rattle.syntax.specs.Commands.{Cmd}
use Rattle.syntax.specs.Job.{Job, Src, source_of}
use Rattle.syntax.specs.Reading.{read, reading}
use Rattle.syntax.specs.Words.{code_in, entry_bits, entry_in}
use Rattle.syntax.specs.WordLaws.{Bytes}
use Rattle.typing.specs.Verdict.{accept, verdict_of}
use Rattle.typing.specs.Tables.{Tables, short}
use Rattle.semantics.specs.Machine.{System, most_threads}
use Rattle.semantics.specs.Start.{start_of}
use Rattle.semantics.specs.Room.{done_at}
use Rattle.semantics.specs.Threads.{steps_of, live_thread, all_done, handed_on, value_of}
use Rattle.semantics.specs.Calls.{taken, finished, spent, noroom, stuck, denied, run_of, Ran, no_steps, allowed, call}
use Rattle.semantics.proofs.TurnLaws.{lawful, done_live, value_is}
use Rattle.semantics.specs.RunLaws.{RunSays, run_done, run_spent, run_stuck, run_denied, run_noroom, Says, run_says}
use Rattle.semantics.proofs.RunLaws.{says_exactly}
use Rattle.semantics.proofs.CountLaws.{run_counted}
use Rattle.semantics.proofs.Rounds.{takes_grown}
use Rattle.semantics.specs.Demand3.{expr_of, steps_in}
use Rattle.semantics.proofs.Demand3.{same_steps}
use Rattle.store.specs.declared.Value.{Value as Held}
use Rattle.table.specs.declared.Expr.{Expr}
use Rattle.store.specs.Meaning.{value_in, kind_in}
use Rattle.store.specs.Words.{word_in}
use Rattle.machine.specs.declared.Machine.{Machine}
use Rattle.machine.specs.declared.Outcome.{Outcome}
use Rattle.machine.specs.declared.Answer.{Answer}
use Rattle.machine.specs.declared.Answer.TheVariants.{Taken, Stuck, Denied}
use Rattle.acts.specs.declared.Control.TheVariants.{Enter, Hand}
use Rattle.acts.specs.Meaning.{control_in}
use Rattle.store.specs.Tables.{capped}
use Rattle.machine.specs.Scheduled.{idle, thread_at}
use Rattle.machine.specs.Listed.{listed_length, listed_get}
use Rattle.machine.specs.View.{seen, answer_in, ran_in}
use Rattle.store.specs.declared.Kind.{Kind}
use Rattle.store.specs.declared.Kind.TheVariants.{Number, Pair, Cell, Function, Limit, Grant}
use Rattle.output.specs.Lines.{refused_line, accepted_line, ran_line, ran_of, run_line, run_read, reported, desk_of, most_bytes, desk_allows, printed}
use Rattle.format.specs.Text.{joined, type_sort, kind_sort, kind_number, accepted_as, done_as, spent_as, no_room_as}
use Rattle.format.specs.Laws.{accepted_line_lem, accepted_done, accepted_spent, accepted_no_room}
use Rattle.checker.specs.declared.Checked.{Checked}
use Rattle.std.specs.Prelude.{Ok, Err}
use Rattle.table.specs.declared.Refusal.{Refusal}
use Rattle.checker.specs.Answer.{tree_of, CheckTo}
use Rattle.safety.specs.Accepting.{Accepting}
use Rattle.safety.proofs.Accepting.{accepting, refusing}
use Rattle.start.specs.Starts.{Ready}

-- the kind of a type, by its byte
module _ (byte q a b s : ℕ) (f : ℕ → Ty) where
  pub is_pair : byte ≡ 0x11 → Pair ≡ type_sort (entry_tree (entry_bits byte q a b s) f)
  unfolding entry_bits entry_tree type_sort
  is_pair e = rw e

  pub is_cell_lem : byte ≡ 0x12 → Cell ≡ type_sort (entry_tree (entry_bits byte q a b s) f)
  unfolding entry_bits entry_tree type_sort
  is_cell_lem e = rw e

  pub is_function : byte ≡ 0x13 → Function ≡ type_sort (entry_tree (entry_bits byte q a b s) f)
  unfolding entry_bits entry_tree type_sort
  is_function e = rw e

  pub is_limit : byte ≡ 0x14 → Limit ≡ type_sort (entry_tree (entry_bits byte q a b s) f)
  unfolding entry_bits entry_tree type_sort
  is_limit e = rw e

  pub is_grant : byte ≡ 0x15 → Grant ≡ type_sort (entry_tree (entry_bits byte q a b s) f)
  unfolding entry_bits entry_tree type_sort
  is_grant e = rw e

  pub is_number : (byte ≡ 0x11 → ⊥) → (byte ≡ 0x12 → ⊥) → (byte ≡ 0x13 → ⊥) → (byte ≡ 0x14 → ⊥) → (byte ≡ 0x15 → ⊥) → Number ≡ type_sort (entry_tree (entry_bits byte q a b s) f)
  unfolding entry_bits entry_tree type_sort
  is_number c d e g h =
      simp (ne_eqb byte 0x11 c, ne_eqb byte 0x12 d, ne_eqb byte 0x13 e, ne_eqb byte 0x14 g, ne_eqb byte 0x15 h) (at (eqb byte 0x10))
    where
      at : (x : Bool) → Number ≡ type_sort (entry_tree (cond x (some (e_num q)) none) f)
      at true = refl
      at false = refl

-- the kind of a value
pub kind_is : (k : Kind) (n : ℕ) → k ≡ kind_sort (kind_in k n)
unfolding kind_sort
kind_is Number n = refl
kind_is Pair n = refl
kind_is Cell n = refl
kind_is Function n = refl
kind_is Limit n = refl
kind_is Grant n = refl

-- its number: of a limit and of a grant the low 8 bits, and of the others all
pub low_bits : (k : Kind) (n : ℕ) → (k ≡ Limit) ⊎ (k ≡ Grant) → n % 256 ≡ kind_number (kind_in k n)
unfolding kind_number
low_bits k n (inl e) = rw e
low_bits k n (inr e) = rw e

pub all_bits : (k : Kind) (n : ℕ) → (k ≡ Limit → ⊥) → (k ≡ Grant → ⊥) → n ≡ kind_number (kind_in k n)
unfolding kind_number
all_bits Number n h g = refl
all_bits Pair n h g = refl
all_bits Cell n h g = refl
all_bits Function n h g = refl
all_bits Limit n h g = absurd (h refl)
all_bits Grant n h g = absurd (g refl)

pub sort_is : (types sets : List ℕ) (i w : ℕ) (k : Kind) → ((q a b s : ℕ) (f : ℕ → Ty) → k ≡ type_sort (entry_tree (entry_bits (w % 256) q a b s) f)) → w ≡ get_or types i 0
    → k ≡ type_sort (tree_of types sets i)
unfolding tree_of tree_in entry_in
sort_is types sets i w k h e = rw (sym e) (h _ _ _ _ _)

-- the value of a job that is done, by the control of the first thread
module _ (m : Machine) (fs : List ℕ) (some_thread : 0 < length (seen m fs).threads) where
  first_there : get_elem? (seen m fs).threads 0 ≡ some (thread_at m.threads fs 0)
  first_there = listed_get (thread_at m.threads fs) (capped m.count most_threads) 0 (omega (arith, some_thread, listed_length (thread_at m.threads fs) (capped m.count most_threads)))

  seen_hand : (w : ℕ) → (get_or m.threads 0 idle).now.control ≡ Hand w → all_done (seen m fs).threads ≡ true → value_of (seen m fs) ≡ some (word_in w)
  unfolding thread_at handed_on
  seen_hand w e d = value_is (seen m fs) (thread_at m.threads fs 0) d first_there ∙ ap (λ c. handed_on (control_in c)) e

  seen_enter : (e : Expr) → (get_or m.threads 0 idle).now.control ≡ Enter e → all_done (seen m fs).threads ≡ false
  unfolding thread_at live_thread done_at
  seen_enter e h = at (all_done (seen m fs).threads) refl
    where
      busy : live_thread (some (thread_at m.threads fs 0)) ≡ true
      busy = ap (λ c. not (done_at (control_in c) (thread_at m.threads fs 0).frames)) h

      at : (b : Bool) → all_done (seen m fs).threads ≡ b → b ≡ false
      at true d = absurd (false≢true (sym (done_live (seen m fs).threads d 0) ∙ ap live_thread first_there ∙ busy))
      at false d = refl

pub finished_hand : (T : Ty) (s : Effect) (o : Outcome) (fs : List ℕ) (w : ℕ) (v : Held) (first second both : List ℕ) (n : ℕ) (k : Kind) (x : ℕ) → first ≡ accepted_as s (type_sort T)
    → 0 < length (seen o.machine fs).threads → all_done (seen o.machine fs).threads ≡ true → (get_or o.machine.threads 0 idle).now.control ≡ Hand w → value_in v ≡ word_in w → n ≡ get_or o.counts 0 0
    → k ≡ kind_sort (kind_in v.kind v.payload) → x ≡ kind_number (kind_in v.kind v.payload) → second ≡ done_as n k x → both ≡ joined first second
    → both ≡ accepted_line T s ++ ran_line finished o.counts o.thread (seen o.machine fs)
finished_hand T s o fs w v first second both n k x a some_thread done c u count d e f g =
    rw (g, a, f, d, e, count) (accepted_done T s o.counts o.thread (seen o.machine fs) (value_in v) (seen_hand o.machine fs some_thread w c done ∙ ap some (sym u)))

pub finished_enter : {A : Type 0} (o : Outcome) (fs : List ℕ) (e : Expr) → (get_or o.machine.threads 0 idle).now.control ≡ Enter e → 0 < length (seen o.machine fs).threads
    → all_done (seen o.machine fs).threads ≡ true → A
finished_enter o fs e h some_thread d = absurd (false≢true (sym (seen_enter o.machine fs some_thread e h) ∙ d))

-- by the answer
ran_at : (o : Outcome) (fs : List ℕ) (a : Answer) → o.answer ≡ a → ran_line (answer_in a) o.counts o.thread (seen o.machine fs) ≡ ran_of (ran_in o fs)
unfolding ran_of
ran_at o fs a e = ap (λ z. ran_line (answer_in z) o.counts o.thread (seen o.machine fs)) (sym e)

pub ended_with : (T : Ty) (s : Effect) (o : Outcome) (fs : List ℕ) (a : Answer) (both : List ℕ) → o.answer ≡ a → both ≡ accepted_line T s ++ ran_line (answer_in a) o.counts o.thread (seen o.machine fs)
    → both ≡ accepted_line T s ++ ran_of (ran_in o fs)
ended_with T s o fs a both e h = h ∙ ap (λ z. accepted_line T s ++ z) (ran_at o fs a e)

pub with_spent : (T : Ty) (s : Effect) (c : List ℕ) (i : ℕ) (m : System) (first second both : List ℕ) → first ≡ accepted_as s (type_sort T) → second ≡ spent_as (get_or c 0 0) → both ≡ joined first second
    → both ≡ accepted_line T s ++ ran_line spent c i m
with_spent T s c i m first second both a b e = rw (e, a, b) (accepted_spent T s c i m)

pub with_no_room : (T : Ty) (s : Effect) (c : List ℕ) (i : ℕ) (m : System) (first second both : List ℕ) → first ≡ accepted_as s (type_sort T) → second ≡ no_room_as (get_or c i 0) → both ≡ joined first second
    → both ≡ accepted_line T s ++ ran_line noroom c i m
with_no_room T s c i m first second both a b e = rw (e, a, b) (accepted_no_room T s c i m)

pub with_none : (T : Ty) (s : Effect) (first l : List ℕ) → first ≡ accepted_as s (type_sort T) → l ≡ [] → first ≡ accepted_line T s ++ l
with_none T s first l a e = a ∙ accepted_line_lem T s ∙ sym (append-nil (accepted_line T s)) ∙ ap (λ z. accepted_line T s ++ z) (sym e)

pub no_taken : (c : List ℕ) (i : ℕ) (m : System) → ran_line taken c i m ≡ []
unfolding ran_line
no_taken c i m = refl

pub no_stuck : (c : List ℕ) (i : ℕ) (m : System) → ran_line stuck c i m ≡ []
unfolding ran_line
no_stuck c i m = refl

pub no_denied : (c : List ℕ) (i : ℕ) (m : System) → ran_line denied c i m ≡ []
unfolding ran_line
no_denied c i m = refl

-- no second line
pub quiet : (T : Ty) (s : Effect) (o : Outcome) (fs first : List ℕ) → (o.answer ≡ Taken) ⊎ ((o.answer ≡ Stuck) ⊎ (o.answer ≡ Denied)) → first ≡ accepted_as s (type_sort T) → first ≡ accepted_line T s ++ ran_of (ran_in o fs)
quiet T s o fs first (inl e) a = ended_with T s o fs _ _ e (with_none T s _ _ a (no_taken _ _ _))
quiet T s o fs first (inr (inl e)) a = ended_with T s o fs _ _ e (with_none T s _ _ a (no_stuck _ _ _))
quiet T s o fs first (inr (inr e)) a = ended_with T s o fs _ _ e (with_none T s _ _ a (no_denied _ _ _))

-- a run of the machine leaves at least the threads that there were, and is finished only where all are
module _ (h p allow : List ℕ) (m : System) (few : length m.threads ≤ most_threads) where
  run_some : (o : Ran) → o ≡ call (steps_of (code_in h p)) (run_of allow) m → 0 < length m.threads → 0 < length o.machine.threads
  run_some o e l =
      let z = takes_grown (steps_of (code_in h p)) (lawful (code_in h p)) (run_counted (steps_of (code_in h p)) (lawful (code_in h p)) allow m few).takes in
      let y = ap (λ (r : Ran). length r.machine.threads) e in
      omega (arith, z, y, l)

  done_at_end : (o : Ran) → o ≡ call (steps_of (code_in h p)) (run_of allow) m → o.answer ≡ finished → all_done o.machine.threads ≡ true
  done_at_end o e f = at ((says_exactly (code_in h p) m (run_of allow) o few).0 (sym e)) f
    where
      on : {r : Ran} → RunSays (steps_of (code_in h p)) (allowed allow) no_steps m r → r.answer ≡ finished → all_done r.machine.threads ≡ true
      on (run_done x y) e = y
      on (run_spent x y z) e = absurd (let z : ◌≡◌ {A = ℕ} 0 1 = cc in omega arith)
      on (run_stuck x y z) e = absurd (let z : ◌≡◌ {A = ℕ} 0 1 = cc in omega arith)
      on (run_denied x y z) e = absurd (let z : ◌≡◌ {A = ℕ} 0 1 = cc in omega arith)
      on (run_noroom x y z) e = absurd (let z : ◌≡◌ {A = ℕ} 0 1 = cc in omega arith)

      at : {r : Ran} → Says (steps_of (code_in h p)) m (run_of allow) r → r.answer ≡ finished → all_done r.machine.threads ≡ true
      at (run_says x) f = on x f

one_thread : (S : Src) → length (start_of S).threads ≡ 1
unfolding start_of
one_thread S = refl

-- the run of a job from its start
pub record JobRun (o : Ran) : Type 0 where
  pub some_thread : 0 < length o.machine.threads
  pub ended : o.answer ≡ finished → all_done o.machine.threads ≡ true

pub job_run : (J : Job) (h p : List ℕ) (m : System) (o : Ran) → o ≡ call (steps_of (code_in h p)) (run_of desk_allows) m → m ≡ start_of (source_of J) → JobRun o
job_run J h p m o e f =
    let l : length m.threads ≡ 1 = ap (λ (s : System). length s.threads) f ∙ one_thread (source_of J) in
    let few : length m.threads ≤ most_threads = omega (arith, l) in
    record { some_thread = run_some h p desk_allows m few o e (omega (arith, l)); ended = done_at_end h p desk_allows m few o e }

pub ran_line_lem : (J : Job) (h p : List ℕ) (m : System) (o : Ran) → o ≡ call (steps_of (code_in h p)) (run_of desk_allows) m → m ≡ start_of (source_of J) → ((e : ℕ) → code_in h p e ≡ expr_of J e) → ran_of o ≡ run_line (source_of J)
unfolding run_line
ran_line_lem J h p m o e f g =
    ap ran_of
    (e ∙ ap (λ (z : ℕ → Cmd ℕ). call (steps_of z) (run_of desk_allows) m) (fun_ext g) ∙ ap (λ z. call (steps_in J) (run_of desk_allows) z) f
    ∙ ap (λ K. call K (run_of desk_allows) (start_of (source_of J))) (sym (same_steps J)))

pub told_refused : (bytes : List ℕ) (r : Refusal) (w x : Tables) (text : List ℕ) → CheckTo bytes (Err r) w x
    → text ≡ refused_line (record { number = r.number; place = r.place }) → short w ≡ false → text ≡ desk_of bytes
unfolding desk_of reported
told_refused bytes r w x text c f l = f ∙ sym (ap (λ k. reported k (reading bytes)) (refusing bytes r w x c l))

desk_accepted : (bytes : List ℕ) (J : Job) (T : Ty) (s : Effect) → verdict_of bytes ≡ accept T s → reading bytes ≡ read J → desk_of bytes ≡ accepted_line T s ++ run_line (source_of J)
unfolding desk_of reported run_read
desk_accepted bytes J T s e f = rw (e, f)

pub told_accepted : (bytes : List ℕ) (r : Checked) (w x : Tables) (text : List ℕ) → CheckTo bytes (Ok r) w x
    → ((J : Job) (sets : List ℕ) → Ready J r.shape x.job.names x.job.types x.job.values → ((e : ℕ) → code_in x.job.heads x.job.slots e ≡ expr_of J e) → text ≡ accepted_line (tree_of x.job.types sets r.accepted.entry) (of_word r.accepted.effect) ++ run_line (source_of J))
    → Bytes bytes → text ≡ desk_of bytes
told_accepted bytes r w x text c f by = go (accepting bytes by r w x c)
  where
    go : Accepting bytes r.shape (tree_of x.job.types x.job.sets r.accepted.entry) (of_word r.accepted.effect) x → text ≡ desk_of bytes
    go y = f y.job x.job.sets y.ready y.code ∙ sym (desk_accepted bytes y.job _ (of_word r.accepted.effect) y.verdict y.is)

pub accepted_ran : (T : Ty) (s : Effect) {text l k : List ℕ} → text ≡ accepted_line T s ++ l → l ≡ k → text ≡ accepted_line T s ++ k
accepted_ran T s e f = e ∙ ap (λ z. accepted_line T s ++ z) f

-- the first bytes of an input
pub head_length : (n k : ℕ) (l : List ℕ) → n ≡ min k (length l) → n ≡ length (take n l)
head_length n k l e = sym (length-take-le n l (omega (arith, e)))

pub printed_head : (n : ℕ) (l : List ℕ) → n ≡ min most_bytes (length l) → desk_of (take n l) ≡ printed l
unfolding printed
printed_head n l e = ap desk_of (ap (λ (k : ℕ). take k l) e ∙ take_min most_bytes l)
