-- What a call tells of turns that ended.
use mathlib.Core.Path.{◌≡◌, refl, sym, ap, ap₂, ◌∙◌, subst, fun_ext}
use Prim.Native.Nat.{ℕ, ◌-◌, ◌%◌, ◌≤◌, ◌<◌}
use native.Mathlib.Omega.{arith}
use native.Mathlib.Nat.{sub-zero, mod-eq_of_lt}
use mathlib.Core.Bool.{Bool, true, false, cond, false≢true}
use mathlib.Core.List.{List, []}
use mathlib.Core.Option.{Option, none, some, none-ne-some, some-injective}
use lib.Dec.{ltb, leb}
use lib.ListN.{length, get_elem?, get_or}
use borrow.Author.Tests.{ltb-true, ltb-false, le-leb, lt-leb}
use Rattle.order.specs.Bools.{◌and◌}
use Rattle.order.proofs.Bools.{and_l}
use Rattle.syntax.specs.Commands.{Cmd}
use Rattle.semantics.specs.Machine.{Thread as SThread, most_threads}
use Rattle.semantics.specs.Threads.{Steps, steps_of, live_thread, live, all_done, first_from, in_round, next}
use Rattle.semantics.specs.TurnLaws.{FirstIs, first_at, nowhere}
use Rattle.semantics.proofs.TurnLaws.{first_is, next_is, next_holds, live_some, live_lt, done_live, lawful}
use Rattle.semantics.specs.Calls as SCalls
use Rattle.semantics.specs.Calls.{Ran, ran, no_steps, always, one_step, run_of, call}
use Rattle.store.specs.Tables.{capped}
use Rattle.store.proofs.Laws.{cap_le}
use Rattle.acts.specs.Meaning.{StepAnswer, s_taken, s_finished, s_noroom, s_stuck, s_denied, s_starts, answer_in}
use Rattle.acts.specs.View.{Tables, tables}
use Rattle.thread.specs.declared.Thread.{Thread}
use Rattle.thread.specs.Own.{own_in, Owned}
use Rattle.machine.specs.declared.Answer.{Answer}
use Rattle.machine.specs.declared.Machine.{Machine}
use Rattle.machine.specs.declared.Turned.{Turned}
use Rattle.std.specs.Prelude as std
use Rattle.std.specs.Prelude.{Some, None}
use Rattle.machine.specs.declared.Turn as declared
use Rattle.machine.specs.Turns as turns
use Rattle.machine.specs.Turns.{turns_of, said_by, thread_by, says}
use Rattle.machine.specs.TurnsCalls.{Split, split_taken, call_turns, only, step_idle, step_turns}
use Rattle.machine.specs.Ahead.{next_in, Held, Few}
use Rattle.machine.specs.Scheduled.{part_of, idle, thread_at, listed, own_at, marked, store_in, system_of, whose_in, turned_in}
use Rattle.machine.specs.Listed.{listed_length, listed_none}
use Rattle.machine.specs.View as view
use Rattle.machine.specs.View.{words_of, seen}
use Rattle.machine.proofs.InWords.{put_listed, read_listed}

-- no thread is live exactly where all are finished
pub none_live : (p : ℕ → Bool) (l : List SThread) (n f : ℕ) → length l ≡ n → ((j : ℕ) → p j ≡ live_thread (get_elem? l j)) → first_from p 0 (n - 0) ≡ cond (ltb f n) (some f) none → leb n f ≡ all_done l
none_live p l n f e h z = by (ltb f n) refl (all_done l) refl
  where
    here : first_from p 0 n ≡ cond (ltb f n) (some f) none
    here = simp sub-zero at z

    off : {o : Option ℕ} → FirstIs p 0 n o → o ≡ none → (j : ℕ) → j < n → p j ≡ false
    off (first_at {j = i} w) q j g = absurd (none-ne-some i (sym q))
    off (nowhere w) q j g = w.all j (omega arith) (omega (arith, g))

    on : {o : Option ℕ} → FirstIs p 0 n o → o ≡ some f → p f ≡ true
    on (first_at {j = i} w) q = subst (λ k. p k ≡ true) (some-injective i f q) w.holds
    on (nowhere w) q = absurd (none-ne-some f q)

    by : (b : Bool) → ltb f n ≡ b → (d : Bool) → all_done l ≡ d → leb n f ≡ all_done l
    by true q true d = absurd (false≢true (sym (done_live l d f) ∙ sym (h f) ∙ on (first_is p 0 n) (here ∙ simp q)))
    by true q false d = lt-leb n f (ltb-true f n q) ∙ sym d
    by false q true d = le-leb n f (ltb-false f n q) ∙ sym d
    by false q false d =
        let y = live_some l d in
        absurd (false≢true (sym (off (first_is p 0 n) (here ∙ simp q) y.0 (omega (arith, y.1, e))) ∙ h y.0 ∙ y.2))

within_byte : (x : ℕ) → x ≤ 255 → x % 256 ≡ x
within_byte x h = mod-eq_of_lt (omega arith)

within_threads : (x : ℕ) → x ≤ most_threads → capped (x % 256) most_threads ≡ x
within_threads x h = ap (λ y. capped y most_threads) (within_byte x (omega arith)) ∙ at (ltb x most_threads) refl
  where
    at : (b : Bool) → ltb x most_threads ≡ b → capped x most_threads ≡ x
    at true e = simp e
    at false e = let z : most_threads ≤ x = ltb-false x most_threads e in simp e (omega arith)

-- the thread that is told is a byte
told_byte : (run : Bool) (a : StepAnswer) (i from : ℕ) → i < most_threads → from ≤ 255 → thread_by run a i from ≤ 255
unfolding thread_by
told_byte run s_taken i from g h = omega arith
told_byte true s_finished i from g h = omega arith
told_byte false s_finished i from g h = omega arith
told_byte run s_noroom i from g h = omega arith
told_byte run s_stuck i from g h = omega arith
told_byte run s_denied i from g h = omega arith
told_byte run s_starts i from g h = omega arith

-- turns that ended in words, the threads that are read from these, and what is told of them
told_of : (run : Bool) (allow : List ℕ) (r : Turned) (w : Tables) (o : turns.Turned) (ts : List Thread) (d : Bool) (ks : List ℕ) (i : ℕ) (a : Answer) → turned_in r w ≡ o → Few allow r
    → ((j : ℕ) → j < most_threads → get_or ts j idle ≡ own_in (part_of w.frames j))
    → ((fs : List ℕ) → d ≡ all_done (listed (thread_at ts fs) (capped (r.scheduler.count % 256) most_threads)))
    → length ks ≡ 8 → length allow ≡ 8 → Split allow ks r.scheduler.rest
    → i ≡ thread_by run (answer_in r.answer) r.thread r.scheduler.from → view.answer_in a ≡ said_by run d (answer_in r.answer)
    → ran (view.answer_in a) ks (i % 256)
    (system_of ts (capped (r.scheduler.count % 256) most_threads) (capped (r.scheduler.round % 256) most_threads) (r.scheduler.from % 256) r.scheduler.used w)
    ≡ says run allow o
told_of run allow r w o ts d ks i a e few read done n l v t s = at ∙ ap (says run allow) e
  where
    same : listed (thread_at ts w.frames) (capped (r.scheduler.count % 256) most_threads) ≡ listed (own_at w.frames) r.scheduler.count
    same =
        ap (λ (n : ℕ). listed (thread_at ts w.frames) n) (within_threads r.scheduler.count few.count)
        ∙ read_listed ts w.frames r.scheduler.count few.count read

    finished : d ≡ all_done (listed (own_at w.frames) r.scheduler.count)
    finished = done w.frames ∙ ap all_done same

    who : i % 256 ≡ thread_by run (answer_in r.answer) r.thread r.scheduler.from
    who = within_byte i (subst (λ k. k ≤ 255) (sym t) (told_byte run _ _ _ few.thread few.from)) ∙ t

    at : ran (view.answer_in a) ks (i % 256)
        (system_of ts (capped (r.scheduler.count % 256) most_threads) (capped (r.scheduler.round % 256) most_threads) (r.scheduler.from % 256) r.scheduler.used w)
        ≡ says run allow (turned_in r w)
    at = rw (s, finished, who, same, split_taken allow ks r.scheduler.rest (n ∙ sym l) v, within_threads r.scheduler.round few.round, within_byte r.scheduler.from few.from)

-- the marks of threads that are then put into words
pub marks_put : (ts : List Thread) (a b l : List ℕ) {n : ℕ} → n ≤ most_threads → ((j : ℕ) → j < most_threads → Owned (part_of a j) (part_of b j) (get_or ts j idle))
    → ((fs : List ℕ) (j : ℕ) → marked l j ≡ live_thread (get_elem? (listed (thread_at ts fs) n) j)) → (j : ℕ) → marked l j ≡ live_thread (get_elem? (listed (own_at b) n) j)
marks_put ts a b l {n} h p m j = m a j ∙ ap (λ (x : List SThread). live_thread (get_elem? x j)) (sym (put_listed ts a b n h p))

pub within_few : {n : ℕ} (m : ℕ) → n ≡ capped m most_threads → n ≤ most_threads
within_few m h = let z = cap_le m most_threads in omega (arith, h, z)

-- so the words of the scheduler are in order
pub held_put : (m : Machine) (es ds l allow : List ℕ) {x y : ℕ} → x ≡ capped m.count most_threads → y ≡ capped m.round most_threads → m.from ≤ 255
    → ((j : ℕ) → j < most_threads → Owned (part_of es j) (part_of ds j) (get_or m.threads j idle))
    → ((fs : List ℕ) (j : ℕ) → marked l j ≡ live_thread (get_elem? (listed (thread_at m.threads fs) x) j)) → length l ≡ 8 → length allow ≡ 8
    → Held (record { live = l; rest = allow; count = x; round = y; from = m.from; used = m.used }) (words_of m ds)
unfolding live_thread
held_put m es ds l allow {x} {y} p q f put k a b = record {
  count = within_few m.count p;
  round = within_few m.round q;
  from = f;
  marks = λ j v _. is j ∙ v;
  below = λ j v. below (ltb j x) refl (sym (is j) ∙ v);
  live_long = a;
  rest_long = b;
}
  where
    is : (j : ℕ) → marked l j ≡ live_thread (get_elem? (listed (own_at ds) x) j)
    is j = marks_put m.threads es ds l (within_few m.count p) put k j

    below : {j : ℕ} (c : Bool) → ltb j x ≡ c → live_thread (get_elem? (listed (own_at ds) x) j) ≡ true → j < x
    below {j} true e v = ltb-true j x e
    below {j} false e v = absurd (false≢true (sym (ap live_thread (listed_none (own_at ds) x j (ltb-false j x e))) ∙ v))

-- the same of the turns of a machine, whose threads are put into words before
pub call_told : (run : Bool) (K : Steps) (allow : List ℕ) (m : Machine) (es ds : List ℕ) (x y : ℕ) (r : Turned) (fs cs ks ps gs bs : List ℕ) (ts : List Thread) (d : Bool) (ns : List ℕ) (i : ℕ) (a : Answer)
    → x ≡ capped m.count most_threads → y ≡ capped m.round most_threads
    → ((j : ℕ) → j < most_threads → Owned (part_of es j) (part_of ds j) (get_or m.threads j idle))
    → turned_in r (tables [] fs cs ks ps gs bs) ≡ turns_of K allow (record { threads = listed (own_at ds) x; store = store_in m.used (words_of m ds); round = y; from = m.from })
    → Few allow r
    → ((j : ℕ) → j < most_threads → get_or ts j idle ≡ own_in (part_of fs j))
    → ((es : List ℕ) → d ≡ all_done (listed (thread_at ts es) (capped (r.scheduler.count % 256) most_threads)))
    → length ns ≡ 8 → length allow ≡ 8 → Split allow ns r.scheduler.rest
    → i ≡ thread_by run (answer_in r.answer) r.thread r.scheduler.from → view.answer_in a ≡ said_by run d (answer_in r.answer)
    → ran (view.answer_in a) ns (i % 256)
    (system_of ts (capped (r.scheduler.count % 256) most_threads) (capped (r.scheduler.round % 256) most_threads) (r.scheduler.from % 256) r.scheduler.used (tables [] fs cs ks ps gs bs))
    ≡ says run allow (turns_of K allow (seen m es))
call_told run K allow m es ds x y r fs cs ks ps gs bs ts d ns i a p q put e =
    told_of run allow r (tables [] fs cs ks ps gs bs) (turns_of K allow (seen m es)) ts d ns i a (e ∙ ap (turns_of K allow) same)
  where
    same : record { threads = listed (own_at ds) x; store = store_in m.used (words_of m ds); round = y; from = m.from } ≡ seen m es
    same = rw (p, q, put_listed m.threads es ds (capped m.count most_threads) (cap_le m.count most_threads) put)

-- never more threads than there are places
pub seen_few : (m : Machine) (fs : List ℕ) → length (seen m fs).threads ≤ most_threads
seen_few m fs = rw (listed_length (thread_at m.threads fs) (capped m.count most_threads)) (cap_le m.count most_threads)

-- whose turn it is, of all threads that are not finished
module _ (m : Machine) (fs l : List ℕ) {x y : ℕ} (p : x ≡ capped m.count most_threads) (q : y ≡ capped m.round most_threads)
    (k : (fs : List ℕ) (j : ℕ) → marked l j ≡ live_thread (get_elem? (listed (thread_at m.threads fs) x) j)) (o : std.Option declared.Turn) (e : whose_in o ≡ next_in l m.from y x) where
  anybody : ℕ → Bool
  anybody i = live (seen m fs) i and always no_steps i

  asks : marked l ≡ anybody
  unfolding anybody marked live_thread always ◌and◌
  asks = fun_ext (λ j. k fs j ∙ ap (λ (n : ℕ). live_thread (get_elem? (listed (thread_at m.threads fs) n) j)) p ∙ with_true (live (seen m fs) j))
    where
      with_true : (b : Bool) → b ≡ (b and true)
      with_true true = refl
      with_true false = refl

  next_seen : whose_in o ≡ next anybody (seen m fs)
  unfolding next next_in
  next_seen =
      e
      ∙ ap (λ (g : ℕ → Bool). in_round y (first_from g m.from (y - m.from)) (in_round x (first_from g 0 x) none)) asks
      ∙ ap₂ (λ (r n : ℕ). in_round r (first_from anybody m.from (r - m.from)) (in_round n (first_from anybody 0 n) none)) q (p ∙ sym (listed_length (thread_at m.threads fs) (capped m.count most_threads)))

  module _ (code : ℕ → Cmd ℕ) where
    -- nobody's
    pub nobody_told : o ≡ None → ran SCalls.finished no_steps 0 (seen m fs) ≡ call (steps_of code) one_step (seen m fs)
    unfolding anybody
    nobody_told t = sym (step_idle (steps_of code) (lawful code) (seen m fs) (sym next_seen ∙ ap whose_in t))

    module _ {i r : ℕ} (g : o ≡ Some (record { at = i; round = r })) where
      is_next : next anybody (seen m fs) ≡ some (record { at = i; round = r })
      is_next = sym next_seen ∙ ap whose_in g

      pub asked_small : i < most_threads
      unfolding live_thread anybody
      asked_small =
          let z = live_lt (seen m fs).threads i (and_l _ _ (next_holds (next_is anybody (seen m fs)) (record { at = i; round = r }) is_next)) in
          omega (arith, z, seen_few m fs)

      -- the thread's, which steps once
      pub step_told : {z : Ran} → z ≡ says false (only i) (turns_of (steps_of code) (only i) (seen m fs)) → z ≡ call (steps_of code) one_step (seen m fs)
      unfolding anybody
      step_told z = z ∙ sym (step_turns (steps_of code) (lawful code) (seen m fs) (record { at = i; round = r }) is_next asked_small)

pub run_told : (code : ℕ → Cmd ℕ) (m : Machine) (fs allow : List ℕ) {o : Ran} → length allow ≡ 8 → o ≡ says true allow (turns_of (steps_of code) allow (seen m fs)) → o ≡ call (steps_of code) (run_of allow) (seen m fs)
run_told code m fs allow l e = e ∙ sym (call_turns (steps_of code) (lawful code) allow (seen m fs) l (seen_few m fs))

-- all of so many threads are finished
pub finished_told : (ts : List Thread) (k f : ℕ) (l : List ℕ) {n : ℕ} → n ≡ capped k most_threads → ((fs : List ℕ) (j : ℕ) → marked l j ≡ live_thread (get_elem? (listed (thread_at ts fs) n) j))
    → first_from (marked l) 0 (n - 0) ≡ cond (ltb f n) (some f) none → (fs : List ℕ) → leb n f ≡ all_done (listed (thread_at ts fs) (capped k most_threads))
finished_told ts k f l {n} e m h fs = none_live (marked l) (listed (thread_at ts fs) n) n f (listed_length (thread_at ts fs) n) (m fs) h ∙ ap (λ (j : ℕ). all_done (listed (thread_at ts fs) j)) e
