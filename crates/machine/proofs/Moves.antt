-- The words after a step of the thread whose turn it is: the machine that they stand for, by the answer of the step.
use mathlib.Core.Path.{◌≡◌, refl, sym, ap, ap₂, ◌∙◌, subst⁻¹}
use Prim.Native.Nat.{ℕ, zero, suc, ◌+◌, ◌*◌, ◌≤◌, ◌<◌}
use native.Mathlib.Omega.{arith}
use native.Mathlib.Numerals.{add-one}
use mathlib.Core.Bool.{Bool, true, false, not, false≢true}
use mathlib.Core.List.{List, [], ◌∷◌, ◌++◌}
use mathlib.Core.Option.{some}
use lib.Dec.{eqb, ltb}
use lib.ListN.{get_elem?, get_or, set, length-set}
use lib.Seq.{get_or-set_same, get_or-set_other}
use borrow.Author.Tests.{eqb-true, eqb-false, eq-eqb, ne_eqb, ltb-true, ltb-false}
use Rattle.syntax.specs.Commands.{Cmd, c_spawn}
use Rattle.semantics.specs.Machine.{Control, enter, hand, Thread as SThread, Machine as Clean, System, most_threads}
use Rattle.semantics.specs.Step.{o_step, fresh, step}
use Rattle.semantics.proofs.OthersUnseen.{spawning}
use Rattle.semantics.proofs.SpawnLaws.{spawn_is}
use Rattle.semantics.specs.Room.{is_done}
use Rattle.semantics.specs.Threads.{steps_of, alone, live_thread, live, Turn, Asked}
use Rattle.semantics.proofs.Rounds.{get_other}
use Rattle.store.specs.declared.Used.{Used}
use Rattle.acts.specs.Meaning.{StepAnswer, s_taken, s_finished, s_noroom, s_stuck, s_denied, s_starts}
use Rattle.acts.specs.View.{Tables, tables, view}
use Rattle.acts.specs.Inner.{Stepped, put_frames}
use Rattle.thread.specs.Inner.{step_of, own_state}
use Rattle.machine.specs.declared.Scheduler.{Scheduler}
use Rattle.machine.specs.Turns.{has_left, less, turned, turns_of}
use Rattle.machine.specs.Ahead.{next_in, Held, without, joined}
use Rattle.machine.specs.OneTurn.{less_long, less_other, StepIs, is_taken, is_finished, is_noroom, is_stuck, is_denied, is_starts, step_is, moved, taken_turns, noroom_turns, stuck_turns, denied_turns, handed0, spawned, start_turns, full_turns}
use Rattle.machine.specs.Scheduled.{part_of, own_at, listed, store_in, system_in, marked, Started}
use Rattle.machine.specs.Listed.{listed_get, listed_none, listed_same, listed_set, listed_snoc}
use Rattle.machine.proofs.Picked.{long, marked_at, among, small, round_few, asked}

-- the number of an answer, so that two of them differ
unfoldable pub answer_no_lem : StepAnswer → ℕ
answer_no_lem s_taken = 0
answer_no_lem s_finished = 1
answer_no_lem s_noroom = 2
answer_no_lem s_stuck = 3
answer_no_lem s_denied = 4
answer_no_lem s_starts = 5

module _ {T : Type 0} (code : ℕ → Cmd T) (m : Clean) where
  -- a step that is taken
  pub record Took (x : Clean) : Type 0 where
    pub busy : is_done m ≡ false
    pub plain : spawning code m.thread.control ≡ false
    pub steps : step code m ≡ o_step x

  pub took_is : {y : Stepped} → StepIs code m y → y.answer ≡ s_taken → Took y.machine
  unfolding answer_no_lem
  took_is (is_taken d w z) e = record { busy = d; plain = w; steps = z }
  took_is (is_finished d) e = let y : ◌≡◌ {A = ℕ} 1 0 = ap answer_no_lem e in absurd (omega (arith, y))
  took_is (is_noroom d w z) e = let y : ◌≡◌ {A = ℕ} 2 0 = ap answer_no_lem e in absurd (omega (arith, y))
  took_is (is_stuck d w z) e = let y : ◌≡◌ {A = ℕ} 3 0 = ap answer_no_lem e in absurd (omega (arith, y))
  took_is (is_denied d w z) e = let y : ◌≡◌ {A = ℕ} 4 0 = ap answer_no_lem e in absurd (omega (arith, y))
  took_is (is_starts d w) e = let y : ◌≡◌ {A = ℕ} 5 0 = ap answer_no_lem e in absurd (omega (arith, y))

  -- any other leaves the machine as it was
  pub same_is : {y : Stepped} → StepIs code m y → (y.answer ≡ s_taken → ⊥) → y.machine ≡ m
  same_is (is_taken d w z) n = absurd (n refl)
  same_is (is_finished d) n = refl
  same_is (is_noroom d w z) n = refl
  same_is (is_stuck d w z) n = refl
  same_is (is_denied d w z) n = refl
  same_is (is_starts d w) n = refl

  pub finished_is : {y : Stepped} → StepIs code m y → y.answer ≡ s_finished → is_done m ≡ true
  unfolding answer_no_lem
  finished_is (is_taken d w z) e = let y : ◌≡◌ {A = ℕ} 0 1 = ap answer_no_lem e in absurd (omega (arith, y))
  finished_is (is_finished d) e = d
  finished_is (is_noroom d w z) e = let y : ◌≡◌ {A = ℕ} 2 1 = ap answer_no_lem e in absurd (omega (arith, y))
  finished_is (is_stuck d w z) e = let y : ◌≡◌ {A = ℕ} 3 1 = ap answer_no_lem e in absurd (omega (arith, y))
  finished_is (is_denied d w z) e = let y : ◌≡◌ {A = ℕ} 4 1 = ap answer_no_lem e in absurd (omega (arith, y))
  finished_is (is_starts d w) e = let y : ◌≡◌ {A = ℕ} 5 1 = ap answer_no_lem e in absurd (omega (arith, y))

  pub busy_is : {y : Stepped} → StepIs code m y → (y.answer ≡ s_finished → ⊥) → is_done m ≡ false
  busy_is (is_taken d w z) n = d
  busy_is (is_finished d) n = absurd (n refl)
  busy_is (is_noroom d w z) n = d
  busy_is (is_stuck d w z) n = d
  busy_is (is_denied d w z) n = d
  busy_is (is_starts d w) n = d

  -- the thread is at a 0x42, whose body is b
  pub record AtSpawn : Type 0 where
    pub at_place : ℕ
    pub body : ℕ
    pub entered : m.thread.control ≡ enter at_place
    pub is_spawn_lem : code at_place ≡ c_spawn body

  pub spawn_at : {y : Stepped} → StepIs code m y → y.answer ≡ s_starts → AtSpawn
  unfolding answer_no_lem spawning
  spawn_at (is_taken d w z) e = let y : ◌≡◌ {A = ℕ} 0 5 = ap answer_no_lem e in absurd (omega (arith, y))
  spawn_at (is_finished d) e = let y : ◌≡◌ {A = ℕ} 1 5 = ap answer_no_lem e in absurd (omega (arith, y))
  spawn_at (is_noroom d w z) e = let y : ◌≡◌ {A = ℕ} 2 5 = ap answer_no_lem e in absurd (omega (arith, y))
  spawn_at (is_stuck d w z) e = let y : ◌≡◌ {A = ℕ} 3 5 = ap answer_no_lem e in absurd (omega (arith, y))
  spawn_at (is_denied d w z) e = let y : ◌≡◌ {A = ℕ} 4 5 = ap answer_no_lem e in absurd (omega (arith, y))
  spawn_at (is_starts d w) e = on m.thread.control refl w
    where
      on : (o : Control) → m.thread.control ≡ o → spawning code o ≡ true → AtSpawn
      on (enter j) u v = let z = spawn_is (code j) v in record { at_place = j; body = z.0; entered = u; is_spawn_lem = z.1 }
      on (hand v) u z = absurd (false≢true z)

-- A thread that is finished, or has no step left, loses its mark

pub held_without : (c : Scheduler) (w : Tables) → Held c w → (i : ℕ) → (live (system_in c w) i ≡ true → has_left c.rest i ≡ true → ⊥) → Held (without c i) w
unfolding marked
held_without c w h i n = record {
  count = h.count;
  round = h.round;
  from = h.from;
  marks = λ j l k. still j l k (eqb j i) refl;
  below = λ j l. below j l (eqb j i) refl;
  live_long = length-set c.live i 0 ∙ h.live_long;
  rest_long = h.rest_long;
}
  where
    off : (j : ℕ) → (j ≡ i → ⊥) → marked (set c.live i 0) j ≡ marked c.live j
    off j d = ap (λ (k : ℕ). eqb k 1) (get_or-set_other c.live i j 0 0 d)

    still : (j : ℕ) → live (system_in c w) j ≡ true → has_left c.rest j ≡ true → (b : Bool) → eqb j i ≡ b → marked (set c.live i 0) j ≡ true
    still j l k true q = absurd (n (ap (live (system_in c w)) (sym (eqb-true j i q)) ∙ l) (ap (has_left c.rest) (sym (eqb-true j i q)) ∙ k))
    still j l k false q = off j (eqb-false j i q) ∙ h.marks j l k

    none : (l : List ℕ) (k : ℕ) → marked (set l k 0) k ≡ false
    none [] k = refl
    none (x ∷ l) zero = refl
    none (x ∷ l) (suc k) = none l k

    below : (j : ℕ) → marked (set c.live i 0) j ≡ true → (b : Bool) → eqb j i ≡ b → j < c.count
    below j l true q = absurd (false≢true (sym (none c.live i) ∙ ap (marked (set c.live i 0)) (sym (eqb-true j i q)) ∙ l))
    below j l false q = h.below j (sym (off j (eqb-false j i q)) ∙ l)

-- The thread that stepped

module _ {T : Type 0} (code : ℕ → Cmd T) (c : Scheduler) (w : Tables) (h : Held c w) (i r : ℕ)
    (e : next_in c.live c.from c.round c.count ≡ some (record { at = i; round = r })) (some_left : has_left c.rest i ≡ true) (u : Used) (a : StepAnswer) (x : Tables)
    (its : (ts : List SThread) →
    record { machine = view (own_state u (part_of x.frames i)) (tables ts (part_of x.frames i) x.cells x.keys x.pairs x.functions x.bindings); answer = a } ≡
    step_of code (view (own_state c.used (part_of w.frames i)) (tables ts (part_of w.frames i) w.cells w.keys w.pairs w.functions w.bindings)))
    (others : (j : ℕ) → (j ≡ i → ⊥) → part_of x.frames j ≡ part_of w.frames j) where
  abbrev S : System
  S = system_in c w

  abbrev p : Turn
  p = record { at = i; round = r }

  -- the thread before and after, over the store
  abbrev m : Clean
  m = alone S (own_at w.frames i)

  abbrev n : Clean
  n = record { thread = own_at x.frames i; store = store_in u x; threads = S.threads }

  step_of_lem : StepIs code m (record { machine = n; answer = a })
  unfolding view own_at
  step_of_lem = subst⁻¹ (StepIs code m) (its S.threads) (step_is code m)

  other_own : (j : ℕ) → (j ≡ i → ⊥) → own_at x.frames j ≡ own_at w.frames j
  unfolding own_at
  other_own j d = rw (others j d)

  live_done : is_done m ≡ false → live S i ≡ true
  unfolding live_thread is_done
  live_done d = ap live_thread (listed_get (own_at w.frames) c.count i (among c w h i r e)) ∙ ap not d

  done_live : is_done m ≡ true → live S i ≡ false
  unfolding live_thread is_done
  done_live d = ap live_thread (listed_get (own_at w.frames) c.count i (among c w h i r e)) ∙ ap not d

  has_turn : (a ≡ s_finished → ⊥) → Asked (has_left c.rest) S p (own_at w.frames i)
  has_turn d = asked c w h i r e (live_done (busy_is code m step_of_lem d)) some_left

  -- No step is taken

  abbrev pub stayed : Scheduler
  stayed = record { live = c.live; rest = c.rest; count = c.count; round = c.round; from = c.from; used = u }

  module _ (d : a ≡ s_taken → ⊥) where
    same : n ≡ m
    same = same_is code m step_of_lem d

    own_same : (j : ℕ) → own_at x.frames j ≡ own_at w.frames j
    own_same j = at (eqb j i) refl
      where
        at : (b : Bool) → eqb j i ≡ b → own_at x.frames j ≡ own_at w.frames j
        at true q = subst⁻¹ (λ (k : ℕ). own_at x.frames k ≡ own_at w.frames k) (eqb-true j i q) (ap (λ (y : Clean). y.thread) same)
        at false q = other_own j (eqb-false j i q)

    pub stays : system_in stayed x ≡ S
    stays = ap₂ (λ l y. record { threads = l; store = y; round = c.round; from = c.from }) (listed_same (own_at x.frames) (own_at w.frames) c.count (λ j l. own_same j)) (ap (λ (y : Clean). y.store) same)

  -- the answer of a step that is not taken, and starts no thread, ends the call
  pub fails : (a ≡ s_taken → ⊥) → (a ≡ s_finished → ⊥) → (a ≡ s_starts → ⊥) → turns_of (steps_of code) c.rest S ≡ turned a c.rest i (system_in stayed x)
  fails d f g = at step_of_lem (has_turn f) d f g ∙ ap (turned a c.rest i) (sym (stays d))
    where
      at : {y : Stepped} → StepIs code m y → Asked (has_left c.rest) S p (own_at w.frames i) → (y.answer ≡ s_taken → ⊥) → (y.answer ≡ s_finished → ⊥) → (y.answer ≡ s_starts → ⊥)
          → turns_of (steps_of code) c.rest S ≡ turned y.answer c.rest i S
      at (is_taken b q z) t d f g = absurd (d refl)
      at (is_finished b) t d f g = absurd (f refl)
      at (is_noroom b q z) t d f g = noroom_turns code c.rest m t refl q z
      at (is_stuck b q z) t d f g = stuck_turns code c.rest m t refl q z
      at (is_denied b q z) t d f g = denied_turns code c.rest m t refl q z
      at (is_starts b q) t d f g = absurd (g refl)

  -- The thread is finished

  module _ (f : a ≡ s_finished) where
    not_taken : a ≡ s_taken → ⊥
    unfolding answer_no_lem
    not_taken z = let y : ◌≡◌ {A = ℕ} 1 0 = ap answer_no_lem (sym f ∙ z) in omega (arith, y)

    pub passes : system_in stayed x ≡ S
    passes = stays not_taken

    pub not_live : live (system_in stayed x) i ≡ false
    not_live = ap (λ (y : System). live y i) passes ∙ done_live (finished_is code m step_of_lem f)

    pub held_stayed : Held stayed x
    held_stayed = record {
      count = h.count;
      round = h.round;
      from = h.from;
      marks = λ j l. h.marks j (ap (λ (y : System). live y j) (sym passes) ∙ l);
      below = h.below;
      live_long = h.live_long;
      rest_long = h.rest_long;
    }

  -- A step is taken

  abbrev pub stepped : Scheduler
  stepped = record { live = c.live; rest = less i c.rest; count = c.count; round = r; from = i + 1; used = u }

  threads_are : listed (own_at x.frames) c.count ≡ set S.threads i (own_at x.frames i)
  threads_are = sym (listed_set (own_at w.frames) (own_at x.frames) c.count i (own_at x.frames i) (among c w h i r e) refl other_own)

  moved_is : system_in stepped x ≡ moved code S p n
  moved_is = ap₂ (λ l (f : ℕ). record { threads = l; store = store_in u x; round = r; from = f }) threads_are (add-one i)

  pub takes : a ≡ s_taken → turns_of (steps_of code) c.rest S ≡ turns_of (steps_of code) stepped.rest (system_in stepped x)
  takes z =
      let t = took_is code m step_of_lem z in
      taken_turns code c.rest m (asked c w h i r e (live_done t.busy) some_left) refl t.plain t.steps ∙ ap (turns_of (steps_of code) (less i c.rest)) (sym moved_is)

  pub held_stepped : Held stepped x
  held_stepped = record {
    count = h.count;
    round = round_few c w h i r e;
    from = omega (arith, small c w h i r e);
    marks = λ j l k. still j (eqb j i) refl l k;
    below = h.below;
    live_long = h.live_long;
    rest_long = less_long i c.rest ∙ h.rest_long;
  }
    where
      still : (j : ℕ) (b : Bool) → eqb j i ≡ b → live (system_in stepped x) j ≡ true → has_left (less i c.rest) j ≡ true → marked c.live j ≡ true
      still j true q l k = subst⁻¹ (λ (k : ℕ). marked c.live k ≡ true) (eqb-true j i q) (marked_at c w h i r e)
      still j false q l k =
          h.marks j (sym (ap live_thread (ap (λ y. get_elem? y j) threads_are ∙ get_other S.threads i j (own_at x.frames i) (λ z. eqb-false j i q (sym z)))) ∙ l)
          (sym (less_other i j c.rest (eqb-false j i q)) ∙ k)

  -- Entering a 0x42

  module _ (g : a ≡ s_starts) where
    pub here : AtSpawn code m
    here = spawn_at code m step_of_lem g

    no_step : a ≡ s_taken → ⊥
    unfolding answer_no_lem
    no_step z = let y : ◌≡◌ {A = ℕ} 5 0 = ap answer_no_lem (sym g ∙ z) in omega (arith, y)

    not_finished : a ≡ s_finished → ⊥
    unfolding answer_no_lem
    not_finished z = let y : ◌≡◌ {A = ℕ} 5 1 = ap answer_no_lem (sym g ∙ z) in omega (arith, y)

    -- a ninth thread
    pub full : most_threads ≤ c.count → turns_of (steps_of code) c.rest S ≡ turned s_noroom c.rest i (system_in stayed x)
    full l = full_turns code c.rest (has_turn not_finished) here.entered here.is_spawn_lem (omega (arith, long c w h, l)) ∙ ap (turned s_noroom c.rest i) (sym (stays no_step))

    module _ (room : c.count < most_threads) (slots : List ℕ) (body : (b : ℕ) (q : ℕ) → code q ≡ c_spawn b → get_or slots (q * 5) 0 ≡ b) (y : List ℕ) (st : Started x.frames y i c.count slots) where
      abbrev pub started : Scheduler
      started = joined stayed i r

      abbrev b : ℕ
      b = here.body

      own : i < c.count
      own = among c w h i r e

      -- thread k new, thread i handing on 0
      abbrev f : ℕ → SThread
      f = own_at w.frames

      abbrev f2 : ℕ → SThread
      f2 = own_at y

      new_own : f2 c.count ≡ fresh b (f i).env
      new_own =
          st.new here.at_place (ap (λ (t : SThread). t.control) (own_same no_step i) ∙ here.entered)
          ∙ ap₂ (λ (q : ℕ) (t : SThread). fresh q t.env) (body b here.at_place here.is_spawn_lem) (own_same no_step i)

      own_own : f2 i ≡ handed0 code (f i)
      own_own = st.own ∙ ap (handed0 code) (own_same no_step i)

      old_own : (j : ℕ) → (j ≡ i → ⊥) → (j ≡ c.count → ⊥) → f2 j ≡ f j
      old_own j d q = st.others j d q ∙ own_same no_step j

      -- the list with the new one, before thread i hands on
      mid : ℕ → SThread
      mid j = at (eqb j i)
        where
          at : Bool → SThread
          at true = f i
          at false = f2 j

      mid_own : mid i ≡ f i
      unfolding mid
      mid_own = rw (eq-eqb i i refl)

      mid_other : (j : ℕ) → (j ≡ i → ⊥) → mid j ≡ f2 j
      unfolding mid
      mid_other j d = rw (ne_eqb j i d)

      mid_old : (j : ℕ) → j < c.count → mid j ≡ f j
      mid_old j l = at (eqb j i) refl
        where
          at : (z : Bool) → eqb j i ≡ z → mid j ≡ f j
          at true q = subst⁻¹ (λ (k : ℕ). mid k ≡ f k) (eqb-true j i q) mid_own
          at false q = mid_other j (eqb-false j i q) ∙ old_own j (eqb-false j i q) (λ z. omega (arith, l, z))

      threads_started : listed f2 (suc c.count) ≡ set (S.threads ++ (fresh b (f i).env ∷ [])) i (handed0 code (f i))
      threads_started =
          sym
          (ap (λ l. set l i (handed0 code (f i))) (listed_snoc f mid c.count (fresh b (f i).env) mid_old (mid_other c.count (λ z. omega (arith, own, z)) ∙ new_own))
          ∙ listed_set mid f2 (suc c.count) i (handed0 code (f i)) (omega (arith, own)) own_own (λ j d. sym (mid_other j d)))

      started_is_lem : system_in started (put_frames x y) ≡ spawned code S p (f i) b
      started_is_lem =
          ap₂ (λ (k o : ℕ). record { threads = listed f2 k; store = store_in u x; round = r; from = o }) (add-one c.count) (add-one i)
          ∙ ap₂ (λ l q. record { threads = l; store = q; round = r; from = suc i }) threads_started (ap (λ (q : Clean). q.store) (same no_step))

      pub starts : turns_of (steps_of code) c.rest S ≡ turns_of (steps_of code) started.rest (system_in started (put_frames x y))
      starts =
          start_turns code c.rest (has_turn not_finished) here.entered here.is_spawn_lem (omega (arith, long c w h, room)) ∙ ap (turns_of (steps_of code) (less i c.rest)) (sym started_is_lem)

      pub held_started : Held started (put_frames x y)
      unfolding marked live_thread
      held_started = record {
        count = omega (arith, room);
        round = round_few c w h i r e;
        from = omega (arith, small c w h i r e);
        marks = λ j l k. still j (eqb j c.count) (eqb j i) refl refl l k;
        below = λ j l. below j (eqb j c.count) refl l;
        live_long = length-set c.live c.count 1 ∙ h.live_long;
        rest_long = less_long i c.rest ∙ h.rest_long;
      }
        where
          kept : (j : ℕ) → (j ≡ c.count → ⊥) → marked (set c.live c.count 1) j ≡ marked c.live j
          kept j d = ap (λ (k : ℕ). eqb k 1) (get_or-set_other c.live c.count j 1 0 d)

          dead : (j : ℕ) → c.count + 1 ≤ j → live (system_in started (put_frames x y)) j ≡ false
          dead j g = ap live_thread (listed_none f2 (c.count + 1) j g)

          -- a thread that is live now, and is neither new nor the one that stepped, was live
          was : (j : ℕ) → (j ≡ i → ⊥) → (j ≡ c.count → ⊥) → live (system_in started (put_frames x y)) j ≡ true → live S j ≡ true
          was j d q l = at (ltb j c.count) refl
            where
              at : (z : Bool) → ltb j c.count ≡ z → live S j ≡ true
              at true v =
                  let lt = ltb-true j c.count v in
                  ap live_thread (listed_get f c.count j lt ∙ ap some (sym (old_own j d q)) ∙ sym (listed_get f2 (c.count + 1) j (omega (arith, lt)))) ∙ l
              at false v =
                  let ge = ltb-false j c.count v in
                  absurd (false≢true (sym (dead j (omega (arith, ge, q))) ∙ l))

          still : (j : ℕ) (a b : Bool) → eqb j c.count ≡ a → eqb j i ≡ b → live (system_in started (put_frames x y)) j ≡ true → has_left (less i c.rest) j ≡ true
              → marked (set c.live c.count 1) j ≡ true
          still j true b q v l k = subst⁻¹ (λ (k : ℕ). marked (set c.live c.count 1) k ≡ true) (eqb-true j c.count q) (ap (λ (k : ℕ). eqb k 1) (get_or-set_same c.live c.count 1 0 (omega (arith, room, h.live_long))))
          still j false true q v l k = kept j (eqb-false j c.count q) ∙ subst⁻¹ (λ (k : ℕ). marked c.live k ≡ true) (eqb-true j i v) (marked_at c w h i r e)
          still j false false q v l k =
              kept j (eqb-false j c.count q) ∙ h.marks j (was j (eqb-false j i v) (eqb-false j c.count q) l) (sym (less_other i j c.rest (eqb-false j i v)) ∙ k)

          below : (j : ℕ) (a : Bool) → eqb j c.count ≡ a → marked (set c.live c.count 1) j ≡ true → j < c.count + 1
          below j true q l = let z = eqb-true j c.count q in omega (arith, z)
          below j false q l = let z = h.below j (sym (kept j (eqb-false j c.count q)) ∙ l) in omega (arith, z)
