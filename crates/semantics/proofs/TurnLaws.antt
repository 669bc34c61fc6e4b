-- Whose turn it is, and what a turn comes to, of every machine, and whatever the threads' steps are, as long as they are lawful: each answer exactly when its conditions hold, which are
-- defined apart from the step; and of threads a step takes none away and changes none, and starts one at most, where there is a place for it.
use Rattle.std.specs.Prelude.{◌≡◌, ℕ, zero, suc, ◌-◌, ◌≤◌, ◌<◌, Bool, true, false, cond, not, List, [], ◌∷◌, ◌++◌, set, eqb, ltb}
use Rattle.std.proofs.Math.Path.{refl, subst, subst⁻¹}
use Rattle.std.proofs.Common.{sym, ap, ◌∙◌, arith, append-nil, length-set, length-append, eqb-true, ltb-true, ltb-false}
use Rattle.std.proofs.lemmas.Bool.{false≢true, eqb-false}
use Rattle.std.proofs.Math.Option.{Option, none, some, none-ne-some, some-injective}
use Rattle.std.proofs.Math.ListN.{length, get_elem?}
use Rattle.order.specs.Bools.{◌and◌}
use Rattle.order.proofs.Bools.{and_l, and_r}
use Rattle.order.proofs.OrderLaws.{get_elem?_lt}
use Rattle.syntax.specs.Commands.{Cmd}
use Rattle.semantics.specs.Machine.{Thread, Machine, System, most_threads}
use Rattle.semantics.specs.Step.{Out, o_step, o_done, o_room, o_stuck, o_denied, step}
use Rattle.semantics.specs.Room.{done_at, is_done}
use Rattle.semantics.specs.Threads.{Steps, steps_of, alone, live_thread, live, all_done, handed_on, first_value, value_of, first_from, Turn, in_round, next, Took, t_step, t_none, later, took, step_thread, take_turn, turn, Asked}
use Rattle.semantics.proofs.StepExactly.{exact, done_to}
use Rattle.semantics.proofs.SpawnLaws.{started_on, StartedIs, none_started, one_started, started_is, spawn_full, threads_started}
use Rattle.semantics.specs.TurnLaws.{FirstIs, Free, Grown, Lawful, NextIs, TurnIs, as_before, asked_by, first_at, in_round_lem, is_denied, is_none, is_room, is_step_lem, is_stuck, new_round, nobody, nowhere, one_more}

pub first_is : (p : ℕ → Bool) (i n : ℕ) → FirstIs p i n (first_from p i n)
unfolding first_from
first_is p i zero = nowhere (record { all = λ k l h. absurd (omega (arith, l, h)) })
first_is p i (suc n) = at (p i) refl (first_is p (suc i) n)
  where
    off : (k : ℕ) → p i ≡ false → i ≤ k → (suc i ≤ k → p k ≡ false) → p k ≡ false
    off k e l f = same (eqb i k) refl
      where
        same : (b : Bool) → eqb i k ≡ b → p k ≡ false
        same true q = subst (λ z. p z ≡ false) (eqb-true i k q) e
        same false q = let z = eqb-false i k q in f (omega arith)

    at : (b : Bool) → p i ≡ b → {o : Option ℕ} → FirstIs p (suc i) n o → FirstIs p i (suc n) (cond b (some i) o)
    at true e w = first_at {j = i} (record { low = omega arith; high = omega arith; holds = e; before = λ k l h. absurd (omega (arith, l, h)) })
    at false e (first_at {j = j} w) =
        first_at {j = j} (record { low = omega (arith, w.low); high = omega (arith, w.high); holds = w.holds; before = λ k l h. off k e l (λ g. w.before k g h) })
    at false e (nowhere w) = nowhere (record { all = λ k l h. off k e l (λ g. w.all k g (omega (arith, h))) })

-- The next turn

pub next_is : (p : ℕ → Bool) (s : System) → NextIs p s (next p s)
unfolding next in_round
next_is p s = at (first_is p s.from (s.round - s.from)) (first_is p 0 (length s.threads))
  where
    at : {a b : Option ℕ} → FirstIs p s.from (s.round - s.from) a → FirstIs p 0 (length s.threads) b → NextIs p s (in_round s.round a (in_round (length s.threads) b none))
    at (first_at w) v = in_round_lem w
    at (nowhere w) (first_at v) = new_round w v
    at (nowhere w) (nowhere v) = nobody v

pub next_holds : {p : ℕ → Bool} {s : System} {o : Option Turn} → NextIs p s o → (q : Turn) → o ≡ some q → p q.at ≡ true
next_holds {p} (in_round_lem w) q e = subst (λ (z : Turn). p z.at ≡ true) (some-injective _ q e) w.holds
next_holds {p} (new_round v w) q e = subst (λ (z : Turn). p z.at ≡ true) (some-injective _ q e) w.holds
next_holds (nobody w) q e = absurd (none-ne-some q e)

-- The value of a job

-- "A job is done when all are, with thread 0's value": where all threads are finished, what thread 0 hands on; while one is not, none, also where thread 0 is finished
pub value_is : (s : System) (t : Thread) → all_done s.threads ≡ true → get_elem? s.threads 0 ≡ some t → value_of s ≡ handed_on t.control
unfolding value_of first_value
value_is s t d e = ap (λ b. cond b (first_value s.threads) none) d ∙ at s.threads e
  where
    at : (l : List Thread) → get_elem? l 0 ≡ some t → first_value l ≡ handed_on t.control
    at [] e = absurd (none-ne-some t e)
    at (x ∷ l) e = ap (λ (y : Thread). handed_on y.control) (some-injective x t e)

pub value_none : (s : System) → all_done s.threads ≡ false → value_of s ≡ none
unfolding value_of
value_none s d = ap (λ b. cond b (first_value s.threads) none) d

-- Live threads

pub live_thread_lem : (o : Option Thread) → live_thread o ≡ true → (t : Thread) × (o ≡ some t) × (done_at t.control t.frames ≡ false)
unfolding live_thread
live_thread_lem none e = absurd (false≢true e)
live_thread_lem (some t) e = (t, refl, at (done_at t.control t.frames) e)
  where
    at : (b : Bool) → not b ≡ true → b ≡ false
    at true e = absurd (false≢true e)
    at false e = refl

pub done_live : (l : List Thread) → all_done l ≡ true → (i : ℕ) → live_thread (get_elem? l i) ≡ false
unfolding all_done live_thread
done_live [] e i = refl
done_live (t ∷ l) e zero = rw (and_l _ _ e)
done_live (t ∷ l) e (suc i) = done_live l (and_r _ _ e) i

pub live_some : (l : List Thread) → all_done l ≡ false → (i : ℕ) × (i < length l) × (live_thread (get_elem? l i) ≡ true)
unfolding all_done live_thread ◌and◌
live_some [] e = absurd (false≢true (sym e))
live_some (t ∷ l) e = at (done_at t.control t.frames) refl e (λ g. live_some l g)
  where
    at : (b : Bool) → done_at t.control t.frames ≡ b → (b and all_done l) ≡ false → (all_done l ≡ false → (i : ℕ) × (i < length l) × (live_thread (get_elem? l i) ≡ true))
        → (i : ℕ) × (i < length (t ∷ l)) × (live_thread (get_elem? (t ∷ l) i) ≡ true)
    at true d e f = let z = f e in (suc z.0, omega (arith, z.1), z.2)
    at false d e f = (0, omega arith, rw d)

pub live_lt : (l : List Thread) (i : ℕ) → live_thread (get_elem? l i) ≡ true → i < length l
live_lt l i e = let z = live_thread_lem (get_elem? l i) e in get_elem?_lt l i z.0 z.1

and_off : (a b : Bool) → (a and b) ≡ false → a ≡ true → b ≡ false
unfolding ◌and◌
and_off true b e h = e
and_off false b e h = absurd (false≢true h)

-- What steps are asked for

pub lawful : {T : Type 0} (code : ℕ → Cmd T) → Lawful (steps_of code)
unfolding started_on
lawful code = record { exactly = exact code; grows = λ m n e. at m n e (started_is code m.thread.control m.thread.env) (threads_started code m n e) }
  where
    at : (m n : Machine) → step code m ≡ o_step n → {l : List Thread} → StartedIs code m.thread.control m.thread.env l → n.threads ≡ m.threads ++ l → Grown m.threads n.threads
    at m n e (none_started f) q = subst⁻¹ (λ z. Grown m.threads z) (q ∙ append-nil m.threads) as_before
    at m n e (one_started {e = i} {b = b} c k) q = subst⁻¹ (λ z. Grown m.threads z) q (one_more _ (place (ltb (length m.threads) most_threads) refl))
      where
        place : (x : Bool) → ltb (length m.threads) most_threads ≡ x → length m.threads < most_threads
        place true h = ltb-true (length m.threads) most_threads h
        place false h =
            let z = sym e ∙ spawn_full code m c k (ltb-false (length m.threads) most_threads h) in absurd (let y : ◌≡◌ {A = ℕ} 0 1 = cc in omega arith)

-- What a turn comes to

pub asked_free : {may : ℕ → Bool} {s : System} {p : Turn} {t : Thread} → Asked may s p t → Free may s p.at t
unfolding live_thread
asked_free {may} {s} {p} {t} a =
    let z = next_holds (next_is (λ i. live s i and may i) s) p a.next_turn in
    let y = live_thread_lem (get_elem? s.threads p.at) (and_l _ _ z) in
    record {
      busy = subst (λ (x : Thread). done_at x.control x.frames ≡ false) (some-injective y.0 t (sym y.1 ∙ a.there)) y.2;
      may_step = and_r _ _ z;
      among = get_elem?_lt s.threads p.at t a.there;
    }

-- its step decides
pub asked_turn : (K : Steps) {may : ℕ → Bool} {s : System} {p : Turn} {t : Thread} → Asked may s p t → turn K may s ≡ took (K.step (alone s t)) p
unfolding turn take_turn step_thread
asked_turn K a = rw (a.next_turn, a.there)

module _ (K : Steps) (law : Lawful K) (may : ℕ → Bool) (s : System) where
  stepped : {p : Turn} {t : Thread} → Asked may s p t → (o : Out) → K.step (alone s t) ≡ o → TurnIs K may s (took o p)
  unfolding took is_done
  stepped a (o_step m) e = is_step_lem a e
  stepped {t = t} a o_done e = absurd (false≢true (sym (asked_free a).busy ∙ done_to (law.exactly.at (alone s t)) e))
  stepped a o_room e = is_room a e
  stepped a o_stuck e = is_stuck a e
  stepped a o_denied e = is_denied a e

  of_turn : (p : Turn) → next (λ i. live s i and may i) s ≡ some p → (o : Option Thread) → get_elem? s.threads p.at ≡ o → live_thread o ≡ true → TurnIs K may s (step_thread K o p s)
  unfolding step_thread
  of_turn p e none g h = absurd (none-ne-some _ (live_thread_lem none h).1)
  of_turn p e (some t) g h = stepped (record { next_turn = e; there = g }) (K.step (alone s t)) refl

  pub turn_is : TurnIs K may s (turn K may s)
  unfolding turn take_turn
  turn_is = at (next (λ i. live s i and may i) s) refl (next_is (λ i. live s i and may i) s)
    where
      at : (o : Option Turn) → next (λ i. live s i and may i) s ≡ o → NextIs (λ i. live s i and may i) s o → TurnIs K may s (take_turn K o s)
      at none e (nobody w) = is_none e (λ i h. and_off _ _ (w.all i (omega arith) (omega (arith, live_lt s.threads i h))) h)
      at (some p) e w = of_turn p e (get_elem? s.threads p.at) refl (and_l _ _ (next_holds w p refl))

  -- where no live thread may step nobody does
  pub idle_none : ((i : ℕ) → live s i ≡ true → may i ≡ false) → turn K may s ≡ t_none
  unfolding live_thread
  idle_none f = at turn_is refl
    where
      idle : {p : Turn} {t : Thread} {X : Type 0} → Asked may s p t → X
      idle {p} a = absurd (false≢true (sym (f p.at (and_l _ _ (next_holds (next_is (λ i. live s i and may i) s) p a.next_turn))) ∙ (asked_free a).may_step))

      at : {o : Took} → TurnIs K may s o → turn K may s ≡ o → turn K may s ≡ t_none
      at (is_step_lem a e) z = idle a
      at (is_none e f) z = z
      at (is_room a e) z = idle a
      at (is_stuck a e) z = idle a
      at (is_denied a e) z = idle a

  pub done_none : all_done s.threads ≡ true → turn K may s ≡ t_none
  done_none d = idle_none (λ i h. absurd (false≢true (sym (done_live s.threads d i) ∙ h)))

  -- a thread that is asked may step, whatever its step comes to
  pub turn_free : (i : ℕ) → asked_by (turn K may s) ≡ some i → (may i ≡ true) × (i < length s.threads)
  unfolding asked_by
  turn_free i z = at turn_is z
    where
      of : {p : Turn} {t : Thread} → Asked may s p t → some p.at ≡ some i → (may i ≡ true) × (i < length s.threads)
      of {p} {t} a z =
          let y = some-injective p.at i z in
          (subst (λ k. may k ≡ true) y (asked_free a).may_step, subst (λ k. k < length s.threads) y (asked_free a).among)

      at : {o : Took} → TurnIs K may s o → asked_by o ≡ some i → (may i ≡ true) × (i < length s.threads)
      at (is_step_lem a e) z = of a z
      at (is_none e f) z = absurd (none-ne-some i z)
      at (is_room a e) z = of a z
      at (is_stuck a e) z = of a z
      at (is_denied a e) z = of a z

  -- at most eight threads
  pub turn_few : length s.threads ≤ most_threads → (i : ℕ) (u : System) → turn K may s ≡ t_step i u → length u.threads ≤ most_threads
  turn_few few i u z = at turn_is z
    where
      more : (l : List Thread) (k : ℕ) (x : Thread) → Grown s.threads l → length (set l k x) ≤ most_threads
      more l k x as_before = omega (arith, few, length-set l k x)
      more l k x (one_more t h) = omega (arith, h, length-set l k x, length-append s.threads (t ∷ []))

      at : {o : Took} → TurnIs K may s o → o ≡ t_step i u → length u.threads ≤ most_threads
      at (is_step_lem {p = p} {t = t} {m = m} a e) z =
          let x : later p m ≡ u = cc in
          subst (λ (v : System). length v.threads ≤ most_threads) x (more m.threads p.at m.thread (law.grows (alone s t) m e))
      at (is_none e f) z = absurd (let y : ◌≡◌ {A = ℕ} 0 1 = cc in omega arith)
      at (is_room a e) z = absurd (let y : ◌≡◌ {A = ℕ} 0 1 = cc in omega arith)
      at (is_stuck a e) z = absurd (let y : ◌≡◌ {A = ℕ} 0 1 = cc in omega arith)
      at (is_denied a e) z = absurd (let y : ◌≡◌ {A = ℕ} 0 1 = cc in omega arith)
