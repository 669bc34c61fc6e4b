-- Laws of the scheduler, whatever the steps are: order by number in a round, new threads wait for the next round, and a live thread that is not at its allowance is asked again within eight turns.
use Rattle.std.specs.Prelude.{◌≡◌, ℕ, zero, suc, ◌+◌, ◌-◌, ◌≤◌, ◌<◌, Bool, true, false, cond, ◌≢◌, ◌⊎◌, length, set, take, eqb, leb, ltb}
use Rattle.std.proofs.Math.Path.{refl, subst⁻¹}
use Rattle.std.proofs.Common.{sym, ap, ap₂, ◌∙◌, subst, arith, inl, length-set, length-append, length-take-le, eqb-true, leb-true, leb-false, ltb-true, ltb-false}
use Rattle.std.proofs.lemmas.Bool.{false≢true, eqb-false}
use mathlib.Core.List.{List, [], ◌∷◌, ◌++◌, Memᴰ}
use Rattle.std.proofs.Math.Option.{Option, some, some-injective, none-ne-some}
use Rattle.std.proofs.Math.Logic.{inr}
use Rattle.std.proofs.Math.ListN.{get_elem?}
use Rattle.order.specs.Bools.{◌and◌}
use Rattle.order.proofs.Bools.{and_l, and2}
use Rattle.syntax.specs.Commands.{Cmd}
use Rattle.syntax.specs.Job.{Src}
use Rattle.semantics.specs.Machine.{Thread, System, most_threads}
use Rattle.semantics.specs.Start.{start_of}
use Rattle.semantics.specs.Threads.{Steps, steps_of, alone, live_thread, live, Turn, Took, t_step, later, turn}
use Rattle.semantics.proofs.SpawnLaws.{started_on, threads_started}
use Rattle.semantics.specs.Calls.{Policy, Takes, no_turn, first}
use Rattle.semantics.specs.TurnLaws.{NextIs, in_round_lem, new_round, nobody, Grown, as_before, one_more, Lawful, TurnIs, is_step_lem, is_none, is_room, is_stuck, is_denied}
use Rattle.semantics.proofs.TurnLaws.{next_is, next_holds, lawful, turn_is, turn_few, live_lt}
use Rattle.semantics.specs.Rounds.{Gone, Moved, Order, Placed, Turned, Unheld, WaitIs, next_round, no_turns, one_turn, same_round, that_round, this_round, wait, whose}

pub start_placed : (S : Src) → Placed (start_of S)
unfolding start_of
start_placed S = record { turned = omega arith; there = omega arith }

-- the threads after a turn: another thread stands as it stood
pub get_other : (l : List Thread) (j i : ℕ) (x : Thread) → j ≢ i → get_elem? (set l j x) i ≡ get_elem? l i
get_other [] j i x n = refl
get_other (t ∷ l) zero zero x n = absurd (n refl)
get_other (t ∷ l) zero (suc i) x n = refl
get_other (t ∷ l) (suc j) zero x n = refl
get_other (t ∷ l) (suc j) (suc i) x n = get_other l j i x (λ e. n (ap suc e))

get_first : (l m : List Thread) (i : ℕ) → i < length l → get_elem? (l ++ m) i ≡ get_elem? l i
get_first [] m i h = absurd (omega arith)
get_first (t ∷ l) m zero h = refl
get_first (t ∷ l) m (suc i) h = get_first l m i (omega arith)

grown_length : {l m : List Thread} → Grown l m → length l ≤ length m
grown_length as_before = omega arith
grown_length {l} (one_more t h) = omega (arith, length-append l (t ∷ []))

grown_get : {l m : List Thread} → Grown l m → (i : ℕ) → i < length l → get_elem? m i ≡ get_elem? l i
grown_get as_before i h = refl
grown_get {l} (one_more t g) i h = get_first l (t ∷ []) i h

module _ (K : Steps) (law : Lawful K) where
  pub moved : (may : ℕ → Bool) (s : System) (i : ℕ) (u : System) → turn K may s ≡ t_step i u → Moved may s i u
  moved may s i u z = at (turn_is K law may s) z
    where
      p : ℕ → Bool
      p k = live s k and may k

      ordered : (q : Turn) (v : System) → v.round ≡ q.round → {o : Option Turn} → NextIs p s o → o ≡ some q → Order p s q.at v
      ordered q v r (in_round_lem {j = j} w) e =
          let y = some-injective _ q e in
          subst (λ (k : ℕ). Order p s k v) (ap (λ (x : Turn). x.at) y)
          (same_round (r ∙ sym (ap (λ (x : Turn). x.round) y)) w.low (omega (arith, w.low, w.high)) (λ k a b. w.before k a b))
      ordered q v r (new_round {j = j} n w) e =
          let y = some-injective _ q e in
          subst (λ (k : ℕ). Order p s k v) (ap (λ (x : Turn). x.at) y)
          (next_round (r ∙ sym (ap (λ (x : Turn). x.round) y)) (λ k a b. n.all k a (omega (arith, a, b))) (omega (arith, w.high)) (λ k b. w.before k (omega arith) b))
      ordered q v r (nobody w) e = absurd (none-ne-some q e)

      at : {o : Took} → TurnIs K may s o → o ≡ t_step i u → Moved may s i u
      at (is_step_lem {p = q} {t = t} {m = m} a e) z =
          let y : q.at ≡ i = cc in
          let x : later q m ≡ u = cc in
          let g = law.grows _ m e in
          subst (λ k. Moved may s k u) y (subst (λ v. Moved may s q.at v) x (record {
            free = next_holds (next_is p s) q a.next_turn;
            order = ordered q (later q m) refl (next_is p s) a.next_turn;
            last = refl;
            grown = omega (arith, grown_length g, length-set m.threads q.at m.thread);
            others = λ k h n. get_other m.threads q.at k m.thread n ∙ grown_get g k h;
          }))
      at (is_none e f) z = absurd (let y : ◌≡◌ {A = ℕ} 0 1 = cc in omega arith)
      at (is_room a e) z = absurd (let y : ◌≡◌ {A = ℕ} 0 1 = cc in omega arith)
      at (is_stuck a e) z = absurd (let y : ◌≡◌ {A = ℕ} 0 1 = cc in omega arith)
      at (is_denied a e) z = absurd (let y : ◌≡◌ {A = ℕ} 0 1 = cc in omega arith)

-- Order, and new threads

module _ {may : ℕ → Bool} {s u : System} {i : ℕ} (w : Moved may s i u) where
  pub moved_placed : Placed s → Placed u
  moved_placed o = at w.order
    where
      at : Order (λ k. live s k and may k) s i u → Placed u
      at (same_round r a b f) = record { turned = omega (arith, w.last); there = omega (arith, o.there, w.grown) }
      at (next_round r f b g) = record { turned = omega (arith, w.last); there = omega (arith, w.grown) }

  -- the thread that stepped is of the round, and a thread started by it is not
  pub of_round : Placed s → (i < u.round) × (u.round ≤ length s.threads)
  of_round o = at w.order
    where
      at : Order (λ k. live s k and may k) s i u → (i < u.round) × (u.round ≤ length s.threads)
      at (same_round r a b f) = (omega arith, omega (arith, o.there))
      at (next_round r f b g) = (omega arith, omega arith)

  -- a thread that is not of the round steps in a new one, when no thread of the old round may step that has not had its turn
  pub waits : s.round ≤ i → (u.round ≡ length s.threads) × ((k : ℕ) → s.from ≤ k → k < s.round → (live s k and may k) ≡ false)
  waits h = at w.order
    where
      at : Order (λ k. live s k and may k) s i u → (u.round ≡ length s.threads) × ((k : ℕ) → s.from ≤ k → k < s.round → (live s k and may k) ≡ false)
      at (same_round r a b f) = absurd (omega arith)
      at (next_round r f b g) = (r, f)

-- Fairness

wait_is : (s : System) (i : ℕ) → WaitIs s i (wait s i)
unfolding wait ◌and◌
wait_is s i = at (leb s.from i) refl (ltb i s.round) refl
  where
    at : (b : Bool) → leb s.from i ≡ b → (c : Bool) → ltb i s.round ≡ c → WaitIs s i (cond (b and c) (i - s.from) ((s.round - s.from) + i))
    at true e true f = this_round (leb-true s.from i e) (ltb-true i s.round f)
    at true e false f = that_round (λ a b. omega (arith, ltb-false i s.round f, b))
    at false e c f = that_round (λ a b. omega (arith, leb-false s.from i e, a))

-- a turn of another thread brings it nearer
wait_falls : {may : ℕ → Bool} {s u : System} {j : ℕ} → Placed s → Moved may s j u → (i : ℕ) → i < length s.threads → (live s i and may i) ≡ true → j ≢ i → wait u i < wait s i
wait_falls {may} {s} {u} {j} o w i l r n = at w.order (wait_is s i) (wait_is u i)
  where
    clash : {X : Type 0} → (live s i and may i) ≡ false → X
    clash e = absurd (false≢true (sym e ∙ r))

    -- a thread that may step is not passed over
    not_before : ((k : ℕ) → k < j → (live s k and may k) ≡ false) → j < i
    not_before f = by (ltb i j) refl
      where
        by : (b : Bool) → ltb i j ≡ b → j < i
        by true e = clash (f i (ltb-true i j e))
        by false e = omega (arith, ltb-false i j e, n)

    not_first : s.from ≤ i → ((k : ℕ) → s.from ≤ k → k < j → (live s k and may k) ≡ false) → j < i
    not_first h f = by (ltb i j) refl
      where
        by : (b : Bool) → ltb i j ≡ b → j < i
        by true e = clash (f i h (ltb-true i j e))
        by false e = omega (arith, ltb-false i j e, n)

    at : {x y : ℕ} → Order (λ k. live s k and may k) s j u → WaitIs s i x → WaitIs u i y → y < x
    at (same_round q a b f) (this_round c d) (this_round g h) = omega (arith, w.last, not_first c f)
    at (same_round q a b f) (this_round c d) (that_round g) = absurd (g (omega (arith, w.last, not_first c f)) (omega arith))
    at (same_round q a b f) (that_round c) (this_round g h) = absurd (c (omega (arith, w.last)) (omega arith))
    at (same_round q a b f) (that_round c) (that_round g) = omega (arith, w.last)
    at (next_round q f b g) (this_round c d) v = clash (f i c d)
    at (next_round q f b g) (that_round c) (this_round h k) = omega (arith, w.last, not_before g)
    at (next_round q f b g) (that_round c) (that_round h) = absurd (h (omega (arith, w.last, not_before g)) (omega arith))

-- a thread of the round waits for seven at most
pub wait_eight : (s : System) → Placed s → length s.threads ≤ most_threads → (i : ℕ) → i < s.round → wait s i < most_threads
wait_eight s o few i h = at (wait_is s i)
  where
    at : {x : ℕ} → WaitIs s i x → x < most_threads
    at (this_round c d) = omega (arith, o.there)
    at (that_round c) = by (leb s.from i) refl
      where
        by : (b : Bool) → leb s.from i ≡ b → (s.round - s.from) + i < most_threads
        by true e = absurd (c (leb-true s.from i e) h)
        by false e = omega (arith, leb-false s.from i e, o.there, o.turned)

-- Turns one after another, of whatever calls

module _ (K : Steps) (law : Lawful K) where
  -- after any turns "the round and who stepped last" are among the threads that there are, and these are at most eight
  pub turned_placed : {l : List Gone} {s t : System} → Turned K s l t → Placed s → Placed t
  turned_placed no_turns o = o
  turned_placed (one_turn {g = g} {s = s} {t = t} e h) o = turned_placed h (moved_placed (moved K law g.may s g.at t e) o)

  pub turned_few : {l : List Gone} {s t : System} → Turned K s l t → length s.threads ≤ most_threads → length t.threads ≤ most_threads
  turned_few no_turns few = few
  turned_few (one_turn {g = g} {s = s} {t = t} e h) few = turned_few h (turn_few K law g.may s few g.at t e)

  -- no thread goes away
  pub takes_grown : {may : Policy} {c d l : List ℕ} {s t : System} → Takes K may c s l d t → length s.threads ≤ length t.threads
  takes_grown no_turn = omega arith
  takes_grown {may} (first {c = c} {i = i} {s = s} {t = t} e h) = let z = takes_grown h in omega (arith, z, (moved K law (may c) s i t e).grown)

  -- the first n of turns that are taken are taken
  turned_take : {l : List Gone} {s t : System} → Turned K s l t → (n : ℕ) → (u : System) × Turned K s (take n l) u
  turned_take {s = s} no_turns zero = (s, no_turns)
  turned_take {s = s} no_turns (suc n) = (s, no_turns)
  turned_take {s = s} (one_turn e h) zero = (s, no_turns)
  turned_take (one_turn e h) (suc n) = let z = turned_take h n in (z.0, one_turn e z.1)

  -- of the turns that are taken, one is of thread i, if it might step at each, or there are no more than it waits for
  pub asked_within : {l : List Gone} {s t : System} → Turned K s l t → Placed s → (i : ℕ) → live s i ≡ true → Unheld i l → Memᴰ i (whose l) ⊎ (length l ≤ wait s i)
  unfolding whose
  asked_within no_turns o i a b = inr (omega arith)
  asked_within (one_turn {g = g} {l = l} {s = s} {t = t} e h) o i a b =
      at (eqb g.at i) refl (λ n. asked_within h (moved_placed w o) i (subst⁻¹ (λ x. live_thread x ≡ true) (w.others i (live_lt s.threads i a) n) a) (λ v m. b v (Memᴰ.tail m)))
    where
      w : Moved g.may s g.at t
      w = moved K law g.may s g.at t e

      more : g.at ≢ i → Memᴰ i (whose l) ⊎ (length l ≤ wait t i) → Memᴰ i (g.at ∷ whose l) ⊎ (length (g ∷ l) ≤ wait s i)
      more n (inl m) = inl (Memᴰ.tail m)
      more n (inr m) = inr (omega (arith, m, wait_falls o w i (live_lt s.threads i a) (and2 _ _ a (b g (Memᴰ.head refl))) n))

      at : (x : Bool) → eqb g.at i ≡ x → (g.at ≢ i → Memᴰ i (whose l) ⊎ (length l ≤ wait t i)) → Memᴰ i (g.at ∷ whose l) ⊎ (length (g ∷ l) ≤ wait s i)
      at true q f = inl (Memᴰ.head (sym (eqb-true g.at i q)))
      at false q f = let n = eqb-false g.at i q in more n (f n)

  -- so of n turns, if it waits for fewer than n, one is of thread i
  pub asked_in : (n : ℕ) {l : List Gone} {s t : System} → Turned K s l t → Placed s → (i : ℕ) → live s i ≡ true → Unheld i (take n l) → wait s i < n → n ≤ length l → Memᴰ i (whose (take n l))
  asked_in n {l = l} {s = s} h o i a b v k = at (asked_within (turned_take h n).1 o i a b)
    where
      at : Memᴰ i (whose (take n l)) ⊎ (length (take n l) ≤ wait s i) → Memᴰ i (whose (take n l))
      at (inl m) = m
      at (inr m) = absurd (omega (arith, m, v, length-take-le n l k))

  -- "takes one step in turn": a live thread that has stepped, and is not at its allowance, is asked again among the next eight turns
  pub again : (may : ℕ → Bool) {l : List Gone} {s u t : System} (i : ℕ) → length s.threads ≤ most_threads → Placed s → turn K may s ≡ t_step i u
      → Turned K u l t → live u i ≡ true → Unheld i (take most_threads l) → most_threads ≤ length l → Memᴰ i (whose (take most_threads l))
  again may {s = s} {u = u} i few o e h a b n =
      let w = moved K law may s i u e in
      asked_in most_threads h (moved_placed w o) i a b (wait_eight u (moved_placed w o) (turn_few K law may s few i u e) i (of_round w o).0) n

  -- and any live thread, whether or not it has stepped, among the next fourteen, once a turn is taken: six of the round may be left, and seven of the next go before one that is just started
  pub live_within : {l : List Gone} {s t : System} → Turned K s l t → length s.threads ≤ most_threads → Placed s → 0 < s.from → (i : ℕ) → live s i ≡ true → Unheld i (take 14 l) → 14 ≤ length l
      → Memᴰ i (whose (take 14 l))
  live_within {s = s} h few o z i a b n = asked_in 14 h o i a b (longest (live_lt s.threads i a) (leb s.from i) refl (ltb i s.round) refl (wait_is s i)) n
    where
      longest : {x : ℕ} → i < length s.threads → (p : Bool) → leb s.from i ≡ p → (q : Bool) → ltb i s.round ≡ q → WaitIs s i x → x < 14
      longest k p e q f (this_round g y) = omega (arith, k, few)
      longest k true e true f (that_round g) = absurd (g (leb-true s.from i e) (ltb-true i s.round f))
      longest k true e false f (that_round g) = omega (arith, k, z, few, o.there, ltb-false i s.round f)
      longest k false e q f (that_round g) = omega (arith, k, few, o.there, o.turned, leb-false s.from i e)

-- Numbers

module _ (K : Steps) (law : Lawful K) where
  -- no turn is of a thread that is finished
  turn_live : (may : ℕ → Bool) (s : System) (i : ℕ) (u : System) → turn K may s ≡ t_step i u → live s i ≡ true
  unfolding live_thread
  turn_live may s i u z = and_l _ _ (moved K law may s i u z).free

  -- "none reused": after any turns a thread that is finished stands at its number as it stood, and there are no fewer threads
  pub never_reused : {may : Policy} {c d l : List ℕ} {s t : System} → Takes K may c s l d t → (i : ℕ) → i < length s.threads → live s i ≡ false
      → (get_elem? t.threads i ≡ get_elem? s.threads i) × (length s.threads ≤ length t.threads)
  never_reused no_turn i h d = (refl, omega arith)
  never_reused {may} (first {c = c} {i = j} {s = s} {t = u} e g) i h d =
      let w = moved K law (may c) s j u e in
      let n : j ≢ i = λ q. false≢true (sym d ∙ subst (λ k. live s k ≡ true) q (turn_live (may c) s j u e)) in
      let same = w.others i h n in
      let z = never_reused g i (omega (arith, w.grown)) (ap live_thread same ∙ d) in
      (z.0 ∙ same, omega (arith, z.1, w.grown))

-- a thread that is started has the next number, and stands at the body of the 0x42 that was entered, with the bindings in force and no enabled keys; all others but the one that stepped stand as they stood
pub started_next : {T : Type 0} (code : ℕ → Cmd T) (may : ℕ → Bool) (s : System) (i : ℕ) (u : System) → turn (steps_of code) may s ≡ t_step i u
    → (t x : Thread) × (get_elem? s.threads i ≡ some t) × (u.threads ≡ set (s.threads ++ started_on code t.control t.env) i x)
started_next code may s i u z = at (turn_is (steps_of code) (lawful code) may s) z
  where
    at : {o : Took} → TurnIs (steps_of code) may s o → o ≡ t_step i u → (t x : Thread) × (get_elem? s.threads i ≡ some t) × (u.threads ≡ set (s.threads ++ started_on code t.control t.env) i x)
    at (is_step_lem {p = q} {t = t} {m = m} a e) z =
        let y : q.at ≡ i = cc in
        let x : later q m ≡ u = cc in (
          t,
          m.thread,
          subst (λ k. get_elem? s.threads k ≡ some t) y a.there,
          ap (λ (v : System). v.threads) (sym x) ∙ ap₂ (λ l k. set l k m.thread) (threads_started code (alone s t) m e) y,
        )
    at (is_none e f) z = absurd (let y : ◌≡◌ {A = ℕ} 0 1 = cc in omega arith)
    at (is_room a e) z = absurd (let y : ◌≡◌ {A = ℕ} 0 1 = cc in omega arith)
    at (is_stuck a e) z = absurd (let y : ◌≡◌ {A = ℕ} 0 1 = cc in omega arith)
    at (is_denied a e) z = absurd (let y : ◌≡◌ {A = ℕ} 0 1 = cc in omega arith)
