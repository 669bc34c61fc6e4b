-- One turn, by the step of one thread: what each answer of the step makes of it.
use Rattle.std.proofs.Math.Path.{◌≡◌, refl, ap, ap₂}
use Rattle.std.proofs.Common.{sym, ◌∙◌, arith, length-set, get_or-set_other}
use Prim.Native.Nat.{ℕ, zero, suc, ◌-◌, ◌≤◌, ◌<◌}
use Rattle.std.specs.Prelude.{Bool, List, [], ◌∷◌, ◌++◌, length, get_or, set, ltb}
use Rattle.std.proofs.Math.Bool.{true, false, cond}
use Rattle.std.proofs.lemmas.Bool.{false≢true}
use Rattle.std.proofs.Math.Option.{Option, none, some, some-injective, none-ne-some}
use borrow.Author.Tests.{lt-ltb, le-ltb, ltb-true}
use Rattle.order.specs.Bools.{◌and◌}
use Rattle.syntax.specs.Commands.{Cmd, c_spawn}
use Rattle.syntax.specs.Operands.{evaluated}
use Rattle.semantics.specs.Machine.{Control, k_num, unkeyed, enter, hand, Thread, Machine as Clean, System, most_threads}
use Rattle.semantics.specs.Step.{Out, o_step, o_done, o_room, o_stuck, o_denied, fresh, bare, room, touch_all, settle, act_spawn, act, enter_at, enter_cmd, plan_on, plan, step}
use Rattle.semantics.specs.Room.{done_at, is_done}
use Rattle.semantics.proofs.StepExactly.{exact, done_to, done_from}
use Rattle.semantics.specs.Threads.{Steps, steps_of, alone, live, first_from, Turn, in_round, next, Took, t_step, t_room, took, take_turn, turn, Asked}
use Rattle.semantics.specs.Calls.{total}
use Rattle.semantics.specs.OthersUnseen.{with_out}
use Rattle.semantics.proofs.OthersUnseen.{spawning, others_unseen}
use Rattle.semantics.proofs.TurnLaws.{asked_free, asked_turn}
use Rattle.acts.specs.Meaning.{s_taken, s_finished, s_noroom, s_stuck, s_denied, s_starts}
use Rattle.acts.specs.Inner.{Stepped, settled}
use Rattle.thread.specs.Inner.{starting, step_of}
use Rattle.machine.specs.Turns.{Turned, turned, has_left, less, on_took, turns_in, turns_of}

-- what is left falls by one
pub less_total : (i : ℕ) (rest : List ℕ) → has_left rest i ≡ true → total rest ≡ suc (total (less i rest))
unfolding has_left less total
less_total i [] e = absurd (let z : ◌<◌ 0 0 = ltb-true 0 0 e in omega (arith, z))
less_total zero (n ∷ l) e = let z = ltb-true 0 n e in omega (arith, z)
less_total (suc i) (n ∷ l) e = let z = less_total i l e in omega (arith, z)

pub less_long : (i : ℕ) (rest : List ℕ) → length (less i rest) ≡ length rest
unfolding less
less_long i rest = length-set rest i _

-- of the others as much as before
pub less_get : (i j : ℕ) (rest : List ℕ) → (j ≡ i → ⊥) → get_or (less i rest) j 0 ≡ get_or rest j 0
unfolding less
less_get i j rest n = get_or-set_other rest i j (get_or rest i 0 - 1) 0 n

pub less_other : (i j : ℕ) (rest : List ℕ) → (j ≡ i → ⊥) → has_left (less i rest) j ≡ has_left rest j
unfolding has_left
less_other i j rest n = ap (ltb 0) (less_get i j rest n)

-- one less is all that is missing
pub less_close : (i j : ℕ) (rest : List ℕ) → get_or rest j 0 ≤ suc (get_or (less i rest) j 0)
unfolding less
less_close i j [] = omega arith
less_close zero zero (n ∷ l) = omega arith
less_close zero (suc j) (n ∷ l) = omega arith
less_close (suc i) zero (n ∷ l) = omega arith
less_close (suc i) (suc j) (n ∷ l) = less_close i j l

-- never more than before
pub less_few : (i j : ℕ) (rest : List ℕ) → get_or (less i rest) j 0 ≤ get_or rest j 0
unfolding less
less_few i j [] = omega arith
less_few zero zero (n ∷ l) = omega arith
less_few zero (suc j) (n ∷ l) = omega arith
less_few (suc i) zero (n ∷ l) = omega arith
less_few (suc i) (suc j) (n ∷ l) = less_few i j l

module _ (K : Steps) where
  -- as long as a thread has a step left there is a turn to look at
  pub turns_on : (rest : List ℕ) (s : System) (i : ℕ) → has_left rest i ≡ true → turns_of K rest s ≡ on_took (turn K (has_left rest) s) rest s (λ j t. turns_in K (total (less i rest)) (less j rest) t)
  unfolding turns_of turns_in
  turns_on rest s i e = ap (λ k. turns_in K k rest s) (less_total i rest e)

  -- where it is taken turns go on with one less
  pub turns_step : (rest : List ℕ) (s : System) {t : System} {i : ℕ} → has_left rest i ≡ true → turn K (has_left rest) s ≡ t_step i t → turns_of K rest s ≡ turns_of K (less i rest) t
  unfolding on_took turns_of
  turns_step rest s {t} {i} e z = turns_on rest s i e ∙ ap (λ o. on_took o rest s (λ j t. turns_in K (total (less i rest)) (less j rest) t)) z

  -- where nobody may step they end
  pub turns_none : (rest : List ℕ) {s : System} → next (λ i. live s i and has_left rest i) s ≡ none → turns_of K rest s ≡ turned s_finished rest 0 s
  unfolding turns_of turns_in on_took turn take_turn
  turns_none rest {s} e = at (total rest)
    where
      at : (k : ℕ) → turns_in K k rest s ≡ turned s_finished rest 0 s
      at zero = refl
      at (suc k) = rw e

-- Fewer that are asked: who is first of more, and is one of the fewer, is first of them too

module _ (p q : ℕ → Bool) (fewer : (j : ℕ) → q j ≡ true → p j ≡ true) where
  first_fewer : (i n j : ℕ) → first_from p i n ≡ some j → q j ≡ true → first_from q i n ≡ some j
  unfolding first_from
  first_fewer i zero j e h = absurd (none-ne-some j e)
  first_fewer i (suc n) j e h = at (p i) (q i) refl refl e (λ z. first_fewer (suc i) n j z h)
    where
      at : (a b : Bool) → p i ≡ a → q i ≡ b → cond a (some i) (first_from p (suc i) n) ≡ some j → (first_from p (suc i) n ≡ some j → first_from q (suc i) n ≡ some j)
          → cond b (some i) (first_from q (suc i) n) ≡ some j
      at true true u v z f = z
      at true false u v z f = let y = some-injective i j z in absurd (false≢true (sym v ∙ ap q y ∙ h))
      at false true u v z f = absurd (false≢true (sym u ∙ fewer i v))
      at false false u v z f = f z

  none_fewer : (i n : ℕ) → first_from p i n ≡ none → first_from q i n ≡ none
  unfolding first_from
  none_fewer i zero e = refl
  none_fewer i (suc n) e = at (p i) (q i) refl refl e (λ z. none_fewer (suc i) n z)
    where
      at : (a b : Bool) → p i ≡ a → q i ≡ b → cond a (some i) (first_from p (suc i) n) ≡ none → (first_from p (suc i) n ≡ none → first_from q (suc i) n ≡ none)
          → cond b (some i) (first_from q (suc i) n) ≡ none
      at true b u v z f = absurd (none-ne-some i (sym z))
      at false true u v z f = absurd (false≢true (sym u ∙ fewer i v))
      at false false u v z f = f z

  pub next_fewer : (s : System) (t : Turn) → next p s ≡ some t → q t.at ≡ true → next q s ≡ some t
  unfolding next in_round
  next_fewer s t e h = at (first_from p s.from (s.round - s.from)) (first_from p 0 (length s.threads)) refl refl e
    where
      at : (a b : Option ℕ) → first_from p s.from (s.round - s.from) ≡ a → first_from p 0 (length s.threads) ≡ b
          → in_round s.round a (in_round (length s.threads) b none) ≡ some t → next q s ≡ some t
      at (some j) b u v z =
          let y = some-injective _ t z in
          ap (λ o. in_round s.round o (in_round (length s.threads) (first_from q 0 (length s.threads)) none)) (first_fewer s.from (s.round - s.from) j u (ap (λ (x : Turn). q x.at) y ∙ h)) ∙ z
      at none (some j) u v z =
          let y = some-injective _ t z in
          ap₂ (λ o x. in_round s.round o (in_round (length s.threads) x none)) (none_fewer s.from (s.round - s.from) u) (first_fewer 0 (length s.threads) j v (ap (λ (x : Turn). q x.at) y ∙ h)) ∙ z
      at none none u v z = absurd (none-ne-some t z)

  pub nobody_fewer : (s : System) → next p s ≡ none → next q s ≡ none
  unfolding next in_round
  nobody_fewer s e = at (first_from p s.from (s.round - s.from)) (first_from p 0 (length s.threads)) refl refl e
    where
      at : (a b : Option ℕ) → first_from p s.from (s.round - s.from) ≡ a → first_from p 0 (length s.threads) ≡ b
          → in_round s.round a (in_round (length s.threads) b none) ≡ none → next q s ≡ none
      at (some j) b u v z = absurd (none-ne-some _ (sym z))
      at none (some j) u v z = absurd (none-ne-some _ (sym z))
      at none none u v z =
          ap₂ (λ o x. in_round s.round o (in_round (length s.threads) x none)) (none_fewer s.from (s.round - s.from) u) (none_fewer 0 (length s.threads) v)

module _ {T : Type 0} (code : ℕ → Cmd T) where
  abbrev K : Steps
  K = steps_of code

  -- a turn of the thread that is asked, by the step of any machine that has its thread and store
  asked_step : {may : ℕ → Bool} {s : System} {p : Turn} (m : Clean) → Asked may s p m.thread → m.store ≡ s.store → spawning code m.thread.control ≡ false
      → turn K may s ≡ took (with_out s.threads (step code m)) p
  asked_step {s} {p} m a e f = asked_turn K a ∙ ap (λ o. took o p) (ap (step code) (ap (λ x. record { thread = m.thread; store = x; threads = s.threads }) (sym e)) ∙ others_unseen code m s.threads f)

  -- the step of one thread, by its answer
  pub data StepIs (m : Clean) : Stepped → Type 0 where
    is_taken : {x : Clean} → is_done m ≡ false → spawning code m.thread.control ≡ false → step code m ≡ o_step x → StepIs m (record { machine = x; answer = s_taken })
    is_finished : is_done m ≡ true → StepIs m (record { machine = m; answer = s_finished })
    is_noroom : is_done m ≡ false → spawning code m.thread.control ≡ false → step code m ≡ o_room → StepIs m (record { machine = m; answer = s_noroom })
    is_stuck : is_done m ≡ false → spawning code m.thread.control ≡ false → step code m ≡ o_stuck → StepIs m (record { machine = m; answer = s_stuck })
    is_denied : is_done m ≡ false → spawning code m.thread.control ≡ false → step code m ≡ o_denied → StepIs m (record { machine = m; answer = s_denied })
    is_starts : is_done m ≡ false → spawning code m.thread.control ≡ true → StepIs m (record { machine = m; answer = s_starts })

  done_not : (m : Clean) (b : Bool) → is_done m ≡ b → {o : Out} → step code m ≡ o → (o ≡ o_done → ⊥) → b ≡ false
  done_not m true d e f = absurd (f (sym e ∙ done_from ((exact code).at m) d))
  done_not m false d e f = refl

  not_done : (m : Clean) {o : Out} → step code m ≡ o → (o ≡ o_done → ⊥) → is_done m ≡ false
  not_done m e f = done_not m (is_done m) refl e f

  spawn_not_done : (m : Clean) (o : Control) → m.thread.control ≡ o → spawning code o ≡ true → is_done m ≡ false
  unfolding spawning is_done done_at
  spawn_not_done m (enter j) e h = rw e
  spawn_not_done m (hand v) e h = absurd (false≢true h)

  pub step_is : (m : Clean) → StepIs m (step_of code m)
  unfolding step_of
  step_is m = at (spawning code m.thread.control) refl (step code m) refl
    where
      at : (b : Bool) → spawning code m.thread.control ≡ b → (o : Out) → step code m ≡ o → StepIs m (cond b (starting m) (settled m o))
      at true w o z = is_starts (spawn_not_done m m.thread.control refl w) w
      at false w (o_step x) z = is_taken (not_done m z (λ y. let f : ◌≡◌ {A = ℕ} 0 1 = cc in absurd (omega arith))) w z
      at false w o_done z = is_finished (done_to ((exact code).at m) z)
      at false w o_room z = is_noroom (not_done m z (λ y. let f : ◌≡◌ {A = ℕ} 0 1 = cc in absurd (omega arith))) w z
      at false w o_stuck z = is_stuck (not_done m z (λ y. let f : ◌≡◌ {A = ℕ} 0 1 = cc in absurd (omega arith))) w z
      at false w o_denied z = is_denied (not_done m z (λ y. let f : ◌≡◌ {A = ℕ} 0 1 = cc in absurd (omega arith))) w z

  -- the system after a step that is taken, which led to x
  abbrev pub moved : System → Turn → Clean → System
  moved s p x = record { threads = set s.threads p.at x.thread; store = x.store; round = p.round; from = suc p.at }

  module _ (rest : List ℕ) {s : System} {p : Turn} where
    -- who is asked has a step left
    asked_left : {t : Thread} → Asked (has_left rest) s p t → has_left rest p.at ≡ true
    asked_left a = (asked_free a).may_step

    pub taken_turns : (m : Clean) {x : Clean} → Asked (has_left rest) s p m.thread → m.store ≡ s.store → spawning code m.thread.control ≡ false → step code m ≡ o_step x
        → turns_of K rest s ≡ turns_of K (less p.at rest) (moved s p x)
    unfolding took with_out
    taken_turns m a q w z = turns_step K rest s (asked_left a) (asked_step m a q w ∙ ap (λ o. took (with_out s.threads o) p) z)

    -- the step is not taken
    failed_turns : {t : Thread} → Asked (has_left rest) s p t → {o : Took} → turn K (has_left rest) s ≡ o → (r : Turned) → ((k : ℕ → System → Turned) → on_took o rest s k ≡ r) → turns_of K rest s ≡ r
    failed_turns a {o} z r f = turns_on K rest s p.at (asked_left a) ∙ ap (λ o. on_took o rest s (λ j t. turns_in K (total (less p.at rest)) (less j rest) t)) z ∙ f _

    pub noroom_turns : (m : Clean) → Asked (has_left rest) s p m.thread → m.store ≡ s.store → spawning code m.thread.control ≡ false → step code m ≡ o_room
        → turns_of K rest s ≡ turned s_noroom rest p.at s
    unfolding on_took took with_out
    noroom_turns m a q w z = failed_turns a (asked_step m a q w ∙ ap (λ o. took (with_out s.threads o) p) z) _ (λ k. refl)

    pub stuck_turns : (m : Clean) → Asked (has_left rest) s p m.thread → m.store ≡ s.store → spawning code m.thread.control ≡ false → step code m ≡ o_stuck
        → turns_of K rest s ≡ turned s_stuck rest p.at s
    unfolding on_took took with_out
    stuck_turns m a q w z = failed_turns a (asked_step m a q w ∙ ap (λ o. took (with_out s.threads o) p) z) _ (λ k. refl)

    pub denied_turns : (m : Clean) → Asked (has_left rest) s p m.thread → m.store ≡ s.store → spawning code m.thread.control ≡ false → step code m ≡ o_denied
        → turns_of K rest s ≡ turned s_denied rest p.at s
    unfolding on_took took with_out
    denied_turns m a q w z = failed_turns a (asked_step m a q w ∙ ap (λ o. took (with_out s.threads o) p) z) _ (λ k. refl)

  -- the turn that enters a 0x42
  abbrev pub handed0 : Thread → Thread
  handed0 t = record { control = hand (unkeyed (k_num 0)); env = t.env; on = t.on; frames = t.frames }

  abbrev pub spawned : System → Turn → Thread → ℕ → System
  spawned s p t b = record { threads = set (s.threads ++ (fresh b t.env ∷ [])) p.at (handed0 t); store = s.store; round = p.round; from = suc p.at }

  module _ (rest : List ℕ) {s : System} {p : Turn} {t : Thread} {e b : ℕ} where
    pub start_turns : Asked (has_left rest) s p t → t.control ≡ enter e → code e ≡ c_spawn b → length s.threads < most_threads
        → turns_of K rest s ≡ turns_of K (less p.at rest) (spawned s p t b)
    unfolding took step plan plan_on enter_cmd enter_at evaluated act bare act_spawn settle touch_all room
    start_turns a c k l =
        let z : took (step code (alone s t)) p ≡ t_step p.at (spawned s p t b) = rw (c, k, lt-ltb (length s.threads) most_threads l) in
        turns_step K rest s (asked_left rest a) (asked_turn K a ∙ z)

    pub full_turns : Asked (has_left rest) s p t → t.control ≡ enter e → code e ≡ c_spawn b → most_threads ≤ length s.threads → turns_of K rest s ≡ turned s_noroom rest p.at s
    unfolding on_took took step plan plan_on enter_cmd enter_at evaluated act bare act_spawn settle touch_all room
    full_turns a c k l =
        let z : took (step code (alone s t)) p ≡ t_room p.at = rw (c, k, le-ltb (length s.threads) most_threads l) in
        failed_turns rest a (asked_turn K a ∙ z) _ (λ k. refl)
