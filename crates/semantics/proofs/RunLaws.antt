-- What a turn and a run say, exactly, of every machine of at most eight threads, typed or not, and whatever the expressions are. `Says` has the words of documents 01 and 02, a constructor for
-- each answer, and a call says that and nothing else: so each answer is given exactly when its conditions hold. Done, stuck, denied and no room are defined apart from the step.
use Rattle.std.specs.Prelude.{◌≡◌, Bool, cond, List, ◌↔◌, length}
use Rattle.std.proofs.Math.Path.{refl, ap, subst}
use Rattle.std.proofs.Common.{sym, ◌∙◌, arith}
use Prim.Native.Nat.{ℕ, zero, suc, ◌≤◌, ◌<◌}
use Rattle.std.proofs.Math.Bool.{true, false}
use Rattle.std.proofs.lemmas.Bool.{false≢true}
use Rattle.std.proofs.Math.Option.{some}
use Rattle.syntax.specs.Commands.{Cmd}
use Rattle.semantics.specs.Machine.{Thread, System, most_threads}
use Rattle.semantics.specs.Wants.{Stuck, Denied, NoRoom}
use Rattle.semantics.proofs.StepExactly.{stuck_to, stuck_from, denied_to, denied_from, room_to, room_from}
use Rattle.semantics.specs.Threads.{Steps, steps_of, alone, live, all_done, Turn, Took, t_step, t_none, t_room, t_stuck, t_denied, took, turn, Asked}
use Rattle.semantics.specs.Calls.{taken, finished, spent, Ran, ran, bump, total, no_steps, Policy, always, allowed, closing, on_turn, run, Call, one_step, run_of, call, Takes, no_turn, first}
use Rattle.semantics.specs.TurnLaws.{Lawful, TurnIs, is_none, is_room, is_stuck, is_denied, asked_by}
use Rattle.semantics.proofs.TurnLaws.{lawful, asked_turn, turn_is, idle_none, done_none, turn_free, turn_few, live_lt, live_some}
use Rattle.semantics.specs.Counts.{Budget}
use Rattle.semantics.proofs.Counts.{bump_length, budget_allowed, allowed_most}
use Rattle.semantics.specs.RunLaws.{RunSays, Says, run_done, run_spent, run_noroom, run_stuck, run_denied, one_taken, one_done, one_noroom, one_stuck, one_denied, run_says}

module _ (K : Steps) (law : Lawful K) where
  -- what is asked where nobody may step
  closes : (may : Policy) (c : List ℕ) (s : System) → ((i : ℕ) → live s i ≡ true → may c i ≡ false) → RunSays K may c s (ran (closing s) c 0 s)
  unfolding closing
  closes may c s f = at (all_done s.threads) refl
    where
      at : (x : Bool) → all_done s.threads ≡ x → RunSays K may c s (ran (cond x finished spent) c 0 s)
      at true e = run_done no_turn e
      at false e = run_spent no_turn e f

  -- what the turn of a thread that fails comes to
  pub noroom_turn : {may : ℕ → Bool} {s : System} {p : Turn} {x : Thread} → Asked may s p x → NoRoom K.needs (alone s x) → turn K may s ≡ t_room p.at
  unfolding took
  noroom_turn {s = s} {p = p} {x = x} a e = asked_turn K a ∙ ap (λ o. took o p) (room_from (law.exactly.at (alone s x)) e.0 e.1 e.2)

  pub stuck_turn : {may : ℕ → Bool} {s : System} {p : Turn} {x : Thread} → Asked may s p x → Stuck K.needs (alone s x) → turn K may s ≡ t_stuck p.at
  unfolding took
  stuck_turn {s = s} {p = p} {x = x} a e = asked_turn K a ∙ ap (λ o. took o p) (stuck_from (law.exactly.at (alone s x)) e)

  pub denied_turn : {may : ℕ → Bool} {s : System} {p : Turn} {x : Thread} → Asked may s p x → Denied K.needs (alone s x) → turn K may s ≡ t_denied p.at
  unfolding took
  denied_turn {s = s} {p = p} {x = x} a e = asked_turn K a ∙ ap (λ o. took o p) (denied_from (law.exactly.at (alone s x)) e.0 e.1)

  module _ (may : Policy) (b : Budget may) where
    earlier : {c : List ℕ} {s t : System} {i : ℕ} {r : Ran} → turn K (may c) s ≡ t_step i t → RunSays K may (bump i c) t r → RunSays K may c s r
    earlier e (run_done h d) = run_done (first e h) d
    earlier e (run_spent h d f) = run_spent (first e h) d f
    earlier e (run_noroom h a z) = run_noroom (first e h) a z
    earlier e (run_stuck h a z) = run_stuck (first e h) a z
    earlier e (run_denied h a z) = run_denied (first e h) a z

    -- nothing left, nobody may step
    out : (c : List ℕ) (s : System) → length s.threads ≤ length c → b.left c ≤ 0 → (i : ℕ) → live s i ≡ true → may c i ≡ false
    out c s few l i h = at (may c i) refl
      where
        at : (x : Bool) → may c i ≡ x → x ≡ false
        at true e = absurd (omega (arith, b.falls c i (omega (arith, live_lt s.threads i h)) e, l))
        at false e = refl

    -- the turn of a thread uses up some of what is left
    used : (c : List ℕ) (s : System) (i : ℕ) → length s.threads ≤ length c → {o : Took} → turn K (may c) s ≡ o → asked_by o ≡ some i → b.left (bump i c) < b.left c
    used c s i few e a = let z = turn_free K law (may c) s i (ap asked_by e ∙ a) in b.falls c i (omega (arith, z.1)) z.0

    -- what is said may be said
    pub run_is : (f : ℕ) (c : List ℕ) (s : System) → length s.threads ≤ most_threads → length c ≡ most_threads → b.left c ≤ f → RunSays K may c s (run K may f c s)
    unfolding run on_turn asked_by
    run_is zero c s few n l = closes may c s (out c s (omega arith) l)
    run_is (suc f) c s few n l =
        at (turn K (may c) s) refl (turn_is K law (may c) s)
        (λ i t e. run_is f (bump i c) t (turn_few K law (may c) s few i t e) (bump_length i c ∙ n) (omega (arith, used c s i (omega arith) e refl)))
      where
        at : (o : Took) → turn K (may c) s ≡ o → TurnIs K (may c) s o → ((i : ℕ) (t : System) → turn K (may c) s ≡ t_step i t → RunSays K may (bump i c) t (run K may f (bump i c) t))
            → RunSays K may c s (on_turn o c s (λ i t. run K may f (bump i c) t))
        at (t_step i t) e w ih = earlier e (ih i t e)
        at t_none e (is_none z g) ih = closes may c s g
        at (t_room i) e (is_room {t = x} a z) ih = run_noroom no_turn a (room_to (law.exactly.at (alone s x)) z)
        at (t_stuck i) e (is_stuck {t = x} a z) ih = run_stuck no_turn a (stuck_to (law.exactly.at (alone s x)) z)
        at (t_denied i) e (is_denied {t = x} a z) ih = run_denied no_turn a (denied_to (law.exactly.at (alone s x)) z)

    -- a run goes on after turns that were taken
    record After (f : ℕ) (c : List ℕ) (s : System) (d : List ℕ) (t : System) : Type 0 where
      left_over : ℕ
      enough : b.left d ≤ left_over
      few : length t.threads ≤ most_threads
      wide : length d ≡ most_threads
      goes : run K may f c s ≡ run K may left_over d t

    run_on : {c d l : List ℕ} {s t : System} → Takes K may c s l d t → length s.threads ≤ most_threads → length c ≡ most_threads → (f : ℕ) → b.left c ≤ f → After f c s d t
    unfolding run on_turn asked_by
    run_on no_turn few n f l = record { left_over = f; enough = l; few = few; wide = n; goes = refl }
    run_on (first {c = c} {i = i} {s = s} {t = t} e h) few n zero l = absurd (omega (arith, used c s i (omega arith) e refl))
    run_on (first {c = c} {i = i} {s = s} {t = t} e h) few n (suc f) l =
        let z = run_on h (turn_few K law (may c) s few i t e) (bump_length i c ∙ n) f (omega (arith, used c s i (omega arith) e refl)) in
        record { left_over = z.left_over; enough = z.enough; few = z.few; wide = z.wide; goes = rw e z.goes }

    -- and ends
    ends_idle : (g : ℕ) (d : List ℕ) (t : System) → turn K (may d) t ≡ t_none → run K may g d t ≡ ran (closing t) d 0 t
    unfolding run on_turn
    ends_idle zero d t e = refl
    ends_idle (suc g) d t e = rw e

    ends_failed : (g : ℕ) (d : List ℕ) (t : System) → length t.threads ≤ most_threads → length d ≡ most_threads → b.left d ≤ g → (i : ℕ) (o : Took) → turn K (may d) t ≡ o → asked_by o ≡ some i
        → (r : Ran) → ((k : ℕ → System → Ran) → on_turn o d t k ≡ r) → run K may g d t ≡ r
    unfolding run
    ends_failed zero d t few n l i o e a r h = absurd (omega (arith, used d t i (omega arith) e a))
    ends_failed (suc g) d t few n l i o e a r h = rw e (h _)

    -- what may be said is said
    pub run_said : {c : List ℕ} {s : System} {r : Ran} → RunSays K may c s r → length s.threads ≤ most_threads → length c ≡ most_threads → (f : ℕ) → b.left c ≤ f → run K may f c s ≡ r
    unfolding closing on_turn asked_by
    run_said (run_done {d = d} {t = t} h e) few n f l =
        let z = run_on h few n f l in z.goes ∙ ends_idle z.left_over d t (done_none K law (may d) t e) ∙ ap (λ x. ran (cond x finished spent) d 0 t) e
    run_said (run_spent {d = d} {t = t} h e g) few n f l =
        let z = run_on h few n f l in z.goes ∙ ends_idle z.left_over d t (idle_none K law (may d) t g) ∙ ap (λ x. ran (cond x finished spent) d 0 t) e
    run_said (run_noroom {d = d} {p = p} {t = t} h a e) few n f l =
        let z = run_on h few n f l in z.goes ∙ ends_failed z.left_over d t z.few z.wide z.enough p.at _ (noroom_turn a e) refl _ (λ k. refl)
    run_said (run_stuck {d = d} {p = p} {t = t} h a e) few n f l =
        let z = run_on h few n f l in z.goes ∙ ends_failed z.left_over d t z.few z.wide z.enough p.at _ (stuck_turn a e) refl _ (λ k. refl)
    run_said (run_denied {d = d} {p = p} {t = t} h a e) few n f l =
        let z = run_on h few n f l in z.goes ∙ ends_failed z.left_over d t z.few z.wide z.enough p.at _ (denied_turn a e) refl _ (λ k. refl)

  -- how much is given beyond what is left makes no difference: a loop needs no such number
  pub run_enough : (may : Policy) (b : Budget may) (f g : ℕ) (c : List ℕ) (s : System) → length s.threads ≤ most_threads → length c ≡ most_threads → b.left c ≤ f → b.left c ≤ g
      → run K may f c s ≡ run K may g c s
  run_enough may b f g c s few n h k = run_said may b (run_is may b g c s few n k) few n f h

  pub call_says : (c : Call) (s : System) → length s.threads ≤ most_threads → Says K s c (call K c s)
  unfolding call on_turn always closing
  call_says one_step s few = at (turn K (always no_steps) s) refl (turn_is K law (always no_steps) s)
    where
      at : (o : Took) → turn K (always no_steps) s ≡ o → TurnIs K (always no_steps) s o → Says K s one_step (on_turn o no_steps s (λ i t. ran taken (bump i no_steps) i t))
      at (t_step i t) e w = one_taken e
      at t_none e (is_none z g) = idle (all_done s.threads) refl
        where
          idle : (x : Bool) → all_done s.threads ≡ x → Says K s one_step (ran (closing s) no_steps 0 s)
          idle true d = subst (λ x. Says K s one_step (ran (cond x finished spent) no_steps 0 s)) (sym d) (one_done d)
          idle false d = let y = live_some s.threads d in absurd (false≢true (sym (g y.0 y.2)))
      at (t_room i) e (is_room {t = x} a z) = one_noroom a (room_to (law.exactly.at (alone s x)) z)
      at (t_stuck i) e (is_stuck {t = x} a z) = one_stuck a (stuck_to (law.exactly.at (alone s x)) z)
      at (t_denied i) e (is_denied {t = x} a z) = one_denied a (denied_to (law.exactly.at (alone s x)) z)
  call_says (run_of allow) s few = run_says (run_is (allowed allow) (budget_allowed allow) (total allow) no_steps s few refl (allowed_most allow))

  pub said : {s : System} {c : Call} {r : Ran} → length s.threads ≤ most_threads → Says K s c r → call K c s ≡ r
  unfolding call on_turn closing
  said few (one_taken e) = rw e
  said {s} few (one_done d) = rw (done_none K law (always no_steps) s d, d)
  said few (one_noroom a e) = rw (noroom_turn a e)
  said few (one_stuck a e) = rw (stuck_turn a e)
  said few (one_denied a e) = rw (denied_turn a e)
  said few (run_says {allow = allow} h) = run_said (allowed allow) (budget_allowed allow) h few refl (total allow) (allowed_most allow)

  -- a call says one thing
  pub says_one : {s : System} {c : Call} {r q : Ran} → length s.threads ≤ most_threads → Says K s c r → Says K s c q → r ≡ q
  says_one few x y = sym (said few x) ∙ said few y

-- each answer, with its counts, its thread and the machine after it, exactly when
pub says_exactly : {T : Type 0} (code : ℕ → Cmd T) (s : System) (c : Call) (r : Ran) → length s.threads ≤ most_threads → (call (steps_of code) c s ≡ r) ↔ Says (steps_of code) s c r
says_exactly code s c r few = (λ e. subst (λ q. Says (steps_of code) s c q) e (call_says (steps_of code) (lawful code) c s few), said (steps_of code) (lawful code) few)
