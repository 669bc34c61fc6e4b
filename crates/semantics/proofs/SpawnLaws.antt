-- 0x42 (document 02, F-6), said apart from its plan, of every machine: what it hands on and what it starts, when there is no room for it, and that no other step starts a thread.
use Rattle.std.proofs.Math.Path.{◌≡◌, refl, sym, ap, subst, subst⁻¹}
use Rattle.std.proofs.Common.{◌∙◌, arith}
use Rattle.std.specs.Prelude.{ℕ, suc, ◌≤◌, ◌<◌, Bool, cond, eqb}
use Rattle.std.proofs.Math.Bool.{true, false}
use Rattle.std.proofs.lemmas.Bool.{false≢true}
use mathlib.Core.List.{List, [], ◌∷◌, ◌++◌, map, append-nil}
use Rattle.std.proofs.Math.Option.{Option, none, some}
use Rattle.std.proofs.Math.ListN.{length, length-append, get_elem?}
use borrow.Author.Tests.{lt-ltb, le-ltb}
use Rattle.syntax.specs.Commands.{Cmd, c_num, c_top, c_var, c_pair, c_part, c_fn, c_app, c_new, c_asg, c_read, c_sum, c_test, c_lim, c_grant, c_newkey, c_assoc, c_access, c_divide, c_spawn, form, row}
use Rattle.syntax.specs.Operands.{plain, evaluated}
use Rattle.semantics.specs.Machine.{k_num, Value, unkeyed, Frame, Control, enter, hand, Thread, Machine, most_bindings, most_threads}
use Rattle.semantics.specs.Step.{o_step, o_room, Plan, handing, with_threads, as_num, as_pair, as_fn, as_cell, as_lim, as_grant, fresh, bare, room, touch_all, settle}
use Rattle.semantics.specs.Step.{seek, variable, act_pair, act_part, act_fn, act_app, act_new, act_asg, act_read, act_sum, act_test, act_lim, act_grant, make_key, act_newkey, act_assoc, act_access, act_divide, act_spawn}
use Rattle.semantics.specs.Step.{resume, push, act, enter_at, enter_cmd, receive, hand_to, plan_on, plan, step}
use Rattle.semantics.specs.Ends.{Ends, en_done, en_wrong, en_try}
use Rattle.semantics.proofs.Ends.{settle_ends, found_ends, bare_ends, one_ends, two_ends, limits_end}

-- the threads as they were; the threads that there were, and those that are started
abbrev Same : Machine → Machine → Type 0
Same m n = n.threads ≡ m.threads

abbrev More : List Thread → Machine → Machine → Type 0
More l m n = n.threads ≡ m.threads ++ l

none_more : (m : Machine) {p : Plan} → Ends (Same m) p → Ends (More [] m) p
none_more m en_done = en_done
none_more m en_wrong = en_wrong
none_more m (en_try f) = en_try (λ e. f e ∙ sym (append-nil m.threads))

module _ {T : Type 0} where
  -- the command is 0x42, by its byte
  unfoldable pub is_spawn : Cmd T → Bool
  is_spawn k = eqb (form (row k).op).byte 0x42

  pub spawn_is : (k : Cmd T) → is_spawn k ≡ true → (b : ℕ) × (k ≡ c_spawn b)
  unfolding is_spawn form row
  spawn_is (c_num n) e = absurd (false≢true e)
  spawn_is c_top e = absurd (false≢true e)
  spawn_is (c_var x) e = absurd (false≢true e)
  spawn_is (c_pair a b) e = absurd (false≢true e)
  spawn_is (c_part a i) e = absurd (false≢true e)
  spawn_is (c_fn x t b) e = absurd (false≢true e)
  spawn_is (c_app a b) e = absurd (false≢true e)
  spawn_is (c_new t a) e = absurd (false≢true e)
  spawn_is (c_asg a b) e = absurd (false≢true e)
  spawn_is (c_read a) e = absurd (false≢true e)
  spawn_is (c_sum i a b) e = absurd (false≢true e)
  spawn_is (c_test a b c t) e = absurd (false≢true e)
  spawn_is (c_lim ks b) e = absurd (false≢true e)
  spawn_is (c_grant a b) e = absurd (false≢true e)
  spawn_is (c_newkey x r a b t) e = absurd (false≢true e)
  spawn_is (c_assoc a b) e = absurd (false≢true e)
  spawn_is (c_access a b c t) e = absurd (false≢true e)
  spawn_is (c_divide a b) e = absurd (false≢true e)
  spawn_is (c_spawn b) e = (b, refl)

  -- the threads that entering an expression starts: of 0x42 one, at its body, and else none
  unfoldable pub started_by : Cmd T → ℕ → List Thread
  started_by k env = cond (is_spawn k) (map (λ b. fresh b env) (plain k)) []

  unfoldable pub started_on : (ℕ → Cmd T) → Control → ℕ → List Thread
  started_on code (enter e) env = started_by (code e) env
  started_on code (hand v) env = []

  -- an act starts no thread, unless it is that of a 0x42 that is entered
  act_same : (k : Cmd T) (h : List Value) (m : Machine) → (is_spawn k ≡ true → 0 < length h) → Ends (Same m) (act k h m)
  unfolding act act_pair act_part act_fn act_app act_new act_asg act_read act_sum act_test act_lim act_grant make_key act_newkey act_assoc act_access act_divide variable is_spawn form row bare
  act_same (c_num n) h m r = bare_ends h (en_try (λ e. refl))
  act_same c_top h m r = bare_ends h (en_try (λ e. refl))
  act_same (c_var x) h m r = bare_ends h (found_ends (seek most_bindings m.store.bindings m.thread.env x) _ (λ v. en_try (λ e. refl)))
  act_same (c_pair a b) h m r = two_ends h _ (λ v w. en_try (λ e. refl))
  act_same (c_part a i) h m r = one_ends h _ (λ v. found_ends (as_pair v.kind) _ (λ p. found_ends (get_elem? m.store.pairs p) _ (λ t. en_try (λ e. refl))))
  act_same (c_fn x t b) h m r = bare_ends h (en_try (λ e. refl))
  act_same (c_app a b) h m r = two_ends h _ (λ v w. found_ends (as_fn v.kind) _ (λ f. found_ends (get_elem? m.store.functions f) _ (λ c. en_try (λ e. refl))))
  act_same (c_new t a) h m r = one_ends h _ (λ v. en_try (λ e. refl))
  act_same (c_asg a b) h m r = two_ends h _ (λ v w. found_ends (as_cell v.kind) _ (λ c. found_ends (get_elem? m.store.cells c) _ (λ old. en_try (λ e. refl))))
  act_same (c_read a) h m r = one_ends h _ (λ v. found_ends (as_cell v.kind) _ (λ c. found_ends (get_elem? m.store.cells c) _ (λ w. en_try (λ e. refl))))
  act_same (c_sum i a b) h m r = two_ends h _ (λ v w. found_ends (as_num v.kind) _ (λ x. found_ends (as_num w.kind) _ (λ y. en_try (λ e. refl))))
  act_same (c_test a b c t) h m r = one_ends h _ (λ v. found_ends (as_num v.kind) _ (λ n. en_try (λ e. refl)))
  act_same (c_lim ks b) h m r = limits_end h _ (λ js. en_try (λ e. refl))
  act_same (c_grant a b) h m r = one_ends h _ (λ v. found_ends (as_grant v.kind) _ (λ j. en_try (λ e. refl)))
  act_same (c_newkey x n a b t) h m r = one_ends h _ (λ v. found_ends (as_lim v.kind) _ (λ j. en_try (λ e. refl)))
  act_same (c_assoc a b) h m r = two_ends h _ (λ v w. found_ends (as_lim w.kind) _ (λ j. en_try (λ e. refl)))
  act_same (c_access a b c t) h m r = one_ends h _ (λ v. found_ends (as_lim v.kind) _ (λ j. en_try (λ e. refl)))
  act_same (c_divide a b) h m r = two_ends h _ (λ v w. found_ends (as_num v.kind) _ (λ x. found_ends (as_num w.kind) _ (λ y. en_try (λ e. refl))))
  act_same (c_spawn b) [] m r = absurd (let z = r refl in omega (arith, z))
  act_same (c_spawn b) (v ∷ h) m r = en_wrong

  enter_more : (e : ℕ) (l : List ℕ) (k : Cmd T) (m : Machine) → evaluated k ≡ l → Ends (More (started_by k m.thread.env) m) (enter_at e l k m)
  unfolding enter_at push started_by act bare act_spawn plain evaluated
  enter_more e l k m q = at (is_spawn k) refl l q
    where
      at : (b : Bool) → is_spawn k ≡ b → (l : List ℕ) → evaluated k ≡ l → Ends (More (cond b (map (λ i. fresh i m.thread.env) (plain k)) []) m) (enter_at e l k m)
      at false s [] q = none_more m (act_same k [] m (λ z. absurd (false≢true (sym s ∙ z))))
      at false s (a ∷ l) q = none_more m (en_try (λ z. refl))
      at true s l q = let z = spawn_is k s in own z.0 z.1 l q
        where
          own : (b : ℕ) → k ≡ c_spawn b → (l : List ℕ) → evaluated k ≡ l → Ends (More (map (λ i. fresh i m.thread.env) (plain k)) m) (enter_at e l k m)
          own b c [] q = rw c (en_try (λ z. refl))
          own b c (a ∷ l) q = absurd (let z : ◌≡◌ {A = List ℕ} [] (a ∷ l) = sym (ap evaluated c) ∙ q in let y : ◌≡◌ {A = ℕ} 0 (suc (length l)) = ap length z in omega arith)

module _ {T : Type 0} (code : ℕ → Cmd T) where
  -- a thread is started where the expression to enter is a 0x42; none, where it is another or a value is handed on
  pub data StartedIs (c : Control) (env : ℕ) : List Thread → Type 0 where
    none_started : ((e : ℕ) → c ≡ enter e → is_spawn (code e) ≡ false) → StartedIs c env []
    one_started : {e b : ℕ} → c ≡ enter e → code e ≡ c_spawn b → StartedIs c env (fresh b env ∷ [])

  pub started_is : (c : Control) (env : ℕ) → StartedIs c env (started_on code c env)
  unfolding started_on started_by plain
  started_is (hand v) env = none_started (λ e z. absurd (let y : ◌≡◌ {A = ℕ} 0 1 = cc in omega arith))
  started_is (enter e) env = at (is_spawn (code e)) refl
    where
      at : (b : Bool) → is_spawn (code e) ≡ b → StartedIs (enter e) env (cond b (map (λ i. fresh i env) (plain (code e))) [])
      at true s = let z = spawn_is (code e) s in subst⁻¹ (λ k. StartedIs (enter e) env (map (λ i. fresh i env) (plain k))) z.1 (one_started refl z.1)
      at false s = none_started (λ i z. let y : e ≡ i = cc in subst (λ k. is_spawn (code k) ≡ false) y s)

  hand_same : (v : Value) (fs : List Frame) (m : Machine) → Ends (Same m) (hand_to code v fs m)
  unfolding hand_to receive
  hand_same v [] m = en_done
  hand_same v (f ∷ fs) m = at (get_elem? (evaluated (code f.at)) (suc (length f.hand)))
    where
      held : 0 < length (f.hand ++ (v ∷ []))
      held = omega (arith, length-append f.hand (v ∷ []))

      at : (o : Option ℕ) → Ends (Same m) (receive code o f (f.hand ++ (v ∷ [])) fs m)
      at none = act_same (code f.at) (f.hand ++ (v ∷ [])) (resume f fs m) (λ z. held)
      at (some a) = en_try (λ e. refl)

  -- a step starts the threads that are said, and no other: a thread goes into the next place, and none is taken away or changed
  pub threads_started : (m n : Machine) → step code m ≡ o_step n → n.threads ≡ m.threads ++ started_on code m.thread.control m.thread.env
  unfolding step plan plan_on enter_cmd started_on
  threads_started m n e = settle_ends (on m.thread.control) e
    where
      on : (c : Control) → Ends (More (started_on code c m.thread.env) m) (plan_on code c m)
      on (enter i) = enter_more i (evaluated (code i)) (code i) m refl
      on (hand v) = none_more m (hand_same v m.thread.frames m)

  -- the machine after a 0x42 is entered, field by field: 0 without a key is handed on; "The new thread has the bindings in force and no enabled keys"; all else is as it was
  pub record Spawned (b : ℕ) (m n : Machine) : Type 0 where
    pub control : n.thread.control ≡ hand (record { key = 0; kind = k_num 0 })
    pub env : n.thread.env ≡ m.thread.env
    pub on : n.thread.on ≡ m.thread.on
    pub frames : n.thread.frames ≡ m.thread.frames
    pub store : n.store ≡ m.store
    pub threads : n.threads ≡ m.threads ++ (record { control = enter b; env = m.thread.env; on = 0; frames = [] } ∷ [])

  -- with a place for it, whatever the frames: there may be 256 of them
  pub spawn_starts : (m : Machine) {e b : ℕ} → m.thread.control ≡ enter e → code e ≡ c_spawn b → length m.threads < most_threads → (n : Machine) × (step code m ≡ o_step n) × Spawned b m n
  unfolding step plan plan_on enter_cmd enter_at evaluated act bare act_spawn settle touch_all room
  spawn_starts m {b = b} h c l = (handing (unkeyed (k_num 0)) (with_threads m (m.threads ++ (fresh b m.thread.env ∷ []))), rw (h, c, lt-ltb (length m.threads) most_threads l), record { control = refl; env = refl; on = refl; frames = refl; store = refl; threads = refl })

  -- "a ninth is no room"
  pub spawn_full : (m : Machine) {e b : ℕ} → m.thread.control ≡ enter e → code e ≡ c_spawn b → most_threads ≤ length m.threads → step code m ≡ o_room
  unfolding step plan plan_on enter_cmd enter_at evaluated act bare act_spawn settle touch_all room
  spawn_full m h c l = rw (h, c, le-ltb (length m.threads) most_threads l)
