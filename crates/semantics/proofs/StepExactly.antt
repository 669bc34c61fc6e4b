-- What a step answers, exactly, of every machine: stuck exactly when a kind is wrong or a needed entry is not there, else denied exactly when a touched key is not enabled,
-- else no room exactly when a place lacks, else it is taken; done exactly when the machine is finished. The conditions are defined apart from the step (`Wants`, `Room`).
use Rattle.std.specs.Prelude.{◌≡◌, ℕ, suc, ◌+◌, Bool, cond, not, ◌↔◌, length, ltb}
use Rattle.std.proofs.Math.Path.{refl}
use Rattle.std.proofs.Common.{sym, ◌∙◌, arith, ltb-true, ltb-false, lt-ltb, le-ltb}
use Rattle.std.proofs.Math.Bool.{true, false}
use Rattle.std.proofs.lemmas.Bool.{false≢true}
use mathlib.Core.List.{List, [], ◌∷◌, ◌++◌}
use Rattle.std.proofs.Math.Option.{Option, none, some}
use Rattle.std.proofs.Math.ListN.{get_elem?}
use Rattle.order.specs.Bools.{◌and◌, ◌or◌}
use Rattle.order.specs.Sets.{some_of}
use Rattle.order.specs.Sets
use Rattle.syntax.specs.Commands.{Cmd, c_num, c_top, c_var, c_pair, c_part, c_fn, c_app, c_new, c_asg, c_read, c_sum, c_test, c_lim, c_grant, c_newkey, c_assoc, c_access, c_divide, c_spawn}
use Rattle.syntax.specs.Operands.{evaluated}
use Rattle.syntax.specs.Operands
use Rattle.semantics.specs.Machine.{Kind, k_num, k_pair, k_fn, k_cell, k_lim, k_grant, Value, Frame, Control, enter, hand, Thread, Store, Machine, most_cells, most_keys, most_pairs, most_functions, most_frames, most_bindings, most_threads}
use Rattle.semantics.specs.Keys.{enabled}
use Rattle.semantics.specs.Step
use Rattle.semantics.specs.Step.{Out, o_step, o_done, o_room, o_stuck, o_denied, Plan, p_done, p_wrong, p_try, room, touch_all, settle, on_kind, other, as_num, as_pair, as_fn, as_cell, as_lim, as_grant, found, bare, one, two}
use Rattle.semantics.specs.Step.{seek, variable, act_pair, act_part, act_fn, act_app, act_new, act_asg, act_read, act_sum, act_test, limit_keys, keys_of, act_lim, act_grant, make_key, act_newkey, act_assoc, act_access, act_divide, act_spawn}
use Rattle.semantics.specs.Step.{push, act, enter_at, enter_cmd, receive, hand_to, plan_on, plan, step}
use Rattle.semantics.specs.Room.{done_at, is_done, lacking, any_lacking}
use Rattle.semantics.specs.Wants.{Use, read, write, read_and_write, takes, touches, anything, a_number, a_pair, a_function, a_cell, a_limit, a_grant, alike, wants_of, holds, is_there, by_kind, yes, no, suits, suit, is_touched, touched_in, touched, acting, to_enter, to_receive, to_hand, needs_on, needs, wrong, shut, lacks, Stuck, Denied, NoRoom, Ready}
use Rattle.semantics.specs.Threads.{steps_of}
use Rattle.semantics.specs.StepExactly.{Exact, ExactPlan, Exactly, ex_denied, ex_done, ex_room, ex_step, ex_stuck, xp_done, xp_try, xp_wrong}

settle_exact : {s : Store} {on : ℕ} {d w l : Bool} {ks : List ℕ} {p : Plan} → ExactPlan s on d w ks l p → Exact d w (some_of (λ k. not (enabled s.keys on k)) ks) l (settle p)
unfolding settle touch_all Step.touch room some_of
settle_exact xp_done = ex_done
settle_exact xp_wrong = ex_stuck
settle_exact {s} (xp_try {ks = ks} {t = t} {ts = ts} {free = free} {n = n} e f) = rw (sym e, f) (all ks)
  where
    last : (b : Bool) → Exact false false false (not b) (room b (o_step n))
    last true = ex_step
    last false = ex_room

    at : (b : Bool) {x l : Bool} {o : Out} → Exact false false x l o → Exact false false (cond (not b) true x) l (cond b o o_denied)
    at true h = h
    at false h = ex_denied

    all : (ks : List ℕ) → Exact false false (some_of (λ k. not (enabled s.keys t.on k)) ks) (not free) (touch_all ks (record { thread = t; store = s; threads = ts }) (room free (o_step n)))
    all [] = last free
    all (k ∷ ks) = at (enabled s.keys t.on k) (all ks)

-- places that are lacking, against those that the step finds free
full_is : (used most : ℕ) → ltb most (used + 1) ≡ not (ltb used most)
full_is used most = at (ltb used most) refl
  where
    at : (b : Bool) → ltb used most ≡ b → ltb most (used + 1) ≡ not b
    at true e = le-ltb most (used + 1) (omega (arith, ltb-true used most e))
    at false e = lt-ltb most (used + 1) (omega (arith, ltb-false used most e))

one_full : (used most : ℕ) → (ltb most (used + 1) or false) ≡ not (ltb used most)
unfolding ◌or◌
one_full used most = at (ltb most (used + 1)) ∙ full_is used most
  where
    at : (b : Bool) → (b or false) ≡ b
    at true = refl
    at false = refl

-- a key, a pair and two bindings
three_full : (a b c d e f : ℕ) → (ltb b (a + 1) or (ltb d (c + 1) or (ltb f (e + 2) or false))) ≡ not (ltb a b and ltb c d and ltb (suc e) f)
unfolding ◌and◌ ◌or◌
three_full a b c d e f =
    let z : e + 2 ≡ suc e + 1 = omega arith in
    rw (z, one_full (suc e) f, full_is c d, full_is a b) (at (ltb a b) (ltb c d) (ltb (suc e) f))
  where
    at : (x y z : Bool) → (not x or (not y or not z)) ≡ not (x and y and z)
    at true true z = refl
    at true false z = refl
    at false y z = refl

and_false : (a : Bool) → (a and false) ≡ false
unfolding ◌and◌
and_false true = refl
and_false false = refl

-- no variable is used: all that is wanted is that the operands suit
whole : {s : Store} {on : ℕ} {ks : List ℕ} {l : Bool} {p : Plan} (b : Bool) → ExactPlan s on false (not b) ks l p → ExactPlan s on false (not (b and true)) ks l p
unfolding ◌and◌
whole true h = h
whole false h = h

-- the list's reader of kinds and the step's, where they choose alike
alike_read : (k : Kind) (a b c d e f : ℕ → Option ℕ) (g : ℕ → Bool)
    → by_kind k (λ n. holds (a n) g) (λ n. holds (b n) g) (λ n. holds (c n) g) (λ n. holds (d n) g) (λ n. holds (e n) g) (λ n. holds (f n) g) ≡ holds (on_kind k a b c d e f) g
unfolding by_kind
alike_read (k_num n) a b c d e f g = refl
alike_read (k_pair n) a b c d e f g = refl
alike_read (k_fn n) a b c d e f g = refl
alike_read (k_cell n) a b c d e f g = refl
alike_read (k_lim n) a b c d e f g = refl
alike_read (k_grant n) a b c d e f g = refl

-- a kind that is wanted, as the step reads it
is_number : (k : Kind) (s : Store) → suits a_number k s ≡ holds (as_num k) (λ n. true)
unfolding suits yes no holds as_num
is_number k s = alike_read k some other other other other other _

is_pair : (k : Kind) (s : Store) → suits a_pair k s ≡ holds (as_pair k) (λ i. holds (get_elem? s.pairs i) (λ t. true))
unfolding suits no is_there holds as_pair
is_pair k s = alike_read k other some other other other other _

is_function : (k : Kind) (s : Store) → suits a_function k s ≡ holds (as_fn k) (λ i. holds (get_elem? s.functions i) (λ t. true))
unfolding suits no is_there holds as_fn
is_function k s = alike_read k other other some other other other _

is_cell_lem : (k : Kind) (s : Store) → suits a_cell k s ≡ holds (as_cell k) (λ i. holds (get_elem? s.cells i) (λ t. true))
unfolding suits no is_there holds as_cell
is_cell_lem k s = alike_read k other other other some other other _

is_limit : (k : Kind) (s : Store) → suits a_limit k s ≡ holds (as_lim k) (λ n. true)
unfolding suits yes no holds as_lim
is_limit k s = alike_read k other other other other some other _

is_grant : (k : Kind) (s : Store) → suits a_grant k s ≡ holds (as_grant k) (λ n. true)
unfolding suits yes no holds as_grant
is_grant k s = alike_read k other other other other other some _

module _ {s : Store} {on : ℕ} {ks : List ℕ} {l : Bool} where
  -- what is wanted is there, and the rest (r) suits
  found_exact : {A : Type 0} (o : Option A) (f : A → Plan) (g : A → Bool) (r : Bool) → ((a : A) → ExactPlan s on false (not (g a and r)) ks l (f a)) → ExactPlan s on false (not (holds o g and r)) ks l (found o f)
  unfolding found holds ◌and◌
  found_exact none f g r h = xp_wrong
  found_exact (some a) f g r h = h a

  limits_exact : (vs : List Value) (f : List ℕ → Plan) → ((js : List ℕ) → ExactPlan s on false false ks l (f js)) → ExactPlan s on false (not (suit (alike (length vs) (touches read a_limit)) vs s)) ks l (limit_keys vs f)
  unfolding limit_keys suit alike ◌and◌
  limits_exact [] f h = h []
  limits_exact (v ∷ vs) f h = rw (is_limit v.kind s) (found_exact (as_lim v.kind) _ (λ n. true) _ (λ j. limits_exact vs (λ js. f (j ∷ js)) (λ js. h (j ∷ js))))

-- no operand, one, or two
module _ {s : Store} {on : ℕ} {l : Bool} where
  bare_exact : (r : Bool) (h : List Value) (p : Plan) → ExactPlan s on false (not r) [] l p → ExactPlan s on false (not (suit [] h s and r)) [] l (bare h p)
  unfolding bare suit ◌and◌
  bare_exact r [] p g = g
  bare_exact r (v ∷ h) p g = xp_wrong

  one_exact : (u : Use) (h : List Value) (f : Value → Plan) → ((v : Value) → ExactPlan s on false (not (suits u.want v.kind s and true)) (touched_in (u ∷ []) (v ∷ [])) l (f v))
      → ExactPlan s on false (not (suit (u ∷ []) h s and true)) (touched_in (u ∷ []) h) l (one h f)
  unfolding one suit
  one_exact u h f g = whole (suit (u ∷ []) h s) (at h)
    where
      at : (h : List Value) → ExactPlan s on false (not (suit (u ∷ []) h s)) (touched_in (u ∷ []) h) l (one h f)
      at [] = xp_wrong
      at (v ∷ []) = g v
      at (v ∷ w ∷ h) = rw (and_false (suits u.want v.kind s)) xp_wrong

  two_exact : (u t : Use) (h : List Value) (f : Value → Value → Plan)
      → ((v w : Value) → ExactPlan s on false (not (suits u.want v.kind s and (suits t.want w.kind s and true))) (touched_in (u ∷ t ∷ []) (v ∷ w ∷ [])) l (f v w))
      → ExactPlan s on false (not (suit (u ∷ t ∷ []) h s and true)) (touched_in (u ∷ t ∷ []) h) l (two h f)
  unfolding two suit
  two_exact u t h f g = whole (suit (u ∷ t ∷ []) h s) (at h)
    where
      at : (h : List Value) → ExactPlan s on false (not (suit (u ∷ t ∷ []) h s)) (touched_in (u ∷ t ∷ []) h) l (two h f)
      at [] = xp_wrong
      at (v ∷ []) = rw (and_false (suits u.want v.kind s)) xp_wrong
      at (v ∷ w ∷ []) = g v w
      at (v ∷ w ∷ x ∷ h) = rw (and_false (suits t.want w.kind s), and_false (suits u.want v.kind s)) xp_wrong

-- the keys of all values
all_touched : (vs : List Value) → touched_in (alike (length vs) (touches read a_limit)) vs ≡ keys_of vs
unfolding touched_in is_touched holds alike keys_of
all_touched [] = refl
all_touched (v ∷ vs) = rw (all_touched vs)

module _ {T : Type 0} where
  act_exact : (k : Cmd T) (h : List Value) (t u : Thread) (s : Store) (ts : List Thread)
      → ExactPlan s t.on false (not (acting k h t.env t.on s).suited) (touched (acting k h t.env t.on s))
      (any_lacking (acting k h t.env t.on s).places (record { thread = u; store = s; threads = ts })) (act k h (record { thread = t; store = s; threads = ts }))
  unfolding act acting wants_of Operands.uses_var Sets.all_of touched_in is_touched holds suits ◌and◌ any_lacking lacking act_pair act_part act_fn act_app act_new act_asg act_read act_sum act_test act_lim act_grant make_key act_newkey act_assoc act_access act_divide act_spawn variable found
  act_exact (c_num n) h t u s ts = bare_exact true h _ (xp_try refl refl)
  act_exact c_top h t u s ts = bare_exact true h _ (xp_try refl refl)
  act_exact (c_var x) h t u s ts = bare_exact _ h _ (at (seek most_bindings s.bindings t.env x))
    where
      at : (o : Option Value) → ExactPlan s t.on false (not (cond (holds o (λ v. true)) true false)) [] false (found o (λ v. Step.gives [] v (record { thread = t; store = s; threads = ts })))
      at none = xp_wrong
      at (some v) = xp_try refl refl
  act_exact (c_pair a b) h t u s ts = two_exact (takes anything) (takes anything) h _ (λ v w. xp_try refl (one_full (length s.pairs) most_pairs))
  act_exact (c_part a i) h t u s ts = one_exact (touches read a_pair) h _ (λ v. rw (is_pair v.kind s) (found_exact (as_pair v.kind) _ _ true (λ p. found_exact (get_elem? s.pairs p) _ (λ x. true) true (λ x. xp_try refl refl))))
  act_exact (c_fn x ty b) h t u s ts = bare_exact true h _ (xp_try refl (one_full (length s.functions) most_functions))
  act_exact (c_app a b) h t u s ts = two_exact (touches read a_function) (takes anything) h _ (λ v w. rw (is_function v.kind s) (found_exact (as_fn v.kind) _ _ true (λ p. found_exact (get_elem? s.functions p) _ (λ x. true) true (λ x. xp_try refl (one_full (length s.bindings) most_bindings)))))
  act_exact (c_new ty a) h t u s ts = one_exact (takes anything) h _ (λ v. xp_try refl (one_full (length s.cells) most_cells))
  act_exact (c_asg a b) h t u s ts = two_exact (touches write a_cell) (takes anything) h _ (λ v w. rw (is_cell_lem v.kind s) (found_exact (as_cell v.kind) _ _ true (λ p. found_exact (get_elem? s.cells p) _ (λ x. true) true (λ x. xp_try refl refl))))
  act_exact (c_read a) h t u s ts = one_exact (touches read a_cell) h _ (λ v. rw (is_cell_lem v.kind s) (found_exact (as_cell v.kind) _ _ true (λ p. found_exact (get_elem? s.cells p) _ (λ x. true) true (λ x. xp_try refl refl))))
  act_exact (c_sum i a b) h t u s ts = two_exact (touches read a_number) (touches read a_number) h _ (λ v w. rw (is_number v.kind s) (found_exact (as_num v.kind) _ (λ x. true) _ (λ x. rw (is_number w.kind s) (found_exact (as_num w.kind) _ (λ y. true) true (λ y. xp_try refl refl)))))
  act_exact (c_test a b c ty) h t u s ts = one_exact (touches read a_number) h _ (λ v. rw (is_number v.kind s) (found_exact (as_num v.kind) _ (λ x. true) true (λ n. xp_try refl refl)))
  act_exact (c_lim ks b) h t u s ts = rw (all_touched h) (whole (suit (alike (length h) (touches read a_limit)) h s) (limits_exact h _ (λ js. xp_try refl refl)))
  act_exact (c_grant a b) h t u s ts = one_exact (touches read a_grant) h _ (λ v. rw (is_grant v.kind s) (found_exact (as_grant v.kind) _ (λ x. true) true (λ j. xp_try refl refl)))
  act_exact (c_newkey x r a b ty) h t u s ts = one_exact (touches read a_limit) h _ (λ v. rw (is_limit v.kind s) (found_exact (as_lim v.kind) _ (λ x. true) true (λ j. xp_try refl (three_full (length s.keys) most_keys (length s.pairs) most_pairs (length s.bindings) most_bindings))))
  act_exact (c_assoc a b) h t u s ts = two_exact (touches read_and_write anything) (touches read a_limit) h _ (λ v w. rw (is_limit w.kind s) (found_exact (as_lim w.kind) _ (λ x. true) true (λ j. xp_try refl refl)))
  act_exact (c_access a b c ty) h t u s ts = one_exact (touches read a_limit) h _ (λ v. rw (is_limit v.kind s) (found_exact (as_lim v.kind) _ (λ x. true) true (λ j. xp_try refl refl)))
  act_exact (c_divide a b) h t u s ts = two_exact (touches read a_number) (touches read a_number) h _ (λ v w. rw (is_number v.kind s) (found_exact (as_num v.kind) _ (λ x. true) _ (λ x. rw (is_number w.kind s) (found_exact (as_num w.kind) _ (λ y. true) true (λ y. xp_try refl (one_full (length s.pairs) most_pairs))))))
  act_exact (c_spawn b) h t u s ts = bare_exact true h _ (xp_try refl (one_full (length ts) most_threads))

  enter_exact : (e : ℕ) (l : List ℕ) (k : Cmd T) (m : Machine)
      → ExactPlan m.store (to_enter l k m).on false (not (to_enter l k m).suited) (touched (to_enter l k m)) (any_lacking (to_enter l k m).places m) (enter_at e l k m)
  unfolding enter_at to_enter push any_lacking lacking acting touched_in
  enter_exact e [] k m = act_exact k [] m.thread m.thread m.store m.threads
  enter_exact e (a ∷ l) k m = xp_try refl (one_full (length m.thread.frames) most_frames)

module _ {T : Type 0} (code : ℕ → Cmd T) where
  receive_exact : (o : Option ℕ) (f : Frame) (h : List Value) (fs : List Frame) (m : Machine)
      → let n = to_receive o (code f.at) f h m in ExactPlan m.store n.on false (not n.suited) (touched n) (any_lacking n.places m) (receive code o f h fs m)
  unfolding receive to_receive any_lacking acting touched_in
  receive_exact none f h fs m = act_exact (code f.at) h _ m.thread m.store m.threads
  receive_exact (some a) f h fs m = xp_try refl refl

  pub on_exact : (c : Control) (m : Machine)
      → let n = needs_on code c m in ExactPlan m.store n.on (done_at c m.thread.frames) (not n.suited) (touched n) (any_lacking n.places m) (plan_on code c m)
  unfolding done_at needs_on plan_on to_hand hand_to enter_cmd any_lacking touched_in
  on_exact (enter e) m = enter_exact e (evaluated (code e)) (code e) m
  on_exact (hand v) m = at m.thread.frames
    where
      at : (fs : List Frame) → let n = to_hand code v fs m in ExactPlan m.store n.on (done_at (hand v) fs) (not n.suited) (touched n) (any_lacking n.places m) (hand_to code v fs m)
      at [] = xp_done
      at (f ∷ fs) = receive_exact (get_elem? (evaluated (code f.at)) (suc (length f.hand))) f (f.hand ++ (v ∷ [])) fs m

  pub exact : Exactly (steps_of code)
  unfolding is_done wrong shut lacks needs plan step
  exact = record { at = λ m. settle_exact (on_exact m.thread.control m) }

-- Each answer exactly when

pub stuck_to : {d w x l : Bool} {o : Out} → Exact d w x l o → o ≡ o_stuck → w ≡ true
stuck_to ex_done e = let z : ◌≡◌ {A = ℕ} 0 1 = cc in absurd (omega arith)
stuck_to ex_stuck e = refl
stuck_to ex_denied e = let z : ◌≡◌ {A = ℕ} 0 1 = cc in absurd (omega arith)
stuck_to ex_room e = let z : ◌≡◌ {A = ℕ} 0 1 = cc in absurd (omega arith)
stuck_to ex_step e = let z : ◌≡◌ {A = ℕ} 0 1 = cc in absurd (omega arith)

pub stuck_from : {d w x l : Bool} {o : Out} → Exact d w x l o → w ≡ true → o ≡ o_stuck
stuck_from ex_done e = absurd (false≢true e)
stuck_from ex_stuck e = refl
stuck_from ex_denied e = absurd (false≢true e)
stuck_from ex_room e = absurd (false≢true e)
stuck_from ex_step e = absurd (false≢true e)

pub denied_to : {d w x l : Bool} {o : Out} → Exact d w x l o → o ≡ o_denied → (w ≡ false) × (x ≡ true)
denied_to ex_done e = let z : ◌≡◌ {A = ℕ} 0 1 = cc in absurd (omega arith)
denied_to ex_stuck e = let z : ◌≡◌ {A = ℕ} 0 1 = cc in absurd (omega arith)
denied_to ex_denied e = (refl, refl)
denied_to ex_room e = let z : ◌≡◌ {A = ℕ} 0 1 = cc in absurd (omega arith)
denied_to ex_step e = let z : ◌≡◌ {A = ℕ} 0 1 = cc in absurd (omega arith)

pub denied_from : {d w x l : Bool} {o : Out} → Exact d w x l o → w ≡ false → x ≡ true → o ≡ o_denied
denied_from ex_done e f = absurd (false≢true f)
denied_from ex_stuck e f = absurd (false≢true (sym e))
denied_from ex_denied e f = refl
denied_from ex_room e f = absurd (false≢true f)
denied_from ex_step e f = absurd (false≢true f)

pub room_to : {d w x l : Bool} {o : Out} → Exact d w x l o → o ≡ o_room → (w ≡ false) × (x ≡ false) × (l ≡ true)
room_to ex_done e = let z : ◌≡◌ {A = ℕ} 0 1 = cc in absurd (omega arith)
room_to ex_stuck e = let z : ◌≡◌ {A = ℕ} 0 1 = cc in absurd (omega arith)
room_to ex_denied e = let z : ◌≡◌ {A = ℕ} 0 1 = cc in absurd (omega arith)
room_to ex_room e = (refl, refl, refl)
room_to ex_step e = let z : ◌≡◌ {A = ℕ} 0 1 = cc in absurd (omega arith)

pub room_from : {d w x l : Bool} {o : Out} → Exact d w x l o → w ≡ false → x ≡ false → l ≡ true → o ≡ o_room
room_from ex_done e f g = absurd (false≢true g)
room_from ex_stuck e f g = absurd (false≢true (sym e))
room_from ex_denied e f g = absurd (false≢true (sym f))
room_from ex_room e f g = refl
room_from ex_step e f g = absurd (false≢true g)

pub taken_to : {d w x l : Bool} {o : Out} {n : Machine} → Exact d w x l o → o ≡ o_step n → (d ≡ false) × (w ≡ false) × (x ≡ false) × (l ≡ false)
taken_to ex_done e = let z : ◌≡◌ {A = ℕ} 0 1 = cc in absurd (omega arith)
taken_to ex_stuck e = let z : ◌≡◌ {A = ℕ} 0 1 = cc in absurd (omega arith)
taken_to ex_denied e = let z : ◌≡◌ {A = ℕ} 0 1 = cc in absurd (omega arith)
taken_to ex_room e = let z : ◌≡◌ {A = ℕ} 0 1 = cc in absurd (omega arith)
taken_to ex_step e = (refl, refl, refl, refl)

pub taken_from : {d w x l : Bool} {o : Out} → Exact d w x l o → d ≡ false → w ≡ false → x ≡ false → l ≡ false → (n : Machine) × (o ≡ o_step n)
taken_from ex_done e f g h = absurd (false≢true (sym e))
taken_from ex_stuck e f g h = absurd (false≢true (sym f))
taken_from ex_denied e f g h = absurd (false≢true (sym g))
taken_from ex_room e f g h = absurd (false≢true (sym h))
taken_from (ex_step {n = n}) e f g h = (n, refl)

pub done_to : {d w x l : Bool} {o : Out} → Exact d w x l o → o ≡ o_done → d ≡ true
done_to ex_done e = refl
done_to ex_stuck e = let z : ◌≡◌ {A = ℕ} 0 1 = cc in absurd (omega arith)
done_to ex_denied e = let z : ◌≡◌ {A = ℕ} 0 1 = cc in absurd (omega arith)
done_to ex_room e = let z : ◌≡◌ {A = ℕ} 0 1 = cc in absurd (omega arith)
done_to ex_step e = let z : ◌≡◌ {A = ℕ} 0 1 = cc in absurd (omega arith)

pub done_from : {d w x l : Bool} {o : Out} → Exact d w x l o → d ≡ true → o ≡ o_done
done_from ex_done e = refl
done_from ex_stuck e = absurd (false≢true e)
done_from ex_denied e = absurd (false≢true e)
done_from ex_room e = absurd (false≢true e)
done_from ex_step e = absurd (false≢true e)

module _ {T : Type 0} (code : ℕ → Cmd T) (m : Machine) where
  pub done_exactly : (step code m ≡ o_done) ↔ (is_done m ≡ true)
  done_exactly = (done_to ((exact code).at m), done_from ((exact code).at m))

  pub stuck_exactly : (step code m ≡ o_stuck) ↔ Stuck (needs code) m
  stuck_exactly = (stuck_to ((exact code).at m), stuck_from ((exact code).at m))

  pub denied_exactly : (step code m ≡ o_denied) ↔ Denied (needs code) m
  denied_exactly = (denied_to ((exact code).at m), λ z. denied_from ((exact code).at m) z.0 z.1)

  pub noroom_exactly : (step code m ≡ o_room) ↔ NoRoom (needs code) m
  noroom_exactly = (room_to ((exact code).at m), λ z. room_from ((exact code).at m) z.0 z.1 z.2)

  pub taken_exactly : ((n : Machine) × (step code m ≡ o_step n)) ↔ Ready (needs code) m
  taken_exactly = (λ z. taken_to ((exact code).at m) z.1, λ z. taken_from ((exact code).at m) z.0 z.1 z.2 z.3)
