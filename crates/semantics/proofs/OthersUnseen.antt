-- A step of one thread does not look at how other threads stand: with others in their places it does the same, as long as it starts none. (Entering 0x42 looks at how many there are.)
use Rattle.std.specs.Prelude.{◌≡◌, ℕ, suc, ◌<◌, Bool, cond, length}
use Rattle.std.proofs.Math.Path.{refl}
use Rattle.std.proofs.Common.{sym, ◌∙◌, arith}
use Rattle.std.proofs.Math.Bool.{true, false}
use Rattle.std.proofs.lemmas.Bool.{false≢true}
use mathlib.Core.List.{List, [], ◌∷◌, ◌++◌}
use Rattle.std.proofs.Math.Option.{Option, none, some}
use Rattle.std.proofs.Math.ListN.{length-append, get_elem?}
use Rattle.syntax.specs.Commands.{Cmd, c_num, c_top, c_var, c_pair, c_part, c_fn, c_app, c_new, c_asg, c_read, c_sum, c_test, c_lim, c_grant, c_newkey, c_assoc, c_access, c_divide, c_spawn, form, row}
use Rattle.syntax.specs.Operands.{evaluated}
use Rattle.semantics.specs.Machine.{Value, Frame, Control, enter, hand, Thread, Machine, most_bindings}
use Rattle.semantics.specs.Keys.{enabled}
use Rattle.semantics.specs.Step.{Out, o_step, o_denied, Plan, p_done, p_wrong, p_try, with_threads, room, touch, touch_all, settle, as_num, as_pair, as_fn, as_cell, as_lim, as_grant, found, bare, one, two}
use Rattle.semantics.specs.Step.{seek, variable, act_pair, act_part, act_fn, act_app, act_new, act_asg, act_read, act_sum, act_test, limit_keys, act_lim, act_grant, make_key, act_newkey, act_assoc, act_access, act_divide}
use Rattle.semantics.specs.Step.{resume, push, act, enter_at, enter_cmd, receive, hand_to, plan_on, plan, step}
use Rattle.semantics.proofs.SpawnLaws.{is_spawn}
use Rattle.semantics.specs.OthersUnseen.{with_out}

-- a plan that is the same but for the threads
data Alike (us : List Thread) : Plan → Plan → Type 0 where
  like_done : Alike us p_done p_done
  like_wrong : Alike us p_wrong p_wrong
  like_try : {ks : List ℕ} {free : Bool} (m n : Machine) → Alike us (p_try ks free m n) (p_try ks free (with_threads m us) (with_threads n us))

module _ (us : List Thread) where
  settle_alike : {p q : Plan} → Alike us p q → settle q ≡ with_out us (settle p)
  unfolding settle touch_all touch room with_out
  settle_alike like_done = refl
  settle_alike like_wrong = refl
  settle_alike (like_try {ks = ks} {free = free} m n) = all ks
    where
      last : (b : Bool) → room b (o_step (with_threads n us)) ≡ with_out us (room b (o_step n))
      last true = refl
      last false = refl

      at : (b : Bool) (o p : Out) → o ≡ with_out us p → cond b o o_denied ≡ with_out us (cond b p o_denied)
      at true o p e = e
      at false o p e = refl

      all : (ks : List ℕ) → touch_all ks (with_threads m us) (room free (o_step (with_threads n us))) ≡ with_out us (touch_all ks m (room free (o_step n)))
      all [] = last free
      all (k ∷ ks) = at (enabled m.store.keys m.thread.on k) _ _ (all ks)

  found_alike : {A : Type 0} (o : Option A) {f g : A → Plan} → ((a : A) → Alike us (f a) (g a)) → Alike us (found o f) (found o g)
  unfolding found
  found_alike none h = like_wrong
  found_alike (some a) h = h a

  bare_alike : (h : List Value) {p q : Plan} → Alike us p q → Alike us (bare h p) (bare h q)
  unfolding bare
  bare_alike [] g = g
  bare_alike (v ∷ h) g = like_wrong

  one_alike : (h : List Value) {f g : Value → Plan} → ((v : Value) → Alike us (f v) (g v)) → Alike us (one h f) (one h g)
  unfolding one
  one_alike [] k = like_wrong
  one_alike (v ∷ []) k = k v
  one_alike (v ∷ w ∷ h) k = like_wrong

  two_alike : (h : List Value) {f g : Value → Value → Plan} → ((v w : Value) → Alike us (f v w) (g v w)) → Alike us (two h f) (two h g)
  unfolding two
  two_alike [] k = like_wrong
  two_alike (v ∷ []) k = like_wrong
  two_alike (v ∷ w ∷ []) k = k v w
  two_alike (v ∷ w ∷ x ∷ h) k = like_wrong

  limits_alike : (vs : List Value) {f g : List ℕ → Plan} → ((js : List ℕ) → Alike us (f js) (g js)) → Alike us (limit_keys vs f) (limit_keys vs g)
  unfolding limit_keys
  limits_alike [] k = k []
  limits_alike (v ∷ vs) k = found_alike (as_lim v.kind) (λ j. limits_alike vs (λ js. k (j ∷ js)))

  module _ {T : Type 0} where
    act_alike : (k : Cmd T) (h : List Value) (m : Machine) → (is_spawn k ≡ true → 0 < length h) → Alike us (act k h m) (act k h (with_threads m us))
    unfolding act act_pair act_part act_fn act_app act_new act_asg act_read act_sum act_test act_lim act_grant make_key act_newkey act_assoc act_access act_divide variable is_spawn form row bare
    act_alike (c_num n) h m r = bare_alike h (like_try m _)
    act_alike c_top h m r = bare_alike h (like_try m _)
    act_alike (c_var x) h m r = bare_alike h (found_alike (seek most_bindings m.store.bindings m.thread.env x) (λ v. like_try m _))
    act_alike (c_pair a b) h m r = two_alike h (λ v w. like_try m _)
    act_alike (c_part a i) h m r = one_alike h (λ v. found_alike (as_pair v.kind) (λ p. found_alike (get_elem? m.store.pairs p) (λ t. like_try m _)))
    act_alike (c_fn x t b) h m r = bare_alike h (like_try m _)
    act_alike (c_app a b) h m r = two_alike h (λ v w. found_alike (as_fn v.kind) (λ f. found_alike (get_elem? m.store.functions f) (λ c. like_try m _)))
    act_alike (c_new t a) h m r = one_alike h (λ v. like_try m _)
    act_alike (c_asg a b) h m r = two_alike h (λ v w. found_alike (as_cell v.kind) (λ c. found_alike (get_elem? m.store.cells c) (λ old. like_try m _)))
    act_alike (c_read a) h m r = one_alike h (λ v. found_alike (as_cell v.kind) (λ c. found_alike (get_elem? m.store.cells c) (λ w. like_try m _)))
    act_alike (c_sum i a b) h m r = two_alike h (λ v w. found_alike (as_num v.kind) (λ x. found_alike (as_num w.kind) (λ y. like_try m _)))
    act_alike (c_test a b c t) h m r = one_alike h (λ v. found_alike (as_num v.kind) (λ n. like_try m _))
    act_alike (c_lim ks b) h m r = limits_alike h (λ js. like_try m _)
    act_alike (c_grant a b) h m r = one_alike h (λ v. found_alike (as_grant v.kind) (λ j. like_try m _))
    act_alike (c_newkey x n a b t) h m r = one_alike h (λ v. found_alike (as_lim v.kind) (λ j. like_try m _))
    act_alike (c_assoc a b) h m r = two_alike h (λ v w. found_alike (as_lim w.kind) (λ j. like_try m _))
    act_alike (c_access a b c t) h m r = one_alike h (λ v. found_alike (as_lim v.kind) (λ j. like_try m _))
    act_alike (c_divide a b) h m r = two_alike h (λ v w. found_alike (as_num v.kind) (λ x. found_alike (as_num w.kind) (λ y. like_try m _)))
    act_alike (c_spawn b) [] m r = absurd (let z = r refl in omega (arith, z))
    act_alike (c_spawn b) (v ∷ h) m r = like_wrong

    enter_alike : (e : ℕ) (l : List ℕ) (k : Cmd T) (m : Machine) → is_spawn k ≡ false → Alike us (enter_at e l k m) (enter_at e l k (with_threads m us))
    unfolding enter_at push
    enter_alike e [] k m s = act_alike k [] m (λ z. absurd (false≢true (sym s ∙ z)))
    enter_alike e (a ∷ l) k m s = like_try m _

    hand_alike : (code : ℕ → Cmd T) (v : Value) (fs : List Frame) (m : Machine) → Alike us (hand_to code v fs m) (hand_to code v fs (with_threads m us))
    unfolding hand_to receive
    hand_alike code v [] m = like_done
    hand_alike code v (f ∷ fs) m = at (get_elem? (evaluated (code f.at)) (suc (length f.hand)))
      where
        at : (o : Option ℕ) → Alike us (receive code o f (f.hand ++ (v ∷ [])) fs m) (receive code o f (f.hand ++ (v ∷ [])) fs (with_threads m us))
        at none = act_alike (code f.at) (f.hand ++ (v ∷ [])) (resume f fs m) (λ z. omega (arith, length-append f.hand (v ∷ [])))
        at (some a) = like_try _ _

-- the expression to enter is a 0x42
unfoldable pub spawning : {T : Type 0} → (ℕ → Cmd T) → Control → Bool
spawning code (enter e) = is_spawn (code e)
spawning code (hand v) = false

pub others_unseen : {T : Type 0} (code : ℕ → Cmd T) (m : Machine) (us : List Thread) → spawning code m.thread.control ≡ false → step code (with_threads m us) ≡ with_out us (step code m)
unfolding step plan plan_on enter_cmd spawning
others_unseen code m us s = settle_alike us (on m.thread.control s)
  where
    on : (c : Control) → spawning code c ≡ false → Alike us (plan_on code c m) (plan_on code c (with_threads m us))
    on (enter e) s = enter_alike us e (evaluated (code e)) (code e) m s
    on (hand v) s = hand_alike us code v m.thread.frames m
