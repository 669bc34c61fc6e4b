-- 0x41 after document 02 (F-5), said without the words of its definition, for all numbers: the parts are the only ones that the paper allows, so no minute is lost; and of every machine: the operands
-- are evaluated in order, both must be numbers and both are touched, one pair of room is taken, and an unkeyed pair of these unkeyed numbers is handed on.
use Rattle.std.specs.Prelude.{◌≡◌, refl, ◌≢◌, ℕ, zero, suc, ◌+◌, ◌*◌, ◌/◌, ◌%◌, ◌≤◌, ◌<◌, true, false, List, [], ◌∷◌, length}
use Rattle.std.proofs.Common.{sym, ◌∙◌, div-add-mod', mod-lt, div-le_self, zero-lt-suc, arith}
use Rattle.std.proofs.Math.Path.{ap}
use Rattle.std.proofs.Math.Nat.{mod-le}
use Rattle.std.proofs.Math.Arith.{digits_div, digits_mod}
use borrow.Author.Tests.{lt-ltb, le-ltb}
use Rattle.syntax.specs.Commands.{Cmd, c_pair, c_divide}
use Rattle.syntax.specs.Operands.{evaluated}
use Rattle.semantics.specs.Machine.{Kind, k_num, k_pair, k_fn, k_cell, k_lim, k_grant, Value, unkeyed, Two, Frame, enter, hand, Machine, most_pairs, most_frames}
use Rattle.semantics.specs.Keys.{enabled}
use Rattle.semantics.specs.Step
use Rattle.semantics.specs.Step.{Plan, p_wrong, o_step, o_room, o_stuck, o_denied, room, settle, push, enter_at, enter_cmd, receive, hand_to, plan_on, plan, as_num, found, two, quotient, remainder, act_divide, touch_all, act_pair, act, step}
use Rattle.semantics.proofs.ActLaws.{Acting, acting}
use Rattle.semantics.specs.DivisionLaws.{NoNumber, Shared, after, pairing, parts}

-- "Part 1 times the divisor plus part 2 is the dividend": minutes are never lost
pub never_lost : (a b : ℕ) → quotient a b * b + remainder a b ≡ a
unfolding quotient remainder
never_lost a zero = omega arith
never_lost a (suc b) = div-add-mod' a (suc b)

-- "part 2 is less than a divisor above 0"
pub odd_ones_below : (a b : ℕ) → 0 < b → remainder a b < b
unfolding remainder
odd_ones_below a zero h = absurd (omega arith)
odd_ones_below a (suc b) h = mod-lt a h

-- "A divisor of 0 gives 0 and the dividend."
pub by_none : (a : ℕ) → (quotient a 0 ≡ 0) × (remainder a 0 ≡ a)
unfolding quotient remainder
by_none a = (refl, refl)

-- no other two numbers are so
pub only_parts : (a b x y : ℕ) → x * b + y ≡ a → y < b → (x ≡ quotient a b) × (y ≡ remainder a b)
unfolding quotient remainder
only_parts a zero x y e h = absurd (omega arith)
only_parts a (suc b) x y e h = (sym (digits_div x h) ∙ ap (λ n. n / suc b) e, sym (digits_mod x h) ∙ ap (λ n. n % suc b) e)

-- both are numbers of the machine, being no more than the dividend
pub parts_within : (a b : ℕ) → (quotient a b ≤ a) × (remainder a b ≤ a)
unfolding quotient remainder
parts_within a zero = (omega arith, omega arith)
parts_within a (suc b) = (div-le_self a (suc b), mod-le a (suc b))

pub shared : (a b : ℕ) → Shared a b (parts a b)
shared a b =
    record {
      part = quotient a b;
      odd = remainder a b;
      first = refl;
      second = refl;
      whole = never_lost a b;
      below = odd_ones_below a b;
      none = λ e. rw e (by_none a);
    }

-- and nothing else is what it gives
given_parts : (a b : ℕ) {t : Two} (s : Shared a b t) → (s.part ≡ quotient a b) × (s.odd ≡ remainder a b)
given_parts a zero s = ((s.none refl).0 ∙ sym (by_none a).0, (s.none refl).1 ∙ sym (by_none a).1)
given_parts a (suc b) s = only_parts a (suc b) s.part s.odd s.whole (s.below (zero-lt-suc b))

pub shared_only : (a b : ℕ) {t : Two} → Shared a b t → t ≡ parts a b
shared_only a b s =
    let x = given_parts a b s in
    λ i. record { one = (s.first ∙ ap (λ n. unkeyed (k_num n)) x.0) i; two = (s.second ∙ ap (λ n. unkeyed (k_num n)) x.1) i }

no_number : (k : Kind) (g : ℕ → Plan) → ((n : ℕ) → k ≢ k_num n) → found (as_num k) g ≡ p_wrong
unfolding as_num found
no_number (k_num n) g h = absurd (h n refl)
no_number (k_pair n) g h = refl
no_number (k_fn n) g h = refl
no_number (k_cell n) g h = refl
no_number (k_lim n) g h = refl
no_number (k_grant n) g h = refl

module _ {T : Type 0} (code : ℕ → Cmd T) where
  -- 0x33 makes its pair in the same way, of its two values as they are
  pub pair_hands : {m : Machine} {a b : ℕ} {v w : Value} {f : Frame} {fs : List Frame} → Acting code m (c_pair a b) (v ∷ w ∷ []) f fs → length m.store.pairs < most_pairs
      → step code m ≡ o_step (pairing m f fs (record { one = v; two = w }))
  unfolding act two act_pair settle touch_all room
  pair_hands {m} a r = acting code a ∙ rw (lt-ltb (length m.store.pairs) most_pairs r)

  -- the dividend is entered first, and its value is the first in hand; then the divisor
  pub divide_enters : (m : Machine) {e a b : ℕ} → m.thread.control ≡ enter e → code e ≡ c_divide a b → length m.thread.frames < most_frames
      → step code m ≡ o_step (after m (enter a) m.thread.env m.thread.on (record { at = e; env = m.thread.env; on = m.thread.on; hand = [] } ∷ m.thread.frames) m.store.pairs)
  unfolding step plan plan_on enter_cmd enter_at evaluated push settle touch_all room
  divide_enters m h c r = rw (h, c, lt-ltb (length m.thread.frames) most_frames r)

  pub divide_goes_on : (m : Machine) {a b : ℕ} {v : Value} {f : Frame} {fs : List Frame} → m.thread.control ≡ hand v → m.thread.frames ≡ (f ∷ fs) → code f.at ≡ c_divide a b → f.hand ≡ []
      → step code m ≡ o_step (after m (enter b) f.env f.on (record { at = f.at; env = f.env; on = f.on; hand = v ∷ [] } ∷ fs) m.store.pairs)
  unfolding step plan plan_on hand_to receive evaluated settle touch_all room
  divide_goes_on m h g c e = rw (h, g, c, e)

  -- stuck where either is no number, whatever its key
  pub divide_stuck : {m : Machine} {a b : ℕ} {v w : Value} {f : Frame} {fs : List Frame} → Acting code m (c_divide a b) (v ∷ w ∷ []) f fs → NoNumber v → step code m ≡ o_stuck
  unfolding act two act_divide settle
  divide_stuck {v = v} a h = acting code a ∙ ap settle (no_number v.kind _ h)

  pub divide_stuck_second : {m : Machine} {a b n : ℕ} {v w : Value} {f : Frame} {fs : List Frame} → Acting code m (c_divide a b) (v ∷ w ∷ []) f fs → v.kind ≡ k_num n → NoNumber w → step code m ≡ o_stuck
  unfolding act two act_divide settle as_num found
  divide_stuck_second {w = w} a e h = acting code a ∙ rw e (ap settle (no_number w.kind _ h))

  -- of two numbers both are touched, in order: denied where the key of either is not enabled, with room or without
  pub divide_denied : {m : Machine} {a b n k : ℕ} {v w : Value} {f : Frame} {fs : List Frame} → Acting code m (c_divide a b) (v ∷ w ∷ []) f fs → v.kind ≡ k_num n → w.kind ≡ k_num k
      → enabled m.store.keys f.on v.key ≡ false → step code m ≡ o_denied
  unfolding act two act_divide as_num found settle touch_all Step.touch
  divide_denied a e g h = acting code a ∙ rw (e, g, h)

  pub divide_denied_second : {m : Machine} {a b n k : ℕ} {v w : Value} {f : Frame} {fs : List Frame} → Acting code m (c_divide a b) (v ∷ w ∷ []) f fs → v.kind ≡ k_num n → w.kind ≡ k_num k
      → enabled m.store.keys f.on v.key ≡ true → enabled m.store.keys f.on w.key ≡ false → step code m ≡ o_denied
  unfolding act two act_divide as_num found settle touch_all Step.touch
  divide_denied_second a e g h l = acting code a ∙ rw (e, g, h, l)

  module _ {m : Machine} {a b n k : ℕ} {v w : Value} {f : Frame} {fs : List Frame} (here : Acting code m (c_divide a b) (v ∷ w ∷ []) f fs) (first : v.kind ≡ k_num n) (second : w.kind ≡ k_num k)
      (on_first : enabled m.store.keys f.on v.key ≡ true) (on_second : enabled m.store.keys f.on w.key ≡ true) where
    -- one pair of room is needed
    pub divide_no_room : most_pairs ≤ length m.store.pairs → step code m ≡ o_room
    unfolding act two act_divide as_num found settle touch_all Step.touch room
    divide_no_room r = acting code here ∙ rw (first, second, on_first, on_second, le-ltb (length m.store.pairs) most_pairs r)

    -- and taken: the new pair of the parts is handed on, with no key, and nothing else is changed
    pub divide_hands : length m.store.pairs < most_pairs
        → (t : Two) × Shared n k t × (step code m ≡ o_step (pairing m f fs t))
    unfolding act two act_divide as_num found settle touch_all Step.touch room
    divide_hands r = (parts n k, shared n k, acting code here ∙ rw (first, second, on_first, on_second, lt-ltb (length m.store.pairs) most_pairs r))
