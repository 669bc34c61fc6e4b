-- 0x3A after document 02 (F-2), said without the words of its definition, for all numbers: a sum or difference is the true one or stands at the end that it passed, so none wraps; and the machine
-- evaluates the operands in order and hands on the first's number plus or less the second's.
use Rattle.std.specs.Prelude.{◌≡◌, ◌↔◌, ℕ, ◌+◌, ◌≤◌, ◌<◌, Bool, true, false, List, [], ◌∷◌, length}
use Rattle.std.proofs.Common.{◌∙◌, arith}
use borrow.Author.Tests.{lt-ltb}
use Rattle.syntax.specs.Commands.{Cmd, c_sum}
use Rattle.syntax.specs.Operands.{evaluated}
use Rattle.semantics.specs.Machine.{Value, k_num, unkeyed, Frame, enter, hand, Machine, most_frames}
use Rattle.semantics.specs.Keys.{enabled}
use Rattle.semantics.specs.Step
use Rattle.semantics.specs.Step.{o_step, o_denied, room, settle, handing, entering, with_frames, holding, push, enter_at, enter_cmd, receive, hand_to, plan_on, plan, as_num, found, two, sum_n, act_sum, touch_all, act, resume, step}
use Rattle.semantics.proofs.ActLaws.{Acting, acting}

-- 4294967295 where the sum is that or above, and the true sum wherever it is at most that
pub sum_stops : (a b : ℕ) → 4294967295 ≤ a + b → sum_n true a b ≡ 4294967295
unfolding sum_n
sum_stops a b h = omega arith

pub sum_true : (a b : ℕ) → a + b ≤ 4294967295 → sum_n true a b ≡ a + b
unfolding sum_n
sum_true a b h = omega arith

-- 0 where the difference is that or below, and the true difference wherever it is not below 0
pub difference_stops : (a b : ℕ) → a ≤ b → sum_n false a b ≡ 0
unfolding sum_n
difference_stops a b h = omega arith

pub difference_true : (a b : ℕ) → b ≤ a → sum_n false a b + b ≡ a
unfolding sum_n
difference_true a b h = omega arith

-- so both are numbers of the machine, no sum is below its parts, and no difference above what it is taken from
pub number_stays : (i : Bool) (a b : ℕ) → a ≤ 4294967295 → sum_n i a b ≤ 4294967295
unfolding sum_n
number_stays true a b h = omega arith
number_stays false a b h = omega arith

pub sum_above : (a b : ℕ) → a ≤ 4294967295 → b ≤ 4294967295 → (a ≤ sum_n true a b) × (b ≤ sum_n true a b)
unfolding sum_n
sum_above a b h l = (omega arith, omega arith)

pub difference_below : (a b : ℕ) → sum_n false a b ≤ a
unfolding sum_n
difference_below a b = omega arith

-- more is never less: neither end turns the order round
pub sum_grows : (a b c d : ℕ) → a ≤ c → b ≤ d → sum_n true a b ≤ sum_n true c d
unfolding sum_n
sum_grows a b c d h l = omega arith

pub difference_grows : (a b c d : ℕ) → a ≤ c → d ≤ b → sum_n false a b ≤ sum_n false c d
unfolding sum_n
difference_grows a b c d h l = omega arith

-- the order of a sum's parts does not count
pub sum_turned : (a b : ℕ) → sum_n true a b ≡ sum_n true b a
unfolding sum_n
sum_turned a b = omega arith

-- what a job can ask: which is above, whether they are equal, whether a sum is cut short
pub asks_above : (a b : ℕ) → (1 ≤ sum_n false a b) ↔ (b < a)
unfolding sum_n
asks_above a b = (λ h. omega arith, λ h. omega arith)

pub asks_equal : (a b : ℕ) → (sum_n true (sum_n false a b) (sum_n false b a) ≡ 0) ↔ (a ≡ b)
unfolding sum_n
asks_equal a b = (λ h. omega arith, λ h. omega arith)

pub asks_cut : (a b : ℕ) → a ≤ 4294967295 → (1 ≤ sum_n false b (sum_n false 4294967295 a)) ↔ (4294967295 < a + b)
unfolding sum_n
asks_cut a b l = (λ h. omega arith, λ h. omega arith)

module _ {T : Type 0} (code : ℕ → Cmd T) where
  -- the first operand is entered first, and its value is the first in hand; then the second
  pub sum_enters : (m : Machine) {e a b : ℕ} {i : Bool} → m.thread.control ≡ enter e → code e ≡ c_sum i a b → length m.thread.frames < most_frames
      → step code m ≡ o_step (entering a m.thread.env m.thread.on (with_frames m (record { at = e; env = m.thread.env; on = m.thread.on; hand = [] } ∷ m.thread.frames)))
  unfolding step plan plan_on enter_cmd enter_at evaluated push settle touch_all room
  sum_enters m h c r = rw (h, c, lt-ltb (length m.thread.frames) most_frames r)

  pub sum_goes_on : (m : Machine) {a b : ℕ} {i : Bool} {v : Value} {f : Frame} {fs : List Frame} → m.thread.control ≡ hand v → m.thread.frames ≡ (f ∷ fs) → code f.at ≡ c_sum i a b → f.hand ≡ []
      → step code m ≡ o_step (entering b f.env f.on (resume f (holding f (v ∷ []) ∷ fs) m))
  unfolding step plan plan_on hand_to receive evaluated settle touch_all room
  sum_goes_on m h g c e = rw (h, g, c, e)

  -- both are touched: where the key of either is not enabled, the step is denied
  pub sum_denied : {m : Machine} {i : Bool} {a b n k : ℕ} {v w : Value} {f : Frame} {fs : List Frame} → Acting code m (c_sum i a b) (v ∷ w ∷ []) f fs → v.kind ≡ k_num n → w.kind ≡ k_num k
      → enabled m.store.keys f.on v.key ≡ false → step code m ≡ o_denied
  unfolding act two act_sum as_num found settle touch_all Step.touch
  sum_denied a e g h = acting code a ∙ rw (e, g, h)

  pub sum_denied_second : {m : Machine} {i : Bool} {a b n k : ℕ} {v w : Value} {f : Frame} {fs : List Frame} → Acting code m (c_sum i a b) (v ∷ w ∷ []) f fs → v.kind ≡ k_num n → w.kind ≡ k_num k
      → enabled m.store.keys f.on v.key ≡ true → enabled m.store.keys f.on w.key ≡ false → step code m ≡ o_denied
  unfolding act two act_sum as_num found settle touch_all Step.touch
  sum_denied_second a e g h l = acting code a ∙ rw (e, g, h, l)

  -- and else that number is handed on, with no key
  pub sum_hands : {m : Machine} {i : Bool} {a b n k : ℕ} {v w : Value} {f : Frame} {fs : List Frame} → Acting code m (c_sum i a b) (v ∷ w ∷ []) f fs → v.kind ≡ k_num n → w.kind ≡ k_num k
      → enabled m.store.keys f.on v.key ≡ true → enabled m.store.keys f.on w.key ≡ true
      → step code m ≡ o_step (handing (unkeyed (k_num (sum_n i n k))) (resume f fs m))
  unfolding act two act_sum as_num found settle touch_all Step.touch room
  sum_hands a e g h l = acting code a ∙ rw (e, g, h, l)
