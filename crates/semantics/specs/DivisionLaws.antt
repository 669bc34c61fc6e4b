-- 0x41 after document 02 (F-5), said without the words of its definition, for all numbers: the parts are the only ones that the paper allows, so no minute is lost; and of every machine: the operands
-- are evaluated in order, both must be numbers and both are touched, one pair of room is taken, and an unkeyed pair of these unkeyed numbers is handed on.
use Rattle.std.specs.Prelude.{◌≡◌, ◌≢◌, ℕ, ◌+◌, ◌*◌, ◌<◌, List, [], ◌∷◌, ◌++◌, length}
use Rattle.semantics.specs.Machine.{k_num, k_pair, Value, unkeyed, Two, KeySet, Frame, Control, hand, Machine}
use Rattle.semantics.specs.Step.{quotient, remainder}

-- what a division gives: two numbers without a key
pub record Shared (a b : ℕ) (t : Two) : Type 0 where
  pub part : ℕ
  pub odd : ℕ
  pub first : t.one ≡ unkeyed (k_num part)
  pub second : t.two ≡ unkeyed (k_num odd)
  pub whole : part * b + odd ≡ a
  pub below : 0 < b → odd < b
  pub none : b ≡ 0 → (part ≡ 0) × (odd ≡ a)

abbrev pub parts : ℕ → ℕ → Two
parts a b = record { one = unkeyed (k_num (quotient a b)); two = unkeyed (k_num (remainder a b)) }

-- a value that is no number
abbrev pub NoNumber : Value → Type 0
NoNumber v = (n : ℕ) → v.kind ≢ k_num n

-- the machine m with this control, these bindings in force, these enabled keys, frames and pairs: every other part is as it was
abbrev pub after : Machine → Control → ℕ → KeySet → List Frame → List Two → Machine
after m c env on fs ps =
    record {
      thread = record { control = c; env = env; on = on; frames = fs };
      store = record { cells = m.store.cells; keys = m.store.keys; pairs = ps; functions = m.store.functions; bindings = m.store.bindings };
      threads = m.threads;
    }

-- the new pair t is handed on, with no key; the frame f is popped, and its own bindings and enabled keys are back
abbrev pub pairing : Machine → Frame → List Frame → Two → Machine
pairing m f fs t = after m (hand (unkeyed (k_pair (length m.store.pairs)))) f.env f.on fs (m.store.pairs ++ (t ∷ []))
