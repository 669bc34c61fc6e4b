-- Facts on bytes and lists that the readers rest on.
use mathlib.Core.Path.{◌≡◌, sym, ap, ◌∙◌}
use Prim.Native.Nat.{ℕ, ◌+◌, ◌≤◌}
use native.Mathlib.Omega.{arith}
use mathlib.Core.List.{List, [], ◌∷◌}
use lib.ListN.{length, get_or, take, drop, length-drop, length-take}
use mathlib.Core.Bool.{Bool, cond}
use borrow.Author.Tests.{le-leb}
use Rattle.std.specs.Int.{from_le_bytes, w16, w32, w64}
use Rattle.syntax.specs.Commands.{little}
use Rattle.entry.specs.Bytes.{field_at}

-- what std reads of one, two, four and eight bytes is the little-endian number of the definitions
pub little_one : (s : List ℕ) → length s ≡ 1 → get_or s 0 0 ≡ little s
unfolding little
little_one [] h = absurd (omega arith)
little_one (a ∷ []) h = omega arith
little_one (a ∷ b ∷ s) h = absurd (omega arith)

pub little_two : (s : List ℕ) → length s ≡ 2 → from_le_bytes w16 s ≡ little s
unfolding little
little_two [] h = absurd (omega arith)
little_two (a ∷ []) h = absurd (omega arith)
little_two (a ∷ b ∷ []) h = omega arith
little_two (a ∷ b ∷ c ∷ s) h = absurd (omega arith)

pub little_four : (s : List ℕ) → length s ≡ 4 → from_le_bytes w32 s ≡ little s
unfolding little
little_four [] h = absurd (omega arith)
little_four (a ∷ []) h = absurd (omega arith)
little_four (a ∷ b ∷ []) h = absurd (omega arith)
little_four (a ∷ b ∷ c ∷ []) h = absurd (omega arith)
little_four (a ∷ b ∷ c ∷ d ∷ []) h = omega arith
little_four (a ∷ b ∷ c ∷ d ∷ e ∷ s) h = absurd (omega arith)

pub little_eight : (s : List ℕ) → length s ≡ 8 → from_le_bytes w64 s ≡ little s
unfolding little
little_eight [] h = absurd (omega arith)
little_eight (a ∷ []) h = absurd (omega arith)
little_eight (a ∷ b ∷ []) h = absurd (omega arith)
little_eight (a ∷ b ∷ c ∷ []) h = absurd (omega arith)
little_eight (a ∷ b ∷ c ∷ d ∷ []) h = absurd (omega arith)
little_eight (a ∷ b ∷ c ∷ d ∷ e ∷ []) h = absurd (omega arith)
little_eight (a ∷ b ∷ c ∷ d ∷ e ∷ f ∷ []) h = absurd (omega arith)
little_eight (a ∷ b ∷ c ∷ d ∷ e ∷ f ∷ g ∷ []) h = absurd (omega arith)
little_eight (a ∷ b ∷ c ∷ d ∷ e ∷ f ∷ g ∷ i ∷ []) h = omega arith
little_eight (a ∷ b ∷ c ∷ d ∷ e ∷ f ∷ g ∷ i ∷ j ∷ s) h = absurd (omega arith)

-- the operand of w bytes at `at`, where the job does not end before it
pub field_read : (w at : ℕ) (s b : List ℕ) (f : List ℕ → ℕ) → ((l : List ℕ) → length l ≡ w → f l ≡ little l) → (at + w ≤ length s) × (b ≡ take w (drop at s)) → f b ≡ field_at w s at
unfolding field_at
field_read w at s b f little_is (within, e) =
    let long : length b ≡ w = ap length e ∙ simp (length-take, length-drop) (omega arith) in
    little_is b long ∙ ap little e ∙ sym (ap (λ (c : Bool). cond c (little (take w (drop at s))) 0) (le-leb (at + w) (length s) within))
