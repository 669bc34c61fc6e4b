-- Counts of steps, and why a run ends: each turn uses up some of what is left.
use Rattle.std.specs.Prelude.{◌≡◌, ℕ, ◌+◌, ◌-◌, ◌<◌, true, List, [], ◌∷◌, length}
use Rattle.semantics.specs.Calls.{Policy, bump}

-- what is left falls with each turn that may be taken
pub record Budget (may : Policy) : Type 0 where
  pub left : List ℕ → ℕ
  pub falls : (c : List ℕ) (i : ℕ) → i < length c → may c i ≡ true → left (bump i c) < left c

-- the steps that are left to all threads together
unfoldable pub left_of : List ℕ → List ℕ → ℕ
left_of [] c = 0
left_of (a ∷ l) [] = a + left_of l []
left_of (a ∷ l) (n ∷ c) = (a - n) + left_of l c
