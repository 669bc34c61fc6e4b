-- The scope of names, as Figure 4 of document 000 has it (Γ ⊢ ρ, Γ ⊢ τ and Γ ⊢ L): 0 and 1 are in scope everywhere, another name where the context has it; a type and an
-- effect are in scope where each name written in them is.
use Rattle.std.specs.Prelude.{ℕ, ◌<◌}
use mathlib.Core.List.{List, Memᴰ}
use Rattle.order.specs.Effects.{Effect, names}
use Rattle.syntax.specs.Types.{Ty, num, pair, cell, fn, lim, grant}
use Rattle.syntax.specs.Tree.{Entry, names_of}

-- a name
pub data ScopedName (Γ : List Entry) (n : ℕ) : Type 0 where
  n_low : n < 2 → ScopedName Γ n
  n_bound : Memᴰ n (names_of Γ) → ScopedName Γ n

-- an effect
pub record ScopedEffect (Γ : List Entry) (s : Effect) : Type 0 where
  pub each : (n : ℕ) → Memᴰ n (names s) → ScopedName Γ n

-- a type
pub data ScopedType (Γ : List Entry) : Ty → Type 0 where
  w_num : {q : ℕ} → ScopedName Γ q → ScopedType Γ (num q)
  w_pair : {q : ℕ} {A B : Ty} → ScopedName Γ q → ScopedType Γ A → ScopedType Γ B → ScopedType Γ (pair q A B)
  w_cell : {q : ℕ} {A : Ty} → ScopedName Γ q → ScopedType Γ A → ScopedType Γ (cell q A)
  w_fn : {q : ℕ} {A B : Ty} {s : Effect} → ScopedName Γ q → ScopedType Γ A → ScopedType Γ B → ScopedEffect Γ s → ScopedType Γ (fn q A B s)
  w_lim : {q r : ℕ} → ScopedName Γ q → ScopedName Γ r → ScopedType Γ (lim q r)
  w_grant : {q r : ℕ} → ScopedName Γ q → ScopedName Γ r → ScopedType Γ (grant q r)
