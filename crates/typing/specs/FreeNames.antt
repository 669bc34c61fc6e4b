-- The names that stand free in a type, as a relation.
use Rattle.std.specs.Prelude.{◌≡◌, ℕ, ◌≢◌}
use mathlib.Core.List.{Memᴰ}
use Rattle.order.specs.Effects.{Effect, names}
use Rattle.syntax.specs.Types.{Ty, num, pair, cell, fn, lim, grant}

-- n stands free in the type: as a key, as a limit or grant key's own name, or in a function's set
pub data At (n : ℕ) : Ty → Type 0 where
  a_num : {q : ℕ} → n ≡ q → At n (num q)
  a_pair : {q : ℕ} {A B : Ty} → n ≡ q → At n (pair q A B)
  a_pair1 : {q : ℕ} {A B : Ty} → At n A → At n (pair q A B)
  a_pair2 : {q : ℕ} {A B : Ty} → At n B → At n (pair q A B)
  a_cell : {q : ℕ} {A : Ty} → n ≡ q → At n (cell q A)
  a_cell1 : {q : ℕ} {A : Ty} → At n A → At n (cell q A)
  a_fn : {q : ℕ} {A B : Ty} {s : Effect} → n ≡ q → At n (fn q A B s)
  a_fn1 : {q : ℕ} {A B : Ty} {s : Effect} → At n A → At n (fn q A B s)
  a_fn2 : {q : ℕ} {A B : Ty} {s : Effect} → At n B → At n (fn q A B s)
  a_fn3 : {q : ℕ} {A B : Ty} {s : Effect} → Memᴰ n (names s) → At n (fn q A B s)
  a_lim : {q r : ℕ} → n ≡ q → At n (lim q r)
  a_lim1 : {q r : ℕ} → n ≡ r → At n (lim q r)
  a_grant : {q r : ℕ} → n ≡ q → At n (grant q r)
  a_grant1 : {q r : ℕ} → n ≡ r → At n (grant q r)

-- r does not stand free in the type
pub record Free (r : ℕ) (T : Ty) : Type 0 where
  pub none : (n : ℕ) → At n T → n ≢ r
