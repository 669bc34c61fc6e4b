-- A job that is read is as its typing and its run rely on.
use Rattle.std.specs.Prelude.{◌≡◌, true}
use Prim.Native.Nat.{ℕ, ◌≤◌, ◌<◌}
use mathlib.Core.List.{List, Memᴰ}
use Rattle.syntax.specs.Commands.{Cmd}
use Rattle.syntax.specs.Operands.{children, types_of, uses_var, binds_var, binds_name}
use Rattle.syntax.specs.Job.{Name}
use Rattle.syntax.specs.Reading.{local_name, most_variables}

-- what holds of expression e, where there are so many types and values
pub record CmdFormed (ds : List Name) (types values e : ℕ) (k : Cmd ℕ) : Type 0 where
  pub operand : (c : ℕ) → Memᴰ c (children k) → c < e
  pub type_operand : (t : ℕ) → Memᴰ t (types_of k) → t < types
  pub used_variable : (v : ℕ) → Memᴰ v (uses_var k) → v < most_variables
  pub bound_variable : (v : ℕ) → Memᴰ v (binds_var k) → (values ≤ v) × (v < most_variables)
  pub bound_name_lem : (r : ℕ) → Memᴰ r (binds_name k) → local_name ds r ≡ true
