-- What the operands of an expression are: expressions, variables, types. Uses, references and scopes go through these; all are read off the command's row.
use Rattle.std.specs.Prelude.{ℕ, Bool, true, false, get_or, eqb}
use Rattle.std.proofs.Math.Bool.{cond}
use mathlib.Core.List.{List, [], ◌∷◌, ◌++◌}
use Rattle.syntax.specs.Commands.{Cmd, c_num, Role, r_evaluated, r_entered, r_inside, r_keys, r_variable, r_parameter, r_keypair, r_local, traits, form, Operand, numbers, type, row}

-- a role is one of the wanted ones; some role is
unfoldable pub wanted : List Role → Role → Bool
unfolding traits
wanted [] r = false
wanted (w ∷ ws) r = cond (eqb (traits r).code (traits w).code) true (wanted ws r)

unfoldable pub some_wanted : List Role → List Role → Bool
unfolding wanted
some_wanted ws [] = false
some_wanted ws (r ∷ rs) = cond (wanted ws r) true (some_wanted ws rs)

module _ {T : Type 0} where
  -- the command of an expression; past the end a number
  unfoldable pub nth : List (Cmd T) → ℕ → Cmd T
  nth l i = get_or l i (c_num 0)

  -- the numbers given for the wanted roles, in order; those for the last wanted role stand as they are
  unfoldable pub having : List Role → List Role → List (Operand T) → List ℕ
  unfolding wanted some_wanted
  having ws [] os = []
  having ws (r ∷ rs) [] = []
  having ws (r ∷ rs) (numbers l ∷ os) = cond (wanted ws r) (cond (some_wanted ws rs) (l ++ having ws rs os) l) (having ws rs os)
  having ws (r ∷ rs) (type t ∷ os) = having ws rs os

  unfoldable pub types : List (Operand T) → List T
  types [] = []
  types (numbers l ∷ os) = types os
  types (type t ∷ os) = t ∷ types os

  -- the numbers of a command's operands that have one of the roles
  unfoldable pub of_roles : List Role → Cmd T → List ℕ
  unfolding having form row
  of_roles ws k = having ws (form (row k).op).roles (row k).given

  -- the operands in which nothing new is in scope
  unfoldable pub plain : Cmd T → List ℕ
  unfolding of_roles
  plain k = of_roles (r_evaluated ∷ r_keys ∷ r_entered ∷ []) k

  -- the body of a binder
  unfoldable pub inner : Cmd T → List ℕ
  unfolding of_roles
  inner k = of_roles (r_inside ∷ []) k

  -- every operand that is an expression
  unfoldable pub children : Cmd T → List ℕ
  children k = plain k ++ inner k

  -- the operands that are evaluated before the act
  unfoldable pub evaluated : Cmd T → List ℕ
  unfolding of_roles
  evaluated k = of_roles (r_evaluated ∷ r_keys ∷ []) k

  -- the type operand
  unfoldable pub types_of : Cmd T → List T
  unfolding types row
  types_of k = types (row k).given

  -- the variable that is used
  unfoldable pub uses_var : Cmd T → List ℕ
  unfolding of_roles
  uses_var k = of_roles (r_variable ∷ []) k

  -- the variable that is bound
  unfoldable pub binds_var : Cmd T → List ℕ
  unfolding of_roles
  binds_var k = of_roles (r_parameter ∷ r_keypair ∷ []) k

  -- the local name that is bound
  unfoldable pub binds_name : Cmd T → List ℕ
  unfolding of_roles
  binds_name k = of_roles (r_local ∷ []) k
