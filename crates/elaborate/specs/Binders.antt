-- Binders by the tables: the entries of each 0x3E and the entries of the variables, expression after expression.
use Rattle.std.specs.Prelude.{ℕ, zero, suc, ◌+◌, ◌/◌, ◌%◌, List, [], ◌∷◌, get_or, set}
use Rattle.syntax.specs.Commands.{Cmd, r_parameter, r_keypair}
use Rattle.syntax.specs.Operands.{of_roles, types_of, binds_name}
use Rattle.syntax.specs.Words.{type_bits, code_in}
use Rattle.elaborate.specs.declared.Binder.{Binder}
use Rattle.elaborate.specs.declared.Binder.TheVariants.{Nothing, Function, NewKey}

-- by the variables of a type, the types, the variables of keys and the names that a command binds
unfoldable pub binder_by : List ℕ → List ℕ → List ℕ → List ℕ → Binder
binder_by [] ts [] rs = Nothing
binder_by [] ts (v ∷ qs) [] = Nothing
binder_by [] ts (v ∷ qs) (r ∷ rs) = NewKey v r
binder_by (v ∷ ps) [] qs rs = Nothing
binder_by (v ∷ ps) (t ∷ ts) qs rs = Function v t

-- what a command binds
unfoldable pub binder_of : Cmd ℕ → Binder
unfolding binder_by of_roles types_of binds_name
binder_of k = binder_by (of_roles (r_parameter ∷ []) k) (types_of k) (of_roles (r_keypair ∷ []) k) (binds_name k)

-- the type table with the entries of a 0x3E from n on
unfoldable pub store_key : List ℕ → ℕ → ℕ → List ℕ
store_key types n r = set (set (set types n (type_bits 0x14 0 r 0)) (n + 1) (type_bits 0x15 0 r 0)) (n + 2) (type_bits 0x11 0 (n % 65536) ((n + 1) % 65536))

-- the number of entries, the type table, the entries of the variables
pub record Bound : Type 0 where
  pub count : ℕ
  pub types : List ℕ
  pub vars : List ℕ

abbrev pub bound : ℕ → List ℕ → List ℕ → Bound
bound n types vars = record { count = n; types = types; vars = vars }

unfoldable pub bound_one : Binder → Bound → Bound
bound_one Nothing x = x
bound_one (Function v t) x = bound x.count x.types (set x.vars v t)
bound_one (NewKey v r) x = bound (x.count + 3) (store_key x.types x.count r) (set x.vars v ((x.count + 2) % 65536))

-- n expressions from e on
unfoldable pub bound_from : List ℕ → List ℕ → ℕ → ℕ → Bound → Bound
bound_from heads slots zero e x = x
bound_from heads slots (suc n) e x = bound_from heads slots n (e + 1) (bound_one (binder_of (code_in heads slots e)) x)

-- n host values from variable i on
unfoldable pub hosts_from : List ℕ → ℕ → ℕ → List ℕ → List ℕ
hosts_from values zero i vars = vars
hosts_from values (suc n) i vars = hosts_from values n (i + 1) (set vars i (get_or values i 0 / 256 % 65536))
