-- The start by the words of the tables: what the names and the host values that they hold give, one after another.
use Rattle.std.specs.Prelude.{◌≡◌, ℕ, zero, suc, ◌+◌, ◌-◌, ◌/◌, ◌%◌, ◌<◌, ◌≤◌, cond, List, [], ◌∷◌, ◌++◌, length, get_or, eqb}
use Rattle.syntax.specs.Types.{Ty, num, cell, lim, grant}
use Rattle.syntax.specs.Job.{Name, HostValue}
use Rattle.semantics.specs.Machine.{b_var}
use Rattle.semantics.specs.Start.{bind_to, Named, add_name, add_names, host_value, host_cell, Valued, add_values}
use Rattle.names.specs.Ancestors.{name_of}
use Rattle.store.specs.Words.{up_in, cell_in, link_in}
use Rattle.store.specs.Tables.{list_of}

-- the key of name q, of n names
abbrev pub key_in : List ℕ → ℕ → ℕ → ℕ
key_in of n q = get_or (list_of up_in of n) q 0

-- the keys of so many names: each is one of the keys that there are
pub record Within (key : ℕ → ℕ) (nkeys : ℕ) : Type 0 where
  pub each : (q : ℕ) → key q < nkeys
  pub few : nkeys ≤ 128

-- the tables after the names so far: `a` names, with 0 and 1; each key but 0 and 1 has a binding
unfoldable pub named_in : List ℕ → List ℕ → List ℕ → ℕ → ℕ → Named
named_in keys of bindings nkeys a = record { keys = list_of up_in keys nkeys; of = list_of up_in of a; bindings = list_of link_in bindings (nkeys - 2) }

-- the names 0 and 1 alone
abbrev pub unnamed : Named
unnamed = record { keys = 0 ∷ 1 ∷ []; of = 0 ∷ 1 ∷ []; bindings = [] }

-- name `a` is entered; r is the number of keys then
pub record NameEntered (names : List ℕ) (a nkeys : ℕ) (keys of bindings keys' of' bindings' : List ℕ) (r : ℕ) : Type 0 where
  pub same : named_in keys' of' bindings' r (a + 1) ≡ add_name (name_of (get_or names a 0)) (named_in keys of bindings nkeys a)
  pub low : 2 ≤ r
  pub few : r ≤ a + 1

-- the names ds are entered; with 0 and 1 they are `a`
pub record NamesEntered (ds : List Name) (keys of bindings : List ℕ) (r a : ℕ) : Type 0 where
  pub same : named_in keys of bindings r a ≡ add_names ds unnamed
  pub low : 2 ≤ r
  pub few : r ≤ a

-- the type of a host value by its word: a cell of unkeyed numbers, a limit key or a grant key
unfoldable pub head_of : ℕ → Ty
head_of w =
    cond (eqb (w % 256) 0x12) (cell (w / 256 % 256) (num 0))
    (cond (eqb (w % 256) 0x14) (lim (w / 256 % 256) (w / 65536 % 256))
    (cond (eqb (w % 256) 0x15) (grant (w / 256 % 256) (w / 65536 % 256))
    (num 0)))

-- the host value that a word stands for
unfoldable pub host_of : List ℕ → ℕ → HostValue Ty
host_of types w = record { ty = head_of (get_or types (w / 256 % 65536) 0); init = w / 16777216 % 4294967296 }

-- n host values from the v-th on
unfoldable pub values_from : List ℕ → List ℕ → ℕ → ℕ → List (HostValue Ty)
values_from types values v zero = []
values_from types values v (suc n) = host_of types (get_or values v 0) ∷ values_from types values (suc v) n

-- the tables after the host values so far
unfoldable pub valued_in : List ℕ → List ℕ → ℕ → ℕ → Valued
valued_in cells bindings ncells nbindings = record { cells = list_of cell_in cells ncells; bindings = list_of link_in bindings nbindings }

-- one host value more
unfoldable pub add_value : (ℕ → ℕ) → ℕ → HostValue Ty → Valued → Valued
add_value key v h s = record { cells = s.cells ++ host_cell h.ty h.init; bindings = bind_to s.bindings (b_var v (host_value key h.ty (length s.cells))) }

-- host value v is entered; r is the number of cells then
pub record ValueEntered (key : ℕ → ℕ) (types values : List ℕ) (v ncells nbindings : ℕ) (cells bindings cells' bindings' : List ℕ) (r : ℕ) : Type 0 where
  pub same : valued_in cells' bindings' r (nbindings + 1) ≡ add_value key v (host_of types (get_or values v 0)) (valued_in cells bindings ncells nbindings)
  pub few : r ≤ v + 1

-- v of m host values are entered, after the bindings of `first`
pub record ValuesLeft (key : ℕ → ℕ) (types values : List ℕ) (m nbindings : ℕ) (first cells bindings : List ℕ) (ncells v : ℕ) : Type 0 where
  pub same : add_values key 0 (values_from types values 0 m) (record { cells = []; bindings = list_of link_in first nbindings })
      ≡ add_values key v (values_from types values v (m - v)) (valued_in cells bindings ncells (nbindings + v))
  pub few : ncells ≤ v
  pub within : v ≤ m

-- all m of them are
pub record ValuesEntered (key : ℕ → ℕ) (types values : List ℕ) (m nbindings : ℕ) (first cells bindings : List ℕ) (ncells : ℕ) : Type 0 where
  pub same : valued_in cells bindings ncells (nbindings + m) ≡ add_values key 0 (values_from types values 0 m) (record { cells = []; bindings = list_of link_in first nbindings })
  pub few : ncells ≤ m
