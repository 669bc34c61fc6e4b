-- The type table of an accepted job: "the declared types, then for each 3E in order its limit key, grant key and pair, then for each expression in order one
-- entry where it makes a type (30, 31, 33, 35, 37, 3A, 3F). The rest point at an entry already there." Of 0x41: it "makes a type entry for the number, then one for the pair".
-- Of 0x42: "the unkeyed number 0, with one type entry".
use Rattle.std.specs.Prelude.{ℕ, suc, ◌+◌, true, false, cond, length, get_or, eqb}
use mathlib.Core.List.{List, [], ◌∷◌, ◌++◌, map, flat_map, zip_with}
use Rattle.std.proofs.Math.Option.{Option}
use Rattle.std.proofs.Math.ListN.{get_elem?}
use Rattle.order.specs.Effects.{Effect}
use Rattle.syntax.specs.Types.{TypeEntry, e_num, e_pair, e_cell, e_fn, e_lim, e_grant, by_entry}
use Rattle.syntax.specs.Commands.{Cmd, c_num, c_top, c_var, c_pair, c_part, c_fn, c_app, c_new, c_asg, c_read, c_sum, c_test, c_lim, c_grant, c_newkey, c_assoc, c_access, c_divide, c_spawn, r_parameter, r_keypair}
use Rattle.syntax.specs.Operands.{of_roles, types_of, binds_name}
use Rattle.syntax.specs.Job.{HostValue, Job}

-- the local names of the 0x3E's, in order
unfoldable pub new_keys : List (Cmd ℕ) → List ℕ
unfolding binds_name flat_map
new_keys l = flat_map binds_name l

-- three entries for each, when n entries stand before
unfoldable pub key_entries : ℕ → List ℕ → List TypeEntry
key_entries n [] = []
key_entries n (r ∷ l) = e_lim 0 r ∷ e_grant 0 r ∷ e_pair 0 n (suc n) ∷ key_entries (3 + n) l

-- a variable and the entry of its type
pub record Typing : Type 0 where
  pub var : ℕ
  pub entry : ℕ

abbrev pub typing : ℕ → ℕ → Typing
typing v i = record { var = v; entry = i }

-- host values, from variable v on
unfoldable pub host_vars : ℕ → List (HostValue ℕ) → List Typing
host_vars v [] = []
host_vars v (h ∷ hs) = typing v h.ty ∷ host_vars (suc v) hs

-- where n entries stand before, those of so many names end
unfoldable pub keys_end : ℕ → List ℕ → ℕ
keys_end n [] = n
keys_end n (r ∷ l) = 3 + keys_end n l

-- variables ps of the types ts, and variables qs of the keys whose entries start at n
unfoldable pub typings_of : ℕ → List ℕ → List ℕ → List ℕ → List Typing
unfolding zip_with
typings_of n ps ts qs = zip_with typing ps ts ++ map (λ v. typing v (2 + n)) qs

-- bound variables; the next 0x3E's entries start at n
unfoldable pub bound_vars : ℕ → List (Cmd ℕ) → List Typing
unfolding typings_of keys_end of_roles types_of binds_name
bound_vars n [] = []
bound_vars n (k ∷ l) = typings_of n (of_roles (r_parameter ∷ []) k) (types_of k) (of_roles (r_keypair ∷ []) k) ++ bound_vars (keys_end n (binds_name k)) l

unfoldable pub entry_of : List Typing → ℕ → ℕ
entry_of [] v = 0
entry_of (x ∷ l) v = cond (eqb v x.var) x.entry (entry_of l v)

unfoldable pub var_entry : Job → ℕ → ℕ
var_entry J v = entry_of (bound_vars (length J.types) J.cmds ++ host_vars 0 J.values) v

-- the first part of an entry: of a pair, of a cell, the argument of a function, a key's own name
unfoldable pub first_part : Option TypeEntry → ℕ
unfolding by_entry
first_part o = by_entry 0 (λ q. 0) (λ q a b. a) (λ q a. a) (λ q a b s. a) (λ q r. r) (λ q r. r) o

-- the second: of a pair, the result of a function
unfoldable pub second_part : Option TypeEntry → ℕ
unfolding by_entry
second_part o = by_entry 0 (λ q. 0) (λ q a b. b) (λ q a. 0) (λ q a b s. b) (λ q r. 0) (λ q r. 0) o

-- an entry with another key
unfoldable pub rekeyed : ℕ → Option TypeEntry → TypeEntry
unfolding by_entry
rekeyed k o = by_entry (e_num k) (λ q. e_num k) (λ q a b. e_pair k a b) (λ q a. e_cell k a) (λ q a b s. e_fn k a b s) (λ q r. e_lim k r) (λ q r. e_grant k r) o

-- an expression's type: the last of the entries that it makes, in order, or an entry already there
pub data Points : Type 0 where
  new : List TypeEntry → TypeEntry → Points
  old : ℕ → Points

-- var: the entry of each variable; eff: the effect of each expression; T: the entries so far; of: the entry of each expression so far
unfoldable pub points_to : (ℕ → ℕ) → (ℕ → Effect) → List TypeEntry → (ℕ → ℕ) → Cmd ℕ → Points
points_to var eff T of (c_num n) = new [] (e_num 0)
points_to var eff T of c_top = new [] (e_lim 0 1)
points_to var eff T of (c_var v) = old (var v)
points_to var eff T of (c_pair a b) = new [] (e_pair 0 (of a) (of b))
points_to var eff T of (c_part a true) = old (first_part (get_elem? T (of a)))
points_to var eff T of (c_part a false) = old (second_part (get_elem? T (of a)))
points_to var eff T of (c_fn v t b) = new [] (e_fn 0 t (of b) (eff b))
points_to var eff T of (c_app f a) = old (second_part (get_elem? T (of f)))
points_to var eff T of (c_new t a) = new [] (e_cell 0 t)
points_to var eff T of (c_asg a b) = old (first_part (get_elem? T (of a)))
points_to var eff T of (c_read a) = old (first_part (get_elem? T (of a)))
points_to var eff T of (c_sum i a b) = new [] (e_num 0)
points_to var eff T of (c_test a b c t) = old t
points_to var eff T of (c_lim ks b) = old (of b)
points_to var eff T of (c_grant a b) = old (of b)
points_to var eff T of (c_newkey v r a b t) = old t
points_to var eff T of (c_assoc a b) = new [] (rekeyed (first_part (get_elem? T (of b))) (get_elem? T (of a)))
points_to var eff T of (c_access a b c t) = old t
points_to var eff T of (c_divide a b) = new (e_num 0 ∷ []) (e_pair 0 (length T) (length T))
points_to var eff T of (c_spawn b) = new [] (e_num 0)

-- the entries, and the entry of each expression
pub record Layout : Type 0 where
  pub entries : List TypeEntry
  pub of : List ℕ

unfoldable pub point : Points → Layout → Layout
point (new l x) L = record { entries = L.entries ++ (l ++ (x ∷ [])); of = L.of ++ ((length l + length L.entries) ∷ []) }
point (old i) L = record { entries = L.entries; of = L.of ++ (i ∷ []) }

unfoldable pub layout_from : (ℕ → ℕ) → (ℕ → Effect) → List (Cmd ℕ) → Layout → Layout
layout_from var eff [] L = L
layout_from var eff (k ∷ l) L = layout_from var eff l (point (points_to var eff L.entries (λ e. get_or L.of e 0) k) L)

unfoldable pub layout_of : Job → (ℕ → Effect) → Layout
layout_of J eff = layout_from (var_entry J) eff J.cmds (record { entries = J.types ++ key_entries (length J.types) (new_keys J.cmds); of = [] })
