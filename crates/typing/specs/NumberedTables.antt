-- Type tables as typing makes them: parts are earlier entries, the content of a cell and the argument of a function are declared types, names and sets are in their
-- bounds. The trees of such a table, and the entries of variables.
use Rattle.std.specs.Prelude.{◌≡◌, ℕ, suc, ◌+◌, ◌<◌}
use mathlib.Core.List.{List, [], ◌∷◌, ◌++◌}
use Rattle.std.proofs.Math.Option.{some}
use Rattle.std.proofs.Math.ListN.{length, get_elem?}
use Rattle.order.specs.Effects.{Effect}
use Rattle.order.specs.EffectLaws.{Within}
use Rattle.syntax.specs.Types.{Ty, TypeEntry, e_num, e_pair, e_cell, e_fn, e_lim, e_grant, tree}

-- an entry that may stand at n, where D types are declared and there are N names
pub data EntryOk (D N n : ℕ) : TypeEntry → Type 0 where
  ok_num : {q : ℕ} → q < N → EntryOk D N n (e_num q)
  ok_pair : {q a b : ℕ} → q < N → a < n → b < n → EntryOk D N n (e_pair q a b)
  ok_cell : {q a : ℕ} → q < N → a < n → a < D → EntryOk D N n (e_cell q a)
  ok_fn : {q a b : ℕ} {s : Effect} → q < N → a < n → a < D → b < n → Within N s → EntryOk D N n (e_fn q a b s)
  ok_lim : {q r : ℕ} → q < N → r < N → EntryOk D N n (e_lim q r)
  ok_grant : {q r : ℕ} → q < N → r < N → EntryOk D N n (e_grant q r)

pub record TableOk (D N : ℕ) (T : List TypeEntry) : Type 0 where
  pub each : (i : ℕ) (x : TypeEntry) → get_elem? T i ≡ some x → EntryOk D N i x

-- The trees of a table

-- the table with one 0x3E's entries more
abbrev pub with_key : List TypeEntry → ℕ → List TypeEntry
with_key T r = ((T ++ (e_lim 0 r ∷ [])) ++ (e_grant 0 r ∷ [])) ++ (e_pair 0 (length T) (suc (length T)) ∷ [])

-- the entries of the 0x3E's with the local names rs stand from n on
pub data KeysAt (E : List TypeEntry) : ℕ → List ℕ → Type 0 where
  at_none : {n : ℕ} → KeysAt E n []
  at_key : {n r : ℕ} {rs : List ℕ} → get_elem? E n ≡ some (e_lim 0 r) → get_elem? E (suc n) ≡ some (e_grant 0 r) → get_elem? E (2 + n) ≡ some (e_pair 0 n (suc n)) → KeysAt E (3 + n) rs
      → KeysAt E n (r ∷ rs)

-- entry i has the tree A
pub record TreeAt (E : List TypeEntry) (A : Ty) (i : ℕ) : Type 0 where
  pub is : tree E i ≡ A
  pub low : i < length E
