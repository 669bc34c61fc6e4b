-- What the sheet's lines say, apart from how they are made: which names have a line, in which order, and what their counts of cells add up to.
use Prim.Native.Nat.{ℕ, suc, ◌+◌, ◌-◌, ◌≤◌}
use Rattle.std.proofs.Math.Path.{◌≡◌}
use Rattle.std.specs.Prelude.{Bool, leb}
use Rattle.std.proofs.Math.Bool.{true, false}
use mathlib.Core.List.{List, [], ◌∷◌}
use Rattle.std.proofs.Math.Option.{some}
use Rattle.std.proofs.Math.ListN.{get_elem?}
use Rattle.order.specs.Bools.{◌and◌}
use Rattle.order.specs.Effects.{Effect}
use Rattle.syntax.specs.Types.{Ty, on_cell}
use Rattle.syntax.specs.Job.{Name, Src}
use Rattle.syntax.specs.Reading.{is_host}
use Rattle.output.specs.Sheet.{Row, row_of}

-- Which names have a line

-- name i + 2 is declared as d, a host name, and r is its line
abbrev pub HostLine : Src → Effect → Row → Type 0
HostLine S s r = (i : ℕ) × (d : Name) × (get_elem? S.names i ≡ some d) × (d.host ≡ true) × (r ≡ row_of S s (2 + i) d)

-- names from n on, each above those before it
pub data Ascending : ℕ → List Row → Type 0 where
  asc_nil : {n : ℕ} → Ascending n []
  asc_cons : {n : ℕ} {r : Row} {rs : List Row} → n ≤ r.name → Ascending (suc r.name) rs → Ascending n (r ∷ rs)

unfoldable pub total : List Row → ℕ
total [] = 0
total (r ∷ rs) = r.cells + total rs

-- a cell, and a cell that carries a host name
unfoldable pub is_cell : Ty → Bool
is_cell T = on_cell T (λ q A. true) false

unfoldable pub host_keyed : List Name → Ty → Bool
host_keyed ds T = on_cell T (λ q A. leb 2 q and is_host (get_elem? ds (q - 2))) false
