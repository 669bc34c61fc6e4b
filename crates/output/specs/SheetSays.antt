-- What a sheet says, apart from the definitions that make its lines: of the declared names, of the host values and of the effect. Nothing is left open: no other lines say it. And from the printed bytes alone
-- an accepted job is told from a refused one, and each line is read back.
use Prim.Native.Nat.{ℕ, suc, ◌+◌, ◌≤◌}
use Rattle.std.proofs.Math.Path.{◌≡◌}
use Rattle.std.specs.Prelude.{◌↔◌}
use Rattle.std.proofs.Math.Bool.{true}
use mathlib.Core.List.{List, [], ◌∷◌, Memᴰ}
use Rattle.std.proofs.Math.Option.{some}
use Rattle.std.proofs.Math.ListN.{length, get_elem?}
use Rattle.order.specs.Effects.{Effect}
use Rattle.syntax.specs.Types.{Ty, cell}
use Rattle.syntax.specs.Job.{Name, HostValue, uppers}
use Rattle.output.specs.Sheet.{Row}
use Rattle.output.specs.SheetLaws.{Ascending, total}
use Rattle.output.specs.SheetExactly.{UnderEffect}

-- What is counted

-- numbers from n on, each above those before it
pub data Rising : ℕ → List ℕ → Type 0 where
  rise_nil : {n : ℕ} → Rising n []
  rise_cons : {n m : ℕ} {l : List ℕ} → n ≤ m → Rising (suc m) l → Rising n (m ∷ l)

-- host value v has a type of which P holds
abbrev pub ValueOf : (Ty → Type 0) → List (HostValue Ty) → ℕ → Type 0
ValueOf P l v = (h : HostValue Ty) × (get_elem? l v ≡ some h) × P h.ty

-- k host values have such a type: these are all of them, each once
pub record Many (P : Ty → Type 0) (l : List (HostValue Ty)) (k : ℕ) : Type 0 where
  pub values : List ℕ
  pub once : Rising 0 values
  pub exactly : (v : ℕ) → Memᴰ v values ↔ ValueOf P l v
  pub many : k ≡ length values

-- a cell whose own key is name n. A limit or grant key is no cell, and a cell of another key is another's
abbrev pub CellOf : ℕ → Ty → Type 0
CellOf n T = (A : Ty) × (T ≡ cell n A)

-- a cell whose own key is a declared host name, the first declared being name 2
abbrev pub HostCell : List Name → Ty → Type 0
HostCell ds T = (i : ℕ) × (d : Name) × (get_elem? ds i ≡ some d) × (d.host ≡ true) × CellOf (2 + i) T

-- a list of lines for the declared names ds, the host values l and the effect e
pub record Says (ds : List Name) (l : List (HostValue Ty)) (e : Effect) (rs : List Row) : Type 0 where
  -- a line is of a declared host name, the first declared being name 2, and has its upper name
  pub host : (r : Row) → Memᴰ r rs → (i : ℕ) × (d : Name) × (get_elem? ds i ≡ some d) × (d.host ≡ true) × (r.name ≡ 2 + i) × (r.upper ≡ d.upper)
  -- every declared host name has one
  pub every : (i : ℕ) (d : Name) → get_elem? ds i ≡ some d → d.host ≡ true → (r : Row) × Memᴰ r rs × (r.name ≡ 2 + i)
  -- they ascend, so that no name has two
  pub order : Ascending 2 rs
  -- `yes` exactly below a name of the effect
  pub yes : (r : Row) → Memᴰ r rs → (r.used ≡ true) ↔ UnderEffect (uppers ds) r.name e
  -- the host cells that carry exactly the name
  pub cells : (r : Row) → Memᴰ r rs → Many (CellOf r.name) l r.cells
  -- all counts together: the host cells that carry a host name
  pub sum : Many (HostCell ds) l (total rs)
