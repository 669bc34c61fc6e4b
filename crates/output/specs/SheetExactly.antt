-- What a manager can hold the sheet to, from the bytes of a job: a line for each host name and no other; `yes` exactly where the name is below a name of the least effect, so below a name of
-- whatever effect the rules give the job; counts that add up to the host cells that carry a host name; and for a refused job the desk program's line.
use Rattle.std.specs.Prelude.{ℕ, ◌+◌, ◌≡◌, true, ◌↔◌}
use mathlib.Core.List.{List, Memᴰ}
use Rattle.order.specs.Order.{Below}
use Rattle.order.specs.Effects.{Effect, names}
use Rattle.syntax.specs.Types.{Ty}
use Rattle.syntax.specs.Job.{Job, up_of, source_of}
use Rattle.typing.specs.Demand2.{JobHas}
use Rattle.output.specs.Sheet.{Row, carries, count_of}
use Rattle.output.specs.ColumnLaws.{AllFit}
use Rattle.output.specs.SheetLaws.{HostLine, Ascending, total, is_cell, host_keyed}

-- n is below a name of the effect
abbrev pub UnderEffect : List ℕ → ℕ → Effect → Type 0
UnderEffect up n s = (m : ℕ) × Memᴰ m (names s) × Below up n m

-- the lines of a job J with the effect e
pub record Sheet (J : Job) (e : Effect) (rs : List Row) : Type 0 where
  -- "one line per host name, ascending"
  pub lines : (r : Row) → Memᴰ r rs ↔ HostLine (source_of J) e r
  pub order : Ascending 2 rs
  -- `yes`: the name is below a name of the effect
  pub yes : (r : Row) → Memᴰ r rs → (r.used ≡ true) ↔ UnderEffect (up_of (source_of J)) r.name e
  -- and so of every effect that the rules give the job: no typing of the job does without it
  pub needed : (r : Row) → Memᴰ r rs → (r.used ≡ true) ↔ ((U : Ty) (t : Effect) → JobHas J U t → UnderEffect (up_of (source_of J)) r.name t)
  -- the counts: the host cells that carry a host name; the other host cells are unkeyed or carry the top
  pub keyed : total rs ≡ count_of (host_keyed J.names) (source_of J).values
  pub others : total rs + count_of (carries 0) (source_of J).values + count_of (carries 1) (source_of J).values ≡ count_of is_cell (source_of J).values
  -- each line is of thirteen columns and 0A (`ColumnLaws`)
  pub fit : AllFit rs
