-- The sheet for the wall file (document 02, F-4): "for an accepted job, one line per host name, ascending; for a refused one, the desk program's line". First what its lines say, then their bytes.
use Rattle.std.specs.Prelude.{ℕ, suc, ◌-◌, Bool, false, cond, List, [], ◌∷◌, ◌++◌, length, replicate, eqb}
use Rattle.order.specs.Order.{below}
use Rattle.order.specs.Sets.{some_of}
use Rattle.order.specs.Effects.{Effect, names}
use Rattle.syntax.specs.Types.{Ty, on_cell}
use Rattle.syntax.specs.Job.{Name, HostValue, Src, up_of, source_of}
use Rattle.syntax.specs.Reading.{Read, refused, read, reading}
use Rattle.typing.specs.Verdict.{Verdict, accept, refuse, verdict_of}
use Rattle.output.specs.Lines.{decimal, space, line, refused_line}

-- What the lines say

-- a line: a host name, its upper name, whether it is below a name of the effect, and how many host cells carry exactly it
pub record Row : Type 0 where
  pub name : ℕ
  pub upper : ℕ
  pub used : Bool
  pub cells : ℕ

-- "whether it is below a name of the effect"
unfoldable pub is_used : List ℕ → Effect → ℕ → Bool
is_used up s n = some_of (λ m. below up n m) (names s)

-- a cell that carries exactly name n: its own key, not that of a name above or below. A limit or grant key is no cell
unfoldable pub carries : ℕ → Ty → Bool
carries n T = on_cell T (λ q A. eqb q n) false

-- how many host values have a type that passes a test
unfoldable pub count_of : (Ty → Bool) → List (HostValue Ty) → ℕ
count_of p [] = 0
count_of p (h ∷ l) = cond (p h.ty) (suc (count_of p l)) (count_of p l)

-- the line of name n, declared by d; "how many host cells carry exactly that name"
unfoldable pub row_of : Src → Effect → ℕ → Name → Row
row_of S s n d = record { name = n; upper = d.upper; used = is_used (up_of S) s n; cells = count_of (carries n) S.values }

-- "one line per host name, ascending": of the declared names from n on, whose lines f gives
unfoldable pub rows_from : (ℕ → Name → Row) → ℕ → List Name → List Row
rows_from f n [] = []
rows_from f n (d ∷ ds) = cond d.host (f n d ∷ rows_from f (suc n) ds) (rows_from f (suc n) ds)

-- the first declared name is 2
unfoldable pub rows_of : Src → Effect → List Row
rows_of S s = rows_from (row_of S s) 2 S.names

-- Their bytes

-- "right-aligned" in w columns
unfoldable pub aligned : ℕ → ℕ → List ℕ
aligned w n = replicate (w - length (decimal n)) 0x20 ++ decimal n

-- "`yes` or `no `"
unfoldable pub w_yes : List ℕ
w_yes = 0x79 ∷ 0x65 ∷ 0x73 ∷ []

unfoldable pub w_no : List ℕ
w_no = 0x6E ∷ 0x6F ∷ 0x20 ∷ []

-- "Columns 1–2 have the name's number and 4–5 its upper name's, right-aligned. Columns 7–9 have `yes` or `no `. Columns 11–13 have how many host cells carry exactly that name, right-aligned. Columns 3, 6 and 10 are
-- spaces. Byte 0A follows column 13."
unfoldable pub row_line : Row → List ℕ
row_line r = line (space (aligned 2 r.name) (space (aligned 2 r.upper) (space (cond r.used w_yes w_no) (aligned 3 r.cells))))

-- one line after the other; "An accepted job without host names gives an empty sheet."
unfoldable pub laid : (Row → List ℕ) → List Row → List ℕ
laid f [] = []
laid f (r ∷ rs) = f r ++ laid f rs

unfoldable pub sheet_text : List Row → List ℕ
sheet_text rs = laid row_line rs

unfoldable pub sheet_read : Effect → Read → List ℕ
sheet_read s (refused r) = []
sheet_read s (read J) = sheet_text (rows_of (source_of J) s)

unfoldable pub sheeted : Verdict → Read → List ℕ
sheeted (refuse r) j = refused_line r
sheeted (accept T s) j = sheet_read s j

-- what the sheet program prints for a job's bytes; it hands over what it read, of which there are at most 16,384
unfoldable pub sheet_of : List ℕ → List ℕ
sheet_of s = sheeted (verdict_of s) (reading s)
