-- What `sheet` comes to: the lines by the words of the tables, a text laid into a lent buffer, and the answer.
use Rattle.std.specs.Prelude.{◌≡◌, ℕ, ◌+◌, Bool, cond, List, [], ◌++◌, length, take, drop, ltb}
use Rattle.syntax.specs.Types.{Ty}
use Rattle.syntax.specs.Job.{Name, HostValue}
use Rattle.typing.specs.Verdict.{Verdict, accept, refuse, verdict_of}
use Rattle.names.specs.Ancestors.{eff_below_by, one_of}
use Rattle.output.specs.Sheet.{Row, carries, count_of, sheet_of}
use Rattle.output.specs.ColumnLaws.{columns}
use Rattle.wall.specs.declared.Listing.{Listing}

-- a line for each name that a job may declare
abbrev pub sheet_bytes : ℕ
sheet_bytes = 868

-- the line of name n, declared by d, by a table of ancestors, host values and the word of an effect
unfoldable pub row_by : List ℕ → List (HostValue Ty) → ℕ → ℕ → Name → Row
row_by anc vs s n d = record { name = n; upper = d.upper; used = eff_below_by anc (one_of n) s; cells = count_of (carries n) vs }

-- b stands at the start of the text, which was t and is t' now; r is how many bytes it has
pub record Laid (b : List ℕ) (r : ℕ) (t t' : List ℕ) : Type 0 where
  pub reach : r ≡ length b
  pub text : t' ≡ b ++ drop (length b) t

-- the line of a host name at place `at` of the text, and none of another name; r is the place behind it
pub record NameLaid (line : Row) (host : Bool) (at r : ℕ) (t t' : List ℕ) : Type 0 where
  pub reach : r ≡ cond host (at + 14) at
  pub text : t' ≡ cond host (take at t ++ (columns line ++ drop (at + 14) t)) t

-- 0 for an accepted job; the number and the place of a refusal
unfoldable pub number_of : Verdict → ℕ
number_of (accept T s) = 0
number_of (refuse q) = q.number

unfoldable pub place_of : Verdict → ℕ
place_of (accept T s) = 0
place_of (refuse q) = q.place

-- the sheet that is written into n bytes; none where they are too few
unfoldable pub sheet_in : ℕ → List ℕ → List ℕ
sheet_in n s = cond (ltb n sheet_bytes) [] (sheet_of s)

-- `sheet`, with a lent text t, which is t' afterwards: 1 where it is too short
pub record SheetTo (bytes : List ℕ) (r : Listing) (t t' : List ℕ) : Type 0 where
  pub number : r.number ≡ cond (ltb (length t) sheet_bytes) 1 (number_of (verdict_of bytes))
  pub place : r.place ≡ cond (ltb (length t) sheet_bytes) 0 (place_of (verdict_of bytes))
  pub sheet : Laid (sheet_in (length t) bytes) r.len t t'
