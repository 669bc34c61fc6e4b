-- Reading by rows: a job given command by command, each with its operands' numbers, instead of in bytes. Where every number fits its operand this is reading: the same job or the same refusal, at the
-- same place.
use Rattle.std.specs.Prelude.{ℕ, ◌+◌, ◌^◌, ◌<◌, cond}
use mathlib.Core.List.{List, [], ◌∷◌, flat_map}
use Rattle.syntax.specs.Commands.{Op, operands, width, section_of}
use Rattle.syntax.specs.Reading.{State, written, enter, misplaced, full, Step, refuse, settle, Read, refused_at, onward, no_job}
use Rattle.syntax.specs.JobBytes.{command_bytes}

-- what one command comes to by its operands: 3, 5 and 6 in this order; no operand is missing, so never 4
unfoldable pub command_on : Op × List ℕ → State → Step
command_on r st =
    cond (misplaced st (section_of r.0)) (refuse 3)
    (cond (full st.job (section_of r.0)) (refuse 5)
    (settle (section_of r.0) (enter (written r.0 r.1) st.job)))

abbrev pub rows_bytes : List (Op × List ℕ) → List ℕ
rows_bytes rs = flat_map command_bytes rs

-- from the command at offset `pos` on
unfoldable pub rows_from : ℕ → State → List (Op × List ℕ) → Read
rows_from pos st [] = refused_at 4 pos
rows_from pos st (r ∷ rs) = onward (command_on r st) pos (rows_bytes rs) (λ next. rows_from (pos + 1 + width r.0) next rs)

unfoldable pub reading_rows : List (Op × List ℕ) → Read
reading_rows rs = rows_from 0 (record { section = 0; job = no_job }) rs

-- every operand has its number, and every number fits its operand
pub data Narrow : List ℕ → List ℕ → Type 0 where
  narrow_none : Narrow [] []
  narrow_more : {w n : ℕ} {ws o : List ℕ} → n < 256 ^ w → Narrow ws o → Narrow (w ∷ ws) (n ∷ o)

-- Operands

pub data AllNarrow : List (Op × List ℕ) → Type 0 where
  all_none : AllNarrow []
  all_more : {r : Op × List ℕ} {rs : List (Op × List ℕ)} → Narrow (operands r.0) r.1 → AllNarrow rs → AllNarrow (r ∷ rs)
