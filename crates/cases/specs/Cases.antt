-- A file of recorded cases: of each the length of the job in two bytes, low byte first, the job, the length of the answer in one byte, and the answer.
-- FF FF in place of a job's length ends the file, and so does its last byte. A case agrees if its answer is what the desk prints for its job; a last case with bytes missing differs.
use Rattle.std.specs.Prelude.{ℕ, zero, suc, ◌+◌, ◌*◌, Bool, true, false, cond, List, [], ◌∷◌, length, get_or, take, drop, eqb, leb}
use Rattle.output.specs.Lines.{printed}
use Rattle.cases.specs.declared.Tally.{Tally}

-- of the first case: the length of the job, of the answer, and of it all; a byte that is missing counts as 0
unfoldable pub job_length : List ℕ → ℕ
job_length s = get_or s 0 0 + get_or s 1 0 * 256

unfoldable pub answer_length : List ℕ → ℕ
answer_length s = get_or s (job_length s + 2) 0

unfoldable pub case_length : List ℕ → ℕ
case_length s = job_length s + 3 + answer_length s

-- its job, its answer, and what comes after it
unfoldable pub job_of : List ℕ → List ℕ
job_of s = take (job_length s) (drop 2 s)

unfoldable pub answer_of : List ℕ → List ℕ
answer_of s = take (answer_length s) (drop (job_length s + 3) s)

unfoldable pub after : List ℕ → List ℕ
after s = drop (case_length s) s

-- whether two lists are equal (`Laws.same_equal`, `Laws.equal_same`)
unfoldable pub same : List ℕ → List ℕ → Bool
same [] [] = true
same [] (b ∷ t) = false
same (a ∷ s) [] = false
same (a ∷ s) (b ∷ t) = cond (eqb a b) (same s t) false

-- whether the first case agrees (`Laws.agrees_right`, `Laws.right_agrees`)
unfoldable pub agrees : List ℕ → Bool
agrees s = cond (leb (case_length s) (length s)) (same (printed (job_of s)) (answer_of s)) false

-- whether no case is left
unfoldable pub at_end : List ℕ → Bool
at_end s = cond (eqb (length s) 0) true (eqb (job_length s) 0xFFFF)

-- of each case in order, at most so many, whether it agrees
unfoldable pub cases_in : ℕ → List ℕ → List Bool
cases_in zero s = []
cases_in (suc f) s = cond (at_end s) [] (agrees s ∷ cases_in f (after s))

-- of all cases: there are no more than bytes (`Laws.enough`)
unfoldable pub cases_of : List ℕ → List Bool
cases_of s = cases_in (length s) s

-- how many of them are true, and how many false
unfoldable pub trues : List Bool → ℕ
trues [] = 0
trues (true ∷ l) = suc (trues l)
trues (false ∷ l) = trues l

unfoldable pub falses : List Bool → ℕ
falses [] = 0
falses (true ∷ l) = falses l
falses (false ∷ l) = suc (falses l)

unfoldable pub tally_of : List ℕ → Tally
tally_of s = record { agree = trues (cases_of s); differ = falses (cases_of s) }
