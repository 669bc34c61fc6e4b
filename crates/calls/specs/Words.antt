-- Calls and what they give, as numbers.
use Rattle.std.specs.Prelude.{ℕ, zero, suc, ◌+◌, ◌*◌, ◌/◌, ◌%◌, Bool, cond, List, [], ◌∷◌, ◌++◌, length, get_or, eqb, leb}
use Rattle.order.specs.Bools.{◌and◌}
use Rattle.semantics.specs.Calls.{Call, one_step, run_of, Answer, taken, finished, spent, noroom, stuck, denied, Ran}

-- nine words a call, and ten for what it gives
abbrev pub call_words : ℕ
call_words = 9

abbrev pub answer_words_lem : ℕ
answer_words_lem = 10

-- the eight allowances of the call that begins at place p
unfoldable pub allowances_at : List ℕ → ℕ → List ℕ
allowances_at ws p =
    get_or ws (p + 1) 0 ∷ get_or ws (p + 2) 0 ∷ get_or ws (p + 3) 0 ∷ get_or ws (p + 4) 0 ∷ get_or ws (p + 5) 0 ∷ get_or ws (p + 6) 0 ∷ get_or ws (p + 7) 0 ∷ get_or ws (p + 8) 0 ∷ []

-- 0 is a step, whatever the eight words after it; any other number is a run, with these as its allowances
unfoldable pub call_at : List ℕ → ℕ → Call
call_at ws p = cond (eqb (get_or ws p 0) 0) one_step (run_of (allowances_at ws p))

-- n calls, from place p on
unfoldable pub calls_from : List ℕ → ℕ → ℕ → List Call
calls_from ws p zero = []
calls_from ws p (suc n) = call_at ws p ∷ calls_from ws (p + call_words) n

-- how many whole calls there are; words at the end that are fewer than nine are none
unfoldable pub call_count : List ℕ → ℕ
call_count ws = length ws / call_words

unfoldable pub calls_in : List ℕ → List Call
calls_in ws = calls_from ws 0 (call_count ws)

-- the words are a whole number of calls, and the answers have ten places for each
unfoldable pub room_for : List ℕ → List ℕ → Bool
room_for ws answers = eqb (length ws % call_words) 0 and leb (answer_words_lem * call_count ws) (length answers)

unfoldable pub answer_no : Answer → ℕ
answer_no taken = 0
answer_no finished = 1
answer_no spent = 2
answer_no noroom = 3
answer_no stuck = 4
answer_no denied = 5

-- the answer of a call, the thread that took its step or failed (0 where none did), and the steps of each thread in it
unfoldable pub answer_words : Answer → ℕ → List ℕ → List ℕ
answer_words a i counts = answer_no a ∷ i ∷ counts

unfoldable pub result_words : List Ran → List ℕ
result_words [] = []
result_words (r ∷ l) = answer_words r.answer r.thread r.counts ++ result_words l

-- the second list over the first, as far as the first goes; what it does not reach stays
unfoldable pub over : List ℕ → List ℕ → List ℕ
over [] new = []
over (o ∷ os) [] = o ∷ os
over (o ∷ os) (n ∷ ns) = n ∷ over os ns
