-- What callers from C and Rust are told of a verdict and of the room in use, in words; and how long the slices are that they lend for it.
use Rattle.std.specs.Prelude.{ℕ, ◌+◌, ◌*◌, Bool, not, List, [], ◌∷◌, length, ltb, Ok, Err}
use Rattle.order.specs.Bools.{◌or◌}
use Rattle.semantics.specs.Machine.{Thread as SThread, System, most_cells, most_keys, most_pairs, most_functions, most_bindings}
use Rattle.store.specs.Tables.{capped}
use Rattle.store.specs.declared.Used.{Used}
use Rattle.calls.specs.Words.{room_for}
use Rattle.judge.specs.Answer.{Verdict}

-- the number of a verdict: 0 is an acceptance
unfoldable pub number_for : Verdict → ℕ
number_for (Ok a) = 0
number_for (Err k) = k.number

-- the entry of the job's type and its effect, or the place of the refusal and 0
unfoldable pub out_words : Verdict → List ℕ
out_words (Ok a) = a.entry ∷ a.effect ∷ []
out_words (Err k) = k.place ∷ 0 ∷ []

-- the frames of all threads together
unfoldable pub frames_of : List SThread → ℕ
frames_of [] = 0
frames_of (t ∷ l) = length t.frames + frames_of l

-- the cells, keys, pairs, functions, frames and bindings that a machine uses, and its threads
unfoldable pub room_words : System → List ℕ
room_words s =
    length s.store.cells ∷ length s.store.keys ∷ length s.store.pairs ∷ length s.store.functions ∷ frames_of s.threads ∷ length s.store.bindings ∷ length s.threads ∷ []

-- the same by the counts of the store, with so many frames and threads
unfoldable pub count_words : Used → ℕ → ℕ → List ℕ
count_words u f n =
    capped u.cells most_cells ∷ capped u.keys most_keys ∷ capped u.pairs most_pairs ∷ capped u.functions most_functions ∷ f ∷ capped u.bindings most_bindings ∷ n ∷ []

-- two words for each cell
abbrev pub cell_words_lem : ℕ
cell_words_lem = 2 * most_cells

-- a slice that is lent to a session is too short: nine words a call, ten for its answer, two for the value, two a cell, two for what is told of the verdict
unfoldable pub lent_short : List ℕ → List ℕ → List ℕ → List ℕ → List ℕ → Bool
lent_short words a v c o = not (room_for words a) or ltb (length v) 2 or ltb (length c) cell_words_lem or ltb (length o) 2
