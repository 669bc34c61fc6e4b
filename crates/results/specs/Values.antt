-- What a machine holds at the end, in words: the value of a finished job, and what its cells hold. A value is two words: the number of its kind and
-- what it holds, which for a number is the number itself. 0 0 stands where there is no value.
use Rattle.std.specs.Prelude.{◌≡◌, ℕ, zero, suc, ◌*◌, cond, List, [], ◌∷◌}
use Rattle.std.proofs.Math.Option.{Option, none, some}
use Rattle.std.proofs.Math.ListN.{get_elem?}
use Rattle.std.proofs.lemmas.List.Edits.{sets}
use Rattle.semantics.specs.Machine.{Kind, k_num, k_pair, k_fn, k_cell, k_lim, k_grant, Value, Thread, System, most_cells}
use Rattle.semantics.specs.Threads.{all_done, first_value, value_of}

-- in the order of document 01's kinds: number, pair, cell, function, limit, grant
unfoldable pub kind_no : Kind → ℕ
kind_no (k_num n) = 1
kind_no (k_pair n) = 2
kind_no (k_cell n) = 3
kind_no (k_fn n) = 4
kind_no (k_lim n) = 5
kind_no (k_grant n) = 6

unfoldable pub payload_of : Kind → ℕ
payload_of (k_num n) = n
payload_of (k_pair n) = n
payload_of (k_cell n) = n
payload_of (k_fn n) = n
payload_of (k_lim n) = n
payload_of (k_grant n) = n

-- the two words of a value, if there is one
unfoldable pub first_word : Option Value → ℕ
first_word none = 0
first_word (some v) = kind_no v.kind

unfoldable pub second_word : Option Value → ℕ
second_word none = 0
second_word (some v) = payload_of v.kind

-- the two words of a value, or of none
unfoldable pub value_at : Option Value → List ℕ
value_at o = first_word o ∷ second_word o ∷ []

-- the value of a job with these threads: that of the first, where all are finished
abbrev pub value_among : List Thread → Option Value
value_among l = cond (all_done l) (first_value l) none

unfoldable pub value_words : System → List ℕ
value_words s = value_at (value_of s)

-- what n cells hold, from cell i on; there is no value where there is no cell
unfoldable pub cells_from : List Value → ℕ → ℕ → List ℕ
cells_from l i zero = []
cells_from l i (suc n) = first_word (get_elem? l i) ∷ second_word (get_elem? l i) ∷ cells_from l (suc i) n

-- two words for each cell
unfoldable pub cell_words : System → List ℕ
cell_words s = cells_from s.store.cells 0 most_cells

-- what cell i of l holds is written
pub record CellPut (l : List Value) (before after : List ℕ) (i : ℕ) : Type 0 where
  pub same : after ≡ sets before (2 * i) (first_word (get_elem? l i) ∷ second_word (get_elem? l i) ∷ [])
