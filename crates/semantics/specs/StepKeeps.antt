-- What a step keeps, of every machine and every code. It stays within its room (`room_kept`); and it keeps every cell's value, unless an operand of its act is written
-- (`unwritten_kept`); one is written only where the act can change a cell (`written_changes`), and one is read and written only in 0x3F (`both_exactly`). Which operands are written is read off document 01's list (`Wants`), apart from the step.
use Rattle.std.specs.Prelude.{◌≡◌, ℕ, ◌≤◌, Bool, true, ◌≢◌, length}
use Rattle.std.proofs.Math.Bool.{false}
use mathlib.Core.List.{List, [], ◌∷◌}
use Rattle.std.proofs.Math.Option.{Option, none, some}
use Rattle.std.proofs.Math.ListN.{get_elem?}
use Rattle.order.specs.Bools.{◌or◌}
use Rattle.syntax.specs.Commands.{Cmd}
use Rattle.semantics.specs.Machine.{Value, Frame, Thread, Store, Machine, most_cells, most_keys, most_pairs, most_functions, most_frames, most_bindings, most_threads}
use Rattle.semantics.specs.Step.{o_step, settle}
use Rattle.semantics.specs.Step.{act}
use Rattle.semantics.specs.Wants.{Usage, read, write, read_and_write, Use}

-- Room

-- frames, a store and threads that are within their room
pub record Within (fs : List Frame) (s : Store) (ts : List Thread) : Type 0 where
  pub cells : length s.cells ≤ most_cells
  pub keys : length s.keys ≤ most_keys
  pub pairs : length s.pairs ≤ most_pairs
  pub functions : length s.functions ≤ most_functions
  pub bindings : length s.bindings ≤ most_bindings
  pub frames : length fs ≤ most_frames
  pub threads : length ts ≤ most_threads

abbrev pub Fits : Machine → Type 0
Fits m = Within m.thread.frames m.store m.threads

-- how the act touches it, if it does, is to write it. The `read_and_write` of 0x3F is of a value in hand, which it hands on with another key: it is no cell's.
unfoldable pub is_write : Option Usage → Bool
is_write none = false
is_write (some read) = false
is_write (some write) = true
is_write (some read_and_write) = false

-- one of the operands is written
unfoldable pub any_written : List Use → Bool
any_written [] = false
any_written (u ∷ us) = is_write u.touch or any_written us

-- every cell of s, n has with the same value
pub record Kept (s : Store) (n : Machine) : Type 0 where
  pub at : (i : ℕ) (v : Value) → get_elem? s.cells i ≡ some v → get_elem? n.store.cells i ≡ some v

-- a step of the act from m to n, after which cell i has another value
pub record Changes {T : Type 0} (k : Cmd T) : Type 0 where
  pub m : Machine
  pub n : Machine
  pub held : List Value
  pub taken : settle (act k held m) ≡ o_step n
  pub i : ℕ
  pub old : Value
  pub new : Value
  pub before : get_elem? m.store.cells i ≡ some old
  pub after : get_elem? n.store.cells i ≡ some new
  pub differ : old ≢ new

unfoldable pub is_both : Option Usage → Bool
is_both none = false
is_both (some read) = false
is_both (some write) = false
is_both (some read_and_write) = true

unfoldable pub any_both : List Use → Bool
any_both [] = false
any_both (u ∷ us) = is_both u.touch or any_both us
