-- "finished", and the places that there are, each defined apart from the step function.
use Rattle.std.specs.Prelude.{ℕ, ◌+◌, Bool, true, false, List, [], ◌∷◌, length, ltb}
use Rattle.order.specs.Bools.{◌or◌}
use Rattle.semantics.specs.Machine.{Frame, Control, enter, hand, Machine, most_cells, most_keys, most_pairs, most_functions, most_frames, most_bindings, most_threads}

-- "No frame left and a value: done."
unfoldable pub done_at : Control → List Frame → Bool
done_at (enter e) fs = false
done_at (hand v) [] = true
done_at (hand v) (f ∷ fs) = false

unfoldable pub is_done : Machine → Bool
is_done m = done_at m.thread.control m.thread.frames

-- so many places of one kind
pub data Place : Type 0 where
  cells keys pairs functions frames bindings threads : ℕ → Place

-- fewer than so many are left
unfoldable pub lacking : Place → Machine → Bool
lacking (cells n) m = ltb most_cells (length m.store.cells + n)
lacking (keys n) m = ltb most_keys (length m.store.keys + n)
lacking (pairs n) m = ltb most_pairs (length m.store.pairs + n)
lacking (functions n) m = ltb most_functions (length m.store.functions + n)
lacking (frames n) m = ltb most_frames (length m.thread.frames + n)
lacking (bindings n) m = ltb most_bindings (length m.store.bindings + n)
lacking (threads n) m = ltb most_threads (length m.threads + n)

unfoldable pub any_lacking : List Place → Machine → Bool
any_lacking [] m = false
any_lacking (p ∷ ps) m = lacking p m or any_lacking ps m
