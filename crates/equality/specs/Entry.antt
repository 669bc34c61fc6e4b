-- The type entry that an answer of `entry_at` stands for.
use Rattle.std.proofs.Math.Option.{Option, none, some}
use Rattle.order.specs.Effects.{of_word}
use Rattle.syntax.specs.Types.{TypeEntry, e_num, e_pair, e_cell, e_fn, e_lim, e_grant}
use Rattle.equality.specs.declared.Entry.{Entry}
use Rattle.equality.specs.declared.Entry.TheVariants.{Number, Pair, Cell, Function, Limit, Grant, Nothing}

unfoldable pub entry_of : Entry → Option TypeEntry
entry_of (Number q) = some (e_num q.0)
entry_of (Pair q a b) = some (e_pair q.0 a b)
entry_of (Cell q a) = some (e_cell q.0 a)
entry_of (Function q a b s) = some (e_fn q.0 a b (of_word s))
entry_of (Limit q r) = some (e_lim q.0 r.0)
entry_of (Grant q r) = some (e_grant q.0 r.0)
entry_of Nothing = none
