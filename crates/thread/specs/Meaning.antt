-- What a search for a binding gives: the word of a value, or nothing.
use Rattle.std.specs.Prelude.{ℕ, Some, None}
use Rattle.std.specs.Prelude as std
use Rattle.std.proofs.Math.Option.{Option, none, some}
use Rattle.semantics.specs.Machine.{Value as SValue}
use Rattle.store.specs.Words.{word_in}

abbrev pub found_in : std.Option ℕ → Option SValue
found_in (Some v) = some (word_in v)
found_in None = none
