-- How many bytes were read: all of an input, or those before a read that failed.
use Rattle.std.specs.Prelude.{ℕ, Ok, Err}
use Rattle.std.specs.declared.result.Result.{Result}
use Rattle.stream.specs.declared.Cut.{Cut}

abbrev pub read_length : Result ℕ Cut → ℕ
read_length (Ok n) = n
read_length (Err cut) = cut.length
