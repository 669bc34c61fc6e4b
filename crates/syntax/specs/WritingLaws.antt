-- What writing answers, fault by fault, and that it sends no field cut. WrittenRefusals says why an answer was given; here it is the other way round.
use Rattle.std.specs.Prelude.{◌≡◌}
use Prim.Native.Nat.{ℕ, ◌/◌, ◌%◌}
use mathlib.Core.List.{List}
use Rattle.std.proofs.Math.ListN.{length}
use Rattle.syntax.specs.Commands.{Op, o_pair, o_function, o_limit, o_grant}
use Rattle.syntax.specs.Commands.{x_number, x_variable, x_part, x_function, x_sum, x_limit, x_newkey}
use Rattle.syntax.specs.Reading.{refused_at, reading}
use Rattle.syntax.specs.Loading.{JobTables}
use Rattle.syntax.specs.Writing.{Counts, Item}
use Rattle.syntax.specs.Writing.{script, unsent_at, writing}

-- the entries b have no fault, and reading finds nothing wrong with their bytes but that they end: then the answer is n where they end
abbrev pub Answers : JobTables → Counts → List Item → ℕ → Type 0
Answers w c b n = (script b).fault ≡ 0 → reading (script b).bytes ≡ refused_at 4 (length (script b).bytes) → writing w c ≡ unsent_at n (length (script b).bytes)

-- the commands that have operands in their heads, and how many bytes of them
pub data InHead : Op → ℕ → Type 0 where
  head_number : InHead x_number 4
  head_variable : InHead x_variable 1
  head_part : InHead x_part 1
  head_function : InHead x_function 1
  head_sum : InHead x_sum 1
  head_limit : InHead x_limit 1
  head_newkey : InHead x_newkey 2

-- nor a type of word d and set s more than its operands: number x has n bytes
pub data InType (d s : ℕ) : Op → ℕ → ℕ → Type 0 where
  second_of_pair : InType d s o_pair (d / 4294967296) 2
  second_of_function : InType d s o_function (d / 4294967296) 2
  set_of_function : InType d s o_function s 8
  name_of_limit : InType d s o_limit (d / 65536 % 65536) 1
  name_of_grant : InType d s o_grant (d / 65536 % 65536) 1
