-- What an answer of the inference stands for: an expression's type, as a new entry, the second of two or the number of one, and its effect; or the number of a refusal.
use Rattle.std.specs.Prelude.{ℕ, [], ◌∷◌}
use Rattle.std.proofs.Common as std
use Rattle.std.proofs.Common.{Ok, Err}
use Rattle.std.proofs.Math.Option.{Option, none, some}
use Rattle.order.specs.Effects.{of_word}
use Rattle.syntax.specs.Types.{TypeEntry, e_num, e_pair}
use Rattle.typing.specs.Numbered.{Result, makes, points, wrong}
use Rattle.equality.specs.Entry.{entry_of}
use Rattle.rules.specs.declared.Typing.{Typing}
use Rattle.rules.specs.declared.Typing.TheVariants.{Makes, Shares, Points}

-- a new entry is always something
unfoldable pub made : Option TypeEntry → TypeEntry
made none = e_num 0
made (some e) = e

unfoldable pub result_in : std.Result Typing ℕ → Result
result_in (Ok (Makes e s)) = makes [] (made (entry_of e)) (of_word s)
result_in (Ok (Shares n s)) = makes (e_num 0 ∷ []) (e_pair 0 n n) (of_word s)
result_in (Ok (Points i s)) = points i (of_word s)
result_in (Err n) = wrong n
