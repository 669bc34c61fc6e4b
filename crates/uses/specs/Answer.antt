-- The answer of the tree checks as document 01 has it: no refusal, or a number and a place.
use Rattle.std.proofs.Math.Option.{Option, none, some}
use Rattle.std.specs.Prelude.{⊤, Result, Ok, Err}
use Rattle.syntax.specs.Reading.{Refusal}
use Rattle.table.specs.declared.Refusal.{Refusal as Refused}

abbrev pub refusal_of : Result ⊤ Refused → Option Refusal
refusal_of (Ok _) = none
refusal_of (Err r) = some (record { number = r.number; place = r.place })
