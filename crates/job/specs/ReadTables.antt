-- What `read` leaves: its answer and its tables by the definitions of loading, 1 to 7 alone.
use Rattle.std.specs.Prelude.{Bool}
use Rattle.std.proofs.Math.Bool.{true, false}
use Rattle.syntax.specs.Loading.{JobTables, holding}
use Rattle.syntax.specs.Reading.{Read}

-- what reading leaves in the tables
unfoldable pub left : Bool → Read → JobTables → JobTables
left true R w = holding R w
left false R w = w
