-- A load by what its parts come to, and the lengths of its tables.
use Rattle.std.specs.Prelude.{◌≡◌, ◌≤◌, length}
use Rattle.syntax.specs.Reading.{most_names, most_variables, most_expressions}
use Rattle.syntax.specs.Loading.{JobTables, most_entries, most_slots}

-- each table is as long as its limit
pub record Long (w : JobTables) : Type 0 where
  pub names : most_names ≤ length w.names
  pub types : most_entries ≤ length w.types
  pub sets : most_entries ≤ length w.sets
  pub values : most_variables ≤ length w.values
  pub heads : most_expressions ≤ length w.heads
  pub slots : most_slots ≤ length w.slots

pub record Lengths (w x : JobTables) : Type 0 where
  pub names : length w.names ≡ length x.names
  pub types : length w.types ≡ length x.types
  pub sets : length w.sets ≡ length x.sets
  pub values : length w.values ≡ length x.values
  pub heads : length w.heads ≡ length x.heads
  pub slots : length w.slots ≡ length x.slots
