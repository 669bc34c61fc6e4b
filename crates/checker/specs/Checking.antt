-- From what the parts of the check answer to the verdict of the rules and the tables.
use Rattle.std.specs.Prelude.{◌≡◌, length}
use Rattle.syntax.specs.LoadLaws as lengths
use Rattle.typing.specs.Tables.{Tables}

pub record Lengths (w x : Tables) : Type 0 where
  pub job : lengths.Lengths w.job x.job
  pub entries : length w.entries ≡ length x.entries
  pub effects : length w.effects ≡ length x.effects
