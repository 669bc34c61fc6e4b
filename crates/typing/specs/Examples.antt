-- A job that is a tree and binds nothing twice, and to which the rules give no type: its new cell is of numbers with key 2, and the local name 2 is nowhere in scope. Number 10 refuses it.
use Rattle.std.specs.Prelude.{false}
use mathlib.Core.List.{[], ◌∷◌}
use Rattle.order.specs.Effects.{pure}
use Rattle.syntax.specs.Types.{e_num}
use Rattle.syntax.specs.Commands.{c_num, c_new}
use Rattle.syntax.specs.Job.{Job}

abbrev pub unscoped : Job
unscoped = record {
  names = record { host = false; upper = 1 } ∷ [];
  types = e_num 2 ∷ [];
  values = [];
  rights = pure;
  cmds = c_num 0 ∷ c_new 0 0 ∷ [];
}
