use Rattle.initial.specs.Entries.{values_from}
use Rattle.wall.specs.Listed.{row_by}
use Rattle.wall.proofs.Texts.{Lining}
use Rattle.wall.proofs.lines.Given as goal

abbrev pub invariant-loop-k : goal.invariant-loop-k
invariant-loop-k l = Lining (row_by l.anc (values_from l.types l.values 0 l.m) l.effect) l.names l.initial.text l.text l.n l.at l.k
