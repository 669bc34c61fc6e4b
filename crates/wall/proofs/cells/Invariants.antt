use Rattle.output.specs.Sheet.{carries}
use Rattle.wall.proofs.Texts.{Counting}
use Rattle.wall.proofs.cells.Given as goal

abbrev pub invariant-loop-v : goal.invariant-loop-v
invariant-loop-v l = Counting (carries l.n) l.types l.values l.m l.v l.count
