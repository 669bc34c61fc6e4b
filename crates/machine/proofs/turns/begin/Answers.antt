use Rattle.machine.specs.Turns.{less}
use Rattle.machine.proofs.Advancing.{begun_full, begun_placed}
use borrow.Author.Rules.{rules}
use Rattle.machine.proofs.turns.begin.Goals as goal

pub returns-then-c-ge-MOST_THREADS : goal.returns-then-c-ge-MOST_THREADS
returns-then-c-ge-MOST_THREADS c = begun_full _ _ _ _ _ c.if-c-ge-MOST_THREADS.true

pub returns : goal.returns
unfolding less
returns c = begun_placed c.args.c c.args.i c.args.r _ _ _ c.if-c-ge-MOST_THREADS.false c.start.ensures (search rules)
