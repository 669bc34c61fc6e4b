use Rattle.exchange.proofs.Told.{writes_short, writes_sent, writes_refused}
use mathlib.Core.Path.{refl}
use Rattle.exchange.proofs.write.Goals as goal

pub returns-then-counts-lt-COUNTS : goal.returns-then-counts-lt-COUNTS
returns-then-counts-lt-COUNTS c = writes_short _ c.if-counts-lt-COUNTS.true refl refl c.tell.ensures

pub returns-in-Ok : goal.returns-in-Ok
returns-in-Ok c = writes_sent _ c.if-counts-lt-COUNTS.false c.counts_in-g.ensures c.write.ensures c.in-Ok.is c.tell-in-Ok.ensures

pub returns-in-Err : goal.returns-in-Err
returns-in-Err c = writes_refused _ c.if-counts-lt-COUNTS.false c.counts_in-g.ensures c.write.ensures c.in-Err.is c.tell-in-Err.ensures
