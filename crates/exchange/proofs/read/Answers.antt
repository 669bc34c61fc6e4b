use Rattle.exchange.proofs.Told.{reads_short, reads_job, reads_refused}
use Rattle.job.proofs.ReadTables.{read_answer, read_tables}
use mathlib.Core.Path.{refl}
use Rattle.exchange.proofs.read.Goals as goal

pub returns-then-counts-lt-COUNTS : goal.returns-then-counts-lt-COUNTS
returns-then-counts-lt-COUNTS c = reads_short _ c.if-counts-lt-COUNTS.true refl c.tell.ensures

pub returns-in-Ok : goal.returns-in-Ok
returns-in-Ok c = reads_job _ c.if-counts-lt-COUNTS.false (read_answer c.read.ensures) (read_tables c.read.ensures) c.in-Ok.is refl c.put_counts.ensures

pub returns-in-Err : goal.returns-in-Err
returns-in-Err c = reads_refused _ c.if-counts-lt-COUNTS.false (read_answer c.read.ensures) (read_tables c.read.ensures) c.in-Err.is c.tell-in-Err.ensures
