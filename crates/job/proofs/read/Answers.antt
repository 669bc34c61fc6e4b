use mathlib.Core.Path.{sym}
use Rattle.job.proofs.Whole.{read_job, read_refused, read_none}
use Rattle.job.proofs.read.Goals as goal

pub returns-then-not-long_enough : goal.returns-then-not-long_enough
returns-then-not-long_enough c = read_none (sym c.if-not-long_enough.ensures)

pub returns-then-is_err : goal.returns-then-is_err
returns-then-is_err c =
    read_refused c.clear_all.ensures c.fill-answer.ensures (sym c.if-not-long_enough.ensures)
    c.fill-answer.auto.names c.fill-answer.auto.types c.fill-answer.auto.sets c.fill-answer.auto.values c.fill-answer.auto.heads c.fill-answer.auto.slots
    c.clear_all-then-is_err.ensures (sym c.if-is_err.ensures.value)

pub returns-else-is_err : goal.returns-else-is_err
returns-else-is_err c = read_job c.clear_all.ensures c.fill-answer.ensures (sym c.if-not-long_enough.ensures) (sym c.if-is_err.ensures.value)
