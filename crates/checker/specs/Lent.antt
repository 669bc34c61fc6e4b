-- The eight lent tables of a contract after a call.
use Rattle.typing.specs.Tables.{Tables}
use Rattle.table.specs.Lent.{Table, job_after}

abbrev pub after : Table → Table → Table → Table → Table → Table → Table → Table → Tables
after n t s v h p o e = record { job = job_after n t s v h p; entries = o.exit.now; effects = e.exit.now }
