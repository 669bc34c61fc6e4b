-- The tables of a job that are lent to be read alone, as they are after a call.
use Rattle.syntax.specs.Loading.{JobTables}
use Rattle.table.specs.Lent.{Shown, job_tables}

abbrev pub job_left : Shown → Shown → Shown → Shown → Shown → Shown → JobTables
job_left n t s v h p = job_tables n.exit.now t.exit.now s.exit.now v.exit.now h.exit.now p.exit.now
