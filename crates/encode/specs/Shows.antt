-- The tables of a job as they are lent to be read.
use Rattle.syntax.specs.Loading.{JobTables}
use Rattle.encode.specs.declared.Shown.{Shown}
use Rattle.table.specs.Lent.{job_tables}

abbrev pub shown_by : Shown → JobTables
shown_by t = job_tables t.names.now t.types.now t.sets.now t.values.now t.heads.now t.slots.now
