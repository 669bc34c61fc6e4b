-- The eight lent tables of a contract, before a call and after it.
use Rattle.typing.specs.Tables.{Tables}
use Rattle.table.specs.Lent.{Table, Shown, job_before}
use Rattle.judge.specs.Answer.{tables}

abbrev pub before : Table → Table → Table → Table → Table → Table → Table → Table → Tables
before n t s v h p o e = record { job = job_before n t s v h p; entries = o.entry.now; effects = e.entry.now }

-- before and after typing, which writes types, sets, entries and effects
abbrev pub typed_before : Shown → Table → Table → Shown → Shown → Shown → Table → Table → Tables
typed_before n t s v h p o e =
    tables n.entry.now t.entry.now s.entry.now v.entry.now h.entry.now p.entry.now o.entry.now e.entry.now

abbrev pub typed_after : Shown → Table → Table → Shown → Shown → Shown → Table → Table → Tables
typed_after n t s v h p o e =
    tables n.entry.now t.exit.now s.exit.now v.entry.now h.entry.now p.entry.now o.exit.now e.exit.now
