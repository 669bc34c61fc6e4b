-- The lent tables of a contract, before a call and after it.
use Rattle.std.specs.Prelude.{ℕ, List}
use Rattle.std.specs.Borrow.{Bor, MutBor}
use denote.Triple.Both.{Both}
use Rattle.syntax.specs.Loading.{JobTables}

-- one table: before the call, and after it
abbrev pub Table : Type 0
Table = Both (MutBor (List ℕ)) (MutBor (List ℕ))

-- the six tables of a job
abbrev pub job_tables : List ℕ → List ℕ → List ℕ → List ℕ → List ℕ → List ℕ → JobTables
job_tables n t s v h p = record { names = n; types = t; sets = s; values = v; heads = h; slots = p }

abbrev pub job_before : Table → Table → Table → Table → Table → Table → JobTables
job_before n t s v h p = job_tables n.entry.now t.entry.now s.entry.now v.entry.now h.entry.now p.entry.now

abbrev pub job_after : Table → Table → Table → Table → Table → Table → JobTables
job_after n t s v h p = job_tables n.exit.now t.exit.now s.exit.now v.exit.now h.exit.now p.exit.now

-- a table that is lent to be read alone: it is after the call what it was before
abbrev pub Shown : Type 0
Shown = Both (Bor (List ℕ)) (Bor (List ℕ))

abbrev pub job_shown : Shown → Shown → Shown → Shown → Shown → Shown → JobTables
job_shown n t s v h p = job_tables n.entry.now t.entry.now s.entry.now v.entry.now h.entry.now p.entry.now
