-- The contracts over the lent tables, said of the tables before and after a call.
use Rattle.std.specs.Prelude.{length}
use Rattle.table.specs.Lent.{Table, Shown}
use Rattle.entry.specs.declared.Shape.{Shape}
use Rattle.entry.specs.declared.Entry.{Entry}
use Rattle.job.specs.Answer.{Answer, Put, Zeroed, Filled, ReadTo}

abbrev pub PutLent : Entry → Shape → Table → Table → Table → Table → Table → Table → Table → Type 0
PutLent e g d n t s v h p =
    Put e g d.entry.now n.entry.now t.entry.now s.entry.now v.entry.now h.entry.now p.entry.now
    d.exit.now n.exit.now t.exit.now s.exit.now v.exit.now h.exit.now p.exit.now

abbrev pub ZeroedLent : Table → Table → Table → Table → Table → Table → Type 0
ZeroedLent n t s v h p =
    Zeroed n.entry.now t.entry.now s.entry.now v.entry.now h.entry.now p.entry.now
    n.exit.now t.exit.now s.exit.now v.exit.now h.exit.now p.exit.now

abbrev pub FilledLent : Shown → Answer → Table → Table → Table → Table → Table → Table → Type 0
FilledLent job r n t s v h p =
    Filled job.entry.now r n.exit.now t.exit.now s.exit.now v.exit.now h.exit.now p.exit.now
    (length n.entry.now) (length t.entry.now) (length s.entry.now) (length v.entry.now) (length h.entry.now) (length p.entry.now)

abbrev pub ReadLent : Shown → Answer → Table → Table → Table → Table → Table → Table → Type 0
ReadLent job r n t s v h p =
    ReadTo job.entry.now r n.entry.now t.entry.now s.entry.now v.entry.now h.entry.now p.entry.now
    n.exit.now t.exit.now s.exit.now v.exit.now h.exit.now p.exit.now
