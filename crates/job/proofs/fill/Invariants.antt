use lib.ListN.{length}
use Rattle.entry.specs.Bytes.{section_no}
use Rattle.job.proofs.Turn.{Reads}
use Rattle.job.proofs.fill.Given as goal

abbrev pub invariant-loop-left : goal.invariant-loop-left
invariant-loop-left l =
    Reads l.job l.left (section_no l.cur) l.g l.depths l.names l.types l.sets l.values l.heads l.slots l.initial.names l.initial.types l.initial.sets l.initial.values l.initial.heads l.initial.slots l.anc

abbrev pub decreases-loop-left : goal.decreases-loop-left
decreases-loop-left l = length l.left
