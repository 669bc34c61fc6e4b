use Rattle.entry.specs.Bytes.{section_no}
use Prim.Native.Nat.{◌≤◌}
use Rattle.encode.specs.Entries.{limit_of, item_in}
use Rattle.encode.specs.Shows.{shown_by}
use Rattle.encode.proofs.Pens.{Along}
use Rattle.encode.proofs.section_bytes.Given as goal

abbrev pub invariant-loop-i : goal.invariant-loop-i
invariant-loop-i l = Along (item_in (shown_by l.tables) (section_no l.sec)) l.initial.out l.out l.at l.p l.i × (l.i ≤ limit_of (section_no l.sec))
