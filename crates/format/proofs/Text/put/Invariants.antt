use mathlib.Core.Path.{◌≡◌}
use lib.ListN.{take}
use Rattle.format.specs.Text.{text_of, joined}
use Rattle.format.proofs.Text.put.Given as goal

-- The bytes of a slice stand at the end of a text. The invariant: those so far do.
abbrev pub invariant-loop-b : goal.invariant-loop-b
invariant-loop-b l = text_of l.self ≡ joined (text_of l.initial.self) (take l.b-index l.s)
