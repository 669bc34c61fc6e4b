use Rattle.std.proofs.Common.{◌≡◌, ◌-◌}
use Rattle.tree.specs.Passes.{masks_by, masks_from}
use Rattle.tree.proofs.type_masks.Given as goal

abbrev pub invariant-loop-i : goal.invariant-loop-i
invariant-loop-i l = masks_by l.types l.sets l.n ≡ masks_from l.types l.sets l.i (l.n - l.i) l.masks
