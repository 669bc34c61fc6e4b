use mathlib.Core.List.{append_assoc}
use Rattle.output.specs.Lines.{line, space, w_no_room, decimal}
use Rattle.format.specs.Text.{no_room_as}
use Rattle.format.specs.Laws.{no_room_length}
use Rattle.format.proofs.Whole.{first, more, whole}
use Rattle.format.proofs.no_room.Goals as goal

pub returns : goal.returns
unfolding no_room_as line space w_no_room decimal
returns c = whole _ _ (no_room_as _) (more _ _ _ _ (more _ _ _ _ (first _ _ _ c.empty.ensures c.put.ensures) c.decimal.ensures) c.push.ensures) (simp append_assoc) (no_room_length _)
