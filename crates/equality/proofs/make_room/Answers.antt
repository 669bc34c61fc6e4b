use mathlib.Core.Path.{sym, ◌∙◌}
use Rattle.equality.proofs.Stays.{known_stays}
use Rattle.equality.proofs.make_room.Goals as goal

pub returns-else-get_or-ne0 : goal.returns-else-get_or-ne0
returns-else-get_or-ne0 c = record { right = λ anc sets w s k. known_stays anc _ sets _ w s (sym c.get_or.ensures ∙ c.if-get_or-ne0.false) k }
