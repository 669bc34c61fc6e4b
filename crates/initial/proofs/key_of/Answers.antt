use mathlib.Core.Path.{◌∙◌}
use Rattle.initial.proofs.Names.{key_at, key_past}
use Rattle.initial.proofs.key_of.Goals as goal

pub returns-then-i-n : goal.returns-then-i-n
returns-then-i-n c = c.get_or.ensures ∙ key_at _ _ _ c.if-i-n.true

pub returns-else-i-n : goal.returns-else-i-n
returns-else-i-n c = key_past _ _ _ c.if-i-n.false
