use mathlib.Core.Path.{◌∙◌}
use borrow.Author.Tests.{ne_eqb}
use Rattle.wall.proofs.Texts.{is_cell_lem, not_cell}
use Rattle.wall.proofs.carries.Goals as goal

pub returns-then-byte_of-eq18 : goal.returns-then-byte_of-eq18
returns-then-byte_of-eq18 c = is_cell_lem _ _ c.byte_of.ensures c.if-byte_of-eq18.true c.key_of.ensures

pub returns-else-byte_of-eq18 : goal.returns-else-byte_of-eq18
returns-else-byte_of-eq18 c = ne_eqb _ _ c.if-byte_of-eq18.false ∙ not_cell _ _ c.byte_of.ensures c.if-byte_of-eq18.false
