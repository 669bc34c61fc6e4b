use Rattle.wall.proofs.Texts.{name_laid, name_unlaid}
use Rattle.wall.proofs.put_name.Goals as goal

pub returns-then-w-eq1 : goal.returns-then-w-eq1
returns-then-w-eq1 c = name_laid _ _ _ _ _ _ _ _ _ _ _ c.if-w-eq1.true c.single.ensures c.eff_below-used.ensures c.cells-count.ensures c.put_line.ensures

pub returns : goal.returns
returns c = name_unlaid _ _ _ _ c.if-w-eq1.false
