use Rattle.order.specs.Bools.{◌and◌}
use Rattle.names.specs.Ancestors.{set_ok_by}
use Rattle.names.proofs.set_ok.Goals as goal

pub returns-then-all_declared : goal.returns-then-all_declared
unfolding set_ok_by ◌and◌
returns-then-all_declared c = simp (← c.all_declared.ensures, c.if-all_declared.true) c.reduced.ensures

pub returns-else-all_declared : goal.returns-else-all_declared
unfolding set_ok_by ◌and◌
returns-else-all_declared c = simp (← c.all_declared.ensures, c.if-all_declared.false)
