use Rattle.order.specs.Bools.{◌and◌}
use Rattle.names.specs.Ancestors.{rights_ok_by}
use Rattle.names.proofs.Tables.{names_in_length}
use Rattle.names.proofs.rights_ok.Goals as goal

pub returns-then-set_ok : goal.returns-then-set_ok
unfolding rights_ok_by ◌and◌
returns-then-set_ok c = simp (names_in_length, ← c.set_ok.ensures, c.if-set_ok.true) c.all_host.ensures

pub returns-else-set_ok : goal.returns-else-set_ok
unfolding rights_ok_by ◌and◌
returns-else-set_ok c = simp (names_in_length, ← c.set_ok.ensures, c.if-set_ok.false)
