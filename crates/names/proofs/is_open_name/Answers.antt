use Rattle.std.proofs.Common.{eq-eqb, ne_eqb}
use Rattle.order.specs.Bools.{◌or◌}
use Rattle.syntax.specs.Reading.{open_name}
use Rattle.names.proofs.is_open_name.Goals as goal

pub returns-then-q-eq0 : goal.returns-then-q-eq0
unfolding open_name ◌or◌
returns-then-q-eq0 c = simp (eq-eqb _ _ c.if-q-eq0.true)

pub returns-else-q-eq0 : goal.returns-else-q-eq0
unfolding open_name ◌or◌
returns-else-q-eq0 c = simp (ne_eqb _ _ c.if-q-eq0.false) c.is_host_name.ensures
