use mathlib.Core.List.{[]}
use Rattle.initial.proofs.Values.{cell_entered, key_entered}
use borrow.Author.Rules.{rules}
use Rattle.initial.proofs.enter_value.Goals as goal

pub returns-then-t-eq18 : goal.returns-then-t-eq18
returns-then-t-eq18 c = cell_entered _ _ _ _ _ _ _ _ _ _ _ _ _ (search rules) c.get_or-w.ensures c.get_or-t.ensures c.host_value-x.ensures (c.put_variable.ensures.wrote (search rules)) c.if-t-eq18.true c.number_cell.ensures

pub returns : goal.returns
returns c = key_entered _ _ _ _ _ _ _ _ _ _ _ [] _ (search rules) c.get_or-w.ensures c.get_or-t.ensures c.host_value-x.ensures (c.put_variable.ensures.wrote (search rules)) c.if-t-eq18.false
