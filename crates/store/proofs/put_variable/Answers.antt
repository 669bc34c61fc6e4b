use Rattle.store.proofs.Writes.{variable_put}
use borrow.Author.Rules.{rules}
use Rattle.store.proofs.put_variable.Goals as goal

pub returns : goal.returns
returns c = variable_put _ _ _ _ _ _ 1024 (search rules) (record { same = c.set_at.ensures }) (record { same = c.set_at-2.ensures }) _ _ _ c.triple.ensures (search rules) (search rules) c.pack.ensures
