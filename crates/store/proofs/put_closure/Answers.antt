use Rattle.store.proofs.Writes.{closure_put}
use borrow.Author.Rules.{rules}
use Rattle.store.proofs.put_closure.Goals as goal

pub returns : goal.returns
returns c = closure_put _ _ _ _ 512 _ (search rules) (record { same = c.set_at.ensures }) c.triple.ensures (search rules) (search rules) (search rules)
