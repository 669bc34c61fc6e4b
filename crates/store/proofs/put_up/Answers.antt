use Rattle.store.proofs.Writes.{up_put}
use borrow.Author.Rules.{rules}
use Rattle.store.proofs.put_up.Goals as goal

pub returns : goal.returns
returns c = up_put _ _ _ _ 128 (search rules) (record { same = c.set_at.ensures })
