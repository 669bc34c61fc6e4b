use Rattle.store.proofs.Writes.{stored, fresh_put}
use borrow.Author.Rules.{rules}
use Rattle.store.proofs.put_fresh.Goals as goal

pub returns-clause-put : goal.returns-clause-put
returns-clause-put c = fresh_put _ _ _ _ _ _ 256 _ _ _ (search rules) (search rules) c.triple.ensures (search rules) (search rules) (stored c.set_at.ensures) (stored c.set_at-2.ensures) (stored c.set_at-3.ensures)
