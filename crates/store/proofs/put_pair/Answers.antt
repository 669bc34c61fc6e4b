use Rattle.store.proofs.Writes.{pair_put}
use borrow.Author.Rules.{rules}
use Rattle.store.proofs.put_pair.Goals as goal

pub returns : goal.returns
returns c = pair_put _ _ _ _ _ _ 512 (search rules) (record { same = c.set_at.ensures }) (record { same = c.set_at-2.ensures }) _ c.pack.ensures c.pack-2.ensures
