use Rattle.store.proofs.Writes.{cell_put}
use borrow.Author.Rules.{rules}
use Rattle.store.proofs.put_cell.Goals as goal

pub returns : goal.returns
returns c = cell_put _ _ _ _ 256 _ (search rules) (record { same = c.set_at.ensures }) c.pack.ensures
