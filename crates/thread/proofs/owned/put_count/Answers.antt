use Rattle.store.proofs.Writes.{stored}
use Rattle.thread.proofs.Owns.{count_owned}
use borrow.Author.Rules.{rules}
use Rattle.thread.proofs.owned.put_count.Goals as goal

pub returns : goal.returns
returns c = count_owned (search rules) (stored c.set_at.ensures)
