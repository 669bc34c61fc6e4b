use Rattle.store.proofs.Writes.{stored}
use Rattle.thread.proofs.Owns.{place_owned}
use borrow.Author.Rules.{rules}
use Rattle.thread.proofs.owned.put_place.Goals as goal

pub returns : goal.returns
returns c = place_owned (search rules) (search rules) (stored c.set_at.ensures) (stored c.set_at-2.ensures) (stored c.set_at-3.ensures)
