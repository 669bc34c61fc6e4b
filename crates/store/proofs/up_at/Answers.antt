use Rattle.store.specs.Words.{up_in}
use borrow.Author.Rules.{rules}
use Rattle.store.proofs.up_at.Goals as goal

pub returns : goal.returns
unfolding up_in
returns c = search rules
