use Rattle.initial.proofs.Names.{key_stored}
use borrow.Author.Rules.{rules}
use Rattle.initial.proofs.put_key.Goals as goal

pub returns : goal.returns
returns c = key_stored _ _ _ (search rules)
