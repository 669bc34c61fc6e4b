use Rattle.store.proofs.Writes.{packed}
use mathlib.Core.Path.{refl}
use borrow.Author.Rules.{rules}
use Rattle.store.proofs.pack.Goals as goal

pub returns : goal.returns
returns c = packed c.args.v _ _ _ c.word.ensures (search rules) c.kind_number.ensures.1 (search rules) refl (c.kind_number.ensures.0 _)
