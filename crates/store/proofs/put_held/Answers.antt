use mathlib.Core.Path.{refl}
use Rattle.store.proofs.Writes.{stored, hold_room, hold}
use Rattle.store.specs.Words.{word_in}
use borrow.Author.Rules.{rules}
use Rattle.store.proofs.put_held.Goals as goal

pub overflow_add-head : goal.overflow_add-head
overflow_add-head c = record { fits = hold_room _ _ _ (word_in 0) (search rules) (search rules) c.get_or-head.ensures _ c.requires.2 c.requires.3 (search rules) }

pub returns-clause-put : goal.returns-clause-put
returns-clause-put c = hold _ _ _ _ (search rules) (search rules) c.get_or-head.ensures _ c.requires.2 c.requires.3 _ _ _ (stored c.set_at.ensures) (stored c.set_at-2.ensures) refl
