use mathlib.Core.Path.{refl}
use Rattle.initial.proofs.Names.{keys_within}
use Rattle.initial.proofs.Jobs.{root_small, begun}
use borrow.Author.Rules.{rules}
use Rattle.initial.proofs.entered.Goals as goal

pub enabled_keys-on-requires : goal.enabled_keys-on-requires
enabled_keys-on-requires c = keys_within _ _ _ _ _ _ c.enter_names-nkeys.ensures (search rules)

pub overflow_cast-result-2 : goal.overflow_cast-result-2
overflow_cast-result-2 c = record { fits = root_small _ c.last.ensures (search rules) }

pub returns : goal.returns
returns c = begun _ _ _ _ _ _ _ _ _ _ (search rules) (search rules) refl c.last.ensures c.enter_names-nkeys.ensures c.enter_values-ncells.ensures c.enabled_keys-on.ensures
