use Rattle.std.proofs.Common.{sym, ◌∙◌, rules}
use borrow.Author.Tests.{le-ltb}
use Rattle.store.proofs.Sets.{has_low, has_high, has_none}
use Rattle.store.proofs.has.Goals as goal

pub returns-then-k-lt-SECOND : goal.returns-then-k-lt-SECOND
returns-then-k-lt-SECOND c = has_low c.args.on _ c.if-k-lt-SECOND.true

pub returns-then-k-lt-ALL_KEYS : goal.returns-then-k-lt-ALL_KEYS
returns-then-k-lt-ALL_KEYS c = has_high c.args.on _ (search rules) c.if-k-lt-SECOND.false

pub returns-else-k-lt-ALL_KEYS : goal.returns-else-k-lt-ALL_KEYS
returns-else-k-lt-ALL_KEYS c = le-ltb _ _ c.if-k-lt-ALL_KEYS.false ∙ sym (has_none c.args.on _ (search rules) (search rules) c.if-k-lt-ALL_KEYS.false)
