use Rattle.std.proofs.Common.{sym, ◌∙◌}
use borrow.Author.Tests.{lt-ltb}
use Rattle.store.proofs.Sets.{any_low, any_high}
use Rattle.store.proofs.KeysSought.any.Goals as goal

pub returns-then-self-gt0 : goal.returns-then-self-gt0
returns-then-self-gt0 c = lt-ltb _ _ c.if-self-gt0.true ∙ sym (any_low _ c.if-self-gt0.true)

pub returns-else-self-gt0 : goal.returns-else-self-gt0
returns-else-self-gt0 c = any_high _ c.if-self-gt0.false
