use borrow.Author.Tests.{ne_eqb}
use Rattle.checker.proofs.Laws.{one_kept, other_cleared}
use Rattle.checker.proofs.unloaded.Goals as goal

pub returns-then-number-ne1 : goal.returns-then-number-ne1
returns-then-number-ne1 c = record { entries = other_cleared _ _ _ (ne_eqb _ _ c.if-number-ne1.true) (c.fill.ensures.after (λ y e. e)); effects = other_cleared _ _ _ (ne_eqb _ _ c.if-number-ne1.true) (c.fill-then-number-ne1.ensures.after (λ y e. e)) }

pub returns-else-number-ne1 : goal.returns-else-number-ne1
returns-else-number-ne1 c = record { entries = one_kept _ _ c.if-number-ne1.false; effects = one_kept _ _ c.if-number-ne1.false }
