use Rattle.std.proofs.Common.{sym, ap, ◌∙◌}
use mathlib.Core.Bool.{not, true≢false}
use borrow.Author.Tests.{eq-eqb}
use Rattle.store.proofs.Walks.{both_zero, both_walk, both_off}
use Rattle.store.proofs.both.Goals as goal
use Rattle.store.proofs.both.Goals.{then-k-ne0, else-k-ne0}

pub returns-then-walk : goal.returns-then-walk
returns-then-walk c =
    elim c.if-k-ne0.branch [
      | then-k-ne0 w ↦ both_walk _ _ _ _ _ _ w.if-k-ne0.true w.walk.ensures (sym w.value-is ∙ c.if-walk.true) c.walk-then-walk.ensures
      | else-k-ne0 w ↦ absurd (true≢false (sym c.if-walk.true ∙ w.value-is ∙ ap not (eq-eqb _ _ w.if-k-ne0.false)))
    ]

pub returns-else-walk : goal.returns-else-walk
returns-else-walk c =
    elim c.if-k-ne0.branch [
      | then-k-ne0 w ↦ c.if-walk.false ∙ sym (both_off _ _ _ _ _ _ w.if-k-ne0.true w.walk.ensures (sym w.value-is ∙ c.if-walk.false))
      | else-k-ne0 w ↦ c.if-walk.false ∙ sym (both_zero _ _ _ _ _ _ w.if-k-ne0.false)
    ]
