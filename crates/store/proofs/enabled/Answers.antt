use Rattle.std.proofs.Common.{sym, ◌∙◌}
use borrow.Author.Tests.{eq-eqb}
use Rattle.store.proofs.Laws.{min_capped}
use Rattle.store.proofs.Walks.{on_zero, on_walk}
use Rattle.store.proofs.enabled.Goals as goal

pub returns-then-k-eq0 : goal.returns-then-k-eq0
returns-then-k-eq0 c = eq-eqb _ _ c.if-k-eq0.true ∙ sym (on_zero _ _ _ _ c.if-k-eq0.true)

pub returns-else-k-eq0 : goal.returns-else-k-eq0
returns-else-k-eq0 c = simp (← min_capped c.args.n 128, ← c.min.ensures) (on_walk _ _ _ _ c.if-k-eq0.false c.walk.ensures)
