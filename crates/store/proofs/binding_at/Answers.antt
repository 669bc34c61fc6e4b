use Rattle.store.specs.Words.{link_in}
use borrow.Author.Tests.{eq-eqb, ne_eqb}
use Rattle.store.proofs.binding_at.Goals as goal
use Rattle.store.proofs.binding_at.Goals.{then-w-eq0, else-w-eq0}

pub returns : goal.returns
unfolding link_in
returns c =
    elim c.if-w-eq0.branch [
      | then-w-eq0 w ↦ simp (w.bound-is, eq-eqb _ _ w.if-w-eq0.true, ← c.get_or-v.ensures, ← c.get_or-w.ensures)
      | else-w-eq0 w ↦ simp (w.bound-is, ne_eqb _ _ w.if-w-eq0.false, ← c.get_or-v.ensures, ← c.get_or-w.ensures)
    ]
