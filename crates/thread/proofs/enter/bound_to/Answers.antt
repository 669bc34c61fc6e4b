use borrow.Author.Tests.{eq-eqb, ne_eqb}
use Rattle.semantics.specs.Step.{seek_in}
use Rattle.thread.proofs.enter.bound_to.Goals as goal

pub returns-in-Variable : goal.returns-in-Variable
unfolding seek_in
returns-in-Variable c = λ rest. simp (c.in-Variable.is, eq-eqb _ _ c.if-x-y.true)

pub returns-in_default : goal.returns-in_default
unfolding seek_in
returns-in_default c = λ rest. simp (c.in-Variable.is, ne_eqb _ _ c.if-x-y.false)

pub returns-in_default-2 : goal.returns-in_default-2
unfolding seek_in
returns-in_default-2 c = λ rest. simp c.in_default.is
