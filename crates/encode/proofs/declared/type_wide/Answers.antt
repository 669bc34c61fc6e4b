use Rattle.encode.specs.Entries.{type_wide}
use borrow.Author.Tests.{ne_eqb}
use Rattle.encode.proofs.declared.type_wide.Goals as goal

pub returns-in-17 : goal.returns-in-17
unfolding type_wide
returns-in-17 c = simp c.in-17.is

pub returns-in-19 : goal.returns-in-19
unfolding type_wide
returns-in-19 c = simp c.in-19.is

pub returns-in-20 : goal.returns-in-20
unfolding type_wide
returns-in-20 c = simp (c.in-20.is, ← c.first_of.ensures)

pub returns-in-21 : goal.returns-in-21
unfolding type_wide
returns-in-21 c = simp (c.in-21.is, ← c.first_of-in-21.ensures)

pub returns-in_default : goal.returns-in_default
unfolding type_wide
returns-in_default c = simp (ne_eqb _ _ c.in_default.in_default-own.rest.1, ne_eqb _ _ c.in_default.in_default-own.rest.0.1, ne_eqb _ _ c.in_default.in_default-own.rest.0.0.1, ne_eqb _ _ c.in_default.in_default-own.rest.0.0.0.1)
