use Rattle.encode.specs.Entries.{head_wide}
use borrow.Author.Tests.{ne_eqb}
use Rattle.encode.proofs.exprs.head_wide.Goals as goal

pub returns-in-48 : goal.returns-in-48
unfolding head_wide
returns-in-48 c = simp c.in-48.is

pub returns-in-50 : goal.returns-in-50
unfolding head_wide
returns-in-50 c = simp c.in-50.is

pub returns-in-52 : goal.returns-in-52
unfolding head_wide
returns-in-52 c = simp c.in-52.is

pub returns-in-53 : goal.returns-in-53
unfolding head_wide
returns-in-53 c = simp c.in-53.is

pub returns-in-58 : goal.returns-in-58
unfolding head_wide
returns-in-58 c = simp c.in-58.is

pub returns-in-60 : goal.returns-in-60
unfolding head_wide
returns-in-60 c = simp c.in-60.is

pub returns-in-62 : goal.returns-in-62
unfolding head_wide
returns-in-62 c = simp c.in-62.is

pub returns-in_default : goal.returns-in_default
unfolding head_wide
returns-in_default c = simp (ne_eqb _ _ c.in_default.in_default-own.rest.1, ne_eqb _ _ c.in_default.in_default-own.rest.0.1, ne_eqb _ _ c.in_default.in_default-own.rest.0.0.1, ne_eqb _ _ c.in_default.in_default-own.rest.0.0.0.1, ne_eqb _ _ c.in_default.in_default-own.rest.0.0.0.0.1, ne_eqb _ _ c.in_default.in_default-own.rest.0.0.0.0.0.1, ne_eqb _ _ c.in_default.in_default-own.rest.0.0.0.0.0.0.1)
