use Rattle.tree.specs.Passes.{type_names}
use Rattle.tree.proofs.Loops.{pair_names, function_names}
use borrow.Author.Tests.{ne_eqb}
use Rattle.tree.proofs.names_of.Goals as goal

pub returns-in-17 : goal.returns-in-17
returns-in-17 c = pair_names _ _ _ c.key_of.ensures c.single-own.ensures c.first_of.ensures c.get_or-a.ensures c.second_of.ensures c.get_or-b.ensures c.in-17.is

pub returns-in-18 : goal.returns-in-18
unfolding type_names
returns-in-18 c = simp (c.in-18.is, ← c.get_or-a.ensures, ← c.first_of.ensures, ← c.single-own.ensures, ← c.key_of.ensures)

pub returns-in-19 : goal.returns-in-19
returns-in-19 c = function_names _ _ _ c.key_of.ensures c.single-own.ensures c.first_of.ensures c.get_or-a.ensures c.second_of.ensures c.get_or-b.ensures c.in-19.is

pub returns-in-20 : goal.returns-in-20
unfolding type_names
returns-in-20 c = simp (c.in-20.is, ← c.single-r.ensures, ← c.name_of.ensures, ← c.single-own.ensures, ← c.key_of.ensures)

pub returns-in-21 : goal.returns-in-21
unfolding type_names
returns-in-21 c = simp (c.in-21.is, ← c.single-r.ensures, ← c.name_of.ensures, ← c.single-own.ensures, ← c.key_of.ensures)

pub returns-in_default : goal.returns-in_default
unfolding type_names
returns-in_default c = simp (ne_eqb _ _ c.in_default.in_default-own.rest.1, ne_eqb _ _ c.in_default.in_default-own.rest.0.1, ne_eqb _ _ c.in_default.in_default-own.rest.0.0.1, ne_eqb _ _ c.in_default.in_default-own.rest.0.0.0.1, ne_eqb _ _ c.in_default.in_default-own.rest.0.0.0.0.1, ← c.single-own.ensures, ← c.key_of.ensures)
