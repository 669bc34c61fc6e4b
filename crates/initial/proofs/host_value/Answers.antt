use mathlib.Core.Path.{sym}
use Rattle.initial.specs.Entries.{key_in}
use Rattle.initial.proofs.Values.{value_cell, value_lim, value_grant, value_none, low_key}
use borrow.Author.Rules.{rules}
use Rattle.initial.proofs.host_value.Goals as goal

pub returns-in-18 : goal.returns-in-18
returns-in-18 c = simp (value_cell (key_in c.args.of.now c.args.n) _ c.args.c c.in-18.is, ← c.key_of-key.ensures)

pub returns-in-20 : goal.returns-in-20
returns-in-20 c = simp (value_lim (key_in c.args.of.now c.args.n) _ c.args.c c.in-20.is, ← c.key_of-key.ensures, ← c.key_of-other.ensures, low_key c.key_of-other.result.0 (search rules))

pub returns-in-21 : goal.returns-in-21
returns-in-21 c = simp (value_grant (key_in c.args.of.now c.args.n) _ c.args.c c.in-21.is, ← c.key_of-key.ensures, ← c.key_of-other.ensures, low_key c.key_of-other.result.0 (search rules))

pub returns-in_default : goal.returns-in_default
returns-in_default c = sym (value_none _ _ _ (search rules) (search rules) (search rules))
