use Rattle.syntax.specs.Words.{code_in, decode}
use Rattle.infer.proofs.Fields.{lead_low, lead_local}
use Rattle.elaborate.specs.Binders.{binder_of}
use Rattle.elaborate.proofs.Laws.{no_binder}
use Rattle.elaborate.proofs.binder_at.Goals as goal

pub returns-in-53 : goal.returns-in-53
unfolding binder_of code_in decode
returns-in-53 c = simp (← c.get_or-w.ensures, ← c.byte_of.ensures, c.in-53.is, c.key_of.ensures, ← lead_low, c.get_or.ensures)

pub returns-in-62 : goal.returns-in-62
unfolding binder_of code_in decode
returns-in-62 c = simp (← c.get_or-w.ensures, ← c.byte_of.ensures, c.in-62.is, c.key_of-in-62.ensures, ← lead_low, c.name_of.ensures, ← lead_local)

pub returns-in_default : goal.returns-in_default
unfolding code_in
returns-in_default c = simp (← c.get_or-w.ensures, ← c.byte_of.ensures) (no_binder _ _ _ _ _ _ _ (c.in_default.in_default-own.rest.0.1) (c.in_default.in_default-own.rest.1))
