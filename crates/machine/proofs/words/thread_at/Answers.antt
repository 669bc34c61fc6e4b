use mathlib.Core.Path.{sym, ap, ◌∙◌}
use Rattle.thread.specs.Own.{own_in}
use Rattle.machine.proofs.Parts.{part_is}
use Rattle.machine.proofs.words.thread_at.Goals as goal

pub returns : goal.returns
returns c = c.own.ensures ∙ ap own_in (sym (part_is _ _))
