use Rattle.store.proofs.Writes.{stored}
use Rattle.thread.proofs.Owns.{control_back, control_owned}
use borrow.Author.Rules.{rules}
use Rattle.thread.proofs.owned.put_control.Goals as goal

pub returns : goal.returns
returns c =
    control_owned (search rules) (stored c.set_at.ensures) (stored c.set_at-2.ensures) _
    (simp (c.flag_of.ensures, c.word_of.ensures) (control_back c.args.c _ c.well_formed.1.0))
