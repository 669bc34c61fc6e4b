use Rattle.thread.specs.Own.{own_in}
use Rattle.thread.proofs.owned.own.Goals as goal

pub returns : goal.returns
unfolding own_in
returns c =
    simp (
      c.get_or-6.ensures,
      c.get_or-5.ensures,
      c.get_or-4.ensures,
      c.get_or-3.ensures,
      c.control_of.ensures,
      c.get_or-2.ensures,
      c.get_or.ensures,
    )
