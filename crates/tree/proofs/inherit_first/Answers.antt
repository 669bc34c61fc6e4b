use Rattle.std.proofs.Common.{true, false}
use Rattle.tree.proofs.Places.{pass_is}
use Rattle.tree.proofs.inherit_first.Goals as goal

pub returns-else-is_binder : goal.returns-else-is_binder
returns-else-is_binder c = (pass_is false _ _ _ _ _ c.is_binder.ensures c.if-is_binder.false c.pass_first.ensures.0, pass_is true _ _ _ _ _ c.is_binder.ensures c.if-is_binder.false c.pass_first.ensures.1)
