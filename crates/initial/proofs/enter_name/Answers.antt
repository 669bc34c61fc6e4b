use mathlib.Core.List.{[]}
use Rattle.initial.proofs.Names.{host_entered, local_entered}
use borrow.Author.Rules.{rules}
use Rattle.initial.proofs.enter_name.Goals as goal

pub returns-then-w-eq1 : goal.returns-then-w-eq1
returns-then-w-eq1 c = host_entered _ _ _ _ _ _ _ _ _ _ c.get_or-w.ensures _ (search rules) (search rules) c.if-w-eq1.true c.key_of-upper.ensures (c.put_up.ensures.wrote (search rules)) c.put_key.ensures (c.put_name.ensures.wrote (search rules))

pub returns : goal.returns
returns c = local_entered _ _ _ _ [] _ [] _ _ _ c.get_or-w.ensures (search rules) (search rules) c.if-w-eq1.false c.put_key-2.ensures
