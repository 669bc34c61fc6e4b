use borrow.Author.Rules.{rules}
use Rattle.initial.proofs.Names.{first_two, next_name, all_named}
use Rattle.initial.proofs.enter_names.Goals as goal

pub loop-k-init : goal.loop-k-init
loop-k-init c = first_two _ _ _ _ _ _ _ (c.put_up.ensures.wrote (search rules)) (c.put_up-2.ensures.wrote (search rules)) c.put_key.ensures c.put_key-2.ensures _

pub loop-k-preserved : goal.loop-k-preserved
loop-k-preserved c = next_name c.loop-k.k c.loop-k.invariant c.enter_name-nkeys.ensures

pub returns : goal.returns
returns c = all_named _ c.loop-k.k _ c.loop-k-test.false c.loop-k.auto.k-end c.loop-k.invariant
