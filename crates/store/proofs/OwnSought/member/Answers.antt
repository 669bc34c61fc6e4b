use Rattle.std.proofs.Common.{arith}
use Rattle.std.proofs.lemmas.Bool.Decides.{nat_tests}
use Rattle.order.specs.Sets.{some_of}
use Rattle.store.proofs.OwnSought.member.Goals as goal
use Rattle.store.proofs.OwnSought.member.Goals.{then-k-self-2, else-k-self-2}

pub returns-then-k-self-3 : goal.returns-then-k-self-3
unfolding some_of
returns-then-k-self-3 c = elim c.if-k-self-2.branch [ then-k-self-2 w ↦ grind (arith, nat_tests) | else-k-self-2 w ↦ grind (arith, nat_tests) ]

pub returns-else-k-self-3 : goal.returns-else-k-self-3
unfolding some_of
returns-else-k-self-3 c = grind (arith, nat_tests)
