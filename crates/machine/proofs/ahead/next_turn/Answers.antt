use borrow.Author.Tests.{lt-ltb, le-ltb}
use native.Mathlib.Nat.{sub-zero}
use Rattle.semantics.specs.Threads.{in_round}
use Rattle.machine.specs.Ahead.{next_in}
use Rattle.machine.proofs.ahead.next_turn.Goals as goal

pub returns-then-i-round : goal.returns-then-i-round
unfolding in_round next_in
returns-then-i-round c = simp (c.first-i.ensures, lt-ltb _ _ c.if-i-round.true)

pub returns-then-j-count : goal.returns-then-j-count
unfolding in_round next_in
returns-then-j-count c =
    let z = simp sub-zero at c.first-j.ensures in
    simp (c.first-i.ensures, le-ltb _ _ c.if-i-round.false, z, lt-ltb _ _ c.if-j-count.true)

pub returns : goal.returns
unfolding in_round next_in
returns c =
    let z = simp sub-zero at c.first-j.ensures in
    simp (c.first-i.ensures, le-ltb _ _ c.if-i-round.false, z, le-ltb _ _ c.if-j-count.false)
