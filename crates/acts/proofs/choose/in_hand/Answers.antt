use borrow.Author.Tests.{lt-ltb, le-ltb}
use Rattle.acts.proofs.choose.in_hand.Goals as goal

pub returns-then-j-held : goal.returns-then-j-held
returns-then-j-held c = simp (lt-ltb _ _ c.if-j-held.true) c.held_at.ensures

pub returns-else-j-held : goal.returns-else-j-held
returns-else-j-held c = simp (le-ltb _ _ c.if-j-held.false)
