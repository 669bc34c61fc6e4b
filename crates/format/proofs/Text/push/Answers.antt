use Rattle.format.specs.Text.{text_of}
use Rattle.format.proofs.Fit.{stored, full}
use borrow.Author.Rules.{rules}
use Rattle.format.proofs.Text.push.Goals as goal

pub returns-then-self-lt-TEXT_BYTES : goal.returns-then-self-lt-TEXT_BYTES
unfolding text_of
returns-then-self-lt-TEXT_BYTES c = stored c.args.self.bytes c.args.self.len c.args.b (search rules) c.if-self-lt-TEXT_BYTES.true

pub returns-else-self-lt-TEXT_BYTES : goal.returns-else-self-lt-TEXT_BYTES
unfolding text_of
returns-else-self-lt-TEXT_BYTES c = full c.args.self.bytes c.args.self.len c.args.b (search rules) c.if-self-lt-TEXT_BYTES.false
