use Rattle.session.proofs.Answers.{made_from}
use Rattle.session.proofs.answer.Goals as goal

pub returns : goal.returns
returns c = made_from (c.built.ensures _) c.make_calls.ensures
