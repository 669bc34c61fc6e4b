use Rattle.syntax.specs.Loading as loads
use Rattle.syntax.specs.Loading.{zeros}
use Rattle.typing.specs.Tables.{cleared}
use Rattle.judge.specs.Answer.{tables}
use Rattle.checker.proofs.clear_all.Goals as goal

pub returns : goal.returns
unfolding cleared loads.cleared zeros
returns c = λ i. tables (c.clear_all.ensures.names i) (c.clear_all.ensures.types i) (c.clear_all.ensures.sets i) (c.clear_all.ensures.values i) (c.clear_all.ensures.heads i) (c.clear_all.ensures.slots i) (c.fill.ensures.after (λ y e. e) i) (c.fill-2.ensures.after (λ y e. e) i)
