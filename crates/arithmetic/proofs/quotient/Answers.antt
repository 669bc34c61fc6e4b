use Rattle.std.proofs.Common.{◌∙◌}
use Rattle.arithmetic.proofs.Parts.{quotient_or_zero}
use Rattle.arithmetic.proofs.quotient.Goals as goal

pub returns : goal.returns
returns c = c.unwrap_or.ensures ∙ quotient_or_zero _ _ _ c.checked_div.ensures
