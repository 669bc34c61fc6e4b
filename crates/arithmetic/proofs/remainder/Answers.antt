use Rattle.std.proofs.Common.{◌∙◌}
use Rattle.arithmetic.proofs.Parts.{remainder_or_all}
use Rattle.arithmetic.proofs.remainder.Goals as goal

pub returns : goal.returns
returns c = c.unwrap_or.ensures ∙ remainder_or_all _ _ _ c.checked_rem.ensures
