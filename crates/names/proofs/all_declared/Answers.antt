use Rattle.std.proofs.Common.{◌∙◌, rules}
use Rattle.std.proofs.lemmas.Bool.{le-leb}
use Rattle.names.proofs.Bits.{declared_shift, declared_all}
use Rattle.names.proofs.all_declared.Goals as goal

pub returns-then-n-ge-MOST_DECLARED : goal.returns-then-n-ge-MOST_DECLARED
returns-then-n-ge-MOST_DECLARED c = le-leb _ _ c.if-n-ge-MOST_DECLARED.true ∙ declared_all _ _ c.if-n-ge-MOST_DECLARED.true (search rules)

pub returns-else-n-ge-MOST_DECLARED : goal.returns-else-n-ge-MOST_DECLARED
returns-else-n-ge-MOST_DECLARED c = declared_shift _ _
