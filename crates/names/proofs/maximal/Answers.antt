use Rattle.std.proofs.Common.{arith, rules, ne_eqb}
use Rattle.std.proofs.lemmas.Bool.Decides.{nat_tests}
use Rattle.names.specs.Ancestors.{maximal_by, top_by}
use Rattle.names.proofs.Bits.{one_of_lem}
use Rattle.names.proofs.maximal.Goals as goal

pub returns-then-n-ne0 : goal.returns-then-n-ne0
unfolding maximal_by top_by
returns-then-n-ne0 c = simp (ne_eqb _ _ c.if-n-ne0.true, ← c.entry.ensures, c.single.ensures, one_of_lem c.args.n (search rules))

pub returns-else-n-ne0 : goal.returns-else-n-ne0
unfolding maximal_by
returns-else-n-ne0 c = grind (arith, nat_tests)
