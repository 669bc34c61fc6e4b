use Rattle.std.proofs.Common.{refl, arith}
use Rattle.names.specs.Ancestors.{ancestors_by, names_in, first_two, pass_over}
use Rattle.names.proofs.Pass.{pass_entered, pass_end}
use Rattle.names.proofs.ancestors.Goals as goal

pub loop-k-init : goal.loop-k-init
unfolding ancestors_by first_two pass_over names_in
loop-k-init c = refl

pub loop-k-preserved : goal.loop-k-preserved
loop-k-preserved c = pass_entered _ _ (omega arith) c.loop-k.invariant c.get_or.ensures c.enter.ensures

pub returns : goal.returns
returns c = pass_end _ _ _ (omega arith) (λ h. omega arith) c.loop-k.invariant
