use Rattle.initial.proofs.Values.{no_value, next_value, last_value}
use Rattle.initial.proofs.enter_values.Goals as goal

pub loop-v-init : goal.loop-v-init
loop-v-init c = no_value

pub loop-v-preserved : goal.loop-v-preserved
loop-v-preserved c = next_value c.loop-v.v c.loop-v-test.true c.loop-v.invariant c.enter_value-ncells.ensures

pub returns : goal.returns
returns c = last_value c.loop-v-test.false c.loop-v.invariant
