use Rattle.acts.specs.Inner.{put_bindings}
use Rattle.std.proofs.Common.{ap}
use Rattle.thread.specs.Meaning.{found_in}
use Rattle.thread.proofs.InPlace.{var_hands, var_stuck}
use Rattle.thread.proofs.enter.variable.Goals as goal

pub returns-in-Some : goal.returns-in-Some
returns-in-Some c = λ w. var_hands c.args.used (put_bindings w c.args.bindings.now) c.args.t.now c.own-o.ensures _ c.args.x _ c.lookup.ensures c.in-Some.is c.put_control.ensures

pub returns-in-None : goal.returns-in-None
returns-in-None c = λ w. var_stuck c.args.used (put_bindings w c.args.bindings.now) c.args.t.now c.own-o.ensures c.args.x c.lookup.result c.lookup.ensures (ap found_in c.in-None.is)
