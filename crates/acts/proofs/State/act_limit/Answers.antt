use Rattle.acts.specs.Inner.{put_keys}
use Rattle.acts.proofs.Limit.{lim_stuck, lim_denied, lim_goes}
use Rattle.acts.proofs.Acts.{goes, is_stuck, is_denied}
use Rattle.semantics.specs.Step.{keys_of}
use Rattle.acts.proofs.State.act_limit.Goals as goal

pub returns-in_default : goal.returns-in_default
returns-in_default c = λ w. is_stuck _ _ _ c.stop.ensures (lim_stuck c.args.back (put_keys w c.args.keys.now) c.args.body.0 _ c.limit_keys.result c.limit_keys.ensures c.in_default.is)

pub returns-then-not-touch_all : goal.returns-then-not-touch_all
unfolding keys_of
returns-then-not-touch_all c = λ w. is_denied _ _ _ c.stop-then-not-touch_all.ensures (lim_denied c.args.back (put_keys w c.args.keys.now) c.args.body.0 _ c.limit_keys.result c.limit_keys.ensures c.in-Some.is c.touch_all.ensures c.if-not-touch_all.true)

pub returns : goal.returns
unfolding keys_of
returns c = λ w. goes _ _ _ _ _ _ _ c.go.ensures (lim_goes c.args.back (put_keys w c.args.keys.now) c.args.body.0 _ c.limit_keys.result c.limit_keys.ensures _ c.in-Some.is c.touch_all.ensures c.if-not-touch_all.false c.narrow-left.ensures)
