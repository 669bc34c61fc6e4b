use mathlib.Core.Path.{sym, ap}
use Rattle.acts.specs.View.{view}
use Rattle.acts.specs.Inner.{go, put_frames}
use Rattle.store.specs.Meaning.{keys_in}
use Rattle.thread.specs.declared.Thread.{Thread}
use Rattle.thread.specs.Own.{own_in}
use Rattle.thread.specs.Inner.{own_state}
use Rattle.thread.proofs.InPlace.{enters, owned_both}
use Rattle.thread.proofs.enter.closed.Goals as goal

pub returns : goal.returns
unfolding keys_in
returns c = λ w. enters c.args.used w c.args.body _ _ (owned_both _ _ _ c.put_control.ensures c.put_place.ensures) (view (own_state c.args.used c.args.t.now) (put_frames w c.args.t.now)) (go c.args.body.0 (own_in c.args.t.now).now.env 0 (view (own_state c.args.used c.args.t.now) (put_frames w c.args.t.now))) (ap (λ (y : Thread). go c.args.body.0 y.now.env 0 (view (own_state c.args.used c.args.t.now) (put_frames w c.args.t.now))) (sym c.own-o.ensures))
