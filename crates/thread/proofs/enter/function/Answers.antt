use mathlib.Core.Path.{refl, ap, ◌∙◌}
use Rattle.store.specs.Meaning.{value_in}
use Rattle.acts.specs.Inner.{put_frames, put_functions}
use Rattle.acts.proofs.Acts.{is_full}
use Rattle.thread.specs.Inner.{own_state}
use Rattle.thread.proofs.Enters.{fn_full}
use Rattle.thread.proofs.InPlace.{fn_hands}
use Rattle.thread.proofs.enter.function.Goals as goal

pub returns-then-n-lt-MOST_FUNCTIONS : goal.returns-then-n-lt-MOST_FUNCTIONS
returns-then-n-lt-MOST_FUNCTIONS c = λ w. fn_hands c.args.used (put_functions w c.args.functions.now) c.args.t.now c.own-o.ensures _ _ c.args.x c.args.body.0 _ c.if-n-lt-MOST_FUNCTIONS.true c.put_closure.ensures (c.pack.ensures ∙ ap value_in c.unkeyed.ensures) c.put_control.ensures

pub returns-else-n-lt-MOST_FUNCTIONS : goal.returns-else-n-lt-MOST_FUNCTIONS
returns-else-n-lt-MOST_FUNCTIONS c = λ w. is_full _ _ _ refl (fn_full (own_state c.args.used c.args.t.now) (put_functions (put_frames w c.args.t.now) c.args.functions.now) c.args.x c.args.body.0 c.if-n-lt-MOST_FUNCTIONS.false)
