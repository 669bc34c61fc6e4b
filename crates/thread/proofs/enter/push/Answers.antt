use mathlib.Core.Path.{refl, subst}
use Prim.Native.Nat.{◌≤◌}
use Rattle.acts.specs.Inner.{put_frames}
use Rattle.acts.proofs.Acts.{is_full}
use Rattle.thread.specs.declared.Thread.{Thread}
use Rattle.thread.specs.Inner.{own_state}
use Rattle.thread.proofs.Enters.{push_full}
use Rattle.thread.proofs.InPlace.{pushes}
use Rattle.thread.proofs.enter.push.Goals as goal

pub returns-then-n-lt-MOST_FRAMES : goal.returns-then-n-lt-MOST_FRAMES
returns-then-n-lt-MOST_FRAMES c = λ w. pushes c.args.used w _ _ _ _ c.args.e c.args.first c.own-x.ensures c.if-n-lt-MOST_FRAMES.true c.put_fresh.ensures.put c.put_fresh.ensures.own c.put_control.ensures c.put_count.ensures

pub returns-else-n-lt-MOST_FRAMES : goal.returns-else-n-lt-MOST_FRAMES
returns-else-n-lt-MOST_FRAMES c = λ w. is_full _ _ _ refl (push_full (own_state c.args.used c.args.t.now) (put_frames w c.args.t.now) c.args.e.0 c.args.first.0 (subst (λ (y : Thread). 256 ≤ y.frames) c.own-x.ensures c.if-n-lt-MOST_FRAMES.false))
