use mathlib.Core.Path.{sym, ap, ◌∙◌}
use Rattle.semantics.specs.Machine.{Value as SValue, unkeyed}
use Rattle.store.specs.Meaning.{kind_in, value_in}
use Rattle.acts.specs.View.{view}
use Rattle.acts.specs.Inner.{give, put_frames}
use Rattle.thread.specs.Inner.{own_state}
use Rattle.thread.proofs.InPlace.{hands}
use Rattle.thread.proofs.enter.constant.Goals as goal

pub returns : goal.returns
returns c = λ w. hands c.args.used w _ c.put_control.ensures (view (own_state c.args.used c.args.t.now) (put_frames w c.args.t.now)) (give (unkeyed (kind_in c.args.k c.args.n)) (view (own_state c.args.used c.args.t.now) (put_frames w c.args.t.now))) (ap (λ (v : SValue). give v (view (own_state c.args.used c.args.t.now) (put_frames w c.args.t.now))) (sym (c.pack.ensures ∙ ap value_in c.unkeyed.ensures)))
