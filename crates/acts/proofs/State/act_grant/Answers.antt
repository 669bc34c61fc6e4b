use Rattle.acts.specs.Inner.{put_keys}
use Rattle.store.specs.Meaning.{value_in}
use Rattle.acts.proofs.Acts.{is_denied, goes, grant_denied, granted}
use Rattle.acts.proofs.Sorts.{of_kind}
use Rattle.semantics.specs.Step.{act_grant}
use Rattle.acts.proofs.Sorts.{not_grant}
use borrow.Enum.Refused.{opened}
use Rattle.acts.proofs.State.act_grant.Goals as goal

pub returns-in_default : goal.returns-in_default
unfolding act_grant
returns-in_default c = λ w. simp (c.stop.ensures, not_grant c.args.x.kind (opened c.in_default.in_default-own.keys2))

pub returns-then-not-touch : goal.returns-then-not-touch
returns-then-not-touch c = λ w. is_denied _ _ _ c.stop-then-not-touch.ensures (grant_denied c.args.back (put_keys w c.args.keys.now) c.args.body.0 (value_in c.args.x) (of_kind _ c.in-Grant.is) c.touch.ensures c.if-not-touch.true)

pub returns : goal.returns
returns c = λ w. goes _ _ _ _ _ _ _ c.go.ensures (granted c.args.back (put_keys w c.args.keys.now) c.args.body.0 (value_in c.args.x) (of_kind _ c.in-Grant.is) c.touch.ensures _ c.if-not-touch.false c.key_in.ensures c.add-more.ensures)
