use Rattle.acts.specs.Inner.{put_keys}
use Rattle.store.specs.Meaning.{value_in}
use Rattle.acts.proofs.Acts.{is_denied, goes, access_denied, access_yes, access_no}
use Rattle.acts.proofs.Sorts.{of_kind}
use Rattle.semantics.specs.Step.{act_access}
use Rattle.acts.proofs.Sorts.{not_limit}
use borrow.Enum.Refused.{opened}
use Rattle.acts.proofs.State.act_access.Goals as goal

pub returns-in_default : goal.returns-in_default
unfolding act_access
returns-in_default c = λ w. simp (c.stop.ensures, not_limit c.args.key.kind (opened c.in_default.in_default-own.keys2))

pub returns-then-not-touch : goal.returns-then-not-touch
returns-then-not-touch c = λ w. is_denied _ _ _ c.stop-then-not-touch.ensures (access_denied c.args.back (put_keys w c.args.keys.now) c.args.first.0 c.args.second.0 (value_in c.args.key) (of_kind _ c.in-Limit.is) c.touch.ensures c.if-not-touch.true)

pub returns-then-enabled : goal.returns-then-enabled
returns-then-enabled c = λ w. goes _ _ _ _ _ _ _ c.go.ensures (access_yes c.args.back (put_keys w c.args.keys.now) c.args.first.0 c.args.second.0 (value_in c.args.key) (of_kind _ c.in-Limit.is) c.touch.ensures c.if-not-touch.false c.key_in.ensures c.enabled.ensures c.if-enabled.true)

pub returns-else-enabled : goal.returns-else-enabled
returns-else-enabled c = λ w. goes _ _ _ _ _ _ _ c.go-else-enabled.ensures (access_no c.args.back (put_keys w c.args.keys.now) c.args.first.0 c.args.second.0 (value_in c.args.key) (of_kind _ c.in-Limit.is) c.touch.ensures c.if-not-touch.false c.key_in.ensures c.enabled.ensures c.if-enabled.false)
