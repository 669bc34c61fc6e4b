use Rattle.acts.specs.Inner.{put_keys}
use Rattle.store.specs.Meaning.{value_in}
use Rattle.acts.proofs.Acts.{is_denied, gave, assoc_first, assoc_second, associated}
use Rattle.acts.proofs.Sorts.{of_kind}
use Rattle.semantics.specs.Step.{act_assoc}
use Rattle.acts.proofs.Sorts.{not_limit}
use borrow.Enum.Refused.{opened}
use Rattle.acts.proofs.State.act_associate.Goals as goal

pub returns-in_default : goal.returns-in_default
unfolding act_assoc
returns-in_default c = λ w. simp (c.stop.ensures, not_limit c.args.limit.kind (opened c.in_default.in_default-own.keys2))

pub returns-then-not-touch : goal.returns-then-not-touch
returns-then-not-touch c = λ w. is_denied _ _ _ c.stop-then-not-touch.ensures (assoc_first c.args.back (put_keys w c.args.keys.now) (value_in c.args.value) (value_in c.args.limit) (of_kind _ c.in-Limit.is) c.touch.ensures c.if-not-touch.true)

pub returns-then-not-touch-2 : goal.returns-then-not-touch-2
returns-then-not-touch-2 c = λ w. is_denied _ _ _ c.stop-then-not-touch-2.ensures (assoc_second c.args.back (put_keys w c.args.keys.now) (value_in c.args.value) (value_in c.args.limit) (of_kind _ c.in-Limit.is) c.touch.ensures c.if-not-touch.false c.touch-2.ensures c.if-not-touch-2.true)

pub returns : goal.returns
returns c = λ w. gave _ _ _ _ _ c.give.ensures (associated c.args.back (put_keys w c.args.keys.now) (value_in c.args.value) (value_in c.args.limit) (of_kind _ c.in-Limit.is) c.touch.ensures c.if-not-touch.false c.touch-2.ensures c.if-not-touch-2.false c.key_in.ensures)
