use Rattle.acts.specs.Inner.{put_keys}
use Rattle.store.specs.Meaning.{value_in}
use Rattle.acts.proofs.Acts.{is_denied, goes, test_denied, test_goes}
use Rattle.acts.proofs.Sorts.{of_kind}
use Rattle.acts.proofs.Acts.{branch_no, branch_yes}
use Rattle.semantics.specs.Step.{act_test}
use Rattle.acts.proofs.Sorts.{not_number}
use borrow.Enum.Refused.{opened}
use Rattle.acts.proofs.State.act_test.Goals as goal

pub returns-in_default : goal.returns-in_default
unfolding act_test
returns-in_default c = λ w. simp (c.stop.ensures, not_number c.args.x.kind (opened c.in_default.in_default-own.keys2))

pub returns-then-not-touch : goal.returns-then-not-touch
returns-then-not-touch c = λ w. is_denied _ _ _ c.stop-then-not-touch.ensures (test_denied c.args.back (put_keys w c.args.keys.now) c.args.yes.0 c.args.no.0 (value_in c.args.x) (of_kind _ c.in-Number.is) c.touch.ensures c.if-not-touch.true)

pub returns-then-x-eq0 : goal.returns-then-x-eq0
returns-then-x-eq0 c = λ w. goes _ _ _ _ _ _ _ c.go.ensures (test_goes c.args.back (put_keys w c.args.keys.now) c.args.yes.0 c.args.no.0 (value_in c.args.x) (of_kind _ c.in-Number.is) c.touch.ensures c.if-not-touch.false (branch_no _ _ _ c.if-x-eq0.true))

pub returns-else-x-eq0 : goal.returns-else-x-eq0
returns-else-x-eq0 c = λ w. goes _ _ _ _ _ _ _ c.go-else-x-eq0.ensures (test_goes c.args.back (put_keys w c.args.keys.now) c.args.yes.0 c.args.no.0 (value_in c.args.x) (of_kind _ c.in-Number.is) c.touch.ensures c.if-not-touch.false (branch_yes _ _ _ c.if-x-eq0.false))
