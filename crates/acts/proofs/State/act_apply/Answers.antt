use mathlib.Core.Path.{◌∙◌}
use Rattle.store.proofs.Laws.{min_capped}
use Rattle.store.specs.Meaning.{value_in}
use Rattle.acts.specs.Inner.{put_keys, put_functions, put_bindings}
use Rattle.semantics.specs.Step.{act_app}
use Rattle.acts.proofs.Sorts.{of_kind, not_function}
use Rattle.acts.proofs.Acts.{goes, app_denied, app_lost, app_full, app_made, is_stuck, is_denied, is_full}
use borrow.Enum.Refused.{opened}
use Rattle.acts.proofs.State.act_apply.Goals as goal

pub returns-in_default : goal.returns-in_default
unfolding act_app
returns-in_default c = λ w. simp (c.stop.ensures, not_function c.args.x.kind (opened c.in_default.in_default-own.keys2))

pub returns-then-min-x : goal.returns-then-min-x
returns-then-min-x c = λ w. is_stuck _ _ _ c.stop-then-min-x.ensures (app_lost c.args.back (put_bindings (put_functions (put_keys w c.args.keys.now) c.args.functions.now) c.args.bindings.now) (value_in c.args.x) (value_in c.args.y) (of_kind _ c.in-Function.is) (c.min.ensures ∙ min_capped _ _) c.if-min-x.true)

pub returns-then-not-touch : goal.returns-then-not-touch
returns-then-not-touch c = λ w. is_denied _ _ _ c.stop-then-not-touch.ensures (app_denied c.args.back (put_bindings (put_functions (put_keys w c.args.keys.now) c.args.functions.now) c.args.bindings.now) (value_in c.args.x) (value_in c.args.y) (of_kind _ c.in-Function.is) c.touch.ensures c.if-not-touch.true (c.min.ensures ∙ min_capped _ _) c.if-min-x.false)

pub returns-then-n-lt-MOST_BINDINGS : goal.returns-then-n-lt-MOST_BINDINGS
returns-then-n-lt-MOST_BINDINGS c = λ w. goes _ _ _ _ _ _ _ c.go.ensures (app_made c.args.back (put_bindings (put_functions (put_keys w c.args.keys.now) c.args.functions.now) c.args.bindings.now) (value_in c.args.x) (value_in c.args.y) (of_kind _ c.in-Function.is) c.touch.ensures _ c.if-not-touch.false (c.min.ensures ∙ min_capped _ _) c.if-min-x.false c.if-n-lt-MOST_BINDINGS.true c.closure_at-f.ensures c.put_variable.ensures)

pub returns-else-n-lt-MOST_BINDINGS : goal.returns-else-n-lt-MOST_BINDINGS
returns-else-n-lt-MOST_BINDINGS c = λ w. is_full _ _ _ c.stop-else-n-lt-MOST_BINDINGS.ensures (app_full c.args.back (put_bindings (put_functions (put_keys w c.args.keys.now) c.args.functions.now) c.args.bindings.now) (value_in c.args.x) (value_in c.args.y) (of_kind _ c.in-Function.is) c.touch.ensures c.if-not-touch.false (c.min.ensures ∙ min_capped _ _) c.if-min-x.false c.if-n-lt-MOST_BINDINGS.false)
