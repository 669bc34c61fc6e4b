use Rattle.syntax.specs.Operands.{evaluated}
use Rattle.syntax.specs.Words.{code_in, decode}
use Rattle.acts.specs.View.{view}
use Rattle.store.specs.Meaning.{keys_in}
use mathlib.Core.Path.{ap, refl, sym, ◌∙◌}
use Rattle.semantics.specs.Step.{bare, act, enter_at, enter_cmd, settle, touch_all, room}
use Rattle.acts.proofs.Codes.{code_push, code_bare, code_number}
use Rattle.acts.specs.Inner.{put_frames, put_functions, put_bindings, settled}
use Rattle.thread.specs.Inner.{own_state}
use Rattle.thread.proofs.Enters.{spawn_entered, other_entered, spawn_in, other_in, operand_in}
use native.Mathlib.Omega.{arith}
use Rattle.thread.proofs.enter.enter.Goals as goal

pub returns-then-need-gt0 : goal.returns-then-need-gt0
returns-then-need-gt0 c = λ w. other_entered _ _ _ _ (operand_in c.args.heads.now c.args.slots.now c.args.e.0 _ c.get_or-head.ensures _ c.need.ensures.works c.if-need-gt0.true) (c.push.ensures (put_bindings (put_functions w c.args.functions.now) c.args.bindings.now) ∙ ap (settled (view (own_state c.args.used c.args.t.now) (put_bindings (put_functions (put_frames w c.args.t.now) c.args.functions.now) c.args.bindings.now))) (ap settle (sym (code_push c.args.heads.now c.args.slots.now c.args.e.0 _ c.get_or-head.ensures c.args.e.0 _ (view (own_state c.args.used c.args.t.now) (put_bindings (put_functions (put_frames w c.args.t.now) c.args.functions.now) c.args.bindings.now)) c.need.ensures.works c.if-need-gt0.true c.get_or.ensures))))

pub returns-in-49 : goal.returns-in-49
unfolding code_in decode evaluated enter_cmd enter_at act bare settle touch_all room
returns-in-49 c = λ w. other_entered _ _ (own_state c.args.used c.args.t.now) (put_bindings (put_functions (put_frames w c.args.t.now) c.args.functions.now) c.args.bindings.now) (other_in c.args.heads.now c.args.slots.now c.args.e.0 _ c.get_or-head.ensures (λ z. omega (arith, c.in-49.is, z))) (simp (← c.get_or-head.ensures, c.in-49.is) (c.constant.ensures (put_bindings (put_functions w c.args.functions.now) c.args.bindings.now)))

pub returns-in-50 : goal.returns-in-50
unfolding code_in decode evaluated enter_cmd enter_at act bare settle touch_all room
returns-in-50 c = λ w. other_entered _ _ (own_state c.args.used c.args.t.now) (put_bindings (put_functions (put_frames w c.args.t.now) c.args.functions.now) c.args.bindings.now) (other_in c.args.heads.now c.args.slots.now c.args.e.0 _ c.get_or-head.ensures (λ z. omega (arith, c.in-50.is, z))) (simp (← c.get_or-head.ensures, c.in-50.is) (c.variable.ensures (put_functions w c.args.functions.now)))

pub returns-in-53 : goal.returns-in-53
unfolding code_in decode evaluated enter_cmd enter_at act bare settle touch_all room
returns-in-53 c = λ w. other_entered _ _ (own_state c.args.used c.args.t.now) (put_bindings (put_functions (put_frames w c.args.t.now) c.args.functions.now) c.args.bindings.now) (other_in c.args.heads.now c.args.slots.now c.args.e.0 _ c.get_or-head.ensures (λ z. omega (arith, c.in-53.is, z))) (simp (← c.get_or-head.ensures, c.in-53.is, ← c.get_or-in-53.ensures) (c.function.ensures (put_bindings w c.args.bindings.now)))

pub returns-in-60 : goal.returns-in-60
unfolding view keys_in
returns-in-60 c = λ w. other_entered _ _ (own_state c.args.used c.args.t.now) (put_bindings (put_functions (put_frames w c.args.t.now) c.args.functions.now) c.args.bindings.now) (other_in c.args.heads.now c.args.slots.now c.args.e.0 _ c.get_or-head.ensures (λ z. omega (arith, c.in-60.is, z))) (c.closed.ensures (put_bindings (put_functions w c.args.functions.now) c.args.bindings.now) ∙ ap (settled (view (own_state c.args.used c.args.t.now) (put_bindings (put_functions (put_frames w c.args.t.now) c.args.functions.now) c.args.bindings.now))) (sym (code_bare c.args.heads.now c.args.slots.now c.args.e.0 _ c.get_or-head.ensures c.args.e.0 _ (view (own_state c.args.used c.args.t.now) (put_bindings (put_functions (put_frames w c.args.t.now) c.args.functions.now) c.args.bindings.now)) c.in-60.is c.need.ensures.works c.if-need-gt0.false c.get_or-in-60.ensures)))

pub returns-in-66 : goal.returns-in-66
returns-in-66 c = λ w. spawn_entered _ _ _ _ (spawn_in c.args.heads.now c.args.slots.now c.args.e.0 _ c.get_or-head.ensures c.in-66.is) refl

pub returns-in_default : goal.returns-in_default
unfolding evaluated enter_cmd enter_at act bare settle touch_all room
returns-in_default c = λ w. other_entered _ _ (own_state c.args.used c.args.t.now) (put_bindings (put_functions (put_frames w c.args.t.now) c.args.functions.now) c.args.bindings.now) (other_in c.args.heads.now c.args.slots.now c.args.e.0 _ c.get_or-head.ensures c.in_default.in_default-own.rest.1) (c.constant-in_default.ensures (put_bindings (put_functions w c.args.functions.now) c.args.bindings.now) ∙ ap (settled (view (own_state c.args.used c.args.t.now) (put_bindings (put_functions (put_frames w c.args.t.now) c.args.functions.now) c.args.bindings.now))) (sym (ap (λ k. settle (enter_cmd c.args.e.0 k (view (own_state c.args.used c.args.t.now) (put_bindings (put_functions (put_frames w c.args.t.now) c.args.functions.now) c.args.bindings.now)))) (code_number c.args.heads.now c.args.slots.now c.args.e.0 _ c.get_or-head.ensures _ c.need.ensures.works c.if-need-gt0.false c.in_default.in_default-own.rest.0.0.0.0.1 c.in_default.in_default-own.rest.0.0.0.1 c.in_default.in_default-own.rest.0.0.1 c.in_default.in_default-own.rest.0.1 c.in_default.in_default-own.rest.1))))
