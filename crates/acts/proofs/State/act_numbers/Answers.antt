use mathlib.Core.Path.{◌∙◌, ap, sym}
use Rattle.acts.specs.View.{view}
use Rattle.acts.specs.Inner.{settled, put_keys, put_pairs}
use Rattle.store.specs.Meaning.{value_in}
use Rattle.acts.proofs.Acts.{is_stuck, is_denied, gave_new, either, by_first, by_second, sum_first, sum_second, summed, divide_first, divide_second, divided}
use Rattle.acts.proofs.Sorts.{of_kind, not_number}
use Rattle.semantics.specs.Step.{act_sum, act_divide, as_num, found, settle}
use borrow.Enum.Refused.{opened}
use Rattle.acts.proofs.State.act_numbers.Goals as goal

pub returns-in_default : goal.returns-in_default
unfolding act_divide act_sum settle
returns-in_default c = λ w. is_stuck _ _ _ c.stop.ensures (either c.args.divides _ _ (simp (not_number c.args.x.kind (opened c.in_default.in_default-own.keys2))) (simp (not_number c.args.x.kind (opened c.in_default.in_default-own.keys2))))

pub returns-in_default-kind : goal.returns-in_default-kind
unfolding act_divide act_sum as_num found settle
returns-in_default-kind c = λ w. is_stuck _ _ _ c.stop-in_default-kind.ensures (either c.args.divides _ _ (simp (c.in-Number.is, not_number c.args.y.kind (opened c.in_default-kind.in_default-kind-own.keys2))) (simp (c.in-Number.is, not_number c.args.y.kind (opened c.in_default-kind.in_default-kind-own.keys2))))

pub returns-then-not-touch : goal.returns-then-not-touch
returns-then-not-touch c = λ w. is_denied _ _ _ c.stop-then-not-touch.ensures (either c.args.divides _ _ (divide_first c.args.back (put_keys (put_pairs w c.args.pairs.now) c.args.keys.now) (value_in c.args.x) (value_in c.args.y) (of_kind _ c.in-Number.is) (of_kind _ c.in-Number-kind.is) c.touch.ensures c.if-not-touch.true) (sum_first c.args.back (put_keys (put_pairs w c.args.pairs.now) c.args.keys.now) c.args.sum (value_in c.args.x) (value_in c.args.y) (of_kind _ c.in-Number.is) (of_kind _ c.in-Number-kind.is) c.touch.ensures c.if-not-touch.true))

pub returns-then-not-touch-2 : goal.returns-then-not-touch-2
returns-then-not-touch-2 c = λ w. is_denied _ _ _ c.stop-then-not-touch-2.ensures (either c.args.divides _ _ (divide_second c.args.back (put_keys (put_pairs w c.args.pairs.now) c.args.keys.now) (value_in c.args.x) (value_in c.args.y) (of_kind _ c.in-Number.is) (of_kind _ c.in-Number-kind.is) c.touch.ensures c.if-not-touch.false c.touch-2.ensures c.if-not-touch-2.true) (sum_second c.args.back (put_keys (put_pairs w c.args.pairs.now) c.args.keys.now) c.args.sum (value_in c.args.x) (value_in c.args.y) (of_kind _ c.in-Number.is) (of_kind _ c.in-Number-kind.is) c.touch.ensures c.if-not-touch.false c.touch-2.ensures c.if-not-touch-2.true))

pub returns-then-divides : goal.returns-then-divides
returns-then-divides c = λ w. c.pair_parts.ensures (put_keys w c.args.keys.now)
    ∙ ap (λ o. settled (view c.args.self (put_keys (put_pairs w c.args.pairs.now) c.args.keys.now)) o) (sym (by_first c.args.divides _ _ c.if-divides.true ∙ divided c.args.back (put_keys (put_pairs w c.args.pairs.now) c.args.keys.now) (value_in c.args.x) (value_in c.args.y) (of_kind _ c.in-Number.is) (of_kind _ c.in-Number-kind.is) c.touch.ensures c.if-not-touch.false c.touch-2.ensures c.if-not-touch-2.false))

pub returns : goal.returns
returns c = λ w. gave_new _ _ _ _ _ _ c.unkeyed.ensures c.give.ensures (by_second c.args.divides _ _ c.if-divides.false ∙ summed c.args.back (put_keys (put_pairs w c.args.pairs.now) c.args.keys.now) c.args.sum (value_in c.args.x) (value_in c.args.y) (of_kind _ c.in-Number.is) (of_kind _ c.in-Number-kind.is) c.touch.ensures c.if-not-touch.false c.touch-2.ensures c.if-not-touch-2.false c.sum_of.ensures)
