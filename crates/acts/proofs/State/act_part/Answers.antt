use mathlib.Core.Path.{◌∙◌}
use Rattle.store.proofs.Laws.{min_capped}
use Rattle.store.specs.Meaning.{value_in}
use Rattle.acts.specs.Inner.{put_keys, put_pairs}
use Rattle.semantics.specs.Step.{act_part}
use Rattle.acts.proofs.Sorts.{of_kind, not_pair}
use Rattle.acts.proofs.Acts.{gave, part_denied, part_lost, part_one, part_two, is_stuck, is_denied}
use borrow.Enum.Refused.{opened}
use Rattle.acts.proofs.State.act_part.Goals as goal

pub returns-in_default : goal.returns-in_default
unfolding act_part
returns-in_default c = λ w. simp (c.stop.ensures, not_pair c.args.x.kind (opened c.in_default.in_default-own.keys2))

pub returns-then-min-x : goal.returns-then-min-x
returns-then-min-x c = λ w. is_stuck _ _ _ c.stop-then-min-x.ensures (part_lost c.args.back (put_keys (put_pairs w c.args.pairs.now) c.args.keys.now) (value_in c.args.x) c.args.first (of_kind _ c.in-Pair.is) (c.min.ensures ∙ min_capped _ _) c.if-min-x.true)

pub returns-then-not-touch : goal.returns-then-not-touch
returns-then-not-touch c = λ w. is_denied _ _ _ c.stop-then-not-touch.ensures (part_denied c.args.back (put_keys (put_pairs w c.args.pairs.now) c.args.keys.now) (value_in c.args.x) (of_kind _ c.in-Pair.is) c.touch.ensures c.args.first c.if-not-touch.true (c.min.ensures ∙ min_capped _ _) c.if-min-x.false)

pub returns-then-first : goal.returns-then-first
returns-then-first c = λ w. gave _ _ _ _ _ c.give.ensures (part_one c.args.back (put_keys (put_pairs w c.args.pairs.now) c.args.keys.now) (value_in c.args.x) (of_kind _ c.in-Pair.is) c.touch.ensures c.if-first.true c.if-not-touch.false (c.min.ensures ∙ min_capped _ _) c.if-min-x.false c.pair_at-t.ensures)

pub returns-else-first : goal.returns-else-first
returns-else-first c = λ w. gave _ _ _ _ _ c.give-else-first.ensures (part_two c.args.back (put_keys (put_pairs w c.args.pairs.now) c.args.keys.now) (value_in c.args.x) (of_kind _ c.in-Pair.is) c.touch.ensures c.if-first.false c.if-not-touch.false (c.min.ensures ∙ min_capped _ _) c.if-min-x.false c.pair_at-t.ensures)
