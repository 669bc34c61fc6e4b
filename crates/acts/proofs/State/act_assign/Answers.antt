use mathlib.Core.Path.{◌∙◌}
use Rattle.store.proofs.Laws.{min_capped}
use Rattle.store.specs.Meaning.{value_in}
use Rattle.acts.specs.Inner.{put_cells, put_keys}
use Rattle.semantics.specs.Step.{act_asg}
use Rattle.acts.proofs.Sorts.{of_kind, not_cell}
use Rattle.acts.proofs.Acts.{gave, assign_denied, assign_lost, assigned, is_stuck, is_denied}
use borrow.Enum.Refused.{opened}
use Rattle.acts.proofs.State.act_assign.Goals as goal

pub returns-in_default : goal.returns-in_default
unfolding act_asg
returns-in_default c = λ w. simp (c.stop.ensures, not_cell c.args.cell.kind (opened c.in_default.in_default-own.keys2))

pub returns-then-min-cell : goal.returns-then-min-cell
returns-then-min-cell c = λ w. is_stuck _ _ _ c.stop-then-min-cell.ensures (assign_lost c.args.back (put_cells (put_keys w c.args.keys.now) c.args.cells.now) (value_in c.args.cell) (value_in c.args.value) (of_kind _ c.in-Cell.is) (c.min.ensures ∙ min_capped _ _) c.if-min-cell.true)

pub returns-then-not-touch : goal.returns-then-not-touch
returns-then-not-touch c = λ w. is_denied _ _ _ c.stop-then-not-touch.ensures (assign_denied c.args.back (put_cells (put_keys w c.args.keys.now) c.args.cells.now) (value_in c.args.cell) (of_kind _ c.in-Cell.is) c.touch.ensures (value_in c.args.value) c.if-not-touch.true (c.min.ensures ∙ min_capped _ _) c.if-min-cell.false)

pub returns : goal.returns
returns c = λ w. gave _ _ _ _ _ c.give.ensures (assigned c.args.back (put_cells (put_keys w c.args.keys.now) c.args.cells.now) (value_in c.args.cell) (of_kind _ c.in-Cell.is) c.touch.ensures (value_in c.args.value) _ c.if-not-touch.false (c.min.ensures ∙ min_capped _ _) c.if-min-cell.false c.put_cell.ensures)
