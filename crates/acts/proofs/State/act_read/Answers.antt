use mathlib.Core.Path.{◌∙◌}
use Rattle.store.proofs.Laws.{min_capped}
use Rattle.store.specs.Meaning.{value_in}
use Rattle.acts.specs.Inner.{put_cells, put_keys}
use Rattle.semantics.specs.Step.{act_read}
use Rattle.acts.proofs.Sorts.{of_kind, not_cell}
use Rattle.acts.proofs.Acts.{gave, read_denied, read_lost, was_read, is_stuck, is_denied}
use borrow.Enum.Refused.{opened}
use Rattle.acts.proofs.State.act_read.Goals as goal

pub returns-in_default : goal.returns-in_default
unfolding act_read
returns-in_default c = λ w. simp (c.stop.ensures, not_cell c.args.x.kind (opened c.in_default.in_default-own.keys2))

pub returns-then-min-x : goal.returns-then-min-x
returns-then-min-x c = λ w. is_stuck _ _ _ c.stop-then-min-x.ensures (read_lost c.args.back (put_cells (put_keys w c.args.keys.now) c.args.cells.now) (value_in c.args.x) (of_kind _ c.in-Cell.is) (c.min.ensures ∙ min_capped _ _) c.if-min-x.true)

pub returns-then-not-touch : goal.returns-then-not-touch
returns-then-not-touch c = λ w. is_denied _ _ _ c.stop-then-not-touch.ensures (read_denied c.args.back (put_cells (put_keys w c.args.keys.now) c.args.cells.now) (value_in c.args.x) (of_kind _ c.in-Cell.is) c.touch.ensures c.if-not-touch.true (c.min.ensures ∙ min_capped _ _) c.if-min-x.false)

pub returns : goal.returns
returns c = λ w. gave _ _ _ _ _ c.give.ensures (was_read c.args.back (put_cells (put_keys w c.args.keys.now) c.args.cells.now) (value_in c.args.x) (of_kind _ c.in-Cell.is) c.touch.ensures c.if-not-touch.false (c.min.ensures ∙ min_capped _ _) c.if-min-x.false c.cell_at.ensures)
