use Rattle.output.specs.Lines.{most_bytes}
use mathlib.Core.Path.{◌∙◌}
use Rattle.print.proofs.Prints.{head_length, printed_head}
use Rattle.print.proofs.print.Goals as goal

pub slice_bounds-told-end : goal.slice_bounds-told-end
slice_bounds-told-end c = head_length _ most_bytes c.args.job.now c.min.ensures

pub returns : goal.returns
returns c = c.told.ensures ∙ printed_head _ _ c.min.ensures
