use mathlib.Core.Path.{ap, sym, ◌∙◌}
use mathlib.Core.List.{◌++◌}
use lib.ListN.{length, drop}
use Rattle.table.proofs.Copied.{copied_all, copied_none}
use Rattle.table.proofs.copy.Goals as goal

pub returns-then-buffer-bytes : goal.returns-then-buffer-bytes
returns-then-buffer-bytes c = sym (copied_none _ _ c.if-buffer-bytes.true)

pub returns : goal.returns
returns c = ap (λ l. l ++ drop (length c.args.bytes.now) c.args.buffer.now) c.copy_from_slice.ensures.after ∙ sym (copied_all _ _ c.if-buffer-bytes.false)
