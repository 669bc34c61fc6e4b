use native.Mathlib.Omega.{arith}
use mathlib.Core.Path.{◌∙◌}
use Rattle.store.proofs.Laws.{min_capped}
use Rattle.store.proofs.Walks.{narrowed}
use Rattle.store.proofs.narrow.Goals as goal

pub returns : goal.returns
returns c = narrowed _ c.args.n _ _ _ _ _ (c.min-m.ensures ∙ min_capped _ _) (omega (arith, c.min-m.ensures)) c.gather.ensures c.gather-2.ensures
