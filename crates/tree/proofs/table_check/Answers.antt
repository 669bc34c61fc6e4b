use Rattle.std.proofs.lemmas.Result.{err_from_is_err_and}
use Rattle.uses.specs.Passes.{counts_by}
use Rattle.tree.proofs.Loops.{found_8, found_9, past_9}
use Rattle.tree.proofs.table_check.Goals as goal

pub returns-in_err-misused : goal.returns-in_err-misused
unfolding counts_by
returns-in_err-misused c = let p = err_from_is_err_and c.from_residual.result c.from_residual.ensures.1 in rw (p.1, p.2) (found_8 _ _ _ _ _ _ _ _ _ c.count.ensures c.in_err-misused.ensures)

pub returns-in_err-rebound : goal.returns-in_err-rebound
unfolding counts_by
returns-in_err-rebound c = let p = err_from_is_err_and c.from_residual-in_err-rebound.result c.from_residual-in_err-rebound.ensures.1 in rw (p.1, p.2) (found_9 _ _ _ _ _ _ _ _ _ c.count.ensures c.in_ok-misused.ensures c.in_err-rebound.ensures)

pub returns : goal.returns
unfolding counts_by
returns c = past_9 _ _ _ _ _ _ _ _ _ c.count.ensures c.in_ok-misused.ensures c.in_ok-rebound.ensures c.scope_check.ensures
