use mathlib.Core.Bool.{true, false}
use native.Mathlib.Omega.{arith}
use Rattle.tree.proofs.Loops.{scopes_start, scope_whole}
use Rattle.tree.proofs.scope_check.Goals as goal

pub returns : goal.returns
returns c = scope_whole _ _ _ _ _ _ _ _ _ c.type_masks-masks.ensures c.host_vars.ensures (scopes_start false _ _ _ _ (omega arith) c.scopes.ensures.0) c.host_names.ensures (scopes_start true _ _ _ _ (omega arith) c.scopes.ensures.1) c.unscoped.ensures
