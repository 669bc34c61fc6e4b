use native.Mathlib.Omega.{arith}
use Rattle.start.proofs.Tables.{start_refused, start_made}
use Rattle.start.proofs.start.Goals as goal

pub returns-in-Ok : goal.returns-in-Ok
returns-in-Ok c = start_made _ (λ i. omega (arith, c.shared_slice_known-1.given i)) c.in-Ok.ensures c.built.ensures

pub returns-in-Err : goal.returns-in-Err
returns-in-Err c = start_refused _ c.in-Err.ensures c.empty.ensures
