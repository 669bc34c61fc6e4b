use Rattle.std.proofs.Common.{refl, arith}
use Rattle.std.proofs.lemmas.Result.{err_from_is_err_and}
use Rattle.load.proofs.Tables.{refused_to, loaded_to, cleared_to}
use Rattle.load.proofs.load.Goals as goal

pub returns-in_err-g : goal.returns-in_err-g
returns-in_err-g c = let p = err_from_is_err_and c.from_residual.result c.from_residual.ensures.1 in rw (p.1, p.2) (refused_to c.read.ensures _ c.in_err-g.was)

pub returns-in-Err : goal.returns-in-Err
returns-in-Err c = cleared_to c.read.ensures (λ i. omega (arith, c.type_inv.job i)) c.in_ok-g.was _ c.in-Err.ensures.job refl (record { names = c.read.auto.names; types = c.read.auto.types; sets = c.read.auto.sets; values = c.read.auto.values; heads = c.read.auto.heads; slots = c.read.auto.slots }) c.clear_all.ensures

pub returns : goal.returns
returns c = loaded_to c.read.ensures (λ i. omega (arith, c.type_inv.job i)) c.in_ok-g.was _ c.in_default.ensures.job refl
