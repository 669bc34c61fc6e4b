use Rattle.std.proofs.lemmas.Result.{err_from_is_err_and}
use mathlib.Core.Path.{refl, sym}
use native.Mathlib.Omega.{arith}
use Rattle.encode.proofs.Entered.{name_foreign, name_entered}
use Rattle.syntax.proofs.RowsRead.{bytes_length}
use Rattle.encode.proofs.Laying.{at_most, room_after}
use Rattle.encode.proofs.declared.name_bytes.Goals as goal

pub returns-in_err-foreign : goal.returns-in_err-foreign
returns-in_err-foreign c =
    let p = err_from_is_err_and c.from_residual.result c.from_residual.ensures.1 in
    rw (p.1, p.2) (name_foreign _ c.in_err-foreign.ensures.2 c.in_err-foreign.ensures.0 c.in_err-foreign.ensures.1 refl)

pub push8-requires : goal.push8-requires
push8-requires c = room_after 1 1 (bytes_length _ _) c.push8-p.ensures (at_most _ 2 12 c.requires)

pub returns : goal.returns
returns c = name_entered _ (sym c.in_ok-foreign.ensures) (omega (arith, c.ranges.d)) (omega arith) c.push8-p.ensures c.push8.ensures
