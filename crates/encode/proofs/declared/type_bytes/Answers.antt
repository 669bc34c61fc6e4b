use Rattle.std.proofs.lemmas.Result.{err_from_is_err_and}
use mathlib.Core.Path.{refl, sym}
use native.Mathlib.Omega.{arith}
use Rattle.encode.proofs.Entered.{type_foreign, type_wide_lem, type_entered}
use Rattle.syntax.proofs.RowsRead.{bytes_length}
use Rattle.encode.proofs.Laying.{room_after}
use Rattle.encode.proofs.declared.type_bytes.Goals as goal

pub returns-in_err-foreign : goal.returns-in_err-foreign
returns-in_err-foreign c =
    let p = err_from_is_err_and c.from_residual.result c.from_residual.ensures.1 in
    rw (p.1, p.2) (type_foreign _ _ (omega (arith, c.ranges.s)) c.byte_of-op.ensures c.in_err-foreign.ensures.2 c.in_err-foreign.ensures.0 c.in_err-foreign.ensures.1 refl)

pub returns-then-type_wide : goal.returns-then-type_wide
returns-then-type_wide c = type_wide_lem _ _ (omega (arith, c.ranges.s)) c.byte_of-op.ensures (sym c.in_ok-foreign.ensures) (omega arith) c.type_wide.ensures c.if-type_wide.true

pub type_operands-requires : goal.type_operands-requires
type_operands-requires c = room_after 1 13 (bytes_length _ _) c.push8-p.ensures c.requires

pub returns : goal.returns
returns c = type_entered _ _ (omega (arith, c.ranges.s)) c.byte_of-op.ensures (sym c.in_ok-foreign.ensures) (omega arith) c.type_wide.ensures c.if-type_wide.false c.push8-p.ensures c.type_operands.ensures
