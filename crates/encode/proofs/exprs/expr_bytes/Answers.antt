use Rattle.std.proofs.lemmas.Result.{err_from_is_err_and}
use mathlib.Core.Path.{refl, sym}
use native.Mathlib.Omega.{arith}
use Rattle.encode.proofs.Entered.{expr_foreign, expr_wide, expr_entered}
use Rattle.syntax.proofs.RowsRead.{bytes_length}
use Rattle.encode.proofs.Laying.{room_after}
use Rattle.encode.proofs.exprs.expr_bytes.Goals as goal

pub returns-in_err-foreign : goal.returns-in_err-foreign
returns-in_err-foreign c =
    let p = err_from_is_err_and c.from_residual.result c.from_residual.ensures.1 in
    rw (p.1, p.2) (expr_foreign _ _ _ _ _ _ (record { first = omega (arith, c.ranges.a); second = omega (arith, c.ranges.b); third = omega (arith, c.ranges.c); fourth = omega (arith, c.ranges.d); fifth = omega (arith, c.ranges.e) }) c.byte_of-op.ensures c.in_err-foreign.ensures.2 c.in_err-foreign.ensures.0 c.in_err-foreign.ensures.1 refl)

pub returns-then-head_wide : goal.returns-then-head_wide
returns-then-head_wide c = expr_wide _ _ _ _ _ _ (record { first = omega (arith, c.ranges.a); second = omega (arith, c.ranges.b); third = omega (arith, c.ranges.c); fourth = omega (arith, c.ranges.d); fifth = omega (arith, c.ranges.e) }) c.byte_of-op.ensures (sym c.in_ok-foreign.ensures) (omega arith) c.head_wide.ensures c.if-head_wide.true

pub expr_operands-requires : goal.expr_operands-requires
expr_operands-requires c = room_after 1 13 (bytes_length _ _) c.push8-p.ensures c.requires

pub returns : goal.returns
returns c = expr_entered _ _ _ _ _ _ (record { first = omega (arith, c.ranges.a); second = omega (arith, c.ranges.b); third = omega (arith, c.ranges.c); fourth = omega (arith, c.ranges.d); fifth = omega (arith, c.ranges.e) }) c.byte_of-op.ensures (sym c.in_ok-foreign.ensures) (omega arith) c.head_wide.ensures c.if-head_wide.false c.push8-p.ensures c.expr_operands.ensures
