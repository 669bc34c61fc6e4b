use native.Mathlib.Omega.{arith}
use Rattle.std.proofs.lemmas.Result.{err_from_is_err_and}
use mathlib.Core.Path.{refl, sym}
use Rattle.encode.proofs.Entered.{value_foreign, value_wide, value_entered}
use Rattle.syntax.proofs.RowsRead.{bytes_length}
use Rattle.encode.proofs.Laying.{at_most, room_after}
use Rattle.encode.proofs.declared.value_bytes.Goals as goal

pub returns-in_err-foreign : goal.returns-in_err-foreign
returns-in_err-foreign c =
    let p = err_from_is_err_and c.from_residual.result c.from_residual.ensures.1 in
    rw (p.1, p.2) (value_foreign _ c.byte_of-op.ensures c.in_err-foreign.ensures.2 c.in_err-foreign.ensures.0 c.in_err-foreign.ensures.1 refl)

pub returns-then-n-ge4294967296 : goal.returns-then-n-ge4294967296
returns-then-n-ge4294967296 c = value_wide _ c.byte_of-op.ensures (sym c.in_ok-foreign.ensures) (omega arith) c.if-n-ge4294967296.true

pub push16-q-requires : goal.push16-q-requires
push16-q-requires c = room_after 1 2 (bytes_length _ _) c.push8-p.ensures (at_most _ 3 11 c.requires)

pub push32-requires : goal.push32-requires
push32-requires c = room_after 2 4 (bytes_length _ _) c.push16-q.ensures (room_after 1 6 (bytes_length _ _) c.push8-p.ensures (at_most _ 7 7 c.requires))

pub returns : goal.returns
returns c = value_entered _ c.byte_of-op.ensures (sym c.in_ok-foreign.ensures) (omega arith) c.if-n-ge4294967296.false c.push8-p.ensures c.push16-q.ensures c.push32.ensures
