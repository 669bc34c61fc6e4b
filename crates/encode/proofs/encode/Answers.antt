use Rattle.std.proofs.lemmas.Result.{err_from_is_err_and}
use Rattle.encode.proofs.Whole.{room_types, stop_names, room_values, stop_types, room_byte, stop_values, room_rights, room_exprs, stop_exprs, room_end, all_encoded}
use Rattle.entry.specs.Shapes.{counts_of}
use Rattle.encode.specs.Entries.{limit_of}
use native.Mathlib.Omega.{arith}
use borrow.Author.Rules.{rules}
use Rattle.encode.proofs.encode.Goals as goal

pub section_bytes-requires : goal.section_bytes-requires
unfolding limit_of
section_bytes-requires c = search rules

pub returns-in_err-a : goal.returns-in_err-a
returns-in_err-a c =
    let p = err_from_is_err_and c.from_residual.result c.from_residual.ensures.1 in
    rw (p.1, p.2) (stop_names _ (counts_of c.args.g) (omega (arith, c.well_formed.1.0)) c.in_err-a.ensures c.in_err-a.ensures.penned.refused)

pub section_bytes-requires-2 : goal.section_bytes-requires-2
section_bytes-requires-2 c = room_types _ (counts_of c.args.g) (omega (arith, c.well_formed.1.0)) c.in_ok-a.ensures

pub returns-in_err-b : goal.returns-in_err-b
returns-in_err-b c =
    let p = err_from_is_err_and c.from_residual-in_err-b.result c.from_residual-in_err-b.ensures.1 in
    rw (p.1, p.2) (stop_types _ (counts_of c.args.g) (omega (arith, c.well_formed.1.0)) c.in_ok-a.ensures (omega arith) c.in_err-b.ensures c.in_err-b.ensures.penned.refused)

pub section_bytes-requires-3 : goal.section_bytes-requires-3
section_bytes-requires-3 c = room_values _ (counts_of c.args.g) (omega (arith, c.well_formed.1.0)) c.in_ok-a.ensures (omega arith) c.in_ok-b.ensures

pub returns-in_err-c : goal.returns-in_err-c
returns-in_err-c c =
    let p = err_from_is_err_and c.from_residual-in_err-c.result c.from_residual-in_err-c.ensures.1 in
    rw (p.1, p.2) (stop_values _ (counts_of c.args.g) (omega (arith, c.well_formed.1.0)) c.in_ok-a.ensures (omega arith) c.in_ok-b.ensures (omega arith) c.in_err-c.ensures c.in_err-c.ensures.penned.refused)

pub push8-p-requires : goal.push8-p-requires
push8-p-requires c = room_byte _ (counts_of c.args.g) (omega (arith, c.well_formed.1.0)) c.in_ok-a.ensures (omega arith) c.in_ok-b.ensures (omega arith) c.in_ok-c.ensures

pub push64-q-requires : goal.push64-q-requires
push64-q-requires c = room_rights _ (counts_of c.args.g) (omega (arith, c.well_formed.1.0)) c.in_ok-a.ensures (omega arith) c.in_ok-b.ensures (omega arith) c.in_ok-c.ensures (omega arith) c.push8-p.ensures

pub section_bytes-requires-4 : goal.section_bytes-requires-4
section_bytes-requires-4 c = room_exprs _ (counts_of c.args.g) (omega (arith, c.well_formed.1.0)) c.in_ok-a.ensures (omega arith) c.in_ok-b.ensures (omega arith) c.in_ok-c.ensures (omega arith) c.push8-p.ensures c.push64-q.ensures

pub returns-in_err-d : goal.returns-in_err-d
returns-in_err-d c =
    let p = err_from_is_err_and c.from_residual-in_err-d.result c.from_residual-in_err-d.ensures.1 in
    rw (p.1, p.2) (stop_exprs _ (counts_of c.args.g) (omega (arith, c.well_formed.1.0)) c.in_ok-a.ensures (omega arith) c.in_ok-b.ensures (omega arith) c.in_ok-c.ensures (omega arith) c.push8-p.ensures c.push64-q.ensures c.in_err-d.ensures c.in_err-d.ensures.penned.refused)

pub push8-requires : goal.push8-requires
push8-requires c = room_end _ (counts_of c.args.g) (omega (arith, c.well_formed.1.0)) c.in_ok-a.ensures (omega arith) c.in_ok-b.ensures (omega arith) c.in_ok-c.ensures (omega arith) c.push8-p.ensures c.push64-q.ensures c.in_ok-d.ensures

pub returns : goal.returns
returns c = all_encoded _ (counts_of c.args.g) (omega (arith, c.well_formed.1.0)) c.in_ok-a.ensures (omega arith) c.in_ok-b.ensures (omega arith) c.in_ok-c.ensures (omega arith) c.push8-p.ensures c.push64-q.ensures c.in_ok-d.ensures (omega arith) c.push8.ensures
