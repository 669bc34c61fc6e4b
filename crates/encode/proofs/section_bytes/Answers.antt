use Rattle.std.proofs.lemmas.Result.{err_from_is_err_and}
use native.Mathlib.Omega.{arith}
use borrow.Author.Rules.{rules}
use Rattle.encode.proofs.Pens.{along_start}
use Rattle.encode.proofs.Sections.{under, section_room, section_past, section_stop, section_next, section_end}
use Rattle.encode.proofs.section_bytes.Goals as goal

pub loop-i-init : goal.loop-i-init
loop-i-init c = (along_start _ _ _, search rules)

pub returns-then-limit-i : goal.returns-then-limit-i
returns-then-limit-i c = section_past _ _ c.loop-i.invariant.0 _ c.loop-i-test.true c.loop-i.invariant.1 c.limit.ensures c.if-limit-i.true

pub entry_bytes-requires : goal.entry_bytes-requires
entry_bytes-requires c = let room = section_room _ _ c.loop-i.invariant.0 c.requires (under c.limit.ensures c.if-limit-i.false) in record { at_bound = room.0; i_bound = room.1 }

pub returns-in_err-p : goal.returns-in_err-p
returns-in_err-p c =
    let p = err_from_is_err_and c.from_residual.result c.from_residual.ensures.1 in
    rw (p.1, p.2) (section_stop _ _ c.loop-i.invariant.0 c.in_err-p.ensures (under c.limit.ensures c.if-limit-i.false) _ c.loop-i-test.true c.in_err-p.ensures.refused)

pub loop-i-preserved : goal.loop-i-preserved
loop-i-preserved c = (section_next _ _ c.loop-i.invariant.0 c.in_ok-p.ensures (under c.limit.ensures c.if-limit-i.false) (omega arith), omega (arith, under c.limit.ensures c.if-limit-i.false))

pub returns : goal.returns
returns c = section_end _ _ c.loop-i.invariant.0 c.args.n (omega arith) c.loop-i.invariant.1
