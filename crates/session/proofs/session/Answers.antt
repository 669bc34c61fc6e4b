use native.Mathlib.Omega.{arith}
use Rattle.calls.proofs.Laws.{room_lacks, room_has}
use Rattle.session.proofs.Answers.{session_short, session_refused, session_accepted}
use Rattle.session.proofs.session.Goals as goal

pub returns-then-lacks_room : goal.returns-then-lacks_room
returns-then-lacks_room c = session_short _ _ _ _ _ _ (room_lacks _ _ c.lacks_room.ensures c.if-lacks_room.true) c.refused.ensures

pub returns-in-Err : goal.returns-in-Err
returns-in-Err c = session_refused _ _ _ _ _ _ _ _ (room_has _ _ c.lacks_room.ensures c.if-lacks_room.false) c.in-Err.ensures c.refused-in-Err.ensures

pub returns-in-Ok : goal.returns-in-Ok
returns-in-Ok c = session_accepted _ _ _ _ _ _ _ _ _ _ (room_has _ _ c.lacks_room.ensures c.if-lacks_room.false) c.in-Ok.ensures c.answer.ensures (λ i. omega (arith, c.shared_slice_known-1.given i))
