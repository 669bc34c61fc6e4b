use Rattle.calls.proofs.Laws.{room_lacks, room_has}
use Rattle.capi.proofs.Laws.{runs_short, runs_started, runs_refused}
use Rattle.capi.proofs.jobdesk_run.Goals as goal

pub returns-then-lacks_room : goal.returns-then-lacks_room
returns-then-lacks_room c = runs_short _ _ _ _ _ _ (room_lacks _ _ c.lacks_room.ensures c.if-lacks_room.true) c.tell.ensures

pub returns-in-Ok : goal.returns-in-Ok
returns-in-Ok c = runs_started _ _ _ c.start-opened.result c.start-opened.ensures (room_has _ _ c.lacks_room.ensures c.if-lacks_room.false) _ c.in-Ok.is c.go.ensures

pub returns-in-Err : goal.returns-in-Err
returns-in-Err c = runs_refused _ _ _ c.start-opened.result c.start-opened.ensures (room_has _ _ c.lacks_room.ensures c.if-lacks_room.false) _ c.in-Err.is c.tell-in-Err.ensures
