-- Every step's outcome agrees with done and lack of room, typed or not.
use Rattle.std.specs.Prelude.{Bool}
use Rattle.semantics.specs.Machine.{Machine}
use Rattle.semantics.specs.Step.{Out}
use Rattle.semantics.specs.Room.{is_done}
use Rattle.semantics.specs.Wants.{lacks}
use Rattle.semantics.specs.Threads.{Steps}
use Rattle.semantics.specs.StepExactly.{Exact, ex_done, ex_stuck, ex_denied, ex_room, ex_step, Exactly}
use Rattle.semantics.specs.RoomLaws.{Fair, fair_denied, fair_done, fair_room, fair_step, fair_stuck}

from : {d w x l : Bool} {o : Out} → Exact d w x l o → Fair d l o
from ex_done = fair_done
from ex_stuck = fair_stuck
from ex_denied = fair_denied
from ex_room = fair_room
from ex_step = fair_step

pub fair : {K : Steps} → Exactly K → (m : Machine) → Fair (is_done m) (lacks K.needs m) (K.step m)
fair ex m = from (ex.at m)
