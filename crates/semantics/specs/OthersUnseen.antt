-- A step of one thread does not look at how other threads stand: with others in their places it does the same, as long as it starts none. (Entering 0x42 looks at how many there are.)
use mathlib.Core.List.{List}
use Rattle.semantics.specs.Machine.{Thread}
use Rattle.semantics.specs.Step.{Out, o_step, o_done, o_room, o_stuck, o_denied, with_threads}

-- other threads in their places
unfoldable pub with_out : List Thread → Out → Out
with_out us (o_step n) = o_step (with_threads n us)
with_out us o_done = o_done
with_out us o_room = o_room
with_out us o_stuck = o_stuck
with_out us o_denied = o_denied
