-- Progress: the next step of a well-typed machine is taken, or the machine is done, or a place is lacking that the step needs. It is never stuck, and never
-- denied.
use Rattle.std.specs.Prelude.{◌≡◌, refl, Bool}
use Rattle.syntax.specs.Job.{Src}
use Rattle.typing.specs.Rules.{code_of}
use Rattle.semantics.specs.Machine.{Machine}
use Rattle.semantics.specs.Step.{Out, step}
use Rattle.semantics.specs.Room.{is_done}
use Rattle.semantics.specs.Wants.{needs, lacks}
use Rattle.semantics.specs.Invariant.{World, Ok}
use Rattle.semantics.proofs.StepExactly.{exact}
use Rattle.semantics.specs.RoomLaws.{Fair, fair_step, fair_done, fair_room, fair_stuck, fair_denied}
use Rattle.semantics.proofs.RoomLaws.{fair}
use Rattle.semantics.proofs.Sound.{Good, g_step, g_done, g_room, sound}
use Rattle.semantics.specs.Progress.{Outcome, done, no_room, taken}

pub progress : (S : Src) (m : Machine) → Ok S m → Outcome S m (step (code_of S) m)
progress S m k = both refl refl (fair (exact (code_of S)) m) (sound S m k)
  where
    both : {b c : Bool} {o : Out} {W : World} → is_done m ≡ b → lacks (needs (code_of S)) m ≡ c → Fair b c o → Good S W o → Outcome S m o
    both {c = c} {W = W} d l fair_stuck x7 = elim x7 [ ]
    both {c = c} {W = W} d l fair_denied x8 = elim x8 [ ]
    both d l fair_step (g_step k x) = taken d l k
    both d l fair_done g_done = done d
    both d l fair_room g_room = no_room d l
