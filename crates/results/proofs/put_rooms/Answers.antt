use Rattle.results.proofs.Told.{counted}
use Rattle.results.proofs.put_rooms.Goals as goal

pub returns : goal.returns
returns c =
    counted _ _ _ _
    c.cap.ensures.0
    c.cap-2.ensures.0
    c.cap-3.ensures.0
    c.cap-4.ensures.0
    c.cap-5.ensures.0
    c.set_at.ensures
    c.set_at-2.ensures
    c.set_at-3.ensures
    c.set_at-4.ensures
    c.set_at-5.ensures
    c.set_at-6.ensures
    c.set_at-7.ensures
