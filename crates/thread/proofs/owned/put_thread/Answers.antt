use Rattle.thread.proofs.Owns.{thread_owned}
use Rattle.thread.proofs.owned.put_thread.Goals as goal

pub returns : goal.returns
returns c = thread_owned _ c.put_control.ensures c.put_place.ensures c.put_count.ensures
