use Rattle.std.proofs.Common.{◌≡◌, ◌<◌, ◌-◌}
use Rattle.store.specs.Words.{up_in}
use Rattle.store.specs.Tables.{list_of}
use Rattle.store.specs.Walk.{walk}
use Rattle.store.proofs.walk.Given as goal

abbrev pub invariant-loop : goal.invariant-loop
invariant-loop g l =
    (walk (list_of up_in l.keys l.n) (g.S.Sought.mem l.sought) (g.S.Sought.all l.sought) l.n l.fn.k.0
    ≡ walk (list_of up_in l.keys l.n) (g.S.Sought.mem l.sought) (g.S.Sought.all l.sought) (l.n - l.counter) l.x.0)
    × (l.x.0 < 256)
