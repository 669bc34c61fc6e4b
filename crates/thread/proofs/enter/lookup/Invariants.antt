use Rattle.std.proofs.Common.{◌≡◌, ◌-◌, ◌<◌}
use Rattle.semantics.specs.Step.{seek}
use Rattle.store.specs.Tables.{capped, list_of}
use Rattle.store.specs.Words.{link_in}
use Rattle.thread.proofs.enter.lookup.Given as goal

abbrev pub invariant-loop : goal.invariant-loop
invariant-loop l =
    (seek 1024 (list_of link_in l.bindings (capped l.n 1024)) l.from l.x ≡ seek (1024 - l.counter) (list_of link_in l.bindings (capped l.n 1024)) l.p l.x)
    × (l.p < 65536)
