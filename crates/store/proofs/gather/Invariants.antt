use Rattle.store.specs.Walk.{bits_of, both_of}
use Rattle.store.specs.Tables.{list_of}
use Rattle.store.specs.Words.{up_in}
use Rattle.store.specs.Meaning.{keys_in, own_in}
use mathlib.Core.Path.{◌≡◌}
use Rattle.store.proofs.gather.Given as goal

abbrev pub invariant-loop-j : goal.invariant-loop-j
invariant-loop-j l = l.acc ≡ bits_of (both_of (list_of up_in l.keys l.n) (keys_in l.on) (own_in l.own)) l.base.0 l.j
