use Rattle.std.proofs.Common.{◌≡◌}
use Rattle.order.specs.Sets.{members, all_of}
use Rattle.syntax.specs.Reading.{host_name}
use Rattle.names.specs.Ancestors.{names_in}
use Rattle.names.proofs.all_host.Given as goal

abbrev pub invariant-loop-q : goal.invariant-loop-q
invariant-loop-q l = all_of (host_name (names_in l.names l.n)) (members l.s) ≡ all_of (host_name (names_in l.names l.n)) (members l.q-iterator.0)
