use mathlib.Core.Path.{◌≡◌}
use mathlib.Core.List.{map}
use Prim.Native.Nat.{◌<◌, ◌^◌}
use lib.Bits.{bit_or}
use Rattle.order.specs.Sets.{set_of, members}
use Rattle.order.specs.Effects.{of_word, names}
use Rattle.store.specs.Meaning.{keys_in}
use Rattle.initial.specs.Entries.{key_in}
use Rattle.initial.proofs.enabled_keys.Given as goal

abbrev pub invariant-loop-rest : goal.invariant-loop-rest
invariant-loop-rest l = (set_of (map (key_in l.of l.n) (names (of_word l.rights))) ≡ bit_or (keys_in l.on) (set_of (map (key_in l.of l.n) (members l.rest)))) × (l.rest < 2 ^ 64)

abbrev pub decreases-loop-rest : goal.decreases-loop-rest
decreases-loop-rest l = l.rest
