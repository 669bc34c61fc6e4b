use borrow.Author.Rules.{rules}
use mathlib.Core.Path.{refl}
use native.Mathlib.Omega.{arith}
use lib.Count.{trailing_le}
use Rattle.names.specs.Ancestors.{lowest}
use Rattle.names.proofs.Walk.{down_lt}
use Rattle.initial.specs.Entries.{key_in}
use Rattle.initial.proofs.Rights.{no_key, next_key, last_key}
use Rattle.initial.proofs.enabled_keys.Goals as goal

pub loop-rest-init : goal.loop-rest-init
loop-rest-init c = (no_key _ _, search rules)

pub overflow_cast-rest : goal.overflow_cast-rest
overflow_cast-rest c = record { fits = omega (arith, trailing_le 64 c.loop-rest.rest) }

pub loop-rest-smaller : goal.loop-rest-smaller
loop-rest-smaller c = down_lt _ c.loop-rest-test.true

pub loop-rest-preserved : goal.loop-rest-preserved
unfolding lowest
loop-rest-preserved c = (next_key (key_in c.args.of.now c.args.n) c.loop-rest.rest _ _ _ _ _ _ c.requires c.loop-rest-test.true c.loop-rest.invariant.1 c.loop-rest.invariant.0 refl c.key_of-k.ensures c.add-on.ensures, omega (arith, down_lt c.loop-rest.rest c.loop-rest-test.true))

pub returns : goal.returns
returns c = last_key _ _ _ _ c.loop-rest-test.false c.loop-rest.invariant.0
