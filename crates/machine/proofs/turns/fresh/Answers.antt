use mathlib.Core.Path.{ap}
use Prim.Native.Nat.{ℕ}
use Rattle.semantics.specs.Step as semantics
use Rattle.store.specs.Meaning.{keys_in}
use Rattle.store.specs.Tables.{stack_of}
use Rattle.machine.proofs.turns.fresh.Goals as goal

pub returns : goal.returns
unfolding keys_in stack_of
returns c = λ e fs h. ap (λ (b : ℕ). semantics.fresh b c.args.t.now.env) (c.body_of.ensures e h)
