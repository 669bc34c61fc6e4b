-- Preservation: a step of a well-typed machine leads to a well-typed machine, in a world that has all that there was: what was well typed over the store,
-- another thread too, stays so (Growth).
use Rattle.std.specs.Prelude.{◌≡◌}
use Rattle.std.proofs.Common.{ap, subst}
use Rattle.std.proofs.lemmas.Bool.{false≢true}
use Rattle.syntax.specs.Job.{Src}
use Rattle.typing.specs.Rules.{code_of}
use Rattle.semantics.specs.Machine.{Machine}
use Rattle.semantics.specs.Step.{Out, o_step, step}
use Rattle.semantics.specs.Outs.{is_step, after}
use Rattle.semantics.specs.Invariant.{World, Ext, Ok}
use Rattle.semantics.proofs.Sound.{Good, g_step, g_done, g_room, sound}
use Rattle.semantics.specs.Preservation.{world_in}

pub extended : {S : Src} {W : World} {o : Out} (n : Machine) → Good S W o → o ≡ o_step n → (k : Ok S n) × Ext W (world_in S n k)
unfolding is_step after
extended {S} {W} n (g_step {m = m} k x) e = subst (λ t. (k : Ok S t) × Ext W (world_in S t k)) (ap (λ o. after o n) e) (k, x)
extended n g_done e = absurd (false≢true (ap is_step e))
extended n g_room e = absurd (false≢true (ap is_step e))

pub preservation : (S : Src) (m n : Machine) (k : Ok S m) → step (code_of S) m ≡ o_step n → (l : Ok S n) × Ext (world_in S m k) (world_in S n l)
preservation S m n k e = extended n (sound S m k) e
