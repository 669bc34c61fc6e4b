use mathlib.Core.Path.{refl, ◌∙◌}
use Rattle.calls.proofs.Laws.{sets_over}
use Rattle.results.specs.Told.{number_for, out_words}
use Rattle.results.proofs.tell.Goals as goal

pub returns-in-Ok : goal.returns-in-Ok
unfolding number_for out_words
returns-in-Ok c = rw c.in-Ok.is (record { number = refl; written = c.put_two.ensures.same ∙ sets_over _ _ })

pub returns-in-Err : goal.returns-in-Err
unfolding number_for out_words
returns-in-Err c = rw c.in-Err.is (record { number = refl; written = c.put_two-in-Err.ensures.same ∙ sets_over _ _ })
