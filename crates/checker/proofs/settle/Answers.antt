use Rattle.std.proofs.Common.{refl, sym}
use Rattle.checker.proofs.Checking.{settled, settled_refused}
use Rattle.checker.proofs.settle.Goals as goal

pub returns-in-Ok : goal.returns-in-Ok
returns-in-Ok c = λ bytes J given. settled (c.fill.ensures.after (λ y e. e)) (c.fill-2.ensures.after (λ y e. e)) given (c.typed.ensures bytes J) (record { job = record { names = refl; types = sym c.typed.auto.types; sets = sym c.typed.auto.sets; values = refl; heads = refl; slots = refl }; entries = sym c.typed.auto.entries; effects = sym c.typed.auto.effects }) c.in-Ok.is

pub returns-in-Err : goal.returns-in-Err
returns-in-Err c = λ bytes J given. settled_refused (c.fill.ensures.after (λ y e. e)) (c.fill-2.ensures.after (λ y e. e)) given (c.typed.ensures bytes J) (record { job = record { names = refl; types = sym c.typed.auto.types; sets = sym c.typed.auto.sets; values = refl; heads = refl; slots = refl }; entries = sym c.typed.auto.entries; effects = sym c.typed.auto.effects }) c.in-Err.is c.clear_all.ensures
