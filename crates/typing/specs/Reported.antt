-- What the checker reports of a job that it accepts: the effect and the sets in the type are reduced, so that they are the one least type and effect as they are written;
-- and they name 0, 1 and host names alone, what a manager knows.
use Rattle.std.specs.Prelude.{◌≡◌, ℕ, true}
use mathlib.Core.List.{Memᴰ}
use Rattle.order.specs.Effects.{Effect, names, reduced, EffBelow}
use Rattle.syntax.specs.Types.{Ty, names_in}
use Rattle.syntax.specs.Job.{Job, up_of, source_of}
use Rattle.syntax.specs.Reading.{host_name, open_name}
use Rattle.syntax.specs.Formed.{ReducedTy}
use Rattle.typing.specs.Subtype.{Sub}
use Rattle.typing.specs.Demand2.{JobHas}

-- T and e below all that the rules give the job
abbrev pub LeastOf : Job → Ty → Effect → Type 0
LeastOf J T e = (U : Ty) (t : Effect) → JobHas J U t → Sub (up_of (source_of J)) T U × EffBelow (up_of (source_of J)) e t

-- what a report of T and e says
pub record Report (J : Job) (T : Ty) (e : Effect) : Type 0 where
  -- "Sets are kept reduced"
  pub effect_reduced : reduced (up_of (source_of J)) e ≡ true
  pub type_reduced : ReducedTy (up_of (source_of J)) T
  -- each name of the effect is 1 or a host name
  pub effect_names : (n : ℕ) → Memᴰ n (names e) → host_name J.names n ≡ true
  -- each name in the type is 0, 1 or a host name
  pub type_names_lem : (n : ℕ) → Memᴰ n (names_in T) → open_name J.names n ≡ true
  -- no other reduced type and effect that the rules give are below all that they give
  pub least_unique : (U : Ty) (t : Effect) → JobHas J U t → LeastOf J U t → ReducedTy (up_of (source_of J)) U → reduced (up_of (source_of J)) t ≡ true → (U ≡ T) × (t ≡ e)
