-- What stands in a context, and what is worked out. The types of a context's variables are in scope with reduced sets, so that what the rules give there is in scope (RulesScoped), and a new name is
-- fresh. The types and effects that are worked out have reduced sets. This stands before both directions of `Exactly`, which use it.
use mathlib.Core.List.{List}
use Rattle.syntax.specs.Types.{Ty}
use Rattle.syntax.specs.Job.{Src, up_of}
use Rattle.syntax.specs.Formed.{ReducedTy}
use Rattle.syntax.specs.Tree.{Entry}
use Rattle.syntax.specs.WellScoped.{ScopedType}

-- a type in scope whose sets are reduced
pub record GoodTy (S : Src) (Γ : List Entry) (T : Ty) : Type 0 where
  pub scoped : ScopedType Γ T
  pub reduced : ReducedTy (up_of S) T
