-- A job that is a tree and binds nothing twice, and to which the rules give no type: its new cell is of numbers with key 2, and the local name 2 is nowhere in scope. Number 10 refuses it.
use Rattle.std.specs.Prelude.{◌≡◌, refl}
use Rattle.std.proofs.Common.{subst, arith}
use mathlib.Core.List.Memᴰ
use mathlib.Core.List.{List, [], Memᴰ}
use Rattle.order.specs.Effects.{Effect}
use Rattle.syntax.specs.Types.{Ty, num, entry_tree, tree_in, tree}
use Rattle.syntax.specs.Commands.{map_cmd}
use Rattle.syntax.specs.Operands.{nth, types_of}
use Rattle.syntax.specs.Job.{source_of}
use Rattle.syntax.specs.Tree.{Entry, names_of, add_host, name_ctx, value_ctx, host_ctx, predecessor, root}
use Rattle.syntax.specs.WellScoped.{ScopedType, n_low, n_bound, w_num}
use Rattle.typing.proofs.Parts.{uses_of}
use Rattle.typing.specs.Demand2.{JobHas}
use Rattle.typing.specs.Examples.{unscoped}

two_not : {Γ : List Entry} → names_of Γ ≡ [] → ScopedType Γ (num 2) → ⊥
two_not e (w_num (n_low h)) = omega arith
two_not e (w_num (n_bound m)) = Memᴰ.not-nil (subst (λ l. Memᴰ 2 l) e m)

pub unscoped_untyped : (T : Ty) (s : Effect) → JobHas unscoped T s → ⊥
unfolding source_of map_cmd tree tree_in entry_tree nth types_of names_of add_host name_ctx value_ctx host_ctx predecessor root
unscoped_untyped T s d = two_not refl ((uses_of d).type_operand (num 2) (Memᴰ.head refl))
