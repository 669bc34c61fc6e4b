-- The rule of 0x42, exactly: when a job's own expression of this command has a type, and which types and effects.
use Rattle.std.specs.Prelude.{◌≡◌, refl, ℕ, ◌<◌, ◌↔◌, length}
use Rattle.std.proofs.Common.{sym, ◌∙◌, subst, arith}
use mathlib.Core.List.{List, Memᴰ}
use Rattle.order.specs.Effects.{Effect, pure}
use Rattle.order.proofs.EffectLaws.{eff_below→}
use Rattle.syntax.specs.Types.{Ty, num}
use Rattle.syntax.specs.Commands.{c_spawn}
use Rattle.syntax.specs.Operands.{nth, plain}
use Rattle.syntax.specs.Job.{Src, up_of}
use Rattle.syntax.specs.Formed.{Formed}
use Rattle.syntax.specs.Tree.{Entry}
use Rattle.syntax.specs.TreeFacts.{Ctx, x_plain, TreeOk}
use Rattle.syntax.proofs.Context.{plain_lt, ctx_le, root_lt}
use Rattle.syntax.specs.WellScoped.{ScopedType, w_num, ScopedEffect}
use Rattle.syntax.proofs.ScopeLaws.{zero_scoped, pure_scoped}
use Rattle.typing.specs.Subtype.{Sub}
use Rattle.typing.proofs.SubtypeLaws.{sub_refl}
use Rattle.typing.specs.Rules.{code_of, Has, h_sub}
use Rattle.typing.specs.RulesScoped.{ScopedResult}
use Rattle.typing.proofs.RulesScoped.{rules_scoped}
use Rattle.typing.specs.Least.{type_at, get, types_to}
use Rattle.typing.proofs.Filled.{seen, type_of_is, typed_ty, by_with, by_require}
use Rattle.typing.proofs.Scoping.{ctx_scoped}
use Rattle.typing.proofs.Exactly.{adequate, least}
use Rattle.typing.proofs.SpawnLaws.{below_pure, spawn_rule}
use Rattle.typing.specs.SpawnExactly.{EmptyBody}

-- of a job that is read, free of 8, 9 and 10, in the context in which the expression stands: it has a type exactly where its body is such, and then every type above the unkeyed number, with every
-- effect, that is in scope
pub spawn_exactly : (S : Src) → Formed S → TreeOk S → {e b : ℕ} {Γ : List Entry} → Ctx S e Γ → code_of S e ≡ c_spawn b → (T : Ty) (s : Effect)
    → Has S Γ e T s ↔ (EmptyBody S Γ b × Sub (up_of S) (num 0) T × ScopedType Γ T × ScopedEffect Γ s)
unfolding type_at plain
spawn_exactly S ok tree {e} {b} {Γ} d k T s = (to, from)
  where
    scoped : {a : ℕ} {U : Ty} {t : Effect} → Has S Γ a U t → ScopedResult Γ U t
    scoped x = rules_scoped S ok x (ctx_scoped S ok tree d)

    operand : Memᴰ b (plain (nth S.cmds e))
    operand = rw k (Memᴰ.head refl)

    inside : e < length S.cmds
    inside = omega (arith, ctx_le S ok d, root_lt S ok)

    to : Has S Γ e T s → EmptyBody S Γ b × Sub (up_of S) (num 0) T × ScopedType Γ T × ScopedEffect Γ s
    to x =
        let z = least S ok tree d x in
        let g = sym (rw k at (type_of_is S e inside)) ∙ z.2 in
        by_with (get (types_to S e) b) _ g (λ U t h g. by_require _ _ _ g (λ y g. (
          (U, t, adequate S ok tree (x_plain operand d) (sym (seen S e b (omega (arith, inside)) (plain_lt S ok operand)) ∙ h), below_pure (eff_below→ (up_of S) t pure y)),
          subst (λ A. Sub (up_of S) A T) (sym (typed_ty g)) z.3,
          (scoped x).ty,
          (scoped x).eff,
        )))

    from : EmptyBody S Γ b × Sub (up_of S) (num 0) T × ScopedType Γ T × ScopedEffect Γ s → Has S Γ e T s
    from ((U, t, x, h), u, o, v) = let z = spawn_rule S k x (scoped x).ty h in h_sub z.1 u o (z.2 s) v

-- so it has some type exactly where its body is such
pub spawn_typed_exactly : (S : Src) → Formed S → TreeOk S → {e b : ℕ} {Γ : List Entry} → Ctx S e Γ → code_of S e ≡ c_spawn b → ((T : Ty) × (s : Effect) × Has S Γ e T s) ↔ EmptyBody S Γ b
spawn_typed_exactly S ok tree d k = (
  λ z. ((spawn_exactly S ok tree d k z.0 z.1).0 z.2).0,
  λ z. (num 0, pure, (spawn_exactly S ok tree d k (num 0) pure).1 (z, sub_refl (num 0), w_num zero_scoped, pure_scoped)),
)
