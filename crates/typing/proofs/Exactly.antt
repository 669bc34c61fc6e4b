-- The checker and the rules agree, for a job that is read (`Formed S`): it is accepted exactly when its expressions are used as is due, nothing is bound twice, and the rules give the last expression a
-- type, with an effect below the rights. What the checker finds for an expression the rules give it, and it is below all else that they give it.
use Rattle.std.specs.Prelude.{◌≡◌, refl, ℕ, ◌<◌, Bool, true, false, List, length}
use Rattle.std.proofs.Common.{◌∙◌, arith}
use Rattle.std.proofs.Math.Option.{Option, none, some}
use Rattle.order.specs.Effects.{Effect, EffBelow, eff_below}
use Rattle.order.proofs.EffectLaws.{eff_trans, eff_below→, →eff_below}
use Rattle.syntax.specs.Types.{Ty}
use Rattle.syntax.specs.Job.{Src, up_of}
use Rattle.syntax.specs.Reading.{Refusal}
use Rattle.syntax.specs.Formed.{Formed}
use Rattle.syntax.specs.Tree.{Entry, host_ctx, root, tree_refusal}
use Rattle.syntax.specs.TreeFacts.{Ctx, x_root, Each, UsedAsDue, BindsAnew, TreeOk}
use Rattle.syntax.proofs.Context.{stands}
use Rattle.syntax.proofs.TreeExactly.{tree_ok}
use Rattle.typing.specs.Subtype.{Sub}
use Rattle.typing.specs.Rules.{Has}
use Rattle.typing.specs.Least.{Typed, typed, untyped, types, type_of, first_untyped}
use Rattle.typing.proofs.Filled.{types_to_length, all_typed}
use Rattle.typing.proofs.Adequate as A
use Rattle.typing.proofs.Minimal as M
use Rattle.typing.proofs.Parts.{everywhere, uses_of}
use Rattle.typing.specs.Verdict.{Verdict, accept, refuse, unless, within, judged, judge}

-- Each expression, in the context in which it stands

-- what the checker finds, the rules give
pub adequate : (S : Src) → Formed S → TreeOk S → {e : ℕ} {Γ : List Entry} → Ctx S e Γ → {T : Ty} {s : Effect} → type_of S e ≡ typed T s → Has S Γ e T s
adequate S ok tree x h = A.adequate S ok tree x h

-- what the rules give, the checker finds, and finds it least
pub least : (S : Src) → Formed S → TreeOk S → {e : ℕ} {Γ : List Entry} → Ctx S e Γ → {U : Ty} {t : Effect} → Has S Γ e U t
    → (T : Ty) × (s : Effect) × (type_of S e ≡ typed T s) × Sub (up_of S) T U × EffBelow (up_of S) s t
least S ok tree x d = let z = M.minimal S ok tree x d in (z.ty, z.eff, z.got, z.sub, z.under)

-- The job

-- what an acceptance says
pub refuse_not : {X : Type 0} {r : Refusal} {T : Ty} {s : Effect} → refuse r ≡ accept T s → X
refuse_not e = let z : ◌≡◌ {A = ℕ} 0 1 = cc in absurd (omega arith)

pub unless_is : (o : Option Refusal) (v : Verdict) {T : Ty} {s : Effect} → unless o v ≡ accept T s → (o ≡ none) × (v ≡ accept T s)
unfolding unless
unless_is none v e = (refl, e)
unless_is (some r) v e = refuse_not e

within_is : (b : Bool) (e : ℕ) (A : Ty) (u : Effect) {T : Ty} {s : Effect} → within b e A u ≡ accept T s → (b ≡ true) × (typed A u ≡ typed T s)
unfolding within
within_is true e A u h = (refl, cc)
within_is false e A u h = refuse_not h

pub accepted_is : (S : Src) {T : Ty} {s : Effect} → judge S ≡ accept T s → (tree_refusal S ≡ none) × (type_of S (root S) ≡ typed T s) × (eff_below (up_of S) s S.rights ≡ true)
unfolding judge judged
accepted_is S {T} {s} h = let y = unless_is (tree_refusal S) _ h in let z = unless_is (first_untyped 0 (types S)) _ y.1 in at y.0 (type_of S (root S)) refl z.1
  where
    at : tree_refusal S ≡ none → (o : Typed) → type_of S (root S) ≡ o → judged S o ≡ accept T s → (tree_refusal S ≡ none) × (type_of S (root S) ≡ typed T s) × (eff_below (up_of S) s S.rights ≡ true)
    at t (typed A u) e g = let w = within_is (eff_below (up_of S) u S.rights) (root S) A u g in let q : u ≡ s = cc w.1 in (t, e ∙ w.1, rw q at w.0)
    at t (untyped n) e g = refuse_not g

-- accepted: free of 8, 9 and 10, the rules give the type and the effect, and the effect is below the rights
pub accepted_typed : (S : Src) → Formed S → {T : Ty} {s : Effect} → judge S ≡ accept T s → TreeOk S × Has S (host_ctx S) (root S) T s × EffBelow (up_of S) s S.rights
accepted_typed S ok {T} {s} h = let z = accepted_is S h in let tree = (tree_ok S ok).0 z.0 in (tree, adequate S ok tree x_root z.1, eff_below→ (up_of S) s S.rights z.2)

-- number 10 follows from the rules: what they give a type to is in scope
pub typed_scoped : (S : Src) → Formed S → Each S (UsedAsDue S) → Each S (BindsAnew S) → {U : Ty} {t : Effect} → Has S (host_ctx S) (root S) U t → TreeOk S
typed_scoped S ok used anew d = record { used = used; anew = anew; scoped = λ e h. let x = stands S ok used e h in record { context = x.0; stands = x.1; uses = uses_of (everywhere d x.1).has } }

-- every expression is typed, where the rules give the last one a type
none_untyped : (S : Src) → Formed S → TreeOk S → {U : Ty} {t : Effect} → Has S (host_ctx S) (root S) U t → first_untyped 0 (types S) ≡ none
unfolding types type_of
none_untyped S ok tree d = all_typed (types S) 0 (λ e h. at e (omega (arith, h, types_to_length S (length S.cmds))))
  where
    at : (e : ℕ) → e < length S.cmds → (T : Ty) × (s : Effect) × (type_of S e ≡ typed T s)
    at e h = let x = stands S ok tree.used e h in let z = least S ok tree x.1 (everywhere d x.1).has in (z.0, z.1, z.2)

-- and the other way round: a job whose expressions are used as is due, in which nothing is bound twice, and to which the rules give some type, with an effect below the rights, is accepted
pub typed_accepted : (S : Src) → Formed S → Each S (UsedAsDue S) → Each S (BindsAnew S) → {U : Ty} {t : Effect} → Has S (host_ctx S) (root S) U t → EffBelow (up_of S) t S.rights
    → (T : Ty) × (s : Effect) × (judge S ≡ accept T s)
unfolding judge unless judged within
typed_accepted S ok used anew d u =
    let tree = typed_scoped S ok used anew d in
    let z = least S ok tree x_root d in
    (z.0, z.1, rw ((tree_ok S ok).1 tree, none_untyped S ok tree d, z.2, →eff_below ok.proper (eff_trans z.4 u)))
