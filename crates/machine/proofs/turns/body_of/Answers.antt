use mathlib.Core.Path.{◌≡◌, sym, ap, ◌∙◌}
use Prim.Native.Nat.{ℕ, ◌*◌}
use native.Mathlib.Omega.{arith}
use lib.ListN.{get_or}
use Rattle.semantics.specs.Machine.{enter, hand}
use Rattle.table.specs.declared.Expr.{Expr}
use Rattle.store.specs.Words.{word_in}
use Rattle.acts.specs.declared.Control.{Control}
use Rattle.acts.specs.declared.Control.TheVariants.{Enter, Hand}
use Rattle.acts.specs.Meaning.{control_in}
use Rattle.machine.proofs.turns.body_of.Goals as goal

entered : (k : Control) (x : Expr) (e : ℕ) → k ≡ Enter x → control_in k ≡ enter e → x.0 ≡ e
entered k x e p q = let z : enter x.0 ≡ enter e = sym (ap control_in p) ∙ q in cc

never : (k : Control) (v : ℕ) (e : ℕ) → k ≡ Hand v → control_in k ≡ enter e → ⊥
never k v e p q =
    let z : hand (word_in v) ≡ enter e = sym (ap control_in p) ∙ q in
    let y : ◌≡◌ {A = ℕ} 0 1 = cc in
    omega arith

pub returns-in-Enter : goal.returns-in-Enter
returns-in-Enter c = λ e h.
    c.get_or.ensures
    ∙ ap (λ (i : ℕ). get_or c.args.slots.now (i * 5) 0)
    (entered _ _ e c.in-Enter.is h)

pub returns-in-Hand : goal.returns-in-Hand
returns-in-Hand c = λ e h. absurd (never _ _ e c.in-Hand.is h)
