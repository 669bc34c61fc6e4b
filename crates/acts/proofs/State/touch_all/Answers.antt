use Rattle.std.proofs.Common.{◌≡◌, Bool, true, false, cond, refl, sym, ◌∙◌}
use Rattle.order.specs.Sets.{all_of}
use Rattle.acts.proofs.State.touch_all.Goals as goal
use Rattle.acts.proofs.State.touch_all.Goals.{then-touch, else-touch, then-touch-2, else-touch-2}

-- one test more
more : (v x : Bool) {y r : Bool} → v ≡ true → r ≡ y → x ≡ v → r ≡ cond x y false
more v x e f g = simp (g, e) f

none : (v x y : Bool) {r : Bool} → v ≡ false → r ≡ false → x ≡ v → r ≡ cond x y false
none v x y e f g = simp (g, e) f

-- four, from left to right
four : (a b c d v u r : Bool) → v ≡ cond a b false → u ≡ cond v c false → r ≡ cond u d false → r ≡ cond a (cond b (cond c (cond d true false) false) false) false
four true true true true v u r p q s = simp (s, q, p)
four true true true false v u r p q s = simp (s, q, p)
four true true false d v u r p q s = simp (s, q, p)
four true false c d v u r p q s = simp (s, q, p)
four false b c d v u r p q s = simp (s, q, p)

pub returns-then-touch-3 : goal.returns-then-touch-3
unfolding all_of
returns-then-touch-3 c = four _ _ _ _ c.if-touch.value c.if-touch-2.value c.touch-then-touch-3.result
    (elim c.if-touch.branch [
      | then-touch w ↦ more _ _ w.if-touch.true (w.value-is ∙ w.touch-then-touch.ensures) (sym c.touch.ensures)
      | else-touch w ↦ none _ _ _ w.if-touch.false (w.value-is ∙ w.if-touch.false) (sym c.touch.ensures)
    ])
    (elim c.if-touch-2.branch [
      | then-touch-2 w ↦ more _ _ w.if-touch-2.true (w.value-is ∙ w.touch-then-touch-2.ensures) refl
      | else-touch-2 w ↦ none _ _ _ w.if-touch-2.false (w.value-is ∙ w.if-touch-2.false) refl
    ])
    (more _ _ c.if-touch-3.true c.touch-then-touch-3.ensures refl)

pub returns-else-touch-3 : goal.returns-else-touch-3
unfolding all_of
returns-else-touch-3 c = four _ _ _ _ c.if-touch.value c.if-touch-2.value c.if-touch-2.value
    (elim c.if-touch.branch [
      | then-touch w ↦ more _ _ w.if-touch.true (w.value-is ∙ w.touch-then-touch.ensures) (sym c.touch.ensures)
      | else-touch w ↦ none _ _ _ w.if-touch.false (w.value-is ∙ w.if-touch.false) (sym c.touch.ensures)
    ])
    (elim c.if-touch-2.branch [
      | then-touch-2 w ↦ more _ _ w.if-touch-2.true (w.value-is ∙ w.touch-then-touch-2.ensures) refl
      | else-touch-2 w ↦ none _ _ _ w.if-touch-2.false (w.value-is ∙ w.if-touch-2.false) refl
    ])
    (none _ _ _ c.if-touch-3.false c.if-touch-3.false refl)
