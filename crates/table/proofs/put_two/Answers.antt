use mathlib.Core.Path.{◌≡◌, ap, ◌∙◌}
use Prim.Native.Nat.{ℕ, suc, ◌+◌}
use native.Mathlib.Omega.{arith}
use mathlib.Core.List.{List}
use lib.ListN.{set}
use Rattle.table.specs.Told.{TwoPut}
use Rattle.table.proofs.put_two.Goals as goal

two_put : (s m k : List ℕ) (at x y : ℕ) → m ≡ set s at x → k ≡ set m (at + 1) y → TwoPut s k at x y
two_put s m k at x y g h = let e : at + 1 ≡ suc at = omega arith in record { same = h ∙ ap (λ (z : List ℕ). set z (at + 1) y) g ∙ ap (λ (i : ℕ). set (set s at x) i y) e }

pub returns : goal.returns
returns c = two_put _ _ _ _ _ _ c.set_at.ensures c.set_at-2.ensures
