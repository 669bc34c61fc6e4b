-- Laws that the functions' proofs cite.
use mathlib.Core.Path.{◌≡◌}
use Prim.Native.Nat.{ℕ}
use mathlib.Core.Bool.{false}
use mathlib.Core.List.{List}
use lib.ListN.{length, replicate}
use lib.Dec.{eqb}
use Rattle.syntax.specs.Loading.{zeros}
use Rattle.checker.specs.Answer.{unless_one}

-- 1 writes nothing, every other number clears
pub one_kept : (n : ℕ) (l : List ℕ) → n ≡ 1 → l ≡ unless_one n l
unfolding unless_one
one_kept n l h = rw h

pub other_cleared : (n : ℕ) (l k : List ℕ) → eqb n 1 ≡ false → k ≡ replicate (length l) 0 → k ≡ unless_one n l
unfolding unless_one zeros
other_cleared n l k h e = rw h e
