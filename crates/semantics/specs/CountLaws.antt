-- What a run counts, whatever the steps are: "A thread's count equals its steps in the definition." Each thread's count is its turns in the run, and never above its allowance; the counts of all together are the
-- steps that the run took; and it says spent exactly where a thread is unfinished, and every unfinished one has used its allowance to the last step: none with steps left is forgotten.
use Rattle.std.specs.Prelude.{List, [], ◌∷◌}
use Prim.Native.Nat.{ℕ, suc}
use Rattle.std.proofs.Math.Bool.{cond}
use Rattle.std.proofs.Math.Dec.{eqb}

-- how often thread i is among those that took a turn
unfoldable pub times : ℕ → List ℕ → ℕ
times i [] = 0
times i (j ∷ l) = cond (eqb j i) (suc (times i l)) (times i l)
