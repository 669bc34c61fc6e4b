use Rattle.std.proofs.Common.{◌≡◌, ℕ, ◌≤◌, refl, List, [], ◌∷◌, length, take, slice_set, arith}
use Rattle.stream.proofs.tests.StarPrinter.print.Goals as goal

one_star : (l : List ℕ) → 1 ≤ length l → take 1 (slice_set l 0 42) ≡ 42 ∷ []
one_star [] h = absurd (omega arith)
one_star (x ∷ l) h = refl

pub returns-else-buffer-eq1 : goal.returns-else-buffer-eq1
returns-else-buffer-eq1 c = one_star _ c.requires
