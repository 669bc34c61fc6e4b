-- How long numbers and the line of a refusal are, and that decimal digits are read back.
use Rattle.std.specs.Prelude.{ℕ, ◌+◌, ◌-◌, ◌*◌, List, [], ◌∷◌}

-- the number that decimal digits stand for, read on from v
unfoldable pub read_from : ℕ → List ℕ → ℕ
read_from v [] = v
read_from v (d ∷ s) = read_from (v * 10 + (d - 48)) s
