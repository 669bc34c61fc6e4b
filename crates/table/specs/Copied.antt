-- Bytes copied to the start of a lent buffer.
use Rattle.std.specs.Prelude.{ℕ, cond, List, ◌++◌, length, drop, ltb}

-- s at the start of b, and b as it was past it; b as it was where it is too short
unfoldable pub copied : List ℕ → List ℕ → List ℕ
copied s b = cond (ltb (length b) (length s)) b (s ++ drop (length s) b)
