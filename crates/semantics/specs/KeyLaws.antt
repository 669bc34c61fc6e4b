-- What is enabled, exactly: no less than document 01's machine enables, and no more. Safety alone would not notice a machine that enables too much.
use Prim.Native.Nat.{ℕ}
use mathlib.Core.List.{List, Memᴰ}
use Rattle.order.specs.Order.{Below}

-- Sets of keys

-- k is below a key of the list
abbrev pub BelowOne : List ℕ → ℕ → List ℕ → Type 0
BelowOne up k l = (a : ℕ) × Memᴰ a l × Below up k a
