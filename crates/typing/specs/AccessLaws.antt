-- The two commands whose effect says which access to cells a job gains or asks for, 0x3F and 0x40 (F-1 of document 02), said apart from their rules and from the checker's function: which effects
-- their own is below, exactly; their types; and of 0x40 the number of each refusal.
use Rattle.std.specs.Prelude.{◌≡◌, ◌⊎◌}
use Prim.Native.Nat.{ℕ}
use mathlib.Core.List.{List, Memᴰ}
use Rattle.order.specs.Order.{Below}
use Rattle.order.specs.Effects.{Effect, names, EffBelow}

-- the name is 0, or below a name of the effect
abbrev pub Under : List ℕ → ℕ → Effect → Type 0
Under up n v = (n ≡ 0) ⊎ ((m : ℕ) × Memᴰ m (names v) × Below up n m)

-- what a command that touches both its operands asks of an effect (or of the rights) v: the operands' effects s and t, and the names p and q of their keys
pub record BothTouched (up : List ℕ) (p q : ℕ) (s t v : Effect) : Type 0 where
  pub first : EffBelow up s v
  pub second : EffBelow up t v
  pub first_touched : Under up p v
  pub second_touched : Under up q v

-- what 0x40 asks of an effect (or of the rights) v: the key operand's effect s, the name q of the key's own key ("The key is touched"), each name of the first branch's effect t that is not below
-- the name r that the key stands for, and the second branch's effect u
pub record Asks (up : List ℕ) (q r : ℕ) (s t u v : Effect) : Type 0 where
  pub key : EffBelow up s v
  pub touched : Under up q v
  pub first : (n : ℕ) → Memᴰ n (names t) → Below up n r ⊎ Under up n v
  pub second : EffBelow up u v
