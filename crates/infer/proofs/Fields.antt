-- The bytes of a head's operand are fields of the head.
use mathlib.Core.Path.{◌≡◌}
use Prim.Native.Nat.{ℕ, ◌/◌, ◌%◌}
use native.Mathlib.Omega.{arith}

pub lead_low : (w : ℕ) → w / 256 % 4294967296 % 256 ≡ w / 256 % 256
lead_low w = omega arith

pub lead_local : (w : ℕ) → w / 256 % 4294967296 / 256 % 256 ≡ w / 65536 % 256
lead_local w = omega arith
