-- The parts of a division by their two cases: a divisor of 0, and one above.
use Rattle.std.proofs.Common.{◌≡◌, ℕ, zero, suc, ◌/◌, ◌%◌, ◌<◌, Option, Some, None, refl, arith}
use Rattle.std.specs.Prelude.{SomeIff}
use Rattle.std.specs.Option.{unwrap_or}
use Rattle.semantics.specs.Step.{quotient, remainder}

pub quotient_or_zero : (r : Option ℕ) (a b : ℕ) → SomeIff r (0 < b) (a / b) → unwrap_or r 0 ≡ quotient a b
unfolding quotient
quotient_or_zero None a zero h = refl
quotient_or_zero None a (suc b) h = absurd (h (omega arith))
quotient_or_zero (Some q) a zero h = absurd (omega (arith, h.0))
quotient_or_zero (Some q) a (suc b) h = h.1

pub remainder_or_all : (r : Option ℕ) (a b : ℕ) → SomeIff r (0 < b) (a % b) → unwrap_or r a ≡ remainder a b
unfolding remainder
remainder_or_all None a zero h = refl
remainder_or_all None a (suc b) h = absurd (h (omega arith))
remainder_or_all (Some q) a zero h = absurd (omega (arith, h.0))
remainder_or_all (Some q) a (suc b) h = h.1
