-- The numbers 8, 9 and 10, exactly: each is given when its fact fails, at the lowest expression where it does, and when the facts of the numbers before it hold of all expressions; none is given when
-- all three hold of all.
use Rattle.std.specs.Prelude.{ℕ}
use Rattle.syntax.specs.Reading.{Refusal}

-- refusal n at expression e
abbrev pub refusal : ℕ → ℕ → Refusal
refusal n e = record { number = n; place = e }

-- The search for the first failure of a test
