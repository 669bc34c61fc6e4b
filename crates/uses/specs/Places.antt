-- The places of one expression taken together: an act at its last place where that is an operand, then at its first ones from the highest down.
-- `Places` of the proofs shows that this is the step of the passes at each of its five places.
use Rattle.std.specs.Prelude.{ℕ, zero, suc, ◌+◌, ◌*◌, ◌/◌, ◌%◌, Bool, true, cond, List, get_or, eqb, ltb}
use Rattle.uses.specs.Passes.{arity_of, tallied}

-- the last place is an operand: the body of 0x3C
unfoldable pub last_is_operand : ℕ → Bool
last_is_operand w = eqb (w % 256) 0x3C

-- how many of the first four places are operands; of 0x3C the keys that are used
unfoldable pub first_operands : ℕ → ℕ
first_operands w = cond (eqb (w % 256) 0x3C) (cond (ltb (w / 256) 4) (w / 256) 4) (arity_of (w % 256))

-- an act at the last place, where that is an operand
unfoldable pub at_last : (ℕ → List ℕ → List ℕ) → ℕ → List ℕ → List ℕ
at_last act w l = cond (last_is_operand w) (act 4 l) l

-- an act at the first places, from the highest down
unfoldable pub at_first : (ℕ → List ℕ → List ℕ) → ℕ → List ℕ → List ℕ
at_first act zero l = l
at_first act (suc i) l = at_first act i (act i l)

-- refusal 8: place i of expression e is a use
unfoldable pub tally_at : List ℕ → ℕ → ℕ → List ℕ → List ℕ
tally_at slots e i l = tallied l (get_or slots (e * 5 + i) 0)

-- refusal 9: the command binds a variable, or a variable and a name
unfoldable pub is_binder : ℕ → Bool
is_binder w = cond (eqb (w % 256) 0x35) true (eqb (w % 256) 0x3E)
