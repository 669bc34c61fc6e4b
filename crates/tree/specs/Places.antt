-- The act of the pass for number 10 at one place of an expression. `Places` of the proofs shows that, taken over the places, it is the step of the pass at each of the five.
use Rattle.std.specs.Prelude.{ℕ, ◌+◌, ◌*◌, Bool, List, get_or}
use Rattle.tree.specs.Passes.{inherited_by, put_in}

-- refusal 10: expression e passes its scope to c, its operand in place i
unfoldable pub inherit_to : Bool → List ℕ → ℕ → ℕ → ℕ → ℕ → List ℕ
inherit_to is_name sc w i e c = put_in sc c (inherited_by is_name w i (get_or sc e 0))

unfoldable pub inherit_at : Bool → List ℕ → ℕ → ℕ → ℕ → List ℕ → List ℕ
inherit_at is_name slots w e i sc = inherit_to is_name sc w i e (get_or slots (e * 5 + i) 0)

-- where it binds nothing, the scope as it is
unfoldable pub pass_to : List ℕ → ℕ → ℕ → List ℕ
pass_to sc e c = put_in sc c (get_or sc e 0)

unfoldable pub pass_at : List ℕ → ℕ → ℕ → List ℕ → List ℕ
pass_at slots e i sc = pass_to sc e (get_or slots (e * 5 + i) 0)
