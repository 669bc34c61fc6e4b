-- What a head says of its operands and of what it binds, and the passes over the tables for numbers 8 and 9, step by step. `Uses` and `Binders` show that they are the tests of a job.
use Rattle.std.specs.Prelude.{ℕ, zero, suc, ◌+◌, ◌*◌, ◌/◌, ◌%◌, Bool, true, false, cond, not, List, get_or, set, replicate, eqb, ltb}
use Rattle.std.specs.Int.Bits.{bit_or}
use Rattle.order.specs.Sets.{bit}
use Rattle.syntax.specs.Reading.{most_expressions}
use Rattle.names.specs.Ancestors.{one_of}

-- how many of the first places of a command's operands are expressions; 0x3C has its own rule
unfoldable pub arity_of : ℕ → ℕ
arity_of b =
    cond (eqb b 0x33) 2
    (cond (eqb b 0x34) 1
    (cond (eqb b 0x35) 1
    (cond (eqb b 0x36) 2
    (cond (eqb b 0x37) 1
    (cond (eqb b 0x38) 2
    (cond (eqb b 0x39) 1
    (cond (eqb b 0x3A) 2
    (cond (eqb b 0x3B) 3
    (cond (eqb b 0x3D) 2
    (cond (eqb b 0x3E) 2
    (cond (eqb b 0x3F) 2
    (cond (eqb b 0x40) 3
    (cond (eqb b 0x41) 2
    (cond (eqb b 0x42) 1
    0))))))))))))))

-- place i of the command with this head is an expression; of 0x3C the keys that are used, and the body
unfoldable pub is_operand : ℕ → ℕ → Bool
is_operand w i = cond (eqb (w % 256) 0x3C) (cond (ltb i (w / 256)) true (eqb i 4)) (ltb i (arity_of (w % 256)))

-- the place of a command's type operand; 5 for none
unfoldable pub type_place : ℕ → ℕ
type_place b = cond (eqb b 0x35) 1 (cond (eqb b 0x37) 1 (cond (eqb b 0x3B) 3 (cond (eqb b 0x3E) 2 (cond (eqb b 0x40) 3 5))))

-- place i is the body of a binder: of 0x35 and 0x3E
unfoldable pub is_body : ℕ → ℕ → Bool
is_body w i = cond (eqb (w % 256) 0x35) (eqb i 0) (cond (eqb (w % 256) 0x3E) (eqb i 1) false)

-- the variable or the local name that the command binds; 64 for none
unfoldable pub bound_var : ℕ → ℕ
bound_var w = cond (eqb (w % 256) 0x35) (w / 256 % 256) (cond (eqb (w % 256) 0x3E) (w / 256 % 256) 64)

unfoldable pub bound_name : ℕ → ℕ
bound_name w = cond (eqb (w % 256) 0x3E) (w / 65536 % 256) 64

unfoldable pub bound_of : Bool → ℕ → ℕ
bound_of is_name w = cond is_name (bound_name w) (bound_var w)

-- refusal 8: the uses of each expression, no more than 2 told apart; the places from the last down
unfoldable pub one_more : ℕ → ℕ
one_more x = cond (ltb x 2) (x + 1) 2

unfoldable pub tallied : List ℕ → ℕ → List ℕ
tallied l c = cond (ltb c most_expressions) (set l c (one_more (get_or l c 0))) l

unfoldable pub count_step : List ℕ → ℕ → ℕ → ℕ → List ℕ
count_step l w i c = cond (is_operand w i) (tallied l c) l

unfoldable pub counted : List ℕ → List ℕ → ℕ → List ℕ → List ℕ
counted heads slots zero l = l
counted heads slots (suc j) l = counted heads slots j (count_step l (get_or heads (j / 5) 0) (j % 5) (get_or slots j 0))

unfoldable pub counts_by : List ℕ → List ℕ → ℕ → List ℕ
counts_by heads slots n = counted heads slots (n * 5) (replicate most_expressions 0)

-- once, and the last not at all
unfoldable pub right_count : List ℕ → ℕ → ℕ → Bool
right_count counts n e = eqb (get_or counts e 0) (cond (eqb (e + 1) n) 0 1)

-- refusal 9: what the expressions before e bind
unfoldable pub before : Bool → List ℕ → ℕ → ℕ
before is_name heads zero = 0
before is_name heads (suc e) = bit_or (before is_name heads e) (one_of (bound_of is_name (get_or heads e 0)))

unfoldable pub is_new : List ℕ → ℕ → Bool
is_new heads e = cond (bit (before false heads e) (bound_var (get_or heads e 0))) false (not (bit (before true heads e) (bound_name (get_or heads e 0))))
