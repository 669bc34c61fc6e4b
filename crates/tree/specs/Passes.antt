-- The pass over a job's tables for number 10, step by step, and the passes for 8, 9 and 10 together. `Holds` says which tables hold a job, and `Right` that the passes then find the job's refusal.
use Rattle.std.specs.Prelude.{ℕ, zero, suc, ◌+◌, ◌-◌, ◌*◌, ◌/◌, ◌%◌, ◌^◌, Bool, true, false, cond, List, get_or, set, replicate, eqb, ltb}
use Rattle.std.proofs.Math.Option.{Option, some}
use Rattle.std.specs.Int.Bits.{bit_or}
use Rattle.order.specs.Sets.{bit}
use Rattle.syntax.specs.Reading.{Refusal, most_declared, most_types, most_variables, most_expressions}
use Rattle.syntax.specs.Tree.{first_bad, or_else, numbered}
use Rattle.names.specs.Ancestors.{one_of}
use Rattle.uses.specs.Passes.{is_operand, is_body, bound_of, type_place, counts_by, right_count, is_new}

-- refusal 10: the host's variables; its names with 0 and 1
unfoldable pub host_vars : ℕ → ℕ
host_vars n = cond (ltb n most_variables) (1 * 2 ^ n % 2 ^ 64 - 1) 0xFFFFFFFFFFFFFFFF

unfoldable pub host_name : ℕ → ℕ → ℕ
host_name w n = cond (eqb (w / 256) 1) (one_of n) 0

unfoldable pub host_names : List ℕ → ℕ → ℕ
host_names names zero = 3
host_names names (suc n) = bit_or (host_names names n) (host_name (get_or names (n + 2) 0) (n + 2))

-- the names in a type, by those in its parts
unfoldable pub type_names : ℕ → ℕ → List ℕ → ℕ
type_names w s m =
    cond (eqb (w % 256) 0x11) (bit_or (one_of (w / 256 % 256)) (bit_or (get_or m (w / 65536 % 65536) 0) (get_or m (w / 4294967296 % 65536) 0)))
    (cond (eqb (w % 256) 0x12) (bit_or (one_of (w / 256 % 256)) (get_or m (w / 65536 % 65536) 0))
    (cond (eqb (w % 256) 0x13) (bit_or (one_of (w / 256 % 256)) (bit_or (bit_or (get_or m (w / 65536 % 65536) 0) (get_or m (w / 4294967296 % 65536) 0)) s))
    (cond (eqb (w % 256) 0x14) (bit_or (one_of (w / 256 % 256)) (one_of (w / 65536 % 256)))
    (cond (eqb (w % 256) 0x15) (bit_or (one_of (w / 256 % 256)) (one_of (w / 65536 % 256)))
    (one_of (w / 256 % 256))))))

unfoldable pub masks_from : List ℕ → List ℕ → ℕ → ℕ → List ℕ → List ℕ
masks_from types sets i zero m = m
masks_from types sets i (suc f) m = masks_from types sets (i + 1) f (set m i (type_names (get_or types i 0) (get_or sets i 0) m))

unfoldable pub masks_by : List ℕ → List ℕ → ℕ → List ℕ
masks_by types sets n = masks_from types sets 0 n (replicate most_types 0)

-- expression e passes its scope x to the operand c in place i, with what it binds where that is its body
unfoldable pub inherited_by : Bool → ℕ → ℕ → ℕ → ℕ
inherited_by is_name w i x = cond (is_body w i) (bit_or x (one_of (bound_of is_name w))) x

unfoldable pub put_in : List ℕ → ℕ → ℕ → List ℕ
put_in sc c x = cond (ltb c most_expressions) (set sc c x) sc

unfoldable pub inherit_step : Bool → List ℕ → ℕ → ℕ → ℕ → ℕ → List ℕ
inherit_step is_name sc w i e c = cond (is_operand w i) (put_in sc c (inherited_by is_name w i (get_or sc e 0))) sc

-- the places from the last down
unfoldable pub inherited_down : Bool → List ℕ → List ℕ → ℕ → List ℕ → List ℕ
inherited_down is_name heads slots zero sc = sc
inherited_down is_name heads slots (suc j) sc = inherited_down is_name heads slots j (inherit_step is_name sc (get_or heads (j / 5) 0) (j % 5) (j / 5) (get_or slots j 0))

-- the last expression stands in the host's scope
unfoldable pub scopes_by : Bool → List ℕ → List ℕ → ℕ → ℕ → List ℕ
scopes_by is_name heads slots n host = inherited_down is_name heads slots (n * 5) (put_in (replicate most_expressions 0) (n - 1) host)

-- the names in the type operand of the expression with this head
unfoldable pub operand_names : List ℕ → List ℕ → ℕ → ℕ → ℕ
operand_names masks slots e w = cond (ltb (type_place (w % 256)) 5) (get_or masks (get_or slots (e * 5 + type_place (w % 256)) 0) 0) 0

-- the variable that it uses is in scope
unfoldable pub var_fits : ℕ → ℕ → Bool
var_fits w x = cond (eqb (w % 256) 0x32) (bit x (w / 256 % 256)) true

unfoldable pub is_scoped : List ℕ → List ℕ → List ℕ → List ℕ → List ℕ → ℕ → Bool
is_scoped heads slots masks vars names e =
    cond (var_fits (get_or heads e 0) (get_or vars e 0)) (eqb (bit_or (operand_names masks slots e (get_or heads e 0)) (get_or names e 0)) (get_or names e 0)) false

-- refusal 8 before 9 before 10
unfoldable pub scope_refusal : List ℕ → List ℕ → ℕ → List ℕ → ℕ → List ℕ → List ℕ → ℕ → ℕ → Option Refusal
scope_refusal heads slots n names nnames types sets ntypes nvalues =
    numbered 10
    (first_bad
    (is_scoped heads slots (masks_by types sets ntypes) (scopes_by false heads slots n (host_vars nvalues)) (scopes_by true heads slots n (host_names names nnames)))
    0
    n)

unfoldable pub table_refusal : List ℕ → List ℕ → ℕ → List ℕ → ℕ → List ℕ → List ℕ → ℕ → ℕ → Option Refusal
table_refusal heads slots n names nnames types sets ntypes nvalues =
    or_else (numbered 8 (first_bad (right_count (counts_by heads slots n) n) 0 n))
    (or_else (numbered 9 (first_bad (is_new heads) 0 n))
    (scope_refusal heads slots n names nnames types sets ntypes nvalues))

-- a job has an expression, and no more entries than the limits
unfoldable pub in_limits : ℕ → ℕ → ℕ → Bool
in_limits n nnames ntypes =
    cond (eqb n 0) false (cond (ltb most_expressions n) false (cond (ltb most_declared nnames) false (cond (ltb most_types ntypes) false true)))

-- for all tables and counts; those that are not in the limits hold no job, and are refused with 8 at the first expression
unfoldable pub tree_by : List ℕ → List ℕ → ℕ → List ℕ → ℕ → List ℕ → List ℕ → ℕ → ℕ → Option Refusal
tree_by heads slots n names nnames types sets ntypes nvalues = cond (in_limits n nnames ntypes) (table_refusal heads slots n names nnames types sets ntypes nvalues) (numbered 8 (some 0))
