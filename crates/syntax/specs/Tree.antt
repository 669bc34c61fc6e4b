-- The expressions as a tree (refusals 8, 9 and 10): each is used once, nothing is bound twice, and what is used is in scope.
use Rattle.std.specs.Prelude.{ℕ, zero, suc, ◌+◌, Bool, true, cond, not, length, take, eqb, ltb}
use mathlib.Core.List.{List, [], ◌∷◌, ◌++◌, map, flat_map, zip_with}
use Rattle.std.proofs.Math.Option.{Option, none, some}
use Rattle.order.specs.Bools.{◌and◌}
use Rattle.order.specs.Sets.{some_of, all_of}
use Rattle.syntax.specs.Types.{Ty, pair, lim, grant, names_in}
use Rattle.syntax.specs.Commands.{Cmd, r_parameter, r_keypair}
use Rattle.syntax.specs.Operands.{nth, of_roles, children, inner, types_of, uses_var, binds_name}
use Rattle.syntax.specs.Job.{Name, HostValue, Src}
use Rattle.syntax.specs.Reading.{Refusal}

-- what is in scope: a variable with its type, a name
pub data Entry : Type 0 where
  e_var : ℕ → Ty → Entry
  e_name : ℕ → Entry

-- "v is a pair of unkeyed limit and grant key of r"
abbrev pub key_pair : ℕ → Ty
key_pair r = pair 0 (lim 0 r) (grant 0 r)

-- variables ps of the types ts, variables qs of the keys of the names rs, and these names
unfoldable pub entries_of : List ℕ → List Ty → List ℕ → List ℕ → List Entry
unfolding zip_with
entries_of ps ts qs rs = zip_with e_var ps ts ++ (zip_with (λ v r. e_var v (key_pair r)) qs rs ++ map e_name rs)

-- what a command binds in its body
unfoldable pub binds : Cmd Ty → List Entry
unfolding entries_of of_roles types_of binds_name
binds k = entries_of (of_roles (r_parameter ∷ []) k) (types_of k) (of_roles (r_keypair ∷ []) k) (binds_name k)

unfoldable pub vars_of : List Entry → List ℕ
vars_of [] = []
vars_of (e_var v T ∷ l) = v ∷ vars_of l
vars_of (e_name r ∷ l) = vars_of l

unfoldable pub names_of : List Entry → List ℕ
names_of [] = []
names_of (e_var v T ∷ l) = names_of l
names_of (e_name r ∷ l) = r ∷ names_of l

unfoldable pub mem_b : ℕ → List ℕ → Bool
mem_b x l = some_of (λ y. eqb x y) l

-- the names in a command's type operand
unfoldable pub uses_name : Cmd Ty → List ℕ
uses_name k = flat_map names_in (types_of k)

-- the host's context: its names, then its variables
unfoldable pub add_host : ℕ → Name → List Entry → List Entry
add_host n d Γ = cond d.host (e_name n ∷ Γ) Γ

unfoldable pub name_ctx : ℕ → List Name → List Entry → List Entry
name_ctx n [] Γ = Γ
name_ctx n (d ∷ ds) Γ = name_ctx (suc n) ds (add_host n d Γ)

unfoldable pub value_ctx : ℕ → List (HostValue Ty) → List Entry → List Entry
value_ctx v [] Γ = Γ
value_ctx v (h ∷ hs) Γ = value_ctx (suc v) hs (e_var v h.ty ∷ Γ)

unfoldable pub host_ctx : Src → List Entry
host_ctx S = value_ctx 0 S.values (name_ctx 2 S.names [])

unfoldable pub predecessor : ℕ → ℕ
predecessor zero = 0
predecessor (suc n) = n

-- "The last expression is the job."
unfoldable pub root : Src → ℕ
root S = predecessor (length S.cmds)

-- how often c stands in a list; how often it is an operand
unfoldable pub count : ℕ → List ℕ → ℕ
count x [] = 0
count x (y ∷ l) = cond (eqb x y) 1 0 + count x l

unfoldable pub uses : List (Cmd Ty) → ℕ → ℕ
uses [] c = 0
uses (k ∷ l) c = count c (children k) + uses l c

-- refusal 8: used once, "the last: not at all"
unfoldable pub used_right : Src → ℕ → Bool
used_right S e = eqb (uses S.cmds e) (cond (eqb e (root S)) 0 1)

-- all that these expressions bind
unfoldable pub bound_by : List (Cmd Ty) → List Entry
bound_by l = flat_map binds l

-- refusal 9: "binds a variable or name bound before"
unfoldable pub binds_new : Src → ℕ → Bool
binds_new S e =
    let before = bound_by (take e S.cmds) in
    let own = binds (nth S.cmds e) in
    all_of (λ v. not (mem_b v (vars_of before))) (vars_of own) and all_of (λ r. not (mem_b r (names_of before))) (names_of own)

-- the first expression that has the operand c, when the list starts at number i
unfoldable pub parent : List (Cmd Ty) → ℕ → ℕ → ℕ
parent [] i c = i
parent (k ∷ l) i c = cond (mem_b c (children k)) i (parent l (suc i) c)

unfoldable pub scope_in : ℕ → Cmd Ty → List Entry
scope_in c k = cond (mem_b c (inner k)) (binds k) []

-- what is in scope at e: walk up, past at most f expressions, and collect what is bound where e is in the body
unfoldable pub ctx : Src → ℕ → ℕ → List Entry
ctx S zero e = host_ctx S
ctx S (suc f) e = cond (eqb e (root S)) (host_ctx S) (scope_in e (nth S.cmds (parent S.cmds 0 e)) ++ ctx S f (parent S.cmds 0 e))

-- a name is 0 or 1, or stands in the context
unfoldable pub name_in : List Entry → ℕ → Bool
name_in Γ n = cond (ltb n 2) true (mem_b n (names_of Γ))

-- refusal 10: "variable, or name in its type operand, out of scope"
unfoldable pub in_scope : Src → ℕ → Bool
in_scope S e =
    let Γ = ctx S (length S.cmds) e in
    let k = nth S.cmds e in
    all_of (λ v. mem_b v (vars_of Γ)) (uses_var k) and all_of (name_in Γ) (uses_name k)

-- the lowest of the n expressions from i on that a test fails for
unfoldable pub first_bad : (ℕ → Bool) → ℕ → ℕ → Option ℕ
first_bad p i zero = none
first_bad p i (suc n) = cond (p i) (first_bad p (suc i) n) (some i)

unfoldable pub or_else : Option Refusal → Option Refusal → Option Refusal
or_else none r = r
or_else (some r) q = some r

unfoldable pub numbered : ℕ → Option ℕ → Option Refusal
numbered number none = none
numbered number (some e) = some (record { number = number; place = e })

unfoldable pub lowest : ℕ → (ℕ → Bool) → ℕ → Option Refusal
lowest number p n = numbered number (first_bad p 0 n)

-- "each for all expressions", refusal 8 before 9 before 10
unfoldable pub tree_refusal : Src → Option Refusal
tree_refusal S =
    let n = length S.cmds in
    or_else (lowest 8 (used_right S) n) (or_else (lowest 9 (binds_new S) n) (lowest 10 (in_scope S) n))
