-- The least type and effect of each expression: what the checker computes, and refusals 11, 12, 13 and 16.
use Rattle.std.specs.Prelude.{ℕ, zero, suc, Bool, false, cond, List, [], ◌∷◌, ◌++◌, length, get_or, eqb}
use Rattle.std.proofs.Math.Option.{Option, none, some}
use Rattle.std.proofs.Math.ListN.{get_elem?}
use Rattle.order.specs.Effects.{Effect, pure, of_names, touch, join, drop, raise, reduce, eff_below}
use Rattle.syntax.specs.Types.{Ty, num, pair, cell, fn, lim, on_num, on_pair, on_cell, on_fn, on_lim, on_grant, key_of, rekey}
use Rattle.syntax.specs.Commands.{Cmd, c_num, c_top, c_var, c_pair, c_part, c_fn, c_app, c_new, c_asg, c_read, c_sum, c_test, c_lim, c_grant, c_newkey, c_assoc, c_access, c_divide, c_spawn}
use Rattle.syntax.specs.Operands.{nth}
use Rattle.syntax.specs.Job.{Src, up_of}
use Rattle.syntax.specs.Reading.{Refusal}
use Rattle.syntax.specs.Tree.{Entry, e_var, e_name, host_ctx, bound_by}
use Rattle.typing.specs.Subtype.{sub_ty}

-- a type and an effect, or the number of a refusal
pub data Typed : Type 0 where
  typed : Ty → Effect → Typed
  untyped : ℕ → Typed

-- an operand's type and effect
unfoldable pub with : Typed → (Ty → Effect → Typed) → Typed
with (typed T s) f = f T s
with (untyped n) f = untyped n

-- refusal 11: an operand of the wrong kind
unfoldable pub want_num : Ty → (ℕ → Typed) → Typed
want_num T f = on_num T f (untyped 11)

unfoldable pub want_pair : Ty → (ℕ → Ty → Ty → Typed) → Typed
want_pair T f = on_pair T f (untyped 11)

unfoldable pub want_cell : Ty → (ℕ → Ty → Typed) → Typed
want_cell T f = on_cell T f (untyped 11)

unfoldable pub want_fn : Ty → (ℕ → Ty → Ty → Effect → Typed) → Typed
want_fn T f = on_fn T f (untyped 11)

unfoldable pub want_lim : Ty → (ℕ → ℕ → Typed) → Typed
want_lim T f = on_lim T f (untyped 11)

unfoldable pub want_grant : Ty → (ℕ → ℕ → Typed) → Typed
want_grant T f = on_grant T f (untyped 11)

-- a condition, and the number given where it fails
unfoldable pub require : ℕ → Bool → Typed → Typed
require n b t = cond b t (untyped n)

unfoldable pub is_upper : Option ℕ → ℕ → Bool
is_upper none u = false
is_upper (some w) u = eqb u w

-- the type of a variable, wherever it is bound
unfoldable pub type_in : List Entry → ℕ → Option Ty
type_in [] x = none
type_in (e_var y T ∷ Γ) x = cond (eqb x y) (some T) (type_in Γ x)
type_in (e_name r ∷ Γ) x = type_in Γ x

unfoldable pub var_type : Src → ℕ → Option Ty
var_type S x = type_in (bound_by S.cmds ++ host_ctx S) x

unfoldable pub of_var : Option Ty → Typed
of_var none = untyped 11
of_var (some T) = typed T pure

-- the limit keys of 0x3C: their names, and the effect of evaluating them and touching them
unfoldable pub keys_at : (ℕ → Typed) → List ℕ → (List ℕ → Effect → Typed) → Typed
keys_at tab [] f = f [] pure
keys_at tab (a ∷ ks) f = with (tab a) (λ K s. want_lim K (λ q r. keys_at tab ks (λ rs t. f (r ∷ rs) (touch q (join s t)))))

-- a command, given what its operands have; "Effects join and are then reduced"
unfoldable pub type_at : Src → (ℕ → Typed) → Cmd Ty → Typed
type_at S tab (c_num n) = typed (num 0) pure
type_at S tab c_top = typed (lim 0 1) pure
type_at S tab (c_var x) = of_var (var_type S x)
type_at S tab (c_pair a b) = with (tab a) (λ A s. with (tab b) (λ B t. typed (pair 0 A B) (reduce (up_of S) (join s t))))
type_at S tab (c_part a i) = with (tab a) (λ P s. want_pair P (λ q A B. typed (cond i A B) (reduce (up_of S) (touch q s))))
type_at S tab (c_fn x T b) = with (tab b) (λ U s. typed (fn 0 T U s) pure)
type_at S tab (c_app f a) =
    with (tab f) (λ F s. with (tab a) (λ A t. want_fn F (λ q T U l. require 12 (sub_ty (up_of S) A T) (typed U (reduce (up_of S) (touch q (join l (join s t))))))))
type_at S tab (c_new T a) = with (tab a) (λ A s. require 12 (sub_ty (up_of S) A T) (typed (cell 0 T) s))
type_at S tab (c_asg a b) =
    with (tab a) (λ C s. with (tab b) (λ A t. want_cell C (λ q T. require 12 (sub_ty (up_of S) A T) (typed T (reduce (up_of S) (touch q (join s t)))))))
type_at S tab (c_read a) = with (tab a) (λ C s. want_cell C (λ q T. typed T (reduce (up_of S) (touch q s))))
type_at S tab (c_sum i a b) =
    with (tab a) (λ A s. with (tab b) (λ B t. want_num A (λ p. want_num B (λ q. typed (num 0) (reduce (up_of S) (touch p (touch q (join s t))))))))
type_at S tab (c_test a b c T) =
    with (tab a) (λ A s. with (tab b) (λ B t. with (tab c) (λ C u.
    want_num A (λ q. require 12 (sub_ty (up_of S) B T) (require 12 (sub_ty (up_of S) C T) (typed T (reduce (up_of S) (touch q (join s (join t u))))))))))
type_at S tab (c_lim ks b) = keys_at tab ks (λ rs s. with (tab b) (λ T t. require 13 (eff_below (up_of S) t (of_names rs)) (typed T (reduce (up_of S) (join s t)))))
type_at S tab (c_grant a b) =
    with (tab a) (λ A s. with (tab b) (λ T t. want_grant A (λ q r. typed T (reduce (up_of S) (touch q (join s (drop (up_of S) r t)))))))
type_at S tab (c_newkey x r a b T) =
    with (tab a) (λ A s. with (tab b) (λ B t. want_lim A (λ q u.
    require 11 (is_upper (get_elem? (up_of S) r) u) (require 12 (sub_ty (up_of S) B T) (typed T (reduce (up_of S) (touch q (join s (raise r u t)))))))))
type_at S tab (c_assoc a b) =
    with (tab a) (λ A s. with (tab b) (λ B t. want_lim B (λ q r. typed (rekey r A) (reduce (up_of S) (touch (key_of A) (touch q (join s t)))))))
type_at S tab (c_access a b c T) =
    with (tab a) (λ A s. with (tab b) (λ B t. with (tab c) (λ C u.
    want_lim A (λ q r. require 12 (sub_ty (up_of S) B T) (require 12 (sub_ty (up_of S) C T) (typed T (reduce (up_of S) (touch q (join s (join (drop (up_of S) r t) u))))))))))
type_at S tab (c_divide a b) =
    with (tab a) (λ A s. with (tab b) (λ B t. want_num A (λ p. want_num B (λ q. typed (pair 0 (num 0) (num 0)) (reduce (up_of S) (touch p (touch q (join s t))))))))
type_at S tab (c_spawn b) = with (tab b) (λ T t. require 16 (eff_below (up_of S) t pure) (typed (num 0) pure))

-- what is written in a list of results; past its end there is none, and 0 is no refusal's number
unfoldable pub get : List Typed → ℕ → Typed
get l e = get_or l e (untyped 0)

-- one expression more
unfoldable pub extend : Src → ℕ → List Typed → List Typed
extend S n l = l ++ (type_at S (get l) (nth S.cmds n) ∷ [])

-- the first n expressions, in order
unfoldable pub types_to : Src → ℕ → List Typed
types_to S zero = []
types_to S (suc n) = extend S n (types_to S n)

unfoldable pub types : Src → List Typed
types S = types_to S (length S.cmds)

unfoldable pub type_of : Src → ℕ → Typed
type_of S e = get (types S) e

-- "Typing, by expression": the first that has no type
unfoldable pub first_untyped : ℕ → List Typed → Option Refusal
first_untyped e [] = none
first_untyped e (typed T s ∷ l) = first_untyped (suc e) l
first_untyped e (untyped n ∷ l) = some (record { number = n; place = e })
