-- "A kind is wrong where it is wrong in typing (11), names aside": where the operands in hand are values of the types that an act's operands have, and the list (`Wants`) finds no kind wrong, typing finds
-- none wrong either. The other way round, what has a type is never stuck, by progress.
use Rattle.std.specs.Prelude.{◌≡◌, ℕ, false}
use mathlib.Core.List.{List, [], ◌∷◌}
use Rattle.std.proofs.Math.Option.{none}
use Rattle.std.proofs.Math.ListN.{get_elem?}
use Rattle.order.specs.Effects.{Effect}
use Rattle.syntax.specs.Types.{Ty, num, pair, cell, fn, lim, grant}
use Rattle.syntax.specs.Commands.{Cmd, c_var, c_newkey}
use Rattle.syntax.specs.Job.{Src, up_of}
use Rattle.typing.specs.Least.{is_upper, var_type}
use Rattle.semantics.specs.Machine.{Kind, k_num, k_pair, k_fn, k_cell, k_lim, k_grant, Value}

-- a value of the type is of this kind
pub data Of : Ty → Kind → Type 0 where
  of_num : {q n : ℕ} → Of (num q) (k_num n)
  of_pair : {q n : ℕ} {A B : Ty} → Of (pair q A B) (k_pair n)
  of_cell : {q n : ℕ} {A : Ty} → Of (cell q A) (k_cell n)
  of_fn : {q n : ℕ} {A B : Ty} {s : Effect} → Of (fn q A B s) (k_fn n)
  of_lim : {q r n : ℕ} → Of (lim q r) (k_lim n)
  of_grant : {q r n : ℕ} → Of (grant q r) (k_grant n)

-- values of these types, in order
pub data OfAll : List Ty → List Value → Type 0 where
  of_nil : OfAll [] []
  of_cons : {A : Ty} {v : Value} {As : List Ty} {vs : List Value} → Of A v.kind → OfAll As vs → OfAll (A ∷ As) (v ∷ vs)

-- "names aside": 0x3E's key is a limit key of another name than r's upper name; or 0x32's variable is not bound, which is refusal 10
pub data Aside (S : Src) (ty : ℕ → Ty) : Cmd Ty → Type 0 where
  unbound : {x : ℕ} → var_type S x ≡ none → Aside S ty (c_var x)
  other_name : {x r a b q u : ℕ} {T : Ty} → ty a ≡ lim q u → is_upper (get_elem? (up_of S) r) u ≡ false → Aside S ty (c_newkey x r a b T)
