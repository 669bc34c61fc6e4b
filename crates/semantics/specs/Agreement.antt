-- The rules and the machine touch the same operands, those of one list (`Wants`). By each rule but subsumption a name is in the effect of an expression exactly when it is
-- the key of an operand that the list has touched, or in the effect of an operand, or brought by what the act enters; and each operand is of the kind that the list wants.
use Rattle.std.specs.Prelude.{◌≡◌, ℕ, Bool, true, false, cond, ◌≢◌, ◌↔◌, length}
use mathlib.Core.List.{List, [], ◌∷◌, Memᴰ}
use Rattle.std.proofs.Math.Option.{some}
use Rattle.std.proofs.Math.ListN.{get_elem?}
use Rattle.order.specs.Bools.{◌and◌}
use Rattle.order.specs.Effects.{Effect, pure, names, join, drop, raise}
use Rattle.syntax.specs.Types.{Ty, fn, lim, grant, by_type, on_num, on_pair, on_cell, on_fn, on_lim, on_grant}
use Rattle.syntax.specs.Types
use Rattle.syntax.specs.Commands.{Cmd, c_num, c_top, c_var, c_pair, c_part, c_fn, c_app, c_new, c_asg, c_read, c_sum, c_test, c_lim, c_grant, c_newkey, c_assoc, c_access, c_divide, c_spawn}
use Rattle.syntax.specs.Operands.{evaluated}
use Rattle.syntax.specs.Job.{Src, up_of}
use Rattle.syntax.specs.Tree.{Entry, e_var, e_name, key_pair}
use Rattle.typing.specs.Rules.{Has, h_num, h_top, h_var, h_pair, h_part1, h_part2, h_fn, h_app, h_new, h_asg, h_read, h_sum, h_test, h_lim, h_grant, h_newkey, h_assoc, h_access, h_divide, h_spawn, h_sub}
use Rattle.semantics.specs.Wants.{Want, anything, a_number, a_pair, a_function, a_cell, a_limit, a_grant, Use, wants_of, is_touched}

-- a type is of the kind wanted
unfoldable pub suits_type : Want → Ty → Bool
suits_type anything T = true
suits_type a_number T = on_num T (λ q. true) false
suits_type a_pair T = on_pair T (λ q A B. true) false
suits_type a_function T = on_fn T (λ q A B s. true) false
suits_type a_cell T = on_cell T (λ q A. true) false
suits_type a_limit T = on_lim T (λ q r. true) false
suits_type a_grant T = on_grant T (λ q r. true) false

-- each type suits its place, and there are as many
unfoldable pub suit_types : List Use → List Ty → Bool
suit_types [] [] = true
suit_types [] (A ∷ As) = false
suit_types (u ∷ us) [] = false
suit_types (u ∷ us) (A ∷ As) = suits_type u.want A and suit_types us As

-- the keys' names of those that are touched, in order
unfoldable pub touched_names : List Use → List Ty → List ℕ
touched_names [] As = []
touched_names (u ∷ us) [] = []
touched_names (u ∷ us) (A ∷ As) = cond (is_touched u) (Types.key_of A ∷ touched_names us As) (touched_names us As)

-- operands, each with a type and an effect that the rules give it
pub data Operands (S : Src) (Γ : List Entry) : List ℕ → List Ty → List Effect → Type 0 where
  op_nil : Operands S Γ [] [] []
  op_cons : {a : ℕ} {A : Ty} {s : Effect} {l : List ℕ} {As : List Ty} {ss : List Effect} → Has S Γ a A s → Operands S Γ l As ss → Operands S Γ (a ∷ l) (A ∷ As) (s ∷ ss)

-- what comes into the effect beside its operands: the effect of the function that is applied, and what bodies and branches bring by their rule
pub data Brings (S : Src) (Γ : List Entry) : Cmd Ty → List Ty → Effect → Type 0 where
  b_num : {n : ℕ} {As : List Ty} → Brings S Γ (c_num n) As pure
  b_top : {As : List Ty} → Brings S Γ c_top As pure
  b_var : {x : ℕ} {As : List Ty} → Brings S Γ (c_var x) As pure
  b_pair : {a b : ℕ} {As : List Ty} → Brings S Γ (c_pair a b) As pure
  b_part : {a : ℕ} {i : Bool} {As : List Ty} → Brings S Γ (c_part a i) As pure
  b_fn : {x b : ℕ} {T : Ty} {As : List Ty} → Brings S Γ (c_fn x T b) As pure
  b_app : {f a q : ℕ} {T U : Ty} {l : Effect} {As : List Ty} → Brings S Γ (c_app f a) (fn q T U l ∷ As) l
  b_new : {a : ℕ} {T : Ty} {As : List Ty} → Brings S Γ (c_new T a) As pure
  b_asg : {a b : ℕ} {As : List Ty} → Brings S Γ (c_asg a b) As pure
  b_read : {a : ℕ} {As : List Ty} → Brings S Γ (c_read a) As pure
  b_sum : {a b : ℕ} {i : Bool} {As : List Ty} → Brings S Γ (c_sum i a b) As pure
  b_test : {a b c : ℕ} {B C T : Ty} {t u : Effect} {As : List Ty} → Has S Γ b B t → Has S Γ c C u → Brings S Γ (c_test a b c T) As (join t u)
  b_lim : {ks : List ℕ} {b : ℕ} {T : Ty} {t : Effect} {As : List Ty} → Has S Γ b T t → Brings S Γ (c_lim ks b) As t
  b_grant : {a b q r : ℕ} {T : Ty} {t : Effect} {As : List Ty} → Has S Γ b T t → Brings S Γ (c_grant a b) (grant q r ∷ As) (drop (up_of S) r t)
  b_newkey : {x r a b u : ℕ} {B T : Ty} {t : Effect} {As : List Ty}
      → get_elem? (up_of S) r ≡ some u → Has S (e_var x (key_pair r) ∷ e_name r ∷ Γ) b B t → Brings S Γ (c_newkey x r a b T) As (raise r u t)
  b_assoc : {a b : ℕ} {As : List Ty} → Brings S Γ (c_assoc a b) As pure
  b_access : {a b c q r : ℕ} {B C T : Ty} {t u : Effect} {As : List Ty} → Has S Γ b B t → Has S Γ c C u → Brings S Γ (c_access a b c T) (lim q r ∷ As) (join (drop (up_of S) r t) u)
  b_divide : {a b : ℕ} {As : List Ty} → Brings S Γ (c_divide a b) As pure
  b_spawn : {b : ℕ} {As : List Ty} → Brings S Γ (c_spawn b) As pure

-- the name is in one of the effects
pub data InOne (n : ℕ) : List Effect → Type 0 where
  in_first : {s : Effect} {ss : List Effect} → Memᴰ n (names s) → InOne n (s ∷ ss)
  in_later : {s : Effect} {ss : List Effect} → InOne n ss → InOne n (s ∷ ss)

-- where a name in an effect comes from
pub data From (n : ℕ) (ts : List ℕ) (ss : List Effect) (b : Effect) : Type 0 where
  touched_key : Memᴰ n ts → n ≢ 0 → From n ts ss b
  of_operand : InOne n ss → From n ts ss b
  of_body : Memᴰ n (names b) → From n ts ss b

-- the names of an effect are those that come from there, and no others
pub record Names (s : Effect) (ts : List ℕ) (ss : List Effect) (b : Effect) : Type 0 where
  pub each : (n : ℕ) → Memᴰ n (names s) ↔ From n ts ss b

-- an expression's effect by its rule; what has no operand to evaluate touches nothing
pub data Ruled (S : Src) (Γ : List Entry) (k : Cmd Ty) (s : Effect) : Type 0 where
  by_act : {As : List Ty} {ss : List Effect} {b : Effect} → Operands S Γ (evaluated k) As ss → suit_types (wants_of k (length As)).uses As ≡ true
      → Brings S Γ k As b → Names s (touched_names (wants_of k (length As)).uses As) ss b → Ruled S Γ k s

-- the last rule is subsumption
unfoldable pub by_sub : {S : Src} {Γ : List Entry} {e : ℕ} {T : Ty} {s : Effect} → Has S Γ e T s → Bool
by_sub (h_num c) = false
by_sub (h_top c) = false
by_sub (h_var c l) = false
by_sub (h_pair c h i) = false
by_sub (h_part1 c h) = false
by_sub (h_part2 c h) = false
by_sub (h_fn c w h) = false
by_sub (h_app c h i p) = false
by_sub (h_new c w h p) = false
by_sub (h_asg c h i p) = false
by_sub (h_read c h) = false
by_sub (h_sum c h i) = false
by_sub (h_test c w h i j p q) = false
by_sub (h_lim c h i p) = false
by_sub (h_grant c h i) = false
by_sub (h_newkey c w h u v f i p) = false
by_sub (h_assoc c h i) = false
by_sub (h_access c w h i j p q) = false
by_sub (h_divide c h i) = false
by_sub (h_spawn c h) = false
by_sub (h_sub h p w q x) = true

-- Names in the effects that the rules write
