-- The rules of document 01 ("Types of expressions"), to be held against Figure 2 of document 000: `Has S Γ e T s` says that in the context Γ expression e of
-- the job S has type T and effect s. A rule for each command (two for 0x34, by its part), and subsumption. What a rule takes from the job or chooses freely is in scope: a type operand, and the type and the
-- effect that subsumption reaches.
use Rattle.std.specs.Prelude.{◌≡◌, ℕ, ◌<◌, Bool, true, false, List, [], ◌∷◌, ◌≢◌}
use Rattle.std.proofs.Math.Option.{some}
use Rattle.std.proofs.Math.ListN.{get_elem?}
use Rattle.order.specs.Effects.{Effect, pure, of_names, touch, join, drop, raise, EffBelow}
use Rattle.syntax.specs.Types.{Ty, num, pair, cell, fn, lim, grant, key_of, rekey}
use Rattle.syntax.specs.Commands.{Cmd, c_num, c_top, c_var, c_pair, c_part, c_fn, c_app, c_new, c_asg, c_read, c_sum, c_test, c_lim, c_grant, c_newkey, c_assoc, c_access, c_divide, c_spawn}
use Rattle.syntax.specs.Operands.{nth}
use Rattle.syntax.specs.Job.{Src, up_of}
use Rattle.syntax.specs.Tree.{Entry, e_var, e_name, key_pair}
use Rattle.syntax.specs.WellScoped.{ScopedName, ScopedType, ScopedEffect}
use Rattle.typing.specs.Subtype.{Sub}

-- the type of a variable is that of its newest entry
pub data Lookup : List Entry → ℕ → Ty → Type 0 where
  l_here : {x : ℕ} {T : Ty} {Γ : List Entry} → Lookup (e_var x T ∷ Γ) x T
  l_var : {x y : ℕ} {T U : Ty} {Γ : List Entry} → x ≢ y → Lookup Γ x T → Lookup (e_var y U ∷ Γ) x T
  l_name : {x r : ℕ} {T : Ty} {Γ : List Entry} → Lookup Γ x T → Lookup (e_name r ∷ Γ) x T

-- the name is not in the context
pub data Absent (a : ℕ) : List Entry → Type 0 where
  a_nil : Absent a []
  a_var : {x : ℕ} {T : Ty} {Γ : List Entry} → Absent a Γ → Absent a (e_var x T ∷ Γ)
  a_name : {r : ℕ} {Γ : List Entry} → a ≢ r → Absent a Γ → Absent a (e_name r ∷ Γ)

-- r may be put into the context: it is neither 0 nor 1, not its own upper name, and not in the context (which has the host's names), whose types are in scope
pub record Fresh (up : List ℕ) (Γ : List Entry) (r : ℕ) : Type 0 where
  pub types : (x : ℕ) (T : Ty) → Lookup Γ x T → ScopedType Γ T
  pub local : 1 < r
  pub proper : get_elem? up r ≡ some r → ⊥
  pub absent : Absent r Γ

-- the command of an expression
abbrev pub code_of : Src → ℕ → Cmd Ty
code_of S = nth S.cmds

mutual
  pub data Has (S : Src) : List Entry → ℕ → Ty → Effect → Type 0 where
    -- 0x30
    h_num : {Γ : List Entry} {e n : ℕ} → code_of S e ≡ c_num n → Has S Γ e (num 0) pure
    -- 0x31: the top's limit key
    h_top : {Γ : List Entry} {e : ℕ} → code_of S e ≡ c_top → Has S Γ e (lim 0 1) pure
    -- 0x32
    h_var : {Γ : List Entry} {e x : ℕ} {T : Ty} → code_of S e ≡ c_var x → Lookup Γ x T → Has S Γ e T pure
    -- 0x33
    h_pair : {Γ : List Entry} {e a b : ℕ} {A B : Ty} {s t : Effect} → code_of S e ≡ c_pair a b
        → Has S Γ a A s → Has S Γ b B t → Has S Γ e (pair 0 A B) (join s t)
    -- 0x34: the pair is touched
    h_part1 : {Γ : List Entry} {e a q : ℕ} {A B : Ty} {s : Effect} → code_of S e ≡ c_part a true
        → Has S Γ a (pair q A B) s → Has S Γ e A (touch q s)
    h_part2 : {Γ : List Entry} {e a q : ℕ} {A B : Ty} {s : Effect} → code_of S e ≡ c_part a false
        → Has S Γ a (pair q A B) s → Has S Γ e B (touch q s)
    -- 0x35: "A function has no effect until applied"
    h_fn : {Γ : List Entry} {e x b : ℕ} {T U : Ty} {s : Effect} → code_of S e ≡ c_fn x T b → ScopedType Γ T
        → Has S (e_var x T ∷ Γ) b U s → Has S Γ e (fn 0 T U s) pure
    -- 0x36: the function is touched; "applying adds its .. effect"
    h_app : {Γ : List Entry} {e f a q : ℕ} {A T U : Ty} {l s t : Effect} → code_of S e ≡ c_app f a
        → Has S Γ f (fn q T U l) s → Has S Γ a A t → Sub (up_of S) A T → Has S Γ e U (touch q (join l (join s t)))
    -- 0x37
    h_new : {Γ : List Entry} {e a : ℕ} {A T : Ty} {s : Effect} → code_of S e ≡ c_new T a → ScopedType Γ T
        → Has S Γ a A s → Sub (up_of S) A T → Has S Γ e (cell 0 T) s
    -- 0x38: the cell is touched; "gives the cell's content type"
    h_asg : {Γ : List Entry} {e a b q : ℕ} {A T : Ty} {s t : Effect} → code_of S e ≡ c_asg a b
        → Has S Γ a (cell q T) s → Has S Γ b A t → Sub (up_of S) A T → Has S Γ e T (touch q (join s t))
    -- 0x39: the cell is touched
    h_read : {Γ : List Entry} {e a q : ℕ} {T : Ty} {s : Effect} → code_of S e ≡ c_read a
        → Has S Γ a (cell q T) s → Has S Γ e T (touch q s)
    -- 0x3A: both numbers are touched
    h_sum : {Γ : List Entry} {e a b p q : ℕ} {i : Bool} {s t : Effect} → code_of S e ≡ c_sum i a b
        → Has S Γ a (num p) s → Has S Γ b (num q) t → Has S Γ e (num 0) (touch p (touch q (join s t)))
    -- 0x3B: the number tested is touched
    h_test : {Γ : List Entry} {e a b c q : ℕ} {B C T : Ty} {s t u : Effect} → code_of S e ≡ c_test a b c T → ScopedType Γ T
        → Has S Γ a (num q) s → Has S Γ b B t → Has S Γ c C u → Sub (up_of S) B T → Sub (up_of S) C T → Has S Γ e T (touch q (join s (join t u)))
    -- 0x3C: every key is touched; "needs the body's effect below the set of its keys' names, and keeps that effect"
    h_lim : {Γ : List Entry} {e b : ℕ} {ks rs : List ℕ} {T : Ty} {s t : Effect} → code_of S e ≡ c_lim ks b
        → HasKeys S Γ ks rs s → Has S Γ b T t → EffBelow (up_of S) t (of_names rs) → Has S Γ e T (join s t)
    -- 0x3D: the key is touched; "drops from the body's effect all names below the granted name"
    h_grant : {Γ : List Entry} {e a b q r : ℕ} {T : Ty} {s t : Effect} → code_of S e ≡ c_grant a b
        → Has S Γ a (grant q r) s → Has S Γ b T t → Has S Γ e T (touch q (join s (drop (up_of S) r t)))
    -- 0x3E: the key, "a limit key of r's upper name", is touched; "In the body alone r is in scope", so not in the result type; "Outside, r in the effect becomes its upper name"
    h_newkey : {Γ : List Entry} {e x r a b q u : ℕ} {B T : Ty} {s t : Effect} → code_of S e ≡ c_newkey x r a b T → ScopedType Γ T
        → Has S Γ a (lim q u) s → get_elem? (up_of S) r ≡ some u → ScopedName Γ u → Fresh (up_of S) Γ r
        → Has S (e_var x (key_pair r) ∷ e_name r ∷ Γ) b B t → Sub (up_of S) B T → Has S Γ e T (touch q (join s (raise r u t)))
    -- 0x3F: both operands are touched; "the value's type with the limit key's name as its key"
    h_assoc : {Γ : List Entry} {e a b q r : ℕ} {A : Ty} {s t : Effect} → code_of S e ≡ c_assoc a b
        → Has S Γ a A s → Has S Γ b (lim q r) t → Has S Γ e (rekey r A) (touch (key_of A) (touch q (join s t)))
    -- 0x40: the key is touched; "In the first branch the effect drops names below the key's name", the one that it stands for; the second branch's stays whole
    h_access : {Γ : List Entry} {e a b c q r : ℕ} {B C T : Ty} {s t u : Effect} → code_of S e ≡ c_access a b c T → ScopedType Γ T
        → Has S Γ a (lim q r) s → Has S Γ b B t → Has S Γ c C u → Sub (up_of S) B T → Sub (up_of S) C T → Has S Γ e T (touch q (join s (join (drop (up_of S) r t) u)))
    -- 0x41: both numbers are touched; "gives an unkeyed pair of unkeyed numbers"
    h_divide : {Γ : List Entry} {e a b p q : ℕ} {s t : Effect} → code_of S e ≡ c_divide a b
        → Has S Γ a (num p) s → Has S Γ b (num q) t → Has S Γ e (pair 0 (num 0) (num 0)) (touch p (touch q (join s t)))
    -- 0x42: "The body's effect must be empty, and the expression is the unkeyed number 0"; the body's value may be of any type
    h_spawn : {Γ : List Entry} {e b : ℕ} {T : Ty} → code_of S e ≡ c_spawn b → Has S Γ b T pure → Has S Γ e (num 0) pure
    -- subsumption
    h_sub : {Γ : List Entry} {e : ℕ} {A B : Ty} {s t : Effect} → Has S Γ e A s → Sub (up_of S) A B → ScopedType Γ B → EffBelow (up_of S) s t → ScopedEffect Γ t → Has S Γ e B t

  -- the limit keys of 0x3C: their names, and the effect of evaluating and touching them
  pub data HasKeys (S : Src) : List Entry → List ℕ → List ℕ → Effect → Type 0 where
    k_nil : {Γ : List Entry} → HasKeys S Γ [] [] pure
    k_cons : {Γ : List Entry} {a q r : ℕ} {ks rs : List ℕ} {s t : Effect} → Has S Γ a (lim q r) s → HasKeys S Γ ks rs t → HasKeys S Γ (a ∷ ks) (r ∷ rs) (touch q (join s t))
