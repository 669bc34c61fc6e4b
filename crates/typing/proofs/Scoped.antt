-- What the rules ask of a context, by the facts of the numbers 8, 9 and 10: the types of variables; and that a fresh name does not stand free in a type in scope.
use Rattle.std.specs.Prelude.{◌≡◌, refl, ℕ, Bool, true, false, cond, ◌≢◌, eqb}
use Rattle.std.proofs.Common.{sym, ◌∙◌, subst, arith, eq-eqb, eqb-true}
use Rattle.std.proofs.Math.Path.{ap}
use mathlib.Core.List.Memᴰ
use mathlib.Core.List.{List, [], ◌∷◌, ◌++◌, Memᴰ}
use Rattle.std.proofs.Math.Option.{some}
use Rattle.std.proofs.lemmas.Bool.{eqb-false}
use Rattle.syntax.specs.Types.{Ty}
use Rattle.syntax.specs.Commands.{c_var}
use Rattle.syntax.specs.Operands.{nth, uses_var}
use Rattle.syntax.specs.Job.{Src}
use Rattle.syntax.specs.Formed.{Formed}
use Rattle.syntax.specs.Tree.{Entry, e_var, e_name, vars_of, names_of, host_ctx, bound_by}
use Rattle.syntax.specs.Scope.{VarIn, v_here, v_var, v_name}
use Rattle.syntax.specs.WellScoped.{ScopedName, n_low, n_bound, ScopedType, w_num, w_pair, w_cell, w_fn, w_lim, w_grant}
use Rattle.syntax.specs.TreeFacts.{Ctx, TreeOk}
use Rattle.syntax.proofs.ScopeLaws.{same_name}
use Rattle.syntax.proofs.Context.{ctx_uses, ctx_bound, var_once}
use Rattle.typing.specs.FreeNames.{At, a_num, a_pair, a_pair1, a_pair2, a_cell, a_cell1, a_fn, a_fn1, a_fn2, a_fn3, a_lim, a_lim1, a_grant, a_grant1, Free}
use Rattle.typing.specs.Rules.{Lookup, l_here, l_var, l_name, Absent, a_nil, a_var, a_name, Fresh}
use Rattle.typing.specs.Least.{type_in, var_type}

pub lookup_var : {Γ : List Entry} {x : ℕ} {T : Ty} → Lookup Γ x T → VarIn x T Γ
lookup_var l_here = v_here
lookup_var (l_var n l) = v_var (lookup_var l)
lookup_var (l_name l) = v_name (lookup_var l)

-- a variable that stands in a context is found there
look_of : (x : ℕ) (Γ : List Entry) → Memᴰ x (vars_of Γ) → (T : Ty) × Lookup Γ x T
unfolding vars_of
look_of x [] m = absurd (Memᴰ.not-nil m)
look_of x (e_var y U ∷ Γ) m = at (eqb x y) refl m (λ w. look_of x Γ w)
  where
    tail : x ≢ y → Memᴰ x (y ∷ vars_of Γ) → (Memᴰ x (vars_of Γ) → (T : Ty) × Lookup Γ x T) → (T : Ty) × Lookup (e_var y U ∷ Γ) x T
    tail n (Memᴰ.head e) f = absurd (n e)
    tail n (Memᴰ.tail m) f = let z = f m in (z.0, l_var n z.1)

    at : (b : Bool) → eqb x y ≡ b → Memᴰ x (y ∷ vars_of Γ) → (Memᴰ x (vars_of Γ) → (T : Ty) × Lookup Γ x T) → (T : Ty) × Lookup (e_var y U ∷ Γ) x T
    at true e m f = (U, subst (λ z. Lookup (e_var y U ∷ Γ) z U) (sym (eqb-true x y e)) l_here)
    at false e m f = tail (eqb-false x y e) m f
look_of x (e_name r ∷ Γ) m = let z = look_of x Γ m in (z.0, l_name z.1)

-- the type that is found for a variable is one that stands there
type_in_some : {x : ℕ} {T : Ty} {Γ : List Entry} → VarIn x T Γ → (U : Ty) × (type_in Γ x ≡ some U) × VarIn x U Γ
unfolding type_in
type_in_some {x} {T} v_here = (T, rw (eq-eqb x x refl), v_here)
type_in_some {x} {T} (v_var {y = y} {U = A} {Γ = Γ} v) = at (eqb x y) refl (type_in_some v)
  where
    at : (b : Bool) → eqb x y ≡ b → (U : Ty) × (type_in Γ x ≡ some U) × VarIn x U Γ → (U : Ty) × (cond b (some A) (type_in Γ x) ≡ some U) × VarIn x U (e_var y A ∷ Γ)
    at true e z = (A, refl, subst (λ (t : ℕ). VarIn x A (e_var t A ∷ Γ)) (eqb-true x y e) v_here)
    at false e z = (z.0, z.1, v_var z.2)
type_in_some (v_name v) = let z = type_in_some v in (z.0, z.1, v_name z.2)

pub absent_of : (r : ℕ) (Γ : List Entry) → ((n : ℕ) → Memᴰ n (names_of Γ) → n ≢ r) → Absent r Γ
unfolding names_of
absent_of r [] h = a_nil
absent_of r (e_var x T ∷ Γ) h = a_var (absent_of r Γ h)
absent_of r (e_name s ∷ Γ) h = a_name (λ e. h s (Memᴰ.head refl) (sym e)) (absent_of r Γ (λ n m. h n (Memᴰ.tail m)))

absent_not : {r : ℕ} {Γ : List Entry} → Absent r Γ → Memᴰ r (names_of Γ) → ⊥
unfolding names_of
absent_not a_nil m = Memᴰ.not-nil m
absent_not (a_var h) m = absent_not h m
absent_not (a_name e h) (Memᴰ.head z) = e z
absent_not (a_name e h) (Memᴰ.tail m) = absent_not h m

-- a name that stands free in a type in scope is in scope
at_scoped : {Γ : List Entry} {n : ℕ} {T : Ty} → ScopedType Γ T → At n T → ScopedName Γ n
at_scoped (w_num q) (a_num e) = same_name e q
at_scoped (w_pair q a b) (a_pair e) = same_name e q
at_scoped (w_pair q a b) (a_pair1 m) = at_scoped a m
at_scoped (w_pair q a b) (a_pair2 m) = at_scoped b m
at_scoped (w_cell q a) (a_cell e) = same_name e q
at_scoped (w_cell q a) (a_cell1 m) = at_scoped a m
at_scoped (w_fn q a b s) (a_fn e) = same_name e q
at_scoped (w_fn q a b s) (a_fn1 m) = at_scoped a m
at_scoped (w_fn q a b s) (a_fn2 m) = at_scoped b m
at_scoped {n = n} (w_fn q a b s) (a_fn3 m) = s.each n m
at_scoped (w_lim q r) (a_lim e) = same_name e q
at_scoped (w_lim q r) (a_lim1 e) = same_name e r
at_scoped (w_grant q r) (a_grant e) = same_name e q
at_scoped (w_grant q r) (a_grant1 e) = same_name e r

-- a fresh name does not stand free in a type in scope
pub scoped_free : {up : List ℕ} {Γ : List Entry} {r : ℕ} {T : Ty} → Fresh up Γ r → ScopedType Γ T → Free r T
scoped_free {Γ = Γ} {r} f t = record { none = λ n m e. at n e (at_scoped t m) }
  where
    at : (n : ℕ) → n ≡ r → ScopedName Γ n → ⊥
    at n e (n_low h) = omega (arith, f.local)
    at n e (n_bound m) = absent_not f.absent (Memᴰ.cast (sym e) m)

-- a job that is read, free of 8, 9 and 10
module _ (S : Src) (ok : Formed S) (tree : TreeOk S) where
  var_type_lem : {x : ℕ} {T : Ty} → VarIn x T (bound_by S.cmds ++ host_ctx S) → var_type S x ≡ some T
  unfolding var_type
  var_type_lem v = let z = type_in_some v in z.1 ∙ ap some (var_once S ok tree z.2 v)

  -- a variable of a context has there the one type that the job gives it
  pub ctx_type : {e : ℕ} {Γ : List Entry} {x : ℕ} {T : Ty} → Ctx S e Γ → Lookup Γ x T → var_type S x ≡ some T
  ctx_type d l = var_type_lem (ctx_bound S ok d (lookup_var l))

  -- a variable that is used has a type
  pub ctx_var : {e x : ℕ} {Γ : List Entry} → Ctx S e Γ → nth S.cmds e ≡ c_var x → (T : Ty) × Lookup Γ x T
  unfolding uses_var
  ctx_var {e} {x} {Γ} d c = let m : Memᴰ x (uses_var (nth S.cmds e)) = rw c (Memᴰ.head refl) in look_of x Γ ((ctx_uses S ok tree d).variable x m)
