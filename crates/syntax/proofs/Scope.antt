-- Lists of expressions: their operands, what they bind, and the host's context.
use Rattle.std.specs.Prelude.{◌≡◌, refl, ℕ, zero, suc, ◌+◌, ◌-◌, ◌≤◌, ◌<◌, Bool, true, false, cond, ◌⊎◌, length, eqb, ltb, leb}
use Rattle.std.proofs.Common.{sym, ap, ◌∙◌, subst, arith, true≢false, inl, inr, eq-eqb, eqb-true, ltb-true, leb-true, le-leb}
use Rattle.std.proofs.Math.Path.{subst⁻¹}
use mathlib.Core.List.Memᴰ
use mathlib.Core.List.{List, [], ◌∷◌, ◌++◌, flat_map, Memᴰ}
use Rattle.std.proofs.Math.Option.{some}
use Rattle.std.proofs.Math.ListN.{get_elem?}
use Rattle.std.proofs.lemmas.Bool.{not-true}
use Rattle.order.specs.Bools.{◌and◌, ◌or◌}
use Rattle.order.proofs.Bools.{and_l, and_r, and2, or_cases, or_r}
use Rattle.order.proofs.SetLaws.{some_of→, →some_of}
use Rattle.syntax.specs.Types.{Ty}
use Rattle.syntax.specs.Commands.{Cmd, c_fn, c_newkey, c_num, c_top, c_var, c_pair, c_part, c_app, c_new, c_asg, c_read, c_sum, c_test, c_lim, c_grant, c_assoc, c_access, c_divide, c_spawn}
use Rattle.syntax.specs.Operands.{nth, plain, inner, children, binds_var, binds_name}
use Rattle.syntax.specs.Job.{Name, HostValue, Src}
use Rattle.syntax.specs.Reading.{is_host, host_name, open_name, local_name}
use Rattle.syntax.specs.Tree.{Entry, e_var, e_name, binds, vars_of, names_of, mem_b, add_host, name_ctx, value_ctx, host_ctx, count, uses, bound_by, parent, name_in}
use Rattle.syntax.specs.Scope.{VarIn, v_here, v_name, v_var}

-- Tests on lists

pub mem_b→ : (x : ℕ) (l : List ℕ) → mem_b x l ≡ true → Memᴰ x l
unfolding mem_b
mem_b→ x l e = let z = some_of→ (λ y. eqb x y) l e in Memᴰ.cast (eqb-true x z.0 z.2) z.1

pub →mem_b : (x : ℕ) (l : List ℕ) → Memᴰ x l → mem_b x l ≡ true
unfolding mem_b
→mem_b x l m = →some_of (λ y. eqb x y) m (eq-eqb x x refl)

-- Uses

pub count_mem : (x : ℕ) (l : List ℕ) → Memᴰ x l → 1 ≤ count x l
unfolding count
count_mem x [] m = absurd (Memᴰ.not-nil m)
count_mem x (y ∷ l) (Memᴰ.head e) = rw (eq-eqb x y e) (omega arith)
count_mem x (y ∷ l) (Memᴰ.tail m) = omega (arith, count_mem x l m)

pub count_app : (x : ℕ) (l m : List ℕ) → count x (l ++ m) ≡ count x l + count x m
unfolding count
count_app x [] m = omega arith
count_app x (y ∷ l) m = omega (arith, count_app x l m)

pub mem_count : (x : ℕ) (l : List ℕ) → 1 ≤ count x l → Memᴰ x l
unfolding count
mem_count x [] h = absurd (omega arith)
mem_count x (y ∷ l) h = at (eqb x y) refl h (λ k. mem_count x l k)
  where
    at : (b : Bool) → eqb x y ≡ b → 1 ≤ cond b 1 0 + count x l → (1 ≤ count x l → Memᴰ x l) → Memᴰ x (y ∷ l)
    at true e k f = Memᴰ.head (eqb-true x y e)
    at false e k f = Memᴰ.tail (f (omega arith))

-- c is an operand of expression i
pub uses_mem : (l : List (Cmd Ty)) (i c : ℕ) → Memᴰ c (children (nth l i)) → (1 ≤ uses l c) × (count c (children (nth l i)) ≤ uses l c) × (i < length l)
unfolding uses nth children plain inner
uses_mem [] i c m = absurd (Memᴰ.not-nil m)
uses_mem (k ∷ l) zero c m = let z = count_mem c (children k) m in (omega arith, omega arith, omega arith)
uses_mem (k ∷ l) (suc i) c m = let z = uses_mem l i c m in (omega (arith, z.0), omega (arith, z.1), omega (arith, z.2))

-- what is used is an operand of some expression
pub mem_uses : (l : List (Cmd Ty)) (c : ℕ) → 1 ≤ uses l c → (i : ℕ) × Memᴰ c (children (nth l i))
unfolding uses nth
mem_uses [] c h = absurd (omega arith)
mem_uses (k ∷ l) c h = at (mem_b c (children k)) refl (λ g. mem_uses l c g)
  where
    none_here : mem_b c (children k) ≡ false → 1 ≤ count c (children k) → ⊥
    none_here e g = true≢false (sym (→mem_b c (children k) (mem_count c (children k) g)) ∙ e)

    rest : (n : ℕ) → n ≡ count c (children k) → (1 ≤ n → ⊥) → 1 ≤ uses l c
    rest zero e f = omega arith
    rest (suc n) e f = absurd (f (omega arith))

    at : (b : Bool) → mem_b c (children k) ≡ b → (1 ≤ uses l c → (i : ℕ) × Memᴰ c (children (nth l i))) → (i : ℕ) × Memᴰ c (children (nth (k ∷ l) i))
    at true e f = (0, mem_b→ c (children k) e)
    at false e f = let z = f (rest (count c (children k)) refl (none_here e)) in (suc z.0, z.1)

-- c is used once: the search for its parent finds the one that has it
pub parent_is : (l : List (Cmd Ty)) (n i c : ℕ) → uses l c ≤ 1 → Memᴰ c (children (nth l i)) → parent l n c ≡ n + i
unfolding uses nth parent
parent_is [] n i c h m = absurd (omega (arith, (uses_mem [] i c m).2))
parent_is (k ∷ l) n zero c h m = rw (→mem_b c (children k) m) (omega arith)
parent_is (k ∷ l) n (suc i) c h m = at (mem_b c (children k)) refl (parent_is l (suc n) i c (omega (arith, h)) m)
  where
    at : (b : Bool) → mem_b c (children k) ≡ b → parent l (suc n) c ≡ suc n + i → cond b n (parent l (suc n) c) ≡ n + suc i
    at true e g = absurd (omega (arith, h, count_mem c (children k) (mem_b→ c (children k) e), (uses_mem l i c m).0))
    at false e g = g ∙ omega arith

-- Entries

pub varin_left : {x : ℕ} {T : Ty} {Γ : List Entry} (Δ : List Entry) → VarIn x T Γ → VarIn x T (Γ ++ Δ)
varin_left Δ v_here = v_here
varin_left Δ (v_var v) = v_var (varin_left Δ v)
varin_left Δ (v_name v) = v_name (varin_left Δ v)

pub varin_right : {x : ℕ} {T : Ty} (Γ : List Entry) {Δ : List Entry} → VarIn x T Δ → VarIn x T (Γ ++ Δ)
varin_right [] v = v
varin_right (e_var y U ∷ Γ) v = v_var (varin_right Γ v)
varin_right (e_name r ∷ Γ) v = v_name (varin_right Γ v)

varin_cons : {x : ℕ} {T : Ty} (t : Entry) (Γ : List Entry) {Δ : List Entry} → VarIn x T (t ∷ (Γ ++ Δ)) → (VarIn x T (Γ ++ Δ) → VarIn x T Γ ⊎ VarIn x T Δ) → VarIn x T (t ∷ Γ) ⊎ VarIn x T Δ
varin_cons t Γ v_here f = inl v_here
varin_cons {x} {T} t Γ {Δ} (v_var {y = y} {U = U} v) f = up (f v)
  where
    up : VarIn x T Γ ⊎ VarIn x T Δ → VarIn x T (e_var y U ∷ Γ) ⊎ VarIn x T Δ
    up (inl v) = inl (v_var v)
    up (inr v) = inr v
varin_cons {x} {T} t Γ {Δ} (v_name {r = r} v) f = up (f v)
  where
    up : VarIn x T Γ ⊎ VarIn x T Δ → VarIn x T (e_name r ∷ Γ) ⊎ VarIn x T Δ
    up (inl v) = inl (v_name v)
    up (inr v) = inr v

pub varin_cases : {x : ℕ} {T : Ty} (Γ : List Entry) {Δ : List Entry} → VarIn x T (Γ ++ Δ) → VarIn x T Γ ⊎ VarIn x T Δ
varin_cases [] v = inr v
varin_cases (t ∷ Γ) v = varin_cons t Γ v (λ w. varin_cases Γ w)

pub varin_mem : {x : ℕ} {T : Ty} {Γ : List Entry} → VarIn x T Γ → Memᴰ x (vars_of Γ)
unfolding vars_of
varin_mem v_here = Memᴰ.head refl
varin_mem (v_var v) = Memᴰ.tail (varin_mem v)
varin_mem (v_name v) = varin_mem v

pub vars_of_app : (Γ Δ : List Entry) → vars_of (Γ ++ Δ) ≡ vars_of Γ ++ vars_of Δ
unfolding vars_of
vars_of_app [] Δ = refl
vars_of_app (e_var x T ∷ Γ) Δ = ap (λ l. x ∷ l) (vars_of_app Γ Δ)
vars_of_app (e_name r ∷ Γ) Δ = vars_of_app Γ Δ

pub names_of_app : (Γ Δ : List Entry) → names_of (Γ ++ Δ) ≡ names_of Γ ++ names_of Δ
unfolding names_of
names_of_app [] Δ = refl
names_of_app (e_var x T ∷ Γ) Δ = names_of_app Γ Δ
names_of_app (e_name r ∷ Γ) Δ = ap (λ l. r ∷ l) (names_of_app Γ Δ)

pub name_right : {n : ℕ} (Γ Δ : List Entry) → Memᴰ n (names_of Δ) → Memᴰ n (names_of (Γ ++ Δ))
name_right {n} Γ Δ m = subst⁻¹ (λ t. Memᴰ n t) (names_of_app Γ Δ) (Memᴰ.append_right (names_of Γ) m)

pub name_cases : {n : ℕ} (Γ Δ : List Entry) → Memᴰ n (names_of (Γ ++ Δ)) → Memᴰ n (names_of Γ) ⊎ Memᴰ n (names_of Δ)
name_cases {n} Γ Δ m = Memᴰ.append_cases (names_of Γ) (subst (λ t. Memᴰ n t) (names_of_app Γ Δ) m)

pub name_in_cases : (Γ : List Entry) (n : ℕ) → name_in Γ n ≡ true → (n < 2) ⊎ Memᴰ n (names_of Γ)
unfolding name_in
name_in_cases Γ n e = at (ltb n 2) refl e
  where
    at : (b : Bool) → ltb n 2 ≡ b → cond b true (mem_b n (names_of Γ)) ≡ true → (n < 2) ⊎ Memᴰ n (names_of Γ)
    at true z h = inl (ltb-true n 2 z)
    at false z h = inr (mem_b→ n (names_of Γ) h)

-- What a command binds

-- the variables and the names among it are those that the command binds
pub binds_vars : (k : Cmd Ty) {x : ℕ} → Memᴰ x (vars_of (binds k)) → Memᴰ x (binds_var k)
unfolding binds binds_var vars_of
binds_vars (c_num _) m = elim m [ ]
binds_vars c_top m = elim m [ ]
binds_vars (c_var _) m = elim m [ ]
binds_vars (c_pair _ _) m = elim m [ ]
binds_vars (c_part _ _) m = elim m [ ]
binds_vars (c_app _ _) m = elim m [ ]
binds_vars (c_new _ _) m = elim m [ ]
binds_vars (c_asg _ _) m = elim m [ ]
binds_vars (c_read _) m = elim m [ ]
binds_vars (c_sum _ _ _) m = elim m [ ]
binds_vars (c_test _ _ _ _) m = elim m [ ]
binds_vars (c_lim _ _) m = elim m [ ]
binds_vars (c_grant _ _) m = elim m [ ]
binds_vars (c_assoc _ _) m = elim m [ ]
binds_vars (c_access _ _ _ _) m = elim m [ ]
binds_vars (c_divide _ _) m = elim m [ ]
binds_vars (c_spawn _) m = elim m [ ]
binds_vars (c_fn y U b) m = m
binds_vars (c_newkey y r a b U) m = m

pub vars_binds : (k : Cmd Ty) {x : ℕ} → Memᴰ x (binds_var k) → Memᴰ x (vars_of (binds k))
unfolding binds binds_var vars_of
vars_binds (c_num _) m = elim m [ ]
vars_binds c_top m = elim m [ ]
vars_binds (c_var _) m = elim m [ ]
vars_binds (c_pair _ _) m = elim m [ ]
vars_binds (c_part _ _) m = elim m [ ]
vars_binds (c_app _ _) m = elim m [ ]
vars_binds (c_new _ _) m = elim m [ ]
vars_binds (c_asg _ _) m = elim m [ ]
vars_binds (c_read _) m = elim m [ ]
vars_binds (c_sum _ _ _) m = elim m [ ]
vars_binds (c_test _ _ _ _) m = elim m [ ]
vars_binds (c_lim _ _) m = elim m [ ]
vars_binds (c_grant _ _) m = elim m [ ]
vars_binds (c_assoc _ _) m = elim m [ ]
vars_binds (c_access _ _ _ _) m = elim m [ ]
vars_binds (c_divide _ _) m = elim m [ ]
vars_binds (c_spawn _) m = elim m [ ]
vars_binds (c_fn y U b) m = m
vars_binds (c_newkey y r a b U) m = m

pub names_binds : (k : Cmd Ty) {n : ℕ} → Memᴰ n (binds_name k) → Memᴰ n (names_of (binds k))
unfolding binds binds_name names_of
names_binds (c_num _) {n = n} m = elim m [ ]
names_binds c_top {n = n} m = elim m [ ]
names_binds (c_var _) {n = n} m = elim m [ ]
names_binds (c_pair _ _) {n = n} m = elim m [ ]
names_binds (c_part _ _) {n = n} m = elim m [ ]
names_binds (c_fn _ _ _) {n = n} m = elim m [ ]
names_binds (c_app _ _) {n = n} m = elim m [ ]
names_binds (c_new _ _) {n = n} m = elim m [ ]
names_binds (c_asg _ _) {n = n} m = elim m [ ]
names_binds (c_read _) {n = n} m = elim m [ ]
names_binds (c_sum _ _ _) {n = n} m = elim m [ ]
names_binds (c_test _ _ _ _) {n = n} m = elim m [ ]
names_binds (c_lim _ _) {n = n} m = elim m [ ]
names_binds (c_grant _ _) {n = n} m = elim m [ ]
names_binds (c_assoc _ _) {n = n} m = elim m [ ]
names_binds (c_access _ _ _ _) {n = n} m = elim m [ ]
names_binds (c_divide _ _) {n = n} m = elim m [ ]
names_binds (c_spawn _) {n = n} m = elim m [ ]
names_binds (c_newkey y r a b U) m = m

pub binds_name_lem : (k : Cmd Ty) {n : ℕ} → Memᴰ n (names_of (binds k)) → Memᴰ n (binds_name k)
unfolding binds binds_name names_of
binds_name_lem (c_num _) {n = n} m = elim m [ ]
binds_name_lem c_top {n = n} m = elim m [ ]
binds_name_lem (c_var _) {n = n} m = elim m [ ]
binds_name_lem (c_pair _ _) {n = n} m = elim m [ ]
binds_name_lem (c_part _ _) {n = n} m = elim m [ ]
binds_name_lem (c_fn _ _ _) {n = n} m = elim m [ ]
binds_name_lem (c_app _ _) {n = n} m = elim m [ ]
binds_name_lem (c_new _ _) {n = n} m = elim m [ ]
binds_name_lem (c_asg _ _) {n = n} m = elim m [ ]
binds_name_lem (c_read _) {n = n} m = elim m [ ]
binds_name_lem (c_sum _ _ _) {n = n} m = elim m [ ]
binds_name_lem (c_test _ _ _ _) {n = n} m = elim m [ ]
binds_name_lem (c_lim _ _) {n = n} m = elim m [ ]
binds_name_lem (c_grant _ _) {n = n} m = elim m [ ]
binds_name_lem (c_assoc _ _) {n = n} m = elim m [ ]
binds_name_lem (c_access _ _ _ _) {n = n} m = elim m [ ]
binds_name_lem (c_divide _ _) {n = n} m = elim m [ ]
binds_name_lem (c_spawn _) {n = n} m = elim m [ ]
binds_name_lem (c_newkey y r a b U) m = m

pub binds_var_lem : (k : Cmd Ty) {x : ℕ} {T : Ty} → VarIn x T (binds k) → Memᴰ x (binds_var k)
binds_var_lem k v = binds_vars k (varin_mem v)

-- of a context where only the first entry has a variable
var_first : {x y : ℕ} {T A : Ty} {Γ : List Entry} → vars_of Γ ≡ [] → VarIn x T (e_var y A ∷ Γ) → T ≡ A
unfolding vars_of
var_first e v_here = refl
var_first {x} e (v_var v) = absurd (Memᴰ.not-nil (subst (λ l. Memᴰ x l) e (varin_mem v)))

-- one type
pub binds_once : (k : Cmd Ty) {x : ℕ} {T U : Ty} → VarIn x T (binds k) → VarIn x U (binds k) → T ≡ U
unfolding binds vars_of
binds_once (c_num _) {T = T} {U = U} x5 w = elim x5 [ ]
binds_once c_top {T = T} {U = U} x5 w = elim x5 [ ]
binds_once (c_var _) {T = T} {U = U} x7 w = elim x7 [ ]
binds_once (c_pair _ _) {T = T} {U = U} x9 w = elim x9 [ ]
binds_once (c_part _ _) {T = T} {U = U} x10 w = elim x10 [ ]
binds_once (c_app _ _) {T = T} {U = U} x12 w = elim x12 [ ]
binds_once (c_new _ _) {T = T} {U = U} x13 w = elim x13 [ ]
binds_once (c_asg _ _) {T = T} {U = U} x14 w = elim x14 [ ]
binds_once (c_read _) {T = T} {U = U} x14 w = elim x14 [ ]
binds_once (c_sum _ _ _) {T = T} {U = U} x17 w = elim x17 [ ]
binds_once (c_test _ _ _ _) {T = T} {U = U} x19 w = elim x19 [ ]
binds_once (c_lim _ _) {T = T} {U = U} x18 w = elim x18 [ ]
binds_once (c_grant _ _) {T = T} {U = U} x19 w = elim x19 [ ]
binds_once (c_assoc _ _) {T = T} {U = U} x21 w = elim x21 [ ]
binds_once (c_access _ _ _ _) {T = T} {U = U} x24 w = elim x24 [ ]
binds_once (c_divide _ _) {T = T} {U = U} x23 w = elim x23 [ ]
binds_once (c_spawn _) {T = T} {U = U} x23 w = elim x23 [ ]
binds_once (c_fn y A b) v w = var_first refl v ∙ sym (var_first refl w)
binds_once (c_newkey y r a b A) v w = var_first refl v ∙ sym (var_first refl w)

-- What a list of commands binds

pub bound_var_lem : (l : List (Cmd Ty)) (i : ℕ) {x : ℕ} {T : Ty} → VarIn x T (binds (nth l i)) → VarIn x T (bound_by l)
unfolding nth bound_by flat_map binds vars_of
bound_var_lem [] i v = absurd (Memᴰ.not-nil (varin_mem v))
bound_var_lem (k ∷ l) zero v = varin_left (bound_by l) v
bound_var_lem (k ∷ l) (suc i) v = varin_right (binds k) (bound_var_lem l i v)

pub var_bound : (l : List (Cmd Ty)) {x : ℕ} {T : Ty} → VarIn x T (bound_by l) → (i : ℕ) × VarIn x T (binds (nth l i))
unfolding nth bound_by flat_map vars_of
var_bound [] v = absurd (Memᴰ.not-nil (varin_mem v))
var_bound (k ∷ l) {x} {T} v = at (varin_cases (binds k) v) (λ w. var_bound l w)
  where
    at : VarIn x T (binds k) ⊎ VarIn x T (bound_by l) → (VarIn x T (bound_by l) → (i : ℕ) × VarIn x T (binds (nth l i))) → (i : ℕ) × VarIn x T (binds (nth (k ∷ l) i))
    at (inl w) f = (0, w)
    at (inr w) f = let z = f w in (suc z.0, z.1)

-- an expression that binds is one of the list
pub var_lt : (l : List (Cmd Ty)) (i : ℕ) {x : ℕ} {T : Ty} → VarIn x T (binds (nth l i)) → i < length l
unfolding nth binds vars_of
var_lt [] i v = absurd (Memᴰ.not-nil (varin_mem v))
var_lt (k ∷ l) zero v = omega arith
var_lt (k ∷ l) (suc i) v = omega (arith, var_lt l i v)

pub name_lt : (l : List (Cmd Ty)) (i : ℕ) {n : ℕ} → Memᴰ n (names_of (binds (nth l i))) → i < length l
unfolding nth binds names_of
name_lt [] i m = absurd (Memᴰ.not-nil m)
name_lt (k ∷ l) zero m = omega arith
name_lt (k ∷ l) (suc i) m = omega (arith, name_lt l i m)

-- The host's context

name_step : (k : ℕ) (d : Name) (Γ : List Entry) {n : ℕ} → Memᴰ n (names_of (add_host k d Γ)) → Memᴰ n (names_of Γ) ⊎ ((n ≡ k) × (d.host ≡ true))
unfolding add_host names_of
name_step k d Γ {n} m = at d.host refl m
  where
    new : d.host ≡ true → Memᴰ n (k ∷ names_of Γ) → Memᴰ n (names_of Γ) ⊎ ((n ≡ k) × (d.host ≡ true))
    new h (Memᴰ.head e) = inr (e, h)
    new h (Memᴰ.tail w) = inl w

    at : (b : Bool) → d.host ≡ b → Memᴰ n (names_of (cond b (e_name k ∷ Γ) Γ)) → Memᴰ n (names_of Γ) ⊎ ((n ≡ k) × (d.host ≡ true))
    at true h w = new h w
    at false h w = inl w

name_host : (k : ℕ) (ds : List Name) (Γ : List Entry) {n : ℕ} → Memᴰ n (names_of (name_ctx k ds Γ)) → Memᴰ n (names_of Γ) ⊎ ((i : ℕ) × (n ≡ k + i) × (is_host (get_elem? ds i) ≡ true))
unfolding name_ctx is_host
name_host k [] Γ m = inl m
name_host k (d ∷ ds) Γ {n} m = at (name_host (suc k) ds (add_host k d Γ) m)
  where
    Out : Type 0
    Out = Memᴰ n (names_of Γ) ⊎ ((i : ℕ) × (n ≡ k + i) × (is_host (get_elem? (d ∷ ds) i) ≡ true))

    old : Memᴰ n (names_of Γ) ⊎ ((n ≡ k) × (d.host ≡ true)) → Out
    old (inl w) = inl w
    old (inr z) = inr (0, omega arith, z.1)

    at : Memᴰ n (names_of (add_host k d Γ)) ⊎ ((i : ℕ) × (n ≡ suc k + i) × (is_host (get_elem? ds i) ≡ true)) → Out
    at (inl w) = old (name_step k d Γ w)
    at (inr z) = inr (suc z.0, omega (arith, z.1), z.2)

name_value : (v : ℕ) (hs : List (HostValue Ty)) (Γ : List Entry) → names_of (value_ctx v hs Γ) ≡ names_of Γ
unfolding value_ctx names_of
name_value v [] Γ = refl
name_value v (h ∷ hs) Γ = name_value (suc v) hs (e_var v h.ty ∷ Γ)

-- its names are host names
pub host_name_lem : (S : Src) {n : ℕ} → Memᴰ n (names_of (host_ctx S)) → host_name S.names n ≡ true
unfolding host_ctx host_name names_of
host_name_lem S {n} m = at (name_host 2 S.names [] (subst (λ t. Memᴰ n t) (name_value 0 S.values (name_ctx 2 S.names [])) m))
  where
    at : Memᴰ n [] ⊎ ((i : ℕ) × (n ≡ 2 + i) × (is_host (get_elem? S.names i) ≡ true)) → (eqb n 1 or (leb 2 n and is_host (get_elem? S.names (n - 2)))) ≡ true
    at (inl w) = absurd (Memᴰ.not-nil w)
    at (inr z) = let e : n - 2 ≡ z.0 = omega (arith, z.1) in or_r _ _ (and2 _ _ (le-leb 2 n (omega (arith, z.1))) (ap (λ (i : ℕ). is_host (get_elem? S.names i)) e ∙ z.2))

-- and every host name is among them
keep_host : (k : ℕ) (ds : List Name) (Γ : List Entry) {n : ℕ} → Memᴰ n (names_of Γ) → Memᴰ n (names_of (name_ctx k ds Γ))
unfolding name_ctx add_host names_of
keep_host k [] Γ m = m
keep_host k (d ∷ ds) Γ {n} m = keep_host (suc k) ds (add_host k d Γ) (at d.host)
  where
    at : (b : Bool) → Memᴰ n (names_of (cond b (e_name k ∷ Γ) Γ))
    at true = Memᴰ.tail m
    at false = m

mem_host : (k : ℕ) (ds : List Name) (Γ : List Entry) (i : ℕ) {n : ℕ} → n ≡ k + i → is_host (get_elem? ds i) ≡ true → Memᴰ n (names_of (name_ctx k ds Γ))
unfolding name_ctx add_host names_of is_host
mem_host k [] Γ i e h = absurd (true≢false (sym h))
mem_host k (d ∷ ds) Γ zero {n} e h = let z : n ≡ k = omega arith in keep_host (suc k) ds (add_host k d Γ) (rw h (Memᴰ.head z))
mem_host k (d ∷ ds) Γ (suc i) e h = mem_host (suc k) ds (add_host k d Γ) i (omega arith) h

pub host_mem : (S : Src) {n : ℕ} → host_name S.names n ≡ true → (n < 2) ⊎ Memᴰ n (names_of (host_ctx S))
unfolding host_ctx host_name
host_mem S {n} e = at (or_cases (eqb n 1) (leb 2 n and is_host (get_elem? S.names (n - 2))) e)
  where
    at : (eqb n 1 ≡ true) ⊎ ((leb 2 n and is_host (get_elem? S.names (n - 2))) ≡ true) → (n < 2) ⊎ Memᴰ n (names_of (value_ctx 0 S.values (name_ctx 2 S.names [])))
    at (inl z) = inl (omega (arith, eqb-true n 1 z))
    at (inr z) =
        let l : 2 ≤ n = leb-true 2 n (and_l _ _ z) in
        inr (subst⁻¹ (λ t. Memᴰ n t) (name_value 0 S.values (name_ctx 2 S.names [])) (mem_host 2 S.names [] (n - 2) (omega arith) (and_r _ _ z)))

-- its variables are the host values, by number
var_names : (k : ℕ) (ds : List Name) (Γ : List Entry) → vars_of (name_ctx k ds Γ) ≡ vars_of Γ
unfolding name_ctx add_host vars_of
var_names k [] Γ = refl
var_names k (d ∷ ds) Γ = var_names (suc k) ds (add_host k d Γ) ∙ at d.host
  where
    at : (b : Bool) → vars_of (cond b (e_name k ∷ Γ) Γ) ≡ vars_of Γ
    at true = refl
    at false = refl

var_value : (v : ℕ) (hs : List (HostValue Ty)) (Γ : List Entry) {x : ℕ} {T : Ty} → VarIn x T (value_ctx v hs Γ)
    → VarIn x T Γ ⊎ ((i : ℕ) × (x ≡ v + i) × (h : HostValue Ty) × (get_elem? hs i ≡ some h) × (h.ty ≡ T))
unfolding value_ctx
var_value v [] Γ w = inl w
var_value v (h ∷ hs) Γ {x} {T} w = at (var_value (suc v) hs (e_var v h.ty ∷ Γ) w)
  where
    Out : Type 0
    Out = VarIn x T Γ ⊎ ((i : ℕ) × (x ≡ v + i) × (g : HostValue Ty) × (get_elem? (h ∷ hs) i ≡ some g) × (g.ty ≡ T))

    old : (y : ℕ) (A : Ty) → y ≡ v → h.ty ≡ A → VarIn x T (e_var y A ∷ Γ) → Out
    old y A e f v_here = inr (0, omega arith, h, refl, f)
    old y A e f (v_var u) = inl u

    at : VarIn x T (e_var v h.ty ∷ Γ) ⊎ ((i : ℕ) × (x ≡ suc v + i) × (g : HostValue Ty) × (get_elem? hs i ≡ some g) × (g.ty ≡ T)) → Out
    at (inl u) = old v h.ty refl refl u
    at (inr z) = inr (suc z.0, omega (arith, z.1), z.2, z.3, z.4)

pub host_var : (S : Src) {x : ℕ} {T : Ty} → VarIn x T (host_ctx S) → (h : HostValue Ty) × (get_elem? S.values x ≡ some h) × (h.ty ≡ T)
unfolding host_ctx vars_of
host_var S {x} {T} v = at (var_value 0 S.values (name_ctx 2 S.names []) v)
  where
    at : VarIn x T (name_ctx 2 S.names []) ⊎ ((i : ℕ) × (x ≡ 0 + i) × (h : HostValue Ty) × (get_elem? S.values i ≡ some h) × (h.ty ≡ T)) → (h : HostValue Ty) × (get_elem? S.values x ≡ some h) × (h.ty ≡ T)
    at (inl w) = absurd (Memᴰ.not-nil (subst (λ t. Memᴰ x t) (var_names 2 S.names []) (varin_mem w)))
    at (inr z) = let e : x ≡ z.0 = omega (arith, z.1) in (z.2, ap (λ (i : ℕ). get_elem? S.values i) e ∙ z.3, z.4)

-- Names, by the tests of reading

-- a local name is above 1 and not the host's
pub local_above : (ds : List Name) (n : ℕ) → local_name ds n ≡ true → 1 < n
unfolding local_name
local_above ds n e = omega (arith, leb-true 2 n (and_l _ _ (and_l _ _ e)))

pub local_not_host : (ds : List Name) (n : ℕ) → local_name ds n ≡ true → host_name ds n ≡ true → ⊥
unfolding local_name
local_not_host ds n e h = true≢false (sym h ∙ not-true (host_name ds n) (and_r _ _ e))

pub open_cases : (ds : List Name) (n : ℕ) → open_name ds n ≡ true → (n < 2) ⊎ (host_name ds n ≡ true)
unfolding open_name
open_cases ds n e = at (or_cases (eqb n 0) (host_name ds n) e)
  where
    at : (eqb n 0 ≡ true) ⊎ (host_name ds n ≡ true) → (n < 2) ⊎ (host_name ds n ≡ true)
    at (inl z) = inl (omega (arith, eqb-true n 0 z))
    at (inr z) = inr z
