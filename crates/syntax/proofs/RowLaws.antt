-- What holds of every row: which of the wanted roles have which numbers, and that other type operands change nothing else.
use Rattle.std.specs.Prelude.{◌≡◌, ℕ, ◌≤◌, Bool, ◌⊎◌, length, eqb}
use Rattle.std.proofs.Math.Path.{refl, sym, ap, ap₂, subst⁻¹}
use Rattle.std.proofs.Common.{◌∙◌, subst, arith, true≢false, inr, eqb-true}
use Rattle.std.proofs.Math.Bool.{true, false, cond}
use Rattle.std.proofs.lemmas.Bool.{false≢true}
use mathlib.Core.List.Memᴰ
use mathlib.Core.List.{List, [], ◌∷◌, ◌++◌, map, append-nil, Memᴰ}
use Rattle.std.proofs.Math.Logic.{inl}
use Rattle.order.proofs.Bools.{and_l, and_r}
use Rattle.syntax.specs.Types.{Ty}
use Rattle.syntax.specs.Commands.{Cmd, c_num, c_top, c_var, c_pair, c_part, c_fn, c_app, c_new, c_asg, c_read, c_sum, c_test, c_lim, c_grant, c_newkey, c_assoc, c_access, c_divide, c_spawn, map_cmd, r_entered, r_evaluated, r_inside, r_keys, r_variable, r_local}
use Rattle.syntax.specs.Commands.{Role, traits, r_parameter, r_keypair, form, Operand, numbers, type, Row, row_of, row}
use Rattle.syntax.specs.Operands.{wanted, some_wanted, having, types, of_roles, plain, inner, children, types_of, uses_var, binds_var, binds_name}
use Rattle.syntax.specs.Tree.{entries_of, binds}
use Rattle.syntax.specs.RowLaws.{Bound, among, bound_keys, bound_none, bound_type}

wanted_code : (vs : List Role) (r w : Role) → (traits r).code ≡ (traits w).code → wanted vs r ≡ wanted vs w
unfolding wanted
wanted_code [] r w e = refl
wanted_code (v ∷ vs) r w e = ap₂ (λ (c : ℕ) (x : Bool). cond (eqb c (traits v).code) true x) e (wanted_code vs r w e)

pub wanted_among : (ws vs : List Role) → among ws vs ≡ true → (r : Role) → wanted ws r ≡ true → wanted vs r ≡ true
unfolding among wanted
wanted_among [] vs a r h = absurd (false≢true h)
wanted_among (w ∷ ws) vs a r h = at (eqb (traits r).code (traits w).code) refl h (λ k. wanted_among ws vs (and_r _ _ a) r k)
  where
    at : (b : Bool) → eqb (traits r).code (traits w).code ≡ b → cond b true (wanted ws r) ≡ true → (wanted ws r ≡ true → wanted vs r ≡ true) → wanted vs r ≡ true
    at true e k f = wanted_code vs r w (eqb-true (traits r).code (traits w).code e) ∙ and_l _ _ a
    at false e k f = f k

wanted_either : (ws vs : List Role) (r : Role) → wanted (ws ++ vs) r ≡ true → (wanted ws r ≡ true) ⊎ (wanted vs r ≡ true)
unfolding wanted
wanted_either [] vs r h = inr h
wanted_either (w ∷ ws) vs r h = at (eqb (traits r).code (traits w).code) h (λ k. wanted_either ws vs r k)
  where
    at : (b : Bool) → cond b true (wanted (ws ++ vs) r) ≡ true → (wanted (ws ++ vs) r ≡ true → (wanted ws r ≡ true) ⊎ (wanted vs r ≡ true)) → (cond b true (wanted ws r) ≡ true) ⊎ (wanted vs r ≡ true)
    at true k f = inl refl
    at false k f = f k

-- Numbers of wanted roles

module _ {T : Type 0} where
  none_wanted : (ws rs : List Role) (os : List (Operand T)) → some_wanted ws rs ≡ false → having ws rs os ≡ []
  unfolding having
  none_wanted ws [] os e = refl
  none_wanted ws (r ∷ rs) [] e = refl
  none_wanted ws (r ∷ rs) (numbers l ∷ os) e = at (wanted ws r) e (λ k. none_wanted ws rs os k)
    where
      at : (b : Bool) → cond b true (some_wanted ws rs) ≡ false → (some_wanted ws rs ≡ false → having ws rs os ≡ []) → cond b (cond (some_wanted ws rs) (l ++ having ws rs os) l) (having ws rs os) ≡ []
      at true k f = absurd (true≢false k)
      at false k f = f k
  none_wanted ws (r ∷ rs) (type t ∷ os) e = at (wanted ws r) e (λ k. none_wanted ws rs os k)
    where
      at : (b : Bool) → cond b true (some_wanted ws rs) ≡ false → (some_wanted ws rs ≡ false → having ws rs os ≡ []) → having ws rs os ≡ []
      at true k f = absurd (true≢false k)
      at false k f = f k

  -- one operand after another
  pub having_cons : (ws : List Role) (r : Role) (rs : List Role) (l : List ℕ) (os : List (Operand T)) → having ws (r ∷ rs) (numbers l ∷ os) ≡ cond (wanted ws r) (l ++ having ws rs os) (having ws rs os)
  unfolding having
  having_cons ws r rs l os = ap (λ m. cond (wanted ws r) m (having ws rs os)) (at (some_wanted ws rs) refl)
    where
      at : (b : Bool) → some_wanted ws rs ≡ b → cond b (l ++ having ws rs os) l ≡ l ++ having ws rs os
      at true e = refl
      at false e = sym (ap (λ m. l ++ m) (none_wanted ws rs os e) ∙ append-nil l)

  having_here : (ws : List Role) (r : Role) (rs : List Role) (l : List ℕ) (os : List (Operand T)) {n : ℕ} → wanted ws r ≡ true → Memᴰ n l → Memᴰ n (having ws (r ∷ rs) (numbers l ∷ os))
  having_here ws r rs l os {n} e m = rw (having_cons ws r rs l os, e) (Memᴰ.append_left (having ws rs os) m)

  having_there : (ws : List Role) (r : Role) (rs : List Role) (l : List ℕ) (os : List (Operand T)) {n : ℕ} → Memᴰ n (having ws rs os) → Memᴰ n (having ws (r ∷ rs) (numbers l ∷ os))
  having_there ws r rs l os {n} m = rw (having_cons ws r rs l os) (at (wanted ws r))
    where
      at : (b : Bool) → Memᴰ n (cond b (l ++ having ws rs os) (having ws rs os))
      at true = Memᴰ.append_right l m
      at false = m

  having_cases : (ws : List Role) (r : Role) (rs : List Role) (l : List ℕ) (os : List (Operand T)) {n : ℕ} → Memᴰ n (having ws (r ∷ rs) (numbers l ∷ os))
      → ((wanted ws r ≡ true) × Memᴰ n l) ⊎ Memᴰ n (having ws rs os)
  having_cases ws r rs l os {n} m = at (wanted ws r) refl (subst (λ z. Memᴰ n z) (having_cons ws r rs l os) m)
    where
      both : wanted ws r ≡ true → Memᴰ n l ⊎ Memᴰ n (having ws rs os) → ((wanted ws r ≡ true) × Memᴰ n l) ⊎ Memᴰ n (having ws rs os)
      both e (inl w) = inl (e, w)
      both e (inr w) = inr w

      at : (b : Bool) → wanted ws r ≡ b → Memᴰ n (cond b (l ++ having ws rs os) (having ws rs os)) → ((wanted ws r ≡ true) × Memᴰ n l) ⊎ Memᴰ n (having ws rs os)
      at true e w = both e (Memᴰ.append_cases l w)
      at false e w = inr w

  -- a number of one of the roles `us` is of one of the roles `ws` or of one of `vs`
  having_split : (us ws vs : List Role) → among us (ws ++ vs) ≡ true → (rs : List Role) (os : List (Operand T)) {n : ℕ} → Memᴰ n (having us rs os) → Memᴰ n (having ws rs os) ⊎ Memᴰ n (having vs rs os)
  unfolding having
  having_split us ws vs a [] os m = inl m
  having_split us ws vs a (r ∷ rs) [] m = inl m
  having_split us ws vs a (r ∷ rs) (type t ∷ os) m = having_split us ws vs a rs os m
  having_split us ws vs a (r ∷ rs) (numbers l ∷ os) {n} m = at (having_cases us r rs l os m) (λ w. having_split us ws vs a rs os w)
    where
      Out : Type 0
      Out = Memᴰ n (having ws (r ∷ rs) (numbers l ∷ os)) ⊎ Memᴰ n (having vs (r ∷ rs) (numbers l ∷ os))

      here : Memᴰ n l → (wanted ws r ≡ true) ⊎ (wanted vs r ≡ true) → Out
      here w (inl e) = inl (having_here ws r rs l os e w)
      here w (inr e) = inr (having_here vs r rs l os e w)

      there : Memᴰ n (having ws rs os) ⊎ Memᴰ n (having vs rs os) → Out
      there (inl w) = inl (having_there ws r rs l os w)
      there (inr w) = inr (having_there vs r rs l os w)

      at : ((wanted us r ≡ true) × Memᴰ n l) ⊎ Memᴰ n (having us rs os) → (Memᴰ n (having us rs os) → Memᴰ n (having ws rs os) ⊎ Memᴰ n (having vs rs os)) → Out
      at (inl z) f = here z.1 (wanted_either ws vs r (wanted_among us (ws ++ vs) a r z.0))
      at (inr w) f = there (f w)

  -- no role, no number
  having_nothing : (rs : List Role) (os : List (Operand T)) → having [] rs os ≡ []
  unfolding having
  having_nothing [] os = refl
  having_nothing (r ∷ rs) [] = refl
  having_nothing (r ∷ rs) (numbers l ∷ os) = having_nothing rs os
  having_nothing (r ∷ rs) (type t ∷ os) = having_nothing rs os

  pub roles_split : (us ws vs : List Role) → among us (ws ++ vs) ≡ true → (k : Cmd T) {n : ℕ} → Memᴰ n (of_roles us k) → Memᴰ n (of_roles ws k) ⊎ Memᴰ n (of_roles vs k)
  unfolding of_roles
  roles_split us ws vs a k m = having_split us ws vs a (form (row k).op).roles (row k).given m

  -- more roles, more numbers
  pub roles_among : (ws vs : List Role) → among ws vs ≡ true → (k : Cmd T) {n : ℕ} → Memᴰ n (of_roles ws k) → Memᴰ n (of_roles vs k)
  unfolding of_roles
  roles_among ws vs a k {n} m = at (roles_split ws vs [] (subst⁻¹ (λ z. among ws z ≡ true) (append-nil vs) a) k m)
    where
      at : Memᴰ n (of_roles vs k) ⊎ Memᴰ n (of_roles [] k) → Memᴰ n (of_roles vs k)
      at (inl w) = w
      at (inr w) = absurd (Memᴰ.not-nil (subst (λ z. Memᴰ n z) (having_nothing (form (row k).op).roles (row k).given) w))

-- What a command binds: nothing; a variable of its type operand; or a variable and a name, which has keys. (Variables of a type, types, variables of keys, all variables, names.)

pub bound : {T : Type 0} (k : Cmd T) → Bound (of_roles (r_parameter ∷ []) k) (types_of k) (of_roles (r_keypair ∷ []) k) (binds_var k) (binds_name k)
unfolding of_roles types_of binds_var binds_name
bound (c_num n) = bound_none
bound c_top = bound_none
bound (c_var v) = bound_none
bound (c_pair a b) = bound_none
bound (c_part a i) = bound_none
bound (c_fn v t b) = bound_type
bound (c_app a b) = bound_none
bound (c_new t a) = bound_none
bound (c_asg a b) = bound_none
bound (c_read a) = bound_none
bound (c_sum i a b) = bound_none
bound (c_test a b c t) = bound_none
bound (c_lim ks b) = bound_none
bound (c_grant a b) = bound_none
bound (c_newkey v r a b t) = bound_keys
bound (c_assoc a b) = bound_none
bound (c_access a b c t) = bound_none
bound (c_divide a b) = bound_none
bound (c_spawn b) = bound_none

-- one name at most
pub bound_few : {T : Type 0} {ps qs vs rs : List ℕ} {ts : List T} → Bound ps ts qs vs rs → length rs ≤ 1
bound_few bound_none = omega arith
bound_few bound_type = omega arith
bound_few bound_keys = omega arith

-- Other type operands

module _ {T U : Type 0} (f : T → U) where
  unfoldable pub map_operand : Operand T → Operand U
  map_operand (numbers l) = numbers l
  map_operand (type t) = type (f t)

  pub row_map : (k : Cmd T) → row (map_cmd f k) ≡ row_of (row k).op (map map_operand (row k).given)
  unfolding row map_cmd map_operand
  row_map (c_num n) = refl
  row_map c_top = refl
  row_map (c_var v) = refl
  row_map (c_pair a b) = refl
  row_map (c_part a i) = refl
  row_map (c_fn v t b) = refl
  row_map (c_app a b) = refl
  row_map (c_new t a) = refl
  row_map (c_asg a b) = refl
  row_map (c_read a) = refl
  row_map (c_sum i a b) = refl
  row_map (c_test a b c t) = refl
  row_map (c_lim ks b) = refl
  row_map (c_grant a b) = refl
  row_map (c_newkey v r a b t) = refl
  row_map (c_assoc a b) = refl
  row_map (c_access a b c t) = refl
  row_map (c_divide a b) = refl
  row_map (c_spawn b) = refl

  having_map : (ws rs : List Role) (os : List (Operand T)) → having ws rs (map map_operand os) ≡ having ws rs os
  unfolding having map_operand
  having_map ws [] os = refl
  having_map ws (r ∷ rs) [] = refl
  having_map ws (r ∷ rs) (numbers l ∷ os) = ap (λ m. cond (wanted ws r) (cond (some_wanted ws rs) (l ++ m) l) m) (having_map ws rs os)
  having_map ws (r ∷ rs) (type t ∷ os) = having_map ws rs os

  types_map : (os : List (Operand T)) → types (map map_operand os) ≡ map f (types os)
  unfolding types map_operand
  types_map [] = refl
  types_map (numbers l ∷ os) = types_map os
  types_map (type t ∷ os) = ap (λ m. f t ∷ m) (types_map os)

  -- the numbers of each role stay
  pub roles_map : (ws : List Role) (k : Cmd T) → of_roles ws (map_cmd f k) ≡ of_roles ws k
  unfolding of_roles
  roles_map ws k = ap (λ (r : Row U). having ws (form r.op).roles r.given) (row_map k) ∙ having_map ws (form (row k).op).roles (row k).given

  pub children_map : (k : Cmd T) → children (map_cmd f k) ≡ children k
  unfolding children plain inner
  children_map k = ap₂ (λ l m. l ++ m) (roles_map (r_evaluated ∷ r_keys ∷ r_entered ∷ []) k) (roles_map (r_inside ∷ []) k)

  pub uses_var_map : (k : Cmd T) → uses_var (map_cmd f k) ≡ uses_var k
  unfolding uses_var
  uses_var_map k = roles_map (r_variable ∷ []) k

  pub binds_var_map : (k : Cmd T) → binds_var (map_cmd f k) ≡ binds_var k
  unfolding binds_var
  binds_var_map k = roles_map (r_parameter ∷ r_keypair ∷ []) k

  pub binds_name_map : (k : Cmd T) → binds_name (map_cmd f k) ≡ binds_name k
  unfolding binds_name
  binds_name_map k = roles_map (r_local ∷ []) k

  pub types_of_map : (k : Cmd T) → types_of (map_cmd f k) ≡ map f (types_of k)
  unfolding types_of
  types_of_map k = ap (λ (r : Row U). types r.given) (row_map k) ∙ types_map (row k).given

-- what a command binds, with other type operands
pub binds_map : {T : Type 0} (f : T → Ty) (k : Cmd T) → binds (map_cmd f k) ≡ entries_of (of_roles (r_parameter ∷ []) k) (map f (types_of k)) (of_roles (r_keypair ∷ []) k) (binds_name k)
unfolding binds
binds_map f k = λ i. entries_of (roles_map f (r_parameter ∷ []) k i) (types_of_map f k i) (roles_map f (r_keypair ∷ []) k i) (binds_name_map f k i)
