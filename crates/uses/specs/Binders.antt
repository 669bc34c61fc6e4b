-- Number 9: what the heads of expressions say of the variables and names that they bind.
use Rattle.std.specs.Prelude.{◌≡◌, Bool, cond, ◌||◌, get_or, take, eqb}
use Rattle.std.proofs.Math.Path.{refl, sym, ap, ap₂, subst⁻¹}
use Rattle.std.proofs.Common.{◌∙◌, ne_eqb}
use Prim.Native.Nat.{ℕ, zero, suc, ◌+◌, ◌*◌, ◌/◌, ◌%◌, ◌≤◌, ◌<◌}
use native.Mathlib.Omega.{arith}
use Rattle.std.proofs.Math.Bool.{true, false, not}
use mathlib.Core.List.{List, [], ◌∷◌, ◌++◌, map, flat_map, append_assoc, append-nil, Memᴰ}
use Rattle.std.proofs.Math.ListN.{length, length-map}
use Rattle.order.specs.Bools.{◌and◌}
use Rattle.order.specs.Sets.{bit, some_of, all_of}
use Rattle.order.proofs.SetLaws.{bit_or_lem, bit_zero}
use Rattle.syntax.specs.Types.{Ty}
use Rattle.syntax.specs.Commands.{Cmd, map_cmd}
use Rattle.syntax.specs.Operands.{nth, binds_var, binds_name}
use Rattle.syntax.specs.Words as words
use Rattle.syntax.specs.Tree.{Entry, e_var, e_name, binds, vars_of, names_of, mem_b, bound_by}
use Rattle.syntax.proofs.ReadFormed.{nth_map}
use Rattle.names.specs.Ancestors.{one_of}
use Rattle.uses.specs.Passes.{bound_var, bound_name, bound_of, before, is_new}
use Rattle.uses.specs.Heads.{byte_of, byte_is, one_bit, one_past, Sort, is_variable, is_function, is_key, is_plain, asked}

-- the variables, or the names
unfoldable pub kind_of : Bool → List Entry → List ℕ
kind_of named Γ = cond named (names_of Γ) (vars_of Γ)

vars_app : (Γ Δ : List Entry) → vars_of (Γ ++ Δ) ≡ vars_of Γ ++ vars_of Δ
unfolding vars_of
vars_app [] Δ = refl
vars_app (e_var v T ∷ Γ) Δ = ap (λ (l : List ℕ). v ∷ l) (vars_app Γ Δ)
vars_app (e_name r ∷ Γ) Δ = vars_app Γ Δ

names_app : (Γ Δ : List Entry) → names_of (Γ ++ Δ) ≡ names_of Γ ++ names_of Δ
unfolding names_of
names_app [] Δ = refl
names_app (e_var v T ∷ Γ) Δ = names_app Γ Δ
names_app (e_name r ∷ Γ) Δ = ap (λ (l : List ℕ). r ∷ l) (names_app Γ Δ)

pub kind_app : (named : Bool) (Γ Δ : List Entry) → kind_of named (Γ ++ Δ) ≡ kind_of named Γ ++ kind_of named Δ
unfolding kind_of
kind_app true Γ Δ = names_app Γ Δ
kind_app false Γ Δ = vars_app Γ Δ

or_cond : (a b : Bool) → cond a true b ≡ (a || b)
or_cond true b = refl
or_cond false b = refl

or_assoc : (a b c : Bool) → (a || (b || c)) ≡ ((a || b) || c)
or_assoc true b c = refl
or_assoc false b c = refl

pub mem_b_cons : (n x : ℕ) (l : List ℕ) → mem_b n (x ∷ l) ≡ (eqb n x || mem_b n l)
unfolding mem_b some_of
mem_b_cons n x l = or_cond (eqb n x) (mem_b n l)

pub mem_b_app : (n : ℕ) (l m : List ℕ) → mem_b n (l ++ m) ≡ (mem_b n l || mem_b n m)
unfolding mem_b some_of
mem_b_app n [] m = refl
mem_b_app n (x ∷ l) m =
    or_cond (eqb n x) (mem_b n (l ++ m)) ∙ ap (λ (b : Bool). eqb n x || b) (mem_b_app n l m) ∙ or_assoc (eqb n x) (mem_b n l) (mem_b n m) ∙ ap (λ (b : Bool). b || mem_b n m) (sym (or_cond (eqb n x) (mem_b n l)))

-- a list of what is bound, which is one number b below 64; or none, and b is 64
pub data Own (l : List ℕ) (b : ℕ) : Type 0 where
  own_none : l ≡ [] → b ≡ 64 → Own l b
  own_one : l ≡ b ∷ [] → b < 64 → Own l b

pub own_mem : {l : List ℕ} {b : ℕ} → Own l b → (n : ℕ) → n < 64 → mem_b n l ≡ eqb n b
unfolding mem_b some_of
own_mem {l} {b} (own_none z y) n h = ap (mem_b n) z ∙ sym (ne_eqb n b (λ e. omega arith))
own_mem {l} {b} (own_one z y) n h = ap (mem_b n) z ∙ at (eqb n b)
  where
    at : (c : Bool) → cond c true false ≡ c
    at true = refl
    at false = refl

pub own_new : {l : List ℕ} {b : ℕ} → Own l b → (m : List ℕ) (s : ℕ) → ((n : ℕ) → n < 64 → bit s n ≡ mem_b n m) → bit s 64 ≡ false → all_of (λ v. not (mem_b v m)) l ≡ not (bit s b)
unfolding all_of
own_new {l} {b} (own_none z y) m s f h = ap (all_of (λ v. not (mem_b v m))) z ∙ sym (ap not (ap (bit s) y ∙ h))
own_new {l} {b} (own_one z y) m s f h = ap (all_of (λ v. not (mem_b v m))) z ∙ at (not (mem_b b m)) ∙ ap not (sym (f b y))
  where
    at : (c : Bool) → cond c true false ≡ c
    at true = refl
    at false = refl

-- what one head says

unfoldable var_at : ℕ → ℕ → ℕ
var_at b w = cond (eqb b 0x35) (w / 256 % 256) (cond (eqb b 0x3E) (w / 256 % 256) 64)

unfoldable name_at : ℕ → ℕ → ℕ
name_at b w = cond (eqb b 0x3E) (w / 65536 % 256) 64

module _ (f : ℕ → Ty) where
  var_at_lem : {k : Cmd ℕ} → Sort k → ((v : ℕ) → Memᴰ v (binds_var k) → v < 64) → Own (vars_of (binds (map_cmd f k))) (var_at (byte_of k) (words.head_word k))
  unfolding var_at byte_of words.head_word vars_of binds map_cmd binds_var
  var_at_lem (is_variable v) h = own_none refl refl
  var_at_lem (is_function v t b) h = let k = h v (Memᴰ.head refl) in let z : v ≡ (0x35 + 256 * v) / 256 % 256 = omega arith in own_one (ap (λ (x : ℕ). x ∷ []) z) (omega arith)
  var_at_lem (is_key v r a b t) h =
      let k = h v (Memᴰ.head refl) in let z : v ≡ (0x3E + 256 * (v + 256 * r)) / 256 % 256 = omega arith in own_one (ap (λ (x : ℕ). x ∷ []) z) (omega arith)
  var_at_lem (is_plain p) h = own_none (ap vars_of (p.binds_none f)) (rw (p.no_function, p.no_key))

  name_at_lem : {k : Cmd ℕ} → Sort k → ((v : ℕ) → Memᴰ v (binds_var k) → v < 64) → ((r : ℕ) → Memᴰ r (binds_name k) → r < 64) → Own (names_of (binds (map_cmd f k))) (name_at (byte_of k) (words.head_word k))
  unfolding name_at byte_of words.head_word names_of binds map_cmd binds_var binds_name
  name_at_lem (is_variable v) h g = own_none refl refl
  name_at_lem (is_function v t b) h g = own_none refl refl
  name_at_lem (is_key v r a b t) h g =
      let k = h v (Memᴰ.head refl) in
      let q = g r (Memᴰ.head refl) in
      let z : r ≡ (0x3E + 256 * (v + 256 * r)) / 65536 % 256 = omega arith in
      own_one (ap (λ (x : ℕ). x ∷ []) z) (omega arith)
  name_at_lem (is_plain p) h g = own_none (ap names_of (p.binds_none f)) (rw p.no_key)

  pub own : (named : Bool) (k : Cmd ℕ) → ((v : ℕ) → Memᴰ v (binds_var k) → v < 64) → ((r : ℕ) → Memᴰ r (binds_name k) → r < 64) → Own (kind_of named (binds (map_cmd f k))) (bound_of named (words.head_word k))
  unfolding kind_of bound_of bound_var bound_name var_at name_at
  own true k h g = subst⁻¹ (λ (b : ℕ). Own (names_of (binds (map_cmd f k))) (name_at b (words.head_word k))) (byte_is k) (name_at_lem (asked k).sort h g)
  own false k h g = subst⁻¹ (λ (b : ℕ). Own (vars_of (binds (map_cmd f k))) (var_at b (words.head_word k))) (byte_is k) (var_at_lem (asked k).sort h)

-- what the expressions before one bind

bound_next : (l : List (Cmd Ty)) (e : ℕ) → e < length l → bound_by (take (suc e) l) ≡ bound_by (take e l) ++ binds (nth l e)
unfolding bound_by flat_map nth
bound_next [] e h = absurd (omega arith)
bound_next (k ∷ l) zero h = append-nil (binds k)
bound_next (k ∷ l) (suc e) h = ap (λ (m : List Entry). binds k ++ m) (bound_next l e (omega arith)) ∙ sym (append_assoc (binds k) (bound_by (take e l)) (binds (nth l e)))

none_before : (named : Bool) (l : List (Cmd Ty)) (n : ℕ) → mem_b n (kind_of named (bound_by (take 0 l))) ≡ false
unfolding kind_of bound_by flat_map vars_of names_of mem_b some_of
none_before true l n = refl
none_before false l n = refl

pub before_past : (named : Bool) (heads : List ℕ) (e : ℕ) → bit (before named heads e) 64 ≡ false
unfolding before
before_past named heads zero = bit_zero 64
before_past named heads (suc e) =
    bit_or_lem 64 (before named heads e) (one_of (bound_of named (get_or heads e 0))) ∙ ap₂ (λ (a b : Bool). a || b) (before_past named heads e) (one_past (bound_of named (get_or heads e 0)) 64 (omega arith))

module _ (l : List (Cmd ℕ)) (f : ℕ → Ty) (heads : List ℕ)
    (head : (e : ℕ) → e < length l → get_or heads e 0 ≡ words.head_word (nth l e))
    (var : (e v : ℕ) → Memᴰ v (binds_var (nth l e)) → v < 64)
    (name : (e r : ℕ) → Memᴰ r (binds_name (nth l e)) → r < 64) where
  pub own_at : (named : Bool) (e : ℕ) → e < length l → Own (kind_of named (binds (nth (map (map_cmd f) l) e))) (bound_of named (get_or heads e 0))
  own_at named e h =
      subst⁻¹ (λ (k : Cmd Ty). Own (kind_of named (binds k)) (bound_of named (get_or heads e 0))) (nth_map f l e)
      (subst⁻¹ (λ (w : ℕ). Own (kind_of named (binds (map_cmd f (nth l e)))) (bound_of named w)) (head e h) (own f named (nth l e) (var e) (name e)))

  pub before_bit : (named : Bool) (e n : ℕ) → e ≤ length l → n < 64 → bit (before named heads e) n ≡ mem_b n (kind_of named (bound_by (take e (map (map_cmd f) l))))
  unfolding before
  before_bit named zero n h k = bit_zero n ∙ sym (none_before named (map (map_cmd f) l) n)
  before_bit named (suc e) n h k =
      let q : e < length (map (map_cmd f) l) = omega (arith, length-map l (map_cmd f)) in
      bit_or_lem n (before named heads e) (one_of (bound_of named (get_or heads e 0)))
      ∙ ap₂ (λ (a b : Bool). a || b) (before_bit named e n (omega arith) k) (one_bit (bound_of named (get_or heads e 0)) n k ∙ sym (own_mem (own_at named e h) n k))
      ∙ sym (mem_b_app n (kind_of named (bound_by (take e (map (map_cmd f) l)))) (kind_of named (binds (nth (map (map_cmd f) l) e))))
      ∙ ap (mem_b n) (sym (kind_app named (bound_by (take e (map (map_cmd f) l))) (binds (nth (map (map_cmd f) l) e))) ∙ ap (kind_of named) (sym (bound_next (map (map_cmd f) l) e q)))

  -- so the test by the sets is the test of 9
  pub new_right : (e : ℕ) → e < length l
      → is_new heads e
      ≡ (all_of (λ v. not (mem_b v (vars_of (bound_by (take e (map (map_cmd f) l)))))) (vars_of (binds (nth (map (map_cmd f) l) e)))
      and all_of (λ r. not (mem_b r (names_of (bound_by (take e (map (map_cmd f) l)))))) (names_of (binds (nth (map (map_cmd f) l) e))))
  unfolding is_new kind_of bound_of ◌and◌
  new_right e h =
      sym (ap₂ (λ (a b : Bool). a and b) (one false) (one true) ∙ at (bit (before false heads e) (bound_var (get_or heads e 0))) (bit (before true heads e) (bound_name (get_or heads e 0))))
    where
      one : (named : Bool) → all_of (λ v. not (mem_b v (kind_of named (bound_by (take e (map (map_cmd f) l)))))) (kind_of named (binds (nth (map (map_cmd f) l) e))) ≡ not (bit (before named heads e) (bound_of named (get_or heads e 0)))
      one named = own_new (own_at named e h) (kind_of named (bound_by (take e (map (map_cmd f) l)))) (before named heads e) (λ n k. before_bit named e n (omega arith) k) (before_past named heads e)

      at : (x y : Bool) → (not x and not y) ≡ cond x false (not y)
      at true y = refl
      at false y = refl
