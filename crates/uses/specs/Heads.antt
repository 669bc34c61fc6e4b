-- What the head and the places of an expression say of its operands.
use Rattle.std.specs.Prelude.{◌≡◌, refl, ℕ, ◌+◌, ◌*◌, ◌/◌, ◌%◌, ◌^◌, ◌≤◌, ◌<◌, Bool, true, false, cond, List, [], ◌∷◌, length, get_or, eqb, ltb}
use Rattle.std.proofs.Common.{sym, ap, ◌∙◌, arith, mod-eq_of_lt, le-ltb, ltb-true, ltb-false, ne_eqb, eqb-true}
use Rattle.order.specs.Sets.{bit}
use Rattle.order.proofs.SetLaws.{bit_pow, bit_zero, lt_bit, lt_pow}
use Rattle.syntax.specs.Commands.{Cmd, c_num, c_top, c_var, c_pair, c_part, c_fn, c_app, c_new, c_asg, c_read, c_sum, c_test, c_lim, c_grant, c_newkey, c_assoc, c_access, c_divide, c_spawn, map_cmd, form, row}
use Rattle.syntax.specs.Operands.{of_roles, plain, inner, children, types_of, uses_var}
use Rattle.syntax.specs.Words.{packed, head_roles, head_word, slots, filled}
use Rattle.syntax.proofs.ReadPlaces.{byte_low}
use Rattle.syntax.proofs.WordLaws.{slots_few}
use Rattle.syntax.specs.Types.{Ty}
use Rattle.syntax.specs.Tree.{count, binds}
use Rattle.names.specs.Ancestors.{one_of}
use Rattle.names.proofs.Bits.{one_of_lem}
use Rattle.uses.specs.Passes.{arity_of, is_operand, type_place}

-- the set of one number

pub pow_fits : (b : ℕ) → b < 64 → 1 * 2 ^ b % 2 ^ 64 ≡ 2 ^ b
pow_fits b h =
    let k : 2 ^ b < 2 ^ 64 = lt_bit 64 (2 ^ b) (λ i e. omega (arith, eqb-true i b (sym (bit_pow b i) ∙ e))) in
    let z : 1 * 2 ^ b ≡ 2 ^ b = omega arith in
    ap (λ (x : ℕ). x % 2 ^ 64) z ∙ mod-eq_of_lt k

pub some_pow : (b : ℕ) → b < 64 → 1 ≤ 1 * 2 ^ b % 2 ^ 64
some_pow b h = omega (arith, pow_fits b h, lt_pow b 0 (omega arith))

pub one_none : (b : ℕ) → 64 ≤ b → one_of b ≡ 0
unfolding one_of
one_none b h = ap (λ (c : Bool). cond c (2 ^ b) 0) (le-ltb b 64 h)

pub one_bit : (b n : ℕ) → n < 64 → bit (one_of b) n ≡ eqb n b
one_bit b n h = at (ltb b 64) refl
  where
    at : (c : Bool) → ltb b 64 ≡ c → bit (one_of b) n ≡ eqb n b
    at true e = ap (λ (x : ℕ). bit x n) (one_of_lem b (ltb-true b 64 e)) ∙ bit_pow b n
    at false e = let k : 64 ≤ b = ltb-false b 64 e in ap (λ (x : ℕ). bit x n) (one_none b k) ∙ bit_zero n ∙ sym (ne_eqb n b (λ z. omega arith))

pub one_past : (b n : ℕ) → 64 ≤ n → bit (one_of b) n ≡ false
one_past b n h = at (ltb b 64) refl
  where
    at : (c : Bool) → ltb b 64 ≡ c → bit (one_of b) n ≡ false
    at true e = let k : b < 64 = ltb-true b 64 e in ap (λ (x : ℕ). bit x n) (one_of_lem b k) ∙ bit_pow b n ∙ ne_eqb n b (λ z. omega arith)
    at false e = ap (λ (x : ℕ). bit x n) (one_none b (ltb-false b 64 e)) ∙ bit_zero n

-- a command's byte, and the rest of its head
unfoldable pub byte_of : Cmd ℕ → ℕ
unfolding form row
byte_of k = (form (row k).op).byte

pub byte_is : (k : Cmd ℕ) → head_word k % 256 ≡ byte_of k
unfolding head_word byte_of
byte_is k = at (form (row k).op).byte (packed (of_roles head_roles k)) (byte_low (row k).op)
  where
    at : (b x : ℕ) → b < 256 → (b + 256 * x) % 256 ≡ b
    at b x h = omega arith

-- place i is an expression, by the byte and the number of keys
unfoldable pub op_at : ℕ → ℕ → ℕ → Bool
op_at b q i = cond (eqb b 0x3C) (cond (ltb i q) true (eqb i 4)) (ltb i (arity_of b))

-- how many keys a 0x3C has; what else a head holds is not asked of the others
unfoldable pub keys_of : Cmd ℕ → ℕ
unfolding head_word
keys_of k = head_word k / 256

pub operand_is : (k : Cmd ℕ) (i : ℕ) → is_operand (head_word k) i ≡ op_at (byte_of k) (keys_of k) i
unfolding is_operand op_at keys_of
operand_is k i = ap (λ (b : ℕ). op_at b (head_word k / 256) i) (byte_is k)

-- a use of c in place i, where the place holds s
unfoldable pub use_at : Bool → ℕ → ℕ → ℕ
use_at o s c = cond o (cond (eqb c s) 1 0) 0

unfoldable pub uses5 : ℕ → ℕ → List ℕ → ℕ → ℕ
uses5 b q s c =
    use_at (op_at b q 4) (get_or s 4 0) c
    + (use_at (op_at b q 3) (get_or s 3 0) c + (use_at (op_at b q 2) (get_or s 2 0) c + (use_at (op_at b q 1) (get_or s 1 0) c + use_at (op_at b q 0) (get_or s 0 0) c)))

pub children_count : (k : Cmd ℕ) → length (slots k) ≡ 5 → (c : ℕ) → count c (children k) ≡ uses5 (byte_of k) (keys_of k) (slots k) c
unfolding children plain inner count uses5 use_at op_at arity_of byte_of keys_of slots filled
children_count (c_num n) h c = refl
children_count c_top h c = refl
children_count (c_var v) h c = refl
children_count (c_pair a b) h c = omega arith
children_count (c_part a i) h c = omega arith
children_count (c_fn v t b) h c = omega arith
children_count (c_app a b) h c = omega arith
children_count (c_new t a) h c = omega arith
children_count (c_asg a b) h c = omega arith
children_count (c_read a) h c = omega arith
children_count (c_sum i a b) h c = omega arith
children_count (c_test x y z t) h c = omega arith
children_count (c_lim [] b) h c = omega arith
children_count (c_lim (w ∷ []) b) h c = omega arith
children_count (c_lim (w ∷ x ∷ []) b) h c = omega arith
children_count (c_lim (w ∷ x ∷ y ∷ []) b) h c = omega arith
children_count (c_lim (w ∷ x ∷ y ∷ z ∷ []) b) h c = omega arith
children_count (c_lim (w ∷ x ∷ y ∷ z ∷ u ∷ l) b) h c = absurd (omega (arith, slots_few (w ∷ x ∷ y ∷ z ∷ u ∷ l) b h))
children_count (c_grant a b) h c = omega arith
children_count (c_newkey v r a b t) h c = omega arith
children_count (c_assoc a b) h c = omega arith
children_count (c_access x y z t) h c = omega arith
children_count (c_divide a b) h c = omega arith
children_count (c_spawn b) h c = omega arith

-- What else the passes ask of a command: the variable that it uses, what it binds and its body, and its type operand

-- the type operand stands in place p, which is 5 where there is none
pub data TypeAt (ts s : List ℕ) (p : ℕ) : Type 0 where
  t_none : ts ≡ [] → p ≡ 5 → TypeAt ts s p
  t_one : (t : ℕ) → ts ≡ t ∷ [] → p < 5 → get_or s p 0 ≡ t → TypeAt ts s p

-- a command that neither uses a variable nor binds
pub record Plain (k : Cmd ℕ) : Type 0 where
  pub uses_none : uses_var k ≡ []
  pub binds_none : (f : ℕ → Ty) → binds (map_cmd f k) ≡ []
  pub no_body : (f : ℕ → Ty) → inner (map_cmd f k) ≡ []
  pub no_variable : eqb (byte_of k) 0x32 ≡ false
  pub no_function : eqb (byte_of k) 0x35 ≡ false
  pub no_key : eqb (byte_of k) 0x3E ≡ false

pub data Sort : Cmd ℕ → Type 0 where
  is_variable : (v : ℕ) → Sort (c_var v)
  is_function : (v t b : ℕ) → Sort (c_fn v t b)
  is_key : (v r a b t : ℕ) → Sort (c_newkey v r a b t)
  is_plain : {k : Cmd ℕ} → Plain k → Sort k

pub record Asked (k : Cmd ℕ) : Type 0 where
  pub sort : Sort k
  pub type_at : TypeAt (types_of k) (slots k) (type_place (byte_of k))

plainly : {k : Cmd ℕ} → Plain k → TypeAt (types_of k) (slots k) (type_place (byte_of k)) → Asked k
plainly p t = record { sort = is_plain p; type_at = t }

pub asked : (k : Cmd ℕ) → Asked k
unfolding uses_var binds inner map_cmd byte_of types_of slots filled type_place
asked (c_num n) = plainly (record { uses_none = refl; binds_none = λ f. refl; no_body = λ f. refl; no_variable = refl; no_function = refl; no_key = refl }) (t_none refl refl)
asked c_top = plainly (record { uses_none = refl; binds_none = λ f. refl; no_body = λ f. refl; no_variable = refl; no_function = refl; no_key = refl }) (t_none refl refl)
asked (c_var v) = record { sort = is_variable v; type_at = t_none refl refl }
asked (c_pair a b) = plainly (record { uses_none = refl; binds_none = λ f. refl; no_body = λ f. refl; no_variable = refl; no_function = refl; no_key = refl }) (t_none refl refl)
asked (c_part a i) = plainly (record { uses_none = refl; binds_none = λ f. refl; no_body = λ f. refl; no_variable = refl; no_function = refl; no_key = refl }) (t_none refl refl)
asked (c_fn v t b) = record { sort = is_function v t b; type_at = t_one t refl (omega arith) refl }
asked (c_app a b) = plainly (record { uses_none = refl; binds_none = λ f. refl; no_body = λ f. refl; no_variable = refl; no_function = refl; no_key = refl }) (t_none refl refl)
asked (c_new t a) = plainly (record { uses_none = refl; binds_none = λ f. refl; no_body = λ f. refl; no_variable = refl; no_function = refl; no_key = refl }) (t_one t refl (omega arith) refl)
asked (c_asg a b) = plainly (record { uses_none = refl; binds_none = λ f. refl; no_body = λ f. refl; no_variable = refl; no_function = refl; no_key = refl }) (t_none refl refl)
asked (c_read a) = plainly (record { uses_none = refl; binds_none = λ f. refl; no_body = λ f. refl; no_variable = refl; no_function = refl; no_key = refl }) (t_none refl refl)
asked (c_sum i a b) = plainly (record { uses_none = refl; binds_none = λ f. refl; no_body = λ f. refl; no_variable = refl; no_function = refl; no_key = refl }) (t_none refl refl)
asked (c_test a b c t) = plainly (record { uses_none = refl; binds_none = λ f. refl; no_body = λ f. refl; no_variable = refl; no_function = refl; no_key = refl }) (t_one t refl (omega arith) refl)
asked (c_lim ks b) = plainly (record { uses_none = refl; binds_none = λ f. refl; no_body = λ f. refl; no_variable = refl; no_function = refl; no_key = refl }) (t_none refl refl)
asked (c_grant a b) = plainly (record { uses_none = refl; binds_none = λ f. refl; no_body = λ f. refl; no_variable = refl; no_function = refl; no_key = refl }) (t_none refl refl)
asked (c_newkey v r a b t) = record { sort = is_key v r a b t; type_at = t_one t refl (omega arith) refl }
asked (c_assoc a b) = plainly (record { uses_none = refl; binds_none = λ f. refl; no_body = λ f. refl; no_variable = refl; no_function = refl; no_key = refl }) (t_none refl refl)
asked (c_access a b c t) = plainly (record { uses_none = refl; binds_none = λ f. refl; no_body = λ f. refl; no_variable = refl; no_function = refl; no_key = refl }) (t_one t refl (omega arith) refl)
asked (c_divide a b) = plainly (record { uses_none = refl; binds_none = λ f. refl; no_body = λ f. refl; no_variable = refl; no_function = refl; no_key = refl }) (t_none refl refl)
asked (c_spawn b) = plainly (record { uses_none = refl; binds_none = λ f. refl; no_body = λ f. refl; no_variable = refl; no_function = refl; no_key = refl }) (t_none refl refl)
