-- The entries of the tables by their words: what stands in them, whether it fits, and their bytes.
use mathlib.Core.Path.{◌≡◌, refl, sym, ap, ap₂, ◌∙◌}
use Prim.Native.Nat.{ℕ, ◌/◌, ◌%◌, ◌^◌, ◌≤◌, ◌<◌}
use native.Mathlib.Omega.{arith}
use mathlib.Core.Bool.{Bool, true, false, cond, not}
use mathlib.Core.List.{List, [], ◌∷◌, ◌++◌}
use mathlib.Core.Option.{Option, none, some}
use lib.Dec.{eqb, ltb, leb}
use borrow.Author.Tests.{lt-ltb, le-ltb, leb-true, leb-false, eq-eqb, ne_eqb, eqb-true}
use Rattle.order.specs.Bools.{◌and◌}
use Rattle.syntax.specs.Commands.{Op, o_host, o_local, o_number, o_pair, o_cell, o_function, o_limit, o_grant, o_value, o_rights, o_end, form, op_of, operands, width, section_of}
use Rattle.syntax.specs.Commands.{x_number, x_top, x_variable, x_pair, x_part, x_function, x_apply, x_cell, x_assign, x_read, x_sum, x_test, x_limit, x_grant, x_newkey, x_associate, x_access, x_divide, x_spawn}
use Rattle.syntax.specs.JobBytes.{bytes_of, operand_bytes, command_bytes}
use Rattle.syntax.specs.Writing.{item, fault, fits, item_of, type_numbers, fields_of}
use Rattle.entry.specs.Bytes.{width_byte, section_byte}
use Rattle.entry.specs.OpBytes.{byte_of}
use Rattle.entry.proofs.OpBytes.{op_byte, section_is, width_narrow, width_is, width_none}
use Rattle.encode.specs.Entries.{foreign_by, type_wide, head_wide, type_tail, expr_tail}
use Rattle.encode.proofs.Laying.{low_two, low_four}

-- Commands

-- a byte that is a command of section `sec`
pub record Found (b sec : ℕ) : Type 0 where
  pub op : Op
  pub is : op_of b ≡ some op
  pub section : section_of op ≡ sec

-- what is told of a command byte
data Told (b sec : ℕ) (f : Op → List ℕ) : ℕ → Type 0 where
  told_none : item_of sec (op_of b) f ≡ fault 2 → Told b sec f 2
  told_foreign : item_of sec (op_of b) f ≡ fault 3 → Told b sec f 3
  told_found : Found b sec → Told b sec f 0

section_of_lem : (b : ℕ) (op : Op) → op_of b ≡ some op → section_byte b ≡ section_of op
unfolding byte_of
section_of_lem b op e = ap section_byte (op_byte b op e) ∙ section_is op

told : (b sec : ℕ) (f : Op → List ℕ) → Told b sec f (foreign_by b sec)
unfolding foreign_by item_of
told b sec f = at (op_of b) refl
  where
    by : (op : Op) → op_of b ≡ some op → (c : Bool) → eqb (section_of op) sec ≡ c → Told b sec f (cond c 0 3)
    by op e true h = told_found (record { op = op; is = e; section = eqb-true (section_of op) sec h })
    by op e false h = told_foreign (rw (e, h))

    at : (o : Option Op) → op_of b ≡ o → Told b sec f (cond (eqb (width_byte b) 255) 2 (cond (eqb (section_byte b) sec) 0 3))
    at none e = rw (width_none b e) (told_none (rw e))
    at (some op) e =
        let w : eqb (width_byte b) 255 ≡ false = ap (λ (n : ℕ). eqb n 255) (width_is b op e) ∙ ne_eqb (width op) 255 (λ z. omega (arith, width_narrow op)) in
        rw (w, section_of_lem b op e) (by op e (eqb (section_of op) sec) refl)

pub foreign_item : (b sec n : ℕ) (f : Op → List ℕ) → n ≡ foreign_by b sec → 0 < n → item_of sec (op_of b) f ≡ fault n
foreign_item b sec n f e h = at (foreign_by b sec) (told b sec f) e
  where
    at : (k : ℕ) → Told b sec f k → n ≡ k → item_of sec (op_of b) f ≡ fault n
    at k (told_none z) q = z ∙ ap fault (sym q)
    at k (told_foreign z) q = z ∙ ap fault (sym q)
    at k (told_found z) q = absurd (omega arith)

pub found : (b sec n : ℕ) → n ≡ foreign_by b sec → n ≤ 0 → Found b sec
found b sec n e h = at (foreign_by b sec) (told b sec (λ op. [])) e
  where
    at : (k : ℕ) → Told b sec (λ op. []) k → n ≡ k → Found b sec
    at k (told_none z) q = absurd (omega arith)
    at k (told_foreign z) q = absurd (omega arith)
    at k (told_found z) q = z

module _ {b sec : ℕ} (o : Found b sec) (f : Op → List ℕ) where
  here : eqb (section_of o.op) sec ≡ true
  here = eq-eqb _ _ o.section

  pub wide_item : fits (operands o.op) (f o.op) ≡ false → item_of sec (op_of b) f ≡ fault 6
  unfolding item_of
  wide_item h = rw (o.is, here, h)

  pub item_is : fits (operands o.op) (f o.op) ≡ true → item_of sec (op_of b) f ≡ item (o.op, f o.op)
  unfolding item_of
  item_is h = rw (o.is, here, h)

  -- its byte
  pub byte_is : b ≡ (form o.op).byte
  unfolding byte_of
  byte_is = op_byte b o.op o.is

  pub bytes_are : b < 256 → {t : List ℕ} → operand_bytes (operands o.op) (f o.op) ≡ t → bytes_of 1 b ++ t ≡ command_bytes (o.op, f o.op)
  unfolding command_bytes bytes_of
  bytes_are h e = let z : b % 256 ≡ (form o.op).byte = low b h ∙ byte_is in ap₂ (λ (x : ℕ) (l : List ℕ). x ∷ l) z (sym e)
    where
      low : (n : ℕ) → n < 256 → n % 256 ≡ n
      low n k = omega arith

-- Widths

fits_more : (w n : ℕ) (ws o : List ℕ) {z : Bool} → n < 256 ^ w → fits ws o ≡ z → fits (w ∷ ws) (n ∷ o) ≡ z
unfolding fits ◌and◌
fits_more w n ws o h e = rw (lt-ltb n (256 ^ w) h) e

fits_here : (w n : ℕ) (ws o : List ℕ) → fits ws o ≡ true → fits (w ∷ ws) (n ∷ o) ≡ ltb n (256 ^ w)
unfolding fits ◌and◌
fits_here w n ws o e = rw e (at (ltb n (256 ^ w)))
  where
    at : (b : Bool) → (b and true) ≡ b
    at true = refl
    at false = refl

fits_none : fits [] [] ≡ true
unfolding fits
fits_none = refl

not_wide : (m n : ℕ) → ltb n m ≡ not (leb m n)
not_wide m n = at (leb m n) refl
  where
    at : (b : Bool) → leb m n ≡ b → ltb n m ≡ not b
    at true e = le-ltb n m (leb-true m n e)
    at false e = lt-ltb n m (leb-false m n e)

-- the second part of a type has what is above 48 bits beyond its own
second_wide : (d : ℕ) → ltb (d / 4294967296) 65536 ≡ not (leb 281474976710656 d)
second_wide d = at (leb 281474976710656 d) refl
  where
    at : (b : Bool) → leb 281474976710656 d ≡ b → ltb (d / 4294967296) 65536 ≡ not b
    at true e = le-ltb (d / 4294967296) 65536 (omega (arith, leb-true 281474976710656 d e))
    at false e = lt-ltb (d / 4294967296) 65536 (omega (arith, leb-false 281474976710656 d e))

-- what is left of a head after its first byte
rest_wide : (x : ℕ) → ltb (x / 256) 256 ≡ not (leb 65536 x)
rest_wide x = at (leb 65536 x) refl
  where
    at : (b : Bool) → leb 65536 x ≡ b → ltb (x / 256) 256 ≡ not b
    at true e = le-ltb (x / 256) 256 (omega (arith, leb-true 65536 x e))
    at false e = lt-ltb (x / 256) 256 (omega (arith, leb-false 65536 x e))

byte_fits : (n : ℕ) → n % 256 < 256 ^ 1
byte_fits n = omega arith

two_fit : (n : ℕ) → n % 65536 < 256 ^ 2
two_fit n = omega arith

-- Names and host values

pub name_operands : (op : Op) → section_of op ≡ 0 → operands op ≡ 1 ∷ []
unfolding section_of operands
name_operands o_host h = refl
name_operands o_local h = refl
name_operands o_number h = absurd (omega (arith, h))
name_operands o_pair h = absurd (omega (arith, h))
name_operands o_cell h = absurd (omega (arith, h))
name_operands o_function h = absurd (omega (arith, h))
name_operands o_limit h = absurd (omega (arith, h))
name_operands o_grant h = absurd (omega (arith, h))
name_operands o_value h = absurd (omega (arith, h))
name_operands o_rights h = absurd (omega (arith, h))
name_operands x_number h = absurd (omega (arith, h))
name_operands x_top h = absurd (omega (arith, h))
name_operands x_variable h = absurd (omega (arith, h))
name_operands x_pair h = absurd (omega (arith, h))
name_operands x_part h = absurd (omega (arith, h))
name_operands x_function h = absurd (omega (arith, h))
name_operands x_apply h = absurd (omega (arith, h))
name_operands x_cell h = absurd (omega (arith, h))
name_operands x_assign h = absurd (omega (arith, h))
name_operands x_read h = absurd (omega (arith, h))
name_operands x_sum h = absurd (omega (arith, h))
name_operands x_test h = absurd (omega (arith, h))
name_operands x_limit h = absurd (omega (arith, h))
name_operands x_grant h = absurd (omega (arith, h))
name_operands x_newkey h = absurd (omega (arith, h))
name_operands x_associate h = absurd (omega (arith, h))
name_operands x_access h = absurd (omega (arith, h))
name_operands x_divide h = absurd (omega (arith, h))
name_operands x_spawn h = absurd (omega (arith, h))
name_operands o_end h = absurd (omega (arith, h))

pub name_fits : (op : Op) → section_of op ≡ 0 → (d : ℕ) → fits (operands op) (d % 256 ∷ []) ≡ true
name_fits op h d = ap (λ ws. fits ws (d % 256 ∷ [])) (name_operands op h) ∙ fits_more 1 (d % 256) [] [] (byte_fits d) fits_none

pub name_tail : (op : Op) → section_of op ≡ 0 → (u : ℕ) → operand_bytes (operands op) (u ∷ []) ≡ bytes_of 1 u
unfolding operand_bytes bytes_of
name_tail op h u = ap (λ ws. operand_bytes ws (u ∷ [])) (name_operands op h)

pub value_operands : (op : Op) → section_of op ≡ 2 → operands op ≡ 2 ∷ 4 ∷ []
unfolding section_of operands
value_operands o_host h = absurd (omega (arith, h))
value_operands o_local h = absurd (omega (arith, h))
value_operands o_number h = absurd (omega (arith, h))
value_operands o_pair h = absurd (omega (arith, h))
value_operands o_cell h = absurd (omega (arith, h))
value_operands o_function h = absurd (omega (arith, h))
value_operands o_limit h = absurd (omega (arith, h))
value_operands o_grant h = absurd (omega (arith, h))
value_operands o_value h = refl
value_operands o_rights h = absurd (omega (arith, h))
value_operands x_number h = absurd (omega (arith, h))
value_operands x_top h = absurd (omega (arith, h))
value_operands x_variable h = absurd (omega (arith, h))
value_operands x_pair h = absurd (omega (arith, h))
value_operands x_part h = absurd (omega (arith, h))
value_operands x_function h = absurd (omega (arith, h))
value_operands x_apply h = absurd (omega (arith, h))
value_operands x_cell h = absurd (omega (arith, h))
value_operands x_assign h = absurd (omega (arith, h))
value_operands x_read h = absurd (omega (arith, h))
value_operands x_sum h = absurd (omega (arith, h))
value_operands x_test h = absurd (omega (arith, h))
value_operands x_limit h = absurd (omega (arith, h))
value_operands x_grant h = absurd (omega (arith, h))
value_operands x_newkey h = absurd (omega (arith, h))
value_operands x_associate h = absurd (omega (arith, h))
value_operands x_access h = absurd (omega (arith, h))
value_operands x_divide h = absurd (omega (arith, h))
value_operands x_spawn h = absurd (omega (arith, h))
value_operands o_end h = absurd (omega (arith, h))

pub value_fits : (op : Op) → section_of op ≡ 2 → (d : ℕ) → fits (operands op) (d / 256 % 65536 ∷ d / 16777216 ∷ []) ≡ ltb (d / 16777216) 4294967296
value_fits op h d =
    ap (λ ws. fits ws (d / 256 % 65536 ∷ d / 16777216 ∷ [])) (value_operands op h)
    ∙ fits_more 2 (d / 256 % 65536) (4 ∷ []) (d / 16777216 ∷ []) (two_fit (d / 256)) (fits_here 4 (d / 16777216) [] [] fits_none)

pub value_tail : (op : Op) → section_of op ≡ 2 → (t n : ℕ) → operand_bytes (operands op) (t ∷ n ∷ []) ≡ bytes_of 2 t ++ bytes_of 4 n
unfolding operand_bytes bytes_of
value_tail op h t n = ap (λ ws. operand_bytes ws (t ∷ n ∷ [])) (value_operands op h)

-- Types

pub type_fits : (op : Op) → section_of op ≡ 1 → (d s : ℕ) → s < 256 ^ 8 → fits (operands op) (type_numbers d s op) ≡ not (type_wide (form op).byte d)
unfolding section_of operands type_wide
type_fits o_host h d s k = absurd (omega (arith, h))
type_fits o_local h d s k = absurd (omega (arith, h))
type_fits o_number h d s k = fits_more 1 (d / 256 % 256) _ _ (byte_fits (d / 256)) fits_none
type_fits o_pair h d s k = fits_more 1 (d / 256 % 256) _ _ (byte_fits (d / 256)) (fits_more 2 (d / 65536 % 65536) _ _ (two_fit (d / 65536)) (fits_here 2 (d / 4294967296) [] [] fits_none ∙ second_wide d))
type_fits o_cell h d s k = fits_more 1 (d / 256 % 256) _ _ (byte_fits (d / 256)) (fits_more 2 (d / 65536 % 65536) _ _ (two_fit (d / 65536)) fits_none)
type_fits o_function h d s k = fits_more 1 (d / 256 % 256) _ _ (byte_fits (d / 256)) (fits_more 2 (d / 65536 % 65536) _ _ (two_fit (d / 65536)) (fits_here 2 (d / 4294967296) (8 ∷ []) (s ∷ []) (fits_more 8 s [] [] k fits_none) ∙ second_wide d))
type_fits o_limit h d s k = fits_more 1 (d / 256 % 256) _ _ (byte_fits (d / 256)) (fits_here 1 (d / 65536 % 65536) [] [] fits_none ∙ not_wide 256 (d / 65536 % 65536))
type_fits o_grant h d s k = fits_more 1 (d / 256 % 256) _ _ (byte_fits (d / 256)) (fits_here 1 (d / 65536 % 65536) [] [] fits_none ∙ not_wide 256 (d / 65536 % 65536))
type_fits o_value h d s k = absurd (omega (arith, h))
type_fits o_rights h d s k = absurd (omega (arith, h))
type_fits x_number h d s k = absurd (omega (arith, h))
type_fits x_top h d s k = absurd (omega (arith, h))
type_fits x_variable h d s k = absurd (omega (arith, h))
type_fits x_pair h d s k = absurd (omega (arith, h))
type_fits x_part h d s k = absurd (omega (arith, h))
type_fits x_function h d s k = absurd (omega (arith, h))
type_fits x_apply h d s k = absurd (omega (arith, h))
type_fits x_cell h d s k = absurd (omega (arith, h))
type_fits x_assign h d s k = absurd (omega (arith, h))
type_fits x_read h d s k = absurd (omega (arith, h))
type_fits x_sum h d s k = absurd (omega (arith, h))
type_fits x_test h d s k = absurd (omega (arith, h))
type_fits x_limit h d s k = absurd (omega (arith, h))
type_fits x_grant h d s k = absurd (omega (arith, h))
type_fits x_newkey h d s k = absurd (omega (arith, h))
type_fits x_associate h d s k = absurd (omega (arith, h))
type_fits x_access h d s k = absurd (omega (arith, h))
type_fits x_divide h d s k = absurd (omega (arith, h))
type_fits x_spawn h d s k = absurd (omega (arith, h))
type_fits o_end h d s k = absurd (omega (arith, h))

-- the name of a limit or grant key
low_name : (n : ℕ) → n % 65536 % 256 ≡ n % 256 % 256
low_name n = omega arith

pub type_tail_lem : (op : Op) → section_of op ≡ 1 → (d s : ℕ) → operand_bytes (operands op) (type_numbers d s op) ≡ type_tail (form op).byte d s
unfolding section_of operands operand_bytes bytes_of type_tail
type_tail_lem o_host h d s = absurd (omega (arith, h))
type_tail_lem o_local h d s = absurd (omega (arith, h))
type_tail_lem o_number h d s = refl
type_tail_lem o_pair h d s = ap (λ l. bytes_of 1 (d / 256 % 256) ++ (bytes_of 2 (d / 65536 % 65536) ++ l)) (sym (low_two (d / 4294967296)))
type_tail_lem o_cell h d s = refl
type_tail_lem o_function h d s = ap (λ l. bytes_of 1 (d / 256 % 256) ++ (bytes_of 2 (d / 65536 % 65536) ++ (l ++ bytes_of 8 s))) (sym (low_two (d / 4294967296)))
type_tail_lem o_limit h d s = ap (λ (n : ℕ). (d / 256 % 256) % 256 ∷ n ∷ []) (low_name (d / 65536))
type_tail_lem o_grant h d s = ap (λ (n : ℕ). (d / 256 % 256) % 256 ∷ n ∷ []) (low_name (d / 65536))
type_tail_lem o_value h d s = absurd (omega (arith, h))
type_tail_lem o_rights h d s = absurd (omega (arith, h))
type_tail_lem x_number h d s = absurd (omega (arith, h))
type_tail_lem x_top h d s = absurd (omega (arith, h))
type_tail_lem x_variable h d s = absurd (omega (arith, h))
type_tail_lem x_pair h d s = absurd (omega (arith, h))
type_tail_lem x_part h d s = absurd (omega (arith, h))
type_tail_lem x_function h d s = absurd (omega (arith, h))
type_tail_lem x_apply h d s = absurd (omega (arith, h))
type_tail_lem x_cell h d s = absurd (omega (arith, h))
type_tail_lem x_assign h d s = absurd (omega (arith, h))
type_tail_lem x_read h d s = absurd (omega (arith, h))
type_tail_lem x_sum h d s = absurd (omega (arith, h))
type_tail_lem x_test h d s = absurd (omega (arith, h))
type_tail_lem x_limit h d s = absurd (omega (arith, h))
type_tail_lem x_grant h d s = absurd (omega (arith, h))
type_tail_lem x_newkey h d s = absurd (omega (arith, h))
type_tail_lem x_associate h d s = absurd (omega (arith, h))
type_tail_lem x_access h d s = absurd (omega (arith, h))
type_tail_lem x_divide h d s = absurd (omega (arith, h))
type_tail_lem x_spawn h d s = absurd (omega (arith, h))
type_tail_lem o_end h d s = absurd (omega (arith, h))

-- Expressions

-- the places hold numbers of two bytes
pub record Places (a b c d e : ℕ) : Type 0 where
  pub first : a < 65536
  pub second : b < 65536
  pub third : c < 65536
  pub fourth : d < 65536
  pub fifth : e < 65536

pub expr_fits : (op : Op) → section_of op ≡ 4 → (x a b c d e : ℕ) → Places a b c d e → fits (operands op) (fields_of x (a ∷ b ∷ c ∷ d ∷ e ∷ []) op) ≡ not (head_wide (form op).byte x)
unfolding section_of operands fields_of head_wide
expr_fits o_host h x a b c d e p = absurd (omega (arith, h))
expr_fits o_local h x a b c d e p = absurd (omega (arith, h))
expr_fits o_number h x a b c d e p = absurd (omega (arith, h))
expr_fits o_pair h x a b c d e p = absurd (omega (arith, h))
expr_fits o_cell h x a b c d e p = absurd (omega (arith, h))
expr_fits o_function h x a b c d e p = absurd (omega (arith, h))
expr_fits o_limit h x a b c d e p = absurd (omega (arith, h))
expr_fits o_grant h x a b c d e p = absurd (omega (arith, h))
expr_fits o_value h x a b c d e p = absurd (omega (arith, h))
expr_fits o_rights h x a b c d e p = absurd (omega (arith, h))
expr_fits x_number h x a b c d e p = fits_here 4 x [] [] fits_none ∙ not_wide 4294967296 x
expr_fits x_top h x a b c d e p = fits_none
expr_fits x_variable h x a b c d e p = fits_here 1 x [] [] fits_none ∙ not_wide 256 x
expr_fits x_pair h x a b c d e p = (fits_more 2 a _ _ p.first (fits_more 2 b _ _ p.second fits_none))
expr_fits x_part h x a b c d e p = fits_more 2 a _ _ p.first (fits_here 1 x [] [] fits_none ∙ not_wide 256 x)
expr_fits x_function h x a b c d e p = fits_here 1 x _ _ (fits_more 2 b _ _ p.second (fits_more 2 a _ _ p.first fits_none)) ∙ not_wide 256 x
expr_fits x_apply h x a b c d e p = (fits_more 2 a _ _ p.first (fits_more 2 b _ _ p.second fits_none))
expr_fits x_cell h x a b c d e p = (fits_more 2 b _ _ p.second (fits_more 2 a _ _ p.first fits_none))
expr_fits x_assign h x a b c d e p = (fits_more 2 a _ _ p.first (fits_more 2 b _ _ p.second fits_none))
expr_fits x_read h x a b c d e p = (fits_more 2 a _ _ p.first fits_none)
expr_fits x_sum h x a b c d e p = fits_here 1 x _ _ (fits_more 2 a _ _ p.first (fits_more 2 b _ _ p.second fits_none)) ∙ not_wide 256 x
expr_fits x_test h x a b c d e p = (fits_more 2 a _ _ p.first (fits_more 2 b _ _ p.second (fits_more 2 c _ _ p.third (fits_more 2 d _ _ p.fourth fits_none))))
expr_fits x_limit h x a b c d e p = fits_here 1 x _ _ (fits_more 2 a _ _ p.first (fits_more 2 b _ _ p.second (fits_more 2 c _ _ p.third (fits_more 2 d _ _ p.fourth (fits_more 2 e _ _ p.fifth fits_none))))) ∙ not_wide 256 x
expr_fits x_grant h x a b c d e p = (fits_more 2 a _ _ p.first (fits_more 2 b _ _ p.second fits_none))
expr_fits x_newkey h x a b c d e p = fits_more 1 (x % 256) _ _ (byte_fits x) (fits_here 1 (x / 256) _ _ (fits_more 2 a _ _ p.first (fits_more 2 b _ _ p.second (fits_more 2 c _ _ p.third fits_none))) ∙ rest_wide x)
expr_fits x_associate h x a b c d e p = (fits_more 2 a _ _ p.first (fits_more 2 b _ _ p.second fits_none))
expr_fits x_access h x a b c d e p = (fits_more 2 a _ _ p.first (fits_more 2 b _ _ p.second (fits_more 2 c _ _ p.third (fits_more 2 d _ _ p.fourth fits_none))))
expr_fits x_divide h x a b c d e p = (fits_more 2 a _ _ p.first (fits_more 2 b _ _ p.second fits_none))
expr_fits x_spawn h x a b c d e p = (fits_more 2 a _ _ p.first fits_none)
expr_fits o_end h x a b c d e p = absurd (omega (arith, h))

low_byte : (x : ℕ) → x % 256 ≡ x % 256 % 256
low_byte x = omega arith

low_first : (x : ℕ) → x % 256 % 256 ≡ x % 65536 % 256
low_first x = omega arith

low_second : (x : ℕ) → x / 256 % 256 ≡ x % 65536 / 256 % 256
low_second x =
    let y : ℕ = x / 256 in
    let z : x / 65536 ≡ y / 256 = omega arith in
    let b : x % 65536 / 256 ≡ y % 256 = omega (arith, z) in
    let c : y % 256 ≡ y % 256 % 256 = omega arith in
    c ∙ ap (λ (n : ℕ). n % 256) (sym b)

pub expr_tail_lem : (op : Op) → section_of op ≡ 4 → (x a b c d e : ℕ) → operand_bytes (operands op) (fields_of x (a ∷ b ∷ c ∷ d ∷ e ∷ []) op) ≡ expr_tail (form op).byte x a b c d e
unfolding section_of operands operand_bytes bytes_of fields_of expr_tail
expr_tail_lem o_host h x a b c d e = absurd (omega (arith, h))
expr_tail_lem o_local h x a b c d e = absurd (omega (arith, h))
expr_tail_lem o_number h x a b c d e = absurd (omega (arith, h))
expr_tail_lem o_pair h x a b c d e = absurd (omega (arith, h))
expr_tail_lem o_cell h x a b c d e = absurd (omega (arith, h))
expr_tail_lem o_function h x a b c d e = absurd (omega (arith, h))
expr_tail_lem o_limit h x a b c d e = absurd (omega (arith, h))
expr_tail_lem o_grant h x a b c d e = absurd (omega (arith, h))
expr_tail_lem o_value h x a b c d e = absurd (omega (arith, h))
expr_tail_lem o_rights h x a b c d e = absurd (omega (arith, h))
expr_tail_lem x_number h x a b c d e = sym (low_four x)
expr_tail_lem x_top h x a b c d e = refl
expr_tail_lem x_variable h x a b c d e = ap (λ (n : ℕ). n ∷ []) (low_byte x)
expr_tail_lem x_pair h x a b c d e = refl
expr_tail_lem x_part h x a b c d e = ap (λ (n : ℕ). bytes_of 2 a ++ (n ∷ [])) (low_byte x)
expr_tail_lem x_function h x a b c d e = ap (λ (n : ℕ). n ∷ (bytes_of 2 b ++ bytes_of 2 a)) (low_byte x)
expr_tail_lem x_apply h x a b c d e = refl
expr_tail_lem x_cell h x a b c d e = refl
expr_tail_lem x_assign h x a b c d e = refl
expr_tail_lem x_read h x a b c d e = refl
expr_tail_lem x_sum h x a b c d e = ap (λ (n : ℕ). n ∷ (bytes_of 2 a ++ bytes_of 2 b)) (low_byte x)
expr_tail_lem x_test h x a b c d e = refl
expr_tail_lem x_limit h x a b c d e = ap (λ (n : ℕ). n ∷ (bytes_of 2 a ++ (bytes_of 2 b ++ (bytes_of 2 c ++ (bytes_of 2 d ++ bytes_of 2 e))))) (low_byte x)
expr_tail_lem x_grant h x a b c d e = refl
expr_tail_lem x_newkey h x a b c d e = ap₂ (λ (m n : ℕ). m ∷ n ∷ (bytes_of 2 a ++ (bytes_of 2 b ++ bytes_of 2 c))) (low_first x) (low_second x)
expr_tail_lem x_associate h x a b c d e = refl
expr_tail_lem x_access h x a b c d e = refl
expr_tail_lem x_divide h x a b c d e = refl
expr_tail_lem x_spawn h x a b c d e = refl
expr_tail_lem o_end h x a b c d e = absurd (omega (arith, h))
