-- What a head and its places stand for, one condition a command byte, for proofs about programs that test the byte.
use Rattle.std.specs.Prelude.{◌≡◌, ℕ, ◌/◌, ◌%◌, Bool, drop, take}
use Rattle.std.proofs.Math.Path.{refl, sym, ap, subst⁻¹}
use Rattle.std.proofs.Common.{◌∙◌, eqb-true}
use Rattle.std.proofs.Math.Bool.{true, false, cond}
use mathlib.Core.List.{List, [], ◌∷◌}
use Rattle.std.proofs.Math.Option.{some}
use Rattle.std.proofs.Math.Dec.{eqb}
use Rattle.syntax.specs.Commands.{Cmd, c_num, c_top, c_var, c_pair, c_part, c_fn, c_app, c_new, c_asg, c_read, c_sum, c_test, c_lim, c_grant, c_newkey, c_assoc, c_access, c_divide, c_spawn, Op, o_host, o_local, o_number, o_pair, o_cell, o_function, o_limit, o_grant, o_value, o_rights, x_number, form, commands, find_op}
use Rattle.syntax.specs.Words.{decode_as, decode}
use Rattle.syntax.specs.DecodeLaws.{decode_by, decode_or}

module _ (byte x : ℕ) (places : List ℕ) where
  -- by the commands of a list, one after another
  chain : ℕ → List Op → Cmd ℕ
  chain b [] = c_num x
  chain b (o ∷ l) = cond (eqb b (form o).byte) (decode_as (some o) x places) (chain b l)

  spread : (l : List Op) → decode_as (find_op l byte) x places ≡ chain byte l
  unfolding chain find_op decode_as
  spread [] = refl
  spread (o ∷ l) = at (eqb byte (form o).byte) ∙ ap (λ (k : Cmd ℕ). cond (eqb byte (form o).byte) (decode_as (some o) x places) k) (spread l)
    where
      at : (t : Bool) → decode_as (cond t (some o) (find_op l byte)) x places ≡ cond t (decode_as (some o) x places) (decode_as (find_op l byte) x places)
      at true = refl
      at false = refl

  -- a command that is no expression stands for a number, and so does its byte to the commands after it
  skip : (o : Op) (l : List Op) → decode_as (some o) x places ≡ c_num x → chain (form o).byte l ≡ c_num x → chain byte (o ∷ l) ≡ chain byte l
  unfolding chain
  skip o l h k = at (eqb byte (form o).byte) refl
    where
      at : (t : Bool) → eqb byte (form o).byte ≡ t → cond t (decode_as (some o) x places) (chain byte l) ≡ chain byte l
      at true e = h ∙ sym k ∙ ap (λ (n : ℕ). chain n l) (sym (eqb-true byte (form o).byte e))
      at false e = refl

pub decode_is : (byte x a b c d e : ℕ) → decode byte x a b c d e ≡ decode_by byte x a b c d e
unfolding decode decode_by chain
decode_is byte x a b c d e =
    spread byte x l commands
    ∙ skip byte x l o_host (drop 1 commands) refl refl
    ∙ skip byte x l o_local (drop 2 commands) refl refl
    ∙ skip byte x l o_number (drop 3 commands) refl refl
    ∙ skip byte x l o_pair (drop 4 commands) refl refl
    ∙ skip byte x l o_cell (drop 5 commands) refl refl
    ∙ skip byte x l o_function (drop 6 commands) refl refl
    ∙ skip byte x l o_limit (drop 7 commands) refl refl
    ∙ skip byte x l o_grant (drop 8 commands) refl refl
    ∙ skip byte x l o_value (drop 9 commands) refl refl
    ∙ skip byte x l o_rights (drop 10 commands) refl refl
    ∙ skip byte x l x_number (drop 11 commands) refl refl
    ∙ ap (λ (z : Cmd ℕ). decode_or z byte x a b c d e) (last (eqb byte 0xFF))
  where
    l : List ℕ
    l = a ∷ b ∷ c ∷ d ∷ e ∷ []

    last : (t : Bool) → ◌≡◌ {A = Cmd ℕ} (cond t (c_num x) (c_num x)) (c_num x)
    last true = refl
    last false = refl

by : {A : Type 0} (P : A → Type 0) (b : Bool) (x y : A) → (b ≡ true → P x) → P y → P (cond b x y)
by P true x y f g = f refl
by P false x y f g = g

-- a fact of the expression that a head stands for, by its command byte
module _ (P : Cmd ℕ → Type 0) (op x a b c d e : ℕ) where
  pub decode_cases :
      (op ≡ 0x31 → P c_top) → (op ≡ 0x32 → P (c_var (x % 256))) → (op ≡ 0x33 → P (c_pair a b)) → (op ≡ 0x34 → P (c_part a (eqb x 1))) →
      (op ≡ 0x35 → P (c_fn (x % 256) b a)) → (op ≡ 0x36 → P (c_app a b)) → (op ≡ 0x37 → P (c_new b a)) → (op ≡ 0x38 → P (c_asg a b)) →
      (op ≡ 0x39 → P (c_read a)) → (op ≡ 0x3A → P (c_sum (eqb x 0) a b)) → (op ≡ 0x3B → P (c_test a b c d)) →
      (op ≡ 0x3C → P (c_lim (take x (a ∷ b ∷ c ∷ d ∷ [])) e)) → (op ≡ 0x3D → P (c_grant a b)) →
      (op ≡ 0x3E → P (c_newkey (x % 256) (x / 256 % 256) a b c)) → (op ≡ 0x3F → P (c_assoc a b)) → (op ≡ 0x40 → P (c_access a b c d)) → (op ≡ 0x41 → P (c_divide a b)) → (op ≡ 0x42 → P (c_spawn a)) →
      P (c_num x) → P (decode op x a b c d e)
  unfolding decode_by
  decode_cases f1 f2 f3 f4 f5 f6 f7 f8 f9 fa fb fc fd fe ff f40 f41 f42 g =
      subst⁻¹ P (decode_is op x a b c d e)
      (by P (eqb op 0x31) _ _ (λ h. f1 (eqb-true op 0x31 h))
      (by P (eqb op 0x32) _ _ (λ h. f2 (eqb-true op 0x32 h))
      (by P (eqb op 0x33) _ _ (λ h. f3 (eqb-true op 0x33 h))
      (by P (eqb op 0x34) _ _ (λ h. f4 (eqb-true op 0x34 h))
      (by P (eqb op 0x35) _ _ (λ h. f5 (eqb-true op 0x35 h))
      (by P (eqb op 0x36) _ _ (λ h. f6 (eqb-true op 0x36 h))
      (by P (eqb op 0x37) _ _ (λ h. f7 (eqb-true op 0x37 h))
      (by P (eqb op 0x38) _ _ (λ h. f8 (eqb-true op 0x38 h))
      (by P (eqb op 0x39) _ _ (λ h. f9 (eqb-true op 0x39 h))
      (by P (eqb op 0x3A) _ _ (λ h. fa (eqb-true op 0x3A h))
      (by P (eqb op 0x3B) _ _ (λ h. fb (eqb-true op 0x3B h))
      (by P (eqb op 0x3C) _ _ (λ h. fc (eqb-true op 0x3C h))
      (by P (eqb op 0x3D) _ _ (λ h. fd (eqb-true op 0x3D h))
      (by P (eqb op 0x3E) _ _ (λ h. fe (eqb-true op 0x3E h))
      (by P (eqb op 0x3F) _ _ (λ h. ff (eqb-true op 0x3F h))
      (by P (eqb op 0x40) _ _ (λ h. f40 (eqb-true op 0x40 h))
      (by P (eqb op 0x41) _ _ (λ h. f41 (eqb-true op 0x41 h))
      (by P (eqb op 0x42) _ _ (λ h. f42 (eqb-true op 0x42 h)) g))))))))))))))))))
