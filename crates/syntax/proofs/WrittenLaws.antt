-- What is written by the three commands that have an operand with a range, 0x34, 0x3A and 0x3C; and the operands' numbers of what is written, which are those that wrote it.
use Rattle.std.specs.Prelude.{◌≡◌, refl, ℕ, zero, suc, ◌≤◌, Bool, true, false, cond, List, [], ◌∷◌, ◌++◌, ◌⊎◌, length, get_or, replicate, take, drop, eqb, leb}
use Rattle.std.proofs.Common.{sym, ap, ap₂, ◌∙◌, subst, arith, true≢false, inl, inr, get_or-drop, eqb-true, le-leb, leb-true}
use Rattle.std.proofs.Math.Path.{subst⁻¹}
use Rattle.std.proofs.lemmas.Bool.{false≢true, eqb-false}
use Rattle.order.specs.Bools.{◌and◌}
use Rattle.order.proofs.Bools.{and_l, and_r, and2}
use Rattle.order.specs.Sets.{all_of}
use Rattle.syntax.specs.Commands.{Cmd, c_part, c_sum, c_lim, Op, o_host, o_local, o_number, o_pair, o_cell, o_function, o_limit, o_grant, o_value, o_rights, o_end, operands, row}
use Rattle.syntax.specs.Commands.{x_number, x_top, x_variable, x_pair, x_part, x_function, x_apply, x_cell, x_assign, x_read, x_sum, x_test, x_limit, x_grant, x_newkey, x_associate, x_access, x_divide, x_spawn}
use Rattle.syntax.specs.Types.{TypeEntry, e_num, e_pair, e_cell, e_fn, e_lim, e_grant}
use Rattle.syntax.specs.Reading.{Written, w_type, w_cmd, unwritten, written}
use Rattle.syntax.specs.Words.{entry_row}
use Rattle.syntax.specs.WrittenLaws.{Raw, firsts, limit_of, numbers_in, numbers_of, part_of, sum_of}

-- a choice of two
chosen : (lo i : ℕ) (f : Bool → Written)
    → cond (cond (leb lo i and leb i (suc lo)) true false) (f (eqb i lo)) unwritten ≡ cond (eqb i lo) (f true) (cond (eqb i (suc lo)) (f false) unwritten)
chosen lo i f = at (leb lo i and leb i (suc lo)) refl (eqb i lo) refl (eqb i (suc lo)) refl
  where
    in_range : (leb lo i and leb i (suc lo)) ≡ false → (i ≡ lo) ⊎ (i ≡ suc lo) → ⊥
    in_range h z = true≢false (sym (and2 _ _ (le-leb lo i (low z)) (le-leb i (suc lo) (high z))) ∙ h)
      where
        low : (i ≡ lo) ⊎ (i ≡ suc lo) → lo ≤ i
        low (inl e) = omega arith
        low (inr e) = omega arith

        high : (i ≡ lo) ⊎ (i ≡ suc lo) → i ≤ suc lo
        high (inl e) = omega arith
        high (inr e) = omega arith

    at : (a : Bool) → (leb lo i and leb i (suc lo)) ≡ a → (b : Bool) → eqb i lo ≡ b → (c : Bool) → eqb i (suc lo) ≡ c
        → cond (cond a true false) (f b) unwritten ≡ cond b (f true) (cond c (f false) unwritten)
    at true p true q c r = refl
    at true p false q true r = refl
    at true p false q false r = absurd (neither (leb-true lo i (and_l _ _ p)) (leb-true i (suc lo) (and_r _ _ p)) (eqb-false i lo q) (eqb-false i (suc lo) r))
      where
        neither : lo ≤ i → i ≤ suc lo → (i ≡ lo → ⊥) → (i ≡ suc lo → ⊥) → ⊥
        neither x y u v = omega arith
    at false p true q c r = absurd (in_range p (inl (eqb-true i lo q)))
    at false p false q true r = absurd (in_range p (inr (eqb-true i (suc lo) r)))
    at false p false q false r = refl

pub written_part : (o : List ℕ) → written x_part o ≡ part_of (get_or o 0 0) (get_or o 1 0)
unfolding written part_of
written_part o =
    ap (λ (i : ℕ). cond (cond (leb 1 i and leb i 2) true false) (w_cmd (c_part (get_or o 0 0) (eqb (get_or o 1 0) 1))) unwritten) (get_or-drop 1 o 0 0)
    ∙ chosen 1 (get_or o 1 0) (λ b. w_cmd (c_part (get_or o 0 0) b))

pub written_sum : (o : List ℕ) → written x_sum o ≡ sum_of (get_or o 0 0) (get_or o 1 0) (get_or o 2 0)
unfolding written sum_of
written_sum o = chosen 0 (get_or o 0 0) (λ b. w_cmd (c_sum b (get_or o 1 0) (get_or o 2 0)))

pub written_limit : (o : List ℕ) → written x_limit o ≡ limit_of (get_or o 0 0) (take 4 (drop 1 o)) (get_or o 5 0)
unfolding written limit_of
written_limit o = at (leb (get_or o 0 0) 4 and all_of (λ e. eqb e 0xFFFF) (drop (get_or o 0 0) (take 4 (drop 1 o))))
  where
    at : (b : Bool) → cond (cond b true false) (w_cmd (c_lim (take (get_or o 0 0) (take 4 (drop 1 o))) (get_or o 5 0))) unwritten ≡ cond b (w_cmd (c_lim (take (get_or o 0 0) (take 4 (drop 1 o))) (get_or o 5 0))) unwritten
    at true = refl
    at false = refl

-- Numbers given back

firsts_of : (o : List ℕ) → firsts (length o) (λ i. get_or o i 0) ≡ o
unfolding firsts
firsts_of [] = refl
firsts_of (x ∷ o) = ap (λ l. x ∷ l) (firsts_of o)

pub firsts_are : (n : ℕ) (o : List ℕ) → length o ≡ n → firsts n (λ i. get_or o i 0) ≡ o
firsts_are n o h = ap (λ (m : ℕ). firsts m (λ i. get_or o i 0)) (sym h) ∙ firsts_of o

same_cmd : {j k : Cmd ℕ} → w_cmd j ≡ w_cmd k → j ≡ k
same_cmd e = cc

raw : {op : Op} (o : List ℕ) {j k : Cmd ℕ} → (row j).op ≡ op → numbers_of j ≡ o → w_cmd j ≡ w_cmd k → Raw op o k
raw {op} o a b e = subst (λ z. Raw op o z) (same_cmd e) (record { command = a; numbers_are = b })

-- all are 0xFFFF
unused_are : (l : List ℕ) → all_of (λ e. eqb e 0xFFFF) l ≡ true → replicate (length l) 0xFFFF ≡ l
unfolding all_of
unused_are [] h = refl
unused_are (x ∷ l) h = at (eqb x 0xFFFF) refl h (λ k. unused_are l k)
  where
    at : (b : Bool) → eqb x 0xFFFF ≡ b → cond b (all_of (λ e. eqb e 0xFFFF) l) false ≡ true → (all_of (λ e. eqb e 0xFFFF) l ≡ true → replicate (length l) 0xFFFF ≡ l) → 0xFFFF ∷ replicate (length l) 0xFFFF ≡ x ∷ l
    at true e k f = ap₂ (λ (n : ℕ) m. n ∷ m) (sym (eqb-true x 0xFFFF e)) (f k)
    at false e k f = absurd (false≢true k)

raw_part : (a i : ℕ) (k : Cmd ℕ) → part_of a i ≡ w_cmd k → Raw x_part (a ∷ i ∷ []) k
unfolding part_of numbers_in row
raw_part a i k e = at (eqb i 1) refl (eqb i 2) refl e
  where
    at : (b : Bool) → eqb i 1 ≡ b → (c : Bool) → eqb i 2 ≡ c → cond b (w_cmd (c_part a true)) (cond c (w_cmd (c_part a false)) unwritten) ≡ w_cmd k → Raw x_part (a ∷ i ∷ []) k
    at true p c q e = raw _ refl (ap (λ (n : ℕ). a ∷ n ∷ []) (sym (eqb-true i 1 p))) e
    at false p true q e = raw _ refl (ap (λ (n : ℕ). a ∷ n ∷ []) (sym (eqb-true i 2 q))) e
    at false p false q e = absurd (let z : ◌≡◌ {A = ℕ} 0 1 = cc in omega arith)

raw_sum : (i a b : ℕ) (k : Cmd ℕ) → sum_of i a b ≡ w_cmd k → Raw x_sum (i ∷ a ∷ b ∷ []) k
unfolding sum_of numbers_in row
raw_sum i a b k e = at (eqb i 0) refl (eqb i 1) refl e
  where
    at : (t : Bool) → eqb i 0 ≡ t → (c : Bool) → eqb i 1 ≡ c → cond t (w_cmd (c_sum true a b)) (cond c (w_cmd (c_sum false a b)) unwritten) ≡ w_cmd k → Raw x_sum (i ∷ a ∷ b ∷ []) k
    at true p c q e = raw _ refl (ap (λ (n : ℕ). n ∷ a ∷ b ∷ []) (sym (eqb-true i 0 p))) e
    at false p true q e = raw _ refl (ap (λ (n : ℕ). n ∷ a ∷ b ∷ []) (sym (eqb-true i 1 q))) e
    at false p false q e = absurd (let z : ◌≡◌ {A = ℕ} 0 1 = cc in omega arith)

raw_limit : (c p q r s b : ℕ) (k : Cmd ℕ) → limit_of c (p ∷ q ∷ r ∷ s ∷ []) b ≡ w_cmd k → Raw x_limit (c ∷ p ∷ q ∷ r ∷ s ∷ b ∷ []) k
unfolding limit_of numbers_in row
raw_limit c p q r s b k e = at (leb c 4 and all_of (λ e. eqb e 0xFFFF) (drop c (p ∷ q ∷ r ∷ s ∷ []))) refl e
  where
    few : (c : ℕ) → leb c 4 ≡ true → all_of (λ e. eqb e 0xFFFF) (drop c (p ∷ q ∷ r ∷ s ∷ [])) ≡ true → numbers_of (c_lim (take c (p ∷ q ∷ r ∷ s ∷ [])) b) ≡ c ∷ p ∷ q ∷ r ∷ s ∷ b ∷ []
    few zero h z = ap (λ l. 0 ∷ (l ++ (b ∷ []))) (unused_are (p ∷ q ∷ r ∷ s ∷ []) z)
    few (suc zero) h z = ap (λ l. 1 ∷ p ∷ (l ++ (b ∷ []))) (unused_are (q ∷ r ∷ s ∷ []) z)
    few (suc (suc zero)) h z = ap (λ l. 2 ∷ p ∷ q ∷ (l ++ (b ∷ []))) (unused_are (r ∷ s ∷ []) z)
    few (suc (suc (suc zero))) h z = ap (λ l. 3 ∷ p ∷ q ∷ r ∷ (l ++ (b ∷ []))) (unused_are (s ∷ []) z)
    few (suc (suc (suc (suc zero)))) h z = refl
    few (suc (suc (suc (suc (suc c))))) h z = absurd (omega (arith, leb-true (suc (suc (suc (suc (suc c))))) 4 h))

    at : (t : Bool) → (leb c 4 and all_of (λ e. eqb e 0xFFFF) (drop c (p ∷ q ∷ r ∷ s ∷ []))) ≡ t → cond t (w_cmd (c_lim (take c (p ∷ q ∷ r ∷ s ∷ [])) b)) unwritten ≡ w_cmd k → Raw x_limit (c ∷ p ∷ q ∷ r ∷ s ∷ b ∷ []) k
    at true h e = raw _ refl (few c (and_l _ _ h) (and_r _ _ h)) e
    at false h e = absurd (let z : ◌≡◌ {A = ℕ} 0 1 = cc in omega arith)

-- numbers that write an expression, one for each operand, are the numbers of its operands
pub numbers_back : (op : Op) (o : List ℕ) (k : Cmd ℕ) → length o ≡ length (operands op) → written op o ≡ w_cmd k → Raw op o k
unfolding written operands firsts numbers_in row
numbers_back o_host o k h e = absurd (let z : ◌≡◌ {A = ℕ} 0 1 = cc in omega arith)
numbers_back o_local o k h e = absurd (let z : ◌≡◌ {A = ℕ} 0 1 = cc in omega arith)
numbers_back o_number o k h e = absurd (let z : ◌≡◌ {A = ℕ} 0 1 = cc in omega arith)
numbers_back o_pair o k h e = absurd (let z : ◌≡◌ {A = ℕ} 0 1 = cc in omega arith)
numbers_back o_cell o k h e = absurd (let z : ◌≡◌ {A = ℕ} 0 1 = cc in omega arith)
numbers_back o_function o k h e = absurd (let z : ◌≡◌ {A = ℕ} 0 1 = cc in omega arith)
numbers_back o_limit o k h e = absurd (let z : ◌≡◌ {A = ℕ} 0 1 = cc in omega arith)
numbers_back o_grant o k h e = absurd (let z : ◌≡◌ {A = ℕ} 0 1 = cc in omega arith)
numbers_back o_value o k h e = absurd (let z : ◌≡◌ {A = ℕ} 0 1 = cc in omega arith)
numbers_back o_rights o k h e = absurd (let z : ◌≡◌ {A = ℕ} 0 1 = cc in omega arith)
numbers_back x_number o k h e = raw o refl (firsts_are 1 o h) e
numbers_back x_top o k h e = raw o refl (firsts_are 0 o h) e
numbers_back x_variable o k h e = raw o refl (firsts_are 1 o h) e
numbers_back x_pair o k h e = raw o refl (firsts_are 2 o h) e
numbers_back x_part o k h e = subst (λ l. Raw x_part l k) (firsts_are 2 o h) (raw_part _ _ k (sym (written_part o) ∙ e))
numbers_back x_function o k h e = raw o refl (firsts_are 3 o h) e
numbers_back x_apply o k h e = raw o refl (firsts_are 2 o h) e
numbers_back x_cell o k h e = raw o refl (firsts_are 2 o h) e
numbers_back x_assign o k h e = raw o refl (firsts_are 2 o h) e
numbers_back x_read o k h e = raw o refl (firsts_are 1 o h) e
numbers_back x_sum o k h e = subst (λ l. Raw x_sum l k) (firsts_are 3 o h) (raw_sum _ _ _ k (sym (written_sum o) ∙ e))
numbers_back x_test o k h e = raw o refl (firsts_are 4 o h) e
numbers_back x_limit o k h e =
    subst (λ l. Raw x_limit l k) f
    (raw_limit (get_or o 0 0) (get_or o 1 0) (get_or o 2 0) (get_or o 3 0) (get_or o 4 0) (get_or o 5 0) k
    (sym (written_limit (firsts 6 (λ i. get_or o i 0))) ∙ subst⁻¹ (λ l. written x_limit l ≡ w_cmd k) f e))
  where
    f : firsts 6 (λ i. get_or o i 0) ≡ o
    f = firsts_are 6 o h
numbers_back x_grant o k h e = raw o refl (firsts_are 2 o h) e
numbers_back x_newkey o k h e = raw o refl (firsts_are 5 o h) e
numbers_back x_associate o k h e = raw o refl (firsts_are 2 o h) e
numbers_back x_access o k h e = raw o refl (firsts_are 4 o h) e
numbers_back x_divide o k h e = raw o refl (firsts_are 2 o h) e
numbers_back x_spawn o k h e = raw o refl (firsts_are 1 o h) e
numbers_back o_end o k h e = absurd (let z : ◌≡◌ {A = ℕ} 0 1 = cc in omega arith)

-- a type entry is written by its command and the numbers of its operands
pub entry_written : (e : TypeEntry) → (written (entry_row e).0 (entry_row e).1 ≡ w_type e) × (length (entry_row e).1 ≡ length (operands (entry_row e).0))
unfolding written entry_row operands
entry_written (e_num q) = (refl, refl)
entry_written (e_pair q a b) = (refl, refl)
entry_written (e_cell q a) = (refl, refl)
entry_written (e_fn q a b s) = (refl, refl)
entry_written (e_lim q r) = (refl, refl)
entry_written (e_grant q r) = (refl, refl)
