-- Laws of sets as numbers: what is in both, in one of two, without 0.
use Rattle.std.specs.Prelude.{◌≡◌, refl, ℕ, zero, suc, ◌+◌, ◌-◌, ◌*◌, ◌/◌, ◌%◌, ◌^◌, ◌≤◌, ◌<◌, min, Bool, true, false, cond, not, ◌&&◌, ◌≢◌, eqb, ltb}
use Rattle.std.proofs.Common.{sym, ap, ◌∙◌, subst, mod-eq_of_lt, div-lt_iff_lt-mul, arith, pow_pos, lt-ltb, ltb-true, eq-eqb, eqb-true}
use Rattle.std.proofs.Math.Nat.{two-pow-succ, pow-le-pow_right}
use mathlib.Core.List.{List, [], ◌∷◌, Memᴰ}
use Rattle.std.proofs.Math.Dec.{eqb-suc-zero}
use Rattle.std.specs.Int.Bits.{bit_and, bit_xor, and_step, xor_step, differ}
use Rattle.order.specs.Sets.{bit, cons_if, members, set_of, keep, all_of}
use Rattle.order.proofs.SetLaws.{bool_ext, bit_lt, lt_bit, mem_bit, bit_mem, members_set_of_id, all_of→, →all_of}
use Rattle.names.specs.Ancestors.{one_of, nonzero, declared_of}

and_digit : (x y : ℕ) → x < 2 → y < 2 → eqb (min x y) 1 ≡ (eqb x 1 && eqb y 1)
and_digit zero zero h k = refl
and_digit zero (suc zero) h k = refl
and_digit zero (suc (suc y)) h k = absurd (omega arith)
and_digit (suc zero) zero h k = refl
and_digit (suc zero) (suc zero) h k = refl
and_digit (suc zero) (suc (suc y)) h k = absurd (omega arith)
and_digit (suc (suc x)) y h k = absurd (omega arith)

pub bit_and_lem : (i a b : ℕ) → bit (bit_and a b) i ≡ (bit a i && bit b i)
unfolding bit
bit_and_lem zero a b = ap (λ (x : ℕ). eqb x 1) low ∙ and_digit (a % 2) (b % 2) (omega arith) (omega arith)
  where
    low : bit_and a b % 2 ≡ min (a % 2) (b % 2)
    low = omega (arith, and_step a b)
bit_and_lem (suc i) a b = ap (λ (x : ℕ). bit x i) high ∙ bit_and_lem i (a / 2) (b / 2)
  where
    high : bit_and a b / 2 ≡ bit_and (a / 2) (b / 2)
    high = omega (arith, and_step a b)

xor_digit : (x y : ℕ) → x < 2 → y < 2 → (differ x y < 2) × (eqb (differ x y) 1 ≡ cond (eqb y 1) (not (eqb x 1)) (eqb x 1))
xor_digit zero zero h k = (omega arith, refl)
xor_digit zero (suc zero) h k = (omega arith, refl)
xor_digit zero (suc (suc y)) h k = absurd (omega arith)
xor_digit (suc zero) zero h k = (omega arith, refl)
xor_digit (suc zero) (suc zero) h k = (omega arith, refl)
xor_digit (suc zero) (suc (suc y)) h k = absurd (omega arith)
xor_digit (suc (suc x)) y h k = absurd (omega arith)

pub bit_xor_lem : (i a b : ℕ) → bit (bit_xor a b) i ≡ cond (bit b i) (not (bit a i)) (bit a i)
unfolding bit
bit_xor_lem zero a b = ap (λ (x : ℕ). eqb x 1) low ∙ z.1
  where
    z : (differ (a % 2) (b % 2) < 2) × (eqb (differ (a % 2) (b % 2)) 1 ≡ cond (eqb (b % 2) 1) (not (eqb (a % 2) 1)) (eqb (a % 2) 1))
    z = xor_digit (a % 2) (b % 2) (omega arith) (omega arith)

    low : bit_xor a b % 2 ≡ differ (a % 2) (b % 2)
    low = let h = z.0 in omega (arith, xor_step a b)
bit_xor_lem (suc i) a b = ap (λ (x : ℕ). bit x i) high ∙ bit_xor_lem i (a / 2) (b / 2)
  where
    high : bit_xor a b / 2 ≡ bit_xor (a / 2) (b / 2)
    high = let h = (xor_digit (a % 2) (b % 2) (omega arith) (omega arith)).0 in omega (arith, xor_step a b)

pub bit_nonzero : (s n : ℕ) → bit (nonzero s) n ≡ (bit s n && not (eqb n 0))
unfolding bit nonzero
bit_nonzero s zero = let h : (s - s % 2) % 2 ≡ 0 = omega arith in ap (λ (x : ℕ). eqb x 1) h ∙ sym (and_false (eqb (s % 2) 1))
  where
    and_false : (b : Bool) → (b && false) ≡ false
    and_false true = refl
    and_false false = refl
bit_nonzero s (suc n) =
    let h : (s - s % 2) / 2 ≡ s / 2 = omega arith in
    ap (λ (x : ℕ). bit x n) h ∙ sym (ap (λ (c : Bool). bit (s / 2) n && not c) (eqb-suc-zero n) ∙ and_true (bit (s / 2) n))
  where
    and_true : (b : Bool) → (b && true) ≡ b
    and_true true = refl
    and_true false = refl

-- a set of numbers below 64 has no other
pub bit_out : (s n : ℕ) → s < 2 ^ 64 → 64 ≤ n → false ≡ bit s n
bit_out s n h k = at (bit s n) refl
  where
    at : (b : Bool) → bit s n ≡ b → false ≡ b
    at true e = absurd (omega (arith, bit_lt 64 s n e h))
    at false e = refl

pub one_of_lem : (n : ℕ) → n < 64 → one_of n ≡ 2 ^ n
unfolding one_of
one_of_lem n h = ap (λ (c : Bool). cond c (2 ^ n) 0) (lt-ltb n 64 h)

-- a set that is not empty has a member
pub some_bit : (x : ℕ) → x ≢ 0 → (i : ℕ) × (bit x i ≡ true)
unfolding set_of
some_bit x h = at (members x) refl
  where
    at : (l : List ℕ) → members x ≡ l → (i : ℕ) × (bit x i ≡ true)
    at [] e = absurd (h (sym (members_set_of_id x) ∙ ap set_of e))
    at (i ∷ l) e = (i, mem_bit x (subst (λ (m : List ℕ). Memᴰ i m) (sym e) (Memᴰ.head refl)))

-- two tests that agree on a list
pub all_cong : (p q : ℕ → Bool) (l : List ℕ) → ((n : ℕ) → Memᴰ n l → p n ≡ q n) → all_of p l ≡ all_of q l
unfolding all_of
all_cong p q [] f = refl
all_cong p q (x ∷ l) f =
    ap (λ (c : Bool). cond c (all_of p l) false) (f x (Memᴰ.head refl)) ∙ ap (λ (c : Bool). cond (q x) c false) (all_cong p q l (λ n m. f n (Memᴰ.tail m)))

pub keep_cong : (p q : ℕ → Bool) (l : List ℕ) → ((n : ℕ) → Memᴰ n l → p n ≡ q n) → keep p l ≡ keep q l
unfolding keep
keep_cong p q [] f = refl
keep_cong p q (x ∷ l) f = ap (λ (c : Bool). cons_if c x (keep p l)) (f x (Memᴰ.head refl)) ∙ ap (cons_if (q x) x) (keep_cong p q l (λ n m. f n (Memᴰ.tail m)))

-- all members are declared names: the set is below a power of 2
pub all_declared : (n s : ℕ) → all_of (declared_of n) (members s) ≡ ltb s (2 ^ (2 + n))
unfolding declared_of
all_declared n s = bool_ext (all_of (declared_of n) (members s)) (ltb s (2 ^ (2 + n))) to from
  where
    to : all_of (declared_of n) (members s) ≡ true → ltb s (2 ^ (2 + n)) ≡ true
    to e = lt-ltb s (2 ^ (2 + n)) (lt_bit (2 + n) s (λ i b. ltb-true i (2 + n) (all_of→ (declared_of n) e (bit_mem s b))))

    from : ltb s (2 ^ (2 + n)) ≡ true → all_of (declared_of n) (members s) ≡ true
    from e = →all_of (declared_of n) (members s) (λ i m. lt-ltb i (2 + n) (bit_lt (2 + n) s i (mem_bit s m) (ltb-true s (2 ^ (2 + n)) e)))

under_one : (s p : ℕ) → 0 < p → eqb (s / p) 0 ≡ ltb s p
under_one s p h = bool_ext (eqb (s / p) 0) (ltb s p) to from
  where
    to : eqb (s / p) 0 ≡ true → ltb s p ≡ true
    to e = let z : s / p < 1 = omega (arith, eqb-true (s / p) 0 e) in let y : s < 1 * p = (div-lt_iff_lt-mul h).0 z in lt-ltb s p (omega arith)

    from : ltb s p ≡ true → eqb (s / p) 0 ≡ true
    from e = let z : s < 1 * p = omega (arith, ltb-true s p e) in let y : s / p < 1 = (div-lt_iff_lt-mul h).1 z in eq-eqb (s / p) 0 (omega arith)

pub declared_shift : (n s : ℕ) → eqb (s / 2 ^ (n + 2)) 0 ≡ all_of (declared_of n) (members s)
declared_shift n s = let z : n + 2 ≡ 2 + n = omega arith in under_one s (2 ^ (n + 2)) (pow_pos (n + 2)) ∙ ap (λ (k : ℕ). ltb s (2 ^ k)) z ∙ sym (all_declared n s)

pub declared_all : (n s : ℕ) → 62 ≤ n → s < 2 ^ 64 → true ≡ all_of (declared_of n) (members s)
declared_all n s h k =
    let z : 2 ^ 64 ≤ 2 ^ (2 + n) = pow-le-pow_right {n = 2} (omega arith) {i = 64} {j = 2 + n} (omega arith) in
    sym (all_declared n s ∙ lt-ltb s (2 ^ (2 + n)) (omega arith))

-- one name, as code makes its set
pub shifted : (n : ℕ) → n < 64 → 1 * 2 ^ n % 2 ^ 64 ≡ one_of n
shifted n h =
    let a : 2 ^ suc n ≤ 2 ^ 64 = pow-le-pow_right {n = 2} (omega arith) {i = suc n} {j = 64} (omega arith) in
    let b : 2 ^ suc n ≡ 2 ^ n + 2 ^ n = two-pow-succ n in
    let d : 0 < 2 ^ n = pow_pos n in
    let e : 1 * 2 ^ n ≡ 2 ^ n = omega arith in
    rw e (mod-eq_of_lt (omega arith)) ∙ sym (one_of_lem n h)

-- a declared name, as code tests it
pub declared_low : (n q : ℕ) → q < 2 → true ≡ declared_of n q
unfolding declared_of
declared_low n q h = sym (lt-ltb q (2 + n) (omega arith))

pub declared_at : (n q : ℕ) → 2 ≤ q → ltb (q - 2) n ≡ declared_of n q
unfolding declared_of
declared_at n q h = bool_ext (ltb (q - 2) n) (ltb q (2 + n)) (λ e. lt-ltb q (2 + n) (omega (arith, ltb-true (q - 2) n e))) (λ e. lt-ltb (q - 2) n (omega (arith, ltb-true q (2 + n) e)))
