-- Laws of sets of numbers as numbers, and of lists of numbers under a test.
use Rattle.std.specs.Prelude.{◌≡◌, refl, ℕ, zero, suc, ◌+◌, ◌/◌, ◌%◌, ◌^◌, ◌≤◌, ◌<◌, max, Bool, true, false, cond, ◌&&◌, ◌||◌, ◌⊎◌, eqb}
use Rattle.std.proofs.Common.{sym, ap, ◌∙◌, subst, pow-suc, arith, true≢false, inl, inr, eq-eqb, ne_eqb, eqb-true}
use Rattle.std.proofs.Math.Nat.{div-div-eq-div-mul, pow-succ'}
use Rattle.std.proofs.lemmas.Bool.{false≢true}
use Rattle.std.proofs.Math.Bool as bools
use mathlib.Core.List.Memᴰ
use mathlib.Core.List.{List, [], ◌∷◌, Memᴰ}
use Rattle.std.proofs.Math.Dec.{eqb-suc-suc}
use Rattle.std.specs.Int.Bits.{bit_or, or_step}
use Rattle.order.specs.Sets.{bit, cons_if, members_from, members, set_of, keep, some_of, all_of}

-- two tests that hold together are one
pub bool_ext : (a b : Bool) → (a ≡ true → b ≡ true) → (b ≡ true → a ≡ true) → a ≡ b
bool_ext true b f g = sym (f refl)
bool_ext false true f g = absurd (false≢true (g refl))
bool_ext false false f g = refl

pub or→ : (a b : Bool) → (a || b) ≡ true → (a ≡ true) ⊎ (b ≡ true)
or→ true b e = inl refl
or→ false b e = inr e

pub →or_l : (a b : Bool) → a ≡ true → (a || b) ≡ true
→or_l true b e = refl
→or_l false b e = absurd (false≢true e)

pub →or_r : (a b : Bool) → b ≡ true → (a || b) ≡ true
→or_r true b e = refl
→or_r false b e = e

pub and→ : (a b : Bool) → (a && b) ≡ true → (a ≡ true) × (b ≡ true)
and→ true b e = (refl, e)
and→ false b e = absurd (false≢true e)

pub →and : (a b : Bool) → a ≡ true → b ≡ true → (a && b) ≡ true
→and true b e h = h
→and false b e h = e

-- a bit by division, as code computes it
pub bit_at : (n i : ℕ) → bit n i ≡ eqb (n / 2 ^ i % 2) 1
unfolding bit
bit_at n zero = let h : n ≡ n / 2 ^ 0 = omega arith in ap (λ (x : ℕ). eqb (x % 2) 1) h
bit_at n (suc i) = bit_at (n / 2) i ∙ ap (λ (x : ℕ). eqb (x % 2) 1) (div-div-eq-div-mul n 2 (2 ^ i) ∙ ap (λ (x : ℕ). n / x) (sym (pow-succ' 2 i)))

or_digit : (x y : ℕ) → x < 2 → y < 2 → eqb (max x y) 1 ≡ (eqb x 1 || eqb y 1)
or_digit zero zero h k = refl
or_digit zero (suc zero) h k = refl
or_digit zero (suc (suc y)) h k = absurd (omega arith)
or_digit (suc zero) zero h k = refl
or_digit (suc zero) (suc zero) h k = refl
or_digit (suc zero) (suc (suc y)) h k = absurd (omega arith)
or_digit (suc (suc x)) y h k = absurd (omega arith)

pub bit_or_lem : (i a b : ℕ) → bit (bit_or a b) i ≡ (bit a i || bit b i)
unfolding bit
bit_or_lem zero a b = ap (λ (x : ℕ). eqb x 1) low ∙ or_digit (a % 2) (b % 2) (omega arith) (omega arith)
  where
    low : bit_or a b % 2 ≡ max (a % 2) (b % 2)
    low = omega (arith, or_step a b)
bit_or_lem (suc i) a b = ap (λ (x : ℕ). bit x i) high ∙ bit_or_lem i (a / 2) (b / 2)
  where
    high : bit_or a b / 2 ≡ bit_or (a / 2) (b / 2)
    high = omega (arith, or_step a b)

pub bit_zero : (i : ℕ) → bit 0 i ≡ false
unfolding bit
bit_zero zero = refl
bit_zero (suc i) = bit_zero i

pub bit_pow : (k i : ℕ) → bit (2 ^ k) i ≡ eqb i k
unfolding bit
bit_pow zero zero = refl
bit_pow zero (suc i) = bit_zero i ∙ sym (ne_eqb (suc i) 0 (omega arith))
bit_pow (suc k) zero = let h : 2 ^ suc k % 2 ≡ 0 = omega (arith, pow-suc 2 k) in ap (λ (x : ℕ). eqb x 1) h ∙ sym (ne_eqb 0 (suc k) (omega arith))
bit_pow (suc k) (suc i) = let h : 2 ^ suc k / 2 ≡ 2 ^ k = omega (arith, pow-suc 2 k) in ap (λ (x : ℕ). bit x i) h ∙ bit_pow k i ∙ sym (eqb-suc-suc i k)

same : (x y : ℕ) → x < 2 → y < 2 → eqb x 1 ≡ eqb y 1 → x ≡ y
same zero zero h k e = refl
same zero (suc zero) h k e = absurd (false≢true e)
same zero (suc (suc y)) h k e = absurd (omega arith)
same (suc zero) zero h k e = absurd (true≢false e)
same (suc zero) (suc zero) h k e = refl
same (suc zero) (suc (suc y)) h k e = absurd (omega arith)
same (suc (suc x)) y h k e = absurd (omega arith)

-- two sets with the same members are one
pub bit_ext : (k a b : ℕ) → a < 2 ^ k → b < 2 ^ k → ((i : ℕ) → bit a i ≡ bit b i) → a ≡ b
unfolding bit
bit_ext zero a b h k e = omega arith
bit_ext (suc n) a b h k e = from (bit_ext n (a / 2) (b / 2) (omega (arith, pow-suc 2 n)) (omega (arith, pow-suc 2 n)) (λ i. tail i)) (low (e 0))
  where
    tail : (i : ℕ) → bit (a / 2) i ≡ bit (b / 2) i
    tail i = e (suc i)

    low : bit a 0 ≡ bit b 0 → a % 2 ≡ b % 2
    low z = same (a % 2) (b % 2) (omega arith) (omega arith) z

    from : a / 2 ≡ b / 2 → a % 2 ≡ b % 2 → a ≡ b
    from p q = omega arith

pub lt_pow : (k n : ℕ) → n ≤ k → n < 2 ^ k
lt_pow zero n h = omega arith
lt_pow (suc k) zero h = omega (arith, pow-suc 2 k, lt_pow k 0 (omega arith))
lt_pow (suc k) (suc n) h = omega (arith, pow-suc 2 k, lt_pow k n (omega arith))

pub set_ext : (a b : ℕ) → ((i : ℕ) → bit a i ≡ bit b i) → a ≡ b
set_ext a b e = bit_ext (a + b) a b (lt_pow (a + b) a (omega arith)) (lt_pow (a + b) b (omega arith)) e

pub or_assoc : (a b c : ℕ) → bit_or (bit_or a b) c ≡ bit_or a (bit_or b c)
or_assoc a b c = set_ext (bit_or (bit_or a b) c) (bit_or a (bit_or b c)) (λ i. simp bit_or_lem (bools.or_assoc (bit a i) (bit b i) (bit c i)))

-- the members of a set below 2 ^ k are below k, and the other way round
pub bit_lt : (k s i : ℕ) → bit s i ≡ true → s < 2 ^ k → i < k
unfolding bit
bit_lt zero s i e h = let z : s ≡ 0 = omega arith in absurd (false≢true (sym (bit_zero i) ∙ ap (λ (x : ℕ). bit x i) (sym z) ∙ e))
bit_lt (suc k) s zero e h = omega arith
bit_lt (suc k) s (suc i) e h = omega (arith, bit_lt k (s / 2) i e (omega (arith, pow-suc 2 k)))

pub lt_bit : (k s : ℕ) → ((i : ℕ) → bit s i ≡ true → i < k) → s < 2 ^ k
unfolding bit
lt_bit zero s f = let z : s ≡ 0 = set_ext s 0 (λ i. bool_ext (bit s i) (bit 0 i) (λ e. absurd (omega (arith, f i e))) (λ e. absurd (false≢true (sym (bit_zero i) ∙ e)))) in omega arith
lt_bit (suc k) s f = let h : s / 2 < 2 ^ k = lt_bit k (s / 2) (λ i e. omega (arith, f (suc i) e)) in omega (arith, pow-suc 2 k)

-- a list under a test
pub keep_mem : (p : ℕ → Bool) (l : List ℕ) {n : ℕ} → Memᴰ n (keep p l) → Memᴰ n l × (p n ≡ true)
unfolding keep cons_if
keep_mem p [] m = absurd (Memᴰ.not-nil m)
keep_mem p (x ∷ l) {n} m = at (p x) refl m (λ w. keep_mem p l w)
  where
    at : (b : Bool) → p x ≡ b → Memᴰ n (cons_if b x (keep p l)) → (Memᴰ n (keep p l) → Memᴰ n l × (p n ≡ true)) → Memᴰ n (x ∷ l) × (p n ≡ true)
    at true e (Memᴰ.head h) f = (Memᴰ.head h, ap p h ∙ e)
    at true e (Memᴰ.tail w) f = let z = f w in (Memᴰ.tail z.0, z.1)
    at false e w f = let z = f w in (Memᴰ.tail z.0, z.1)

pub mem_keep : (p : ℕ → Bool) {n : ℕ} {l : List ℕ} → Memᴰ n l → p n ≡ true → Memᴰ n (keep p l)
unfolding keep cons_if
mem_keep p {n = n} {l = []} x5 e = elim x5 [ ]
mem_keep p {l = x ∷ l} (Memᴰ.head h) e = let z : p x ≡ true = ap p (sym h) ∙ e in rw z (Memᴰ.head h)
mem_keep p {n} {l = x ∷ l} (Memᴰ.tail w) e = at (p x) (mem_keep p w e)
  where
    at : (b : Bool) → Memᴰ n (keep p l) → Memᴰ n (cons_if b x (keep p l))
    at true m = Memᴰ.tail m
    at false m = m

pub some_of→ : (p : ℕ → Bool) (l : List ℕ) → some_of p l ≡ true → (n : ℕ) × Memᴰ n l × (p n ≡ true)
unfolding some_of
some_of→ p [] e = absurd (false≢true e)
some_of→ p (x ∷ l) e = at (p x) refl e (λ h. some_of→ p l h)
  where
    at : (b : Bool) → p x ≡ b → cond b true (some_of p l) ≡ true → (some_of p l ≡ true → (n : ℕ) × Memᴰ n l × (p n ≡ true)) → (n : ℕ) × Memᴰ n (x ∷ l) × (p n ≡ true)
    at true h e f = (x, Memᴰ.head refl, h)
    at false h e f = let z = f e in (z.0, Memᴰ.tail z.1, z.2)

pub →some_of : (p : ℕ → Bool) {n : ℕ} {l : List ℕ} → Memᴰ n l → p n ≡ true → some_of p l ≡ true
unfolding some_of
→some_of p {l = []} m e = absurd (Memᴰ.not-nil m)
→some_of p {l = x ∷ l} (Memᴰ.head h) e = let z : p x ≡ true = ap p (sym h) ∙ e in rw z
→some_of p {l = x ∷ l} (Memᴰ.tail w) e = at (p x) (→some_of p w e)
  where
    at : (b : Bool) → some_of p l ≡ true → cond b true (some_of p l) ≡ true
    at true h = refl
    at false h = h

pub none_of→ : (p : ℕ → Bool) {l : List ℕ} {n : ℕ} → some_of p l ≡ false → Memᴰ n l → p n ≡ false
none_of→ p {l} {n} e m = at (p n) refl
  where
    at : (b : Bool) → p n ≡ b → b ≡ false
    at true h = absurd (true≢false (sym (→some_of p m h) ∙ e))
    at false h = refl

pub →none_of : (p : ℕ → Bool) (l : List ℕ) → ((n : ℕ) → Memᴰ n l → p n ≡ false) → some_of p l ≡ false
→none_of p l f = at (some_of p l) refl
  where
    at : (b : Bool) → some_of p l ≡ b → b ≡ false
    at true h = let z = some_of→ p l h in absurd (true≢false (sym z.2 ∙ f z.0 z.1))
    at false h = refl

pub all_of→ : (p : ℕ → Bool) {l : List ℕ} {n : ℕ} → all_of p l ≡ true → Memᴰ n l → p n ≡ true
unfolding all_of
all_of→ p {l = x ∷ l} {n} e m = at (p x) refl e m (λ h w. all_of→ p h w)
  where
    at : (b : Bool) → p x ≡ b → cond b (all_of p l) false ≡ true → Memᴰ n (x ∷ l) → (all_of p l ≡ true → Memᴰ n l → p n ≡ true) → p n ≡ true
    at true h e (Memᴰ.head z) f = ap p z ∙ h
    at true h e (Memᴰ.tail w) f = f e w
    at false h e m f = absurd (false≢true e)
all_of→ p {l = []} e m = absurd (Memᴰ.not-nil m)

pub →all_of : (p : ℕ → Bool) (l : List ℕ) → ((n : ℕ) → Memᴰ n l → p n ≡ true) → all_of p l ≡ true
unfolding all_of
→all_of p [] f = refl
→all_of p (x ∷ l) f = let z : p x ≡ true = f x (Memᴰ.head refl) in rw z (→all_of p l (λ n m. f n (Memᴰ.tail m)))

-- the members of a set are its bits
from_bit : (f i s : ℕ) {n : ℕ} → Memᴰ n (members_from f i s) → (k : ℕ) × (n ≡ i + k) × (bit s k ≡ true)
unfolding members_from bit cons_if
from_bit zero i s m = absurd (Memᴰ.not-nil m)
from_bit (suc f) i zero m = absurd (Memᴰ.not-nil m)
from_bit (suc f) i (suc s) {n} m = at (eqb (suc s % 2) 1) refl m (λ w. from_bit f (suc i) (suc s / 2) w)
  where
    R : List ℕ
    R = members_from f (suc i) (suc s / 2)

    up : (k : ℕ) × (n ≡ suc i + k) × (bit (suc s / 2) k ≡ true) → (k : ℕ) × (n ≡ i + k) × (bit (suc s) k ≡ true)
    up z = (suc z.0, omega (arith, z.1), z.2)

    at : (b : Bool) → eqb (suc s % 2) 1 ≡ b → Memᴰ n (cons_if b i R) → (Memᴰ n R → (k : ℕ) × (n ≡ suc i + k) × (bit (suc s / 2) k ≡ true)) → (k : ℕ) × (n ≡ i + k) × (bit (suc s) k ≡ true)
    at true e (Memᴰ.head h) f = (0, omega arith, e)
    at true e (Memᴰ.tail w) f = up (f w)
    at false e w f = up (f w)

bit_from : (f i s k n : ℕ) → s ≤ f → n ≡ i + k → bit s k ≡ true → Memᴰ n (members_from f i s)
unfolding members_from bit cons_if
bit_from zero i s k n h e b = let z : s ≡ 0 = omega arith in absurd (false≢true (sym (bit_zero k) ∙ ap (λ (x : ℕ). bit x k) (sym z) ∙ b))
bit_from (suc f) i zero k n h e b = absurd (false≢true (sym (bit_zero k) ∙ b))
bit_from (suc f) i (suc s) zero n h e b = let z : n ≡ i = omega arith in rw b (Memᴰ.head z)
bit_from (suc f) i (suc s) (suc k) n h e b = at (eqb (suc s % 2) 1) (bit_from f (suc i) (suc s / 2) k n (omega arith) (omega arith) b)
  where
    at : (c : Bool) → Memᴰ n (members_from f (suc i) (suc s / 2)) → Memᴰ n (cons_if c i (members_from f (suc i) (suc s / 2)))
    at true m = Memᴰ.tail m
    at false m = m

pub mem_bit : (s : ℕ) {n : ℕ} → Memᴰ n (members s) → bit s n ≡ true
unfolding members
mem_bit s {n} m = let z = from_bit s 0 s m in let h : z.0 ≡ n = omega (arith, z.1) in subst (λ (t : ℕ). bit s t ≡ true) h z.2

pub bit_mem : (s : ℕ) {n : ℕ} → bit s n ≡ true → Memᴰ n (members s)
unfolding members
bit_mem s {n} e = bit_from s 0 s n n (omega arith) (omega arith) e

-- the set of what is listed has what is listed
pub set_of_bit : {n : ℕ} {l : List ℕ} → Memᴰ n l → bit (set_of l) n ≡ true
unfolding set_of
set_of_bit {n = n} {l = []} x'' = elim x'' [ ]
set_of_bit {n} {l = x ∷ l} (Memᴰ.head h) = bit_or_lem n (2 ^ x) (set_of l) ∙ →or_l (bit (2 ^ x) n) (bit (set_of l) n) (bit_pow x n ∙ eq-eqb n x h)
set_of_bit {n} {l = x ∷ l} (Memᴰ.tail w) = bit_or_lem n (2 ^ x) (set_of l) ∙ →or_r (bit (2 ^ x) n) (bit (set_of l) n) (set_of_bit w)

pub bit_set_of : (l : List ℕ) {n : ℕ} → bit (set_of l) n ≡ true → Memᴰ n l
unfolding set_of
bit_set_of [] {n} e = absurd (false≢true (sym (bit_zero n) ∙ e))
bit_set_of (x ∷ l) {n} e = at (or→ (bit (2 ^ x) n) (bit (set_of l) n) (sym (bit_or_lem n (2 ^ x) (set_of l)) ∙ e)) (λ h. bit_set_of l h)
  where
    at : (bit (2 ^ x) n ≡ true) ⊎ (bit (set_of l) n ≡ true) → (bit (set_of l) n ≡ true → Memᴰ n l) → Memᴰ n (x ∷ l)
    at (inl h) f = Memᴰ.head (eqb-true n x (sym (bit_pow x n) ∙ h))
    at (inr h) f = Memᴰ.tail (f h)

pub mem_set_of : (l : List ℕ) {n : ℕ} → Memᴰ n (members (set_of l)) → Memᴰ n l
mem_set_of l m = bit_set_of l (mem_bit (set_of l) m)

pub set_of_mem : {l : List ℕ} {n : ℕ} → Memᴰ n l → Memᴰ n (members (set_of l))
set_of_mem {l} m = bit_mem (set_of l) (set_of_bit m)

pub members_set_of_id : (s : ℕ) → set_of (members s) ≡ s
members_set_of_id s = set_ext (set_of (members s)) s (λ i. bool_ext (bit (set_of (members s)) i) (bit s i) (λ e. mem_bit s (bit_set_of (members s) e)) (λ e. set_of_bit (bit_mem s e)))

-- the members of a set that a test holds of
pub bit_keep_set : (p : ℕ → Bool) (s n : ℕ) → bit (set_of (keep p (members s))) n ≡ (bit s n && p n)
bit_keep_set p s n = bool_ext (bit (set_of (keep p (members s))) n) (bit s n && p n) to from
  where
    to : bit (set_of (keep p (members s))) n ≡ true → (bit s n && p n) ≡ true
    to e = let z = keep_mem p (members s) (bit_set_of (keep p (members s)) e) in →and (bit s n) (p n) (mem_bit s z.0) z.1

    from : (bit s n && p n) ≡ true → bit (set_of (keep p (members s))) n ≡ true
    from e = let z = and→ (bit s n) (p n) e in set_of_bit (mem_keep p (bit_mem s z.0) z.1)
