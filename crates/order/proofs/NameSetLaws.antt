-- Laws of sets of names: what their names are, their order, and what each operation does to both. In each, `up` is the list of upper numbers of the names.
use Rattle.std.specs.Prelude.{◌≡◌, refl, ℕ, zero, suc, ◌^◌, ◌≤◌, ◌<◌, Bool, true, false, cond, not, ◌&&◌, ◌||◌, ◌≢◌, ◌⊎◌, eqb}
use Rattle.std.proofs.Common.{sym, ap, ◌∙◌, subst, arith, true≢false, inl, inr, eq-eqb, ne_eqb, eqb-true}
use Rattle.std.proofs.Math.Path.{subst⁻¹}
use Rattle.std.proofs.Math.Nat.{pow-le-pow_right}
use Rattle.std.proofs.lemmas.Bool.{false≢true, eqb-false, not-true, not-false}
use Rattle.std.proofs.Math.Bool.{or_comm}
use mathlib.Core.List.{List, map, Memᴰ}
use Rattle.std.proofs.Math.Option.{some, some-injective}
use Rattle.std.proofs.Math.ListN.{get_elem?}
use Rattle.std.specs.Int.Bits.{bit_or}
use Rattle.std.proofs.lemmas.Nat.{or_lt, or_comm as or_swap}
use Rattle.order.specs.Order.{Below, bot, here, there, below}
use Rattle.order.specs.OrderLaws.{Proper}
use Rattle.order.proofs.OrderLaws.{below→, →below, below_bot, below_le, below_zero, below_antisym, below_trans}
use Rattle.order.specs.Sets.{bit, members, members_from, keep, some_of, all_of}
use Rattle.order.proofs.SetLaws.{bool_ext, or_assoc, or→, →or_l, →or_r, and→, →and, bit_or_lem, bit_zero, bit_pow, set_ext, bit_lt, lt_bit, keep_mem, mem_keep, some_of→, →some_of, none_of→, →none_of, all_of→, →all_of, mem_bit, bit_mem, set_of_bit, bit_set_of, mem_set_of, set_of_mem, bit_keep_set}
use Rattle.order.specs.Effects.{set_names, set_touch, SetBelow, set_below, maximal, set_reduced, set_reduce, set_drop, set_raise}

-- Names

not_zero : (n : ℕ) → n ≢ 0 → not (eqb n 0) ≡ true
not_zero n h = rw (ne_eqb n 0 h)

zero_not : (n : ℕ) → not (eqb n 0) ≡ true → n ≢ 0
zero_not n e = eqb-false n 0 (not-true (eqb n 0) e)

pub name_mem : (s : ℕ) {n : ℕ} → Memᴰ n (set_names s) → Memᴰ n (members s) × (n ≢ 0)
unfolding set_names
name_mem s {n} m = let z = keep_mem (λ k. not (eqb k 0)) (members s) m in (z.0, zero_not n z.1)

pub mem_name : (s : ℕ) {n : ℕ} → Memᴰ n (members s) → n ≢ 0 → Memᴰ n (set_names s)
unfolding set_names
mem_name s {n} m h = mem_keep (λ k. not (eqb k 0)) m (not_zero n h)

pub name_bit : (s : ℕ) {n : ℕ} → Memᴰ n (set_names s) → (bit s n ≡ true) × (n ≢ 0)
name_bit s m = let z = name_mem s m in (mem_bit s z.0, z.1)

pub bit_name : (s : ℕ) {n : ℕ} → bit s n ≡ true → n ≢ 0 → Memᴰ n (set_names s)
bit_name s e h = mem_name s (bit_mem s e) h

pub name_lt : (k : ℕ) (s : ℕ) {n : ℕ} → Memᴰ n (set_names s) → s < 2 ^ k → n < k
name_lt k s {n} m h = bit_lt k s n (name_bit s m).0 h

pub pure_name : {n : ℕ} → Memᴰ n (set_names 0) → ⊥
pure_name {n} m = false≢true (sym (bit_zero n) ∙ (name_bit 0 m).0)

-- Bits of the operations

-- a value without a key
pub touch_none : (s : ℕ) → set_touch 0 s ≡ s
unfolding set_touch
touch_none s = refl

pub bit_touch : (q : ℕ) (s : ℕ) (n : ℕ) → q ≢ 0 → bit (set_touch q s) n ≡ (bit s n || eqb n q)
unfolding set_touch
bit_touch q s n h =
    ap (λ (c : Bool). bit (cond c s (bit_or (2 ^ q) s)) n) (ne_eqb q 0 h)
    ∙ bit_or_lem n (2 ^ q) s
    ∙ ap (λ (b : Bool). b || bit s n) (bit_pow q n)
    ∙ or_comm (eqb n q) (bit s n)

pub bit_join : (s t : ℕ) (n : ℕ) → bit (bit_or s t) n ≡ (bit s n || bit t n)
bit_join s t n = bit_or_lem n s t

pub bit_reduce : (up : List ℕ) (s : ℕ) (n : ℕ) → bit (set_reduce up s) n ≡ (bit s n && maximal up s n)
unfolding set_reduce
bit_reduce up s n = bit_keep_set (maximal up s) s n

-- Touch and join

pub touch_name : (q : ℕ) (s : ℕ) → q ≢ 0 → Memᴰ q (set_names (set_touch q s))
touch_name q s h = bit_name (set_touch q s) (bit_touch q s q h ∙ →or_r (bit s q) (eqb q q) (eq-eqb q q refl)) h

-- by cases: what is touched has a key, or not
by_key : (q : ℕ) (s : ℕ) (P : ℕ → Type 0) → P s → (q ≢ 0 → P (set_touch q s)) → P (set_touch q s)
by_key q s P z f = at (eqb q 0) refl
  where
    at : (c : Bool) → eqb q 0 ≡ c → P (set_touch q s)
    at true e = subst⁻¹ P (ap (λ (k : ℕ). set_touch k s) (eqb-true q 0 e) ∙ touch_none s) z
    at false e = f (eqb-false q 0 e)

pub touch_old : (q : ℕ) (s : ℕ) {n : ℕ} → Memᴰ n (set_names s) → Memᴰ n (set_names (set_touch q s))
touch_old q s {n} m = by_key q s (λ t. Memᴰ n (set_names t)) m (λ h. let z = name_bit s m in bit_name (set_touch q s) (bit_touch q s n h ∙ →or_l (bit s n) (eqb n q) z.0) z.1)

pub touch_cases : (q : ℕ) (s : ℕ) {n : ℕ} → Memᴰ n (set_names (set_touch q s)) → (n ≡ q) ⊎ Memᴰ n (set_names s)
touch_cases q s {n} m = by_key q s (λ t. Memᴰ n (set_names t) → (n ≡ q) ⊎ Memᴰ n (set_names s)) inr (λ h k. at (name_bit (set_touch q s) k).1 (or→ (bit s n) (eqb n q) (sym (bit_touch q s n h) ∙ (name_bit (set_touch q s) k).0))) m
  where
    at : n ≢ 0 → (bit s n ≡ true) ⊎ (eqb n q ≡ true) → (n ≡ q) ⊎ Memᴰ n (set_names s)
    at h (inl e) = inr (bit_name s e h)
    at h (inr e) = inl (eqb-true n q e)

-- a touch before a join or after it
touched : (q : ℕ) (s : ℕ) → q ≢ 0 → set_touch q s ≡ bit_or (2 ^ q) s
unfolding set_touch
touched q s h = rw (ne_eqb q 0 h)

pub touch_join : (q : ℕ) (s t : ℕ) → bit_or (set_touch q s) t ≡ set_touch q (bit_or s t)
touch_join q s t = at (eqb q 0) refl
  where
    at : (c : Bool) → eqb q 0 ≡ c → bit_or (set_touch q s) t ≡ set_touch q (bit_or s t)
    at true e = let z = eqb-true q 0 e in ap (λ (k : ℕ). bit_or (set_touch k s) t) z ∙ ap (λ (x : ℕ). bit_or x t) (touch_none s) ∙ sym (ap (λ (k : ℕ). set_touch k (bit_or s t)) z ∙ touch_none (bit_or s t))
    at false e = let z = eqb-false q 0 e in ap (λ (x : ℕ). bit_or x t) (touched q s z) ∙ or_assoc (2 ^ q) s t ∙ sym (touched q (bit_or s t) z)

join_comm : (s t : ℕ) → bit_or s t ≡ bit_or t s
join_comm s t = or_swap s t

pub join_swap : (s t u : ℕ) → bit_or (bit_or s t) u ≡ bit_or t (bit_or s u)
join_swap s t u = ap (λ (x : ℕ). bit_or x u) (or_swap s t) ∙ or_assoc t s u

pub join_touch : (q : ℕ) (s t : ℕ) → bit_or s (set_touch q t) ≡ set_touch q (bit_or s t)
join_touch q s t = join_comm s (set_touch q t) ∙ touch_join q t s ∙ ap (set_touch q) (join_comm t s)

pub join_left : (s t : ℕ) {n : ℕ} → Memᴰ n (set_names s) → Memᴰ n (set_names (bit_or s t))
join_left s t {n} m = let z = name_bit s m in bit_name (bit_or s t) (bit_join s t n ∙ →or_l (bit s n) (bit t n) z.0) z.1

pub join_right : (s t : ℕ) {n : ℕ} → Memᴰ n (set_names t) → Memᴰ n (set_names (bit_or s t))
join_right s t {n} m = let z = name_bit t m in bit_name (bit_or s t) (bit_join s t n ∙ →or_r (bit s n) (bit t n) z.0) z.1

pub join_cases : (s t : ℕ) {n : ℕ} → Memᴰ n (set_names (bit_or s t)) → Memᴰ n (set_names s) ⊎ Memᴰ n (set_names t)
join_cases s t {n} m = at (name_bit (bit_or s t) m).1 (or→ (bit s n) (bit t n) (sym (bit_join s t n) ∙ (name_bit (bit_or s t) m).0))
  where
    at : n ≢ 0 → (bit s n ≡ true) ⊎ (bit t n ≡ true) → Memᴰ n (set_names s) ⊎ Memᴰ n (set_names t)
    at h (inl e) = inl (bit_name s e h)
    at h (inr e) = inr (bit_name t e h)

-- The order

-- a set whose names are all names of another
pub eff_sub : {up : List ℕ} {s t : ℕ} → ((n : ℕ) → Memᴰ n (set_names s) → Memᴰ n (set_names t)) → SetBelow up s t
eff_sub f = record { each = λ n m. (n, f n m, here) }

pub eff_refl : {up : List ℕ} {s : ℕ} → SetBelow up s s
eff_refl = eff_sub (λ n m. m)

pub eff_trans : {up : List ℕ} {s t u : ℕ} → SetBelow up s t → SetBelow up t u → SetBelow up s u
eff_trans p q = record { each = λ n m. let z = p.each n m in let y = q.each z.0 z.1 in (y.0, y.1, below_trans z.2 y.2) }

pub eff_pure : {up : List ℕ} {t : ℕ} → SetBelow up 0 t
eff_pure = record { each = λ n m. absurd (pure_name m) }

pub eff_join : {up : List ℕ} {s t u : ℕ} → SetBelow up s u → SetBelow up t u → SetBelow up (bit_or s t) u
eff_join {up} {s} {t} {u} p q = record { each = λ n m. at n (join_cases s t m) }
  where
    at : (n : ℕ) → Memᴰ n (set_names s) ⊎ Memᴰ n (set_names t) → (k : ℕ) × Memᴰ k (set_names u) × Below up n k
    at n (inl m) = p.each n m
    at n (inr m) = q.each n m

pub join_upper_l : {up : List ℕ} (s t : ℕ) → SetBelow up s (bit_or s t)
join_upper_l s t = eff_sub (λ n m. join_left s t m)

pub join_upper_r : {up : List ℕ} (s t : ℕ) → SetBelow up t (bit_or s t)
join_upper_r s t = eff_sub (λ n m. join_right s t m)

pub eff_join_mono : {up : List ℕ} {s s' t t' : ℕ} → SetBelow up s s' → SetBelow up t t' → SetBelow up (bit_or s t) (bit_or s' t')
eff_join_mono {s' = s'} {t' = t'} p q = eff_join (eff_trans p (join_upper_l s' t')) (eff_trans q (join_upper_r s' t'))

pub touch_upper : {up : List ℕ} (q : ℕ) (s : ℕ) → SetBelow up s (set_touch q s)
touch_upper q s = eff_sub (λ n m. touch_old q s m)

-- a touched name that is below some name of the upper set
pub eff_touch : {up : List ℕ} {s t : ℕ} {p m : ℕ} → Memᴰ m (set_names t) → Below up p m → SetBelow up s t → SetBelow up (set_touch p s) t
eff_touch {up} {s} {t} {p} {m} w b q = record { each = λ n k. at n (touch_cases p s k) }
  where
    at : (n : ℕ) → (n ≡ p) ⊎ Memᴰ n (set_names s) → (k : ℕ) × Memᴰ k (set_names t) × Below up n k
    at n (inl e) = (m, w, subst⁻¹ (λ (x : ℕ). Below up x m) e b)
    at n (inr k) = q.each n k

pub touch_zero : {up : List ℕ} {s t : ℕ} {p : ℕ} → p ≡ 0 → SetBelow up s t → SetBelow up (set_touch p s) t
touch_zero {up} {s} {t} e q = subst⁻¹ (λ (r : ℕ). SetBelow up r t) (ap (λ (k : ℕ). set_touch k s) e ∙ touch_none s) q

pub eff_touch_mono : {up : List ℕ} → Proper up → {p q : ℕ} {s t : ℕ} → Below up p q → SetBelow up s t → SetBelow up (set_touch p s) (set_touch q t)
eff_touch_mono {up} ok {p} {q} {s} {t} b e = at (eqb q 0) refl
  where
    up_t : SetBelow up s (set_touch q t)
    up_t = eff_trans e (touch_upper q t)

    at : (c : Bool) → eqb q 0 ≡ c → SetBelow up (set_touch p s) (set_touch q t)
    at true z = touch_zero (below_zero ok (subst (λ (x : ℕ). Below up p x) (eqb-true q 0 z) b)) up_t
    at false z = eff_touch (touch_name q t (eqb-false q 0 z)) b up_t

-- the test
pub eff_below→ : (up : List ℕ) (s t : ℕ) → set_below up s t ≡ true → SetBelow up s t
unfolding set_below
eff_below→ up s t e = record { each = λ n m. let z = some_of→ (λ k. below up n k) (set_names t) (all_of→ (λ x. some_of (λ k. below up x k) (set_names t)) e m) in (z.0, z.1, below→ up n z.0 z.2) }

pub →eff_below : {up : List ℕ} → Proper up → {s t : ℕ} → SetBelow up s t → set_below up s t ≡ true
unfolding set_below
→eff_below {up} ok {s} {t} e = →all_of (λ x. some_of (λ k. below up x k) (set_names t)) (set_names s) (λ n m. let z = e.each n m in →some_of (λ k. below up n k) z.1 (→below ok z.2))

-- Reduce

pub maximal→ : (up : List ℕ) (s : ℕ) (n : ℕ) → maximal up s n ≡ true → (n ≢ 0) × ((m : ℕ) → Memᴰ m (members s) → below up n m ≡ true → n ≡ m)
unfolding maximal
maximal→ up s n e = at (eqb n 0) refl e
  where
    other : ℕ → Bool
    other m = cond (eqb n m) false (below up n m)

    one : (m : ℕ) (c : Bool) → eqb n m ≡ c → cond c false (below up n m) ≡ false → below up n m ≡ true → n ≡ m
    one m true z x y = eqb-true n m z
    one m false z x y = absurd (true≢false (sym y ∙ x))

    at : (b : Bool) → eqb n 0 ≡ b → cond b false (not (some_of other (members s))) ≡ true → (n ≢ 0) × ((m : ℕ) → Memᴰ m (members s) → below up n m ≡ true → n ≡ m)
    at true z h = absurd (false≢true h)
    at false z h = (eqb-false n 0 z, λ m w y. one m (eqb n m) refl (none_of→ other (not-true (some_of other (members s)) h) w) y)

pub →maximal : (up : List ℕ) (s : ℕ) (n : ℕ) → n ≢ 0 → ((m : ℕ) → Memᴰ m (members s) → below up n m ≡ true → n ≡ m) → maximal up s n ≡ true
unfolding maximal
→maximal up s n h f = rw (ne_eqb n 0 h, →none_of other (members s) (λ m w. one m (eqb n m) refl (below up n m) refl (f m w)))
  where
    other : ℕ → Bool
    other m = cond (eqb n m) false (below up n m)

    one : (m : ℕ) (c : Bool) → eqb n m ≡ c → (d : Bool) → below up n m ≡ d → (below up n m ≡ true → n ≡ m) → cond c false d ≡ false
    one m true z d y g = refl
    one m false z true y g = absurd (eqb-false n m z (g y))
    one m false z false y g = refl

-- a name that is not maximal is below another
pub not_maximal : (up : List ℕ) (s : ℕ) (n : ℕ) → n ≢ 0 → maximal up s n ≡ false → (m : ℕ) × Memᴰ m (members s) × (n ≢ m) × Below up n m
unfolding maximal
not_maximal up s n h e = at (eqb n 0) refl e
  where
    other : ℕ → Bool
    other m = cond (eqb n m) false (below up n m)

    one : (m : ℕ) (c : Bool) → eqb n m ≡ c → cond c false (below up n m) ≡ true → (n ≢ m) × Below up n m
    one m true z x = absurd (false≢true x)
    one m false z x = (eqb-false n m z, below→ up n m x)

    at : (b : Bool) → eqb n 0 ≡ b → cond b false (not (some_of other (members s))) ≡ false → (m : ℕ) × Memᴰ m (members s) × (n ≢ m) × Below up n m
    at true z x = absurd (h (eqb-true n 0 z))
    at false z x = let w = some_of→ other (members s) (not-false (some_of other (members s)) x) in let y = one w.0 (eqb n w.0) refl w.2 in (w.0, w.1, y.0, y.1)

pub reduce_mem : (up : List ℕ) (s : ℕ) {n : ℕ} → Memᴰ n (members (set_reduce up s)) → Memᴰ n (members s) × (maximal up s n ≡ true)
unfolding set_reduce
reduce_mem up s m = keep_mem (maximal up s) (members s) (mem_set_of (keep (maximal up s) (members s)) m)

pub mem_reduce : (up : List ℕ) (s : ℕ) {n : ℕ} → Memᴰ n (members s) → maximal up s n ≡ true → Memᴰ n (members (set_reduce up s))
unfolding set_reduce
mem_reduce up s m e = set_of_mem (mem_keep (maximal up s) m e)

pub reduce_in : (up : List ℕ) (s : ℕ) {n : ℕ} → Memᴰ n (set_names (set_reduce up s)) → Memᴰ n (set_names s)
reduce_in up s m = let z = name_mem (set_reduce up s) m in mem_name s (reduce_mem up s z.0).0 z.1

pub reduce_below : (up : List ℕ) (s : ℕ) → SetBelow up (set_reduce up s) s
reduce_below up s = eff_sub (λ n m. reduce_in up s m)

pub below_reduce : {up : List ℕ} → Proper up → (s : ℕ) → SetBelow up s (set_reduce up s)
below_reduce {up} ok s = record { each = λ n m. let z = name_mem s m in go (suc n) n (omega arith) z.0 z.1 }
  where
    Above : ℕ → Type 0
    Above n = (m : ℕ) × Memᴰ m (set_names (set_reduce up s)) × Below up n m

    go : (f n : ℕ) → n < f → Memᴰ n (members s) → n ≢ 0 → Above n
    go zero n h m z = absurd (omega arith)
    go (suc f) n h m z = at (maximal up s n) refl (λ k w x y. go f k w x y)
      where
        smaller : (k : ℕ) → n ≢ k → (n ≡ 0) ⊎ (k ≤ n) → k < f
        smaller k d (inl e) = absurd (z e)
        smaller k d (inr e) = omega arith

        next : ((k : ℕ) → k < f → Memᴰ k (members s) → k ≢ 0 → Above k) → (k : ℕ) → Memᴰ k (members s) → n ≢ k → Below up n k → Above n
        next g k w d b = let y = g k (smaller k d (below_le ok b)) w (λ e. z (below_zero ok (subst (λ (x : ℕ). Below up n x) e b))) in (y.0, y.1, below_trans b y.2)

        at : (b : Bool) → maximal up s n ≡ b → ((k : ℕ) → k < f → Memᴰ k (members s) → k ≢ 0 → Above k) → Above n
        at true e g = (n, mem_name (set_reduce up s) (mem_reduce up s m e) z, here)
        at false e g = let y = not_maximal up s n z e in next g y.0 y.1 y.2 y.3

pub none_reduced : (up : List ℕ) → set_reduced up 0 ≡ true
unfolding set_reduced all_of members members_from
none_reduced up = refl

pub reduce_reduced : (up : List ℕ) (s : ℕ) → set_reduced up (set_reduce up s) ≡ true
unfolding set_reduced
reduce_reduced up s = →all_of (maximal up (set_reduce up s)) (members (set_reduce up s)) one
  where
    one : (n : ℕ) → Memᴰ n (members (set_reduce up s)) → maximal up (set_reduce up s) n ≡ true
    one n m = let z = maximal→ up s n (reduce_mem up s m).1 in →maximal up (set_reduce up s) n z.0 (λ k w e. z.1 k (reduce_mem up s w).0 e)

-- of the reduced sets of one meaning there is one
pub reduced_unique : {up : List ℕ} → Proper up → {s t : ℕ} → set_reduced up s ≡ true → set_reduced up t ≡ true → SetBelow up s t → SetBelow up t s → s ≡ t
unfolding set_reduced
reduced_unique {up} ok {s} {t} rs rt p q = set_ext s t (λ i. bool_ext (bit s i) (bit t i) (λ e. half s t rs p q i e) (λ e. half t s rt q p i e))
  where
    half : (a b : ℕ) → all_of (maximal up a) (members a) ≡ true → SetBelow up a b → SetBelow up b a → (i : ℕ) → bit a i ≡ true → bit b i ≡ true
    half a b r ab ba i e = take (maximal→ up a i (all_of→ (maximal up a) r (bit_mem a e)))
      where
        there_back : ((m : ℕ) → Memᴰ m (members a) → below up i m ≡ true → i ≡ m) → (m : ℕ) → Memᴰ m (set_names b) → Below up i m → (k : ℕ) × Memᴰ k (set_names a) × Below up m k → bit b i ≡ true
        there_back f m w x y = let h : i ≡ y.0 = f y.0 (name_mem a y.1).0 (→below ok (below_trans x y.2)) in let g : i ≡ m = below_antisym ok x (subst⁻¹ (λ (v : ℕ). Below up m v) h y.2) in subst⁻¹ (λ (v : ℕ). bit b v ≡ true) g (name_bit b w).0

        take : (i ≢ 0) × ((m : ℕ) → Memᴰ m (members a) → below up i m ≡ true → i ≡ m) → bit b i ≡ true
        take z = let x = ab.each i (bit_name a e z.0) in there_back z.1 x.0 x.1 x.2 (ba.each x.0 x.1)

-- Drop

pub drop_in : (up : List ℕ) (r : ℕ) (s : ℕ) {n : ℕ} → Memᴰ n (set_names (set_drop up r s)) → Memᴰ n (set_names s) × (below up n r ≡ false)
unfolding set_drop
drop_in up r s {n} m = let z = keep_mem (λ k. not (below up k r)) (set_names s) (mem_set_of (keep (λ k. not (below up k r)) (set_names s)) (name_mem (set_drop up r s) m).0) in (z.0, not-true (below up n r) z.1)

pub in_drop : (up : List ℕ) (r : ℕ) (s : ℕ) {n : ℕ} → Memᴰ n (set_names s) → below up n r ≡ false → Memᴰ n (set_names (set_drop up r s))
unfolding set_drop
in_drop up r s {n} m e = let h : not (below up n r) ≡ true = rw e in mem_name (set_drop up r s) (set_of_mem (mem_keep (λ k. not (below up k r)) m h)) (name_mem s m).1

pub drop_or : (up : List ℕ) (r : ℕ) (s : ℕ) {n : ℕ} → Memᴰ n (set_names s) → Memᴰ n (set_names (set_drop up r s)) ⊎ Below up n r
drop_or up r s {n} m = at (below up n r) refl
  where
    at : (b : Bool) → below up n r ≡ b → Memᴰ n (set_names (set_drop up r s)) ⊎ Below up n r
    at true e = inr (below→ up n r e)
    at false e = inl (in_drop up r s m e)

pub drop_below : (up : List ℕ) (r : ℕ) (s : ℕ) → SetBelow up (set_drop up r s) s
drop_below up r s = eff_sub (λ n m. (drop_in up r s m).0)

pub drop_mono : {up : List ℕ} → Proper up → (r : ℕ) {s t : ℕ} → SetBelow up s t → SetBelow up (set_drop up r s) (set_drop up r t)
drop_mono {up} ok r {s} {t} p = record { each = λ n m. let z = drop_in up r s m in let y = p.each n z.0 in at n z.1 y.0 y.2 (drop_or up r t y.1) }
  where
    at : (n : ℕ) → below up n r ≡ false → (k : ℕ) → Below up n k → Memᴰ k (set_names (set_drop up r t)) ⊎ Below up k r → (m : ℕ) × Memᴰ m (set_names (set_drop up r t)) × Below up n m
    at n e k b (inl m) = (k, m, b)
    at n e k b (inr c) = absurd (false≢true (sym e ∙ →below ok (below_trans b c)))

pub bit_drop : (up : List ℕ) (r : ℕ) (s : ℕ) (n : ℕ) → bit (set_drop up r s) n ≡ (bit s n && not (below up n r))
unfolding set_drop
bit_drop up r s n = bool_ext (bit (set_drop up r s) n) (bit s n && not (below up n r)) to from
  where
    p : ℕ → Bool
    p k = not (below up k r)

    to : bit (set_drop up r s) n ≡ true → (bit s n && not (below up n r)) ≡ true
    to e = let z = keep_mem p (set_names s) (bit_set_of (keep p (set_names s)) e) in →and (bit s n) (not (below up n r)) (name_bit s z.0).0 z.1

    from : (bit s n && not (below up n r)) ≡ true → bit (set_drop up r s) n ≡ true
    from e = let z = and→ (bit s n) (not (below up n r)) e in set_of_bit (mem_keep p (bit_name s z.0 (λ h. true≢false (sym (ap (λ (x : ℕ). below up x r) h ∙ below_bot up r) ∙ not-true (below up n r) z.1))) z.1)

-- Raise

abbrev raise_name : ℕ → ℕ → ℕ → ℕ
raise_name r u n = cond (eqb n r) u n

raise_own : (r u : ℕ) → raise_name r u r ≡ u
raise_own r u = rw (eq-eqb r r refl)

raise_other : (r u n : ℕ) → n ≢ r → raise_name r u n ≡ n
raise_other r u n h = rw (ne_eqb n r h)

pub raise_on : (r u : ℕ) (s : ℕ) → Memᴰ r (set_names s) → u ≢ 0 → Memᴰ u (set_names (set_raise r u s))
unfolding set_raise
raise_on r u s m h = mem_name (set_raise r u s) (set_of_mem (mathlib.Core.List.Memᴰ.cast (sym (raise_own r u)) (mathlib.Core.List.Memᴰ.map (raise_name r u) m))) h

pub raise_off : (r u : ℕ) (s : ℕ) {n : ℕ} → Memᴰ n (set_names s) → n ≢ r → Memᴰ n (set_names (set_raise r u s))
unfolding set_raise
raise_off r u s {n} m h = mem_name (set_raise r u s) (set_of_mem (mathlib.Core.List.Memᴰ.cast (sym (raise_other r u n h)) (mathlib.Core.List.Memᴰ.map (raise_name r u) m))) (name_mem s m).1

raised : (r u : ℕ) (s : ℕ) {n : ℕ} → Memᴰ n (map (raise_name r u) (set_names s)) → (Memᴰ n (set_names s) × (n ≢ r)) ⊎ (Memᴰ r (set_names s) × (n ≡ u))
raised r u s {n} m = let z = mathlib.Core.List.Memᴰ.of_map (raise_name r u) (set_names s) m in at z.0 z.1 z.2 (eqb z.0 r) refl
  where
    at : (k : ℕ) → Memᴰ k (set_names s) → raise_name r u k ≡ n → (b : Bool) → eqb k r ≡ b → (Memᴰ n (set_names s) × (n ≢ r)) ⊎ (Memᴰ r (set_names s) × (n ≡ u))
    at k w h true e = let z = eqb-true k r e in inr (mathlib.Core.List.Memᴰ.cast (sym z) w, sym h ∙ ap (raise_name r u) z ∙ raise_own r u)
    at k w h false e = let z = eqb-false k r e in let y = sym (raise_other r u k z) ∙ h in inl (mathlib.Core.List.Memᴰ.cast (sym y) w, λ x. z (y ∙ x))

pub raise_cases : (r u : ℕ) (s : ℕ) {n : ℕ} → Memᴰ n (set_names (set_raise r u s)) → (Memᴰ n (set_names s) × (n ≢ r)) ⊎ (Memᴰ r (set_names s) × (n ≡ u))
unfolding set_raise
raise_cases r u s m = raised r u s (mem_set_of (map (raise_name r u) (set_names s)) (name_mem (set_raise r u s) m).0)

pub bit_raise : (r u : ℕ) (s : ℕ) (n : ℕ) → bit (set_raise r u s) n ≡ ((bit s n && (not (eqb n 0) && not (eqb n r))) || (eqb n u && (bit s r && not (eqb r 0))))
unfolding set_raise
bit_raise r u s n = bool_ext (bit (set_raise r u s) n) (stays || comes) (λ e. to (raised r u s (bit_set_of (map (raise_name r u) (set_names s)) e))) (λ e. from (or→ stays comes e))
  where
    stays : Bool
    stays = bit s n && (not (eqb n 0) && not (eqb n r))

    comes : Bool
    comes = eqb n u && (bit s r && not (eqb r 0))

    to : (Memᴰ n (set_names s) × (n ≢ r)) ⊎ (Memᴰ r (set_names s) × (n ≡ u)) → (stays || comes) ≡ true
    to (inl z) = let h : not (eqb n r) ≡ true = rw (ne_eqb n r z.1) in let y = name_bit s z.0 in →or_l stays comes (→and (bit s n) (not (eqb n 0) && not (eqb n r)) y.0 (→and (not (eqb n 0)) (not (eqb n r)) (not_zero n y.1) h))
    to (inr z) = let y = name_bit s z.0 in →or_r stays comes (→and (eqb n u) (bit s r && not (eqb r 0)) (eq-eqb n u z.1) (→and (bit s r) (not (eqb r 0)) y.0 (not_zero r y.1)))

    from : (stays ≡ true) ⊎ (comes ≡ true) → bit (set_raise r u s) n ≡ true
    from (inl e) = let z = and→ (bit s n) (not (eqb n 0) && not (eqb n r)) e in let y = and→ (not (eqb n 0)) (not (eqb n r)) z.1 in
        (name_bit (set_raise r u s) (raise_off r u s (bit_name s z.0 (zero_not n y.0)) (eqb-false n r (not-true (eqb n r) y.1)))).0
    from (inr e) = let z = and→ (eqb n u) (bit s r && not (eqb r 0)) e in let y = and→ (bit s r) (not (eqb r 0)) z.1 in
        set_of_bit (mathlib.Core.List.Memᴰ.cast (eqb-true n u z.0 ∙ sym (raise_own r u)) (mathlib.Core.List.Memᴰ.map (raise_name r u) (bit_name s y.0 (zero_not r y.1))))

-- an upper number is not 0
pub upper_not_zero : {up : List ℕ} → Proper up → {r u : ℕ} → get_elem? up r ≡ some u → r ≢ 0 → u ≢ 0
upper_not_zero ok {r} {u} g h e = at (ok.down r u g)
  where
    at : ((u < r) × (0 < u)) ⊎ ((u ≡ r) × (r < 2)) → ⊥
    at (inl z) = omega arith
    at (inr z) = h (sym z.0 ∙ e)

-- what is above a number is the number or above its upper number
pub below_upper : {up : List ℕ} {r u m : ℕ} → get_elem? up r ≡ some u → Below up r m → (r ≡ 0) ⊎ (r ≡ m) ⊎ Below up u m
below_upper g bot = inl refl
below_upper g here = inr (inl refl)
below_upper {up} {u = u} {m = m} g (there {u = v} h p) = inr (inr (subst (λ (x : ℕ). Below up x m) (some-injective v u (sym h ∙ g)) p))

pub raise_mono : {up : List ℕ} → Proper up → (r : ℕ) {u : ℕ} → get_elem? up r ≡ some u → {s t : ℕ} → SetBelow up s t → SetBelow up (set_raise r u s) (set_raise r u t)
raise_mono {up} ok r {u} g {s} {t} p = record { each = λ n m. at n (raise_cases r u s m) }
  where
    Over : ℕ → Type 0
    Over n = (m : ℕ) × Memᴰ m (set_names (set_raise r u t)) × Below up n m

    -- what is below a name of t is below a raised name of t
    cover : (n m : ℕ) → Memᴰ m (set_names t) → Below up n m → Over n
    cover n m w b = on (eqb m r) refl
      where
        on : (c : Bool) → eqb m r ≡ c → Over n
        on true e = let h : m ≡ r = eqb-true m r e in (u, raise_on r u t (mathlib.Core.List.Memᴰ.cast (sym h) w) (upper_not_zero ok g (λ z. (name_mem t w).1 (h ∙ z))), below_trans b (subst⁻¹ (λ (x : ℕ). Below up x u) h (there g here)))
        on false e = (m, raise_off r u t w (eqb-false m r e), b)

    climb : Memᴰ r (set_names s) → (m : ℕ) → Memᴰ m (set_names t) → (r ≡ 0) ⊎ (r ≡ m) ⊎ Below up u m → Over u
    climb k m w (inl e) = absurd ((name_mem s k).1 e)
    climb k m w (inr (inl e)) = (u, raise_on r u t (mathlib.Core.List.Memᴰ.cast e w) (upper_not_zero ok g (name_mem s k).1), here)
    climb k m w (inr (inr b)) = cover u m w b

    at : (n : ℕ) → (Memᴰ n (set_names s) × (n ≢ r)) ⊎ (Memᴰ r (set_names s) × (n ≡ u)) → Over n
    at n (inl z) = let y = p.each n z.0 in cover n y.0 y.1 y.2
    at n (inr z) = let y = p.each r z.0 in subst⁻¹ Over z.1 (climb z.0 y.0 y.1 (below_upper g y.2))

-- Sizes: names below k stay below k

pub names_lt : (k s : ℕ) → 0 < k → ((n : ℕ) → Memᴰ n (set_names s) → n < k) → s < 2 ^ k
names_lt k s h f = lt_bit k s (λ i e. at i e (eqb i 0) refl)
  where
    at : (i : ℕ) → bit s i ≡ true → (c : Bool) → eqb i 0 ≡ c → i < k
    at i e true z = omega (arith, eqb-true i 0 z)
    at i e false z = f i (bit_name s e (eqb-false i 0 z))

pub lt_wider : {s j k : ℕ} → s < 2 ^ j → j ≤ k → s < 2 ^ k
lt_wider {s} {j} {k} h l = let z : 2 ^ j ≤ 2 ^ k = pow-le-pow_right (omega arith) l in omega arith

pub none_lt : (k : ℕ) → 0 < 2 ^ k
none_lt k = lt_bit k 0 (λ i e. absurd (false≢true (sym (bit_zero i) ∙ e)))

pub reduce_lt : (k : ℕ) (up : List ℕ) (s : ℕ) → s < 2 ^ k → set_reduce up s < 2 ^ k
reduce_lt k up s h = lt_bit k (set_reduce up s) (λ i e. bit_lt k s i (and→ (bit s i) (maximal up s i) (sym (bit_reduce up s i) ∙ e)).0 h)

pub drop_lt : (k : ℕ) (up : List ℕ) (r : ℕ) (s : ℕ) → s < 2 ^ k → set_drop up r s < 2 ^ k
drop_lt k up r s h = lt_bit k (set_drop up r s) (λ i e. bit_lt k s i (and→ (bit s i) (not (below up i r)) (sym (bit_drop up r s i) ∙ e)).0 h)

pub join_lt : (k : ℕ) (s t : ℕ) → s < 2 ^ k → t < 2 ^ k → bit_or s t < 2 ^ k
join_lt k s t h g = or_lt k s t h g

pub touch_lt : (k q : ℕ) (s : ℕ) → q < k → s < 2 ^ k → set_touch q s < 2 ^ k
touch_lt k q s h g = by_key q s (λ t. t < 2 ^ k) g (λ z. lt_bit k (set_touch q s) (λ i e. at i (or→ (bit s i) (eqb i q) (sym (bit_touch q s i z) ∙ e))))
  where
    at : (i : ℕ) → (bit s i ≡ true) ⊎ (eqb i q ≡ true) → i < k
    at i (inl e) = bit_lt k s i e g
    at i (inr e) = omega (arith, eqb-true i q e)

pub raise_lt : (k r u : ℕ) (s : ℕ) → u < k → s < 2 ^ k → set_raise r u s < 2 ^ k
unfolding set_raise
raise_lt k r u s h g = lt_bit k (set_raise r u s) (λ i e. at i (raised r u s (bit_set_of (map (raise_name r u) (set_names s)) e)))
  where
    at : (i : ℕ) → (Memᴰ i (set_names s) × (i ≢ r)) ⊎ (Memᴰ r (set_names s) × (i ≡ u)) → i < k
    at i (inl z) = name_lt k s z.0 g
    at i (inr z) = omega (arith, z.1)
