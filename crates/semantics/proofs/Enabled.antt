-- The machine's tests of enabled keys find all that holds, and what the effects of the rules say of enabled keys.
use Rattle.std.specs.Prelude.{◌≡◌, true, false, cond, ◌≢◌, ◌⊎◌, length, eqb, ltb}
use Rattle.std.proofs.Math.Path.{refl}
use Rattle.std.proofs.Common.{ap, ◌∙◌, subst, arith, inl, inr, eq-eqb, eqb-true, lt-ltb}
use Prim.Native.Nat.{ℕ, zero, suc, ◌^◌, ◌<◌}
use Rattle.std.proofs.Math.Bool.{Bool}
use Rattle.std.specs.Int.Bits.{bit_or}
use mathlib.Core.List.Memᴰ
use mathlib.Core.List.{List, [], ◌∷◌, ◌++◌, map, Memᴰ}
use Rattle.std.proofs.lemmas.Bool.{eqb-false}
use Rattle.order.specs.Bools.{◌and◌}
use Rattle.order.proofs.Bools.{and3, or_l, or_r, or_cases}
use Rattle.order.specs.Order.{Below, here, below}
use Rattle.order.proofs.OrderLaws.{below_trans, below_zero, below→, →below, proper_snoc, length_snoc}
use Rattle.order.specs.Sets.{bit, cons_if, members, set_of, keep, some_of}
use Rattle.order.proofs.SetLaws.{→or_l, →or_r, bit_or_lem, bit_pow, mem_bit, bit_mem, mem_keep, some_of→, →some_of, set_of_mem}
use Rattle.order.specs.Effects.{Effect, names, touch, join}
use Rattle.order.proofs.EffectLaws.{touch_name, touch_old, join_left, join_right}
use Rattle.semantics.specs.Keys.{enabled, upto, narrow, add}
use Rattle.semantics.specs.RuntimeTypes.{Under}
use Rattle.semantics.specs.Invariant.{On, on_zero, on_key, OnAll, Covers, KeysOk}

-- more keys enable more
pub on_more : {ks l m : List ℕ} → ((a : ℕ) → Memᴰ a l → Memᴰ a m) → {k : ℕ} → On ks l k → On ks m k
on_more f (on_zero e) = on_zero e
on_more f (on_key w b) = on_key (f _ w) b

pub mem_upto : (n k : ℕ) → k < n → Memᴰ k (upto n)
unfolding upto
mem_upto zero k h = absurd (omega arith)
mem_upto (suc n) k h = at (eqb k n) refl (mem_upto n k)
  where
    at : (b : Bool) → eqb k n ≡ b → (k < n → Memᴰ k (upto n)) → Memᴰ k (n ∷ upto n)
    at true e f = Memᴰ.head (eqb-true k n e)
    at false e f = let z : k ≢ n = eqb-false k n e in Memᴰ.tail (f (omega arith))

pub enabled_on : (ks : List ℕ) (on : ℕ) {k : ℕ} → enabled ks on k ≡ true → On ks (members on) k
unfolding enabled
enabled_on ks on {k} e = at (or_cases (eqb k 0) (some_of (λ a. below ks k a) (members on)) e)
  where
    at : (eqb k 0 ≡ true) ⊎ (some_of (λ a. below ks k a) (members on) ≡ true) → On ks (members on) k
    at (inl h) = on_zero (eqb-true k 0 h)
    at (inr h) = let z = some_of→ (λ a. below ks k a) (members on) h in on_key z.1 (below→ ks k z.0 z.2)

module _ {ks : List ℕ} (ok : KeysOk ks) where
  pub on_enabled : (on : ℕ) {k : ℕ} → On ks (members on) k → enabled ks on k ≡ true
  unfolding enabled
  on_enabled on {k} (on_zero e) = or_l (eqb k 0) (some_of (λ a. below ks k a) (members on)) (eq-eqb k 0 e)
  on_enabled on {k} (on_key m b) = or_r (eqb k 0) (some_of (λ a. below ks k a) (members on)) (→some_of (λ a. below ks k a) m (→below ok.proper b))

  pub on_below : {l : List ℕ} {a b : ℕ} → On ks l b → Below ks a b → On ks l a
  on_below {a = a} (on_zero e) p = on_zero (below_zero ok.proper (subst (λ t. Below ks a t) e p))
  on_below (on_key m q) p = on_key m (below_trans p q)

  -- what a limit leaves enabled
  pub on_narrow : (on : ℕ) (js : List ℕ) {k : ℕ} → On ks (members on) k → On ks js k → k < length ks → On ks (members (narrow ks on js)) k
  unfolding narrow
  on_narrow on js {k} o p h = at (eqb k 0) refl
    where
      own : ℕ → Bool
      own i = some_of (λ a. below ks i a) js

      test : ℕ → Bool
      test i = ltb 0 i and enabled ks on i and own i

      is_own : k ≢ 0 → On ks js k → own k ≡ true
      is_own z (on_zero e) = absurd (z e)
      is_own z (on_key m b) = →some_of (λ a. below ks k a) m (→below ok.proper b)

      at : (b : Bool) → eqb k 0 ≡ b → On ks (members (set_of (keep test (upto (length ks))))) k
      at true e = on_zero (eqb-true k 0 e)
      at false e =
          let z : k ≢ 0 = eqb-false k 0 e in
          on_key (set_of_mem (mem_keep test (mem_upto (length ks) k h) (and3 (ltb 0 k) (enabled ks on k) (own k) (lt-ltb 0 k (omega arith)) (on_enabled on o) (is_own z p)))) here

  -- a new key below an old one
  pub keys_snoc : {j : ℕ} → 0 < j → j < length ks → KeysOk (ks ++ (j ∷ []))
  keys_snoc {j} p h = record { proper = proper_snoc ok.proper p h; two = omega (arith, length_snoc ks j, ok.two) }

  pub on_under : {l L M : List ℕ} → Under ks L M → OnAll ks l M → OnAll ks l L
  on_under u c = record { each = λ k m. let z = u.each k m in on_below (c.each z.0 z.1) z.2 }

-- a limit with no keys leaves none
pub narrow_none : (up : List ℕ) (on : ℕ) → narrow up on [] ≡ 0
unfolding narrow upto keep cons_if set_of some_of ◌and◌
narrow_none up on = ap set_of (all (length up))
  where
    at : (b : Bool) → (b and false) ≡ false
    at true = refl
    at false = refl

    all : (n : ℕ) → keep (λ k. ltb 0 k and enabled up on k and false) (upto n) ≡ []
    all zero = refl
    all (suc n) = rw (at (ltb 0 n and enabled up on n)) (all n)

-- what a grant enables
pub add_new : (ks : List ℕ) (j on : ℕ) → j < length ks → Memᴰ j (members (add ks j on))
unfolding add
add_new ks j on h = rw (lt-ltb j (length ks) h) (bit_mem (bit_or (2 ^ j) on) (bit_or_lem j (2 ^ j) on ∙ →or_l (bit (2 ^ j) j) (bit on j) (bit_pow j j ∙ eq-eqb j j refl)))

pub add_old : (ks : List ℕ) (j on : ℕ) {a : ℕ} → Memᴰ a (members on) → Memᴰ a (members (add ks j on))
unfolding add
add_old ks j on {a} m = at (ltb j (length ks))
  where
    at : (b : Bool) → Memᴰ a (members (cond b (bit_or (2 ^ j) on) on))
    at true = bit_mem (bit_or (2 ^ j) on) (bit_or_lem a (2 ^ j) on ∙ →or_r (bit (2 ^ j) a) (bit on a) (mem_bit on m))
    at false = m

-- a name that is 0 or covered
pub on_name : {ks l : List ℕ} (μ : ℕ → ℕ) → μ 0 ≡ 0 → (n : ℕ) → (n ≢ 0 → On ks l (μ n)) → On ks l (μ n)
on_name {ks} {l} μ z n f = at (eqb n 0) refl
  where
    at : (b : Bool) → eqb n 0 ≡ b → On ks l (μ n)
    at true e = on_zero (ap μ (eqb-true n 0 e) ∙ z)
    at false e = f (eqb-false n 0 e)

-- an effect that is covered covers its parts
module _ {ks l : List ℕ} {μ : ℕ → ℕ} where
  pub covers_join_l : (s t : Effect) → Covers ks l μ (join s t) → Covers ks l μ s
  covers_join_l s t c = record { each = λ n m. c.each n (join_left s t m) }

  pub covers_join_r : (s t : Effect) → Covers ks l μ (join s t) → Covers ks l μ t
  covers_join_r s t c = record { each = λ n m. c.each n (join_right s t m) }

  pub covers_old : (q : ℕ) (s : Effect) → Covers ks l μ (touch q s) → Covers ks l μ s
  covers_old q s c = record { each = λ n m. c.each n (touch_old q s m) }

  pub covers_touch : μ 0 ≡ 0 → (q : ℕ) (s : Effect) → Covers ks l μ (touch q s) → On ks l (μ q)
  covers_touch z q s c = on_name μ z q (λ h. c.each q (touch_name q s h))

  -- as keys
  pub covers_map : (s : Effect) → Covers ks l μ s → OnAll ks l (map μ (names s))
  covers_map s c = record { each = λ k m. let z = Memᴰ.of_map μ (names s) m in subst (λ t. On ks l t) z.2 (c.each z.0 z.1) }

  pub map_covers : (s : Effect) → OnAll ks l (map μ (names s)) → Covers ks l μ s
  map_covers s c = record { each = λ n m. c.each (μ n) (Memᴰ.map μ m) }
