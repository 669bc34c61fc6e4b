-- The members of a set, one after another from the lowest: what a loop over a set does.
use Rattle.std.specs.Prelude.{◌≡◌, Bool, not, ◌||◌, eqb}
use Rattle.std.proofs.Math.Path.{refl, sym, ap}
use Rattle.std.proofs.Common.{ap₂, ◌∙◌, subst, pow-suc, length, ltb, lt-ltb, ltb-true, ltb-false, true≢false, ◌≢◌}
use Prim.Native.Nat.{ℕ, zero, suc, ◌+◌, ◌-◌, ◌/◌, ◌%◌, ◌^◌, ◌≤◌, ◌<◌}
use native.Mathlib.Omega.{arith}
use Rattle.std.proofs.Math.Bool.{true, false, cond}
use mathlib.Core.List.{List, [], ◌∷◌, Memᴰ}
use Rattle.std.proofs.Math.Dec.{eqb-suc-zero}
use Rattle.std.specs.Int.Bits.{bit_and, bit_or, and_step, and_self, or_zero_r}
use Rattle.std.proofs.lemmas.Nat.{and_le_r}
use Rattle.std.specs.Int.Count.{count_trailing_zeros, under}
use Rattle.order.specs.Sets.{bit, cons_if, members_from, members, set_of, keep, all_of}
use Rattle.order.proofs.SetLaws.{set_ext, bit_or_lem, mem_bit}
use Rattle.order.specs.Effects.{set_names}
use Rattle.names.specs.Ancestors.{lowest, one_of, nonzero}
use Rattle.names.proofs.Bits.{bit_out}

-- the members of s, of which i is the number of the lowest bit
unfoldable from : ℕ → ℕ → List ℕ
from i s = members_from s i s

same_fuel : (f g i s : ℕ) → s ≤ f → s ≤ g → members_from f i s ≡ members_from g i s
unfolding members_from
same_fuel zero zero i s h k = refl
same_fuel zero (suc g) i zero h k = refl
same_fuel zero (suc g) i (suc s) h k = absurd (omega arith)
same_fuel (suc f) zero i zero h k = refl
same_fuel (suc f) zero i (suc s) h k = absurd (omega arith)
same_fuel (suc f) (suc g) i zero h k = refl
same_fuel (suc f) (suc g) i (suc s) h k = ap (cons_if (eqb (suc s % 2) 1) i) (same_fuel f g (suc i) (suc s / 2) (omega arith) (omega arith))

from_half : (i s : ℕ) → 0 < s → from i s ≡ cons_if (eqb (s % 2) 1) i (from (suc i) (s / 2))
unfolding from members_from
from_half i zero h = absurd (omega arith)
from_half i (suc s) h = ap (cons_if (eqb (suc s % 2) 1) i) (same_fuel s (suc s / 2) (suc i) (suc s / 2) (omega arith) (omega arith))

from_odd : (i s : ℕ) → s % 2 ≡ 1 → from i s ≡ i ∷ from (suc i) (s / 2)
unfolding cons_if
from_odd i s e = from_half i s (omega arith) ∙ ap (λ (d : ℕ). cons_if (eqb d 1) i (from (suc i) (s / 2))) e

from_even : (i s : ℕ) → s % 2 ≡ 0 → from i s ≡ from (suc i) (s / 2)
unfolding from members_from cons_if
from_even i zero e = refl
from_even i (suc s) e = from_half i (suc s) (omega arith) ∙ ap (λ (d : ℕ). cons_if (eqb d 1) i (from (suc i) (suc s / 2))) e

-- a number and the one before it have all digits in common but those up to the lowest that is set
down_even : (s : ℕ) → 0 < s → bit_and s (s - 1) % 2 ≡ 0
down_even s h = at (s % 2) refl
  where
    at : (r : ℕ) → s % 2 ≡ r → bit_and s (s - 1) % 2 ≡ 0
    at zero e = omega (arith, and_step s (s - 1))
    at (suc zero) e = let p : (s - 1) % 2 ≡ 0 = omega arith in omega (arith, and_step s (s - 1))
    at (suc (suc r)) e = absurd (omega arith)

down_half : (s : ℕ) → 0 < s → s % 2 ≡ 0 → bit_and s (s - 1) / 2 ≡ bit_and (s / 2) (s / 2 - 1)
down_half s h e = let p : (s - 1) / 2 ≡ s / 2 - 1 = omega arith in omega (arith, and_step s (s - 1), ap (bit_and (s / 2)) p)

down_odd : (s : ℕ) → s % 2 ≡ 1 → bit_and s (s - 1) / 2 ≡ s / 2
down_odd s e = let p : (s - 1) / 2 ≡ s / 2 = omega arith in omega (arith, and_step s (s - 1), ap (bit_and (s / 2)) p, and_self (s / 2))

low_step : (k i s : ℕ) → 0 < s → s < 2 ^ k → from i s ≡ (i + count_trailing_zeros k s) ∷ from i (bit_and s (s - 1))
unfolding count_trailing_zeros
low_step zero i s h b = absurd (omega arith)
low_step (suc k) i s h b = at (s % 2) refl (λ q. low_step k (suc i) (s / 2) q (omega (arith, pow-suc 2 k)))
  where
    at : (r : ℕ) → s % 2 ≡ r → (0 < s / 2 → from (suc i) (s / 2) ≡ (suc i + count_trailing_zeros k (s / 2)) ∷ from (suc i) (bit_and (s / 2) (s / 2 - 1)))
        → from i s ≡ (i + under r (count_trailing_zeros k (s / 2))) ∷ from i (bit_and s (s - 1))
    at zero e ih =
        let p : suc i + count_trailing_zeros k (s / 2) ≡ i + suc (count_trailing_zeros k (s / 2)) = omega arith in
        from_even i s e
        ∙ ih (omega arith)
        ∙ ap₂ (λ (a : ℕ) (l : List ℕ). a ∷ l) p (sym (from_even i (bit_and s (s - 1)) (down_even s h) ∙ ap (from (suc i)) (down_half s h e)))
    at (suc zero) e ih =
        let p : i ≡ i + 0 = omega arith in
        from_odd i s e ∙ ap₂ (λ (a : ℕ) (l : List ℕ). a ∷ l) p (sym (from_even i (bit_and s (s - 1)) (down_even s h) ∙ ap (from (suc i)) (down_odd s e)))
    at (suc (suc r)) e ih = absurd (omega arith)

tz_lt : (k s : ℕ) → 0 < s → s < 2 ^ k → count_trailing_zeros k s < k
unfolding count_trailing_zeros
tz_lt zero s h b = absurd (omega arith)
tz_lt (suc k) s h b = at (s % 2) refl (λ q. tz_lt k (s / 2) q (omega (arith, pow-suc 2 k)))
  where
    at : (r : ℕ) → s % 2 ≡ r → (0 < s / 2 → count_trailing_zeros k (s / 2) < k) → under r (count_trailing_zeros k (s / 2)) < suc k
    at zero e ih = omega (arith, ih (omega arith))
    at (suc r) e ih = omega arith

-- the lowest member, and the rest
pub members_step : (s : ℕ) → 0 < s → s < 2 ^ 64 → members s ≡ lowest s ∷ members (bit_and s (s - 1))
unfolding members lowest from
members_step s h b = let p : 0 + count_trailing_zeros 64 s ≡ count_trailing_zeros 64 s = omega arith in low_step 64 0 s h b ∙ ap (λ (a : ℕ). a ∷ members (bit_and s (s - 1))) p

pub lowest_lt : (s : ℕ) → 0 < s → s < 2 ^ 64 → lowest s < 64
unfolding lowest
lowest_lt s h b = tz_lt 64 s h b

pub members_next : (s : ℕ) {n : ℕ} → s ≢ 0 → s < 2 ^ 64 → n ≡ lowest s → members s ≡ n ∷ members (bit_and s (s - 1))
members_next s h b e = members_step s (omega arith) b ∙ ap (λ (a : ℕ). a ∷ members (bit_and s (s - 1))) (sym e)

pub members_none : (s : ℕ) → s ≡ 0 → members s ≡ []
unfolding members members_from
members_none s e = ap members e

-- for walks by hand in the crates above
pub down_lt : (s : ℕ) → 0 < s → bit_and s (s - 1) < s
down_lt s h = omega (arith, and_le_r s (s - 1))

pub shorter : {l m : List ℕ} {n : ℕ} → l ≡ n ∷ m → length m < length l
shorter e = omega (arith, ap length e)

-- every number of a list is a name's
pub record Small (l : List ℕ) : Type 0 where
  pub below : (k : ℕ) → Memᴰ k l → k < 64

pub small_members : (s : ℕ) → s < 2 ^ 64 → Small (members s)
small_members s h = record { below = λ k m. at k (mem_bit s m) (ltb k 64) refl }
  where
    at : (k : ℕ) → bit s k ≡ true → (c : Bool) → ltb k 64 ≡ c → k < 64
    at k b true e = ltb-true k 64 e
    at k b false e = absurd (true≢false (sym b ∙ sym (bit_out s k h (ltb-false k 64 e))))

pub small_head : {l m : List ℕ} {n : ℕ} → l ≡ n ∷ m → Small l → n < 64
small_head {n = n} e h = (subst Small e h).below n (Memᴰ.head refl)

pub small_tail : {l m : List ℕ} {n : ℕ} → l ≡ n ∷ m → Small l → Small m
small_tail e h = record { below = λ k x. (subst Small e h).below k (Memᴰ.tail x) }

-- the names of an effect are the members of the set without 0
keep_from : (f i s : ℕ) → keep (λ n. not (eqb n 0)) (members_from f (suc i) s) ≡ members_from f (suc i) s
unfolding keep members_from cons_if
keep_from zero i s = refl
keep_from (suc f) i zero = refl
keep_from (suc f) i (suc s) = at (eqb (suc s % 2) 1) (keep_from f (suc i) (suc s / 2))
  where
    at : (b : Bool) {l : List ℕ} → keep (λ n. not (eqb n 0)) l ≡ l → keep (λ n. not (eqb n 0)) (cons_if b (suc i) l) ≡ cons_if b (suc i) l
    at true {l} e = ap (λ (b : Bool). cons_if (not b) (suc i) (keep (λ n. not (eqb n 0)) l)) (eqb-suc-zero i) ∙ ap (λ (m : List ℕ). suc i ∷ m) e
    at false e = e

pub names_members : (s : ℕ) → set_names s ≡ members (nonzero s)
unfolding set_names members nonzero from keep cons_if
names_members s = at (s % 2) refl ∙ sym (from_even 0 (s - s % 2) (omega arith) ∙ ap (from 1) h)
  where
    h : (s - s % 2) / 2 ≡ s / 2
    h = omega arith

    at : (r : ℕ) → s % 2 ≡ r → keep (λ n. not (eqb n 0)) (from 0 s) ≡ from 1 (s / 2)
    at zero e = ap (keep (λ n. not (eqb n 0))) (from_even 0 s e) ∙ keep_from (s / 2) 0 (s / 2)
    at (suc zero) e = ap (keep (λ n. not (eqb n 0))) (from_odd 0 s e) ∙ keep_from (s / 2) 0 (s / 2)
    at (suc (suc r)) e = absurd (omega arith)

-- One turn of a loop that tests each member: x is the answer sought, b the test of the member n, and m are those after it
module _ (p : ℕ → Bool) {x : Bool} {l : List ℕ} (e : x ≡ all_of p l) where
  pub all_on : {m : List ℕ} {n : ℕ} {b : Bool} → l ≡ n ∷ m → b ≡ p n → b ≡ true → x ≡ all_of p m
  unfolding all_of
  all_on {m} el eb t = e ∙ ap (all_of p) el ∙ ap (λ (c : Bool). cond c (all_of p m) false) (sym eb ∙ t)

  pub all_off : {m : List ℕ} {n : ℕ} {b : Bool} → l ≡ n ∷ m → b ≡ p n → b ≡ false → false ≡ x
  unfolding all_of
  all_off {m} el eb t = sym (e ∙ ap (all_of p) el ∙ ap (λ (c : Bool). cond c (all_of p m) false) (sym eb ∙ t))

  pub all_end : l ≡ [] → true ≡ x
  unfolding all_of
  all_end el = sym (e ∙ ap (all_of p) el)

or_assoc : (a b c : ℕ) → bit_or (bit_or a b) c ≡ bit_or a (bit_or b c)
or_assoc a b c = set_ext (bit_or (bit_or a b) c) (bit_or a (bit_or b c)) (λ i. simp bit_or_lem (at (bit a i) (bit b i) (bit c i)))
  where
    at : (x y z : Bool) → ((x || y) || z) ≡ (x || (y || z))
    at true y z = refl
    at false y z = refl

-- One turn of a loop that gathers the members that pass: x is the set sought, acc what is gathered
module _ (p : ℕ → Bool) (acc : ℕ) {x : ℕ} {l : List ℕ} (e : x ≡ bit_or acc (set_of (keep p l))) where
  pub keep_turn : {m : List ℕ} {n o : ℕ} {b : Bool} → n < 64 → l ≡ n ∷ m → b ≡ p n → o ≡ cond b (one_of n) 0 → x ≡ bit_or (bit_or acc o) (set_of (keep p m))
  unfolding keep cons_if set_of one_of
  keep_turn {m} {n} {o} {b} h el eb eo = e ∙ ap (λ (l : List ℕ). bit_or acc (set_of (keep p l))) el ∙ at (p n) refl
    where
      rest : ℕ
      rest = set_of (keep p m)

      le : one_of n ≡ 2 ^ n
      le = ap (λ (c : Bool). cond c (2 ^ n) 0) (lt-ltb n 64 h)

      at : (c : Bool) → p n ≡ c → bit_or acc (set_of (cons_if c n (keep p m))) ≡ bit_or (bit_or acc o) rest
      at true z = sym (or_assoc acc (2 ^ n) rest) ∙ ap (λ (w : ℕ). bit_or (bit_or acc w) rest) (sym (eo ∙ ap (λ (c : Bool). cond c (one_of n) 0) (eb ∙ z) ∙ le))
      at false z = ap (λ (w : ℕ). bit_or w rest) (sym (or_zero_r acc) ∙ ap (bit_or acc) (sym (eo ∙ ap (λ (c : Bool). cond c (one_of n) 0) (eb ∙ z))))

  pub keep_end : l ≡ [] → acc ≡ x
  unfolding keep set_of
  keep_end el = sym (e ∙ ap (λ (l : List ℕ). bit_or acc (set_of (keep p l))) el ∙ or_zero_r acc)
