-- Digits that are written one after another, the highest first.
use Prim.Native.Nat.{ℕ, zero, suc, ◌+◌, ◌-◌, ◌/◌, ◌%◌, ◌<◌, ◌≤◌}
use mathlib.Core.Path.{◌≡◌, refl, ap, sym, ◌∙◌}
use mathlib.Core.List.{List, [], ◌∷◌, ◌++◌}
use native.Mathlib.Omega.{arith}
use borrow.Author.Tests.{lt-ltb, le-ltb}
use Rattle.output.specs.Lines.{decimal_in, hex_digit, hex}
use Rattle.format.specs.Text.{joined}
use Rattle.format.proofs.Fit.{joined_joined}

decimal_one : (f n : ℕ) → (f ≡ 0 → ⊥) → n < 10 → decimal_in f n ≡ (48 + n) ∷ []
unfolding decimal_in
decimal_one zero n z h = absurd (z refl)
decimal_one (suc f) n z h = simp (lt-ltb _ _ h)

decimal_more : (f n : ℕ) → (f ≡ 0 → ⊥) → 10 ≤ n → decimal_in f n ≡ decimal_in (f - 1) (n / 10) ++ ((48 + n % 10) ∷ [])
unfolding decimal_in
decimal_more zero n z h = absurd (z refl)
decimal_more (suc f) n z h = let e : suc f - 1 ≡ f = omega arith in simp (le-ltb _ _ h, e)

hex_more : (k n : ℕ) → (k ≡ 0 → ⊥) → hex k n ≡ hex (k - 1) (n / 16) ++ (hex_digit (n % 16) ∷ [])
unfolding hex
hex_more zero n z = absurd (z refl)
hex_more (suc k) n z = let e : suc k - 1 ≡ k = omega arith in simp e

pub no_digit : (f n : ℕ) → f ≡ 0 → decimal_in f n ≡ []
unfolding decimal_in
no_digit f n e = simp e

pub no_hex : (k n : ℕ) → k ≡ 0 → hex k n ≡ []
unfolding hex
no_hex k n e = simp e

-- a number below 10, written after a
pub first_digit : (r a : List ℕ) (f n : ℕ) → (f ≡ 0 → ⊥) → n < 10 → r ≡ joined a ((48 + n) ∷ []) → r ≡ joined a (decimal_in f n)
first_digit r a f n z h e = e ∙ ap (joined a) (sym (decimal_one f n z h))

-- x written after a, and d after that
then_digit : (r u a x y : List ℕ) (d : ℕ) → y ≡ x ++ (d ∷ []) → u ≡ joined a x → r ≡ joined u (d ∷ []) → r ≡ joined a y
then_digit r u a x y d ey eu er = simp (er, eu, ey) (joined_joined a x (d ∷ []))

pub next_digit : (r u a : List ℕ) (f n : ℕ) → (f ≡ 0 → ⊥) → 10 ≤ n → u ≡ joined a (decimal_in (f - 1) (n / 10)) → r ≡ joined u ((48 + n % 10) ∷ []) → r ≡ joined a (decimal_in f n)
next_digit r u a f n z h eu er = then_digit r u a _ _ _ (decimal_more f n z h) eu er

pub next_hex : (r u a : List ℕ) (k n d : ℕ) → (k ≡ 0 → ⊥) → u ≡ joined a (hex (k - 1) (n / 16)) → d ≡ hex_digit (n % 16) → r ≡ joined u (d ∷ []) → r ≡ joined a (hex k n)
next_hex r u a k n d z eu ed er = then_digit r u a _ _ _ (hex_more k n z) eu (er ∙ ap (λ (x : ℕ). joined u (x ∷ [])) ed)
