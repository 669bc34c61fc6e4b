-- The numbers from one on, and lists that have an entry for each of them.
use Rattle.std.specs.Prelude.{◌≡◌, refl, ℕ, zero, suc, ◌+◌, ◌≤◌, ◌<◌, Bool, true, false, length, get_or, eqb}
use Rattle.std.proofs.Common.{ap, ◌∙◌, arith, eqb-true}
use mathlib.Core.List.Memᴰ
use mathlib.Core.List.{◌∷◌, map, Memᴰ}
use Rattle.std.proofs.Math.Option.{some}
use Rattle.std.proofs.Math.ListN.{get_elem?}
use Rattle.std.proofs.lemmas.Bool.{eqb-false}
use Rattle.order.proofs.OrderLaws.{get_elem?_get_d}
use Rattle.order.specs.Ranges.{range}

pub range_mem : (i n b : ℕ) → Memᴰ b (range i n) → b < i + n
unfolding range
range_mem i zero b m = absurd (Memᴰ.not-nil m)
range_mem i (suc n) b (Memᴰ.head h) = omega arith
range_mem i (suc n) b (Memᴰ.tail m) = omega (arith, range_mem (suc i) n b m)

pub mem_range : (i n b : ℕ) → i ≤ b → b < i + n → Memᴰ b (range i n)
unfolding range
mem_range i zero b h k = absurd (omega arith)
mem_range i (suc n) b h k = at (eqb b i) refl (λ q. mem_range (suc i) n b q (omega arith))
  where
    at : (c : Bool) → eqb b i ≡ c → (suc i ≤ b → Memᴰ b (range (suc i) n)) → Memᴰ b (i ∷ range (suc i) n)
    at true e f = Memᴰ.head (eqb-true b i e)
    at false e f = let z = eqb-false b i e in Memᴰ.tail (f (omega arith))

-- a list with an entry for each of the first n numbers: the entry of a, and how many there are
from_range : (f : ℕ → ℕ) (i n a : ℕ) → a < n → get_elem? (map f (range i n)) a ≡ some (f (i + a))
unfolding range
from_range f i zero a h = absurd (omega arith)
from_range f i (suc n) zero h = let z : i ≡ i + 0 = omega arith in ap (λ (x : ℕ). some (f x)) z
from_range f i (suc n) (suc a) h = let z : suc i + a ≡ i + suc a = omega arith in from_range f (suc i) n a (omega arith) ∙ ap (λ (x : ℕ). some (f x)) z

pub at_range : (f : ℕ → ℕ) (n a : ℕ) → a < n → get_elem? (map f (range 0 n)) a ≡ some (f a)
at_range f n a h = let z : 0 + a ≡ a = omega arith in from_range f 0 n a h ∙ ap (λ (x : ℕ). some (f x)) z

pub get_d_range : (f : ℕ → ℕ) (n a d : ℕ) → a < n → get_or (map f (range 0 n)) a d ≡ f a
get_d_range f n a d h = get_elem?_get_d (map f (range 0 n)) a (f a) d (at_range f n a h)

pub length_range : (f : ℕ → ℕ) (i n : ℕ) → length (map f (range i n)) ≡ n
unfolding range
length_range f i zero = refl
length_range f i (suc n) = ap suc (length_range f (suc i) n)
