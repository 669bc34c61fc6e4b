-- A line that is written part by part is whole.
use Prim.Native.Nat.{ℕ, ◌<◌}
use mathlib.Core.Path.{◌≡◌, ap, ◌∙◌}
use mathlib.Core.List.{List, [], ◌∷◌, ◌++◌}
use native.Mathlib.Omega.{arith}
use lib.ListN.{length}
use Rattle.store.specs.declared.Kind.{Kind}
use Rattle.store.specs.declared.Kind.TheVariants.{Number}
use Rattle.output.specs.Lines.{decimal_in, decimal, space, w_number}
use Rattle.format.specs.Text.{joined, sort_word, sort_words}
use Rattle.format.proofs.Fit.{joined_joined, joined_all}

-- the first part
pub first : (t u x : List ℕ) → t ≡ [] → u ≡ joined t x → u ≡ joined [] x
first t u x et eu = simp (eu, et)

-- one part more
pub more : (t u a x : List ℕ) → t ≡ joined [] a → u ≡ joined t x → u ≡ joined [] (a ++ x)
more t u a x et eu = simp (eu, et) (joined_joined [] a x)

-- all parts
pub whole : (t a b : List ℕ) → t ≡ joined [] a → a ≡ b → length b < 64 → t ≡ b
whole t a b et e h = et ∙ ap (joined []) e ∙ joined_all [] b (omega arith)

-- the word of a number, a space, and its digits
pub number_joined :
    (r t u a : List ℕ) (k : Kind) (n : ℕ) → k ≡ Number →
    t ≡ joined a (sort_word k) → u ≡ joined t (32 ∷ []) → r ≡ joined u (decimal_in 20 n) → r ≡ joined a (sort_words k n)
unfolding sort_word sort_words space decimal
number_joined r t u a k n ek et eu er =
    simp (er, eu, et, ek) (joined_joined (joined a w_number) (32 ∷ []) (decimal_in 20 n) ∙ joined_joined a w_number (32 ∷ decimal_in 20 n))
