-- Counts of steps, and why a run ends: each turn uses up some of what is left.
use Rattle.std.specs.Prelude.{◌≡◌, refl, ℕ, zero, suc, ◌≤◌, ◌<◌, List, [], ◌∷◌, ◌≢◌, length, get_or}
use Rattle.std.proofs.Common.{ap, arith, length-set, ltb-true}
use Rattle.semantics.specs.Calls.{bump, total, no_steps, allowed}
use Rattle.semantics.specs.Counts.{Budget, left_of}

-- at first no thread has taken a step
pub none_taken : (i : ℕ) → get_or no_steps i 0 ≤ 0
none_taken zero = omega arith
none_taken (suc zero) = omega arith
none_taken (suc (suc zero)) = omega arith
none_taken (suc (suc (suc zero))) = omega arith
none_taken (suc (suc (suc (suc zero)))) = omega arith
none_taken (suc (suc (suc (suc (suc zero))))) = omega arith
none_taken (suc (suc (suc (suc (suc (suc zero)))))) = omega arith
none_taken (suc (suc (suc (suc (suc (suc (suc zero))))))) = omega arith
none_taken (suc (suc (suc (suc (suc (suc (suc (suc i)))))))) = omega arith

pub bump_length : (i : ℕ) (c : List ℕ) → length (bump i c) ≡ length c
unfolding bump
bump_length i c = length-set c i _

pub bump_on : (i : ℕ) (c : List ℕ) → i < length c → get_or (bump i c) i 0 ≡ suc (get_or c i 0)
unfolding bump
bump_on i [] h = absurd (omega arith)
bump_on zero (n ∷ c) h = refl
bump_on (suc i) (n ∷ c) h = bump_on i c (omega arith)

pub bump_off : (i j : ℕ) (c : List ℕ) → i ≢ j → get_or (bump i c) j 0 ≡ get_or c j 0
unfolding bump
bump_off i j [] h = refl
bump_off zero zero (n ∷ c) h = absurd (h refl)
bump_off zero (suc j) (n ∷ c) h = refl
bump_off (suc i) zero (n ∷ c) h = refl
bump_off (suc i) (suc j) (n ∷ c) h = bump_off i j c (λ e. h (ap suc e))

pub total_bump : (i : ℕ) (c : List ℕ) → i < length c → total (bump i c) ≡ suc (total c)
unfolding bump total
total_bump i [] h = absurd (omega arith)
total_bump zero (n ∷ c) h = omega arith
total_bump (suc i) (n ∷ c) h = omega (arith, total_bump i c (omega arith))

left_falls : (l c : List ℕ) (i : ℕ) → i < length c → get_or c i 0 < get_or l i 0 → left_of l (bump i c) < left_of l c
unfolding left_of bump
left_falls [] c i h e = absurd (omega (arith, e))
left_falls (a ∷ l) [] i h e = absurd (omega arith)
left_falls (a ∷ l) (n ∷ c) zero h e = omega arith
left_falls (a ∷ l) (n ∷ c) (suc i) h e = omega (arith, left_falls l c i (omega arith) e)

left_most : (l c : List ℕ) → left_of l c ≤ total l
unfolding left_of total
left_most [] c = omega arith
left_most (a ∷ l) [] = omega (arith, left_most l [])
left_most (a ∷ l) (n ∷ c) = omega (arith, left_most l c)

-- an allowance for each thread
pub budget_allowed : (allow : List ℕ) → Budget (allowed allow)
unfolding allowed
budget_allowed l = record { left = λ c. left_of l c; falls = λ c i h e. left_falls l c i h (ltb-true (get_or c i 0) (get_or l i 0) e) }

pub allowed_most : (allow : List ℕ) → (budget_allowed allow).left no_steps ≤ total allow
unfolding budget_allowed
allowed_most l = left_most l no_steps
