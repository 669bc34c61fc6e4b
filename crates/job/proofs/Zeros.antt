-- Tables that are zero from the start.
use mathlib.Core.Path.{◌≡◌, sym, ap}
use Prim.Native.Nat.{ℕ}
use mathlib.Core.Bool.{true}
use mathlib.Core.List.{List}
use lib.ListN.{length, replicate, length-replicate}
use Rattle.job.specs.Answer.{long_enough, long_tables, Cleared}

zero_table : (n : ℕ) → ◌≡◌ {A = List ℕ} (replicate n 0) (replicate (length {A = ℕ} (replicate n 0)) 0)
zero_table n = ap (λ (k : ℕ). replicate {A = ℕ} k 0) (sym (length-replicate {A = ℕ} n 0))

pub zeros_ready : (n t s v h p : ℕ) → long_enough n t s v h p ≡ true
    → (long_tables (replicate n 0) (replicate t 0) (replicate s 0) (replicate v 0) (replicate h 0) (replicate p 0) ≡ true)
    × Cleared (replicate n 0) (replicate t 0) (replicate s 0) (replicate v 0) (replicate h 0) (replicate p 0)
zeros_ready n t s v h p e = (
  simp length-replicate e,
  record { names = zero_table n; types = zero_table t; sets = zero_table s; values = zero_table v; heads = zero_table h; slots = zero_table p },
)
