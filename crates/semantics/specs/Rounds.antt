-- Laws of the scheduler, whatever the steps are: order by number in a round, new threads wait for the next round, and a live thread that is not at its allowance is asked again within eight turns.
use Rattle.std.specs.Prelude.{◌≡◌, ℕ, suc, ◌+◌, ◌-◌, ◌≤◌, ◌<◌, Bool, true, false, cond, ◌≢◌, length, leb, ltb}
use mathlib.Core.List.{List, [], ◌∷◌, Memᴰ}
use Rattle.std.proofs.Math.ListN.{get_elem?}
use Rattle.order.specs.Bools.{◌and◌}
use Rattle.semantics.specs.Machine.{System}
use Rattle.semantics.specs.Threads.{Steps, live, t_step, turn}

-- "the round and who stepped last" are among the threads that there are
pub record Placed (s : System) : Type 0 where
  pub turned : s.from ≤ s.round
  pub there : s.round ≤ length s.threads

-- a turn of thread i that is taken: in the round, next by number of those that may step; or in a new round of the threads that there are, when none of the old
-- round is left, the lowest
pub data Order (p : ℕ → Bool) (s : System) (i : ℕ) (u : System) : Type 0 where
  same_round : u.round ≡ s.round → s.from ≤ i → i < s.round → ((k : ℕ) → s.from ≤ k → k < i → p k ≡ false) → Order p s i u
  next_round : u.round ≡ length s.threads → ((k : ℕ) → s.from ≤ k → k < s.round → p k ≡ false) → i < length s.threads → ((k : ℕ) → k < i → p k ≡ false) → Order p s i u

pub record Moved (may : ℕ → Bool) (s : System) (i : ℕ) (u : System) : Type 0 where
  -- the thread that stepped was not finished, and might step
  pub free : (live s i and may i) ≡ true
  pub order : Order (λ k. live s k and may k) s i u
  pub last : u.from ≡ suc i
  -- no thread goes; the others stand as they stood
  pub grown : length s.threads ≤ length u.threads
  pub others : (k : ℕ) → k < length s.threads → i ≢ k → get_elem? u.threads k ≡ get_elem? s.threads k

-- at most so many turns of others come before thread i, if it may step
unfoldable pub wait : System → ℕ → ℕ
wait s i = cond (leb s.from i and ltb i s.round) (i - s.from) ((s.round - s.from) + i)

pub data WaitIs (s : System) (i : ℕ) : ℕ → Type 0 where
  this_round : s.from ≤ i → i < s.round → WaitIs s i (i - s.from)
  that_round : (s.from ≤ i → i < s.round → ⊥) → WaitIs s i ((s.round - s.from) + i)

-- a turn that was taken: who might step then, and who did
pub record Gone : Type 0 where
  pub may : ℕ → Bool
  pub at : ℕ

pub data Turned (K : Steps) : System → List Gone → System → Type 0 where
  no_turns : {s : System} → Turned K s [] s
  one_turn : {g : Gone} {l : List Gone} {s t u : System} → turn K g.may s ≡ t_step g.at t → Turned K t l u → Turned K s (g ∷ l) u

-- who took them
unfoldable pub whose : List Gone → List ℕ
whose [] = []
whose (g ∷ l) = g.at ∷ whose l

-- thread i might step at each of them: it was not at its allowance
abbrev pub Unheld : ℕ → List Gone → Type 0
Unheld i l = (g : Gone) → Memᴰ g l → g.may i ≡ true
