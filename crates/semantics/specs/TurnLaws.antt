-- Whose turn it is, and what a turn comes to, of every machine, and whatever the threads' steps are, as long as they are lawful: each answer exactly when its conditions hold, which are
-- defined apart from the step; and of threads a step takes none away and changes none, and starts one at most, where there is a place for it.
use Rattle.std.specs.Prelude.{◌≡◌, ℕ, ◌+◌, ◌-◌, ◌≤◌, ◌<◌, Bool, true, false, List, [], ◌∷◌, ◌++◌}
use Rattle.std.proofs.Math.Option.{Option, none, some}
use Rattle.std.proofs.Math.ListN.{length}
use Rattle.order.specs.Bools.{◌and◌}
use Rattle.semantics.specs.Machine.{Thread, Machine, System, most_threads}
use Rattle.semantics.specs.Step.{o_step, o_room, o_stuck, o_denied}
use Rattle.semantics.specs.Room.{done_at}
use Rattle.semantics.specs.Threads.{Steps, alone, live, Turn, next, Took, t_step, t_none, t_room, t_stuck, t_denied, later, Asked}
use Rattle.semantics.specs.StepExactly.{Exactly}

-- The first number that a test holds of

pub record First (p : ℕ → Bool) (i n j : ℕ) : Type 0 where
  pub low : i ≤ j
  pub high : j < i + n
  pub holds : p j ≡ true
  pub before : (k : ℕ) → i ≤ k → k < j → p k ≡ false

pub record Nowhere (p : ℕ → Bool) (i n : ℕ) : Type 0 where
  pub all : (k : ℕ) → i ≤ k → k < i + n → p k ≡ false

pub data FirstIs (p : ℕ → Bool) (i n : ℕ) : Option ℕ → Type 0 where
  first_at : {j : ℕ} → First p i n j → FirstIs p i n (some j)
  nowhere : Nowhere p i n → FirstIs p i n none

pub data NextIs (p : ℕ → Bool) (s : System) : Option Turn → Type 0 where
  in_round_lem : {j : ℕ} → First p s.from (s.round - s.from) j → NextIs p s (some (record { at = j; round = s.round }))
  new_round : {j : ℕ} → Nowhere p s.from (s.round - s.from) → First p 0 (length s.threads) j → NextIs p s (some (record { at = j; round = length s.threads }))
  nobody : Nowhere p 0 (length s.threads) → NextIs p s none

-- the threads after a step: as they were, or with one more in the next place
pub data Grown (l : List Thread) : List Thread → Type 0 where
  as_before : Grown l l
  one_more : (t : Thread) → length l < most_threads → Grown l (l ++ (t ∷ []))

pub record Lawful (K : Steps) : Type 0 where
  pub exactly : Exactly K
  pub grows : (m n : Machine) → K.step m ≡ o_step n → Grown m.threads n.threads

-- the thread whose turn it is is not finished, and may step
pub record Free (may : ℕ → Bool) (s : System) (i : ℕ) (t : Thread) : Type 0 where
  pub busy : done_at t.control t.frames ≡ false
  pub may_step : may i ≡ true
  pub among : i < length s.threads

-- the thread that a turn asked
unfoldable pub asked_by : Took → Option ℕ
asked_by (t_step i u) = some i
asked_by t_none = none
asked_by (t_room i) = some i
asked_by (t_stuck i) = some i
asked_by (t_denied i) = some i

pub data TurnIs (K : Steps) (may : ℕ → Bool) (s : System) : Took → Type 0 where
  is_step_lem : {p : Turn} {t : Thread} {m : Machine} → Asked may s p t → K.step (alone s t) ≡ o_step m → TurnIs K may s (t_step p.at (later p m))
  is_none : next (λ i. live s i and may i) s ≡ none → ((i : ℕ) → live s i ≡ true → may i ≡ false) → TurnIs K may s t_none
  is_room : {p : Turn} {t : Thread} → Asked may s p t → K.step (alone s t) ≡ o_room → TurnIs K may s (t_room p.at)
  is_stuck : {p : Turn} {t : Thread} → Asked may s p t → K.step (alone s t) ≡ o_stuck → TurnIs K may s (t_stuck p.at)
  is_denied : {p : Turn} {t : Thread} → Asked may s p t → K.step (alone s t) ≡ o_denied → TurnIs K may s (t_denied p.at)
