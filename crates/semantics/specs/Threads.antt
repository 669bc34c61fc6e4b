-- Several threads over one store, and whose turn it is (document 02, F-6). One thread's step is that of `Step`: a turn takes a thread, steps it over the store, and puts it and the
-- store back.
use Rattle.std.specs.Prelude.{◌≡◌, ℕ, zero, suc, ◌-◌, Bool, true, false, cond, not, List, [], ◌∷◌, length, set}
use Rattle.std.proofs.Math.Option.{Option, none, some}
use Rattle.std.proofs.Math.ListN.{get_elem?}
use Rattle.order.specs.Bools.{◌and◌}
use Rattle.syntax.specs.Commands.{Cmd}
use Rattle.semantics.specs.Machine.{Value, Control, enter, hand, Thread, Machine, System}
use Rattle.semantics.specs.Step.{Out, o_step, o_done, o_room, o_stuck, o_denied, step}
use Rattle.semantics.specs.Room.{done_at}
use Rattle.semantics.specs.Wants.{Needs, needs}

-- what stands above one step knows of a job's expressions: the step, and what the next step needs, which is said apart from it
pub record Steps : Type 0 where
  pub step : Machine → Out
  pub needs : Machine → Needs

abbrev pub steps_of : {T : Type 0} → (ℕ → Cmd T) → Steps
steps_of code = record { step = step code; needs = needs code }

-- one thread of the system, as a step sees it
abbrev pub alone : System → Thread → Machine
alone s t = record { thread = t; store = s.store; threads = s.threads }

-- Done

-- thread i is there and not finished
unfoldable pub live_thread : Option Thread → Bool
live_thread none = false
live_thread (some t) = not (done_at t.control t.frames)

abbrev pub live : System → ℕ → Bool
live s i = live_thread (get_elem? s.threads i)

-- "A job is done when all are"
unfoldable pub all_done : List Thread → Bool
all_done [] = true
all_done (t ∷ l) = done_at t.control t.frames and all_done l

-- the value that a control hands on
unfoldable pub handed_on : Control → Option Value
handed_on (enter e) = none
handed_on (hand v) = some v

-- thread 0's value
unfoldable pub first_value : List Thread → Option Value
first_value [] = none
first_value (t ∷ l) = handed_on t.control

-- "A job is done when all are, with thread 0's value."
unfoldable pub value_of : System → Option Value
value_of s = cond (all_done s.threads) (first_value s.threads) none

-- Whose turn it is

-- the first of n numbers from i on that p holds of
unfoldable pub first_from : (ℕ → Bool) → ℕ → ℕ → Option ℕ
first_from p i zero = none
first_from p i (suc n) = cond (p i) (some i) (first_from p (suc i) n)

-- a thread, and how many threads are in the round in which it steps
pub record Turn : Type 0 where
  pub at : ℕ
  pub round : ℕ

unfoldable pub in_round : ℕ → Option ℕ → Option Turn → Option Turn
in_round r none o = o
in_round r (some i) o = some (record { at = i; round = r })

-- "Each live thread takes one step in turn, by number; a new one steps from the next round on": the next of the round that p holds of, else the lowest of all threads, in a new
-- round of the threads that there are
unfoldable pub next : (ℕ → Bool) → System → Option Turn
next p s = in_round s.round (first_from p s.from (s.round - s.from)) (in_round (length s.threads) (first_from p 0 (length s.threads)) none)

-- One turn

-- what a turn comes to: the thread that stepped and the system after it; no thread may step; or why the step of that thread is not taken
pub data Took : Type 0 where
  t_step : ℕ → System → Took
  t_none : Took
  t_room t_stuck t_denied : ℕ → Took

-- after a step of thread p .at: the threads that the step left, with that thread as it stands now, and its store; it is who stepped last
abbrev pub later : Turn → Machine → System
later p m = record { threads = set m.threads p.at m.thread; store = m.store; round = p.round; from = suc p.at }

-- a step that is not taken leaves all as it was, "the round and who stepped last" too
unfoldable pub took : Out → Turn → Took
took (o_step m) p = t_step p.at (later p m)
took o_done p = t_none
took o_room p = t_room p.at
took o_stuck p = t_stuck p.at
took o_denied p = t_denied p.at

module _ (K : Steps) where
  unfoldable pub step_thread : Option Thread → Turn → System → Took
  step_thread none p s = t_none
  step_thread (some t) p s = took (K.step (alone s t)) p

  unfoldable pub take_turn : Option Turn → System → Took
  take_turn none s = t_none
  take_turn (some p) s = step_thread (get_elem? s.threads p.at) p s

  -- the turn of the next live thread that may step; others are passed over
  unfoldable pub turn : (ℕ → Bool) → System → Took
  turn may s = take_turn (next (λ i. live s i and may i) s) s

-- whose turn it is: thread p .at, which stands as t
pub record Asked (may : ℕ → Bool) (s : System) (p : Turn) (t : Thread) : Type 0 where
  pub next_turn : next (λ i. live s i and may i) s ≡ some p
  pub there : get_elem? s.threads p.at ≡ some t
