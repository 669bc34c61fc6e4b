-- Turns one after another, as the machine's loop takes them, with the steps that are left to each thread; and what a call says of them.
use Rattle.std.specs.Prelude.{ℕ, zero, suc, ◌-◌, Bool, cond, List, [], ◌∷◌, get_or, set, ltb}
use Rattle.semantics.specs.Machine.{System}
use Rattle.semantics.specs.Threads.{Steps, all_done, Took, t_step, t_none, t_room, t_stuck, t_denied, turn}
use Rattle.semantics.specs.Calls.{Answer, taken, finished, spent, noroom, stuck, denied, Ran, ran, total}
use Rattle.acts.specs.Meaning.{StepAnswer, s_taken, s_finished, s_noroom, s_stuck, s_denied, s_starts}

-- where turns led: why they ended, the steps that are left to each thread, who failed (0 where none did), the machine
pub record Turned : Type 0 where
  pub answer : StepAnswer
  pub rest : List ℕ
  pub thread : ℕ
  pub machine : System

abbrev pub turned : StepAnswer → List ℕ → ℕ → System → Turned
turned a rest i s = record { answer = a; rest = rest; thread = i; machine = s }

-- thread i has a step left
unfoldable pub has_left : List ℕ → ℕ → Bool
has_left rest i = ltb 0 (get_or rest i 0)

-- one step less is left to thread i
unfoldable pub less : ℕ → List ℕ → List ℕ
less i rest = set rest i (get_or rest i 0 - 1)

unfoldable pub on_took : Took → List ℕ → System → (ℕ → System → Turned) → Turned
on_took (t_step j t) rest s f = f j t
on_took t_none rest s f = turned s_finished rest 0 s
on_took (t_room j) rest s f = turned s_noroom rest j s
on_took (t_stuck j) rest s f = turned s_stuck rest j s
on_took (t_denied j) rest s f = turned s_denied rest j s

module _ (K : Steps) where
  -- turns, as long as a thread has one to take. The first number only makes the definition end
  unfoldable pub turns_in : ℕ → List ℕ → System → Turned
  turns_in zero rest s = turned s_finished rest 0 s
  turns_in (suc f) rest s = on_took (turn K (has_left rest) s) rest s (λ j t. turns_in f (less j rest) t)

  unfoldable pub turns_of : List ℕ → System → Turned
  turns_of rest s = turns_in (total rest) rest s

-- the steps that each thread took, by those that are left of its allowance
unfoldable pub taken_of : List ℕ → List ℕ → List ℕ
taken_of [] rest = []
taken_of (a ∷ l) [] = a ∷ taken_of l []
taken_of (a ∷ l) (r ∷ rest) = (a - r) ∷ taken_of l rest

-- the answer of a run (true), or of a step, whose turns ended so; whether all threads are finished then. Of a step nobody may step any more once it is taken
unfoldable pub said_by : Bool → Bool → StepAnswer → Answer
said_by b d s_taken = cond d finished spent
said_by b d s_finished = cond b (cond d finished spent) taken
said_by b d s_noroom = noroom
said_by b d s_stuck = stuck
said_by b d s_denied = denied
said_by b d s_starts = cond d finished spent

-- the thread that is told with it: the one that failed; of a step that is taken, who stepped last; else 0
unfoldable pub thread_by : Bool → StepAnswer → ℕ → ℕ → ℕ
thread_by b s_taken i from = 0
thread_by b s_finished i from = cond b 0 (from - 1)
thread_by b s_noroom i from = i
thread_by b s_stuck i from = i
thread_by b s_denied i from = i
thread_by b s_starts i from = 0

-- what a run, or a step, says of turns that ended so, with these allowances
abbrev pub says : Bool → List ℕ → Turned → Ran
says b allow r = ran (said_by b (all_done r.machine.threads) r.answer) (taken_of allow r.rest) (thread_by b r.answer r.thread r.machine.from) r.machine
