-- What the contracts of steps say.
use Rattle.std.specs.Prelude.{◌≡◌, ℕ, ◌+◌, List, Bool, cond, ltb}
use Rattle.std.proofs.Math.Option.{Option, none, some}
use Rattle.syntax.specs.Commands.{Cmd}
use Rattle.semantics.specs.Machine.{Machine as Clean}
use Rattle.semantics.specs.Step.{Plan, enter_cmd, step}
use Rattle.semantics.proofs.SpawnLaws.{is_spawn}
use Rattle.semantics.proofs.OthersUnseen.{spawning}
use Rattle.store.specs.declared.Used.{Used}
use Rattle.thread.specs.declared.Thread.{Thread}
use Rattle.acts.specs.declared.State.{State}
use Rattle.thread.specs.declared.Ended.{Ended}
use Rattle.acts.specs.declared.Acted.{Acted}
use Rattle.acts.specs.declared.Answer.TheVariants.{Taken}
use Rattle.acts.specs.Meaning.{s_starts}
use Rattle.acts.specs.View.{Tables, view}
use Rattle.acts.specs.Inner.{Stepped, settled, tried, Works}
use Rattle.thread.specs.View.{state_of}
use Rattle.thread.specs.Own.{own_in, Owned}

-- the thread of a state, and what its store uses
abbrev pub thread_of : State → Thread
thread_of s = record { now = s.now; frames = s.frames }

abbrev pub used_of : State → Used
used_of s = record { cells = s.cells; keys = s.keys; pairs = s.pairs; functions = s.functions; bindings = s.bindings }

-- the first value found
abbrev pub or_else : {A : Type 0} → Option A → Option A → Option A
or_else none b = b
or_else (some a) b = some a

-- a step that is to start a thread is left to who holds all threads
abbrev pub starting : Clean → Stepped
starting m = record { machine = m; answer = s_starts }

module _ {T : Type 0} where
  -- entering expression e, whose command is k
  abbrev pub entered_by : ℕ → Cmd T → State → Tables → Stepped
  entered_by e k s w = cond (is_spawn k) (starting (view s w)) (tried s s w (enter_cmd e k))

  -- the control is to enter a 0x42
  abbrev pub is_spawn_at : (ℕ → Cmd T) → Clean → Bool
  is_spawn_at code m = spawning code m.thread.control

  -- a step of one thread
  unfoldable pub step_of : (ℕ → Cmd T) → Clean → Stepped
  step_of code m = cond (is_spawn_at code m) (starting m) (settled m (step code m))

  abbrev pub stepped_by : (ℕ → Cmd T) → State → Tables → Stepped
  stepped_by code s w = step_of code (view s w)

-- is an operand left after so many in hand and one more?
pub record More (op x held : ℕ) (r : Bool) : Type 0 where
  pub need : ℕ
  pub works : Works op x need
  pub is : r ≡ ltb (held + 1) need

-- the state that a thread's own words and the counts of the store stand for
abbrev pub own_state : Used → List ℕ → State
own_state u t = state_of (own_in t) u

-- how a step ended, over the thread's words after it
abbrev pub ended_as : Ended → List ℕ → Acted
ended_as r t = record { state = own_state r.used t; answer = r.answer }

-- what is tried on the state of a thread's own words
abbrev pub tried_by : Used → List ℕ → Tables → (Clean → Plan) → Stepped
tried_by u t w f = tried (own_state u t) (own_state u t) w f

-- an act's state, put into the thread's words where the step was taken; else these stay
pub record Kept (s : Acted) (r : Ended) (a b : List ℕ) : Type 0 where
  pub answer : r.answer ≡ s.answer
  pub used : r.used ≡ used_of s.state
  pub taken : s.answer ≡ Taken → Owned a b (thread_of s.state)
  pub other : (s.answer ≡ Taken → ⊥) → b ≡ a
