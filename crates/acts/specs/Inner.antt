-- What the contracts of the state's own functions say.
use Rattle.std.specs.Prelude.{◌≡◌, Option, Some, None, Bool, cond, ℕ, ◌≤◌, List, [], ◌∷◌, take}
use Rattle.semantics.specs.Machine.{k_num, Value as SValue, unkeyed, Machine as Clean}
use Rattle.semantics.specs.Step.{Out, o_step, o_done, o_room, o_stuck, o_denied, handing, entering, Plan, p_wrong, settle, act_sum, act_divide}
use Rattle.table.specs.declared.Expr.{Expr}
use Rattle.store.specs.declared.Keys.{Keys}
use Rattle.store.specs.declared.Own.{Own}
use Rattle.store.specs.declared.Kind.{Kind}
use Rattle.store.specs.declared.Value.{Value}
use Rattle.store.specs.Meaning.{own_in}
use Rattle.store.specs.Words.{word_in}
use Rattle.acts.specs.declared.Answer.{Answer}
use Rattle.acts.specs.declared.Answer.TheVariants.{Taken}
use Rattle.acts.specs.declared.Control.TheVariants.{Enter, Hand}
use Rattle.acts.specs.declared.Now.{Now}
use Rattle.acts.specs.declared.State.{State}
use Rattle.acts.specs.declared.Acted.{Acted}
use Rattle.acts.specs.Meaning.{StepAnswer, s_taken, s_finished, s_noroom, s_stuck, s_denied, answer_in}
use Rattle.acts.specs.View.{Tables, view}
use Rattle.syntax.specs.Operands.{evaluated}
use Rattle.syntax.specs.Words.{decode}

-- a machine, and the answer of the step that led to it
pub record Stepped : Type 0 where
  pub machine : Clean
  pub answer : StepAnswer

-- a step that is not taken leaves the machine as it was
abbrev pub settled : Clean → Out → Stepped
settled m (o_step n) = record { machine = n; answer = s_taken }
settled m o_done = record { machine = m; answer = s_finished }
settled m o_room = record { machine = m; answer = s_noroom }
settled m o_stuck = record { machine = m; answer = s_stuck }
settled m o_denied = record { machine = m; answer = s_denied }

abbrev pub acted : Acted → Tables → Stepped
acted r w = record { machine = view r.state w; answer = answer_in r.answer }

-- `back` is the state with its thread's newest frame popped, which acts; where it does not come to a step the state is `self`
abbrev pub tried : State → State → Tables → (Clean → Plan) → Stepped
tried self back w f = settled (view self w) (settle (f (view back w)))

-- a step that hands on a value, or enters an expression
abbrev pub give : SValue → Clean → Out
give v m = o_step (handing v m)

abbrev pub go : ℕ → ℕ → ℕ → Clean → Out
go e env on m = o_step (entering e env on m)

abbrev pub put_frames : Tables → List ℕ → Tables
put_frames w x = record { threads = w.threads; frames = x; cells = w.cells; keys = w.keys; pairs = w.pairs; functions = w.functions; bindings = w.bindings }

abbrev pub put_cells : Tables → List ℕ → Tables
put_cells w x = record { threads = w.threads; frames = w.frames; cells = x; keys = w.keys; pairs = w.pairs; functions = w.functions; bindings = w.bindings }

abbrev pub put_keys : Tables → List ℕ → Tables
put_keys w x = record { threads = w.threads; frames = w.frames; cells = w.cells; keys = x; pairs = w.pairs; functions = w.functions; bindings = w.bindings }

abbrev pub put_pairs : Tables → List ℕ → Tables
put_pairs w x = record { threads = w.threads; frames = w.frames; cells = w.cells; keys = w.keys; pairs = x; functions = w.functions; bindings = w.bindings }

abbrev pub put_functions : Tables → List ℕ → Tables
put_functions w x = record { threads = w.threads; frames = w.frames; cells = w.cells; keys = w.keys; pairs = w.pairs; functions = x; bindings = w.bindings }

abbrev pub put_bindings : Tables → List ℕ → Tables
put_bindings w x = record { threads = w.threads; frames = w.frames; cells = w.cells; keys = w.keys; pairs = w.pairs; functions = w.functions; bindings = x }

abbrev pub stop_of : State → Answer → Acted
stop_of t a = record { state = t; answer = a }

abbrev pub with_now : State → Now → State
with_now t n = record { now = n; frames = t.frames; cells = t.cells; keys = t.keys; pairs = t.pairs; functions = t.functions; bindings = t.bindings }

abbrev pub give_of : State → ℕ → Acted
give_of t w = record { state = with_now t (record { control = Hand w; env = t.now.env; on = t.now.on }); answer = Taken }

-- v is handed on, as a word that stands for it
pub record Gave (t : State) (v : SValue) (r : Acted) : Type 0 where
  pub word : ℕ
  pub means : word_in word ≡ v
  pub gives : r ≡ give_of t word

abbrev pub go_of : State → Expr → ℕ → Keys → Acted
go_of t e env on = record { state = with_now t (record { control = Enter e; env = env; on = on }); answer = Taken }

abbrev pub resume_of : State → ℕ → ℕ → Keys → State
resume_of t top env on =
    record {
      now = record { control = t.now.control; env = env; on = on };
      frames = top;
      cells = t.cells;
      keys = t.keys;
      pairs = t.pairs;
      functions = t.functions;
      bindings = t.bindings;
    }

abbrev pub unkeyed_of : Kind → ℕ → Value
unkeyed_of k n = record { key = record { 0 = 0 }; kind = k; payload = n }

-- a number without a key
abbrev pub unkeyed_number : ℕ → SValue
unkeyed_number n = unkeyed (k_num n)

-- 0x41 (true), or 0x3A
abbrev pub act_numbers : Bool → Bool → SValue → SValue → Clean → Plan
act_numbers d i x y m = cond d (act_divide x y m) (act_sum i x y m)

-- the keys of a limit; none where a value is no limit key
abbrev pub limits_in : Option Own → (List ℕ → Plan) → Plan
limits_in (Some o) f = f (own_in o)
limits_in None f = p_wrong

-- a step that is taken
pub record Went (r : Acted) (w : Tables) (o : Out) : Type 0 where
  pub answer : r.answer ≡ Taken
  pub gives : o ≡ o_step (view r.state w)

-- n operands are evaluated before the act of a command: those in the first n of its places
pub record Works (op x n : ℕ) : Type 0 where
  pub all : (a b c d e : ℕ) → evaluated (decode op x a b c d e) ≡ take n (a ∷ b ∷ c ∷ d ∷ [])
  pub few : n ≤ 4
