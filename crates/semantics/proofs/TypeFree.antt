-- The machine never looks at types: with other type operands each step gives the same and needs the same, and so does all that is made of steps.
use Rattle.std.specs.Prelude.{◌≡◌, ℕ, suc, length}
use Rattle.std.proofs.Math.Path.{refl, ap, fun_ext}
use Rattle.std.proofs.Common.{ap₂}
use mathlib.Core.List.{List, [], ◌∷◌, ◌++◌}
use Rattle.std.proofs.Math.Option.{Option, none, some}
use Rattle.std.proofs.Math.ListN.{get_elem?}
use Rattle.syntax.specs.Commands.{Cmd, c_num, c_top, c_var, c_pair, c_part, c_fn, c_app, c_new, c_asg, c_read, c_sum, c_test, c_lim, c_grant, c_newkey, c_assoc, c_access, c_divide, c_spawn, map_cmd}
use Rattle.syntax.specs.Operands.{evaluated, uses_var}
use Rattle.semantics.specs.Machine.{Value, Frame, Control, enter, hand, Store, Machine}
use Rattle.semantics.specs.Step.{act, enter_at, enter_cmd, receive, hand_to, plan_on, plan, settle, step}
use Rattle.semantics.specs.Wants.{wants_of, acting, to_enter, to_receive, to_hand, needs_on, needs}
use Rattle.semantics.specs.Threads.{steps_of}

module _ {T U : Type 0} (f : T → U) where
  -- what the machine reads of a command is the same with another type operand
  record Untyped (k : Cmd T) : Type 0 where
    operands : evaluated (map_cmd f k) ≡ evaluated k
    variables : uses_var (map_cmd f k) ≡ uses_var k
    acts : (h : List Value) (m : Machine) → act (map_cmd f k) h m ≡ act k h m
    wanted : (i : ℕ) → wants_of (map_cmd f k) i ≡ wants_of k i

  untyped : (k : Cmd T) → Untyped k
  unfolding evaluated uses_var act wants_of map_cmd
  untyped (c_num n) = record { operands = refl; variables = refl; acts = λ h m. refl; wanted = λ i. refl }
  untyped c_top = record { operands = refl; variables = refl; acts = λ h m. refl; wanted = λ i. refl }
  untyped (c_var v) = record { operands = refl; variables = refl; acts = λ h m. refl; wanted = λ i. refl }
  untyped (c_pair a b) = record { operands = refl; variables = refl; acts = λ h m. refl; wanted = λ i. refl }
  untyped (c_part a i) = record { operands = refl; variables = refl; acts = λ h m. refl; wanted = λ i. refl }
  untyped (c_fn v t b) = record { operands = refl; variables = refl; acts = λ h m. refl; wanted = λ i. refl }
  untyped (c_app a b) = record { operands = refl; variables = refl; acts = λ h m. refl; wanted = λ i. refl }
  untyped (c_new t a) = record { operands = refl; variables = refl; acts = λ h m. refl; wanted = λ i. refl }
  untyped (c_asg a b) = record { operands = refl; variables = refl; acts = λ h m. refl; wanted = λ i. refl }
  untyped (c_read a) = record { operands = refl; variables = refl; acts = λ h m. refl; wanted = λ i. refl }
  untyped (c_sum i a b) = record { operands = refl; variables = refl; acts = λ h m. refl; wanted = λ i. refl }
  untyped (c_test a b c t) = record { operands = refl; variables = refl; acts = λ h m. refl; wanted = λ i. refl }
  untyped (c_lim ks b) = record { operands = refl; variables = refl; acts = λ h m. refl; wanted = λ i. refl }
  untyped (c_grant a b) = record { operands = refl; variables = refl; acts = λ h m. refl; wanted = λ i. refl }
  untyped (c_newkey v r a b t) = record { operands = refl; variables = refl; acts = λ h m. refl; wanted = λ i. refl }
  untyped (c_assoc a b) = record { operands = refl; variables = refl; acts = λ h m. refl; wanted = λ i. refl }
  untyped (c_access a b c t) = record { operands = refl; variables = refl; acts = λ h m. refl; wanted = λ i. refl }
  untyped (c_divide a b) = record { operands = refl; variables = refl; acts = λ h m. refl; wanted = λ i. refl }
  untyped (c_spawn b) = record { operands = refl; variables = refl; acts = λ h m. refl; wanted = λ i. refl }

-- two codes, of which the second is the first with other type operands
module _ {T U : Type 0} (f : T → U) (code : ℕ → Cmd T) (other : ℕ → Cmd U) (same : (e : ℕ) → other e ≡ map_cmd f (code e)) where
  pub step_same : (m : Machine) → step other m ≡ step code m
  unfolding step plan plan_on enter_cmd enter_at hand_to receive
  step_same m = ap settle (on m.thread.control)
    where
      in_at : (e : ℕ) (l : List ℕ) (k : Cmd T) → enter_at e l (map_cmd f k) m ≡ enter_at e l k m
      in_at e [] k = (untyped f k).acts [] m
      in_at e (a ∷ l) k = refl

      take : (o : Option ℕ) (g : Frame) (h : List Value) (fs : List Frame) → receive other o g h fs m ≡ receive code o g h fs m
      take (some a) g h fs = refl
      take none g h fs = rw (same g.at) ((untyped f (code g.at)).acts h _)

      give : (v : Value) (fs : List Frame) → hand_to other v fs m ≡ hand_to code v fs m
      give v [] = refl
      give v (g ∷ fs) = rw (same g.at, (untyped f (code g.at)).operands) (take (get_elem? (evaluated (code g.at)) (suc (length g.hand))) g (g.hand ++ (v ∷ [])) fs)

      on : (c : Control) → plan_on other c m ≡ plan_on code c m
      on (enter e) = rw (same e, (untyped f (code e)).operands) (in_at e (evaluated (code e)) (code e))
      on (hand v) = give v m.thread.frames

  acting_same : (k : Cmd T) (h : List Value) (env on : ℕ) (s : Store) → acting (map_cmd f k) h env on s ≡ acting k h env on s
  unfolding acting
  acting_same k h env on s = rw ((untyped f k).wanted (length h), (untyped f k).variables)

  needs_same : (m : Machine) → needs other m ≡ needs code m
  unfolding needs needs_on to_enter to_hand to_receive
  needs_same m = on m.thread.control
    where
      in_at : (l : List ℕ) (k : Cmd T) → to_enter l (map_cmd f k) m ≡ to_enter l k m
      in_at [] k = acting_same k [] _ _ _
      in_at (a ∷ l) k = refl

      take : (o : Option ℕ) (k : Cmd T) (g : Frame) (h : List Value) → to_receive o (map_cmd f k) g h m ≡ to_receive o k g h m
      take (some a) k g h = refl
      take none k g h = acting_same k h _ _ _

      give : (v : Value) (fs : List Frame) → to_hand other v fs m ≡ to_hand code v fs m
      give v [] = refl
      give v (g ∷ fs) = rw (same g.at, (untyped f (code g.at)).operands) (take (get_elem? (evaluated (code g.at)) (suc (length g.hand))) (code g.at) g (g.hand ++ (v ∷ [])))

      on : (c : Control) → needs_on other c m ≡ needs_on code c m
      on (enter e) = rw (same e, (untyped f (code e)).operands) (in_at (evaluated (code e)) (code e))
      on (hand v) = give v m.thread.frames

  -- so all that stands above one step is the same
  pub steps_same : steps_of other ≡ steps_of code
  steps_same = ap₂ (λ s n. record { step = s; needs = n }) (fun_ext step_same) (fun_ext needs_same)
