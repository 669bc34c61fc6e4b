-- Fairness from the start of every job, and whatever calls the turns are cut into: the calls of a list take turns one after another, and of these turns each live thread that is not at its allowance has its own,
-- by their order alone.
use Rattle.std.specs.Prelude.{◌≡◌, ℕ, ◌≤◌, true, length, take}
use Rattle.std.proofs.Common.{subst, arith}
use mathlib.Core.List.{List, [], ◌∷◌, ◌++◌, Memᴰ}
use Rattle.syntax.specs.Commands.{Cmd}
use Rattle.syntax.specs.Job.{Src}
use Rattle.semantics.specs.Machine.{System, most_threads}
use Rattle.semantics.specs.Start.{start_of}
use Rattle.semantics.specs.Threads.{Steps, steps_of, live, t_step, turn}
use Rattle.semantics.specs.Calls.{Call, one_step, run_of, Ran, no_steps, Policy, allowed, call, last_of, Takes, no_turn, first}
use Rattle.semantics.specs.TurnLaws.{Lawful}
use Rattle.semantics.proofs.TurnLaws.{lawful, turn_few}
use Rattle.semantics.specs.RunLaws.{Says, one_taken, one_done, one_noroom, one_stuck, one_denied}
use Rattle.semantics.proofs.RunLaws.{call_says}
use Rattle.semantics.proofs.CountLaws.{run_counted}
use Rattle.semantics.specs.Rounds.{Placed, Gone, Turned, no_turns, one_turn, whose, Unheld}
use Rattle.semantics.proofs.Rounds.{start_placed, moved, moved_placed, turned_placed, turned_few, live_within}
use Rattle.semantics.proofs.Rounds as Rounds
use Rattle.semantics.specs.Fairness.{OfCall, OfCalls, of_cons, of_nil, of_none, of_run, of_step, traced}

module _ (K : Steps) where
  pub takes_turned : {may : Policy} {c d l : List ℕ} {s t : System} → Takes K may c s l d t → Turned K s (traced may c l) t
  unfolding traced
  takes_turned no_turn = no_turns
  takes_turned (first e h) = one_turn e (takes_turned h)

  pub turned_append : {l m : List Gone} {s t u : System} → Turned K s l t → Turned K t m u → Turned K s (l ++ m) u
  turned_append no_turns g = g
  turned_append (one_turn e h) g = one_turn e (turned_append h g)

  -- turns may be cut anywhere
  pub turned_split : (l m : List Gone) {s u : System} → Turned K s (l ++ m) u → (t : System) × Turned K s l t × Turned K t m u
  turned_split [] m {s = s} h = (s, no_turns, h)
  turned_split (g ∷ l) m (one_turn e h) = let z = turned_split l m h in (z.0, one_turn e z.1, z.2)

module _ (K : Steps) (law : Lawful K) where
  pub call_turned : (c : Call) (s : System) → length s.threads ≤ most_threads → (l : List Gone) × OfCall c l × Turned K s l (call K c s).machine
  call_turned (run_of allow) s few = let z = run_counted K law allow s few in (traced (allowed allow) no_steps z.trace, of_run z.trace, takes_turned K z.takes)
  call_turned one_step s few = at (call_says K law one_step s few)
    where
      at : {r : Ran} → Says K s one_step r → (l : List Gone) × OfCall one_step l × Turned K s l r.machine
      at (one_taken {i = i} e) = (_, of_step, one_turn e no_turns)
      at (one_done d) = ([], of_none, no_turns)
      at (one_noroom a e) = ([], of_none, no_turns)
      at (one_stuck a e) = ([], of_none, no_turns)
      at (one_denied a e) = ([], of_none, no_turns)

  -- and so does a list of calls, each going on where the last one ended
  pub calls_turned : (cs : List Call) (s : System) → length s.threads ≤ most_threads → (l : List Gone) × OfCalls cs l × Turned K s l (last_of K cs s)
  unfolding last_of
  calls_turned [] s few = ([], of_nil, no_turns)
  calls_turned (c ∷ cs) s few =
      let y = call_turned c s few in
      let z = calls_turned cs (call K c s).machine (turned_few K law y.2 few) in
      (y.0 ++ z.0, of_cons y.1 z.1, turned_append K y.2 z.2)

  -- the turn g, after those of a and before those of b: the machines before and after it
  pub record Between (s : System) (a : List Gone) (g : Gone) (b : List Gone) (t : System) : Type 0 where
    pub before : System
    pub after : System
    pub earlier : Turned K s a before
    pub this : turn K g.may before ≡ t_step g.at after
    pub later : Turned K after b t
    -- "Each live thread takes one step in turn": if it is not finished then, nor at its allowance at one of the next eight turns, it takes one of them
    pub again : live after g.at ≡ true → most_threads ≤ length b → Unheld g.at (take most_threads b) → Memᴰ g.at (whose (take most_threads b))
    -- and so does, of the next fourteen, every thread that is there and not finished, so also the one that is just started
    pub all : (k : ℕ) → live after k ≡ true → 14 ≤ length b → Unheld k (take 14 b) → Memᴰ k (whose (take 14 b))

  pub between : {s t : System} → length s.threads ≤ most_threads → Placed s → (a : List Gone) (g : Gone) (b : List Gone) → Turned K s (a ++ (g ∷ b)) t → Between s a g b t
  between {s} {t} few o a g b h = let z = turned_split K a (g ∷ b) h in from z.0 z.1 z.2
    where
      from : (v : System) → Turned K s a v → Turned K v (g ∷ b) t → Between s a g b t
      from v x (one_turn {t = u} e y) =
          let w = moved K law g.may v g.at u e in
          let p = turned_placed K law x o in
          let f = turned_few K law x few in
          record {
            before = v;
            after = u;
            earlier = x;
            this = e;
            later = y;
            again = λ l n q. Rounds.again K law g.may g.at f p e y l q n;
            all = λ k l n q. live_within K law y (turn_few K law g.may v f g.at u e) (moved_placed w p) (omega (arith, w.last)) k l q n;
          }

-- from the start of every job, with every list of calls: the turns that these take, whatever their number, each with its place among them
pub fair_calls : {T : Type 0} (code : ℕ → Cmd T) (S : Src) (cs : List Call) → let last = last_of (steps_of code) cs (start_of S) in
    (l : List Gone) × OfCalls cs l × Turned (steps_of code) (start_of S) l last
    × ((a : List Gone) (g : Gone) (b : List Gone) → l ≡ a ++ (g ∷ b) → Between (steps_of code) (lawful code) (start_of S) a g b last)
unfolding start_of
fair_calls code S cs =
    let few : length (start_of S).threads ≤ most_threads = omega arith in
    let z = calls_turned (steps_of code) (lawful code) cs (start_of S) few in
    (z.0, z.1, z.2, λ a g b e. between (steps_of code) (lawful code) few (start_placed S) a g b (subst (λ x. Turned (steps_of code) (start_of S) x (last_of (steps_of code) cs (start_of S))) e z.2))
