-- Where no thread is at its allowance it makes no difference into which calls turns are cut: as many turns are of the same threads, and lead to the same machine.
use Rattle.std.specs.Prelude.{◌≡◌, ℕ, ◌+◌, ◌≤◌, ◌<◌, Bool}
use Rattle.std.proofs.Math.Path.{refl, sym, ap, fun_ext}
use Rattle.std.proofs.Common.{ap₂, ◌∙◌, subst, arith}
use Rattle.std.proofs.Math.Bool.{true, false}
use mathlib.Core.List.{List, [], ◌∷◌, ◌++◌}
use Rattle.std.proofs.Math.ListN.{length, get_or}
use borrow.Author.Tests.{lt-ltb}
use Rattle.order.specs.Bools.{◌and◌}
use Rattle.semantics.specs.Machine.{System, most_threads}
use Rattle.semantics.specs.Threads.{Steps, live_thread, live, next, t_step, take_turn, turn}
use Rattle.semantics.specs.Calls.{Call, one_step, run_of, Ran, no_steps, always, allowed, call, last_of, Takes, no_turn, first}
use Rattle.semantics.specs.TurnLaws.{Lawful}
use Rattle.semantics.proofs.TurnLaws.{turn_few, live_lt}
use Rattle.semantics.proofs.Counts.{bump_length}
use Rattle.semantics.specs.RunLaws.{Says, one_taken, one_done, one_noroom, one_stuck, one_denied}
use Rattle.semantics.proofs.RunLaws.{call_says}
use Rattle.semantics.proofs.CountLaws.{count_is, run_counted, call_few}
use Rattle.semantics.specs.Rounds.{Gone, whose}
use Rattle.semantics.specs.Fairness.{traced, OfCall, of_step, of_none, of_run, OfCalls, of_nil, of_cons}

module _ (K : Steps) where
  -- turns at each of which every thread that was not finished might step
  pub data AllUnheld : System → List Gone → System → Type 0 where
    none_held : {s : System} → AllUnheld s [] s
    not_held : {g : Gone} {l : List Gone} {s t u : System} → ((k : ℕ) → live s k ≡ true → g.may k ≡ true) → turn K g.may s ≡ t_step g.at t → AllUnheld t l u → AllUnheld s (g ∷ l) u

  -- then it makes no difference who else might step
  turn_unheld : (may : ℕ → Bool) (s : System) → ((k : ℕ) → live s k ≡ true → may k ≡ true) → turn K may s ≡ turn K (always no_steps) s
  unfolding turn always live_thread ◌and◌
  turn_unheld may s f = ap (λ p. take_turn K (next p s) s) (fun_ext (λ k. at (live s k) (may k) (f k)))
    where
      at : (a b : Bool) → (a ≡ true → b ≡ true) → (a and b) ≡ (a and true)
      at true b g = g refl
      at false b g = refl

  -- as many turns are the same turns, and lead to the same machine
  pub unheld_one : {l m : List Gone} {s t u : System} → AllUnheld s l t → AllUnheld s m u → length l ≡ length m → (whose l ≡ whose m) × (t ≡ u)
  unfolding whose
  unheld_one none_held none_held n = (refl, refl)
  unheld_one none_held (not_held f z h) n = absurd (omega (arith, n))
  unheld_one (not_held f z h) none_held n = absurd (omega (arith, n))
  unheld_one {u = u} (not_held {g = p} {s = s} {t = t} f z h) (not_held {g = q} {l = k} {t = v} g w y) n =
      let e : t_step q.at v ≡ t_step p.at t = sym w ∙ turn_unheld q.may s g ∙ sym (turn_unheld p.may s f) ∙ z in
      let a : q.at ≡ p.at = cc in
      let b : v ≡ t = cc in
      let x = unheld_one h (subst (λ m. AllUnheld m k u) b y) (omega (arith, n)) in
      (ap₂ (λ (o : ℕ) (r : List ℕ). o ∷ r) (sym a) x.0, x.1)

  unheld_append : {l m : List Gone} {s t u : System} → AllUnheld s l t → AllUnheld t m u → AllUnheld s (l ++ m) u
  unheld_append none_held g = g
  unheld_append (not_held f e h) g = not_held f e (unheld_append h g)

module _ (K : Steps) (law : Lawful K) where
  -- the turns of a run that leaves every thread number some of its allowance are such
  run_unheld : (allow : List ℕ) {c d l : List ℕ} {s t : System} → Takes K (allowed allow) c s l d t → length s.threads ≤ most_threads → length c ≡ most_threads
      → ((i : ℕ) → i < most_threads → get_or d i 0 < get_or allow i 0) → AllUnheld K s (traced (allowed allow) c l) t
  unfolding allowed traced
  run_unheld allow no_turn few n f = none_held
  run_unheld allow (first {c = c} {d = d} {i = j} {s = s} {t = t} e h) few n f =
      not_held (λ k a. lt-ltb (get_or c k 0) (get_or allow k 0) (below k _ (live_lt s.threads k a) (count_is K law (allowed allow) (first e h) few n k)))
      e (run_unheld allow h (turn_few K law (allowed allow c) s few j t e) (bump_length j c ∙ n) f)
    where
      below : (k m : ℕ) → k < length s.threads → get_or d k 0 ≡ get_or c k 0 + m → get_or c k 0 < get_or allow k 0
      below k m b q = omega (arith, q, f k (omega (arith, b, few)))

  -- and that of a step, at which anybody may
  step_unheld : (s : System) → length s.threads ≤ most_threads → (l : List Gone) × OfCall one_step l × AllUnheld K s l (call K one_step s).machine
  unfolding always
  step_unheld s few = at (call_says K law one_step s few)
    where
      at : {r : Ran} → Says K s one_step r → (l : List Gone) × OfCall one_step l × AllUnheld K s l r.machine
      at (one_taken {i = i} e) = (_, of_step {i = i}, not_held (λ k h. refl) e none_held)
      at (one_done d) = ([], of_none, none_held)
      at (one_noroom a e) = ([], of_none, none_held)
      at (one_stuck a e) = ([], of_none, none_held)
      at (one_denied a e) = ([], of_none, none_held)

  -- a list of calls of which each run leaves every thread number some of its allowance; steps have none
  pub data Ample : List Call → System → Type 0 where
    ample_nil : {s : System} → Ample [] s
    ample_step : {cs : List Call} {s : System} → Ample cs (call K one_step s).machine → Ample (one_step ∷ cs) s
    ample_run : {allow : List ℕ} {cs : List Call} {s : System} → ((i : ℕ) → i < most_threads → get_or (call K (run_of allow) s).counts i 0 < get_or allow i 0) → Ample cs (call K (run_of allow) s).machine
        → Ample (run_of allow ∷ cs) s

  pub calls_unheld : {cs : List Call} {s : System} → Ample cs s → length s.threads ≤ most_threads → (l : List Gone) × OfCalls cs l × AllUnheld K s l (last_of K cs s)
  unfolding last_of
  calls_unheld ample_nil few = ([], of_nil, none_held)
  calls_unheld (ample_step {s = s} a) few =
      let y = step_unheld s few in
      let z = calls_unheld a (call_few K law one_step s few) in
      (y.0 ++ z.0, of_cons y.1 z.1, unheld_append K y.2 z.2)
  calls_unheld (ample_run {allow = allow} {s = s} f a) few =
      let y = run_counted K law allow s few in
      let z = calls_unheld a (call_few K law (run_of allow) s few) in
      (traced (allowed allow) no_steps y.trace ++ z.0, of_cons (of_run y.trace) z.1, unheld_append K (run_unheld allow y.takes few refl f) z.2)

  -- two such lists that take as many turns take the same ones, and lead to the same machine
  pub cut_anyhow : {cs ds : List Call} {s : System} (few : length s.threads ≤ most_threads) (a : Ample cs s) (b : Ample ds s) → length (calls_unheld a few).0 ≡ length (calls_unheld b few).0
      → (whose (calls_unheld a few).0 ≡ whose (calls_unheld b few).0) × (last_of K cs s ≡ last_of K ds s)
  cut_anyhow few a b e = unheld_one K (calls_unheld a few).2 (calls_unheld b few).2 e
