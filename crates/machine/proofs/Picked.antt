-- The thread whose turn it is, in words, by the marks of all that may have one.
use mathlib.Core.Path.{◌≡◌, refl, sym, ap, ◌∙◌}
use Prim.Native.Nat.{ℕ, ◌-◌, ◌≤◌, ◌<◌}
use native.Mathlib.Omega.{arith}
use mathlib.Core.Bool.{Bool, true, false≢true}
use mathlib.Core.Option.{Option, none, some, some-injective, none-ne-some}
use mathlib.Core.List.{List}
use lib.ListN.{length, get_or}
use Rattle.order.specs.Bools.{◌and◌}
use Rattle.order.proofs.Bools.{and_l, and_r, and2}
use Rattle.semantics.specs.Machine.{System, most_threads}
use Rattle.semantics.specs.Threads.{live_thread, live, first_from, Turn, in_round, next, Asked}
use Rattle.semantics.specs.TurnLaws.{FirstIs, first_at, nowhere, NextIs, in_round_lem, new_round, nobody}
use Rattle.semantics.proofs.TurnLaws.{first_is, next_is, next_holds}
use Rattle.acts.specs.View.{Tables}
use Rattle.machine.specs.declared.Scheduler.{Scheduler}
use Rattle.machine.specs.Turns.{has_left}
use Rattle.machine.specs.Ahead.{next_in, at_of, Held}
use Rattle.machine.specs.OneTurn.{next_fewer, nobody_fewer}
use Rattle.machine.specs.Scheduled.{own_at, system_in, marked}
use Rattle.machine.specs.Listed.{listed_length, listed_get}

-- no number above that of no thread is looked up
at_most : (lv : List ℕ) (f count : ℕ) → count ≤ most_threads → at_of (next_in lv f count count) ≤ most_threads
unfolding next_in in_round at_of
at_most lv f count h = at (first_is (marked lv) f (count - f)) (first_is (marked lv) 0 count)
  where
    at : {a b : Option ℕ} → FirstIs (marked lv) f (count - f) a → FirstIs (marked lv) 0 count b → at_of (in_round count a (in_round count b none)) ≤ most_threads
    at (first_at w) v = omega (arith, w.low, w.high, h)
    at (nowhere w) (first_at v) = omega (arith, v.high, h)
    at (nowhere w) (nowhere v) = omega arith

pub known_most : (lv known : List ℕ) {count : ℕ} → count ≤ most_threads → ((f : ℕ) → f ≤ most_threads → get_or known f 0 ≡ at_of (next_in lv f count count)) → (f : ℕ) → f ≤ most_threads
    → get_or known f 0 ≤ most_threads
known_most lv known {count} h k f l = let y = k f l in let z = at_most lv f count h in omega (arith, y, z)

module _ (c : Scheduler) (w : Tables) (h : Held c w) where
  abbrev S : System
  S = system_in c w

  abbrev asking : ℕ → Bool
  asking j = live S j and has_left c.rest j

  pub long : length S.threads ≡ c.count
  long = listed_length (own_at w.frames) c.count

  marks_next : next (marked c.live) S ≡ next_in c.live c.from c.round c.count
  unfolding next next_in
  marks_next = ap (λ (n : ℕ). in_round c.round (first_from (marked c.live) c.from (c.round - c.from)) (in_round n (first_from (marked c.live) 0 n) none)) long

  fewer : (j : ℕ) → asking j ≡ true → marked c.live j ≡ true
  unfolding live_thread
  fewer j e = h.marks j (and_l _ _ e) (and_r _ _ e)

  pub nobody_asked : next_in c.live c.from c.round c.count ≡ none → next asking S ≡ none
  nobody_asked e = nobody_fewer (marked c.live) asking fewer S (marks_next ∙ e)

  module _ (i r : ℕ) (e : next_in c.live c.from c.round c.count ≡ some (record { at = i; round = r })) where
    abbrev p : Turn
    p = record { at = i; round = r }

    pub marked_at : marked c.live i ≡ true
    marked_at = next_holds (next_is (marked c.live) S) p (marks_next ∙ e)

    pub among : i < c.count
    among = h.below i marked_at

    pub small : i < most_threads
    small = omega (arith, among, h.count)

    pub round_few : r ≤ most_threads
    round_few = at (next_is (marked c.live) S) (marks_next ∙ e)
      where
        at : {o : Option Turn} → NextIs (marked c.live) S o → o ≡ some p → r ≤ most_threads
        at (in_round_lem v) q = let y : c.round ≡ r = ap (λ (x : Turn). x.round) (some-injective _ p q) in omega (arith, h.round, y)
        at (new_round v u) q = let y : length S.threads ≡ r = ap (λ (x : Turn). x.round) (some-injective _ p q) in omega (arith, h.count, y, long)
        at (nobody v) q = absurd (none-ne-some p q)

    -- a thread that is live and has a step left has the turn
    pub asked : live S i ≡ true → has_left c.rest i ≡ true → Asked (has_left c.rest) S p (own_at w.frames i)
    unfolding live_thread
    asked busy left = record {
      next_turn = next_fewer (marked c.live) asking fewer S p (marks_next ∙ e) (and2 _ _ busy left);
      there = listed_get (own_at w.frames) c.count i among;
    }

  -- where some thread is marked and all are in the round, someone has the next turn after every place, in such a round again
  pub someone : (i : ℕ) → marked c.live i ≡ true → (f : ℕ) → next_in c.live f c.count c.count ≡ some (record { at = at_of (next_in c.live f c.count c.count); round = c.count })
  unfolding next_in in_round at_of
  someone i h' f = at (first_is (marked c.live) f (c.count - f)) (first_is (marked c.live) 0 c.count)
    where
      at : {a b : Option ℕ} → FirstIs (marked c.live) f (c.count - f) a → FirstIs (marked c.live) 0 c.count b
          → in_round c.count a (in_round c.count b none) ≡ some (record { at = at_of (in_round c.count a (in_round c.count b none)); round = c.count })
      at (first_at w) v = refl
      at (nowhere w) (first_at v) = refl
      at (nowhere w) (nowhere v) = absurd (false≢true (sym (v.all i (omega arith) (omega (arith, h.below i h'))) ∙ h'))
