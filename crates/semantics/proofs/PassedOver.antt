-- "A thread at its allowance is passed over like a finished one, and the others go on": passing over leaves no trace. The machine after turns is decided by who took them, whoever was passed over between them and
-- whatever calls they are cut into; and a thread that took none stands as it stood.
use Rattle.std.proofs.Math.Path.{◌≡◌, refl}
use Rattle.std.proofs.Common.{sym, ap, ap₂, ◌∙◌, subst, arith}
use Rattle.std.specs.Prelude.{ℕ, suc, ◌≤◌, ◌<◌, Bool, true, false, cond, List, length, get_or, eqb}
use Rattle.std.proofs.lemmas.Bool.{false≢true, eqb-false}
use Rattle.std.proofs.Math.Option.{Option, some, some-injective, none-ne-some}
use Rattle.std.proofs.Math.ListN.{get_elem?}
use Rattle.semantics.specs.Machine.{Thread, Machine, System, most_threads}
use Rattle.semantics.specs.Step.{o_step}
use Rattle.semantics.specs.Threads.{Steps, alone, Turn, Took, t_step, later, turn}
use Rattle.semantics.specs.Calls.{Call, run_of, total, no_steps, Policy, allowed, call, last_of, Takes, no_turn, first}
use Rattle.semantics.specs.TurnLaws.{Lawful, NextIs, in_round_lem, new_round, nobody, TurnIs, is_step_lem, is_none, is_room, is_stuck, is_denied}
use Rattle.semantics.proofs.TurnLaws.{next_is, turn_is}
use Rattle.semantics.specs.CountLaws.{times}
use Rattle.semantics.proofs.CountLaws.{run_counted}
use Rattle.semantics.specs.Rounds.{Moved, Gone, Turned, no_turns, one_turn, whose}
use Rattle.semantics.proofs.Rounds.{moved}
use Rattle.semantics.proofs.Fairness.{calls_turned}

-- the round in which a thread steps, by its number
data RoundIs (s : System) (i : ℕ) : ℕ → Type 0 where
  its_round : s.from ≤ i → i < s.round → RoundIs s i s.round
  new_one : (s.from ≤ i → i < s.round → ⊥) → RoundIs s i (length s.threads)

round_is : {p : ℕ → Bool} {s : System} {o : Option Turn} → NextIs p s o → (a : Turn) → o ≡ some a → RoundIs s a.at a.round
round_is {p} {s} (in_round_lem {j = j} w) a e = subst (λ (x : Turn). RoundIs s x.at x.round) (some-injective _ a e) (its_round w.low (omega (arith, w.low, w.high)))
round_is {p} {s} (new_round {j = j} n w) a e =
    subst (λ (x : Turn). RoundIs s x.at x.round) (some-injective _ a e) (new_one (λ g h. false≢true (sym (n.all j g (omega (arith, g, h))) ∙ w.holds)))
round_is (nobody w) a e = absurd (none-ne-some a e)

round_one : {s : System} {i x y : ℕ} → RoundIs s i x → RoundIs s i y → x ≡ y
round_one (its_round a b) (its_round c d) = refl
round_one (its_round a b) (new_one f) = absurd (f a b)
round_one (new_one f) (its_round a b) = absurd (f a b)
round_one (new_one f) (new_one g) = refl

module _ (K : Steps) (law : Lawful K) where
  record Stepped (s : System) (i : ℕ) (t : System) : Type 0 where
    round : ℕ
    thread : Thread
    machine : Machine
    its : RoundIs s i round
    there : get_elem? s.threads i ≡ some thread
    steps : K.step (alone s thread) ≡ o_step machine
    is : t ≡ later (record { at = i; round = round }) machine

  stepped : (may : ℕ → Bool) (s : System) (i : ℕ) (t : System) → turn K may s ≡ t_step i t → Stepped s i t
  stepped may s i t z = at (turn_is K law may s) z
    where
      at : {o : Took} → TurnIs K may s o → o ≡ t_step i t → Stepped s i t
      at (is_step_lem {p = q} {t = x} {m = m} a e) z =
          let y : q.at ≡ i = cc in
          let v : later q m ≡ t = cc in
          subst (λ k. Stepped s k t) y (record {
            round = q.round;
            thread = x;
            machine = m;
            its = round_is (next_is _ s) q a.next_turn;
            there = a.there;
            steps = e;
            is = sym v;
          })
      at (is_none e f) z = absurd (let y : ◌≡◌ {A = ℕ} 0 1 = cc in omega arith)
      at (is_room a e) z = absurd (let y : ◌≡◌ {A = ℕ} 0 1 = cc in omega arith)
      at (is_stuck a e) z = absurd (let y : ◌≡◌ {A = ℕ} 0 1 = cc in omega arith)
      at (is_denied a e) z = absurd (let y : ◌≡◌ {A = ℕ} 0 1 = cc in omega arith)

  stepped_one : {s : System} {i : ℕ} {t u : System} → Stepped s i t → Stepped s i u → t ≡ u
  stepped_one {s} {i} a b =
      let x : a.thread ≡ b.thread = some-injective _ _ (sym a.there ∙ b.there) in
      let e : o_step a.machine ≡ o_step b.machine = sym a.steps ∙ ap (λ (z : Thread). K.step (alone s z)) x ∙ b.steps in
      let m : a.machine ≡ b.machine = cc in
      a.is ∙ ap₂ (λ (r : ℕ) (n : Machine). later (record { at = i; round = r }) n) (round_one a.its b.its) m ∙ sym b.is

  -- the machine after turns is decided by who took them: whoever else might step, and whatever calls they are cut into
  pub turns_decide : {l m : List Gone} {s t u : System} → Turned K s l t → Turned K s m u → whose l ≡ whose m → t ≡ u
  unfolding whose
  turns_decide no_turns no_turns e = refl
  turns_decide no_turns (one_turn z h) e = absurd (let y : ◌≡◌ {A = ℕ} 0 1 = cc in omega arith)
  turns_decide (one_turn z h) no_turns e = absurd (let y : ◌≡◌ {A = ℕ} 0 1 = cc in omega arith)
  turns_decide {u = r} (one_turn {g = g} {l = k} {s = s} {t = t} z h) (one_turn {g = f} {l = m} {t = u} y w) e =
      let i : f.at ≡ g.at = cc in
      let rest : whose k ≡ whose m = cc in
      let q = stepped_one (stepped g.may s g.at t z) (subst (λ n. Stepped s n u) i (stepped f.may s f.at u y)) in
      turns_decide h (subst (λ v. Turned K v m r) (sym q) w) rest

  -- so two lists of calls that lead to turns of the same threads lead to the same machine, whatever their allowances are
  pub calls_decide : (cs ds : List Call) (s : System) (few : length s.threads ≤ most_threads) → whose (calls_turned K law cs s few).0 ≡ whose (calls_turned K law ds s few).0 → last_of K cs s ≡ last_of K ds s
  calls_decide cs ds s few e = turns_decide (calls_turned K law cs s few).2 (calls_turned K law ds s few).2 e

  -- so a run that counts no step leaves the machine as it was, "the round and who stepped last" too
  pub no_step : (allow : List ℕ) (s : System) → length s.threads ≤ most_threads → total (call K (run_of allow) s).counts ≡ 0 → (call K (run_of allow) s).machine ≡ s
  no_step allow s few e = let z = run_counted K law allow s few in at z.takes (let y : length z.trace ≡ 0 = sym z.all ∙ e in y)
    where
      at : {l d : List ℕ} {t : System} → Takes K (allowed allow) no_steps s l d t → length l ≡ 0 → t ≡ s
      at no_turn q = refl
      at (first e h) q = absurd (omega (arith, q))

  -- a thread that took no turn stands as it stood: one with no allowance, or finished
  pub stood : {may : Policy} {c d l : List ℕ} {s t : System} → Takes K may c s l d t → (i : ℕ) → i < length s.threads → times i l ≡ 0 → get_elem? t.threads i ≡ get_elem? s.threads i
  unfolding times
  stood no_turn i h e = refl
  stood {may} {t = v} (first {c = c} {l = l} {i = j} {s = s} {t = t} q g) i h e = at (eqb j i) refl e (λ y. stood g i (omega (arith, w.grown, h)) y)
    where
      w : Moved (may c) s j t
      w = moved K law (may c) s j t q

      at : (b : Bool) → eqb j i ≡ b → cond b (suc (times i l)) (times i l) ≡ 0 → (times i l ≡ 0 → get_elem? v.threads i ≡ get_elem? t.threads i) → get_elem? v.threads i ≡ get_elem? s.threads i
      at true z y f = absurd (omega (arith, y))
      at false z y f = f y ∙ w.others i h (eqb-false j i z)

  pub none_allowed : (allow : List ℕ) (s : System) → length s.threads ≤ most_threads → (i : ℕ) → i < length s.threads → get_or allow i 0 ≡ 0
      → get_elem? (call K (run_of allow) s).machine.threads i ≡ get_elem? s.threads i
  none_allowed allow s few i h e = let z = run_counted K law allow s few in stood z.takes i h (omega (arith, z.each i, z.most.each i, e))
