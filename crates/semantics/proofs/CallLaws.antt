-- From a well-typed machine every list of calls gives only what it may, and what it may give is what it gives.
use Rattle.std.specs.Prelude.{◌≡◌, ℕ, Bool, true, false}
use Rattle.std.proofs.Math.Path.{refl, ap}
use Rattle.std.proofs.Common.{sym, ◌∙◌, subst, arith}
use mathlib.Core.List.{List, [], ◌∷◌}
use Rattle.syntax.specs.Job.{Src}
use Rattle.typing.specs.Rules.{code_of}
use Rattle.semantics.specs.Machine.{Thread, System}
use Rattle.semantics.specs.Wants.{NoRoom, needs, wrong, shut, lacks}
use Rattle.semantics.specs.Threads.{Steps, alone, Turn, Took, t_step, t_stuck, t_denied, Asked}
use Rattle.semantics.specs.Calls.{Call, one_step, taken, Ran, ran, bump, no_steps, Policy, always, call, calls, last_of, Takes, no_turn, first, RunGives, Gives, step_taken, step_finished, step_noroom, run_gives, AllGive, all_nil, all_cons}
use Rattle.semantics.specs.Calls
use Rattle.semantics.proofs.TurnLaws.{lawful}
use Rattle.semantics.specs.RunLaws.{RunSays, run_done, run_spent, run_noroom, run_stuck, run_denied, Says, one_taken, one_done, one_noroom, one_stuck, one_denied, run_says}
use Rattle.semantics.proofs.RunLaws.{stuck_turn, denied_turn, call_says, said}
use Rattle.semantics.proofs.CountLaws.{run_count}
use Rattle.semantics.specs.AllThreads.{SystemOk, TurnGood, tg_step, tg_none, tg_room}
use Rattle.semantics.proofs.AllThreads.{turn_good}
use Rattle.semantics.specs.CallLaws.{steps}

module _ (S : Src) where
  -- what a turn that is taken leaves, and whose it was
  record Went (may : ℕ → Bool) (s : System) (i : ℕ) (u : System) : Type 0 where
    after : SystemOk S u
    turn_of : Turn
    thread : Thread
    asked : Asked may s turn_of thread
    has_room : lacks (needs (code_of S)) (alone s thread) ≡ false
    number : turn_of.at ≡ i

  module _ {may : ℕ → Bool} {s : System} where
    good_step : {i : ℕ} {u : System} {o : Took} → TurnGood S may s o → o ≡ t_step i u → Went may s i u
    good_step {i} {u} (tg_step {p = p} {t = t} {u = v} a l k) z =
        let x : v ≡ u = cc in let y : p.at ≡ i = cc in record { after = subst (λ w. SystemOk S w) x k; turn_of = p; thread = t; asked = a; has_room = l; number = y }
    good_step (tg_none e) z = absurd (let y : ◌≡◌ {A = ℕ} 0 1 = cc in omega arith)
    good_step (tg_room a l) z = absurd (let y : ◌≡◌ {A = ℕ} 0 1 = cc in omega arith)

    never_stuck : {i : ℕ} {o : Took} → TurnGood S may s o → o ≡ t_stuck i → ⊥
    never_stuck (tg_step a l k) z = let y : ◌≡◌ {A = ℕ} 0 1 = cc in omega arith
    never_stuck (tg_none e) z = let y : ◌≡◌ {A = ℕ} 0 1 = cc in omega arith
    never_stuck (tg_room a l) z = let y : ◌≡◌ {A = ℕ} 0 1 = cc in omega arith

    never_denied : {i : ℕ} {o : Took} → TurnGood S may s o → o ≡ t_denied i → ⊥
    never_denied (tg_step a l k) z = let y : ◌≡◌ {A = ℕ} 0 1 = cc in omega arith
    never_denied (tg_none e) z = let y : ◌≡◌ {A = ℕ} 0 1 = cc in omega arith
    never_denied (tg_room a l) z = let y : ◌≡◌ {A = ℕ} 0 1 = cc in omega arith

  -- of a well-typed machine lack of room alone is what NoRoom asks
  lacks_room : {may : ℕ → Bool} {s : System} {p : Turn} {x : Thread} → SystemOk S s → Asked may s p x → lacks (needs (code_of S)) (alone s x) ≡ true → NoRoom (needs (code_of S)) (alone s x)
  lacks_room {may} {s} {p} {x} k a l = (off (wrong (needs (code_of S)) (alone s x)) refl, shut_off (wrong (needs (code_of S)) (alone s x)) refl (shut (needs (code_of S)) (alone s x)) refl, l)
    where
      K : Steps
      K = steps S

      off : (b : Bool) → wrong (needs (code_of S)) (alone s x) ≡ b → b ≡ false
      off true e = absurd (never_stuck (turn_good S may s k) (stuck_turn K (lawful (code_of S)) a e))
      off false e = refl

      shut_off : (w : Bool) → wrong (needs (code_of S)) (alone s x) ≡ w → (b : Bool) → shut (needs (code_of S)) (alone s x) ≡ b → b ≡ false
      shut_off true f b e = absurd (never_stuck (turn_good S may s k) (stuck_turn K (lawful (code_of S)) a f))
      shut_off false f true e = absurd (never_denied (turn_good S may s k) (denied_turn K (lawful (code_of S)) a (f, e)))
      shut_off false f false e = refl

  takes_ok : {may : Policy} {c d l : List ℕ} {s t : System} → Takes (steps S) may c s l d t → SystemOk S s → SystemOk S t
  takes_ok no_turn k = k
  takes_ok {may} (first {c = c} {s = s} e h) k = takes_ok h (good_step (turn_good S (may c) s k) e).after

  run_may : {may : Policy} {c : List ℕ} {s : System} {r : Ran} → RunSays (steps S) may c s r → SystemOk S s → RunGives (steps S) may c s r × SystemOk S r.machine
  run_may (run_done h e) k = (Calls.run_finished h e, takes_ok h k)
  run_may (run_spent h e f) k = (Calls.run_spent h e f, takes_ok h k)
  run_may (run_noroom h a e) k = (Calls.run_noroom h a e.2, takes_ok h k)
  run_may {may} (run_stuck {d = d} {t = t} h a e) k = absurd (never_stuck (turn_good S (may d) t (takes_ok h k)) (stuck_turn (steps S) (lawful (code_of S)) a e))
  run_may {may} (run_denied {d = d} {t = t} h a e) k = absurd (never_denied (turn_good S (may d) t (takes_ok h k)) (denied_turn (steps S) (lawful (code_of S)) a e))

  may_run : {may : Policy} {c : List ℕ} {s : System} {r : Ran} → RunGives (steps S) may c s r → SystemOk S s → RunSays (steps S) may c s r
  may_run (Calls.run_finished h e) k = run_done h e
  may_run (Calls.run_spent h e f) k = run_spent h e f
  may_run (Calls.run_noroom h a l) k = run_noroom h a (lacks_room (takes_ok h k) a l)

  -- what a call says, it may give
  says_gives : {s : System} {c : Call} {r : Ran} → Says (steps S) s c r → SystemOk S s → Gives (steps S) s c r × SystemOk S r.machine
  says_gives {s} (one_taken {i = i} {t = t} e) k =
      let z = good_step (turn_good S (always no_steps) s k) e in
      (subst (λ n. Gives (steps S) s one_step (ran taken (bump n no_steps) n t)) z.number (step_taken z.asked z.has_room (e ∙ ap (λ n. t_step n t) (sym z.number))), z.after)
  says_gives (one_done d) k = (step_finished d, k)
  says_gives (one_noroom a e) k = (step_noroom a e.2, k)
  says_gives {s} (one_stuck a e) k = absurd (never_stuck (turn_good S (always no_steps) s k) (stuck_turn (steps S) (lawful (code_of S)) a e))
  says_gives {s} (one_denied a e) k = absurd (never_denied (turn_good S (always no_steps) s k) (denied_turn (steps S) (lawful (code_of S)) a e))
  says_gives (run_says {allow = allow} h) k = let z = run_may h k in (run_gives z.0 (run_count (steps S) (lawful (code_of S)) allow k.most h), z.1)

  -- and the other way round
  gives_says : {s : System} {c : Call} {r : Ran} → Gives (steps S) s c r → SystemOk S s → Says (steps S) s c r
  gives_says (step_taken a l e) k = one_taken e
  gives_says (step_finished d) k = one_done d
  gives_says (step_noroom a l) k = one_noroom a (lacks_room k a l)
  gives_says (run_gives h c) k = run_says (may_run h k)

  pub call_gives : (c : Call) (s : System) → SystemOk S s → Gives (steps S) s c (call (steps S) c s) × SystemOk S (call (steps S) c s).machine
  call_gives c s k = says_gives (call_says (steps S) (lawful (code_of S)) c s k.most) k

  pub given : {s : System} {c : Call} {r : Ran} → SystemOk S s → Gives (steps S) s c r → call (steps S) c s ≡ r
  given k g = said (steps S) (lawful (code_of S)) k.most (gives_says g k)

  pub calls_give : (cs : List Call) (s : System) → SystemOk S s → AllGive (steps S) cs s (calls (steps S) cs s)
  unfolding calls
  calls_give [] s k = all_nil
  calls_give (c ∷ cs) s k = let z = call_gives c s k in all_cons z.0 (calls_give cs (call (steps S) c s).machine z.1)

  pub all_given : {cs : List Call} {s : System} {l : List Ran} → SystemOk S s → AllGive (steps S) cs s l → calls (steps S) cs s ≡ l
  unfolding calls
  all_given k all_nil = refl
  all_given k (all_cons {c = c} {cs = cs} {s = s} {r = r} g h) =
      let e = given k g in
      ap (λ (q : Ran). q ∷ calls (steps S) cs q.machine) e ∙ ap (λ m. r ∷ m) (all_given (subst (λ (q : Ran). SystemOk S q.machine) e (call_gives c s k).1) h)

  -- after every list of calls the machine is well typed
  pub last_ok : (cs : List Call) (s : System) → SystemOk S s → SystemOk S (last_of (steps S) cs s)
  unfolding last_of
  last_ok [] s k = k
  last_ok (c ∷ cs) s k = last_ok cs (call (steps S) c s).machine (call_gives c s k).1
