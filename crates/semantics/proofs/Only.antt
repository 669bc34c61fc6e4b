-- A call may give one result only, whatever the job: so each answer is given exactly when its conditions hold.
use Rattle.std.specs.Prelude.{◌≡◌, refl, ℕ, Bool, true, false, List, ◌∷◌}
use Rattle.std.proofs.Common.{sym, ap, ap₂, ◌∙◌, subst, arith}
use Rattle.std.proofs.Math.Path.{subst⁻¹}
use Rattle.std.proofs.Math.Bool.{false≢true}
use Rattle.std.proofs.Math.Option.{some-injective}
use Rattle.std.proofs.Math.ListN.{get_elem?}
use Rattle.order.specs.Bools.{◌and◌}
use Rattle.order.proofs.Bools.{and_l}
use Rattle.semantics.specs.Machine.{Thread, System}
use Rattle.semantics.specs.Wants.{lacks}
use Rattle.semantics.proofs.StepExactly.{taken_to}
use Rattle.semantics.specs.Threads.{Steps, alone, live_thread, live, all_done, Turn, Took, t_step, t_none, turn, Asked}
use Rattle.semantics.specs.Calls.{Call, taken, finished, spent, noroom, Ran, ran, bump, no_steps, Policy, Takes, no_turn, first, RunGives, run_finished, run_spent, run_noroom, Gives, step_taken, step_finished, step_noroom, run_gives, AllGive, all_nil, all_cons}
use Rattle.semantics.specs.TurnLaws.{Lawful, TurnIs, is_step_lem, is_none, is_room, is_stuck, is_denied}
use Rattle.semantics.proofs.TurnLaws.{next_is, next_holds, asked_free, turn_is, idle_none, done_none, done_live}

module _ {K : Steps} (law : Lawful K) where
  abbrev Stops : (ℕ → Bool) → System → Type 0
  Stops may s = (i : ℕ) (u : System) → turn K may s ≡ t_step i u → ⊥

  -- whose turn it is, is one
  asked_one : {may : ℕ → Bool} {s : System} {p q : Turn} {x y : Thread} → Asked may s p x → Asked may s q y → (p ≡ q) × (x ≡ y)
  asked_one {s = s} {p = p} {q = q} {x = x} {y = y} a b =
      let e = some-injective p q (sym a.next_turn ∙ b.next_turn) in
      (e, some-injective x y (sym a.there ∙ ap (λ (z : Turn). get_elem? s.threads z.at) e ∙ b.there))

  -- a turn that is taken has room
  lacks_stops : {may : ℕ → Bool} {s : System} {p : Turn} {x : Thread} → Asked may s p x → lacks K.needs (alone s x) ≡ true → Stops may s
  lacks_stops {may} {s} {p} {x} a l i u z = at (turn_is K law may s) z
    where
      at : {o : Took} → TurnIs K may s o → o ≡ t_step i u → ⊥
      at (is_step_lem {t = y} {m = m} b e) z =
          false≢true (sym (taken_to (law.exactly.at (alone s y)) e).3 ∙ ap (λ w. lacks K.needs (alone s w)) (sym (asked_one a b).1) ∙ l)
      at (is_none e f) z = let y : ◌≡◌ {A = ℕ} 0 1 = cc in omega arith
      at (is_room b e) z = let y : ◌≡◌ {A = ℕ} 0 1 = cc in omega arith
      at (is_stuck b e) z = let y : ◌≡◌ {A = ℕ} 0 1 = cc in omega arith
      at (is_denied b e) z = let y : ◌≡◌ {A = ℕ} 0 1 = cc in omega arith

  none_stops : (may : ℕ → Bool) (s : System) → turn K may s ≡ t_none → Stops may s
  none_stops may s e i u z = let w : ◌≡◌ {A = Took} t_none (t_step i u) = sym e ∙ z in let y : ◌≡◌ {A = ℕ} 0 1 = cc in omega arith

  -- where nobody is asked, nothing is done
  asked_busy : {may : ℕ → Bool} {s : System} {p : Turn} {x : Thread} → Asked may s p x → all_done s.threads ≡ true → ⊥
  unfolding live_thread
  asked_busy {may} {s} {p} a d = false≢true (sym (done_live s.threads d p.at) ∙ and_l _ _ (next_holds (next_is (λ i. live s i and may i) s) p a.next_turn))

  asked_may : {may : ℕ → Bool} {s : System} {p : Turn} {x : Thread} → Asked may s p x → ((i : ℕ) → live s i ≡ true → may i ≡ false) → ⊥
  unfolding live_thread
  asked_may {may} {s} {p} a f = false≢true (sym (f p.at (and_l _ _ (next_holds (next_is (λ i. live s i and may i) s) p a.next_turn))) ∙ (asked_free a).may_step)

  module _ {may : Policy} where
    -- turns that stop are the same turns
    takes_one : {c d e l k : List ℕ} {s t u : System} → Takes K may c s l d t → Stops (may d) t → Takes K may c s k e u → Stops (may e) u → (d ≡ e) × (t ≡ u)
    takes_one no_turn x no_turn y = (refl, refl)
    takes_one no_turn x (first {i = i} {t = t} z h) y = absurd (x i t z)
    takes_one (first {i = i} {t = t} z h) x no_turn y = absurd (y i t z)
    takes_one {e = e} {u = u} (first {c = c} {i = i} {t = t} z h) x (first {l = k} {i = j} {t = v} w g) y =
        let q : t_step j v ≡ t_step i t = sym w ∙ z in
        let a : j ≡ i = cc in
        let b : v ≡ t = cc in
        takes_one h x (subst (λ n. Takes K may (bump n c) t k e u) a (subst (λ m. Takes K may (bump j c) m k e u) b g)) y

    -- the end of a run
    run_one : {c : List ℕ} {s : System} {r q : Ran} → RunGives K may c s r → RunGives K may c s q → r ≡ q
    run_one (run_finished {d = d} {t = t} h e) (run_finished {d = f} {t = u} g i) =
        let z = takes_one h (none_stops (may d) t (done_none K law (may d) t e)) g (none_stops (may f) u (done_none K law (may f) u i)) in ap₂ (λ x y. ran finished x 0 y) z.0 z.1
    run_one (run_finished {d = d} {t = t} h e) (run_spent {d = f} {t = u} g i n) =
        let z = takes_one h (none_stops (may d) t (done_none K law (may d) t e)) g (none_stops (may f) u (idle_none K law (may f) u n)) in
        absurd (false≢true (sym i ∙ ap (λ (y : System). all_done y.threads) (sym z.1) ∙ e))
    run_one (run_finished {d = d} {t = t} h e) (run_noroom {d = f} {t = u} g a l) =
        let z = takes_one h (none_stops (may d) t (done_none K law (may d) t e)) g (lacks_stops a l) in absurd (asked_busy a (ap (λ (y : System). all_done y.threads) (sym z.1) ∙ e))
    run_one (run_spent {d = d} {t = t} h e n) (run_finished {d = f} {t = u} g i) =
        let z = takes_one h (none_stops (may d) t (idle_none K law (may d) t n)) g (none_stops (may f) u (done_none K law (may f) u i)) in
        absurd (false≢true (sym e ∙ ap (λ (y : System). all_done y.threads) z.1 ∙ i))
    run_one (run_spent {d = d} {t = t} h e n) (run_spent {d = f} {t = u} g i m) =
        let z = takes_one h (none_stops (may d) t (idle_none K law (may d) t n)) g (none_stops (may f) u (idle_none K law (may f) u m)) in ap₂ (λ x y. ran spent x 0 y) z.0 z.1
    run_one (run_spent {d = d} {t = t} h e n) (run_noroom {d = f} {t = u} g a l) =
        let z = takes_one h (none_stops (may d) t (idle_none K law (may d) t n)) g (lacks_stops a l) in absurd (asked_may a (spent_at z.0 z.1 n))
      where
        spent_at : {d f : List ℕ} {t u : System} → d ≡ f → t ≡ u → ((i : ℕ) → live t i ≡ true → may d i ≡ false) → (i : ℕ) → live u i ≡ true → may f i ≡ false
        spent_at {d} {f} {t} {u} p q n = subst (λ c. (i : ℕ) → live u i ≡ true → may c i ≡ false) p (subst (λ (y : System). (i : ℕ) → live y i ≡ true → may d i ≡ false) q n)
    run_one (run_noroom {d = d} {t = t} h a l) (run_finished {d = f} {t = u} g i) =
        let z = takes_one h (lacks_stops a l) g (none_stops (may f) u (done_none K law (may f) u i)) in absurd (asked_busy a (ap (λ (y : System). all_done y.threads) z.1 ∙ i))
    run_one (run_noroom {d = d} {t = t} h a l) (run_spent {d = f} {t = u} g i m) =
        let z = takes_one h (lacks_stops a l) g (none_stops (may f) u (idle_none K law (may f) u m)) in
        absurd (asked_may a (subst⁻¹ (λ c. (i : ℕ) → live t i ≡ true → may c i ≡ false) z.0 (subst⁻¹ (λ (y : System). (i : ℕ) → live y i ≡ true → may f i ≡ false) z.1 m)))
    run_one (run_noroom {d = d} {t = t} {p = p} h a l) (run_noroom {d = f} {t = u} {p = q} {x = y} g b m) =
        let z = takes_one h (lacks_stops a l) g (lacks_stops b m) in
        let w = asked_one a (subst⁻¹ (λ c. Asked (may c) t q y) z.0 (subst⁻¹ (λ v. Asked (may f) v q y) z.1 b)) in
        ap₂ (λ c v. ran noroom c p.at v) z.0 z.1 ∙ ap (λ (k : Turn). ran noroom f k.at u) w.0

  pub one : {s : System} {c : Call} {r q : Ran} → Gives K s c r → Gives K s c q → r ≡ q
  one (step_taken {p = p} {t = t} a l e) (step_taken {p = q} {t = u} b m f) =
      let z : t_step p.at t ≡ t_step q.at u = sym e ∙ f in let i : p.at ≡ q.at = cc in let v : t ≡ u = cc in ap₂ (λ n w. ran taken (bump n no_steps) n w) i v
  one (step_taken a l e) (step_finished d) = absurd (asked_busy a d)
  one (step_taken {p = p} {t = t} a l e) (step_noroom b m) = absurd (lacks_stops b m p.at t e)
  one (step_finished d) (step_taken a l e) = absurd (asked_busy a d)
  one (step_finished d) (step_finished e) = refl
  one (step_finished d) (step_noroom a l) = absurd (asked_busy a d)
  one (step_noroom b m) (step_taken {p = p} {t = t} a l e) = absurd (lacks_stops b m p.at t e)
  one (step_noroom a l) (step_finished d) = absurd (asked_busy a d)
  one {s} (step_noroom a l) (step_noroom b m) = ap (λ (k : Turn). ran noroom no_steps k.at s) (asked_one a b).0
  one (run_gives h c) (run_gives g d) = run_one h g

  pub all_one : {cs : List Call} {s : System} {l m : List Ran} → AllGive K cs s l → AllGive K cs s m → l ≡ m
  all_one all_nil all_nil = refl
  all_one (all_cons {r = r} {l = l} g h) (all_cons {cs = cs} {r = q} {l = m} i j) =
      let e = one g i in ap₂ (λ (x : Ran) (y : List Ran). x ∷ y) e (all_one h (subst⁻¹ (λ (x : Ran). AllGive K cs x.machine m) e j))
