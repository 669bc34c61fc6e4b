-- Calls by turns one after another: what a step and a run give is what the turns come to.
use Rattle.std.specs.Prelude.{◌≡◌, Bool, List, [], ◌∷◌, length, get_or, set, eqb, ltb}
use Rattle.std.proofs.Math.Path.{refl, sym, ap, subst, fun_ext}
use Rattle.std.proofs.Common.{ap₂, ◌∙◌, arith, length-set, get_or-set_other}
use Prim.Native.Nat.{ℕ, zero, suc, ◌+◌, ◌-◌, ◌≤◌, ◌<◌}
use Rattle.std.proofs.Math.Bool.{true, false}
use Rattle.std.proofs.lemmas.Bool.{false≢true}
use Rattle.std.proofs.Math.Option.{none, some, none-ne-some, some-injective}
use Rattle.std.proofs.Math.Seq.{get_or-set_same}
use borrow.Author.Tests.{eqb-true, eqb-false, ltb-true, ltb-false, lt-ltb, le-ltb}
use Rattle.order.specs.Bools.{◌and◌}
use Rattle.order.proofs.Bools.{and_l, and2}
use Rattle.semantics.specs.Machine.{Thread, System, most_threads}
use Rattle.semantics.specs.Threads.{Steps, live_thread, live, all_done, Turn, next, Took, t_step, t_none, t_room, t_stuck, t_denied, take_turn, turn, Asked}
use Rattle.semantics.specs.Calls.{taken, finished, ran, bump, total, no_steps, always, allowed, closing, on_turn, run, one_step, run_of, call}
use Rattle.semantics.specs.TurnLaws.{Lawful, TurnIs, is_step_lem, is_none, is_room, is_stuck, is_denied, asked_by}
use Rattle.semantics.proofs.TurnLaws.{turn_is, turn_free, turn_few, next_is, next_holds, live_some}
use Rattle.semantics.proofs.Rounds.{moved}
use Rattle.semantics.proofs.Counts.{none_taken, bump_length, bump_on, bump_off}
use Rattle.machine.specs.Turns.{has_left, less, on_took, turns_in, turns_of, taken_of, said_by, thread_by, says}
use Rattle.machine.specs.OneTurn.{less_total, turns_on, next_fewer}

-- of each allowance some steps are taken, and the others left
pub record Split (allow c rest : List ℕ) : Type 0 where
  pub each : (i : ℕ) → get_or c i 0 + get_or rest i 0 ≡ get_or allow i 0

-- who has a step left is under its allowance
split_may : (allow c rest : List ℕ) → Split allow c rest → allowed allow c ≡ has_left rest
unfolding allowed has_left
split_may allow c rest v = fun_ext (λ i. at i (ltb 0 (get_or rest i 0)) refl)
  where
    at : (i : ℕ) (b : Bool) → ltb 0 (get_or rest i 0) ≡ b → ltb (get_or c i 0) (get_or allow i 0) ≡ b
    at i true e = lt-ltb (get_or c i 0) (get_or allow i 0) (omega (arith, v.each i, ltb-true 0 (get_or rest i 0) e))
    at i false e = le-ltb (get_or c i 0) (get_or allow i 0) (omega (arith, v.each i, ltb-false 0 (get_or rest i 0) e))

left_lt : (rest : List ℕ) (i : ℕ) → 0 < get_or rest i 0 → i < length rest
left_lt [] i h = absurd (omega (arith, h))
left_lt (n ∷ l) zero h = omega arith
left_lt (n ∷ l) (suc i) h = let z = left_lt l i h in omega (arith, z)

-- a step more is taken, and one less is left
split_step : (allow c rest : List ℕ) (i : ℕ) → i < length c → has_left rest i ≡ true → Split allow c rest → Split allow (bump i c) (less i rest)
unfolding has_left less
split_step allow c rest i h e v = record { each = λ j. at j (eqb j i) refl }
  where
    some : 0 < get_or rest i 0
    some = ltb-true 0 (get_or rest i 0) e

    at : (j : ℕ) (b : Bool) → eqb j i ≡ b → get_or (bump i c) j 0 + get_or (set rest i (get_or rest i 0 - 1)) j 0 ≡ get_or allow j 0
    at j true q =
        let z : i ≡ j = sym (eqb-true j i q) in
        ap (λ k. get_or (bump i c) k 0 + get_or (set rest i (get_or rest i 0 - 1)) k 0) (sym z)
        ∙ (let y : get_or (bump i c) i 0 + get_or (set rest i (get_or rest i 0 - 1)) i 0 ≡ get_or allow i 0 =
        omega (arith, bump_on i c h, get_or-set_same rest i (get_or rest i 0 - 1) 0 (left_lt rest i some), v.each i, some) in y)
        ∙ ap (λ k. get_or allow k 0) z
    at j false q = let n = eqb-false j i q in omega (arith, bump_off i j c (λ z. n (sym z)), get_or-set_other rest i j (get_or rest i 0 - 1) 0 n, v.each j)

-- the steps that are taken, by those that are left
pub split_taken : (allow c rest : List ℕ) → length c ≡ length allow → Split allow c rest → c ≡ taken_of allow rest
unfolding taken_of
split_taken [] [] rest n v = refl
split_taken [] (x ∷ c) rest n v = absurd (omega (arith, n))
split_taken (a ∷ l) [] rest n v = absurd (omega (arith, n))
split_taken (a ∷ l) (x ∷ c) [] n v =
    let z : x ≡ a = omega (arith, v.each 0) in ap₂ (λ (y : ℕ) (m : List ℕ). y ∷ m) z (split_taken l c [] (omega (arith, n)) (record { each = λ i. v.each (suc i) }))
split_taken (a ∷ l) (x ∷ c) (r ∷ rest) n v =
    let z : x ≡ a - r = omega (arith, v.each 0) in ap₂ (λ (y : ℕ) (m : List ℕ). y ∷ m) z (split_taken l c rest (omega (arith, n)) (record { each = λ i. v.each (suc i) }))

module _ (K : Steps) (law : Lawful K) (allow : List ℕ) (eight : length allow ≡ most_threads) where
  pub run_turns : (f : ℕ) (c rest : List ℕ) (s : System) → length s.threads ≤ most_threads → length c ≡ most_threads → Split allow c rest → run K (allowed allow) f c s ≡ says true allow (turns_in K f rest s)
  unfolding run on_turn turns_in on_took said_by thread_by closing asked_by
  run_turns zero c rest s few w v = ap (λ l. ran (closing s) l 0 s) (split_taken allow c rest (w ∙ sym eight) v)
  run_turns (suc f) c rest s few w v =
      ap (λ g. on_turn (turn K g s) c s (λ j t. run K (allowed allow) f (bump j c) t)) (split_may allow c rest v)
      ∙ at (turn K (has_left rest) s) refl
      (λ j t z. let y = turn_free K law (has_left rest) s j (ap asked_by z) in
      run_turns f (bump j c) (less j rest) t (turn_few K law (has_left rest) s few j t z) (bump_length j c ∙ w) (split_step allow c rest j (omega (arith, y.1, few, w)) y.0 v))
    where
      is : c ≡ taken_of allow rest
      is = split_taken allow c rest (w ∙ sym eight) v

      at : (o : Took) → turn K (has_left rest) s ≡ o → ((j : ℕ) (t : System) → turn K (has_left rest) s ≡ t_step j t → run K (allowed allow) f (bump j c) t ≡ says true allow (turns_in K f (less j rest) t))
          → on_turn o c s (λ j t. run K (allowed allow) f (bump j c) t) ≡ says true allow (on_took o rest s (λ j t. turns_in K f (less j rest) t))
      at (t_step j t) z ih = ih j t z
      at t_none z ih = rw is
      at (t_room j) z ih = rw is
      at (t_stuck j) z ih = rw is
      at (t_denied j) z ih = rw is

whole_split : (allow : List ℕ) → Split allow no_steps allow
whole_split allow = record { each = λ i. omega (arith, none_taken i) }

pub call_turns : (K : Steps) (law : Lawful K) (allow : List ℕ) (s : System) → length allow ≡ most_threads → length s.threads ≤ most_threads → call K (run_of allow) s ≡ says true allow (turns_of K allow s)
unfolding call turns_of
call_turns K law allow s eight few = run_turns K law allow eight (total allow) no_steps allow s few refl (whole_split allow)

-- A step is a run in which the thread whose turn it is may step once, and no other

-- one step for thread i
abbrev pub only : ℕ → List ℕ
only i = set no_steps i 1

only_total : (i : ℕ) → i < most_threads → total (only i) ≡ 1
unfolding total
only_total zero h = refl
only_total (suc zero) h = refl
only_total (suc (suc zero)) h = refl
only_total (suc (suc (suc zero))) h = refl
only_total (suc (suc (suc (suc zero)))) h = refl
only_total (suc (suc (suc (suc (suc zero))))) h = refl
only_total (suc (suc (suc (suc (suc (suc zero)))))) h = refl
only_total (suc (suc (suc (suc (suc (suc (suc zero))))))) h = refl
only_total (suc (suc (suc (suc (suc (suc (suc (suc i)))))))) h = absurd (omega arith)

module _ (K : Steps) (law : Lawful K) (s : System) where
  abbrev anybody : ℕ → Bool
  anybody i = live s i and always no_steps i

  -- nobody's turn: all threads are finished
  pub step_idle : next anybody s ≡ none → call K one_step s ≡ ran finished no_steps 0 s
  unfolding call on_turn closing always
  step_idle e = at (turn K (always no_steps) s) refl (turn_is K law (always no_steps) s)
    where
      done : ((i : ℕ) → live s i ≡ true → true ≡ false) → (b : Bool) → all_done s.threads ≡ b → b ≡ true
      done f true q = refl
      done f false q = let z = live_some s.threads q in absurd (false≢true (sym (f z.0 z.2)))

      other : {p : Turn} {x : Thread} {X : Type 0} → Asked (always no_steps) s p x → X
      other {p} a = absurd (none-ne-some p (sym e ∙ a.next_turn))

      at : (o : Took) → turn K (always no_steps) s ≡ o → TurnIs K (always no_steps) s o → on_turn o no_steps s (λ i t. ran taken (bump i no_steps) i t) ≡ ran finished no_steps 0 s
      at (t_step i t) q (is_step_lem a z) = other a
      at t_none q (is_none z f) = rw (done f (all_done s.threads) refl)
      at (t_room i) q (is_room a z) = other a
      at (t_stuck i) q (is_stuck a z) = other a
      at (t_denied i) q (is_denied a z) = other a

  module _ (p : Turn) (e : next anybody s ≡ some p) (h : p.at < most_threads) where
    abbrev rest : List ℕ
    rest = only p.at

    here : has_left rest p.at ≡ true
    unfolding has_left
    here = lt-ltb 0 (get_or rest p.at 0) (omega (arith, get_or-set_same no_steps p.at 1 0 (omega (arith, h))))

    -- the turn is the same one
    same_turn : turn K (has_left rest) s ≡ turn K (always no_steps) s
    unfolding turn always live_thread
    same_turn =
        ap (λ o. take_turn K o s)
        (next_fewer anybody (λ i. live s i and has_left rest i) (λ j q. and2 _ _ (and_l _ _ q) refl) s p e (and2 _ _ (and_l _ _ (next_holds (next_is anybody s) p e)) here) ∙ sym e)

    -- none is taken before it, one after it
    before : no_steps ≡ taken_of (only p.at) rest
    before = split_taken (only p.at) no_steps rest (sym (length-set no_steps p.at 1)) (whole_split (only p.at))

    after : bump p.at no_steps ≡ taken_of (only p.at) (less p.at rest)
    after = split_taken (only p.at) (bump p.at no_steps) (less p.at rest) (bump_length p.at no_steps ∙ sym (length-set no_steps p.at 1))
        (split_step (only p.at) no_steps rest p.at (omega arith) here (whole_split (only p.at)))

    none_after : total (less p.at rest) ≡ 0
    none_after = let z = less_total p.at rest here in let y = only_total p.at h in omega (arith, z, y)

    pub step_turns : call K one_step s ≡ says false (only p.at) (turns_of K rest s)
    unfolding call on_turn on_took turns_in said_by thread_by
    step_turns =
        at (turn K (always no_steps) s) refl (turn_is K law (always no_steps) s)
        ∙ ap (λ o. says false (only p.at) (on_took o rest s (λ j t. turns_in K (total (less p.at rest)) (less j rest) t))) (sym same_turn)
        ∙ ap (says false (only p.at)) (sym (turns_on K rest s p.at here))
      where
        at : (o : Took) → turn K (always no_steps) s ≡ o → TurnIs K (always no_steps) s o
            → on_turn o no_steps s (λ i t. ran taken (bump i no_steps) i t) ≡ says false (only p.at) (on_took o rest s (λ j t. turns_in K (total (less p.at rest)) (less j rest) t))
        at (t_step i t) q (is_step_lem {p = w} a z) =
            let j : p.at ≡ i = ap (λ (x : Turn). x.at) (some-injective p w (sym e ∙ a.next_turn)) in
            let f : i ≡ t.from - 1 = omega (arith, (moved K law (always no_steps) s i t q).last) in
            subst (λ k. ran taken (bump k no_steps) k t ≡ says false (only p.at) (turns_in K (total (less p.at rest)) (less k rest) t)) j (rw (none_after, sym after) (ap (λ k. ran taken (bump p.at no_steps) k t) (j ∙ f)))
        at t_none q (is_none z f) = absurd (none-ne-some p (sym z ∙ e))
        at (t_room i) q w = rw (sym before)
        at (t_stuck i) q w = rw (sym before)
        at (t_denied i) q w = rw (sym before)
