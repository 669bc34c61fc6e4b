-- What a run counts, whatever the steps are: "A thread's count equals its steps in the definition." Each thread's count is its turns in the run, and never above its allowance; the counts of all together are the
-- steps that the run took; and it says spent exactly where a thread is unfinished, and every unfinished one has used its allowance to the last step: none with steps left is forgotten.
use Rattle.std.specs.Prelude.{◌≡◌, Bool, List, ◌↔◌, ltb}
use Rattle.std.proofs.Math.Path.{refl, subst}
use Rattle.std.proofs.Common.{ap, ◌∙◌}
use Prim.Native.Nat.{ℕ, suc, ◌+◌, ◌≤◌, ◌<◌}
use native.Mathlib.Omega.{arith}
use Rattle.std.proofs.Math.Bool.{true, false, cond}
use Rattle.std.proofs.Math.ListN.{length, get_or}
use Rattle.std.proofs.Math.Dec.{eqb}
use borrow.Author.Tests.{eqb-true, eqb-false, ltb-true, ltb-false, le-ltb}
use Rattle.semantics.specs.Machine.{Thread, System, most_threads}
use Rattle.semantics.specs.Threads.{Steps, live, all_done, turn, t_step, Turn, Asked}
use Rattle.semantics.specs.Calls.{Policy, bump, total, no_steps, allowed, Within, Ran, ran, finished, spent, noroom, stuck, denied, Call, one_step, run_of, always, call, RunCount, finished_within, spent_after, noroom_within, stuck_within, denied_within, Takes, no_turn, first}
use Rattle.semantics.specs.TurnLaws.{Lawful, asked_by}
use Rattle.semantics.proofs.TurnLaws.{turn_free, turn_few, asked_free}
use Rattle.semantics.proofs.Counts.{none_taken, bump_length, bump_on, bump_off, total_bump}
use Rattle.semantics.specs.RunLaws.{RunSays, run_done, run_spent, run_noroom, run_stuck, run_denied, Says, one_taken, one_done, one_noroom, one_stuck, one_denied, run_says}
use Rattle.semantics.proofs.RunLaws.{call_says, said}
use Rattle.semantics.specs.CountLaws.{times}

module _ (K : Steps) (law : Lawful K) where
  stepped_lt : (may : ℕ → Bool) (s : System) (i : ℕ) (t : System) → length s.threads ≤ most_threads → turn K may s ≡ t_step i t → (may i ≡ true) × (i < most_threads)
  unfolding asked_by
  stepped_lt may s i t few e = let z = turn_free K law may s i (ap asked_by e) in (z.0, omega (arith, z.1))

  -- what is counted for a thread after turns is what was counted before them and the turns that are its own
  pub count_is : (may : Policy) {c d l : List ℕ} {s t : System} → Takes K may c s l d t → length s.threads ≤ most_threads → length c ≡ most_threads → (i : ℕ) → get_or d i 0 ≡ get_or c i 0 + times i l
  unfolding times
  count_is may no_turn few n i = omega arith
  count_is may (first {c = c} {d = d} {l = l} {i = j} {s = s} {t = t} e h) few n i =
      let ih = count_is may h (turn_few K law (may c) s few j t e) (bump_length j c ∙ n) i in
      let k = (stepped_lt (may c) s j t few e).1 in
      at (eqb j i) refl ih (omega (arith, k, n))
    where
      at : (b : Bool) → eqb j i ≡ b → get_or d i 0 ≡ get_or (bump j c) i 0 + times i l → j < length c → get_or d i 0 ≡ get_or c i 0 + cond b (suc (times i l)) (times i l)
      at true q ih k = let y : get_or (bump j c) i 0 ≡ suc (get_or c i 0) = subst (λ x. get_or (bump j c) x 0 ≡ suc (get_or c x 0)) (eqb-true j i q) (bump_on j c k) in omega (arith, ih, y)
      at false q ih k = omega (arith, ih, bump_off j i c (eqb-false j i q))

  -- of a run, which begins with no steps
  pub run_counts : (may : Policy) {d l : List ℕ} {s t : System} → Takes K may no_steps s l d t → length s.threads ≤ most_threads → (i : ℕ) → get_or d i 0 ≡ times i l
  run_counts may h few i = omega (arith, count_is may h few refl i, none_taken i)

  -- no turn above an allowance
  pub allowed_within : (allow : List ℕ) {c d l : List ℕ} {s t : System} → Takes K (allowed allow) c s l d t → length s.threads ≤ most_threads → length c ≡ most_threads → Within allow c → Within allow d
  unfolding allowed
  allowed_within allow no_turn few n f = f
  allowed_within allow (first {c = c} {i = j} {s = s} {t = t} e h) few n f =
      allowed_within allow h (turn_few K law (allowed allow c) s few j t e) (bump_length j c ∙ n) (record { each = λ k. at k (eqb j k) refl (stepped_lt (allowed allow c) s j t few e) })
    where
      at : (k : ℕ) (b : Bool) → eqb j k ≡ b → (ltb (get_or c j 0) (get_or allow j 0) ≡ true) × (j < most_threads) → get_or (bump j c) k 0 ≤ get_or allow k 0
      at k true q z =
          subst (λ x. get_or (bump j c) x 0 ≤ get_or allow x 0) (eqb-true j k q) (omega (arith, bump_on j c (omega (arith, z.1, n)), ltb-true (get_or c j 0) (get_or allow j 0) z.0))
      at k false q z = omega (arith, bump_off j k c (eqb-false j k q), f.each k)

  run_within : (allow : List ℕ) {d l : List ℕ} {s t : System} → Takes K (allowed allow) no_steps s l d t → length s.threads ≤ most_threads → Within allow d
  run_within allow h few = allowed_within allow h few refl (record { each = λ i. omega (arith, none_taken i) })

  run_takes : {may : Policy} {c : List ℕ} {s : System} {r : Ran} → RunSays K may c s r → (l : List ℕ) × Takes K may c s l r.counts r.machine
  run_takes (run_done {l = l} h e) = (l, h)
  run_takes (run_spent {l = l} h e f) = (l, h)
  run_takes (run_noroom {l = l} h a e) = (l, h)
  run_takes (run_stuck {l = l} h a e) = (l, h)
  run_takes (run_denied {l = l} h a e) = (l, h)

  of_run : {allow : List ℕ} {s : System} {r : Ran} → Says K s (run_of allow) r → RunSays K (allowed allow) no_steps s r
  of_run (run_says h) = h

  -- the count of all threads is the number of turns
  pub total_is : (may : Policy) {c d l : List ℕ} {s t : System} → Takes K may c s l d t → length s.threads ≤ most_threads → length c ≡ most_threads → total d ≡ total c + length l
  total_is may no_turn few n = omega arith
  total_is may (first {c = c} {i = j} {s = s} {t = t} e h) few n =
      let k = (stepped_lt (may c) s j t few e).1 in
      omega (arith, total_is may h (turn_few K law (may c) s few j t e) (bump_length j c ∙ n), total_bump j c (omega (arith, k, n)))

  -- a run, of any machine of at most eight threads: the turns that it took; each thread's count, which is of eight; all of them together; none above its allowance
  pub record Counted (allow : List ℕ) (s : System) (r : Ran) : Type 0 where
    pub trace : List ℕ
    pub takes : Takes K (allowed allow) no_steps s trace r.counts r.machine
    pub eight : length r.counts ≡ most_threads
    pub each : (i : ℕ) → get_or r.counts i 0 ≡ times i trace
    pub all : total r.counts ≡ length trace
    pub most : Within allow r.counts

  counts_length : (may : Policy) {c d l : List ℕ} {s t : System} → Takes K may c s l d t → length d ≡ length c
  counts_length may no_turn = refl
  counts_length may (first {c = c} {i = j} e h) = counts_length may h ∙ bump_length j c

  pub run_counted : (allow : List ℕ) (s : System) → length s.threads ≤ most_threads → Counted allow s (call K (run_of allow) s)
  unfolding total
  run_counted allow s few =
      let z = run_takes (of_run (call_says K law (run_of allow) s few)) in
      record {
        trace = z.0;
        takes = z.1;
        eight = counts_length (allowed allow) z.1;
        each = run_counts (allowed allow) z.1 few;
        all = omega (arith, total_is (allowed allow) z.1 few refl);
        most = run_within allow z.1 few;
      }

  takes_few : (may : Policy) {c d l : List ℕ} {s t : System} → Takes K may c s l d t → length s.threads ≤ most_threads → length t.threads ≤ most_threads
  takes_few may no_turn few = few
  takes_few may (first {c = c} {i = i} {s = s} {t = t} e h) few = takes_few may h (turn_few K law (may c) s few i t e)

  -- after every call there are at most eight threads, and a count for each of eight
  pub call_few : (c : Call) (s : System) → length s.threads ≤ most_threads → length (call K c s).machine.threads ≤ most_threads
  call_few (run_of allow) s few = takes_few (allowed allow) (run_counted allow s few).takes few
  call_few one_step s few = at (call_says K law one_step s few)
    where
      at : {r : Ran} → Says K s one_step r → length r.machine.threads ≤ most_threads
      at (one_taken {i = i} {t = t} e) = turn_few K law (always no_steps) s few i t e
      at (one_done d) = few
      at (one_noroom a e) = few
      at (one_stuck a e) = few
      at (one_denied a e) = few

  pub call_eight : (c : Call) (s : System) → length s.threads ≤ most_threads → length (call K c s).counts ≡ most_threads
  call_eight (run_of allow) s few = (run_counted allow s few).eight
  call_eight one_step s few = at (call_says K law one_step s few)
    where
      at : {r : Ran} → Says K s one_step r → length r.counts ≡ most_threads
      at (one_taken {i = i} e) = bump_length i no_steps
      at (one_done d) = refl
      at (one_noroom a e) = refl
      at (one_stuck a e) = refl
      at (one_denied a e) = refl

  -- who is asked has some of its allowance left
  has_left : (allow d : List ℕ) {t : System} {p : Turn} {x : Thread} → Asked (allowed allow d) t p x → get_or d p.at 0 < get_or allow p.at 0
  unfolding allowed
  has_left allow d {p = p} a = ltb-true (get_or d p.at 0) (get_or allow p.at 0) (asked_free a).may_step

  -- who may not step, within its allowance, has used it to the last step
  used_up : {allow d : List ℕ} → Within allow d → (i : ℕ) → allowed allow d i ≡ false → get_or d i 0 ≡ get_or allow i 0
  unfolding allowed
  used_up {allow} {d} w i e = omega (arith, ltb-false (get_or d i 0) (get_or allow i 0) e, w.each i)

  -- the steps of a run, by its answer; of every machine of at most eight threads, typed or not
  pub run_count : (allow : List ℕ) {s : System} {r : Ran} → length s.threads ≤ most_threads → RunSays K (allowed allow) no_steps s r → RunCount allow r
  run_count allow few (run_done h e) = finished_within (run_within allow h few)
  run_count allow few (run_spent h e f) = let w = run_within allow h few in spent_after w (λ i g. used_up w i (f i g))
  run_count allow few (run_noroom {d = d} h a e) = noroom_within (run_within allow h few) (has_left allow d a)
  run_count allow few (run_stuck {d = d} h a e) = stuck_within (run_within allow h few) (has_left allow d a)
  run_count allow few (run_denied {d = d} h a e) = denied_within (run_within allow h few) (has_left allow d a)

  -- so what a call of a run says has that count
  pub says_count : (allow : List ℕ) (s : System) → length s.threads ≤ most_threads → RunCount allow (call K (run_of allow) s)
  says_count allow s few = run_count allow few (of_run (call_says K law (run_of allow) s few))

  -- "The run says spent only when every unfinished thread has used its allowance to the last step", and always then
  pub record Spent (allow : List ℕ) (s : System) (d : List ℕ) (t : System) : Type 0 where
    pub trace : List ℕ
    pub takes : Takes K (allowed allow) no_steps s trace d t
    pub unfinished : all_done t.threads ≡ false
    pub used : (i : ℕ) → live t i ≡ true → get_or d i 0 ≡ get_or allow i 0

  pub spent_exactly : (allow : List ℕ) (s : System) (d : List ℕ) (t : System) → length s.threads ≤ most_threads → (call K (run_of allow) s ≡ ran spent d 0 t) ↔ Spent allow s d t
  unfolding allowed
  spent_exactly allow s d t few = (λ e. from (of_run (subst (λ r. Says K s (run_of allow) r) e (call_says K law (run_of allow) s few))) refl, λ z. said K law few (run_says (to z)))
    where
      to : Spent allow s d t → RunSays K (allowed allow) no_steps s (ran spent d 0 t)
      to z = run_spent z.takes z.unfinished (λ i h. le-ltb (get_or d i 0) (get_or allow i 0) (omega (arith, z.used i h)))

      from : {r : Ran} → RunSays K (allowed allow) no_steps s r → r ≡ ran spent d 0 t → Spent allow s d t
      from (run_spent {l = l} {d = c} {t = u} h e f) q =
          subst (λ (r : Ran). Spent allow s r.counts r.machine) q (record {
            trace = l;
            takes = h;
            unfinished = e;
            used = λ i g. used_up {allow = allow} {d = c} (run_within allow h few) i (f i g);
          })
      from (run_done h e) q = let a : finished ≡ spent = ap (λ (r : Ran). r.answer) q in absurd (let y : ◌≡◌ {A = ℕ} 0 1 = cc in omega arith)
      from (run_noroom h x e) q = let a : noroom ≡ spent = ap (λ (r : Ran). r.answer) q in absurd (let y : ◌≡◌ {A = ℕ} 0 1 = cc in omega arith)
      from (run_stuck h x e) q = let a : stuck ≡ spent = ap (λ (r : Ran). r.answer) q in absurd (let y : ◌≡◌ {A = ℕ} 0 1 = cc in omega arith)
      from (run_denied h x e) q = let a : denied ≡ spent = ap (λ (r : Ran). r.answer) q in absurd (let y : ◌≡◌ {A = ℕ} 0 1 = cc in omega arith)
