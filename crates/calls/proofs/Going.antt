-- The loop that makes the calls: what is left to be done from here is what was to be done from the start.
use mathlib.Core.Path.{◌≡◌, refl, sym, ap, ◌∙◌}
use Prim.Native.Nat.{ℕ, zero, suc, ◌+◌, ◌-◌, ◌*◌, ◌≤◌, ◌<◌}
use native.Mathlib.Omega.{arith}
use native.Mathlib.Numerals.{add-one}
use mathlib.Core.List.{List, [], ◌∷◌, ◌++◌}
use lib.ListN.{length, take, drop, get_or, set, drop_of_length-le}
use lib.Seq.{sets, drop-cons, length-sets}
use Rattle.semantics.specs.Machine.{System, most_threads}
use Rattle.semantics.specs.Threads.{Steps}
use Rattle.semantics.specs.Calls.{Answer, one_step, run_of, Ran, calls, call, last_of}
use Rattle.calls.specs.Words.{call_words, allowances_at, call_at, calls_from, call_count, calls_in, answer_no, answer_words, result_words}
use Rattle.calls.specs.Made.{Made, Noted, NotedAll}
use Rattle.calls.proofs.Laws.{sets_full, sets_over, call_run, call_step}

-- what n calls from place p on are to write
abbrev left : Steps → List ℕ → ℕ → ℕ → System → List ℕ
left K ws p n m = result_words (calls K (calls_from ws p n) m)

pub record Going (K : Steps) (ws before : List ℕ) (m : System) (answers : List ℕ) (last : System) (at place n : ℕ) : Type 0 where
  pub bound : at + call_words * n ≡ call_words * call_count ws
  pub same : length answers ≡ length before
  pub noted : sets answers place (left K ws at n last) ≡ sets before 0 (result_words (calls K (calls_in ws) m))
  pub onward : last_of K (calls_from ws at n) last ≡ last_of K (calls_in ws) m

pub going_start : (K : Steps) (ws before : List ℕ) (m : System) → Going K ws before m before m 0 0 (call_count ws)
unfolding calls_in
going_start K ws before m = record { bound = omega arith; same = refl; noted = refl; onward = refl }

-- the next call lies within the words
pub going_within : {K : Steps} {ws before : List ℕ} {m : System} {answers : List ℕ} {last : System} {at place n : ℕ} → Going K ws before m answers last at place n → 0 < n → at + call_words ≤ length ws
unfolding call_count
going_within {n = n} g h = omega (arith, g.bound, h)

pub going_on : {K : Steps} {ws before : List ℕ} {m : System} {answers : List ℕ} {last : System} {at place n : ℕ} (after : List ℕ) (o : Ran) (r : ℕ)
    → 0 < n → o ≡ call K (call_at ws at) last → NotedAll answers after place (answer_words o.answer o.thread o.counts) r → Going K ws before m answers last at place n
    → (p k : ℕ) → p ≡ at + call_words → k ≡ n - 1 → Going K ws before m after o.machine p r k
unfolding calls_from calls result_words last_of
going_on {n = zero} after o r h e v g p k f d = absurd (omega (arith, h))
going_on {K} {ws} {before} {m} {answers} {last} {at} {place} {n = suc n} after o r h e v g p k f d =
    let q : k ≡ n = omega (arith, d) in
    rw (f, q) (record {
      bound = omega (arith, g.bound);
      same = ap length (v.onward []) ∙ length-sets answers place (answer_words o.answer o.thread o.counts ++ []) ∙ g.same;
      noted =
          v.onward (left K ws (at + call_words) n o.machine)
          ∙ ap (λ (z : Ran). sets answers place (answer_words z.answer z.thread z.counts ++ left K ws (at + call_words) n z.machine)) e
          ∙ g.noted;
      onward = ap (λ (z : Ran). last_of K (calls_from ws (at + call_words) n) z.machine) e ∙ g.onward;
    })

pub going_end : {K : Steps} {ws before : List ℕ} {m : System} {answers : List ℕ} {last : System} {at place n : ℕ} → n ≤ 0 → Going K ws before m answers last at place n → Made K ws m before answers last
unfolding calls_from calls result_words last_of
going_end {n = zero} h g = record { answers = g.noted ∙ sets_over _ _; machine = g.onward }
going_end {n = suc n} h g = absurd (omega (arith, h))

-- one number noted
pub noted_in : (l : List ℕ) (at x : ℕ) → at < length l → Noted l (set l at x) at x (at + 1)
noted_in l at x h = record { onward = λ xs. rw add-one }

pub noted_past : (l : List ℕ) (at x : ℕ) → length l ≤ at → Noted l l at x at
noted_past l at x h = record { onward = λ xs. sets_full l at xs h ∙ sym (sets_full l at (x ∷ xs) h) }

-- the counts: what is left is noted after what was noted before
pub record Noting (before : List ℕ) (at : ℕ) (counts answers : List ℕ) (next i : ℕ) : Type 0 where
  pub bound : i ≤ most_threads
  pub same : length answers ≡ length before
  pub onward : (xs : List ℕ) → sets answers next (drop i counts ++ xs) ≡ sets before at (counts ++ xs)

pub noting_start : (before : List ℕ) (at : ℕ) (counts : List ℕ) → Noting before at counts before at 0
noting_start before at counts = record { bound = omega arith; same = refl; onward = λ xs. refl }

pub noting_on : {before : List ℕ} {at : ℕ} {counts answers : List ℕ} {next i : ℕ} (after : List ℕ) (r : ℕ) → length counts ≡ most_threads → i < most_threads → Noted answers after next (get_or counts i 0) r
    → Noting before at counts answers next i → Noting before at counts after r (i + 1)
noting_on {before} {at} {counts} {answers} {next} {i} after r l h n g =
    let d : drop i counts ≡ get_or counts i 0 ∷ drop (i + 1) counts = rw add-one (drop-cons counts i 0 (omega (arith, l))) in
    record {
      bound = omega arith;
      same = ap length (n.onward []) ∙ length-sets answers next (get_or counts i 0 ∷ []) ∙ g.same;
      onward = λ xs. n.onward (drop (i + 1) counts ++ xs) ∙ ap (λ (z : List ℕ). sets answers next (z ++ xs)) (sym d) ∙ g.onward xs;
    }

pub noting_end : {before : List ℕ} {at : ℕ} {counts answers : List ℕ} {next i : ℕ} → length counts ≡ most_threads → most_threads ≤ i → Noting before at counts answers next i → NotedAll before answers at counts next
noting_end {counts = counts} {answers = answers} {next = next} {i = i} l h g =
    let k : length counts ≤ i = omega (arith, l) in record { onward = λ xs. ap (λ (z : List ℕ). sets answers next (z ++ xs)) (sym (drop_of_length-le counts k)) ∙ g.onward xs }

-- an answer, its thread and the counts
pub noted_answer : (a b c d : List ℕ) (at x y p q r : ℕ) (v : Answer) (i : ℕ) (counts : List ℕ) → x ≡ answer_no v → y ≡ i → Noted a b at x p → Noted b c p y q → NotedAll c d q counts r
    → NotedAll a d at (answer_words v i counts) r
unfolding answer_words
noted_answer a b c d at x y p q r v i counts e f m n k = record {
  onward = λ xs.
      k.onward xs ∙ n.onward (counts ++ xs) ∙ m.onward (y ∷ (counts ++ xs)) ∙ ap (λ (z : ℕ). sets a at (z ∷ y ∷ (counts ++ xs))) e ∙ ap (λ (z : ℕ). sets a at (answer_no v ∷ z ∷ (counts ++ xs))) f;
}

-- the allowances at a place
one : (n : ℕ) (ws : List ℕ) (j k : ℕ) → j ≡ k → k < length ws → take (suc n) (drop j ws) ≡ get_or ws k 0 ∷ take n (drop (suc j) ws)
one n ws j k e h = rw (e, drop-cons ws k 0 h)

pub eight_are : (ws : List ℕ) (p : ℕ) → p + call_words ≤ length ws → take 8 (drop (p + 1) ws) ≡ allowances_at ws p
unfolding allowances_at
eight_are ws p h =
    rw (
      one 7 ws (p + 1) (p + 1) refl (omega arith),
      one 6 ws (suc (p + 1)) (p + 2) (omega arith) (omega arith),
      one 5 ws (suc (suc (p + 1))) (p + 3) (omega arith) (omega arith),
      one 4 ws (suc (suc (suc (p + 1)))) (p + 4) (omega arith) (omega arith),
      one 3 ws (suc (suc (suc (suc (p + 1))))) (p + 5) (omega arith) (omega arith),
      one 2 ws (suc (suc (suc (suc (suc (p + 1)))))) (p + 6) (omega arith) (omega arith),
      one 1 ws (suc (suc (suc (suc (suc (suc (p + 1))))))) (p + 7) (omega arith) (omega arith),
      one 0 ws (suc (suc (suc (suc (suc (suc (suc (p + 1)))))))) (p + 8) (omega arith) (omega arith),
    )

-- the call at a place
pub made_step : (K : Steps) (m : System) {r : Ran} (ws : List ℕ) (p : ℕ) {x : ℕ} → x ≡ get_or ws p 0 → x ≡ 0 → r ≡ call K one_step m → r ≡ call K (call_at ws p) m
made_step K m ws p q h e = e ∙ ap (λ c. call K c m) (sym (call_step ws p (sym q ∙ h)))

pub made_run : (K : Steps) (m : System) {r : Ran} (ws : List ℕ) (p : ℕ) {x : ℕ} {allow : List ℕ} → x ≡ get_or ws p 0 → (x ≡ 0 → ⊥) → allow ≡ allowances_at ws p → r ≡ call K (run_of allow) m → r ≡ call K (call_at ws p) m
made_run K m ws p q h a e = e ∙ ap (λ l. call K (run_of l) m) a ∙ ap (λ c. call K c m) (sym (call_run ws p (λ z. h (q ∙ z))))
