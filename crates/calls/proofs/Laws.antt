-- Laws of lists written over others, and of lists of calls.
use Rattle.std.specs.Prelude.{◌≡◌, refl, ℕ, zero, suc, ◌+◌, ◌*◌, ◌/◌, ◌%◌, ◌≤◌, Bool, true, false, not, List, [], ◌∷◌, ◌++◌, length, drop, get_or, set, leb, ltb}
use Rattle.std.proofs.Common.{sym, ap, ◌∙◌, arith, length-append, eq-eqb, ne_eqb, leb-true, ltb-true, ltb-false, le-leb}
use Rattle.std.proofs.lemmas.Bool.{false≢true, lt-leb}
use Rattle.std.proofs.lemmas.List.Edits.{sets}
use Rattle.std.proofs.Math.Seq.{set_out}
use Rattle.order.specs.Bools.{◌and◌}
use Rattle.order.proofs.Bools.{and_r}
use Rattle.semantics.specs.Machine.{System, most_threads}
use Rattle.semantics.specs.Threads.{Steps}
use Rattle.semantics.specs.Calls.{one_step, run_of, calls, call}
use Rattle.semantics.specs.TurnLaws.{Lawful}
use Rattle.semantics.proofs.CountLaws.{call_few, call_eight}
use Rattle.calls.specs.Words.{call_words, answer_words_lem, allowances_at, call_at, calls_from, call_count, calls_in, room_for, answer_words, result_words, over}

pub sets_cons : (x : ℕ) (l : List ℕ) (i : ℕ) (vs : List ℕ) → sets (x ∷ l) (suc i) vs ≡ x ∷ sets l i vs
sets_cons x l i [] = refl
sets_cons x l i (v ∷ vs) = sets_cons x (set l i v) (suc i) vs

pub sets_full : (l : List ℕ) (i : ℕ) (vs : List ℕ) → length l ≤ i → sets l i vs ≡ l
sets_full l i [] h = refl
sets_full l i (v ∷ vs) h = rw (set_out l i v h) (sets_full l (suc i) vs (omega arith))

pub sets_over : (l vs : List ℕ) → sets l 0 vs ≡ over l vs
unfolding over
sets_over [] vs = sets_full [] 0 vs (omega arith)
sets_over (o ∷ os) [] = refl
sets_over (o ∷ os) (n ∷ ns) = sets_cons n os 0 ns ∙ ap (λ z. n ∷ z) (sets_over os ns)

-- where all have a place, they are written and the rest stays
pub over_fits : (l vs : List ℕ) → length vs ≤ length l → over l vs ≡ vs ++ drop (length vs) l
unfolding over
over_fits [] [] h = refl
over_fits [] (n ∷ ns) h = absurd (omega arith)
over_fits (o ∷ os) [] h = refl
over_fits (o ∷ os) (n ∷ ns) h = ap (λ z. n ∷ z) (over_fits os ns (omega arith))

-- ten words a call
result_length : (K : Steps) → Lawful K → (ws : List ℕ) (m : System) → length m.threads ≤ most_threads → length (result_words (calls K (calls_in ws) m)) ≡ answer_words_lem * call_count ws
unfolding calls_in calls_from calls result_words answer_words
result_length K law ws m few = from 0 (call_count ws) m few
  where
    from : (p n : ℕ) (m : System) → length m.threads ≤ most_threads → length (result_words (calls K (calls_from ws p n) m)) ≡ answer_words_lem * n
    from p zero m few = refl
    from p (suc n) m few =
        let r = call K (call_at ws p) m in
        length-append (answer_words r.answer r.thread r.counts) (result_words (calls K (calls_from ws (p + call_words) n) r.machine))
        ∙ (let a = call_eight K law (call_at ws p) m few in let b = from (p + call_words) n r.machine (call_few K law (call_at ws p) m few) in omega (arith, a, b))

pub call_run : (ws : List ℕ) (p : ℕ) → (get_or ws p 0 ≡ 0 → ⊥) → call_at ws p ≡ run_of (allowances_at ws p)
unfolding call_at
call_run ws p h = rw (ne_eqb (get_or ws p 0) 0 h)

pub call_step : (ws : List ℕ) (p : ℕ) → get_or ws p 0 ≡ 0 → call_at ws p ≡ one_step
unfolding call_at
call_step ws p e = rw (eq-eqb (get_or ws p 0) 0 e)

-- room for the calls and their answers
pub room_no : (ws answers : List ℕ) → (length ws % call_words ≡ 0 → ⊥) → room_for ws answers ≡ false
unfolding room_for ◌and◌
room_no ws answers h = rw (ne_eqb (length ws % call_words) 0 h)

pub room_is : (ws answers : List ℕ) → length ws % call_words ≡ 0 → ltb (length answers / answer_words_lem) (length ws / call_words) ≡ not (room_for ws answers)
unfolding room_for call_count ◌and◌
room_is ws answers h = rw (eq-eqb (length ws % call_words) 0 h) (at (ltb (length answers / answer_words_lem) (length ws / call_words)) refl)
  where
    at : (b : Bool) → ltb (length answers / answer_words_lem) (length ws / call_words) ≡ b → b ≡ not (leb (answer_words_lem * (length ws / call_words)) (length answers))
    at true e = ap not (sym (lt-leb (answer_words_lem * (length ws / call_words)) (length answers) (let z = ltb-true (length answers / answer_words_lem) (length ws / call_words) e in omega (arith, z))))
    at false e = ap not (sym (le-leb (answer_words_lem * (length ws / call_words)) (length answers) (let z = ltb-false (length answers / answer_words_lem) (length ws / call_words) e in omega (arith, z))))

-- whether it is said to be missing
pub room_lacks : (ws answers : List ℕ) {b : Bool} → b ≡ not (room_for ws answers) → b ≡ true → room_for ws answers ≡ false
room_lacks ws answers e h = at (room_for ws answers) (sym e ∙ h)
  where
    at : (c : Bool) → not c ≡ true → c ≡ false
    at true q = absurd (false≢true q)
    at false q = refl

pub room_has : (ws answers : List ℕ) {b : Bool} → b ≡ not (room_for ws answers) → b ≡ false → room_for ws answers ≡ true
room_has ws answers e h = at (room_for ws answers) (sym e ∙ h)
  where
    at : (c : Bool) → not c ≡ false → c ≡ true
    at true q = refl
    at false q = absurd (false≢true (sym q))

-- where there is room all answers are written, and the places after them stay
pub results_fit : (K : Steps) → Lawful K → (ws answers : List ℕ) (m : System) → length m.threads ≤ most_threads → room_for ws answers ≡ true
    → over answers (result_words (calls K (calls_in ws) m)) ≡ result_words (calls K (calls_in ws) m) ++ drop (answer_words_lem * call_count ws) answers
unfolding room_for
results_fit K law ws answers m few e =
    let l = result_length K law ws m few in
    let h = leb-true (answer_words_lem * call_count ws) (length answers) (and_r _ _ e) in
    over_fits answers (result_words (calls K (calls_in ws) m)) (omega (arith, l, h)) ∙ ap (λ (n : ℕ). result_words (calls K (calls_in ws) m) ++ drop n answers) l
