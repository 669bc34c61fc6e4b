-- What the loop over the cases keeps, and the test of an answer.
use Rattle.std.proofs.Common.{◌≡◌, refl, sym, ap, ◌∙◌, ℕ, suc, ◌+◌, ◌-◌, ◌≤◌, ◌<◌, Bool, true, false, List, [], ◌∷◌, length, take, drop, arith, le-leb, drop_of_length-le, le_of_lt}
use Rattle.std.proofs.lemmas.Bool.{false≢true, lt-leb}
use Rattle.std.proofs.lemmas.List.{take_rest}
use Rattle.output.specs.Lines.{printed}
use Rattle.cases.specs.Cases.{job_length, answer_length, case_length, job_of, answer_of, same, agrees, at_end, after, cases_of, trues, falses, tally_of}
use Rattle.cases.specs.Laws.{same_equal, equal_same, after_less, cases_next, cases_end}

same_is : (r : Bool) (s t : List ℕ) → (r ≡ true → s ≡ t) → (s ≡ t → r ≡ true) → r ≡ same s t
same_is true s t f g = sym (equal_same s t (f refl))
same_is false s t f g = go (same s t) refl
  where
    go : (b : Bool) → same s t ≡ b → false ≡ same s t
    go true e = absurd (false≢true (g (same_equal s t e)))
    go false e = sym e

pub prints_is : (r : Bool) (a p s : List ℕ) → (r ≡ true → a ≡ s) → (a ≡ s → r ≡ true) → a ≡ p → r ≡ same p s
prints_is r a p s f g e = rw (← e) (same_is r a s f g)

-- what was counted, and the cases that are left, make up all
pub record Loop (file left : List ℕ) (agree differ : ℕ) : Type 0 where
  pub trues : agree + trues (cases_of left) ≡ trues (cases_of file)
  pub falses : differ + falses (cases_of left) ≡ falses (cases_of file)
  pub room : agree + differ + length left ≤ length file

pub loop_first : (file : List ℕ) → Loop file file 0 0
loop_first file = record { trues = omega arith; falses = omega arith; room = omega arith }

module _ {file left : List ℕ} {agree differ : ℕ} (next : List ℕ) (a d : ℕ) (l : Loop file left agree differ) (e : at_end left ≡ false) (n : next ≡ after left) where
  shorter : length next < length left
  shorter = rw n (after_less left e)

  cases_left : (b : Bool) → agrees left ≡ b → cases_of left ≡ b ∷ cases_of next
  cases_left b f = cases_next left e ∙ ap (λ x. x ∷ cases_of (after left)) f ∙ ap (λ m. b ∷ cases_of m) (sym n)

  pub loop_agree : agrees left ≡ true → a ≡ agree + 1 → d ≡ differ → Loop file next a d
  unfolding trues falses
  loop_agree f g h =
      let t : trues (cases_of left) ≡ suc (trues (cases_of next)) = ap trues (cases_left true f) in
      let u : falses (cases_of left) ≡ falses (cases_of next) = ap falses (cases_left true f) in
      let z = shorter in
      record { trues = omega arith; falses = omega arith; room = omega arith }

  pub loop_differ : agrees left ≡ false → a ≡ agree → d ≡ differ + 1 → Loop file next a d
  unfolding trues falses
  loop_differ f g h =
      let t : trues (cases_of left) ≡ trues (cases_of next) = ap trues (cases_left false f) in
      let u : falses (cases_of left) ≡ suc (falses (cases_of next)) = ap falses (cases_left false f) in
      let z = shorter in
      record { trues = omega arith; falses = omega arith; room = omega arith }

pub loop_end : {file left : List ℕ} {agree differ : ℕ} → Loop file left agree differ → at_end left ≡ true → record { agree = agree; differ = differ } ≡ tally_of file
unfolding tally_of trues falses
loop_end {file} {left} {agree} {differ} l e =
    let t : trues (cases_of left) ≡ 0 = ap trues (cases_end left e) in
    let f : falses (cases_of left) ≡ 0 = ap falses (cases_end left e) in
    let a : agree ≡ trues (cases_of file) = omega arith in
    let d : differ ≡ falses (cases_of file) = omega arith in
    cc

-- the parts of a file
pub job_part : (s : List ℕ) (n a : ℕ) → n ≡ job_length s → a ≡ n + 2 → take (a - 2) (drop 2 s) ≡ job_of s
unfolding job_of
job_part s n a e f = let z : a - 2 ≡ job_length s = omega arith in rw z

pub answer_part : (s : List ℕ) (n b end : ℕ) → n ≡ job_length s → b ≡ n + 3 → end ≡ case_length s → take (end - b) (drop b s) ≡ answer_of s
unfolding answer_of case_length
answer_part s n b end e f g =
    let z : end - b ≡ answer_length s = omega arith in
    let y : b ≡ job_length s + 3 = omega arith in
    rw (z, y)

pub after_part : (s : List ℕ) (n : ℕ) → n ≡ case_length s → take (length s - n) (drop n s) ≡ after s
unfolding after
after_part s n e = take_rest s n ∙ ap (λ k. drop k s) e

pub after_none : (s : List ℕ) (n : ℕ) → n ≡ case_length s → length s < n → [] ≡ after s
unfolding after
after_none s n e h = sym (drop_of_length-le s (le_of_lt h)) ∙ ap (λ k. drop k s) e

pub answer_fits : (s : List ℕ) (n end : ℕ) → n ≡ job_length s → end ≡ case_length s → n + 3 ≤ end
unfolding case_length
answer_fits s n end e f = omega arith

pub whole_agrees : (s : List ℕ) (end : ℕ) (r : Bool) (j a : List ℕ) → end ≡ case_length s → end ≤ length s → r ≡ same (printed j) a → j ≡ job_of s → a ≡ answer_of s → r ≡ agrees s
unfolding agrees
whole_agrees s end r j a e h f g k = rw (le-leb (case_length s) (length s) (omega arith)) (rw (← g, ← k) f)

pub cut_agrees : (s : List ℕ) (end : ℕ) → end ≡ case_length s → length s < end → false ≡ agrees s
unfolding agrees
cut_agrees s end e h = rw (lt-leb (case_length s) (length s) (omega arith))
