-- The test of equal lists is exact, so a case agrees exactly if it should; and the cases of a file are all of them, each counted once.
use Rattle.std.specs.Prelude.{◌≡◌, refl, ℕ, zero, suc, ◌+◌, ◌≤◌, ◌<◌, Bool, true, false, cond, List, [], ◌∷◌, length, eqb, leb}
use Rattle.std.proofs.Common.{sym, ap, ◌∙◌, arith, length-drop, eqb-true, leb-true, eq-eqb, le-leb}
use Rattle.std.proofs.lemmas.Bool.{false≢true}
use Rattle.output.specs.Lines.{printed}
use Rattle.cases.specs.Cases.{case_length, job_of, answer_of, same, agrees, at_end, after, cases_in, cases_of, trues, falses, tally_of}

pub same_equal : (s t : List ℕ) → same s t ≡ true → s ≡ t
unfolding same
same_equal [] [] h = refl
same_equal [] (b ∷ t) h = absurd (false≢true h)
same_equal (a ∷ s) [] h = absurd (false≢true h)
same_equal (a ∷ s) (b ∷ t) h = go (eqb a b) refl h (same_equal s t)
  where
    go : (x : Bool) → eqb a b ≡ x → cond x (same s t) false ≡ true → (same s t ≡ true → s ≡ t) → a ∷ s ≡ b ∷ t
    go true e k f = let g : a ≡ b = eqb-true a b e in let m : s ≡ t = f k in cc
    go false e k f = absurd (false≢true k)

same_self : (s : List ℕ) → same s s ≡ true
unfolding same
same_self [] = refl
same_self (a ∷ s) = rw (eq-eqb a a refl) (same_self s)

pub equal_same : (s t : List ℕ) → s ≡ t → same s t ≡ true
equal_same s t e = ap (same s) (sym e) ∙ same_self s

-- a case agrees exactly if no byte of it is missing and its answer is what the desk prints for its job
pub agrees_right : (s : List ℕ) → agrees s ≡ true → (case_length s ≤ length s) × (printed (job_of s) ≡ answer_of s)
unfolding agrees
agrees_right s h = go (leb (case_length s) (length s)) refl h
  where
    go :
        (b : Bool) → leb (case_length s) (length s) ≡ b → cond b (same (printed (job_of s)) (answer_of s)) false ≡ true
        → (case_length s ≤ length s) × (printed (job_of s) ≡ answer_of s)
    go true e k = (leb-true _ _ e, same_equal _ _ k)
    go false e k = absurd (false≢true k)

pub right_agrees : (s : List ℕ) → case_length s ≤ length s → printed (job_of s) ≡ answer_of s → agrees s ≡ true
unfolding agrees
right_agrees s h e = rw (le-leb (case_length s) (length s) h) (equal_same _ _ e)

-- what comes after a case is shorter
pub after_less : (s : List ℕ) → at_end s ≡ false → length (after s) < length s
unfolding after case_length at_end
after_less [] h = absurd (false≢true (sym h))
after_less (a ∷ s) h = simp length-drop (omega arith)

end_empty : (s : List ℕ) → length s ≤ 0 → at_end s ≡ true
unfolding at_end
end_empty [] h = refl
end_empty (a ∷ s) h = absurd (omega arith)

-- more than enough changes nothing
pub enough : (f g : ℕ) (s : List ℕ) → length s ≤ f → length s ≤ g → cases_in f s ≡ cases_in g s
unfolding cases_in
enough zero zero s h k = refl
enough zero (suc g) s h k = rw (end_empty s h)
enough (suc f) zero s h k = rw (end_empty s k)
enough (suc f) (suc g) s h k = go (at_end s) refl (enough f g (after s))
  where
    go :
        (b : Bool) → at_end s ≡ b → (length (after s) ≤ f → length (after s) ≤ g → cases_in f (after s) ≡ cases_in g (after s))
        → cond b [] (agrees s ∷ cases_in f (after s)) ≡ cond b [] (agrees s ∷ cases_in g (after s))
    go true e m = refl
    go false e m = let z = after_less s e in ap (λ l. agrees s ∷ l) (m (omega arith) (omega arith))

-- the cases of a file that has not ended are its first one and those after it
pub cases_next : (s : List ℕ) → at_end s ≡ false → cases_of s ≡ agrees s ∷ cases_of (after s)
unfolding cases_of cases_in
cases_next [] h = absurd (false≢true (sym h ∙ end_empty [] (omega arith)))
cases_next (a ∷ s) h = let z = after_less (a ∷ s) h in rw h (ap (λ l. agrees (a ∷ s) ∷ l) (enough (length s) (length (after (a ∷ s))) (after (a ∷ s)) (omega arith) (omega arith)))

pub cases_end : (s : List ℕ) → at_end s ≡ true → cases_of s ≡ []
unfolding cases_of cases_in
cases_end [] h = refl
cases_end (a ∷ s) h = rw h

-- every case is counted once
counted : (l : List Bool) → trues l + falses l ≡ length l
unfolding trues falses
counted [] = omega arith
counted (true ∷ l) = let e = counted l in omega arith
counted (false ∷ l) = let e = counted l in omega arith

pub all_counted : (s : List ℕ) → (tally_of s).agree + (tally_of s).differ ≡ length (cases_of s)
unfolding tally_of
all_counted s = counted (cases_of s)
