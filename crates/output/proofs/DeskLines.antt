-- What the desk program prints, by demand 3: a refused job's line; or an accepted job's line and then one of the three lines of a run, `done`, `spent` or `no room`, with the
-- steps and the value of a run that document 01 allows. There is no fourth way, and never a missing line.
use Rattle.std.specs.Prelude.{◌≡◌, refl, ℕ, zero, suc, ◌≤◌, ◌<◌, Bool, true, false, List, [], ◌∷◌, ◌++◌, length, get_or, take, ltb}
use Rattle.std.proofs.Common.{sym, ap, ◌∙◌, subst, arith, ltb-true, ltb-false}
use Rattle.std.proofs.lemmas.Bool.{false≢true}
use Rattle.std.proofs.Math.Option.{Option, some}
use Rattle.std.proofs.Math.ListN.{get_elem?, get_or-eq_default}
use Rattle.order.proofs.Bools.{and_l}
use Rattle.order.specs.Effects.{Effect}
use Rattle.syntax.specs.Types.{Ty}
use Rattle.syntax.specs.Job.{Job, Src, source_of}
use Rattle.syntax.specs.Reading.{Refusal, read, reading}
use Rattle.typing.specs.Verdict.{Verdict, accept, refuse, verdict_of}
use Rattle.semantics.specs.Machine.{Value, Frame, Control, enter, hand, Thread, System, most_threads}
use Rattle.semantics.specs.Start.{start_of}
use Rattle.semantics.specs.Room.{done_at}
use Rattle.semantics.specs.Threads.{all_done, handed_on, value_of}
use Rattle.semantics.specs.Calls.{run_of, finished, Ran, ran, finished_within, spent_after, noroom_within, call, calls, run_finished, run_spent, run_noroom, Gives, run_gives, AllGive, all_cons}
use Rattle.semantics.proofs.TurnLaws.{lawful, value_is}
use Rattle.semantics.proofs.Rounds.{takes_grown}
use Rattle.semantics.specs.Demand3.{expr_of, steps_in}
use Rattle.semantics.proofs.Demand3.{same_steps, demand3}
use Rattle.output.specs.Lines.{decimal, space, line, w_done, handed, refused_line, accepted_line, ran_line, most_steps, desk_allows, ran_of, run_line, run_read, reported, desk_of, most_bytes, printed}
use Rattle.output.specs.DeskLines.{DeskLines, RunLine, refused_line_lem, run_line_lem, says_done, says_no_room, says_spent}

-- a thread that is done hands on a value
hands : (c : Control) (fs : List Frame) → done_at c fs ≡ true → (v : Value) × (handed_on c ≡ some v)
unfolding done_at handed_on
hands (enter e) fs d = absurd (false≢true d)
hands (hand v) fs d = (v, refl)

-- where there is a thread, and all are done, the job has a value, the first one's
done_hands : (s : System) → 0 < length s.threads → all_done s.threads ≡ true → (v : Value) × (value_of s ≡ some v)
unfolding all_done
done_hands s h d = at s.threads refl h d
  where
    at : (l : List Thread) → s.threads ≡ l → 0 < length l → all_done l ≡ true → (v : Value) × (value_of s ≡ some v)
    at [] e h f = absurd (omega arith)
    at (t ∷ l) e h f = let z = hands t.control t.frames (and_l _ _ f) in (z.0, value_is s t d (ap (λ x. get_elem? x 0) e) ∙ z.1)

-- "The desk program allows 100,000 to each"
pub allows_each : (i : ℕ) → i < most_threads → get_or desk_allows i 0 ≡ 100000
allows_each zero h = refl
allows_each (suc zero) h = refl
allows_each (suc (suc zero)) h = refl
allows_each (suc (suc (suc zero))) h = refl
allows_each (suc (suc (suc (suc zero)))) h = refl
allows_each (suc (suc (suc (suc (suc zero))))) h = refl
allows_each (suc (suc (suc (suc (suc (suc zero)))))) h = refl
allows_each (suc (suc (suc (suc (suc (suc (suc zero))))))) h = refl
allows_each (suc (suc (suc (suc (suc (suc (suc (suc i)))))))) h = absurd (omega arith)

-- and no number more
allows_most : (i : ℕ) → get_or desk_allows i 0 ≤ most_steps
allows_most i = at (ltb i most_threads) refl
  where
    at : (b : Bool) → ltb i most_threads ≡ b → get_or desk_allows i 0 ≤ most_steps
    at true e = omega (arith, allows_each i (ltb-true i most_threads e))
    at false e = omega (arith, get_or-eq_default desk_allows 0 {n = i} (ltb-false i most_threads e))

-- a run that demand 3 allows has its line
run_of_three : (J : Job) {s : System} {r : Ran} → 0 < length s.threads → Gives (steps_in J) s (run_of desk_allows) r → RunLine r (ran_of r)
unfolding ran_of ran_line handed
run_of_three J h (run_gives (run_finished {d = c} {t = t} x d) (finished_within q)) =
    let z = done_hands t (omega (arith, h, takes_grown (steps_in J) (lawful (expr_of J)) x)) d in
    subst (λ (o : Option Value). RunLine (ran finished c 0 t) (line (space w_done (space (decimal (get_or c 0 0)) (handed o))))) (sym z.1) (says_done z.0 (q.each 0) z.1)
run_of_three J h (run_gives (run_spent x d f) (spent_after w q)) = says_spent (w.each 0) (λ i h l. q i l ∙ allows_each i h)
run_of_three J h (run_gives (run_noroom {d = c} {p = p} x a l) (noroom_within w q)) = says_no_room {c = c} {i = p.at} (omega (arith, q, allows_most p.at))

-- the run itself
first_of : (J : Job) (m : System) (a : List ℕ) → AllGive (steps_in J) (run_of a ∷ []) m (calls (steps_in J) (run_of a ∷ []) m) → Gives (steps_in J) m (run_of a) (call (steps_in J) (run_of a) m)
unfolding calls
first_of J m a (all_cons g rest) = g

run_is : (J : Job) → ran_of (call (steps_in J) (run_of desk_allows) (start_of (source_of J))) ≡ run_line (source_of J)
unfolding run_line
run_is J = ap (λ K. ran_of (call K (run_of desk_allows) (start_of (source_of J)))) (sym (same_steps J))

started : (S : Src) → 0 < length (start_of S).threads
unfolding start_of
started S = omega arith

accepted_desk : (s : List ℕ) (J : Job) {T : Ty} {e : Effect} → verdict_of s ≡ accept T e → reading s ≡ read J → desk_of s ≡ accepted_line T e ++ run_line (source_of J)
unfolding desk_of reported run_read
accepted_desk s J v i = rw (v, i)

refused_desk : (s : List ℕ) {q : Refusal} → verdict_of s ≡ refuse q → desk_of s ≡ refused_line q
unfolding desk_of reported
refused_desk s v = rw v

pub desk_lines : (s : List ℕ) → DeskLines s (desk_of s)
desk_lines s = at (verdict_of s) refl
  where
    at : (v : Verdict) → verdict_of s ≡ v → DeskLines s (desk_of s)
    at (refuse q) e = subst (λ (l : List ℕ). DeskLines s l) (sym (refused_desk s e)) (refused_line_lem q e)
    at (accept T f) e =
        let d = demand3 s e in
        let J = d.0 in
        let g = first_of J (start_of (source_of J)) desk_allows (d.2 (run_of desk_allows ∷ [])) in
        subst (λ (l : List ℕ). DeskLines s l)
        (ap (λ (l : List ℕ). accepted_line T f ++ l) (run_is J) ∙ sym (accepted_desk s J e d.1))
        (run_line_lem T f J _ _ e d.1 g (run_of_three J (started (source_of J)) g))

-- what `print` gives for an input, by its contract
pub print_lines : (input text : List ℕ) → text ≡ printed input → DeskLines (take most_bytes input) text
unfolding printed
print_lines input text e = subst (λ (l : List ℕ). DeskLines (take most_bytes input) l) (sym e) (desk_lines (take most_bytes input))
