-- Places and limits are those of reading; operands by their offsets.
use mathlib.Core.Path.{◌≡◌, refl, sym, ap, ap₂, ◌∙◌}
use Prim.Native.Nat.{ℕ, zero, suc, ◌+◌, ◌≤◌, ◌<◌}
use native.Mathlib.Omega.{arith}
use mathlib.Core.Bool.{Bool, true, false, cond}
use mathlib.Core.List.{List, [], ◌∷◌}
use lib.ListN.{length, take, drop}
use lib.Seq.{drop-drop}
use lib.Dec.{eqb, ltb, leb}
use borrow.Author.Tests.{le-leb, leb-true, leb-false, lt-leb}
use Rattle.order.specs.Bools.{◌and◌, ◌or◌}
use Rattle.syntax.specs.Commands.{Op, total, section_of, little, fields}
use Rattle.syntax.specs.Job.{Job}
use Rattle.syntax.specs.Reading.{State, misplaced, full}
use Rattle.entry.specs.Bytes.{field_at, section_byte, misplaced_by, full_by}
use Rattle.entry.specs.OpBytes.{byte_of}
use Rattle.entry.proofs.OpBytes.{sections, section_is}

-- number 3 and number 5 by section
or_none : (a : Bool) → (((a or false) or false) or false) ≡ cond a true false
unfolding ◌or◌
or_none true = refl
or_none false = refl

or_second : (a b : Bool) → (((a or b) or false) or false) ≡ cond a true b
unfolding ◌or◌
or_second true b = refl
or_second false true = refl
or_second false false = refl

or_third : (a b : Bool) → (((a or false) or b) or false) ≡ cond a true (cond b true false)
unfolding ◌or◌
or_third true b = refl
or_third false true = refl
or_third false false = refl

or_fourth : (a b c : Bool) → (((a or false) or b) or c) ≡ cond a true (cond b true c)
unfolding ◌or◌
or_fourth true b c = refl
or_fourth false true c = refl
or_fourth false false c = refl

or_first : (a : Bool) → (((a or false) or false) or false) ≡ a
unfolding ◌or◌
or_first true = refl
or_first false = refl

or_two : (a : Bool) → (((false or a) or false) or false) ≡ a
unfolding ◌or◌
or_two true = refl
or_two false = refl

or_three : (a : Bool) → (((false or false) or a) or false) ≡ a
unfolding ◌or◌
or_three true = refl
or_three false = refl

at_section : (st : State) (sec : ℕ) → sec < 6 → misplaced st sec ≡ misplaced_by st.section sec (length st.job.cmds)
unfolding misplaced misplaced_by ◌and◌
at_section st zero h = or_none (ltb 0 st.section)
at_section st (suc zero) h = or_none (ltb 1 st.section)
at_section st (suc (suc zero)) h = or_none (ltb 2 st.section)
at_section st (suc (suc (suc zero))) h = or_second (ltb 3 st.section) (eqb st.section 3)
at_section st (suc (suc (suc (suc zero)))) h = or_third (ltb 4 st.section) (ltb st.section 3)
at_section st (suc (suc (suc (suc (suc zero))))) h = or_fourth (ltb 5 st.section) (ltb st.section 3) (eqb (length st.job.cmds) 0)
at_section st (suc (suc (suc (suc (suc (suc n)))))) h = absurd (omega arith)

two_more : (n : ℕ) → leb 64 (2 + n) ≡ leb 62 n
two_more n = at (leb 62 n) refl
  where
    at : (b : Bool) → leb 62 n ≡ b → leb 64 (2 + n) ≡ b
    at true e = le-leb 64 (2 + n) (omega (arith, leb-true 62 n e))
    at false e = lt-leb 64 (2 + n) (omega (arith, leb-false 62 n e))

at_room : (J : Job) (sec : ℕ) → sec < 6 → full J sec ≡ full_by sec (length J.names) (length J.types) (length J.values) (length J.cmds)
unfolding full full_by ◌and◌ ◌or◌
at_room J zero h = or_first (leb 64 (2 + length J.names)) ∙ two_more (length J.names)
at_room J (suc zero) h = or_two (leb 256 (length J.types))
at_room J (suc (suc zero)) h = or_three (leb 64 (length J.values))
at_room J (suc (suc (suc zero))) h = refl
at_room J (suc (suc (suc (suc zero)))) h = refl
at_room J (suc (suc (suc (suc (suc zero))))) h = refl
at_room J (suc (suc (suc (suc (suc (suc n)))))) h = absurd (omega arith)

pub misplaced_is : (st : State) (o : Op) → misplaced st (section_of o) ≡ misplaced_by st.section (section_byte (byte_of o)) (length st.job.cmds)
misplaced_is st o = at_section st (section_of o) (sections o).1 ∙ ap (λ (k : ℕ). misplaced_by st.section k (length st.job.cmds)) (sym (section_is o))

pub full_is : (J : Job) (o : Op) → full J (section_of o) ≡ full_by (section_byte (byte_of o)) (length J.names) (length J.types) (length J.values) (length J.cmds)
full_is J o = at_room J (section_of o) (sections o).1 ∙ ap (λ (k : ℕ). full_by k (length J.names) (length J.types) (length J.values) (length J.cmds)) (sym (section_is o))

-- operands by their offsets
unfoldable pub fields_from : List ℕ → List ℕ → ℕ → List ℕ
fields_from [] s at = []
fields_from (w ∷ l) s at = field_at w s at ∷ fields_from l s (at + w)

pub fields_from_lem : (ws s : List ℕ) (at : ℕ) → at + total ws ≤ length s → fields_from ws s at ≡ fields ws (drop at s)
unfolding fields_from fields total field_at
fields_from_lem [] s at h = refl
fields_from_lem (w ∷ l) s at h =
    ap₂ ◌∷◌ (ap (λ (b : Bool). cond b (little (take w (drop at s))) 0) (le-leb (at + w) (length s) (omega arith)))
    (fields_from_lem l s (at + w) (omega arith) ∙ ap (λ (m : List ℕ). fields l m) (sym (drop-drop w at s)))
