-- Reading by rows: a job given command by command, each with its operands' numbers, instead of in bytes. Where every number fits its operand this is reading: the same job or the same refusal, at the
-- same place.
use Rattle.std.specs.Prelude.{◌≡◌, refl, ℕ, zero, suc, ◌+◌, ◌/◌, ◌^◌, ◌≤◌, ◌<◌, Bool, true, false, cond, length, get_or, take, drop, eqb}
use Rattle.std.proofs.Common.{sym, ap, ap₂, ◌∙◌, arith, length-append, drop-drop, le-ltb, eqb-true}
use mathlib.Core.List.{List, [], ◌∷◌, ◌++◌, flat_map, append_assoc}
use Rattle.std.proofs.Math.Option.{Option, none, some}
use Rattle.std.proofs.Math.Nat.{pow-succ'}
use Rattle.syntax.specs.Commands.{Op, operands, total, width, section_of, little, fields}
use Rattle.syntax.specs.Job.{Job}
use Rattle.syntax.specs.Reading.{State, written, enter, misplaced, full, Step, refuse, proceed, finish, settle, command, ended, onward, on_op, read_from, no_job, reading}
use Rattle.syntax.specs.ReadPlaces.{widest}
use Rattle.syntax.proofs.ReadPlaces.{op_found, width_most}
use Rattle.syntax.specs.JobBytes.{bytes_of, operand_bytes, command_bytes}
use Rattle.syntax.specs.RowsRead.{AllNarrow, Narrow, all_more, command_on, narrow_more, narrow_none, reading_rows, rows_bytes, rows_from}

pub bytes_length : (w n : ℕ) → length (bytes_of w n) ≡ w
unfolding bytes_of
bytes_length zero n = refl
bytes_length (suc w) n = ap suc (bytes_length w (n / 256))

little_of : (w n : ℕ) (s : List ℕ) → n < 256 ^ w → little (take w (bytes_of w n ++ s)) ≡ n
unfolding bytes_of little
little_of zero n s h = omega arith
little_of (suc w) n s h = let z = little_of w (n / 256) s (omega (arith, pow-succ' 256 w)) in omega (arith, z)

past_of : (w n : ℕ) (s : List ℕ) → drop w (bytes_of w n ++ s) ≡ s
unfolding bytes_of
past_of zero n s = refl
past_of (suc w) n s = past_of w (n / 256) s

fields_of_lem : {ws o : List ℕ} → Narrow ws o → (s : List ℕ) → fields ws (operand_bytes ws o ++ s) ≡ o
unfolding fields operand_bytes
fields_of_lem narrow_none s = refl
fields_of_lem (narrow_more {w} {n} {ws} {o} h k) s =
    let z : (bytes_of w n ++ operand_bytes ws o) ++ s ≡ bytes_of w n ++ (operand_bytes ws o ++ s) = append_assoc (bytes_of w n) (operand_bytes ws o) s in
    ap₂ (λ (x : ℕ) y. x ∷ y) (ap (λ l. little (take w l)) z ∙ little_of w n (operand_bytes ws o ++ s) h)
    (ap (λ l. fields ws (drop w l)) z ∙ ap (fields ws) (past_of w n (operand_bytes ws o ++ s)) ∙ fields_of_lem k s)

past_all : {ws o : List ℕ} → Narrow ws o → (s : List ℕ) → drop (total ws) (operand_bytes ws o ++ s) ≡ s
unfolding total operand_bytes
past_all narrow_none s = refl
past_all (narrow_more {w} {n} {ws} {o} h k) s =
    sym (drop-drop (total ws) w _) ∙ ap (λ l. drop (total ws) (drop w l)) (append_assoc (bytes_of w n) (operand_bytes ws o) s)
    ∙ ap (drop (total ws)) (past_of w n (operand_bytes ws o ++ s)) ∙ past_all k s

pub all_length : (ws o : List ℕ) → length (operand_bytes ws o) ≡ total ws
unfolding total operand_bytes
all_length [] o = refl
all_length (w ∷ ws) o = omega (arith, length-append (bytes_of w (get_or o 0 0)) (operand_bytes ws (drop 1 o)), bytes_length w (get_or o 0 0), all_length ws (drop 1 o))

-- Commands

pub command_of : (op : Op) (o s : List ℕ) (st : State) → Narrow (operands op) o → command op (operand_bytes (operands op) o ++ s) st ≡ command_on (op, o) st
unfolding command command_on width
command_of op o s st h =
    let l : length (operand_bytes (operands op) o ++ s) ≡ total (operands op) + length s = omega (arith, length-append (operand_bytes (operands op) o) s, all_length (operands op) o) in
    rw (le-ltb (length (operand_bytes (operands op) o ++ s)) (total (operands op)) (omega (arith, l)), fields_of_lem h s)

-- a command ends the job only in section 5, and has no operand there
ends_last : (r : Op × List ℕ) (st : State) (J : Job) → command_on r st ≡ finish J → section_of r.0 ≡ 5
unfolding command_on settle
ends_last r st J e = at (misplaced st (section_of r.0)) (full st.job (section_of r.0)) (enter (written r.0 r.1) st.job) e
  where
    not_refused : {n : ℕ} {K : Job} → refuse n ≡ finish K → section_of r.0 ≡ 5
    not_refused e = absurd (let z : ◌≡◌ {A = ℕ} 0 1 = cc in omega arith)

    last : (c : Bool) (K : Job) (n : State) {L : Job} → eqb (section_of r.0) 5 ≡ c → cond c (finish K) (proceed n) ≡ finish L → section_of r.0 ≡ 5
    last true K n h e = eqb-true (section_of r.0) 5 h
    last false K n h e = absurd (let z : ◌≡◌ {A = ℕ} 0 1 = cc in omega arith)

    at : (a b : Bool) (o : Option Job) → cond a (refuse 3) (cond b (refuse 5) (settle (section_of r.0) o)) ≡ finish J → section_of r.0 ≡ 5
    at true b o e = not_refused e
    at false true o e = not_refused e
    at false false none e = not_refused e
    at false false (some K) e = last (eqb (section_of r.0) 5) K _ refl e

no_operand : (op : Op) (o : List ℕ) → Narrow (operands op) o → section_of op ≡ 5 → operand_bytes (operands op) o ≡ []
unfolding width widest
no_operand op o h e = none_of (operand_bytes (operands op) o) (omega (arith, all_length (operands op) o, width_most op, ap widest e))
  where
    none_of : (l : List ℕ) → length l ≤ 0 → l ≡ []
    none_of [] h = refl
    none_of (x ∷ l) h = absurd (omega arith)

-- Jobs

rows_from_lem : (f pos : ℕ) (st : State) (rs : List (Op × List ℕ)) → AllNarrow rs → length (rows_bytes rs) < f → read_from f pos st (rows_bytes rs) ≡ rows_from pos st rs
unfolding read_from rows_from flat_map command_bytes on_op onward width
rows_from_lem zero pos st rs h l = absurd (omega arith)
rows_from_lem (suc f) pos st [] h l = refl
rows_from_lem (suc f) pos st (r ∷ rs) (all_more k h) l =
    rw (op_found r.0, command_of r.0 r.1 (rows_bytes rs) st k)
    (by (command_on r st) refl (λ next. rows_from_lem f (pos + 1 + width r.0) next rs h (omega (arith, length-append (operand_bytes (operands r.0) r.1) (rows_bytes rs)))))
  where
    o : List ℕ
    o = operand_bytes (operands r.0) r.1

    by : (t : Step) → command_on r st ≡ t → ((next : State) → read_from f (pos + 1 + width r.0) next (rows_bytes rs) ≡ rows_from (pos + 1 + width r.0) next rs)
        → onward t pos (o ++ rows_bytes rs) (λ next. read_from f (pos + 1 + width r.0) next (drop (width r.0) (o ++ rows_bytes rs)))
        ≡ onward t pos (rows_bytes rs) (λ next. rows_from (pos + 1 + width r.0) next rs)
    by (refuse n) e g = refl
    by (proceed next) e g = ap (read_from f (pos + 1 + width r.0) next) (past_all k (rows_bytes rs)) ∙ g next
    by (finish J) e g = ap (λ x. ended (suc pos) (x ++ rows_bytes rs) J) (no_operand r.0 r.1 k (ends_last r st J e))

-- rows whose numbers fit are read as their bytes are
pub rows_read : (rs : List (Op × List ℕ)) → AllNarrow rs → reading (rows_bytes rs) ≡ reading_rows rs
unfolding reading reading_rows
rows_read rs h = rows_from_lem (suc (length (rows_bytes rs))) 0 (record { section = 0; job = no_job }) rs h (omega arith)
