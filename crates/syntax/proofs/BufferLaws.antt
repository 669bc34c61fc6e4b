-- Who decides, and what is done then: reading's refusal or the tables' fault, whichever comes first; 1 before all others, 15 after them; and each byte of the buffer afterwards.
use Rattle.std.specs.Prelude.{◌≡◌, refl, ℕ, zero, suc, ◌≤◌, ◌<◌, Bool, true, false, List, length, take, drop, ltb}
use Rattle.std.proofs.Common.{ap, ap₂, ◌∙◌, arith, length-append, length-drop, ltb-true, ltb-false, lt-ltb, le-ltb}
use Rattle.std.proofs.Math.Seq.{take-append_seam, drop-append_seam}
use Rattle.syntax.specs.Job.{Job}
use Rattle.syntax.specs.Reading.{Refusal, Read, refused, read, reading}
use Rattle.syntax.specs.Loading.{JobTables, short}
use Rattle.syntax.specs.Writing.{Counts, items, script, Sent, sent, unsent, unsent_at, judged, writing, fitting, write_with, buffer_after}

-- 1 and 15

-- 1 if a table is short, whatever else
pub short_first : (w : JobTables) (c : Counts) (n : ℕ) → short w ≡ true → write_with w c n ≡ unsent_at 1 0
unfolding write_with
short_first w c n h = rw h refl

-- other refusals before 15
pub refusal_first : (w : JobTables) (c : Counts) (n : ℕ) (q : Refusal) → short w ≡ false → writing w c ≡ unsent q → write_with w c n ≡ unsent q
unfolding write_with fitting
refusal_first w c n q h e = rw (h, e) refl

-- a buffer as long as the job is enough
pub long_enough_lem : (w : JobTables) (c : Counts) (n : ℕ) (s : List ℕ) → short w ≡ false → writing w c ≡ sent s → length s ≤ n → write_with w c n ≡ sent s
unfolding write_with fitting
long_enough_lem w c n s h e l = rw (h, e, le-ltb n (length s) l) refl

-- 15 if it is shorter
pub too_short : (w : JobTables) (c : Counts) (n : ℕ) (s : List ℕ) → short w ≡ false → writing w c ≡ sent s → n < length s → write_with w c n ≡ unsent_at 15 0
unfolding write_with fitting
too_short w c n s h e l = rw (h, e, lt-ltb n (length s) l) refl

-- The buffer

-- "A refusal writes no byte of it"
pub refusal_writes_nothing : (q : Refusal) (b : List ℕ) → buffer_after (unsent q) b ≡ b
unfolding buffer_after
refusal_writes_nothing q b = refl

-- what is sent stands in front, and "bytes past the job's stay"
pub sent_in_front : (s b : List ℕ) → (take (length s) (buffer_after (sent s) b) ≡ s) × (drop (length s) (buffer_after (sent s) b) ≡ drop (length s) b)
unfolding buffer_after
sent_in_front s b = (take-append_seam s (drop (length s) b), drop-append_seam s (drop (length s) b))

-- the buffer is as long as before, whatever the tables hold
pub buffer_length : (w : JobTables) (c : Counts) (b : List ℕ) → length (buffer_after (write_with w c (length b)) b) ≡ length b
unfolding buffer_after
buffer_length w c b = at (short w) refl (writing w c) refl
  where
    after : {x y : Sent} → x ≡ y → length (buffer_after x b) ≡ length (buffer_after y b)
    after e = ap (λ z. length (buffer_after z b)) e

    fit : (s : List ℕ) → short w ≡ false → writing w c ≡ sent s → (t : Bool) → ltb (length b) (length s) ≡ t → length (buffer_after (write_with w c (length b)) b) ≡ length b
    fit s h e true l = after (too_short w c (length b) s h e (ltb-true (length b) (length s) l))
    fit s h e false l =
        let z = ltb-false (length b) (length s) l in after (long_enough_lem w c (length b) s h e z) ∙ omega (arith, length-append s (drop (length s) b), length-drop (length s) b, z)

    at : (t : Bool) → short w ≡ t → (x : Sent) → writing w c ≡ x → length (buffer_after (write_with w c (length b)) b) ≡ length b
    at true h x e = after (short_first w c (length b) h)
    at false h (unsent q) e = after (refusal_first w c (length b) q h e)
    at false h (sent s) e = fit s h e (ltb (length b) (length s)) refl

-- What reading the bytes says

-- after bytes s comes a fault: it decides, unless reading refuses s before its end
pub fault_decides : (n : ℕ) (s : List ℕ) (r : Read) → ((q : Refusal) → r ≡ refused q → length s ≤ q.place) → judged (suc n) s r ≡ unsent_at (suc n) (length s)
unfolding judged
fault_decides n s (read J) h = refl
fault_decides n s (refused q) h = rw (le-ltb q.place (length s) (h q refl)) refl

-- a refusal by reading at one of the bytes is the answer, whatever fault comes after them
pub reading_decides : (n : ℕ) (s : List ℕ) (q : Refusal) → q.place < length s → judged n s (refused q) ≡ unsent q
unfolding judged
reading_decides zero s q l = refl
reading_decides (suc n) s q l = rw (lt-ltb q.place (length s) l) refl

pub refused_as_read : (w : JobTables) (c : Counts) (q : Refusal) → reading (script (items w c)).bytes ≡ refused q → q.place < length (script (items w c)).bytes → writing w c ≡ unsent q
unfolding writing
refused_as_read w c q e l = rw e (reading_decides (script (items w c)).fault (script (items w c)).bytes q l)

-- tables with no fault whose bytes are read are sent
pub sent_as_read : (w : JobTables) (c : Counts) (J : Job) → (script (items w c)).fault ≡ 0 → reading (script (items w c)).bytes ≡ read J → writing w c ≡ sent (script (items w c)).bytes
unfolding writing judged
sent_as_read w c J f e = ap₂ (λ (n : ℕ) r. judged n (script (items w c)).bytes r) f e
