-- The first fault decides, 15 comes last, and a refusal writes no byte.
use mathlib.Core.Path.{◌≡◌, refl, sym, ap, ap₂, ◌∙◌, subst}
use Prim.Native.Nat.{ℕ, zero, suc, ◌+◌, ◌≤◌, ◌<◌}
use native.Mathlib.Omega.{arith}
use mathlib.Core.Bool.{Bool, true, false, cond}
use mathlib.Core.List.{List, ◌++◌}
use lib.ListN.{length, take, drop}
use lib.Seq.{sets, sets-eq, length-sets, take-append_seam, length-take-le}
use borrow.Author.Tests.{lt-ltb, le-ltb}
use Rattle.syntax.specs.Reading as asked
use Rattle.syntax.specs.Reading.{Read, refused, read, reading}
use Rattle.syntax.specs.Job.{Job}
use Rattle.syntax.specs.Loading.{JobTables, short}
use Rattle.syntax.specs.Writing as writing
use Rattle.syntax.specs.Writing.{Counts, unsent_at, Script, script, items, judged, fitting, write_with, buffer_after}
use Rattle.job.specs.Answer as jobs
use Rattle.job.specs.Answer.{Answer}
use Rattle.std.specs.Prelude.{Ok, Err, IfErr}
use Rattle.table.specs.declared.Refusal.{Refusal}
use Rattle.entry.specs.declared.Shape.{Shape}
use Rattle.encode.specs.Laid.{most_scratch}
use Rattle.encode.specs.Penned.{Pen, reach_of, fault_in, Encoded}
use Rattle.writer.specs.Sends.{Sent, refused_by, answer_of, Delivered, WriteTo}

-- what is refused before the buffer is looked at
unsent_delivered : {s : writing.Sent} {r : Sent} {n p : ℕ} {b : List ℕ} → s ≡ unsent_at n p → r ≡ refused_by n p → Delivered s r b b
unfolding fitting buffer_after answer_of
unsent_delivered {b = b} e z =
    record { answer = z ∙ ap (λ (x : writing.Sent). answer_of (fitting (length b) x)) (sym e); buffer = ap (λ (x : writing.Sent). buffer_after (fitting (length b) x) b) (sym e) }

-- what is sent, where the buffer is long enough and where it is not
sent_delivered : {s : writing.Sent} {r : Sent} {t b b' : List ℕ} → s ≡ writing.sent t → length t ≤ length b → r ≡ Ok (length t) → b' ≡ t ++ drop (length t) b → Delivered s r b b'
unfolding fitting buffer_after answer_of
sent_delivered {s} {r} {t} {b} {b'} e h z y =
    let f : fitting (length b) s ≡ writing.sent t = ap (fitting (length b)) e ∙ ap (λ (c : Bool). cond c (unsent_at 15 0) (writing.sent t)) (le-ltb (length b) (length t) h) in
    record { answer = z ∙ ap answer_of (sym f); buffer = y ∙ ap (λ x. buffer_after x b) (sym f) }

short_delivered : {s : writing.Sent} {r : Sent} {t b : List ℕ} → s ≡ writing.sent t → length b < length t → r ≡ refused_by 15 0 → Delivered s r b b
unfolding fitting buffer_after answer_of
short_delivered {s} {r} {t} {b} e h z =
    let f : fitting (length b) s ≡ unsent_at 15 0 = ap (fitting (length b)) e ∙ ap (λ (c : Bool). cond c (unsent_at 15 0) (writing.sent t)) (lt-ltb (length b) (length t) h) in
    record { answer = z ∙ ap answer_of (sym f); buffer = ap (λ x. buffer_after x b) (sym f) }

-- what reading told
data Tells (R : Read) : Answer → Type 0 where
  tells_job : {g : Shape} {J : Job} → R ≡ read J → Tells R (Ok g)
  tells_refusal : {q : asked.Refusal} {u : Refusal} → R ≡ refused q → q.number ≡ u.number → q.place ≡ u.place → Tells R (Err u)

tells : (R : Read) → Tells R (jobs.answer_of R)
unfolding jobs.answer_of
tells (read J) = tells_job refl
tells (refused q) = tells_refusal refl refl refl

module _ (R : Read) {a : Answer} (e : a ≡ jobs.answer_of R) where
  by_job : {g : Shape} → a ≡ Ok g → (K : Job) × (R ≡ read K)
  by_job {g} z = at (jobs.answer_of R) (tells R) (sym e ∙ z)
    where
      at : (x : Answer) → Tells R x → x ≡ Ok g → (K : Job) × (R ≡ read K)
      at x (tells_job {J = K} h) y = (K, h)
      at x (tells_refusal h k l) y = absurd (let c : ◌≡◌ {A = ℕ} 0 1 = cc in omega arith)

  by_refusal : {u : Refusal} → a ≡ Err u → R ≡ refused (record { number = u.number; place = u.place })
  by_refusal {u} z = at (jobs.answer_of R) (tells R) (sym e ∙ z)
    where
      at : (x : Answer) → Tells R x → x ≡ Err u → R ≡ refused (record { number = u.number; place = u.place })
      at x (tells_job h) y = absurd (let c : ◌≡◌ {A = ℕ} 0 1 = cc in omega arith)
      at x (tells_refusal {u = v} h k l) y =
          let w : v ≡ u = cc in h ∙ ap₂ (λ (m n : ℕ). refused (record { number = m; place = n })) (k ∙ ap (λ (t : Refusal). t.number) w) (l ∙ ap (λ (t : Refusal). t.place) w)

  -- no fault of the tables
  module _ {f : ℕ} (none : f ≤ 0) (s : List ℕ) where
    zero_is : f ≡ 0
    zero_is = omega arith

    whole : {g : Shape} → a ≡ Ok g → judged f s R ≡ writing.sent s
    unfolding judged
    whole z = ap₂ (λ (n : ℕ) (r : Read). judged n s r) zero_is (by_job z).1

    pub whole_refused : {u : Refusal} {r : Sent} {b : List ℕ} → a ≡ Err u → r ≡ Err u → Delivered (judged f s R) r b b
    unfolding judged
    whole_refused {u} z y = unsent_delivered (ap₂ (λ (n : ℕ) (r : Read). judged n s r) zero_is (by_refusal z)) y

    pub whole_short : {g : Shape} {r : Sent} {b : List ℕ} → a ≡ Ok g → length b < length s → r ≡ refused_by 15 0 → Delivered (judged f s R) r b b
    whole_short z h y = short_delivered (whole z) h y

    pub whole_sent : {g : Shape} {r : Sent} {b b' : List ℕ} → a ≡ Ok g → length s ≤ length b → r ≡ Ok (length s) → b' ≡ s ++ drop (length s) b → Delivered (judged f s R) r b b'
    whole_sent z h y x = sent_delivered (whole z) h y x

  -- a fault of the tables
  module _ {f : ℕ} (some : 0 < f) (s : List ℕ) where
    pub fault_job : {g : Shape} {r : Sent} {b : List ℕ} → a ≡ Ok g → r ≡ refused_by f (length s) → Delivered (judged f s R) r b b
    unfolding judged
    fault_job {g} z y = unsent_delivered (ap (judged f s) (by_job z).1 ∙ at f some (by_job z).0) y
      where
        at : (k : ℕ) → 0 < k → (K : Job) → judged k s (read K) ≡ unsent_at k (length s)
        at zero h K = absurd (omega arith)
        at (suc k) h K = refl

    pub fault_later : {u : Refusal} {r : Sent} {b : List ℕ} → a ≡ Err u → length s ≤ u.place → r ≡ refused_by f (length s) → Delivered (judged f s R) r b b
    unfolding judged
    fault_later {u} z h y = unsent_delivered (ap (judged f s) (by_refusal z) ∙ at f some) y
      where
        at : (k : ℕ) → 0 < k → judged k s (refused (record { number = u.number; place = u.place })) ≡ unsent_at k (length s)
        at zero l = absurd (omega arith)
        at (suc k) l = rw (le-ltb u.place (length s) h)

    pub fault_first : {u : Refusal} {r : Sent} {b : List ℕ} → a ≡ Err u → u.place < length s → r ≡ Err u → Delivered (judged f s R) r b b
    unfolding judged
    fault_first {u} z h y = unsent_delivered (ap (judged f s) (by_refusal z) ∙ at f some) y
      where
        at : (k : ℕ) → 0 < k → judged k s (refused (record { number = u.number; place = u.place })) ≡ unsent_at u.number u.place
        at zero l = absurd (omega arith)
        at (suc k) l = rw (lt-ltb u.place (length s) h)

-- The pen

pub no_fault : (p : Pen) {n : ℕ} → p ≡ Ok n → fault_in p ≤ 0
no_fault (Ok m) e = omega arith
no_fault (Err q) e = absurd (let z : ◌≡◌ {A = ℕ} 0 1 = cc in omega arith)

pub some_fault : (p : Pen) {k : Refusal} → p ≡ Err k → IfErr p (λ q. 0 < q.number) → 0 < fault_in p
some_fault (Ok m) e h = absurd (let z : ◌≡◌ {A = ℕ} 0 1 = cc in omega arith)
some_fault (Err q) e h = h

pub reach_is : (p : Pen) {n l : ℕ} → p ≡ Ok n → reach_of p ≡ l → n ≡ l
reach_is (Ok m) e h = cc
reach_is (Err q) e h = absurd (let z : ◌≡◌ {A = ℕ} 0 1 = cc in omega arith)

pub place_is : (p : Pen) {k : Refusal} {l : ℕ} → p ≡ Err k → reach_of p ≡ l → k.place ≡ l
place_is (Ok m) e h = absurd (let z : ◌≡◌ {A = ℕ} 0 1 = cc in omega arith)
place_is (Err q) {k} e h = let z : q ≡ k = cc in ap (λ (t : Refusal). t.place) (sym z) ∙ h

pub fault_is : (p : Pen) {k : Refusal} {l : ℕ} → p ≡ Err k → reach_of p ≡ l → Err k ≡ refused_by (fault_in p) l
fault_is (Ok m) e h = absurd (let z : ◌≡◌ {A = ℕ} 0 1 = cc in omega arith)
fault_is (Err q) {k} e h = let z : q ≡ k = cc in ap Err (sym z) ∙ ap (λ (m : ℕ). refused_by q.number m) h

-- The scratch

-- what is laid from the start on stands there
front : (l b : List ℕ) → length b ≤ length l → take (length b) (sets l 0 b) ≡ b
front l b h = let z : 0 + length b ≤ length l = omega (arith, h) in ap (take (length b)) (sets-eq b l 0 z) ∙ take-append_seam b (drop (0 + length b) l)

pub take_all : (n : ℕ) (l : List ℕ) → n ≤ length l → n ≡ length (take n l)
take_all n l h = sym (length-take-le n l h)

-- the bytes are within the scratch
pub in_scratch : {w : JobTables} {c : Counts} {l m : List ℕ} {pen : Pen} {n : ℕ} → n ≡ reach_of pen → Encoded w c l m pen → length l ≡ most_scratch → n ≤ length m
in_scratch {w} {c} {l} {m} z e h = omega (arith, z, e.room, h, ap (λ (t : List ℕ). length t) e.penned.bytes, length-sets l 0 (script (items w c)).bytes)

-- Writing

module _ {w x : JobTables} {c : Counts} {b b' : List ℕ} {r : Sent} (same : x ≡ w) where
  write_long : {l m : List ℕ} {pen : Pen} → short w ≡ false → Encoded w c l m pen → reach_of pen ≤ length m
      → Delivered (judged (fault_in pen) (take (reach_of pen) m) (reading (take (reach_of pen) m))) r b b' → WriteTo w x c r b b'
  unfolding write_with writing.writing
  write_long {l} {m} {pen} h e k d =
      let s : Script = script (items w c) in
      let z = e.penned.reach in
      let whole_length : 0 + length s.bytes ≡ length s.bytes = omega arith in
      let long : length s.bytes ≤ length l = omega (arith, z, k, ap (λ (t : List ℕ). length t) e.penned.bytes, length-sets l 0 s.bytes) in
      let bytes : take (reach_of pen) m ≡ s.bytes = ap₂ (λ (n : ℕ) t. take n t) (z ∙ whole_length) e.penned.bytes ∙ front l s.bytes long in
      let is : judged (fault_in pen) (take (reach_of pen) m) (reading (take (reach_of pen) m)) ≡ judged s.fault s.bytes (reading s.bytes) =
      ap₂ (λ (n : ℕ) t. judged n t (reading t)) e.penned.fault_is bytes in
      let all : write_with w c (length b) ≡ fitting (length b) (judged (fault_in pen) (take (reach_of pen) m) (reading (take (reach_of pen) m))) =
      ap (λ (q : Bool). cond q (unsent_at 1 0) (fitting (length b) (judged s.fault s.bytes (reading s.bytes)))) h ∙ ap (fitting (length b)) (sym is) in
      record { answer = d.answer ∙ ap answer_of (sym all); buffer = d.buffer ∙ ap (λ t. buffer_after t b) (sym all); tables = same }

  pub write_sent : {l m : List ℕ} {pen : Pen} {n : ℕ} → n ≡ reach_of pen → short w ≡ false → Encoded w c l m pen → n ≤ length m
      → Delivered (judged (fault_in pen) (take n m) (reading (take n m))) r b b' → WriteTo w x c r b b'
  write_sent {l} {m} {pen} {n} z h e k d = write_long h e (omega (arith, z, k)) (subst (λ (i : ℕ). Delivered (judged (fault_in pen) (take i m) (reading (take i m))) r b b') z d)

  pub write_short : short w ≡ true → r ≡ refused_by 1 0 → b' ≡ b → WriteTo w x c r b b'
  unfolding write_with answer_of buffer_after
  write_short h z y =
      let all : write_with w c (length b) ≡ unsent_at 1 0 = ap (λ (q : Bool). cond q (unsent_at 1 0) (fitting (length b) (writing.writing w c))) h in
      record { answer = z ∙ ap answer_of (sym all); buffer = y ∙ ap (λ t. buffer_after t b) (sym all); tables = same }
