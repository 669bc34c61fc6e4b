-- The threads in words: a thread that is put into its part, and the lists of threads before and after.
use mathlib.Core.Path.{◌≡◌, refl, ap, ◌∙◌}
use Prim.Native.Nat.{ℕ, zero, suc, ◌+◌, ◌-◌, ◌*◌, ◌≤◌, ◌<◌}
use native.Mathlib.Omega.{arith}
use mathlib.Core.Bool.{Bool, true, false}
use mathlib.Core.List.{List}
use lib.Dec.{eqb}
use lib.ListN.{length, length-set, get_or, set, replicate}
use lib.Seq.{get_or-set_same, get_or-set_other}
use borrow.Author.Tests.{eqb-true, eqb-false}
use borrow.Rule.Slice.PartMut.{mid_of, put_mid}
use Rattle.semantics.specs.Machine.{k_num, unkeyed, enter, hand, Frame, most_frames, most_threads}
use Rattle.semantics.specs.Step.{fresh}
use Rattle.store.specs.Meaning.{keys_in}
use Rattle.store.specs.Words.{word_in}
use Rattle.store.specs.Frames.{threads_words}
use Rattle.store.specs.Tables.{capped}
use Rattle.store.proofs.Laws.{cap_le}
use Rattle.acts.specs.declared.Control.TheVariants.{Hand}
use Rattle.acts.specs.Meaning.{control_in}
use Rattle.thread.specs.declared.Thread.{Thread}
use Rattle.thread.specs.Own.{own_in, with_control, Owned}
use Rattle.thread.proofs.Owns.{kept_stack}
use Rattle.machine.specs.Scheduled.{thread_in, part_of, idle, thread_at, listed, own_at, PutAt, Started}
use Rattle.machine.specs.Listed.{listed_same}
use Rattle.machine.proofs.Parts.{part_is, part_here, part_there}

-- the words b of a thread that stands as x, over the frames of a
pub owned_thread : {a b : List ℕ} {x : Thread} → Owned a b x → thread_in (own_in b) b ≡ thread_in x a
owned_thread {a} {b} {x} o =
    ap (λ (y : Thread). thread_in y b) o.is
    ∙ ap (λ (f : List Frame). record { control = control_in x.now.control; env = x.now.env; on = keys_in x.now.on; frames = f })
    (kept_stack a b o.frames (capped x.frames most_frames) (cap_le x.frames most_frames))

-- a thread is put into its part, which is then put back
pub put_part : (i : ℕ) (xs ys : List ℕ) {t : Thread} → i < 8 → length xs ≡ 12336 → length ys ≡ 1542 → Owned (mid_of (i * 1542) ((i + 1) * 1542 - i * 1542) xs) ys t
    → PutAt xs (put_mid (i * 1542) ((i + 1) * 1542 - i * 1542) xs ys) i t
put_part i xs ys hi hx hy o = record { is = rw (part_here i xs ys hi hx hy, part_is i xs) o; others = part_there i xs ys hi hx hy }

-- thread i, which stands as t, starts thread k
module _ {a b d : List ℕ} {i k : ℕ} {t n o : Thread} (slots : List ℕ) (less : i < k) (is : t ≡ own_in (part_of a i))
    (new : (e : ℕ) (fs : List ℕ) → control_in t.now.control ≡ enter e → thread_in n fs ≡ fresh (get_or slots (e * 5) 0) t.now.env)
    (handing : o ≡ with_control t (Hand 0)) (p : PutAt a b k n) (q : PutAt b d i o) where
  started_new : (e : ℕ) → (own_at a i).control ≡ enter e → own_at d k ≡ fresh (get_or slots (e * 5) 0) (own_at a i).env
  unfolding own_at
  started_new e h =
      ap (λ (l : List ℕ). thread_in (own_in l) l) (q.others k (λ z. omega arith))
      ∙ ap (λ (y : Thread). thread_in y (part_of b k)) p.is.is
      ∙ new e (part_of b k) (ap (λ (y : Thread). control_in y.now.control) is ∙ h)
      ∙ ap (λ (y : Thread). fresh (get_or slots (e * 5) 0) y.now.env) is

  started_own : own_at d i ≡ record { control = hand (unkeyed (k_num 0)); env = (own_at a i).env; on = (own_at a i).on; frames = (own_at a i).frames }
  unfolding own_at word_in
  started_own =
      owned_thread q.is
      ∙ ap (λ (y : Thread). thread_in y (part_of b i)) (handing ∙ ap (λ (y : Thread). with_control y (Hand 0)) is)
      ∙ ap (λ (l : List ℕ). thread_in (with_control (own_in (part_of a i)) (Hand 0)) l) (p.others i (λ z. omega arith))

  started_others : (j : ℕ) → (j ≡ i → ⊥) → (j ≡ k → ⊥) → own_at d j ≡ own_at a j
  unfolding own_at
  started_others j u v = ap (λ (l : List ℕ). thread_in (own_in l) l) (q.others j u ∙ p.others j v)

  pub started : Started a d i k slots
  started = record { new = started_new; own = started_own; others = started_others }

-- All threads are put, one after another

-- the first i are put
pub record PutTo (ts : List Thread) (a b : List ℕ) (i : ℕ) : Type 0 where
  pub long : length b ≡ threads_words
  pub few : i ≤ most_threads
  pub put : (j : ℕ) → j < i → Owned (part_of a j) (part_of b j) (get_or ts j idle)
  pub rest : (j : ℕ) → i ≤ j → part_of b j ≡ part_of a j

pub put_none : (ts : List Thread) (a : List ℕ) → length a ≡ threads_words → PutTo ts a a 0
put_none ts a l = record { long = l; few = omega arith; put = λ j h. absurd (omega arith); rest = λ j h. refl }

pub put_more : {ts : List Thread} {a b d : List ℕ} {i : ℕ} → PutTo ts a b i → i < most_threads → length d ≡ threads_words → PutAt b d i (get_or ts i idle) → PutTo ts a d (i + 1)
put_more {ts} {a} {b} {d} {i} v l g p = record { long = g; few = omega arith; put = λ j h. at j h (eqb j i) refl; rest = λ j h. p.others j (λ z. omega arith) ∙ v.rest j (omega arith) }
  where
    at : (j : ℕ) → j < i + 1 → (x : Bool) → eqb j i ≡ x → Owned (part_of a j) (part_of d j) (get_or ts j idle)
    at j h true e = let z : j ≡ i = eqb-true j i e in rw (z, ← v.rest i (omega arith)) p.is
    at j h false e = let z : j ≡ i → ⊥ = eqb-false j i e in rw (p.others j z) (v.put j (omega (arith, z)))

pub put_all : {ts : List Thread} {a b : List ℕ} {i : ℕ} → PutTo ts a b i → most_threads ≤ i → (j : ℕ) → j < most_threads → Owned (part_of a j) (part_of b j) (get_or ts j idle)
put_all v l j h = v.put j (omega arith)

-- All threads are read, one after another

-- the first i are read
pub record ReadTo (a : List ℕ) (ts : List Thread) (i : ℕ) : Type 0 where
  pub long : length ts ≡ most_threads
  pub few : i ≤ most_threads
  pub is : (j : ℕ) → j < i → get_or ts j idle ≡ own_in (part_of a j)

pub read_first : (a : List ℕ) (t : Thread) → t ≡ own_in (part_of a 0) → ReadTo a (replicate 8 t) 1
read_first a t e = record { long = refl; few = omega arith; is = at }
  where
    at : (j : ℕ) → j < 1 → get_or (replicate 8 t) j idle ≡ own_in (part_of a j)
    at zero h = e
    at (suc j) h = absurd (omega arith)

pub read_more : {a : List ℕ} {ts : List Thread} {i : ℕ} {t : Thread} → ReadTo a ts i → i < most_threads → t ≡ own_in (part_of a i) → ReadTo a (set ts i t) (i + 1)
read_more {a} {ts} {i} {t} v l e = record { long = simp length-set v.long; few = omega arith; is = λ j h. at j h (eqb j i) refl }
  where
    at : (j : ℕ) → j < i + 1 → (x : Bool) → eqb j i ≡ x → get_or (set ts i t) j idle ≡ own_in (part_of a j)
    at j h true q = let z : j ≡ i = eqb-true j i q in rw z (get_or-set_same ts i t idle (omega (arith, v.long)) ∙ e)
    at j h false q = let z : j ≡ i → ⊥ = eqb-false j i q in get_or-set_other ts i j t idle z ∙ v.is j (omega (arith, z))

pub read_all : {a : List ℕ} {ts : List Thread} {i : ℕ} → ReadTo a ts i → most_threads ≤ i → (j : ℕ) → j < most_threads → get_or ts j idle ≡ own_in (part_of a j)
read_all v l j h = v.is j (omega arith)

-- The lists of them

-- the words in which threads are put stand for these threads, with the frames that there were
pub put_listed : (ts : List Thread) (a b : List ℕ) (n : ℕ) → n ≤ most_threads → ((j : ℕ) → j < most_threads → Owned (part_of a j) (part_of b j) (get_or ts j idle)) → listed (own_at b) n ≡ listed (thread_at ts a) n
unfolding own_at thread_at
put_listed ts a b n l h = listed_same (own_at b) (thread_at ts a) n (λ j g. owned_thread (h j (omega arith)))

-- the threads that are read stand for the same, with the frames that there are
pub read_listed : (ts : List Thread) (a : List ℕ) (n : ℕ) → n ≤ most_threads → ((j : ℕ) → j < most_threads → get_or ts j idle ≡ own_in (part_of a j)) → listed (thread_at ts a) n ≡ listed (own_at a) n
unfolding own_at thread_at
read_listed ts a n l h = listed_same (thread_at ts a) (own_at a) n (λ j g. ap (λ (y : Thread). thread_in y (part_of a j)) (h j (omega arith)))
