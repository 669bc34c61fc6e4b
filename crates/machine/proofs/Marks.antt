-- The marks of threads, and the first that is marked.
use mathlib.Core.Path.{◌≡◌, refl, sym, ap, ◌∙◌, subst⁻¹}
use Prim.Native.Nat.{ℕ, zero, suc, ◌+◌, ◌-◌, ◌≤◌, ◌<◌}
use native.Mathlib.Omega.{arith}
use native.Mathlib.Numerals.{add-one}
use mathlib.Core.Bool.{Bool, true, false, cond, not}
use mathlib.Core.List.{List, []}
use mathlib.Core.Option.{none, some}
use lib.Dec.{eqb, ltb}
use lib.ListN.{length, length-set, get_elem?, get_or, set, replicate}
use lib.Seq.{get_or-set_same, get_or-set_other}
use borrow.Author.Tests.{eqb-true, eqb-false, ltb-true, ltb-false, lt-ltb}
use Rattle.semantics.specs.Machine.{most_threads}
use Rattle.semantics.specs.Room.{is_done}
use Rattle.semantics.specs.Threads.{live_thread, first_from}
use Rattle.store.specs.declared.Used.{Used}
use Rattle.table.specs.declared.Expr.{Expr}
use Rattle.acts.specs.declared.Control.TheVariants.{Enter, Hand}
use Rattle.acts.specs.View.{Tables, tables, view}
use Rattle.thread.specs.declared.Thread.{Thread}
use Rattle.thread.specs.View.{state_of}
use Rattle.thread.proofs.Hands.{done_enter, done_hand}
use Rattle.std.specs.Prelude as std
use Rattle.std.specs.Prelude.{Some, None}
use Rattle.machine.specs.declared.Turn as declared
use Rattle.machine.specs.Scheduled.{thread_in, thread_at, part_of, idle, listed, marked, whose_in}
use Rattle.machine.specs.Ahead.{next_in, at_of}
use Rattle.machine.specs.Listed.{listed_get, listed_none}

-- Marks of one thread

abbrev unused : Used
unused = record { cells = 0; keys = 0; pairs = 0; functions = 0; bindings = 0 }

abbrev frames_only : List ℕ → Tables
frames_only fs = tables [] fs [] [] [] [] []

pub mark_enter : (t : Thread) (e : Expr) → t.now.control ≡ Enter e → (fs : List ℕ) → eqb 1 1 ≡ live_thread (some (thread_in t fs))
unfolding live_thread view is_done
mark_enter t e h fs = ap not (done_enter (state_of t unused) (frames_only fs) e h)

pub mark_hand : (t : Thread) (b : Bool) (w : ℕ) → t.now.control ≡ Hand w → eqb t.frames 0 ≡ b → (fs : List ℕ) → not b ≡ live_thread (some (thread_in t fs))
unfolding live_thread view is_done
mark_hand t b w h e fs = ap not (sym e ∙ done_hand (state_of t unused) (frames_only fs) w h)

-- The first that a test holds of

module _ (p : ℕ → Bool) where
  pub first_none : (j e : ℕ) → e ≤ j → first_from p j (e - j) ≡ none
  unfolding first_from
  first_none j e h = let z : e - j ≡ 0 = omega arith in rw z

  next_first : (j k n : ℕ) → k ≡ suc n → first_from p j k ≡ cond (p j) (some j) (first_from p (suc j) n)
  unfolding first_from
  next_first j k n h = rw h

  first_next : (j e : ℕ) → j < e → first_from p j (e - j) ≡ cond (p j) (some j) (first_from p (j + 1) (e - (j + 1)))
  first_next j e h = rw add-one (next_first j (e - j) (e - suc j) (omega arith))

  pub first_here : (j e : ℕ) → j < e → p j ≡ true → first_from p j (e - j) ≡ cond (ltb j e) (some j) none
  first_here j e h q = first_next j e h ∙ simp (q, lt-ltb j e h)

  pub first_after : (j e : ℕ) → j < e → p j ≡ false → first_from p j (e - j) ≡ first_from p (j + 1) (e - (j + 1))
  first_after j e h q = first_next j e h ∙ simp q

-- Marks of the first so many threads

pub none_at : (n j : ℕ) → ◌≡◌ {A = ℕ} (get_or (replicate n 0) j 0) 0
none_at zero j = refl
none_at (suc n) zero = refl
none_at (suc n) (suc j) = none_at n j

-- no mark at first
pub marks_none : (ts : List Thread) (fs : List ℕ) (j : ℕ) → marked (replicate 8 0) j ≡ live_thread (get_elem? (listed (thread_at ts fs) 0) j)
unfolding marked listed live_thread
marks_none ts fs j = rw (none_at 8 j)

listed_off : {A : Type 0} (f : ℕ → A) (i j : ℕ) → (j ≡ i → ⊥) → get_elem? (listed f (i + 1)) j ≡ get_elem? (listed f i) j
listed_off f i j n = at (ltb j i) refl
  where
    at : (b : Bool) → ltb j i ≡ b → get_elem? (listed f (i + 1)) j ≡ get_elem? (listed f i) j
    at true e = let h : j < i = ltb-true j i e in listed_get f (i + 1) j (omega arith) ∙ sym (listed_get f i j h)
    at false e = let h : i ≤ j = ltb-false j i e in listed_none f (i + 1) j (omega (arith, n)) ∙ sym (listed_none f i j h)

-- the mark of one more
pub marks_more : (live : List ℕ) (ts : List Thread) (i m : ℕ) → i < length live → ((fs : List ℕ) → eqb m 1 ≡ live_thread (some (thread_in (get_or ts i idle) fs)))
    → ((fs : List ℕ) (j : ℕ) → marked live j ≡ live_thread (get_elem? (listed (thread_at ts fs) i) j))
    → (fs : List ℕ) (j : ℕ) → marked (set live i m) j ≡ live_thread (get_elem? (listed (thread_at ts fs) (i + 1)) j)
unfolding marked thread_at
marks_more live ts i m h e o fs j = at (eqb j i) refl
  where
    at : (b : Bool) → eqb j i ≡ b → eqb (get_or (set live i m) j 0) 1 ≡ live_thread (get_elem? (listed (thread_at ts fs) (i + 1)) j)
    at true q =
        let z : j ≡ i = eqb-true j i q in
        subst⁻¹ (λ k. eqb (get_or (set live i m) k 0) 1 ≡ live_thread (get_elem? (listed (thread_at ts fs) (i + 1)) k)) z
        (ap (λ k. eqb k 1) (get_or-set_same live i m 0 h) ∙ e (part_of fs i) ∙ ap live_thread (sym (listed_get (thread_at ts fs) (i + 1) i (omega arith))))
    at false q =
        let z : j ≡ i → ⊥ = eqb-false j i q in
        ap (λ k. eqb k 1) (get_or-set_other live i j m 0 z) ∙ o fs j ∙ ap live_thread (sym (listed_off (thread_at ts fs) i j z))

-- Whose turn it is, looked up ahead

-- the thread that the table names
pub known_at : (live : List ℕ) (f n : ℕ) (o : std.Option declared.Turn) (t : declared.Turn) → whose_in o ≡ next_in live f n n → o ≡ Some t → t.at ≡ at_of (next_in live f n n)
unfolding at_of
known_at live f n o t e q = ap at_of (sym (ap whose_in q) ∙ e)

pub known_nobody : (live : List ℕ) (f n : ℕ) (o : std.Option declared.Turn) → whose_in o ≡ next_in live f n n → o ≡ None → 8 ≡ at_of (next_in live f n n)
unfolding at_of
known_nobody live f n o e q = ap at_of (sym (ap whose_in q) ∙ e)

-- the table up to place f
pub record AheadTo (live : List ℕ) (n : ℕ) (a : List ℕ) (f : ℕ) : Type 0 where
  pub long : length a ≡ 9
  pub few : f ≤ 9
  pub is : (g : ℕ) → g < f → get_or a g 0 ≡ at_of (next_in live g n n)

pub ahead_none : (live : List ℕ) (n : ℕ) → AheadTo live n (replicate 9 0) 0
ahead_none live n = record { long = refl; few = omega arith; is = λ g h. absurd (omega arith) }

pub ahead_more : {live : List ℕ} {n : ℕ} {a : List ℕ} {f x : ℕ} → AheadTo live n a f → f < 9 → x ≡ at_of (next_in live f n n) → AheadTo live n (set a f x) (f + 1)
ahead_more {live} {n} {a} {f} {x} v l k = record { long = simp length-set v.long; few = omega arith; is = λ g h. at g h (eqb g f) refl }
  where
    at : (g : ℕ) → g < f + 1 → (b : Bool) → eqb g f ≡ b → get_or (set a f x) g 0 ≡ at_of (next_in live g n n)
    at g h true q = subst⁻¹ (λ (i : ℕ). get_or (set a f x) i 0 ≡ at_of (next_in live i n n)) (eqb-true g f q) (get_or-set_same a f x 0 (omega (arith, v.long, l)) ∙ k)
    at g h false q = get_or-set_other a f g x 0 (eqb-false g f q) ∙ v.is g (let z = eqb-false g f q in omega (arith, h, z))

pub ahead_all : {live : List ℕ} {n : ℕ} {a : List ℕ} {f : ℕ} → AheadTo live n a f → 9 ≤ f → (g : ℕ) → g ≤ most_threads → get_or a g 0 ≡ at_of (next_in live g n n)
ahead_all v l g h = v.is g (omega arith)
