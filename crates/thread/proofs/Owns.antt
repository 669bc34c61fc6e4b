-- A write to a thread's own words keeps its frames, and a write to its frames keeps its own words.
use Prim.Native.Nat.{ℕ, ◌+◌, ◌*◌, ◌%◌, ◌<◌, ◌≤◌}
use mathlib.Core.Path.{◌≡◌, refl, ap, ◌∙◌}
use mathlib.Core.List.{List}
use native.Mathlib.Omega.{arith}
use mir.Val.{Val}
use denote.Laws.{Is}
use denote.Enum.Declared.{row}
use denote.Enum.Laws.{owed}
use lib.ListN.{length, get_or}
use Rattle.semantics.specs.Machine.{most_frames}
use Rattle.store.specs.declared.Keys.{Keys}
use Rattle.store.specs.Frames.{frame_words, thread_words, head_at, held_in, frame_in}
use Rattle.store.specs.Tables.{stack_of}
use Rattle.store.proofs.Laws.{stack_same}
use Rattle.store.proofs.Writes.{Stored, get_same, get_other, len_set}
use Rattle.acts.specs.declared.Control.{Control}
use Rattle.acts.specs.declared.Control.TheVariants.{Enter, Hand}
use Rattle.acts.specs.contracts.Control.{the_type as control_type}
use Rattle.acts.proofs.Control.TheLaws.{the_laws as control_laws}
use Rattle.thread.specs.declared.Thread.{Thread}
use Rattle.thread.specs.Own.{control_at, flag_of, word_of, own_in, with_control, with_place, with_count, Frames_kept, Owned}

pub owned_then : {a b d : List ℕ} {x y : Thread} → Owned a b x → Owned b d y → Owned a d y
owned_then p q = record { is = q.is; frames = λ i h. q.frames i h ∙ p.frames i h; long = q.long ∙ p.long }

pub kept_own : (a b : List ℕ) → ((j : ℕ) → frame_words ≤ j → get_or b j 0 ≡ get_or a j 0) → own_in b ≡ own_in a
unfolding own_in
kept_own a b h = simp (h 1536 (omega arith), h 1537 (omega arith), h 1538 (omega arith), h 1539 (omega arith), h 1540 (omega arith), h 1541 (omega arith))

pub kept_stack : (a b : List ℕ) → Frames_kept a b → (n : ℕ) → n ≤ most_frames → stack_of frame_in b n ≡ stack_of frame_in a n
kept_stack a b k n h = stack_same frame_in a b n (λ j l. k j (omega arith))

pub kept_frames : (a b : List ℕ) → ((j : ℕ) → j < frame_words → get_or b j 0 ≡ get_or a j 0) → Frames_kept a b
unfolding frame_in head_at held_in
kept_frames a b h i l = simp (h (i * 6) (omega arith), h (i * 6 + 1) (omega arith), h (i * 6 + 2) (omega arith), h (i * 6 + 3 + 0) (omega arith), h (i * 6 + 3 + 1) (omega arith), h (i * 6 + 3 + 2) (omega arith))

-- a word of the thread's own is stored
stored_frames : {a b : List ℕ} {i x : ℕ} → Stored a b i x → frame_words ≤ i → Frames_kept a b
stored_frames {a} {b} e h = kept_frames a b (λ j l. get_other e j (λ z. omega arith))

pub count_owned : {a b : List ℕ} {n : ℕ} → length a ≡ thread_words → Stored a b 1541 n → Owned a b (with_count (own_in a) n)
unfolding own_in
count_owned l e =
    record {
      is = simp (
        get_same e (omega arith),
        get_other e 1536 (λ z. omega arith),
        get_other e 1537 (λ z. omega arith),
        get_other e 1538 (λ z. omega arith),
        get_other e 1539 (λ z. omega arith),
        get_other e 1540 (λ z. omega arith),
      );
      frames = stored_frames e (omega arith);
      long = len_set e;
    }

module _ {a p q r : List ℕ} {env : ℕ} {on : Keys} (l : length a ≡ thread_words) (v : env < 65536)
    (e : Stored a p 1538 env) (f : Stored p q 1539 on.0) (g : Stored q r 1540 on.1) where
  place_other : (j : ℕ) → (j ≡ 1538 → ⊥) → (j ≡ 1539 → ⊥) → (j ≡ 1540 → ⊥) → get_or r j 0 ≡ get_or a j 0
  place_other j x y z = get_other g j z ∙ get_other f j y ∙ get_other e j x

  place_env : get_or r 1538 0 % 65536 ≡ env
  place_env =
      let h : get_or r 1538 0 ≡ env = get_other g 1538 (λ z. omega arith) ∙ get_other f 1538 (λ z. omega arith) ∙ get_same e (omega arith) in
      omega arith

  pub place_owned : Owned a r (with_place (own_in a) env on)
  unfolding own_in
  place_owned =
      record {
        is = simp (
          place_other 1536 (λ z. omega arith) (λ z. omega arith) (λ z. omega arith),
          place_other 1537 (λ z. omega arith) (λ z. omega arith) (λ z. omega arith),
          place_env,
          get_other g 1539 (λ z. omega arith) ∙ get_same f (omega (arith, len_set e)),
          get_same g (omega (arith, len_set e, len_set f)),
          place_other 1541 (λ z. omega arith) (λ z. omega arith) (λ z. omega arith),
        );
        frames = λ i h. stored_frames g (omega arith) i h ∙ stored_frames f (omega arith) i h ∙ stored_frames e (omega arith) i h;
        long = len_set g ∙ len_set f ∙ len_set e;
      }

module _ {a p q : List ℕ} {x y : ℕ} (l : length a ≡ thread_words) (e : Stored a p 1536 x) (f : Stored p q 1537 y) where
  control_other : (j : ℕ) → 1538 ≤ j → get_or q j 0 ≡ get_or a j 0
  control_other j h = get_other f j (λ z. omega arith) ∙ get_other e j (λ z. omega arith)

  pub control_owned : (k : Control) → control_at x y ≡ k → Owned a q (with_control (own_in a) k)
  unfolding own_in
  control_owned k h =
      record {
        is = simp (
          get_other f 1536 (λ z. omega arith) ∙ get_same e (omega arith),
          get_same f (omega (arith, len_set e)),
          h,
          control_other 1538 (omega arith),
          control_other 1539 (omega arith),
          control_other 1540 (omega arith),
          control_other 1541 (omega arith),
        );
        frames = λ i h. stored_frames f (omega arith) i h ∙ stored_frames e (omega arith) i h;
        long = len_set f ∙ len_set e;
      }

-- the words of a control stand for it
pub control_back : (x : Control) (vs : List Val) → Is (row control_type) x vs → control_at (flag_of x) (word_of x) ≡ x
control_back (Enter e) vs p =
    let z : e.0 < 65536 = (owed control_type control_laws (Enter e) vs p).0.1.1.0.1 in
    let q : e.0 % 65536 ≡ e.0 = omega arith in
    rw q
control_back (Hand w) vs p = refl

pub thread_owned :
    {a b d e : List ℕ} (x : Thread) → Owned a b (with_control (own_in a) x.now.control) → Owned b d (with_place (own_in b) x.now.env x.now.on) →
    Owned d e (with_count (own_in d) x.frames) → Owned a e x
thread_owned x p q r =
    record {
      is = r.is ∙ ap (λ (t : Thread). with_count t x.frames) q.is ∙ ap (λ (t : Thread). with_count (with_place t x.now.env x.now.on) x.frames) p.is;
      frames = λ i h. r.frames i h ∙ q.frames i h ∙ p.frames i h;
      long = r.long ∙ q.long ∙ p.long;
    }
