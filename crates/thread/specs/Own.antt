-- A thread's own words, after its frames: whether it hands on a value, that value or the expression to enter, its bindings, its enabled keys in two, and how many frames are used.
use Rattle.std.specs.Prelude.{ℕ, ◌+◌, ◌%◌, ◌<◌, ◌≡◌, cond, List, length, get_or, eqb}
use Rattle.semantics.specs.Machine.{most_frames}
use Rattle.store.specs.declared.Keys.{Keys}
use Rattle.store.specs.Frames.{frame_words, frame_in}
use Rattle.acts.specs.declared.Control.{Control}
use Rattle.acts.specs.declared.Control.TheVariants.{Enter, Hand}
use Rattle.thread.specs.declared.Thread.{Thread}

-- an expression to enter (0), or a value's word to hand on
abbrev pub control_at : ℕ → ℕ → Control
control_at flag w = cond (eqb flag 0) (Enter (record { 0 = w % 65536 })) (Hand w)

-- the two words of a control
abbrev pub flag_of : Control → ℕ
flag_of (Enter e) = 0
flag_of (Hand w) = 1

abbrev pub word_of : Control → ℕ
word_of (Enter e) = e.0
word_of (Hand w) = w

unfoldable pub own_in : List ℕ → Thread
own_in t =
    record {
      now =
          record {
            control = control_at (get_or t frame_words 0) (get_or t (frame_words + 1) 0);
            env = get_or t (frame_words + 2) 0 % 65536;
            on = record { 0 = get_or t (frame_words + 3) 0; 1 = get_or t (frame_words + 4) 0 };
          };
      frames = get_or t (frame_words + 5) 0;
    }

-- the thread with another control, with other bindings and enabled keys, with another count of frames
abbrev pub with_control : Thread → Control → Thread
with_control t c = record { now = record { control = c; env = t.now.env; on = t.now.on }; frames = t.frames }

abbrev pub with_place : Thread → ℕ → Keys → Thread
with_place t env on = record { now = record { control = t.now.control; env = env; on = on }; frames = t.frames }

abbrev pub with_count : Thread → ℕ → Thread
with_count t n = record { now = t.now; frames = n }

-- the same frames
abbrev pub Frames_kept : List ℕ → List ℕ → Type 0
Frames_kept a b = (i : ℕ) → i < most_frames → frame_in b i ≡ frame_in a i

-- `b` is `a` with x as the thread's own words
pub record Owned (a b : List ℕ) (x : Thread) : Type 0 where
  pub is : own_in b ≡ x
  pub frames : Frames_kept a b
  pub long : length b ≡ length a
