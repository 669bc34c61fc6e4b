-- The threads of a machine and its store in words, seen as the machine of the semantics.
use Rattle.std.specs.Prelude as std
use Rattle.std.specs.Prelude.{◌≡◌, Some, None, ℕ, zero, suc, ◌*◌, Bool, List, [], ◌∷◌, ◌++◌, get_or, take, drop, eqb}
use Rattle.std.proofs.Math.Option.{Option, none, some}
use Rattle.semantics.specs.Machine.{k_num, unkeyed, enter, hand, Thread as SThread, Store, System, most_frames, most_cells, most_keys, most_pairs, most_functions, most_bindings}
use Rattle.semantics.specs.Step.{fresh}
use Rattle.semantics.specs.Threads.{Turn}
use Rattle.store.specs.declared.Used.{Used}
use Rattle.store.specs.Meaning.{keys_in}
use Rattle.store.specs.Words.{cell_in, pair_in, function_in, link_in, up_in}
use Rattle.store.specs.Frames.{frame_in, thread_words}
use Rattle.store.specs.Tables.{capped, list_of, stack_of}
use Rattle.acts.specs.declared.Control.TheVariants.{Enter}
use Rattle.acts.specs.Meaning.{control_in, answer_in}
use Rattle.acts.specs.View.{Tables}
use Rattle.thread.specs.declared.Thread.{Thread}
use Rattle.thread.specs.Own.{own_in, Owned}
use Rattle.machine.specs.declared.Scheduler.{Scheduler}
use Rattle.machine.specs.declared.Turned.{Turned}
use Rattle.machine.specs.declared.Turn as declared
use Rattle.machine.specs.Turns as turns

-- a thread, with its part of the words, of which the frames are read
abbrev pub thread_in : Thread → List ℕ → SThread
thread_in t fs = record { control = control_in t.now.control; env = t.now.env; on = keys_in t.now.on; frames = stack_of frame_in fs (capped t.frames most_frames) }

-- thread i's part of the words of all
unfoldable pub part_of : List ℕ → ℕ → List ℕ
part_of fs i = take thread_words (drop (i * thread_words) fs)

-- what stands where there is no thread
abbrev pub idle : Thread
idle = record { now = record { control = Enter (record { 0 = 0 }); env = 0; on = record { 0 = 0; 1 = 0 } }; frames = 0 }

unfoldable pub thread_at : List Thread → List ℕ → ℕ → SThread
thread_at ts fs i = thread_in (get_or ts i idle) (part_of fs i)

-- the first n, by number
unfoldable pub listed : {A : Type 0} → (ℕ → A) → ℕ → List A
listed f zero = []
listed f (suc n) = listed f n ++ (f n ∷ [])

-- the store: of each table the entries that are used, never more than it has places
abbrev pub store_in : Used → Tables → Store
store_in u w =
    record {
      cells = list_of cell_in w.cells (capped u.cells most_cells);
      keys = list_of up_in w.keys (capped u.keys most_keys);
      pairs = list_of pair_in w.pairs (capped u.pairs most_pairs);
      functions = list_of function_in w.functions (capped u.functions most_functions);
      bindings = list_of link_in w.bindings (capped u.bindings most_bindings);
    }

-- so many threads, the round, one more than who stepped last, and the store
abbrev pub system_of : List Thread → ℕ → ℕ → ℕ → Used → Tables → System
system_of ts n r f u w = record { threads = listed (thread_at ts w.frames) n; store = store_in u w; round = r; from = f }

-- thread i by its own words
unfoldable pub own_at : List ℕ → ℕ → SThread
own_at fs i = thread_in (own_in (part_of fs i)) (part_of fs i)

-- the same where the threads stand in the words
abbrev pub system_in : Scheduler → Tables → System
system_in c w = record { threads = listed (own_at w.frames) c.count; store = store_in c.used w; round = c.round; from = c.from }

-- `b` is `a` with thread i as t, over the frames that it has
pub record PutAt (a b : List ℕ) (i : ℕ) (t : Thread) : Type 0 where
  pub is : Owned (part_of a i) (part_of b i) t
  pub others : (j : ℕ) → (j ≡ i → ⊥) → part_of b j ≡ part_of a j

-- `b` is `a` with thread k started by thread i, which enters a 0x42 and hands on 0
pub record Started (a b : List ℕ) (i k : ℕ) (slots : List ℕ) : Type 0 where
  pub new : (e : ℕ) → (own_at a i).control ≡ enter e → own_at b k ≡ fresh (get_or slots (e * 5) 0) (own_at a i).env
  pub own : own_at b i ≡ record { control = hand (unkeyed (k_num 0)); env = (own_at a i).env; on = (own_at a i).on; frames = (own_at a i).frames }
  pub others : (j : ℕ) → (j ≡ i → ⊥) → (j ≡ k → ⊥) → own_at b j ≡ own_at a j

-- thread j is marked: it may have a turn
unfoldable pub marked : List ℕ → ℕ → Bool
marked l j = eqb (get_or l j 0) 1

-- whose turn it is; none where nobody has one
abbrev pub whose_in : std.Option declared.Turn → Option Turn
whose_in (Some t) = some (record { at = t.at; round = t.round })
whose_in None = none

abbrev pub turned_in : Turned → Tables → turns.Turned
turned_in r w = turns.turned (answer_in r.answer) r.scheduler.rest r.thread (system_in r.scheduler w)
