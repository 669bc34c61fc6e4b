-- The invariant of all threads over one store, and that every turn keeps it: a step of one thread leaves the others well typed, and the thread that it starts is. Every turn keeps the room of all, too.
use Rattle.std.specs.Prelude.{◌≡◌, ℕ, ◌≤◌, Bool, true, false, List, [], ◌∷◌, length}
use Rattle.std.proofs.Math.Option.{none}
use Rattle.order.specs.Bools.{◌and◌}
use Rattle.syntax.specs.Job.{Src}
use Rattle.typing.specs.Rules.{code_of}
use Rattle.semantics.specs.Machine.{Thread, System, most_cells, most_keys, most_pairs, most_functions, most_frames, most_bindings, most_threads}
use Rattle.semantics.specs.Wants.{needs, lacks}
use Rattle.semantics.specs.Invariant.{TwoTy, FnTy, World, world_of, StoreOk, KeysOk, ThreadOk}
use Rattle.semantics.specs.RuntimeTypes.{RTy}
use Rattle.semantics.specs.Threads.{alone, live, next, Turn, Took, t_step, t_none, t_room, Asked}

-- every thread of a list
pub data Each (P : Thread → Type 0) : List Thread → Type 0 where
  each_nil : Each P []
  each_cons : {t : Thread} {l : List Thread} → P t → Each P l → Each P (t ∷ l)

abbrev pub ThreadIn : Src → World → Thread → Type 0
ThreadIn S W t = ThreadOk S W t.control t.env t.on t.frames

-- the store, and all threads over it
pub record SystemOk (S : Src) (s : System) : Type 0 where
  pub pt : List TwoTy
  pub ft : List FnTy
  pub ct : List RTy
  pub keys : KeysOk s.store.keys
  pub few : length s.store.bindings ≤ most_bindings
  pub store : StoreOk S (world_of pt ft ct s.store) s.store.cells s.store.pairs s.store.functions
  pub threads : Each (λ t. ThreadIn S (world_of pt ft ct s.store) t) s.threads
  pub most : length s.threads ≤ most_threads

-- what a turn of a well-typed machine comes to: never stuck, never denied
pub data TurnGood (S : Src) (may : ℕ → Bool) (s : System) : Took → Type 0 where
  tg_step : {p : Turn} {t : Thread} {u : System} → Asked may s p t → lacks (needs (code_of S)) (alone s t) ≡ false → SystemOk S u → TurnGood S may s (t_step p.at u)
  tg_none : next (λ i. live s i and may i) s ≡ none → TurnGood S may s t_none
  tg_room : {p : Turn} {t : Thread} → Asked may s p t → lacks (needs (code_of S)) (alone s t) ≡ true → TurnGood S may s (t_room p.at)

-- "Each has 256 frames; other room is shared": every thread has no more frames than that, what they share is within its room, and there are at most eight threads
pub record Roomy (s : System) : Type 0 where
  pub cells : length s.store.cells ≤ most_cells
  pub keys : length s.store.keys ≤ most_keys
  pub pairs : length s.store.pairs ≤ most_pairs
  pub functions : length s.store.functions ≤ most_functions
  pub bindings : length s.store.bindings ≤ most_bindings
  pub frames : Each (λ t. length t.frames ≤ most_frames) s.threads
  pub threads : length s.threads ≤ most_threads
