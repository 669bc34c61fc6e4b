-- A state and its tables in words, seen as the machine of the semantics.
use Rattle.std.specs.Prelude.{ℕ, List}
use Rattle.semantics.specs.Machine.{Thread as SThread, Machine as Clean, most_frames, most_cells, most_keys, most_pairs, most_functions, most_bindings}
use Rattle.store.specs.Meaning.{keys_in}
use Rattle.store.specs.Words.{cell_in, pair_in, function_in, link_in, up_in}
use Rattle.store.specs.Frames.{frame_in}
use Rattle.store.specs.Tables.{capped, list_of, stack_of}
use Rattle.acts.specs.declared.State.{State}
use Rattle.acts.specs.Meaning.{control_in}

-- the tables' words, and the threads that there are, as a step sees them
pub record Tables : Type 0 where
  pub threads : List SThread
  pub frames : List ℕ
  pub cells : List ℕ
  pub keys : List ℕ
  pub pairs : List ℕ
  pub functions : List ℕ
  pub bindings : List ℕ

abbrev pub tables : List SThread → List ℕ → List ℕ → List ℕ → List ℕ → List ℕ → List ℕ → Tables
tables ts f c k p g b = record { threads = ts; frames = f; cells = c; keys = k; pairs = p; functions = g; bindings = b }

-- of each table the entries that are used, never more than it has places
unfoldable pub view : State → Tables → Clean
view s w =
    record {
      thread =
          record {
            control = control_in s.now.control;
            env = s.now.env;
            on = keys_in s.now.on;
            frames = stack_of frame_in w.frames (capped s.frames most_frames);
          };
      store =
          record {
            cells = list_of cell_in w.cells (capped s.cells most_cells);
            keys = list_of up_in w.keys (capped s.keys most_keys);
            pairs = list_of pair_in w.pairs (capped s.pairs most_pairs);
            functions = list_of function_in w.functions (capped s.functions most_functions);
            bindings = list_of link_in w.bindings (capped s.bindings most_bindings);
          };
      threads = w.threads;
    }
