-- The machine where no job is started: nothing is bound, nothing is made, and no key is enabled.
use Rattle.std.specs.Prelude.{◌≡◌, refl, ℕ, Bool, true, false, [], ◌∷◌, eqb}
use Rattle.order.specs.Bools.{◌or◌}
use Rattle.order.specs.Sets.{members, members_from, keep, set_of, some_of}
use Rattle.order.specs.Effects.{pure, set_names, names}
use Rattle.syntax.specs.Job.{Src}
use Rattle.syntax.specs.Tree.{root, predecessor}
use Rattle.semantics.specs.Machine.{enter, Thread, System}
use Rattle.semantics.specs.Keys.{enabled}
use Rattle.semantics.specs.Start.{first_thread, first_store, start_of, named, key_named, valued, add_names, add_values}
use Rattle.semantics.specs.Starting.{Started, started, unstarted}

-- no names, no host values, no rights, no expressions
unfoldable pub no_job : Src
no_job = record { names = []; values = []; rights = pure; cmds = [] }

-- there are the keys 0 and 1, as in every machine, and thread 0
unfoldable pub empty_thread : Thread
empty_thread = record { control = enter 0; env = 0; on = 0; frames = [] }

unfoldable pub empty_machine : System
empty_machine =
    record {
      threads = empty_thread ∷ [];
      store = record { cells = []; keys = 0 ∷ 1 ∷ []; pairs = []; functions = []; bindings = [] };
      round = 0;
      from = 0;
    }

-- the machine of a start; of a refused one, the empty one
unfoldable pub machine_of : Started → System
machine_of (started m) = m
machine_of (unstarted q) = empty_machine

-- it is the start of no job
pub empty_is : start_of no_job ≡ empty_machine
unfolding no_job empty_thread empty_machine start_of first_thread first_store named key_named valued add_names add_values root predecessor set_of set_names names keep members members_from
empty_is = refl

-- key 0 alone is enabled, as always
pub nothing_enabled : (k : ℕ) → enabled empty_machine.store.keys empty_thread.on k ≡ eqb k 0
unfolding empty_thread empty_machine enabled some_of members members_from ◌or◌
nothing_enabled k = at (eqb k 0)
  where
    at : (b : Bool) → (b or false) ≡ b
    at true = refl
    at false = refl
