-- The lent tables of a contract, before and after a call.
use Rattle.std.specs.Prelude.{ℕ, List}
use Rattle.syntax.specs.Commands.{Cmd}
use Rattle.syntax.specs.Words.{code_in}
use Rattle.semantics.specs.Machine.{Thread as SThread}
use Rattle.table.specs.Lent.{Table, Shown}
use Rattle.acts.specs.View.{Tables, tables}
use Rattle.acts.specs.Inner.{put_cells, put_keys, put_pairs, put_functions, put_bindings}

-- the expressions that the heads and slots hold
abbrev pub lent_code : Shown → Shown → ℕ → Cmd ℕ
lent_code heads slots = code_in heads.entry.now slots.entry.now

-- the machine's six tables, with the threads that there are
abbrev pub before : List SThread → Table → Table → Table → Table → Table → Table → Tables
before ts frames cells keys pairs functions bindings =
    tables ts frames.entry.now cells.entry.now keys.entry.now pairs.entry.now functions.entry.now bindings.entry.now

-- before and after an act, which reads frames and functions and writes the others
abbrev pub before_act : List SThread → Shown → Table → Table → Table → Shown → Table → Tables
before_act ts frames cells keys pairs functions bindings =
    tables ts frames.entry.now cells.entry.now keys.entry.now pairs.entry.now functions.entry.now bindings.entry.now

abbrev pub after_act : List SThread → Shown → Table → Table → Table → Shown → Table → Tables
after_act ts frames cells keys pairs functions bindings =
    tables ts frames.entry.now cells.exit.now keys.exit.now pairs.exit.now functions.entry.now bindings.exit.now

-- the tables that a function is lent, in place of those of w: an act on one value; an act on two, which reads keys and functions; a new key
abbrev pub before_one : Tables → Table → Table → Table → Table → Tables
before_one w cells keys pairs bindings = put_bindings (put_pairs (put_keys (put_cells w cells.entry.now) keys.entry.now) pairs.entry.now) bindings.entry.now

abbrev pub after_one : Tables → Table → Table → Table → Table → Tables
after_one w cells keys pairs bindings = put_bindings (put_pairs (put_keys (put_cells w cells.exit.now) keys.exit.now) pairs.exit.now) bindings.exit.now

abbrev pub before_two : Tables → Table → Shown → Table → Shown → Table → Tables
before_two w cells keys pairs functions bindings =
    put_bindings (put_functions (put_pairs (put_keys (put_cells w cells.entry.now) keys.entry.now) pairs.entry.now) functions.entry.now) bindings.entry.now

abbrev pub after_two : Tables → Table → Shown → Table → Shown → Table → Tables
after_two w cells keys pairs functions bindings =
    put_bindings (put_functions (put_pairs (put_keys (put_cells w cells.exit.now) keys.entry.now) pairs.exit.now) functions.entry.now) bindings.exit.now

abbrev pub before_key : Tables → Table → Table → Table → Tables
before_key w keys pairs bindings = put_bindings (put_pairs (put_keys w keys.entry.now) pairs.entry.now) bindings.entry.now

abbrev pub after_key : Tables → Table → Table → Table → Tables
after_key w keys pairs bindings = put_bindings (put_pairs (put_keys w keys.exit.now) pairs.exit.now) bindings.exit.now
