-- The lent tables of a contract, before and after a call.
use Rattle.std.specs.Prelude.{List}
use Rattle.semantics.specs.Machine.{Thread as SThread}
use Rattle.table.specs.Lent.{Table, Shown}
use Rattle.acts.specs.View.{Tables, tables}
use Rattle.acts.specs.Inner.{put_frames, put_functions, put_bindings}

abbrev pub after : List SThread → Table → Table → Table → Table → Table → Table → Tables
after ts frames cells keys pairs functions bindings =
    tables ts frames.exit.now cells.exit.now keys.exit.now pairs.exit.now functions.exit.now bindings.exit.now

-- the tables that entering is lent, in place of those of w; it reads bindings
abbrev pub before_enter : Tables → Table → Table → Shown → Tables
before_enter w frames functions bindings = put_bindings (put_functions (put_frames w frames.entry.now) functions.entry.now) bindings.entry.now

abbrev pub after_enter : Tables → Table → Table → Shown → Tables
after_enter w frames functions bindings = put_bindings (put_functions (put_frames w frames.exit.now) functions.exit.now) bindings.entry.now
