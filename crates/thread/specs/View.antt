-- A thread over a store, in words.
use Rattle.store.specs.declared.Used.{Used}
use Rattle.thread.specs.declared.Thread.{Thread}
use Rattle.acts.specs.declared.State.{State}

abbrev pub state_of : Thread → Used → State
state_of t u = record { now = t.now; frames = t.frames; cells = u.cells; keys = u.keys; pairs = u.pairs; functions = u.functions; bindings = u.bindings }
