use Rattle.std.proofs.Common.{◌*◌, ◌-◌}
use Rattle.calls.specs.Words.{call_words, call_count}
use Rattle.syntax.specs.Words.{code_in}
use Rattle.semantics.specs.Threads.{steps_of}
use Rattle.machine.specs.View.{seen}
use Rattle.calls.proofs.Going.{Going}
use Rattle.calls.proofs.make_calls.Given as goal

abbrev pub invariant-loop-i : goal.invariant-loop-i
invariant-loop-i l = Going (steps_of (code_in l.heads l.slots)) l.calls l.initial.answers (seen l.initial.last l.initial.frames) l.answers (seen l.last l.frames) (l.i * call_words) l.place (call_count l.calls - l.i)
