-- Demand 3, from the bytes: whatever the bytes of a job, if the check accepts it, then every list of calls, each a turn or a run with any allowances, made one after another from
-- the machine that starting the job gives, gets only the answers that document 01 allows, each exactly when document 01 has it, as document 02 means it of several threads: "The promise about stuck
-- and denied now covers every thread after any count of turns." `AllGive` says which those are, by "finished" and "needs a place that is not there", which are defined apart from the step; stuck and
-- denied are not among them.
use Rattle.std.specs.Prelude.{ℕ}
use mathlib.Core.List.{List}
use Rattle.syntax.specs.Commands.{Cmd}
use Rattle.syntax.specs.Operands.{nth}
use Rattle.syntax.specs.Job.{Job, source_of}
use Rattle.semantics.specs.Start.{start_of}
use Rattle.semantics.specs.Threads.{Steps, steps_of}
use Rattle.semantics.specs.Calls.{Call, Ran, calls, AllGive}

-- the expressions of a job as it is read
abbrev pub expr_of : Job → ℕ → Cmd ℕ
expr_of J = nth J.cmds

-- its steps
abbrev pub steps_in : Job → Steps
steps_in J = steps_of (expr_of J)

-- the results of a list of calls on the machine that starting the job gives
abbrev pub calls_of : Job → List Call → List Ran
calls_of J cs = calls (steps_in J) cs (start_of (source_of J))

-- what they may be
abbrev pub Allowed : Job → List Call → List Ran → Type 0
Allowed J cs l = AllGive (steps_in J) cs (start_of (source_of J)) l
