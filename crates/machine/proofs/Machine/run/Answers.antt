use Rattle.syntax.specs.Words.{code_in}
use Rattle.machine.proofs.Tells.{run_told}
use borrow.Author.Rules.{rules}
use Rattle.machine.proofs.Machine.run.Goals as goal

pub returns : goal.returns
returns c = run_told (code_in c.args.heads.now c.args.slots.now) c.args.self c.args.frames.now _ (search rules) c.call.ensures
