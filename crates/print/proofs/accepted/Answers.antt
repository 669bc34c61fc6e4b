use mathlib.Core.Path.{ap, ◌∙◌}
use Rattle.order.specs.Effects.{of_word}
use Rattle.checker.specs.Answer.{tree_of}
use Rattle.format.specs.Text.{accepted_as}
use Rattle.print.proofs.Prints.{sort_is, job_run, ran_line_lem, accepted_ran}
use Rattle.start.proofs.Starts.{ready_built}
use Rattle.print.proofs.accepted.Goals as goal

pub returns : goal.returns
returns c =
    λ J sets y k.
    let e = c.run-o.ensures in
    let z = job_run J _ _ _ _ e (c.built-m.ensures _ ∙ ready_built y) in
    accepted_ran (tree_of c.args.types.now sets c.args.i) (of_word c.args.s)
    (c.ended.ensures (tree_of c.args.types.now sets c.args.i) (of_word c.args.s) _
    (c.accepted-first.ensures ∙ ap (accepted_as (of_word c.args.s)) (sort_is c.args.types.now sets c.args.i _ _ c.type_sort-sort.ensures c.get_or-w.ensures))
    z.some_thread z.ended)
    (ran_line_lem J _ _ _ _ e (c.built-m.ensures _ ∙ ready_built y) k)
