use mathlib.Core.Path.{◌≡◌}
use native.Mathlib.Omega.{arith}
use Rattle.results.proofs.Values.{value_nobody, value_first, value_waits}
use Rattle.results.proofs.put_value.Goals as goal
use Rattle.results.proofs.put_value.Goals.{else-count-gt0-via-then-count-gt0+else-all_finished, else-count-gt0-via-else-count-gt0}

pub returns-then-all_finished : goal.returns-then-all_finished
returns-then-all_finished c = value_first c.args.threads c.args.count _ _ c.if-all_finished.true c.all_finished.ensures (λ e. omega arith) c.put_handed.ensures

pub returns-else-count-gt0 : goal.returns-else-count-gt0
returns-else-count-gt0 c =
    elim c.else-count-gt0.branch [
      | else-count-gt0-via-then-count-gt0+else-all_finished w ↦ value_waits c.args.threads c.args.count _ _ w.if-all_finished.false w.all_finished.ensures c.put_two.ensures
      | else-count-gt0-via-else-count-gt0 w ↦ (let none : c.args.count ≡ 0 = omega arith in value_nobody c.args.threads c.args.count _ none c.put_two.ensures)
    ]
