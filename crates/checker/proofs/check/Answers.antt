use Rattle.std.proofs.Common.{sym, arith}
use Rattle.checker.proofs.Checking.{short_to, short_entries, short_effects, load_refused, load_settled}
use Rattle.checker.proofs.check.Goals as goal
use Rattle.checker.proofs.check.Goals.{then-entries-lt-MOST_EXPRESSIONS-via-then-entries-lt-MOST_EXPRESSIONS, then-entries-lt-MOST_EXPRESSIONS-via-else-entries-lt-MOST_EXPRESSIONS+then-effects-lt-MOST_EXPRESSIONS}

pub returns-then-entries-lt-MOST_EXPRESSIONS : goal.returns-then-entries-lt-MOST_EXPRESSIONS
returns-then-entries-lt-MOST_EXPRESSIONS c =
    short_to _ _
    (elim c.then-entries-lt-MOST_EXPRESSIONS.branch [
      | then-entries-lt-MOST_EXPRESSIONS-via-then-entries-lt-MOST_EXPRESSIONS w ↦ short_entries _ w.if-entries-lt-MOST_EXPRESSIONS.true
      | then-entries-lt-MOST_EXPRESSIONS-via-else-entries-lt-MOST_EXPRESSIONS+then-effects-lt-MOST_EXPRESSIONS w ↦ short_effects _ w.if-effects-lt-MOST_EXPRESSIONS.true
    ])

pub returns-in-Ok : goal.returns-in-Ok
returns-in-Ok c = load_settled c.if-entries-lt-MOST_EXPRESSIONS.false c.if-effects-lt-MOST_EXPRESSIONS.false c.load.ensures (λ i. omega (arith, c.type_inv.job i)) c.in-Ok.is (record { names = sym c.load.auto.names; types = sym c.load.auto.types; sets = sym c.load.auto.sets; values = sym c.load.auto.values; heads = sym c.load.auto.heads; slots = sym c.load.auto.slots }) (λ J given. c.settle.ensures _ J given)

pub returns-in-Err : goal.returns-in-Err
returns-in-Err c = load_refused c.if-entries-lt-MOST_EXPRESSIONS.false c.if-effects-lt-MOST_EXPRESSIONS.false c.load.ensures _ c.in-Err.is c.unloaded.ensures.entries c.unloaded.ensures.effects
