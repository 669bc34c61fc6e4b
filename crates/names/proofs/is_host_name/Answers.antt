use Rattle.std.proofs.Common.{◌<◌, ◌≤◌, ◌-◌, arith, sym, ◌∙◌, eq-eqb, leb-true, ltb-true, ltb-false}
use Rattle.names.proofs.Tables.{host_one, host_low, host_in, host_past}
use Rattle.names.proofs.is_host_name.Goals as goal
use Rattle.names.proofs.is_host_name.Goals.{then-q-ge2, else-q-ge2}

pub returns-then-q-eq1 : goal.returns-then-q-eq1
returns-then-q-eq1 c = eq-eqb _ _ c.if-q-eq1.true ∙ host_one _ _ _ c.if-q-eq1.true

pub returns-then-i-n : goal.returns-then-i-n
returns-then-i-n c =
    elim c.if-q-ge2.branch [
      | then-q-ge2 w ↦ (let h : c.from-i.result - 2 < c.args.n = ltb-true _ _ (sym w.value-is ∙ c.if-i-n.true) in host_in _ _ _ _ c.if-q-eq1.false w.if-q-ge2.true (omega arith) (rw (← c.from-i.ensures) c.get_or.ensures))
      | else-q-ge2 w ↦ absurd (omega (arith, leb-true _ _ (sym w.value-is ∙ c.if-i-n.true)))
    ]

pub returns-else-i-n : goal.returns-else-i-n
returns-else-i-n c =
    elim c.if-q-ge2.branch [
      | then-q-ge2 w ↦ (let h : c.args.n ≤ c.from-i.result - 2 = ltb-false _ _ (sym w.value-is ∙ c.if-i-n.false) in c.if-i-n.false ∙ host_past _ _ _ c.if-q-eq1.false w.if-q-ge2.true (omega arith))
      | else-q-ge2 w ↦ c.if-i-n.false ∙ host_low _ _ _ c.if-q-eq1.false (omega arith)
    ]
