use Rattle.std.proofs.Common.{sym, ◌∙◌, true≢false, arith}
use Rattle.tree.specs.Passes.{tree_by}
use Rattle.syntax.specs.Tree.{numbered}
use Rattle.tree.specs.Right.{table_right}
use Rattle.tree.proofs.Loops.{limits, in_limits_lem}
use Rattle.tree.proofs.tree.Goals as goal

pub table_check-requires : goal.table_check-requires
table_check-requires c = let l = limits _ _ _ (sym c.in_limits.ensures ∙ c.if-in_limits.true) in (l.some_cmds, l.few_cmds, l.few_names, l.few_types)

pub returns-then-in_limits : goal.returns-then-in_limits
unfolding tree_by
returns-then-in_limits c = record { job = (λ J ok h. c.table_check.ensures ∙ table_right J ok _ _ _ _ _ _ _ _ _ h); always = simp (sym c.in_limits.ensures ∙ c.if-in_limits.true) c.table_check.ensures }

pub returns-else-in_limits : goal.returns-else-in_limits
unfolding tree_by numbered
returns-else-in_limits c =
    let left = sym c.in_limits.ensures ∙ c.if-in_limits.false in
    record { job = (λ J ok h. absurd (true≢false (sym (in_limits_lem _ _ _ (omega (arith, h.cmds_are, ok.some_cmds)) (omega (arith, h.cmds_are, ok.few_cmds)) (omega (arith, h.names_are, ok.few_names)) (omega (arith, h.types_are, ok.few_types))) ∙ left))); always = rw (c.refused.ensures.number, c.refused.ensures.place) (simp left) }
