use borrow.Author.Rules.{rules}
use mathlib.Core.Path.{◌∙◌}
use mathlib.Core.List.{[]}
use Rattle.acts.specs.View.{tables}
use Rattle.machine.specs.Turns.{less}
use Rattle.machine.proofs.Rounding.{start_prior, step_prior, all_rounds, i_small, some_steps, few_known, refused, next_round}
use borrow.Enum.Refused.{opened}
use Rattle.machine.proofs.turns.rounds.Goals as goal

pub loop-left-init : goal.loop-left-init
loop-left-init c = start_prior _ _ _ _ _ _ _ _ c.requires.0 c.requires.1 c.requires.2

pub visit-s-requires : goal.visit-s-requires
visit-s-requires c = let h = i_small c.loop-left.invariant.to c.loop-left-test.true in (search (rules, h), c.loop-left.invariant.to.room)

pub offset_bounds-prior-i : goal.offset_bounds-prior-i
offset_bounds-prior-i c = let h = i_small c.loop-left.invariant.to c.loop-left-test.true in search (rules, h)

pub bounds-prior-i : goal.bounds-prior-i
bounds-prior-i c = let h = i_small c.loop-left.invariant.to c.loop-left-test.true in search (rules, h)

pub returns-in_default : goal.returns-in_default
returns-in_default c = λ lv count round step turn z. refused c.loop-left.invariant.to c.loop-left-test.true c.visit-s.result (tables [] c.visit-s.new.words c.visit-s.new.cells c.visit-s.new.keys c.visit-s.new.pairs c.visit-s.new.functions c.visit-s.new.bindings) (c.visit-s.auto.words ∙ c.loop-left.invariant.to.room) c.visit-s.ensures.its c.visit-s.ensures.others (opened c.in_default.in_default-own.keys2) lv count round step turn z

pub offset_bounds-rest-i : goal.offset_bounds-rest-i
offset_bounds-rest-i c = let h = i_small c.loop-left.invariant.to c.loop-left-test.true in search (rules, h)

pub bounds-rest-i : goal.bounds-rest-i
bounds-rest-i c = let h = i_small c.loop-left.invariant.to c.loop-left-test.true in search (rules, h)

pub overflow_sub-rest : goal.overflow_sub-rest
overflow_sub-rest c = let h = some_steps c.loop-left.invariant.to c.loop-left-test.true in search (rules, h)

pub bounds-rest-i-in-loop-left : goal.bounds-rest-i-in-loop-left
bounds-rest-i-in-loop-left c = let h = i_small c.loop-left.invariant.to c.loop-left-test.true in search (rules, h)

pub overflow_add-j : goal.overflow_add-j
overflow_add-j c = let h = i_small c.loop-left.invariant.to c.loop-left-test.true in search (rules, h)

pub offset_bounds-known-i : goal.offset_bounds-known-i
offset_bounds-known-i c = let h = i_small c.loop-left.invariant.to c.loop-left-test.true in search (rules, h)

pub bounds-known-i : goal.bounds-known-i
bounds-known-i c = let h = i_small c.loop-left.invariant.to c.loop-left-test.true in search (rules, h)

pub offset_bounds-prior-j : goal.offset_bounds-prior-j
offset_bounds-prior-j c = let k = few_known c.loop-left.invariant.to c.loop-left-test.true c.requires.4 in search (rules, k)

pub bounds-prior-j : goal.bounds-prior-j
bounds-prior-j c = let k = few_known c.loop-left.invariant.to c.loop-left-test.true c.requires.4 in search (rules, k)

pub loop-left-preserved : goal.loop-left-preserved
unfolding less
loop-left-preserved c = step_prior c.loop-left.prior c.loop-left.invariant.long (next_round c.loop-left.invariant.to c.loop-left-test.true c.visit-s.result (tables [] c.visit-s.new.words c.visit-s.new.cells c.visit-s.new.keys c.visit-s.new.pairs c.visit-s.new.functions c.visit-s.new.bindings) (c.visit-s.auto.words ∙ c.loop-left.invariant.to.room) c.visit-s.ensures.its c.visit-s.ensures.others c.in-Taken.in-Taken-own.keys1 c.requires.3 c.requires.4)

pub offset_bounds-prior-i-2 : goal.offset_bounds-prior-i-2
offset_bounds-prior-i-2 c = let h = c.loop-left.invariant.to.place in search (rules, h)

pub bounds-prior-i-2 : goal.bounds-prior-i-2
bounds-prior-i-2 c = let h = c.loop-left.invariant.to.place in search (rules, h)

pub returns : goal.returns
returns c = λ lv count round step turn z. all_rounds c.loop-left.invariant.to c.loop-left-test.false lv count round step turn z
