use mathlib.Core.Path.{sym, ap, ◌∙◌}
use Rattle.syntax.specs.Words.{code_in}
use Rattle.acts.specs.View.{tables}
use Rattle.thread.specs.declared.Thread.{Thread}
use Rattle.thread.specs.Inner.{own_state}
use Rattle.thread.proofs.Hands.{by_enter, by_hand}
use Rattle.thread.proofs.stepping.step.Goals as goal

pub returns-in-Enter : goal.returns-in-Enter
returns-in-Enter c = λ ts. by_enter (code_in c.args.heads.now c.args.slots.now) (own_state c.args.used c.args.t.now) (tables ts c.args.t.now c.args.cells.now c.args.keys.now c.args.pairs.now c.args.functions.now c.args.bindings.now) (sym (ap (λ (y : Thread). y.now.control) c.own-x.ensures) ∙ c.in-Enter.is) (c.enter.ensures (tables ts c.args.t.now c.args.cells.now c.args.keys.now c.args.pairs.now c.args.functions.now c.args.bindings.now))

pub returns-in-Hand : goal.returns-in-Hand
returns-in-Hand c = λ ts. by_hand (code_in c.args.heads.now c.args.slots.now) (own_state c.args.used c.args.t.now) (tables ts c.args.t.now c.args.cells.now c.args.keys.now c.args.pairs.now c.args.functions.now c.args.bindings.now) (sym (ap (λ (y : Thread). y.now.control) c.own-x.ensures) ∙ c.in-Hand.is) (c.hand.ensures ts)
