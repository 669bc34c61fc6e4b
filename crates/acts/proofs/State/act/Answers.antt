use Rattle.store.specs.Frames.{held_in}
use Rattle.acts.specs.View.{view, tables}
use Rattle.store.specs.Words.{word_in}
use mathlib.Core.Path.{ap, sym, ◌∙◌}
use Rattle.acts.specs.Inner.{settled}
use Rattle.acts.proofs.Codes.{code_more, code_limit}
use Rattle.acts.proofs.Acts.{is_stuck}
use Rattle.acts.proofs.State.act.Goals as goal

pub returns-then-head-eq60 : goal.returns-then-head-eq60
returns-then-head-eq60 c = λ ts. c.act_limit.ensures (tables ts c.args.frames.now c.args.cells.now c.args.keys.now c.args.pairs.now c.args.functions.now c.args.bindings.now) ∙ ap (settled (view c.args.self (tables ts c.args.frames.now c.args.cells.now c.args.keys.now c.args.pairs.now c.args.functions.now c.args.bindings.now))) (sym (code_limit c.args.heads.now c.args.slots.now c.args.at.0 _ c.get_or-head.ensures c.args.held (held_in c.args.frames.now c.args.top 0) (held_in c.args.frames.now c.args.top 1) (held_in c.args.frames.now c.args.top 2) (word_in c.args.v) (view c.args.back (tables ts c.args.frames.now c.args.cells.now c.args.keys.now c.args.pairs.now c.args.functions.now c.args.bindings.now)) c.if-head-eq60.true c.get_or.ensures (c.unpack-a.ensures ∙ c.in_hand.ensures) (c.unpack-b.ensures ∙ c.in_hand-then-head-eq60.ensures) (c.unpack-c.ensures ∙ c.in_hand-then-head-eq60-2.ensures) c.unpack-d.ensures))

pub returns-then-held-eq0 : goal.returns-then-held-eq0
returns-then-held-eq0 c = λ ts. simp c.if-held-eq0.true (c.act_one.ensures (tables ts c.args.frames.now c.args.cells.now c.args.keys.now c.args.pairs.now c.args.functions.now c.args.bindings.now))

pub returns-then-held-eq1 : goal.returns-then-held-eq1
returns-then-held-eq1 c = λ ts. simp (c.if-held-eq1.true, ← c.held_at-u.ensures) (c.act_two.ensures (tables ts c.args.frames.now c.args.cells.now c.args.keys.now c.args.pairs.now c.args.functions.now c.args.bindings.now))

pub returns : goal.returns
returns c = λ ts. is_stuck _ (tables ts c.args.frames.now c.args.cells.now c.args.keys.now c.args.pairs.now c.args.functions.now c.args.bindings.now) _ c.stop.ensures (code_more c.args.heads.now c.args.slots.now c.args.at.0 _ c.get_or-head.ensures c.args.held (held_in c.args.frames.now c.args.top 0) (held_in c.args.frames.now c.args.top 1) (held_in c.args.frames.now c.args.top 2) (word_in c.args.v) (view c.args.back (tables ts c.args.frames.now c.args.cells.now c.args.keys.now c.args.pairs.now c.args.functions.now c.args.bindings.now)) c.if-head-eq60.false c.if-held-eq0.false c.if-held-eq1.false)
