use Rattle.store.proofs.Laws.{min_capped}
use mathlib.Core.Path.{refl, ap, ap₂, ◌∙◌}
use Prim.Native.Nat.{◌-◌}
use native.Mathlib.Omega.{arith}
use Rattle.syntax.specs.Words.{code_in}
use Rattle.semantics.specs.Step.{settle, hand_to}
use Rattle.store.specs.declared.Head.{Head}
use Rattle.store.specs.Words.{word_in}
use Rattle.store.specs.Tables.{capped}
use Rattle.acts.specs.View.{tables, view}
use Rattle.acts.specs.declared.State.{State}
use Rattle.acts.specs.Inner.{settled, resume_of}
use Rattle.acts.proofs.Acts.{is_done_lem}
use Rattle.thread.specs.declared.Thread.{Thread}
use Rattle.thread.specs.View.{state_of}
use Rattle.thread.specs.Inner.{own_state}
use Rattle.thread.proofs.Hands.{top_few, hand_done, hand_held, hand_all}
use Rattle.thread.proofs.Mores.{more_left, more_none, more_few}
use Rattle.thread.proofs.InPlace.{hand_goes, kept_acted}
use borrow.Author.Rules.{rules}
use Rattle.thread.proofs.stepping.hand.Goals as goal

pub returns-then-n-eq0 : goal.returns-then-n-eq0
returns-then-n-eq0 c = λ ts. is_done_lem _ _ _ refl (hand_done (code_in c.args.heads.now c.args.slots.now) (own_state c.args.used c.args.t.now) (tables ts c.args.t.now c.args.cells.now c.args.keys.now c.args.pairs.now c.args.functions.now c.args.bindings.now) (word_in c.args.w) (c.min-n.ensures ∙ min_capped _ _ ∙ ap (λ (y : Thread). capped y.frames 256) c.own-x.ensures) c.if-n-eq0.true)

pub more-requires : goal.more-requires
more-requires c = top_few _ _ _ c.head_at-h.ensures

pub put_held-requires : goal.put_held-requires
put_held-requires c = (search rules, search rules, ap (λ (h : Head). h.held) c.head_at-h.ensures, more_few c.more.ensures c.if-more.true)

pub overflow_add-h : goal.overflow_add-h
overflow_add-h c = omega (arith, top_few _ _ _ c.head_at-h.ensures)

pub put_place-requires : goal.put_place-requires
put_place-requires c = search (c.requires, rules)

pub returns-then-more : goal.returns-then-more
returns-then-more c = λ ts. hand_goes c.args.used (tables ts c.args.t.now c.args.cells.now c.args.keys.now c.args.pairs.now c.args.functions.now c.args.bindings.now) _ _ _ _ _ _ _ c.put_held.ensures.own c.put_control.ensures c.put_place.ensures (view (own_state c.args.used c.args.t.now) (tables ts c.args.t.now c.args.cells.now c.args.keys.now c.args.pairs.now c.args.functions.now c.args.bindings.now)) (settle (hand_to (code_in c.args.heads.now c.args.slots.now) (word_in c.args.w) (view (own_state c.args.used c.args.t.now) (tables ts c.args.t.now c.args.cells.now c.args.keys.now c.args.pairs.now c.args.functions.now c.args.bindings.now)).thread.frames (view (own_state c.args.used c.args.t.now) (tables ts c.args.t.now c.args.cells.now c.args.keys.now c.args.pairs.now c.args.functions.now c.args.bindings.now)))) (hand_held (own_state c.args.used c.args.t.now) (tables ts c.args.t.now c.args.cells.now c.args.keys.now c.args.pairs.now c.args.functions.now c.args.bindings.now) c.args.heads.now c.args.slots.now (word_in c.args.w) _ _ _ _ (c.min-n.ensures ∙ min_capped _ _ ∙ ap (λ (y : Thread). capped y.frames 256) c.own-x.ensures) c.if-n-eq0.false c.head_at-h.ensures c.get_or-head.ensures c.more.ensures.works _ _ (more_left c.more.ensures c.if-more.true) c.put_held.ensures.put c.get_or.ensures)

pub ended-requires : goal.ended-requires
ended-requires c = c.requires

pub returns : goal.returns
returns c = λ ts.
    kept_acted c.args.used (tables ts c.args.t.now c.act-s.new.cells c.act-s.new.keys c.act-s.new.pairs c.args.functions.now c.act-s.new.bindings) (tables ts c.args.t.now c.args.cells.now c.args.keys.now c.args.pairs.now c.args.functions.now c.args.bindings.now) _ _ _ _ c.ended.ensures (settle (hand_to (code_in c.args.heads.now c.args.slots.now) (word_in c.args.w) (view (own_state c.args.used c.args.t.now) (tables ts c.args.t.now c.args.cells.now c.args.keys.now c.args.pairs.now c.args.functions.now c.args.bindings.now)).thread.frames (view (own_state c.args.used c.args.t.now) (tables ts c.args.t.now c.args.cells.now c.args.keys.now c.args.pairs.now c.args.functions.now c.args.bindings.now))))
    (c.act-s.ensures ts
    ∙ ap₂ settled (ap (λ (s : State). view s (tables ts c.args.t.now c.args.cells.now c.args.keys.now c.args.pairs.now c.args.functions.now c.args.bindings.now)) (c.joined-state.ensures ∙ ap (λ (y : Thread). state_of y c.args.used) c.own-x.ensures))
    (hand_all (own_state c.args.used c.args.t.now) (tables ts c.args.t.now c.args.cells.now c.args.keys.now c.args.pairs.now c.args.functions.now c.args.bindings.now) c.args.heads.now c.args.slots.now (word_in c.args.w) _ _ _ _ (c.min-n.ensures ∙ min_capped _ _ ∙ ap (λ (y : Thread). capped y.frames 256) c.own-x.ensures) c.if-n-eq0.false c.head_at-h.ensures c.get_or-head.ensures c.more.ensures.works (more_none c.more.ensures c.if-more.false) (c.resume-back.ensures ∙ ap (λ (s : State). resume_of s (c.min-n.result - 1) c.head_at-h.result.env c.head_at-h.result.on) (c.joined-state.ensures ∙ ap (λ (y : Thread). state_of y c.args.used) c.own-x.ensures))))
