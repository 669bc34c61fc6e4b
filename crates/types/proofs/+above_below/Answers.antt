use mathlib.Core.Path.{refl, sym, ◌∙◌}
use native.Mathlib.Omega.{arith}
use Rattle.equality.specs.declared.Relation.TheVariants.{Above, Below}
use Rattle.equality.specs.Known.{compared_in, pick, turned_of}
use Rattle.equality.proofs.Known.{known_found, known_kept, no_levels, other_heads, leaves, cells, pairs_first, pairs, other_effects, functions_first, functions}
use Rattle.types.proofs.+above_below.Goals as goal
use Rattle.types.proofs.+above_below.Goals.{above-else-above-via-then-above+else-above-2, above-else-above-via-else-above, above-else-effects-via-then-effects+then-below+else-above-3, above-else-effects-via-then-effects+else-below, above-else-effects-via-else-effects}
use Rattle.types.proofs.+above_below.Goals.{below-else-below-via-then-below+else-below-2, below-else-below-via-else-below, below-else-effects-via-then-effects+then-above+else-below-3, below-else-effects-via-then-effects+else-above, below-else-effects-via-else-effects}

pub above-returns-then-d-eq0 : goal.above-returns-then-d-eq0
unfolding compared_in pick
above-returns-then-d-eq0 t c = (no_levels c.args.table.now.anc.now c.args.table.now.types.now c.args.table.now.sets.now c.args.a c.args.b c.args.d c.if-d-eq0.true Above, c.requires)

pub above-returns-then-not-heads : goal.above-returns-then-not-heads
unfolding compared_in pick
above-returns-then-not-heads t c = (other_heads c.args.table.now.anc.now c.args.table.now.types.now c.args.table.now.sets.now Above c.args.d c.args.a c.args.b c.if-d-eq0.false c.get_or-x.ensures c.get_or-y.ensures c.if-not-heads.ensures refl, c.requires)

pub above-returns-then-recalled : goal.above-returns-then-recalled
unfolding compared_in pick
above-returns-then-recalled t c = (sym (known_found c.args.table.now.anc.now c.args.table.now.types.now c.args.table.now.sets.now c.requires Above c.args.d c.args.a c.args.b c.if-d-eq0.false c.ranges.d.fits c.ranges.a.fits c.ranges.b.fits _ _ c.packed.ensures (sym c.if-recalled.ensures)), c.requires)

pub above-returns-then-above-2 : goal.above-returns-then-above-2
unfolding compared_in pick
above-returns-then-above-2 t c =
    let p = pairs c.args.table.now.anc.now c.args.table.now.types.now c.args.table.now.sets.now Above c.args.d c.args.a c.args.b c.if-d-eq0.false c.get_or-x.ensures c.get_or-y.ensures c.if-not-heads.ensures refl c.byte_of.ensures c.first_of-p.ensures c.first_of-q.ensures c.in-17.is c.if-above.ensures.0 refl c.second_of.ensures c.second_of-then-above.ensures c.if-above-2.ensures.0 in
    (c.remember.ensures.0 ∙ p, rw c.remember.ensures.1 (known_kept c.args.table.now.anc.now c.args.table.now.types.now c.args.table.now.sets.now c.if-above-2.ensures.1 Above c.args.d c.args.a c.args.b c.if-d-eq0.false c.ranges.d.fits c.ranges.a.fits c.ranges.b.fits _ _ c.packed-then-above-2.ensures (sym p)))

pub above-returns-else-above : goal.above-returns-else-above
unfolding compared_in pick
above-returns-else-above t c = elim c.else-above.branch [
  | above-else-above-via-then-above+else-above-2 w ↦ (pairs c.args.table.now.anc.now c.args.table.now.types.now c.args.table.now.sets.now Above c.args.d c.args.a c.args.b c.if-d-eq0.false c.get_or-x.ensures c.get_or-y.ensures c.if-not-heads.ensures refl c.byte_of.ensures c.first_of-p.ensures c.first_of-q.ensures c.in-17.is w.if-above.ensures.0 refl w.second_of.ensures w.second_of-then-above.ensures w.if-above-2.ensures.0, rw w.known-is w.if-above-2.ensures.1)
  | above-else-above-via-else-above w ↦ (pairs_first c.args.table.now.anc.now c.args.table.now.types.now c.args.table.now.sets.now Above c.args.d c.args.a c.args.b c.if-d-eq0.false c.get_or-x.ensures c.get_or-y.ensures c.if-not-heads.ensures refl c.byte_of.ensures c.first_of-p.ensures c.first_of-q.ensures c.in-17.is w.if-above.ensures.0 refl, rw w.known-is w.if-above.ensures.1)
]

pub above-returns-in-18 : goal.above-returns-in-18
unfolding compared_in pick
above-returns-in-18 t c = (cells c.args.table.now.anc.now c.args.table.now.types.now c.args.table.now.sets.now Above c.args.d c.args.a c.args.b c.if-d-eq0.false c.get_or-x.ensures c.get_or-y.ensures c.if-not-heads.ensures refl c.byte_of.ensures c.first_of-p.ensures c.first_of-q.ensures c.in-18.is c.same.ensures.0, c.same.ensures.1)

pub above-returns-then-recalled-2 : goal.above-returns-then-recalled-2
unfolding compared_in pick
above-returns-then-recalled-2 t c = (sym (known_found c.args.table.now.anc.now c.args.table.now.types.now c.args.table.now.sets.now c.requires Above c.args.d c.args.a c.args.b c.if-d-eq0.false c.ranges.d.fits c.ranges.a.fits c.ranges.b.fits _ _ c.packed-in-19.ensures (sym c.if-recalled-2.ensures)), c.requires)

pub above-returns-then-above-3 : goal.above-returns-then-above-3
unfolding compared_in pick turned_of
above-returns-then-above-3 t c =
    let p = functions c.args.table.now.anc.now c.args.table.now.types.now c.args.table.now.sets.now Above c.args.d c.args.a c.args.b c.if-d-eq0.false c.get_or-x.ensures c.get_or-y.ensures c.if-not-heads.ensures refl c.byte_of.ensures c.first_of-p.ensures c.first_of-q.ensures c.in-19.is c.get_or-s.ensures c.get_or-t.ensures c.if-effects.ensures refl c.if-below.ensures.0 refl c.second_of-then-below.ensures c.second_of-then-below-2.ensures c.if-above-3.ensures.0 in
    (c.remember-then-above-3.ensures.0 ∙ p, rw c.remember-then-above-3.ensures.1 (known_kept c.args.table.now.anc.now c.args.table.now.types.now c.args.table.now.sets.now c.if-above-3.ensures.1 Above c.args.d c.args.a c.args.b c.if-d-eq0.false c.ranges.d.fits c.ranges.a.fits c.ranges.b.fits _ _ c.packed-then-above-3.ensures (sym p)))

pub above-returns-else-effects : goal.above-returns-else-effects
unfolding compared_in pick turned_of
above-returns-else-effects t c = elim c.else-effects.branch [
  | above-else-effects-via-then-effects+then-below+else-above-3 w ↦ (functions c.args.table.now.anc.now c.args.table.now.types.now c.args.table.now.sets.now Above c.args.d c.args.a c.args.b c.if-d-eq0.false c.get_or-x.ensures c.get_or-y.ensures c.if-not-heads.ensures refl c.byte_of.ensures c.first_of-p.ensures c.first_of-q.ensures c.in-19.is c.get_or-s.ensures c.get_or-t.ensures w.if-effects.ensures refl w.if-below.ensures.0 refl w.second_of-then-below.ensures w.second_of-then-below-2.ensures w.if-above-3.ensures.0, rw w.known-is w.if-above-3.ensures.1)
  | above-else-effects-via-then-effects+else-below w ↦ (functions_first c.args.table.now.anc.now c.args.table.now.types.now c.args.table.now.sets.now Above c.args.d c.args.a c.args.b c.if-d-eq0.false c.get_or-x.ensures c.get_or-y.ensures c.if-not-heads.ensures refl c.byte_of.ensures c.first_of-p.ensures c.first_of-q.ensures c.in-19.is c.get_or-s.ensures c.get_or-t.ensures w.if-effects.ensures refl w.if-below.ensures.0 refl, rw w.known-is w.if-below.ensures.1)
  | above-else-effects-via-else-effects w ↦ (other_effects c.args.table.now.anc.now c.args.table.now.types.now c.args.table.now.sets.now Above c.args.d c.args.a c.args.b c.if-d-eq0.false c.get_or-x.ensures c.get_or-y.ensures c.if-not-heads.ensures refl c.byte_of.ensures c.in-19.is c.get_or-s.ensures c.get_or-t.ensures w.if-effects.ensures refl, rw w.known-is c.requires)
]

pub above-returns-in_default : goal.above-returns-in_default
unfolding compared_in pick
above-returns-in_default t c = (leaves c.args.table.now.anc.now c.args.table.now.types.now c.args.table.now.sets.now Above c.args.d c.args.a c.args.b c.if-d-eq0.false c.get_or-x.ensures c.get_or-y.ensures c.if-not-heads.ensures refl c.byte_of.ensures (omega arith) (omega arith) (omega arith) c.leaves.ensures, c.requires)

pub below-returns-then-d-eq0 : goal.below-returns-then-d-eq0
unfolding compared_in pick
below-returns-then-d-eq0 t c = (no_levels c.args.table.now.anc.now c.args.table.now.types.now c.args.table.now.sets.now c.args.a c.args.b c.args.d c.if-d-eq0.true Below, c.requires)

pub below-returns-then-not-heads : goal.below-returns-then-not-heads
unfolding compared_in pick
below-returns-then-not-heads t c = (other_heads c.args.table.now.anc.now c.args.table.now.types.now c.args.table.now.sets.now Below c.args.d c.args.a c.args.b c.if-d-eq0.false c.get_or-x.ensures c.get_or-y.ensures c.if-not-heads.ensures refl, c.requires)

pub below-returns-then-recalled : goal.below-returns-then-recalled
unfolding compared_in pick
below-returns-then-recalled t c = (sym (known_found c.args.table.now.anc.now c.args.table.now.types.now c.args.table.now.sets.now c.requires Below c.args.d c.args.a c.args.b c.if-d-eq0.false c.ranges.d.fits c.ranges.a.fits c.ranges.b.fits _ _ c.packed.ensures (sym c.if-recalled.ensures)), c.requires)

pub below-returns-then-below-2 : goal.below-returns-then-below-2
unfolding compared_in pick
below-returns-then-below-2 t c =
    let p = pairs c.args.table.now.anc.now c.args.table.now.types.now c.args.table.now.sets.now Below c.args.d c.args.a c.args.b c.if-d-eq0.false c.get_or-x.ensures c.get_or-y.ensures c.if-not-heads.ensures refl c.byte_of.ensures c.first_of-p.ensures c.first_of-q.ensures c.in-17.is c.if-below.ensures.0 refl c.second_of.ensures c.second_of-then-below.ensures c.if-below-2.ensures.0 in
    (c.remember.ensures.0 ∙ p, rw c.remember.ensures.1 (known_kept c.args.table.now.anc.now c.args.table.now.types.now c.args.table.now.sets.now c.if-below-2.ensures.1 Below c.args.d c.args.a c.args.b c.if-d-eq0.false c.ranges.d.fits c.ranges.a.fits c.ranges.b.fits _ _ c.packed-then-below-2.ensures (sym p)))

pub below-returns-else-below : goal.below-returns-else-below
unfolding compared_in pick
below-returns-else-below t c = elim c.else-below.branch [
  | below-else-below-via-then-below+else-below-2 w ↦ (pairs c.args.table.now.anc.now c.args.table.now.types.now c.args.table.now.sets.now Below c.args.d c.args.a c.args.b c.if-d-eq0.false c.get_or-x.ensures c.get_or-y.ensures c.if-not-heads.ensures refl c.byte_of.ensures c.first_of-p.ensures c.first_of-q.ensures c.in-17.is w.if-below.ensures.0 refl w.second_of.ensures w.second_of-then-below.ensures w.if-below-2.ensures.0, rw w.known-is w.if-below-2.ensures.1)
  | below-else-below-via-else-below w ↦ (pairs_first c.args.table.now.anc.now c.args.table.now.types.now c.args.table.now.sets.now Below c.args.d c.args.a c.args.b c.if-d-eq0.false c.get_or-x.ensures c.get_or-y.ensures c.if-not-heads.ensures refl c.byte_of.ensures c.first_of-p.ensures c.first_of-q.ensures c.in-17.is w.if-below.ensures.0 refl, rw w.known-is w.if-below.ensures.1)
]

pub below-returns-in-18 : goal.below-returns-in-18
unfolding compared_in pick
below-returns-in-18 t c = (cells c.args.table.now.anc.now c.args.table.now.types.now c.args.table.now.sets.now Below c.args.d c.args.a c.args.b c.if-d-eq0.false c.get_or-x.ensures c.get_or-y.ensures c.if-not-heads.ensures refl c.byte_of.ensures c.first_of-p.ensures c.first_of-q.ensures c.in-18.is c.same.ensures.0, c.same.ensures.1)

pub below-returns-then-recalled-2 : goal.below-returns-then-recalled-2
unfolding compared_in pick
below-returns-then-recalled-2 t c = (sym (known_found c.args.table.now.anc.now c.args.table.now.types.now c.args.table.now.sets.now c.requires Below c.args.d c.args.a c.args.b c.if-d-eq0.false c.ranges.d.fits c.ranges.a.fits c.ranges.b.fits _ _ c.packed-in-19.ensures (sym c.if-recalled-2.ensures)), c.requires)

pub below-returns-then-below-3 : goal.below-returns-then-below-3
unfolding compared_in pick turned_of
below-returns-then-below-3 t c =
    let p = functions c.args.table.now.anc.now c.args.table.now.types.now c.args.table.now.sets.now Below c.args.d c.args.a c.args.b c.if-d-eq0.false c.get_or-x.ensures c.get_or-y.ensures c.if-not-heads.ensures refl c.byte_of.ensures c.first_of-p.ensures c.first_of-q.ensures c.in-19.is c.get_or-s.ensures c.get_or-t.ensures c.if-effects.ensures refl c.if-above.ensures.0 refl c.second_of-then-above.ensures c.second_of-then-above-2.ensures c.if-below-3.ensures.0 in
    (c.remember-then-below-3.ensures.0 ∙ p, rw c.remember-then-below-3.ensures.1 (known_kept c.args.table.now.anc.now c.args.table.now.types.now c.args.table.now.sets.now c.if-below-3.ensures.1 Below c.args.d c.args.a c.args.b c.if-d-eq0.false c.ranges.d.fits c.ranges.a.fits c.ranges.b.fits _ _ c.packed-then-below-3.ensures (sym p)))

pub below-returns-else-effects : goal.below-returns-else-effects
unfolding compared_in pick turned_of
below-returns-else-effects t c = elim c.else-effects.branch [
  | below-else-effects-via-then-effects+then-above+else-below-3 w ↦ (functions c.args.table.now.anc.now c.args.table.now.types.now c.args.table.now.sets.now Below c.args.d c.args.a c.args.b c.if-d-eq0.false c.get_or-x.ensures c.get_or-y.ensures c.if-not-heads.ensures refl c.byte_of.ensures c.first_of-p.ensures c.first_of-q.ensures c.in-19.is c.get_or-s.ensures c.get_or-t.ensures w.if-effects.ensures refl w.if-above.ensures.0 refl w.second_of-then-above.ensures w.second_of-then-above-2.ensures w.if-below-3.ensures.0, rw w.known-is w.if-below-3.ensures.1)
  | below-else-effects-via-then-effects+else-above w ↦ (functions_first c.args.table.now.anc.now c.args.table.now.types.now c.args.table.now.sets.now Below c.args.d c.args.a c.args.b c.if-d-eq0.false c.get_or-x.ensures c.get_or-y.ensures c.if-not-heads.ensures refl c.byte_of.ensures c.first_of-p.ensures c.first_of-q.ensures c.in-19.is c.get_or-s.ensures c.get_or-t.ensures w.if-effects.ensures refl w.if-above.ensures.0 refl, rw w.known-is w.if-above.ensures.1)
  | below-else-effects-via-else-effects w ↦ (other_effects c.args.table.now.anc.now c.args.table.now.types.now c.args.table.now.sets.now Below c.args.d c.args.a c.args.b c.if-d-eq0.false c.get_or-x.ensures c.get_or-y.ensures c.if-not-heads.ensures refl c.byte_of.ensures c.in-19.is c.get_or-s.ensures c.get_or-t.ensures w.if-effects.ensures refl, rw w.known-is c.requires)
]

pub below-returns-in_default : goal.below-returns-in_default
unfolding compared_in pick
below-returns-in_default t c = (leaves c.args.table.now.anc.now c.args.table.now.types.now c.args.table.now.sets.now Below c.args.d c.args.a c.args.b c.if-d-eq0.false c.get_or-x.ensures c.get_or-y.ensures c.if-not-heads.ensures refl c.byte_of.ensures (omega arith) (omega arith) (omega arith) c.leaves.ensures, c.requires)
