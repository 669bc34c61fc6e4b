use mathlib.Core.Path.{refl, sym, ◌∙◌}
use native.Mathlib.Omega.{arith}
use Rattle.equality.specs.declared.Relation.TheVariants.{Same}
use Rattle.equality.specs.Known.{compared_in, pick, turned_of}
use Rattle.equality.proofs.Known.{known_found, known_kept, no_levels, other_heads, leaves, cells, pairs_first, pairs, other_effects, functions_first, functions}
use Rattle.equality.proofs.+same.Goals as goal
use Rattle.equality.proofs.+same.Goals.{else-same-via-then-same+else-same-2, else-same-via-else-same, else-effects-via-then-effects+then-same-3+else-same-4, else-effects-via-then-effects+else-same-3, else-effects-via-else-effects}

pub returns-then-d-eq0 : goal.returns-then-d-eq0
unfolding compared_in pick
returns-then-d-eq0 t c = (no_levels c.args.table.now.anc.now c.args.table.now.types.now c.args.table.now.sets.now c.args.a c.args.b c.args.d c.if-d-eq0.true Same, c.requires)

pub returns-then-not-heads : goal.returns-then-not-heads
unfolding compared_in pick
returns-then-not-heads t c = (other_heads c.args.table.now.anc.now c.args.table.now.types.now c.args.table.now.sets.now Same c.args.d c.args.a c.args.b c.if-d-eq0.false c.get_or-x.ensures c.get_or-y.ensures c.if-not-heads.ensures refl, c.requires)

pub returns-then-recalled : goal.returns-then-recalled
unfolding compared_in pick
returns-then-recalled t c = (sym (known_found c.args.table.now.anc.now c.args.table.now.types.now c.args.table.now.sets.now c.requires Same c.args.d c.args.a c.args.b c.if-d-eq0.false c.ranges.d.fits c.ranges.a.fits c.ranges.b.fits _ _ c.packed.ensures (sym c.if-recalled.ensures)), c.requires)

pub returns-then-same-2 : goal.returns-then-same-2
unfolding compared_in pick
returns-then-same-2 t c =
    let p = pairs c.args.table.now.anc.now c.args.table.now.types.now c.args.table.now.sets.now Same c.args.d c.args.a c.args.b c.if-d-eq0.false c.get_or-x.ensures c.get_or-y.ensures c.if-not-heads.ensures refl c.byte_of.ensures c.first_of-p.ensures c.first_of-q.ensures c.in-17.is c.if-same.ensures.0 refl c.second_of.ensures c.second_of-then-same.ensures c.if-same-2.ensures.0 in
    (c.remember.ensures.0 ∙ p, rw c.remember.ensures.1 (known_kept c.args.table.now.anc.now c.args.table.now.types.now c.args.table.now.sets.now c.if-same-2.ensures.1 Same c.args.d c.args.a c.args.b c.if-d-eq0.false c.ranges.d.fits c.ranges.a.fits c.ranges.b.fits _ _ c.packed-then-same-2.ensures (sym p)))

pub returns-else-same : goal.returns-else-same
unfolding compared_in pick
returns-else-same t c = elim c.else-same.branch [
  | else-same-via-then-same+else-same-2 w ↦ (pairs c.args.table.now.anc.now c.args.table.now.types.now c.args.table.now.sets.now Same c.args.d c.args.a c.args.b c.if-d-eq0.false c.get_or-x.ensures c.get_or-y.ensures c.if-not-heads.ensures refl c.byte_of.ensures c.first_of-p.ensures c.first_of-q.ensures c.in-17.is w.if-same.ensures.0 refl w.second_of.ensures w.second_of-then-same.ensures w.if-same-2.ensures.0, rw w.known-is w.if-same-2.ensures.1)
  | else-same-via-else-same w ↦ (pairs_first c.args.table.now.anc.now c.args.table.now.types.now c.args.table.now.sets.now Same c.args.d c.args.a c.args.b c.if-d-eq0.false c.get_or-x.ensures c.get_or-y.ensures c.if-not-heads.ensures refl c.byte_of.ensures c.first_of-p.ensures c.first_of-q.ensures c.in-17.is w.if-same.ensures.0 refl, rw w.known-is w.if-same.ensures.1)
]

pub returns-in-18 : goal.returns-in-18
unfolding compared_in pick
returns-in-18 t c = (cells c.args.table.now.anc.now c.args.table.now.types.now c.args.table.now.sets.now Same c.args.d c.args.a c.args.b c.if-d-eq0.false c.get_or-x.ensures c.get_or-y.ensures c.if-not-heads.ensures refl c.byte_of.ensures c.first_of-p.ensures c.first_of-q.ensures c.in-18.is c.same-in-18.ensures.0, c.same-in-18.ensures.1)

pub returns-then-recalled-2 : goal.returns-then-recalled-2
unfolding compared_in pick
returns-then-recalled-2 t c = (sym (known_found c.args.table.now.anc.now c.args.table.now.types.now c.args.table.now.sets.now c.requires Same c.args.d c.args.a c.args.b c.if-d-eq0.false c.ranges.d.fits c.ranges.a.fits c.ranges.b.fits _ _ c.packed-in-19.ensures (sym c.if-recalled-2.ensures)), c.requires)

pub returns-then-same-4 : goal.returns-then-same-4
unfolding compared_in pick turned_of
returns-then-same-4 t c =
    let p = functions c.args.table.now.anc.now c.args.table.now.types.now c.args.table.now.sets.now Same c.args.d c.args.a c.args.b c.if-d-eq0.false c.get_or-x.ensures c.get_or-y.ensures c.if-not-heads.ensures refl c.byte_of.ensures c.first_of-p.ensures c.first_of-q.ensures c.in-19.is c.get_or-s.ensures c.get_or-t.ensures c.if-effects.ensures refl c.if-same-3.ensures.0 refl c.second_of-then-same-3.ensures c.second_of-then-same-3-2.ensures c.if-same-4.ensures.0 in
    (c.remember-then-same-4.ensures.0 ∙ p, rw c.remember-then-same-4.ensures.1 (known_kept c.args.table.now.anc.now c.args.table.now.types.now c.args.table.now.sets.now c.if-same-4.ensures.1 Same c.args.d c.args.a c.args.b c.if-d-eq0.false c.ranges.d.fits c.ranges.a.fits c.ranges.b.fits _ _ c.packed-then-same-4.ensures (sym p)))

pub returns-else-effects : goal.returns-else-effects
unfolding compared_in pick turned_of
returns-else-effects t c = elim c.else-effects.branch [
  | else-effects-via-then-effects+then-same-3+else-same-4 w ↦ (functions c.args.table.now.anc.now c.args.table.now.types.now c.args.table.now.sets.now Same c.args.d c.args.a c.args.b c.if-d-eq0.false c.get_or-x.ensures c.get_or-y.ensures c.if-not-heads.ensures refl c.byte_of.ensures c.first_of-p.ensures c.first_of-q.ensures c.in-19.is c.get_or-s.ensures c.get_or-t.ensures w.if-effects.ensures refl w.if-same-3.ensures.0 refl w.second_of-then-same-3.ensures w.second_of-then-same-3-2.ensures w.if-same-4.ensures.0, rw w.known-is w.if-same-4.ensures.1)
  | else-effects-via-then-effects+else-same-3 w ↦ (functions_first c.args.table.now.anc.now c.args.table.now.types.now c.args.table.now.sets.now Same c.args.d c.args.a c.args.b c.if-d-eq0.false c.get_or-x.ensures c.get_or-y.ensures c.if-not-heads.ensures refl c.byte_of.ensures c.first_of-p.ensures c.first_of-q.ensures c.in-19.is c.get_or-s.ensures c.get_or-t.ensures w.if-effects.ensures refl w.if-same-3.ensures.0 refl, rw w.known-is w.if-same-3.ensures.1)
  | else-effects-via-else-effects w ↦ (other_effects c.args.table.now.anc.now c.args.table.now.types.now c.args.table.now.sets.now Same c.args.d c.args.a c.args.b c.if-d-eq0.false c.get_or-x.ensures c.get_or-y.ensures c.if-not-heads.ensures refl c.byte_of.ensures c.in-19.is c.get_or-s.ensures c.get_or-t.ensures w.if-effects.ensures refl, rw w.known-is c.requires)
]

pub returns-in_default : goal.returns-in_default
unfolding compared_in pick
returns-in_default t c = (leaves c.args.table.now.anc.now c.args.table.now.types.now c.args.table.now.sets.now Same c.args.d c.args.a c.args.b c.if-d-eq0.false c.get_or-x.ensures c.get_or-y.ensures c.if-not-heads.ensures refl c.byte_of.ensures (omega arith) (omega arith) (omega arith) c.leaves.ensures, c.requires)
