use borrow.Author.Tests.{ne_eqb}
use Rattle.encode.specs.Entries.{expr_tail}
use Rattle.syntax.proofs.RowsRead.{bytes_length}
use Rattle.encode.proofs.Laying.{at_most, room_after, two_length, four_length, pushed_none, pushed_then, pushed_as}
use Rattle.encode.proofs.exprs.expr_operands.Goals as goal

pub push8-requires-in-52 : goal.push8-requires-in-52
push8-requires-in-52 c = room_after 2 1 (bytes_length _ _) c.push16-p.ensures (at_most _ 3 10 c.requires)

pub two-requires : goal.two-requires
two-requires c = room_after 1 4 (bytes_length _ _) c.push8-p.ensures (at_most _ 5 8 c.requires)

pub two-requires-in-58 : goal.two-requires-in-58
two-requires-in-58 c = room_after 1 4 (bytes_length _ _) c.push8-p-in-58.ensures (at_most _ 5 8 c.requires)

pub four-q-requires : goal.four-q-requires
four-q-requires c = room_after 1 8 (bytes_length _ _) c.push8-p-in-60.ensures (at_most _ 9 4 c.requires)

pub push16-requires-in-60 : goal.push16-requires-in-60
push16-requires-in-60 c = room_after 8 2 (four_length _ _ _ _) c.four-q.ensures (room_after 1 10 (bytes_length _ _) c.push8-p-in-60.ensures (at_most _ 11 2 c.requires))

pub two-q-requires : goal.two-q-requires
two-q-requires c = room_after 2 4 (bytes_length _ _) c.push16-p-in-62.ensures (at_most _ 6 7 c.requires)

pub push16-requires-in-62 : goal.push16-requires-in-62
push16-requires-in-62 c = room_after 4 2 (two_length _ _) c.two-q.ensures (room_after 2 6 (bytes_length _ _) c.push16-p-in-62.ensures (at_most _ 8 5 c.requires))

pub returns-in-48 : goal.returns-in-48
unfolding expr_tail
returns-in-48 c = pushed_as (simp c.in-48.is) c.push32.ensures

pub returns-in-49 : goal.returns-in-49
unfolding expr_tail
returns-in-49 c = pushed_as (simp c.in-49.is) (pushed_none _ _)

pub returns-in-50 : goal.returns-in-50
unfolding expr_tail
returns-in-50 c = pushed_as (simp (c.in-50.is, c.byte_of.ensures)) c.push8.ensures

pub returns-in-52 : goal.returns-in-52
unfolding expr_tail
returns-in-52 c = pushed_as (simp (c.in-52.is, c.byte_of-in-52.ensures)) (pushed_then c.push16-p.ensures c.push8-in-52.ensures)

pub returns-in-53 : goal.returns-in-53
unfolding expr_tail
returns-in-53 c = pushed_as (simp (c.in-53.is, c.byte_of-in-53.ensures)) (pushed_then c.push8-p.ensures c.two.ensures)

pub returns-in-55 : goal.returns-in-55
unfolding expr_tail
returns-in-55 c = pushed_as (simp c.in-55.is) c.two-in-55.ensures

pub returns-in-57 : goal.returns-in-57
unfolding expr_tail
returns-in-57 c = pushed_as (simp c.in-57.is) c.push16.ensures

pub returns-in-58 : goal.returns-in-58
unfolding expr_tail
returns-in-58 c = pushed_as (simp (c.in-58.is, c.byte_of-in-58.ensures)) (pushed_then c.push8-p-in-58.ensures c.two-in-58.ensures)

pub returns-in-59 : goal.returns-in-59
unfolding expr_tail
returns-in-59 c = pushed_as (simp c.in-59.is) c.four.ensures

pub returns-in-60 : goal.returns-in-60
unfolding expr_tail
returns-in-60 c = pushed_as (simp (c.in-60.is, c.byte_of-in-60.ensures)) (pushed_then c.push8-p-in-60.ensures (pushed_then c.four-q.ensures c.push16-in-60.ensures))

pub returns-in-62 : goal.returns-in-62
unfolding expr_tail
returns-in-62 c = pushed_as (simp c.in-62.is) (pushed_then c.push16-p-in-62.ensures (pushed_then c.two-q.ensures c.push16-in-62.ensures))

pub returns-in-64 : goal.returns-in-64
unfolding expr_tail
returns-in-64 c = pushed_as (simp c.in-64.is) c.four-in-64.ensures

pub returns-in-66 : goal.returns-in-66
unfolding expr_tail
returns-in-66 c = pushed_as (simp c.in-66.is) c.push16-in-66.ensures

pub returns-in_default : goal.returns-in_default
unfolding expr_tail
returns-in_default c = pushed_as (simp (ne_eqb _ _ c.in_default.in_default-own.rest.1, ne_eqb _ _ c.in_default.in_default-own.rest.0.1, ne_eqb _ _ c.in_default.in_default-own.rest.0.0.1, ne_eqb _ _ c.in_default.in_default-own.rest.0.0.0.1, ne_eqb _ _ c.in_default.in_default-own.rest.0.0.0.0.1, ne_eqb _ _ c.in_default.in_default-own.rest.0.0.0.0.0.1, ne_eqb _ _ c.in_default.in_default-own.rest.0.0.0.0.0.0.1, ne_eqb _ _ c.in_default.in_default-own.rest.0.0.0.0.0.0.0.1, ne_eqb _ _ c.in_default.in_default-own.rest.0.0.0.0.0.0.0.0.1, ne_eqb _ _ c.in_default.in_default-own.rest.0.0.0.0.0.0.0.0.0.1, ne_eqb _ _ c.in_default.in_default-own.rest.0.0.0.0.0.0.0.0.0.0.1, ne_eqb _ _ c.in_default.in_default-own.rest.0.0.0.0.0.0.0.0.0.0.0.1, ne_eqb _ _ c.in_default.in_default-own.rest.0.0.0.0.0.0.0.0.0.0.0.0.1)) c.two-in_default.ensures
