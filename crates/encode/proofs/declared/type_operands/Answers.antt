use borrow.Author.Tests.{ne_eqb}
use Rattle.encode.specs.Entries.{type_tail}
use Rattle.syntax.proofs.RowsRead.{bytes_length}
use Rattle.encode.proofs.Laying.{at_most, room_after, two_length, pushed_none, pushed_then, pushed_as}
use Rattle.encode.proofs.declared.type_operands.Goals as goal

pub two-requires : goal.two-requires
two-requires c = room_after 1 4 (bytes_length _ _) c.push8-p.ensures (at_most _ 5 8 c.requires)

pub push16-requires : goal.push16-requires
push16-requires c = room_after 1 2 (bytes_length _ _) c.push8-p.ensures (at_most _ 3 10 c.requires)

pub two-q-requires : goal.two-q-requires
two-q-requires c = room_after 1 4 (bytes_length _ _) c.push8-p.ensures (at_most _ 5 8 c.requires)

pub push64-requires : goal.push64-requires
push64-requires c = room_after 4 8 (two_length _ _) c.two-q.ensures (room_after 1 12 (bytes_length _ _) c.push8-p.ensures c.requires)

pub push8-requires : goal.push8-requires
push8-requires c = room_after 1 1 (bytes_length _ _) c.push8-p.ensures (at_most _ 2 11 c.requires)

pub returns-in-16 : goal.returns-in-16
unfolding type_tail
returns-in-16 c = pushed_as (simp (c.in-16.is, c.key_of.ensures)) (pushed_then c.push8-p.ensures (pushed_none _ _))

pub returns-in-17 : goal.returns-in-17
unfolding type_tail
returns-in-17 c = pushed_as (simp (c.in-17.is, c.key_of.ensures, c.first_of.ensures, c.second_of.ensures)) (pushed_then c.push8-p.ensures c.two.ensures)

pub returns-in-18 : goal.returns-in-18
unfolding type_tail
returns-in-18 c = pushed_as (simp (c.in-18.is, c.key_of.ensures, c.first_of-in-18.ensures)) (pushed_then c.push8-p.ensures c.push16.ensures)

pub returns-in-19 : goal.returns-in-19
unfolding type_tail
returns-in-19 c = pushed_as (simp (c.in-19.is, c.key_of.ensures, c.first_of-in-19.ensures, c.second_of-in-19.ensures)) (pushed_then c.push8-p.ensures (pushed_then c.two-q.ensures c.push64.ensures))

pub returns-in_default : goal.returns-in_default
unfolding type_tail
returns-in_default c = pushed_as (simp (ne_eqb _ _ c.in_default.in_default-own.rest.1, ne_eqb _ _ c.in_default.in_default-own.rest.0.1, ne_eqb _ _ c.in_default.in_default-own.rest.0.0.1, ne_eqb _ _ c.in_default.in_default-own.rest.0.0.0.1, c.key_of.ensures, c.name_of.ensures)) (pushed_then c.push8-p.ensures c.push8.ensures)
