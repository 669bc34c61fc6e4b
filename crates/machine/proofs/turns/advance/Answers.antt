use mathlib.Core.List.{[]}
use Rattle.acts.specs.View.{tables}
use Rattle.machine.proofs.Advancing.{nobody_left, first_few, quota_some, first_enough, known_enough, rounds_from, after_passed, after_others, begin_asks, after_begun}
use Rattle.machine.proofs.Picked.{known_most}
use borrow.Author.Rules.{rules}
use borrow.Enum.Refused.{opened}
use Rattle.machine.proofs.turns.advance.Goals as goal

pub returns-in_default : goal.returns-in_default
returns-in_default c = nobody_left c.args.heads.now c.args.slots.now c.args.c (tables [] c.args.words.now c.args.cells.now c.args.keys.now c.args.pairs.now c.args.functions.now c.args.bindings.now) c.with_left-live.result c.requires.0 c.requires.1 c.with_left-live.ensures c.next_turn.result c.next_turn.ensures c.in_default.is

pub offset_bounds-rest-turn : goal.offset_bounds-rest-turn
offset_bounds-rest-turn c = let h = first_few c.args.c (tables [] c.args.words.now c.args.cells.now c.args.keys.now c.args.pairs.now c.args.functions.now c.args.bindings.now) c.requires.1 c.with_left-live.result c.with_left-live.ensures c.next_turn.result c.in-Some.turn.at c.in-Some.turn.round c.next_turn.ensures c.in-Some.is in search (rules, h)

pub bounds-rest-turn : goal.bounds-rest-turn
bounds-rest-turn c = let h = first_few c.args.c (tables [] c.args.words.now c.args.cells.now c.args.keys.now c.args.pairs.now c.args.functions.now c.args.bindings.now) c.requires.1 c.with_left-live.result c.with_left-live.ensures c.next_turn.result c.in-Some.turn.at c.in-Some.turn.round c.next_turn.ensures c.in-Some.is in search (rules, h)

pub rounds-s-requires : goal.rounds-s-requires
rounds-s-requires c = (c.requires.0, first_few c.args.c (tables [] c.args.words.now c.args.cells.now c.args.keys.now c.args.pairs.now c.args.functions.now c.args.bindings.now) c.requires.1 c.with_left-live.result c.with_left-live.ensures c.next_turn.result c.in-Some.turn.at c.in-Some.turn.round c.next_turn.ensures c.in-Some.is, first_enough c.args.c (tables [] c.args.words.now c.args.cells.now c.args.keys.now c.args.pairs.now c.args.functions.now c.args.bindings.now) c.requires.1 c.with_left-live.result c.with_left-live.ensures c.next_turn.result c.in-Some.turn.at c.in-Some.turn.round c.next_turn.ensures c.in-Some.is c.ahead-known.result c.ahead-known.ensures c.least.result c.quota-n.result c.least.ensures c.quota-n.ensures, known_enough c.args.c (tables [] c.args.words.now c.args.cells.now c.args.keys.now c.args.pairs.now c.args.functions.now c.args.bindings.now) c.requires.1 c.with_left-live.result c.with_left-live.ensures c.next_turn.result c.in-Some.turn.at c.in-Some.turn.round c.next_turn.ensures c.in-Some.is c.ahead-known.result c.ahead-known.ensures c.least.result c.quota-n.result c.least.ensures c.quota-n.ensures, known_most c.with_left-live.result c.ahead-known.result c.requires.1.count c.ahead-known.ensures)

pub rounded-next-requires : goal.rounded-next-requires
rounded-next-requires c = (c.rounds-s.ensures c.with_left-live.result c.args.c.count c.args.c.round c.args.c.from c.in-Some.turn.round (rounds_from c.args.c (tables [] c.args.words.now c.args.cells.now c.args.keys.now c.args.pairs.now c.args.functions.now c.args.bindings.now) c.requires.1 c.with_left-live.result c.with_left-live.ensures c.next_turn.result c.in-Some.turn.at c.in-Some.turn.round c.next_turn.ensures c.in-Some.is c.ahead-known.result c.ahead-known.ensures c.least.result c.quota-n.result c.least.ensures c.quota-n.ensures)).last

pub passed-requires : goal.passed-requires
passed-requires c = (c.rounds-s.ensures c.with_left-live.result c.args.c.count c.args.c.round c.args.c.from c.in-Some.turn.round (rounds_from c.args.c (tables [] c.args.words.now c.args.cells.now c.args.keys.now c.args.pairs.now c.args.functions.now c.args.bindings.now) c.requires.1 c.with_left-live.result c.with_left-live.ensures c.next_turn.result c.in-Some.turn.at c.in-Some.turn.round c.next_turn.ensures c.in-Some.is c.ahead-known.result c.ahead-known.ensures c.least.result c.quota-n.result c.least.ensures c.quota-n.ensures)).at

pub begin-requires : goal.begin-requires
begin-requires c = begin_asks c.args.heads.now c.args.slots.now c.requires.1 c.with_left-live.ensures (quota_some c.args.c (tables [] c.args.words.now c.args.cells.now c.args.keys.now c.args.pairs.now c.args.functions.now c.args.bindings.now) c.requires.1 c.with_left-live.result c.with_left-live.ensures c.next_turn.result c.in-Some.turn.at c.in-Some.turn.round c.next_turn.ensures c.in-Some.is c.ahead-known.result c.ahead-known.ensures c.least.result c.quota-n.result c.least.ensures c.quota-n.ensures) (c.rounds-s.ensures c.with_left-live.result c.args.c.count c.args.c.round c.args.c.from c.in-Some.turn.round (rounds_from c.args.c (tables [] c.args.words.now c.args.cells.now c.args.keys.now c.args.pairs.now c.args.functions.now c.args.bindings.now) c.requires.1 c.with_left-live.result c.with_left-live.ensures c.next_turn.result c.in-Some.turn.at c.in-Some.turn.round c.next_turn.ensures c.in-Some.is c.ahead-known.result c.ahead-known.ensures c.least.result c.quota-n.result c.least.ensures c.quota-n.ensures)) c.rounded-next.result c.rounded-next.ensures c.in-Starts.in-Starts-own.keys2

pub returns-in-Finished : goal.returns-in-Finished
returns-in-Finished c = after_passed c.args.heads.now c.args.slots.now c.requires.1 c.with_left-live.ensures (quota_some c.args.c (tables [] c.args.words.now c.args.cells.now c.args.keys.now c.args.pairs.now c.args.functions.now c.args.bindings.now) c.requires.1 c.with_left-live.result c.with_left-live.ensures c.next_turn.result c.in-Some.turn.at c.in-Some.turn.round c.next_turn.ensures c.in-Some.is c.ahead-known.result c.ahead-known.ensures c.least.result c.quota-n.result c.least.ensures c.quota-n.ensures) (c.rounds-s.ensures c.with_left-live.result c.args.c.count c.args.c.round c.args.c.from c.in-Some.turn.round (rounds_from c.args.c (tables [] c.args.words.now c.args.cells.now c.args.keys.now c.args.pairs.now c.args.functions.now c.args.bindings.now) c.requires.1 c.with_left-live.result c.with_left-live.ensures c.next_turn.result c.in-Some.turn.at c.in-Some.turn.round c.next_turn.ensures c.in-Some.is c.ahead-known.result c.ahead-known.ensures c.least.result c.quota-n.result c.least.ensures c.quota-n.ensures)) c.rounded-next.result c.rounded-next.ensures c.in-Finished.in-Finished-own.keys1 _ c.passed.ensures

pub returns-in-Starts : goal.returns-in-Starts
returns-in-Starts c = after_begun c.args.heads.now c.args.slots.now c.requires.1 c.with_left-live.ensures (quota_some c.args.c (tables [] c.args.words.now c.args.cells.now c.args.keys.now c.args.pairs.now c.args.functions.now c.args.bindings.now) c.requires.1 c.with_left-live.result c.with_left-live.ensures c.next_turn.result c.in-Some.turn.at c.in-Some.turn.round c.next_turn.ensures c.in-Some.is c.ahead-known.result c.ahead-known.ensures c.least.result c.quota-n.result c.least.ensures c.quota-n.ensures) (c.rounds-s.ensures c.with_left-live.result c.args.c.count c.args.c.round c.args.c.from c.in-Some.turn.round (rounds_from c.args.c (tables [] c.args.words.now c.args.cells.now c.args.keys.now c.args.pairs.now c.args.functions.now c.args.bindings.now) c.requires.1 c.with_left-live.result c.with_left-live.ensures c.next_turn.result c.in-Some.turn.at c.in-Some.turn.round c.next_turn.ensures c.in-Some.is c.ahead-known.result c.ahead-known.ensures c.least.result c.quota-n.result c.least.ensures c.quota-n.ensures)) c.rounded-next.result c.rounded-next.ensures c.in-Starts.in-Starts-own.keys2 _ _ c.begin.ensures

pub returns-in_default-answer : goal.returns-in_default-answer
returns-in_default-answer c = after_others c.args.heads.now c.args.slots.now c.requires.1 c.with_left-live.ensures (quota_some c.args.c (tables [] c.args.words.now c.args.cells.now c.args.keys.now c.args.pairs.now c.args.functions.now c.args.bindings.now) c.requires.1 c.with_left-live.result c.with_left-live.ensures c.next_turn.result c.in-Some.turn.at c.in-Some.turn.round c.next_turn.ensures c.in-Some.is c.ahead-known.result c.ahead-known.ensures c.least.result c.quota-n.result c.least.ensures c.quota-n.ensures) (c.rounds-s.ensures c.with_left-live.result c.args.c.count c.args.c.round c.args.c.from c.in-Some.turn.round (rounds_from c.args.c (tables [] c.args.words.now c.args.cells.now c.args.keys.now c.args.pairs.now c.args.functions.now c.args.bindings.now) c.requires.1 c.with_left-live.result c.with_left-live.ensures c.next_turn.result c.in-Some.turn.at c.in-Some.turn.round c.next_turn.ensures c.in-Some.is c.ahead-known.result c.ahead-known.ensures c.least.result c.quota-n.result c.least.ensures c.quota-n.ensures)) c.rounded-next.result c.rounded-next.ensures (opened c.in_default-answer.in_default-answer-own.keys3)
