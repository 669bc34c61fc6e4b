use Rattle.std.proofs.Common.{rules}
use Rattle.names.proofs.Walk.{members_next, members_none, shorter}
use Rattle.names.proofs.MembersIterator.next.Goals as goal

pub returns-then-self-eq0-clause-steps : goal.returns-then-self-eq0-clause-steps
returns-then-self-eq0-clause-steps c = (members_none _ c.if-self-eq0.true, members_none _ c.if-self-eq0.true)

pub returns-clause-steps : goal.returns-clause-steps
returns-clause-steps c = members_next _ c.if-self-eq0.false (search rules) c.low-n.ensures

pub returns-clause-goes : goal.returns-clause-goes
returns-clause-goes c = record { on = λ _. (tt, tt, shorter (members_next _ c.if-self-eq0.false (search rules) c.low-n.ensures)); keeps = tt; rests = λ _. tt }
