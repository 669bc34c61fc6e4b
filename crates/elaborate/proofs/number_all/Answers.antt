use Rattle.elaborate.specs.Typed.{typed}
use Rattle.elaborate.proofs.Laws.{begun, none_known}
use Rattle.elaborate.proofs.number_all.Goals as goal

pub type_all-requires : goal.type_all-requires
type_all-requires c = (c.bind-n.ensures.0, none_known _ _ _ 1)

pub returns-then-declared-lt6 : goal.returns-then-declared-lt6
returns-then-declared-lt6 c = typed (begun c.args.anc.now c.args.names.now c.args.values.now c.args.heads.now c.args.slots.now c.args.declared c.args.given c.args.cmds c.args.types.now c.args.sets.now c.args.entries.now c.args.effects.now c.hosts.ensures (c.bind-n.ensures.1) c.type_all.ensures)

pub type_all-requires-2 : goal.type_all-requires-2
type_all-requires-2 c = (c.bind-n.ensures.0, none_known _ _ _ 1021)

pub returns : goal.returns
returns c = typed (begun c.args.anc.now c.args.names.now c.args.values.now c.args.heads.now c.args.slots.now c.args.declared c.args.given c.args.cmds c.args.types.now c.args.sets.now c.args.entries.now c.args.effects.now c.hosts.ensures (c.bind-n.ensures.1) c.type_all-2.ensures)
