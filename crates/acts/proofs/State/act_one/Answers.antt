use Rattle.syntax.specs.Words.{code_in, decode}
use Rattle.acts.specs.View.{view}
use Rattle.store.specs.Meaning.{value_in}
use Rattle.store.specs.Words.{word_in}
use mathlib.Core.Path.{ap, sym, ◌∙◌}
use Rattle.semantics.specs.Step.{act, one, settle}
use Rattle.acts.proofs.Codes.{code_one, code_test, code_access}
use Rattle.acts.proofs.Acts.{is_stuck}
use Rattle.acts.specs.Inner.{put_cells, put_keys, put_pairs, put_bindings, settled}
use Rattle.acts.proofs.State.act_one.Goals as goal

pub returns-in-52 : goal.returns-in-52
unfolding code_in decode act one
returns-in-52 c = λ w. simp (← c.unpack.ensures, ← c.get_or-head.ensures, c.in-52.is) (c.act_part.ensures (put_bindings (put_cells w c.args.cells.now) c.args.bindings.now))

pub returns-in-55 : goal.returns-in-55
unfolding code_in decode act one
returns-in-55 c = λ w. simp (← c.unpack-in-55.ensures, ← c.get_or-head.ensures, c.in-55.is) (c.act_cell.ensures (put_bindings (put_pairs (put_keys w c.args.keys.now) c.args.pairs.now) c.args.bindings.now))

pub returns-in-57 : goal.returns-in-57
unfolding code_in decode act one
returns-in-57 c = λ w. simp (← c.unpack-in-57.ensures, ← c.get_or-head.ensures, c.in-57.is) (c.act_read.ensures (put_bindings (put_pairs w c.args.pairs.now) c.args.bindings.now))

pub returns-in-59 : goal.returns-in-59
returns-in-59 c = λ w. simp (← c.unpack-in-59.ensures) (c.act_test.ensures (put_bindings (put_pairs (put_cells w c.args.cells.now) c.args.pairs.now) c.args.bindings.now) ∙ ap (settled (view c.args.self (put_bindings (put_pairs (put_keys (put_cells w c.args.cells.now) c.args.keys.now) c.args.pairs.now) c.args.bindings.now))) (ap settle (sym (code_test c.args.heads.now c.args.slots.now c.args.at.0 _ c.get_or-head.ensures (value_in c.unpack-in-59.result) (view c.args.back (put_bindings (put_pairs (put_keys (put_cells w c.args.cells.now) c.args.keys.now) c.args.pairs.now) c.args.bindings.now)) c.in-59.is c.get_or.ensures c.get_or-in-59.ensures))))

pub returns-in-61 : goal.returns-in-61
unfolding code_in decode act one
returns-in-61 c = λ w. simp (← c.unpack-in-61.ensures, ← c.get_or-head.ensures, c.in-61.is, ← c.get_or.ensures) (c.act_grant.ensures (put_bindings (put_pairs (put_cells w c.args.cells.now) c.args.pairs.now) c.args.bindings.now))

pub returns-in-62 : goal.returns-in-62
unfolding code_in decode act one
returns-in-62 c = λ w. simp (← c.unpack-in-62.ensures, ← c.get_or-head.ensures, c.in-62.is, ← c.get_or.ensures) (c.act_new_key.ensures (put_cells w c.args.cells.now))

pub returns-in-64 : goal.returns-in-64
returns-in-64 c = λ w. simp (← c.unpack-in-64.ensures) (c.act_access.ensures (put_bindings (put_pairs (put_cells w c.args.cells.now) c.args.pairs.now) c.args.bindings.now) ∙ ap (settled (view c.args.self (put_bindings (put_pairs (put_keys (put_cells w c.args.cells.now) c.args.keys.now) c.args.pairs.now) c.args.bindings.now))) (ap settle (sym (code_access c.args.heads.now c.args.slots.now c.args.at.0 _ c.get_or-head.ensures (value_in c.unpack-in-64.result) (view c.args.back (put_bindings (put_pairs (put_keys (put_cells w c.args.cells.now) c.args.keys.now) c.args.pairs.now) c.args.bindings.now)) c.in-64.is c.get_or.ensures c.get_or-in-64.ensures))))

pub returns-in_default : goal.returns-in_default
returns-in_default c = λ w. is_stuck _ _ _ c.stop.ensures (code_one c.args.heads.now c.args.slots.now c.args.at.0 _ c.get_or-head.ensures (word_in c.args.v) (view c.args.back (put_bindings (put_pairs (put_keys (put_cells w c.args.cells.now) c.args.keys.now) c.args.pairs.now) c.args.bindings.now)) c.requires c.in_default.in_default-own.rest.0.0.0.0.0.0.1 c.in_default.in_default-own.rest.0.0.0.0.0.1 c.in_default.in_default-own.rest.0.0.0.0.1 c.in_default.in_default-own.rest.0.0.0.1 c.in_default.in_default-own.rest.0.0.1 c.in_default.in_default-own.rest.0.1 c.in_default.in_default-own.rest.1)
