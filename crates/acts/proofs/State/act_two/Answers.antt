use Rattle.syntax.specs.Words.{code_in, decode}
use Rattle.acts.specs.View.{view}
use Rattle.store.specs.Meaning.{value_in}
use Rattle.store.specs.Words.{word_in}
use Rattle.semantics.specs.Step.{act, two}
use mathlib.Core.Logic.{inl, inr}
use Rattle.acts.proofs.Codes.{code_numbers, code_two}
use Rattle.acts.proofs.Acts.{is_stuck}
use Rattle.acts.specs.Inner.{put_cells, put_keys, put_pairs, put_functions, put_bindings}
use Rattle.acts.proofs.State.act_two.Goals as goal

pub returns-in-51 : goal.returns-in-51
unfolding code_in decode act two
returns-in-51 c = λ w. simp (← c.unpack.ensures, ← c.unpack-in-51.ensures, ← c.requires.0, c.in-51.is) (c.act_pair.ensures (put_bindings (put_functions (put_keys (put_cells w c.args.cells.now) c.args.keys.now) c.args.functions.now) c.args.bindings.now))

pub returns-in-54 : goal.returns-in-54
unfolding code_in decode act two
returns-in-54 c = λ w. simp (← c.unpack-in-54.ensures, ← c.unpack-in-54-2.ensures, ← c.requires.0, c.in-54.is) (c.act_apply.ensures (put_pairs (put_cells w c.args.cells.now) c.args.pairs.now))

pub returns-in-56 : goal.returns-in-56
unfolding code_in decode act two
returns-in-56 c = λ w. simp (← c.unpack-in-56.ensures, ← c.unpack-in-56-2.ensures, ← c.requires.0, c.in-56.is) (c.act_assign.ensures (put_bindings (put_functions (put_pairs w c.args.pairs.now) c.args.functions.now) c.args.bindings.now))

pub returns-in-58 : goal.returns-in-58
returns-in-58 c = λ w. simp (← c.unpack-in-58.ensures, ← c.unpack-in-58-2.ensures, code_numbers c.args.heads.now c.args.slots.now c.args.at.0 _ c.requires.0 (value_in c.unpack-in-58.result) (value_in c.unpack-in-58-2.result) (view c.args.back (put_bindings (put_functions (put_pairs (put_keys (put_cells w c.args.cells.now) c.args.keys.now) c.args.pairs.now) c.args.functions.now) c.args.bindings.now)) c.in-58.is) (c.act_numbers.ensures (put_bindings (put_functions (put_cells w c.args.cells.now) c.args.functions.now) c.args.bindings.now))

pub returns-in-63 : goal.returns-in-63
unfolding code_in decode act two
returns-in-63 c = λ w. simp (← c.unpack-in-63.ensures, ← c.unpack-in-63-2.ensures, ← c.requires.0, c.in-63.is) (c.act_associate.ensures (put_bindings (put_functions (put_pairs (put_cells w c.args.cells.now) c.args.pairs.now) c.args.functions.now) c.args.bindings.now))

pub returns-in_default : goal.returns-in_default
returns-in_default c = λ w. is_stuck _ _ _ c.stop.ensures (code_two c.args.heads.now c.args.slots.now c.args.at.0 _ c.requires.0 (word_in c.args.u) (word_in c.args.v) (view c.args.back (put_bindings (put_functions (put_pairs (put_keys (put_cells w c.args.cells.now) c.args.keys.now) c.args.pairs.now) c.args.functions.now) c.args.bindings.now)) c.requires.1 c.in_default.in_default-own.rest.0.0.0.0.1 c.in_default.in_default-own.rest.0.0.0.1 c.in_default.in_default-own.rest.0.0.1 (λ z. c.in_default.in_default-own.rest.0.1 (inl z)) c.in_default.in_default-own.rest.1 (λ z. c.in_default.in_default-own.rest.0.1 (inr z)))
