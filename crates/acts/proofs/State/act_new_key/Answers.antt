use Prim.Native.Nat.{ℕ}
use Rattle.store.specs.Meaning.{value_in}
use mathlib.Core.Path.{ap, sym, ◌∙◌}
use mathlib.Core.List.{[]}
use Rattle.acts.specs.Inner.{put_keys, put_pairs, put_bindings}
use Rattle.acts.specs.View.{view}
use Rattle.semantics.specs.Step.{make_key, act_newkey, settle}
use Rattle.acts.proofs.Acts.{key_denied, is_denied, is_full, no_keys, no_pairs, no_bindings, key_goes, went_to}
use Rattle.acts.proofs.Sorts.{of_kind, not_limit}
use borrow.Enum.Refused.{opened}
use Rattle.acts.proofs.State.act_new_key.Goals as goal

pub returns-in_default : goal.returns-in_default
unfolding act_newkey
returns-in_default c = λ w. simp (c.stop.ensures, not_limit c.args.v.kind (opened c.in_default.in_default-own.keys2))

pub returns-then-not-touch : goal.returns-then-not-touch
returns-then-not-touch c = λ w. is_denied _ _ _ c.stop-then-not-touch.ensures (key_denied c.args.back (put_bindings (put_pairs (put_keys w c.args.keys.now) c.args.pairs.now) c.args.bindings.now) c.args.x c.args.r c.args.body.0 (value_in c.args.v) (of_kind _ c.in-Limit.is) c.touch.ensures c.if-not-touch.true)

pub returns-then-back-ge-MOST_KEYS : goal.returns-then-back-ge-MOST_KEYS
returns-then-back-ge-MOST_KEYS c = λ w. is_full _ _ _ c.stop-then-back-ge-MOST_KEYS.ensures (key_goes c.args.back (put_bindings (put_pairs (put_keys w c.args.keys.now) c.args.pairs.now) c.args.bindings.now) c.args.x c.args.r c.args.body.0 (value_in c.args.v) (of_kind _ c.in-Limit.is) c.touch.ensures c.if-not-touch.false ∙ no_keys c.args.back (put_bindings (put_pairs (put_keys w c.args.keys.now) c.args.pairs.now) c.args.bindings.now) c.args.x c.args.r c.args.body.0 _ c.if-back-ge-MOST_KEYS.true)

pub returns-then-back-ge-MOST_PAIRS : goal.returns-then-back-ge-MOST_PAIRS
returns-then-back-ge-MOST_PAIRS c = λ w. is_full _ _ _ c.stop-then-back-ge-MOST_PAIRS.ensures (key_goes c.args.back (put_bindings (put_pairs (put_keys w c.args.keys.now) c.args.pairs.now) c.args.bindings.now) c.args.x c.args.r c.args.body.0 (value_in c.args.v) (of_kind _ c.in-Limit.is) c.touch.ensures c.if-not-touch.false ∙ no_pairs c.args.back (put_bindings (put_pairs (put_keys w c.args.keys.now) c.args.pairs.now) c.args.bindings.now) c.args.x c.args.r c.args.body.0 _ c.if-back-ge-MOST_PAIRS.true c.if-back-ge-MOST_KEYS.false)

pub returns-then-back-ge-ROOM_FOR_TWO : goal.returns-then-back-ge-ROOM_FOR_TWO
returns-then-back-ge-ROOM_FOR_TWO c = λ w. is_full _ _ _ c.stop-then-back-ge-ROOM_FOR_TWO.ensures (key_goes c.args.back (put_bindings (put_pairs (put_keys w c.args.keys.now) c.args.pairs.now) c.args.bindings.now) c.args.x c.args.r c.args.body.0 (value_in c.args.v) (of_kind _ c.in-Limit.is) c.touch.ensures c.if-not-touch.false ∙ no_bindings c.args.back (put_bindings (put_pairs (put_keys w c.args.keys.now) c.args.pairs.now) c.args.bindings.now) c.args.x c.args.r c.args.body.0 _ c.if-back-ge-ROOM_FOR_TWO.true c.if-back-ge-MOST_KEYS.false c.if-back-ge-MOST_PAIRS.false)

pub returns : goal.returns
returns c = λ w. went_to _ _ (key_goes c.args.back (put_bindings (put_pairs (put_keys w c.args.keys.now) c.args.pairs.now) c.args.bindings.now) c.args.x c.args.r c.args.body.0 (value_in c.args.v) (of_kind _ c.in-Limit.is) c.touch.ensures c.if-not-touch.false ∙ sym (ap (λ (z : ℕ). settle (make_key [] c.args.x c.args.r c.args.body.0 z (view c.args.back (put_bindings (put_pairs (put_keys w c.args.keys.now) c.args.pairs.now) c.args.bindings.now)))) c.key_in.ensures)) (c.new_key.ensures w)
