use Rattle.acts.specs.Inner.{put_keys, put_pairs, put_bindings}
use Rattle.acts.proofs.Acts.{made_all}
use Rattle.acts.proofs.State.new_key.Goals as goal

pub returns : goal.returns
returns c = λ w. made_all c.args.self (put_bindings (put_pairs (put_keys w c.args.keys.now) c.args.pairs.now) c.args.bindings.now) c.args.x c.args.r c.args.body c.args.j.0 _ _ _ _ c.requires.0 c.requires.1 c.requires.2 c.unkeyed.ensures c.unkeyed-2.ensures c.unkeyed-pair.ensures c.put_up.ensures c.put_pair.ensures c.put_name.ensures c.put_variable.ensures c.go.ensures
