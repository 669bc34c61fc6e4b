use Rattle.store.specs.Meaning.{value_in}
use Rattle.acts.specs.Inner.{put_pairs}
use Rattle.acts.proofs.Acts.{gave_new, pair_made, pair_full, is_full}
use Rattle.acts.proofs.State.act_pair.Goals as goal

pub returns-then-n-lt-MOST_PAIRS : goal.returns-then-n-lt-MOST_PAIRS
returns-then-n-lt-MOST_PAIRS c = λ w. gave_new _ _ _ _ _ _ c.unkeyed.ensures c.give.ensures (pair_made c.args.back (put_pairs w c.args.pairs.now) (value_in c.args.x) (value_in c.args.y) _ c.if-n-lt-MOST_PAIRS.true c.put_pair.ensures)

pub returns-else-n-lt-MOST_PAIRS : goal.returns-else-n-lt-MOST_PAIRS
returns-else-n-lt-MOST_PAIRS c = λ w. is_full _ _ _ c.stop.ensures (pair_full c.args.back (put_pairs w c.args.pairs.now) (value_in c.args.x) (value_in c.args.y) c.if-n-lt-MOST_PAIRS.false)
