use mathlib.Core.Path.{◌∙◌}
use Rattle.acts.specs.Inner.{put_pairs}
use Rattle.acts.proofs.Acts.{is_full, gave_new, pair_made, pair_full, parts_are}
use Rattle.acts.proofs.State.pair_parts.Goals as goal

pub returns-then-n-ge-MOST_PAIRS : goal.returns-then-n-ge-MOST_PAIRS
returns-then-n-ge-MOST_PAIRS c = λ w. is_full _ _ _ c.stop.ensures (pair_full c.args.back (put_pairs w c.args.pairs.now) _ _ c.if-n-ge-MOST_PAIRS.true)

pub returns : goal.returns
returns c = λ w. gave_new _ _ _ _ _ _ c.unkeyed.ensures c.give.ensures
    (parts_are c.args.back (put_pairs w c.args.pairs.now) _ _ _ _ c.quotient.ensures c.remainder.ensures c.unkeyed-first.ensures c.unkeyed-second.ensures
    ∙ pair_made c.args.back (put_pairs w c.args.pairs.now) _ _ _ c.if-n-ge-MOST_PAIRS.false c.put_pair.ensures)
