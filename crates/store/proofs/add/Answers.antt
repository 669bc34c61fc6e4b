use Rattle.std.proofs.Common.{rules}
use borrow.Author.Tests.{lt-ltb}
use Rattle.store.specs.Meaning.{keys_in}
use Rattle.store.proofs.Laws.{min_capped}
use Rattle.store.proofs.Sets.{add_low, add_high}
use Rattle.store.proofs.add.Goals as goal

pub returns-then-k-lt-SECOND : goal.returns-then-k-lt-SECOND
unfolding keys_in
returns-then-k-lt-SECOND c = simp (← min_capped c.args.n 128, ← c.min.ensures, lt-ltb _ _ c.if-min-k.false, c.one_bit.ensures) (add_low c.args.on _ (search rules) c.if-k-lt-SECOND.true)

pub returns-else-k-lt-SECOND : goal.returns-else-k-lt-SECOND
unfolding keys_in
returns-else-k-lt-SECOND c = simp (← min_capped c.args.n 128, ← c.min.ensures, lt-ltb _ _ c.if-min-k.false, c.one_bit-else-k-lt-SECOND.ensures) (add_high c.args.on _ (search rules) c.if-k-lt-SECOND.false)
