use Rattle.std.proofs.Common.{lt-ltb}
use Rattle.names.specs.Ancestors.{entered, name_of}
use Rattle.names.proofs.enter.Goals as goal

pub returns-then-a-lt-MOST_NAMES : goal.returns-then-a-lt-MOST_NAMES
unfolding entered name_of
returns-then-a-lt-MOST_NAMES c = simp (lt-ltb _ _ c.if-a-lt-MOST_NAMES.true, ← c.single.ensures, ← c.entry.ensures)
