use Prim.Native.Nat.{ℕ, ◌+◌}
use mathlib.Core.Path.{◌≡◌, refl}
use denote.Enum.Declared.{tag_of}
use Rattle.store.specs.contracts.Kind.{the_type}
use Rattle.store.specs.declared.Kind.{Kind}
use Rattle.store.specs.declared.Kind.TheVariants as kinds
use Rattle.store.specs.Meaning.{kind_in}
use Rattle.results.specs.Values.{kind_no}
use Rattle.results.proofs.kind_word.Goals as goal

-- the variants stand in the order of the numbers
in_order : (k : Kind) (n : ℕ) → tag_of the_type k + 1 ≡ kind_no (kind_in k n)
unfolding kind_no
in_order kinds.Number n = refl
in_order kinds.Pair n = refl
in_order kinds.Cell n = refl
in_order kinds.Function n = refl
in_order kinds.Limit n = refl
in_order kinds.Grant n = refl

pub returns : goal.returns
returns c = in_order c.args.k
