use mathlib.Core.Path.{◌≡◌, refl, ap, ◌∙◌}
use Prim.Native.Nat.{ℕ}
use mathlib.Core.List.{List}
use lib.ListN.{set}
use Rattle.table.specs.Told.{Tells}
use Rattle.table.proofs.tell.Goals as goal

-- a word by what it is
word_told : {n word r x : ℕ} {o o' : List ℕ} → r ≡ n → o' ≡ set o 0 x → x ≡ word → Tells n word r o o'
word_told {o = o} e z y = record { number = e; told = z ∙ ap (set o 0) y }

pub returns : goal.returns
returns c = word_told c.from.ensures c.set_at.ensures refl
