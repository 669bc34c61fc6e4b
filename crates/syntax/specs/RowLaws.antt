-- What holds of every row: which of the wanted roles have which numbers, and that other type operands change nothing else.
use Rattle.std.specs.Prelude.{ℕ, Bool}
use Rattle.std.proofs.Math.Bool.{true}
use mathlib.Core.List.{List, [], ◌∷◌}
use Rattle.order.specs.Bools.{◌and◌}
use Rattle.syntax.specs.Commands.{Role}
use Rattle.syntax.specs.Operands.{wanted}

-- Roles that are wanted

-- every role of the first list is wanted by the second
unfoldable pub among : List Role → List Role → Bool
among [] vs = true
among (w ∷ ws) vs = wanted vs w and among ws vs

pub data Bound {T : Type 0} : List ℕ → List T → List ℕ → List ℕ → List ℕ → Type 0 where
  bound_none : {ts : List T} → Bound [] ts [] [] []
  bound_type : {v : ℕ} {t : T} → Bound (v ∷ []) (t ∷ []) [] (v ∷ []) []
  bound_keys : {v r : ℕ} {ts : List T} → Bound [] ts (v ∷ []) (v ∷ []) (r ∷ [])
