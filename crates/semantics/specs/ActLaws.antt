-- What each act does, said apart from its plan, of every machine: which expression is entered next or which value is handed on, with which bindings and with which enabled keys. Safety alone would not
-- notice an act that enables too much.
use Rattle.std.specs.Prelude.{◌≡◌}
use Prim.Native.Nat.{ℕ}
use mathlib.Core.List.{List, [], ◌∷◌}
use Rattle.semantics.specs.Machine.{k_lim, Value}

-- values that are limit keys, and the keys that they stand for
pub data Stand : List Value → List ℕ → Type 0 where
  st_nil : Stand [] []
  st_cons : {v : Value} {j : ℕ} {vs : List Value} {js : List ℕ} → v.kind ≡ k_lim j → Stand vs js → Stand (v ∷ vs) (j ∷ js)
