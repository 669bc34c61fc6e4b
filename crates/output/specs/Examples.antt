-- The lines of document 01 and of the sheet as bytes, for values that stand here: computed, and equal to what is written out.
use Rattle.std.specs.Prelude.{◌≡◌, ℕ, List, ◌∷◌}
use Rattle.std.proofs.Math.Option.{some}
use Rattle.semantics.specs.Machine.{Kind, System}
use Rattle.semantics.specs.Threads.{value_of}
use Rattle.semantics.specs.Calls.{finished}
use Rattle.output.specs.Lines.{ran_line}

-- a machine whose job has a value of kind k prints these bytes after n steps
pub record Prints (n : ℕ) (k : Kind) (bytes : List ℕ) : Type 0 where
  pub prints : (m : System) (q : ℕ) → value_of m ≡ some (record { key = q; kind = k }) → (c : List ℕ) → ran_line finished (n ∷ c) 0 m ≡ bytes
