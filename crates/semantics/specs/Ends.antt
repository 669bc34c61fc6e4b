-- Where a plan ends: what is true of the machine after it, if its room is found free. Laws of steps are proved of plans by this.
use Rattle.std.proofs.Math.Path.{◌≡◌}
use Rattle.std.specs.Prelude.{ℕ, Bool}
use Rattle.std.proofs.Math.Bool.{true}
use mathlib.Core.List.{List}
use Rattle.semantics.specs.Machine.{Machine}
use Rattle.semantics.specs.Step.{Plan, p_done, p_wrong, p_try}

-- the machine after a plan, if its room is found free, is one of P
pub data Ends (P : Machine → Type 0) : Plan → Type 0 where
  en_done : Ends P p_done
  en_wrong : Ends P p_wrong
  en_try : {ks : List ℕ} {free : Bool} {m n : Machine} → (free ≡ true → P n) → Ends P (p_try ks free m n)
