-- Every refusal by its number and place: 2 to 7 at a place in the input or right after it, 8 to 14 and 16 at one of the job's expressions. No other number is given; 15 is the writer's alone.
use Rattle.std.specs.Prelude.{◌≡◌, ℕ, ◌≤◌, ◌<◌, ◌⊎◌, length}
use mathlib.Core.List.{List}
use Rattle.std.proofs.Math.Option.{Option, none, some}
use Rattle.syntax.specs.Job.{Job}
use Rattle.syntax.specs.Reading.{Refusal, read, reading}

pub data Among (a b k : ℕ) : Option Refusal → Type 0 where
  no_refusal : Among a b k none
  among : (q : Refusal) → a ≤ q.number → q.number ≤ b → q.place < k → Among a b k (some q)

-- a check's numbers go up to 14, but for 16
abbrev pub CheckNumber : ℕ → Type 0
CheckNumber n = (n ≤ 14) ⊎ (n ≡ 16)

-- the number and the place of a refusal of the bytes s
pub data Stands (s : List ℕ) : Refusal → Type 0 where
  by_reading : (q : Refusal) → 2 ≤ q.number → q.number ≤ 7 → q.place ≤ length s → Stands s q
  by_expression : (q : Refusal) (J : Job) → reading s ≡ read J → 8 ≤ q.number → CheckNumber q.number → q.place < length J.cmds → Stands s q
