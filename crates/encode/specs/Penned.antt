-- What is written into the scratch: the bytes of entries up to the first fault, and its number.
use Rattle.std.specs.Prelude.{◌≡◌, ℕ, ◌+◌, ◌*◌, ◌≤◌, ◌<◌, List, [], length, Ok, Err, IfErr}
use Rattle.std.specs.declared.result.Result.{Result}
use Rattle.std.proofs.lemmas.List.Edits.{sets}
use Rattle.syntax.specs.Loading.{JobTables}
use Rattle.syntax.specs.JobBytes.{command_bytes}
use Rattle.syntax.specs.Writing.{Counts, Item, item, fault, each, items, Script, script}
use Rattle.encode.specs.Laid.{most_scratch}
use Rattle.table.specs.declared.Refusal.{Refusal}

-- how far the bytes of the entries reach; or the fault that stopped them, whose place is how far they reach
abbrev pub Pen : Type 0
Pen = Result ℕ Refusal

abbrev pub reach_of : Pen → ℕ
reach_of (Ok p) = p
reach_of (Err k) = k.place

-- the number of the fault; 0 for none
abbrev pub fault_in : Pen → ℕ
fault_in (Ok p) = 0
fault_in (Err k) = k.number

-- m is l with the bytes of s laid over it from `at` on; r has the place behind them, and the fault, which has a number above 0
pub record Penned (l m : List ℕ) (at : ℕ) (r : Pen) (s : Script) : Type 0 where
  pub reach : reach_of r ≡ at + length s.bytes
  pub bytes : m ≡ sets l at s.bytes
  pub fault_is : fault_in r ≡ s.fault
  pub refused : IfErr r (λ k. 0 < k.number)

-- the first n entries of a table of at most `limit`
pub record Sectioned (f : ℕ → Item) (limit n : ℕ) (l m : List ℕ) (at : ℕ) (r : Pen) : Type 0 where
  pub penned : Penned l m at r (script (each f 0 n))
  pub room : reach_of r ≤ at + 14 * limit

-- all entries
pub record Encoded (w : JobTables) (c : Counts) (l m : List ℕ) (r : Pen) : Type 0 where
  pub penned : Penned l m 0 r (script (items w c))
  pub room : reach_of r ≤ most_scratch

-- one entry alone
unfoldable pub alone : Item → Script
alone (item r) = record { bytes = command_bytes r; fault = 0 }
alone (fault n) = record { bytes = []; fault = n }
