-- The layout of the type table in general, for commands that make any number of entries, for all jobs: how many entries each command makes, by its byte; how many there are, and that they never pass
-- the table's 2,304; and where those of an expression stand.
use Rattle.std.specs.Prelude.{◌≡◌, cond, eqb}
use Prim.Native.Nat.{ℕ, suc, ◌+◌, ◌*◌}
use mathlib.Core.List.{List, [], ◌∷◌, ◌++◌, map}
use Rattle.std.proofs.Math.ListN.{length}
use Rattle.order.specs.Sets.{some_of}
use Rattle.syntax.specs.Types.{TypeEntry}
use Rattle.syntax.specs.Commands.{Cmd, form, row, total}
use Rattle.syntax.specs.Job.{Job}
use Rattle.typing.specs.Layout.{new_keys, key_entries, Points, new, old, Layout}

-- How many entries a command makes

-- how many an expression makes
unfoldable pub made : Points → ℕ
made (new l x) = suc (length l)
made (old i) = 0

-- with the three of each name that it binds they are no more than four
abbrev pub most_each : ℕ
most_each = 4

-- by its byte: "one entry where it makes a type (30, 31, 33, 35, 37, 3A, 3F)"; 41 "makes a type entry for the number, then one for the pair"; 42 is a number "with one type entry"
unfoldable pub entries_of : ℕ → ℕ
entries_of b = cond (some_of (λ c. eqb b c) (0x30 ∷ 0x31 ∷ 0x33 ∷ 0x35 ∷ 0x37 ∷ 0x3A ∷ 0x3F ∷ 0x42 ∷ [])) 1 (cond (eqb b 0x41) 2 0)

unfoldable pub makes_of : Cmd ℕ → ℕ
makes_of k = entries_of (form (row k).op).byte

unfoldable pub all_made : List (Cmd ℕ) → ℕ
all_made l = total (map makes_of l)

-- entries and numbers are added, and none is changed
pub record Grown (l : List (Cmd ℕ)) (L M : Layout) : Type 0 where
  pub added : List TypeEntry
  pub numbers : List ℕ
  pub entries : M.entries ≡ L.entries ++ added
  pub of : M.of ≡ L.of ++ numbers
  pub count : length added ≡ all_made l
  pub each : length numbers ≡ length l

-- the declared types and the entries of 0x3E
unfoldable pub declared : Job → Layout
declared J = record { entries = J.types ++ key_entries (length J.types) (new_keys J.cmds); of = [] }

-- where the entries of an expression begin, after the expressions p: past the declared types, three for each 0x3E of the job, and what the expressions before it make
unfoldable pub begins : Job → List (Cmd ℕ) → ℕ
begins J p = length J.types + 3 * length (new_keys J.cmds) + all_made p
