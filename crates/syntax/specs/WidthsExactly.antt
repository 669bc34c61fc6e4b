-- F-8: what the table of widths has for each of the 256 bytes, by the rows of the commands, and that no other table has it (`widths_exactly`).
use Rattle.std.specs.Prelude.{◌≡◌, ℕ, ◌<◌, List, ◌≢◌, length}
use Rattle.std.proofs.Math.Option.{some}
use Rattle.std.proofs.Math.ListN.{get_elem?}
use Rattle.syntax.specs.Commands.{Op, form, operands, total}

-- no row has this byte
abbrev pub NoCommand : ℕ → Type 0
NoCommand b = (o : Op) → b ≢ (form o).byte

-- a table that has one width for every byte: of a command the sum of its operands' widths, from its row, and of every other byte 255
pub record Widths (t : List ℕ) : Type 0 where
  pub every : length t ≡ 256
  pub command : (o : Op) → get_elem? t (form o).byte ≡ some (total (operands o))
  pub other : (b : ℕ) → b < 256 → NoCommand b → get_elem? t b ≡ some 255
