-- Bytes laid over a list, from a place on (`sets`).
use Rattle.std.specs.Prelude.{◌≡◌, ℕ, ◌+◌, List, length}
use Rattle.std.proofs.lemmas.List.Edits.{sets}

-- 896 commands, which are all that there can be, of 14 bytes at most
abbrev pub most_scratch : ℕ
most_scratch = 12544

-- m is l with b laid over it, and r the place behind b
pub record Pushed (l m : List ℕ) (at r : ℕ) (b : List ℕ) : Type 0 where
  pub reach : r ≡ at + length b
  pub bytes : m ≡ sets l at b
