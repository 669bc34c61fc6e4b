-- Writing turns reading round: tables that hold the words of a job that was read, with anything behind them, write the bytes that the job was read from. So do the tables that reading leaves, and
-- those that the check leaves, whose type table holds more entries than the job declares.
use Rattle.std.specs.Prelude.{◌≡◌, length}
use Prim.Native.Nat.{ℕ}
use mathlib.Core.List.{List, ◌∷◌, ◌++◌, map}
use Rattle.syntax.specs.Job.{Job}
use Rattle.syntax.specs.Words.{name_word}
use Rattle.syntax.specs.Words.{type_words, set_words, value_words, head_words, slot_words}
use Rattle.syntax.specs.Loading.{JobTables}
use Rattle.syntax.specs.Writing.{Counts}

-- the counts of a job
unfoldable pub counts_of : Job → Counts
counts_of J = record { names = length J.names; types = length J.types; values = length J.values; cmds = length J.cmds; rights = J.rights.set }

-- the tables hold the words of J at their fronts, with anything behind them; names 0 and 1 are anything
pub record Fronts (J : Job) (w : JobTables) : Type 0 where
  pub name0 : ℕ
  pub name1 : ℕ
  pub names_behind : List ℕ
  pub types_behind : List ℕ
  pub sets_behind : List ℕ
  pub values_behind : List ℕ
  pub heads_behind : List ℕ
  pub slots_behind : List ℕ
  pub names_are : w.names ≡ name0 ∷ name1 ∷ (map name_word J.names ++ names_behind)
  pub types_are : w.types ≡ type_words J.types ++ types_behind
  pub sets_are : w.sets ≡ set_words J.types ++ sets_behind
  pub values_are : w.values ≡ value_words J ++ values_behind
  pub heads_are : w.heads ≡ head_words J ++ heads_behind
  pub slots_are : w.slots ≡ slot_words J ++ slots_behind

-- Entries
