-- The tables that hold a job: its words stand at its entries. What stands past them does not matter.
use Rattle.std.specs.Prelude.{◌≡◌, ℕ, ◌+◌, ◌*◌, ◌<◌, List, length, get_or}
use Rattle.std.proofs.Math.Option.{some}
use Rattle.std.proofs.Math.ListN.{get_elem?}
use Rattle.syntax.specs.Types.{TypeEntry}
use Rattle.syntax.specs.Operands.{nth}
use Rattle.syntax.specs.Job.{Name, Job}
use Rattle.syntax.specs.Words as words

pub record Holds (J : Job) (heads slots : List ℕ) (cmds : ℕ) (names : List ℕ) (nnames : ℕ) (types sets : List ℕ) (ntypes nvalues : ℕ) : Type 0 where
  -- as many entries as the job has
  pub cmds_are : cmds ≡ length J.cmds
  pub names_are : nnames ≡ length J.names
  pub types_are : ntypes ≡ length J.types
  pub values_are : nvalues ≡ length J.values
  -- expressions: a head each, and five places each
  pub head : (e : ℕ) → e < length J.cmds → get_or heads e 0 ≡ words.head_word (nth J.cmds e)
  pub five : (e : ℕ) → e < length J.cmds → length (words.slots (nth J.cmds e)) ≡ 5
  pub slot : (e i : ℕ) → e < length J.cmds → i < 5 → get_or slots (e * 5 + i) 0 ≡ get_or (words.slots (nth J.cmds e)) i 0
  -- names from 2 on; types and their sets
  pub name_word_lem : (i : ℕ) (d : Name) → get_elem? J.names i ≡ some d → get_or names (i + 2) 0 ≡ words.name_word d
  pub type_word_lem : (i : ℕ) (t : TypeEntry) → get_elem? J.types i ≡ some t → get_or types i 0 ≡ words.type_word t
  pub set_word_lem : (i : ℕ) (t : TypeEntry) → get_elem? J.types i ≡ some t → get_or sets i 0 ≡ words.set_word t
