-- The start of the job that words hold, for all words.
use Rattle.std.specs.Prelude.{◌≡◌, ℕ, ◌+◌, ◌≤◌, Bool, cond, List, map, replicate, leb, ltb}
use Rattle.order.specs.Bools.{◌and◌}
use Rattle.order.specs.Sets.{set_of}
use Rattle.order.specs.Effects as effects
use Rattle.syntax.specs.Commands.{c_top}
use Rattle.syntax.specs.Job.{Src}
use Rattle.syntax.specs.Reading.{most_declared, most_variables, most_expressions}
use Rattle.syntax.specs.Tree.{root}
use Rattle.semantics.specs.Machine.{most_keys}
use Rattle.semantics.specs.Start.{named, key_named, valued}
use Rattle.names.specs.Ancestors.{names_in}
use Rattle.store.specs.Meaning.{keys_in}
use Rattle.store.specs.Words.{up_in, cell_in, link_in}
use Rattle.store.specs.Tables.{list_of}
use Rattle.initial.specs.Entries.{values_from}
use Rattle.initial.specs.Empty.{no_job}
use Rattle.initial.specs.declared.Initial.{Initial}

-- what the start looks at in a job, by its words: its names, its host values, its rights, and how many expressions it has; which they are is not looked at
unfoldable pub word_source : List ℕ → ℕ → List ℕ → List ℕ → ℕ → ℕ → ℕ → Src
word_source names nnames types values nvalues rights cmds =
    record { names = names_in names nnames; values = values_from types values 0 nvalues; rights = effects.of_word rights; cmds = replicate cmds c_top }

-- counts that a job can have
unfoldable pub is_job : ℕ → ℕ → ℕ → Bool
is_job nnames nvalues cmds = leb nnames most_declared and leb nvalues most_variables and ltb 0 cmds and leb cmds most_expressions

-- the job that the words hold; none where the counts are no job's
unfoldable pub source_in : List ℕ → ℕ → List ℕ → List ℕ → ℕ → ℕ → ℕ → Src
source_in names nnames types values nvalues rights cmds = cond (is_job nnames nvalues cmds) (word_source names nnames types values nvalues rights cmds) no_job

-- the tables are those of the start of S, and the counts are within the rooms
pub record Begun (S : Src) (r : Initial) : Type 0 where
  pub keys : list_of up_in r.keys r.nkeys ≡ (named S).keys
  pub cells : list_of cell_in r.cells r.ncells ≡ (valued S).cells
  pub bindings : list_of link_in r.bindings r.nbindings ≡ (valued S).bindings
  pub on : keys_in r.on ≡ set_of (map (key_named S) (effects.names S.rights))
  pub its_root : r.root ≡ root S
  pub few_keys : r.nkeys ≤ most_keys
  pub few_cells : r.ncells ≤ most_variables
  pub few_bindings : r.nbindings ≤ most_declared + most_variables
