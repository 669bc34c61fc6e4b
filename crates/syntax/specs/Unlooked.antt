-- What writing doesn't look at: entries that the counts don't count, and fields of a word that are neither its command nor an operand of it. Tables that differ nowhere else write the same bytes,
-- or are refused the same way.
use Rattle.std.specs.Prelude.{◌≡◌, ℕ, ◌+◌, ◌*◌, ◌/◌, ◌%◌, ◌<◌, List, take}
use Rattle.std.proofs.Math.Option.{some}
use Rattle.syntax.specs.Commands.{Op, op_of, section_of}
use Rattle.syntax.specs.Reading.{most_declared, most_types, most_variables, most_expressions}
use Rattle.syntax.specs.Loading.{JobTables}
use Rattle.syntax.specs.Writing.{Counts, name_at, type_at, set_at, value_at, head_at, name_numbers, type_numbers, value_numbers}
use Rattle.syntax.specs.ScriptLaws.{cmd_numbers}

-- two entries of the table of section `sec` have the same command field, and the same numbers for the operands of the command that it is, if it is one of the table's
pub record SameRow (sec x y : ℕ) (f g : Op → List ℕ) : Type 0 where
  pub command : x ≡ y
  pub operands_are : (op : Op) → op_of x ≡ some op → section_of op ≡ sec → f op ≡ g op

abbrev pub SameName : JobTables → JobTables → ℕ → Type 0
SameName w v i = SameRow 0 (name_at w i / 256) (name_at v i / 256) (name_numbers (name_at w i)) (name_numbers (name_at v i))

abbrev pub SameType : JobTables → JobTables → ℕ → Type 0
SameType w v i = SameRow 1 (type_at w i % 256) (type_at v i % 256) (type_numbers (type_at w i) (set_at w i)) (type_numbers (type_at v i) (set_at v i))

abbrev pub SameValue : JobTables → JobTables → ℕ → Type 0
SameValue w v i = SameRow 2 (value_at w i % 256) (value_at v i % 256) (value_numbers (value_at w i)) (value_numbers (value_at v i))

abbrev pub SameCmd : JobTables → JobTables → ℕ → Type 0
SameCmd w v i = SameRow 4 (head_at w i % 256) (head_at v i % 256) (cmd_numbers w i) (cmd_numbers v i)

-- the tables w and v are the same wherever writing looks: in the entries that are counted, up to the limits
pub record SameLooked (w v : JobTables) (c : Counts) : Type 0 where
  pub names : (i : ℕ) → i < c.names → i < most_declared → SameName w v i
  pub types : (i : ℕ) → i < c.types → i < most_types → SameType w v i
  pub values : (i : ℕ) → i < c.values → i < most_variables → SameValue w v i
  pub cmds : (i : ℕ) → i < c.cmds → i < most_expressions → SameCmd w v i

-- Items

-- tables that end at the counts
unfoldable pub cut_at : Counts → JobTables → JobTables
cut_at c w =
    record {
      names = take (2 + c.names) w.names;
      types = take c.types w.types;
      sets = take c.types w.sets;
      values = take c.values w.values;
      heads = take c.cmds w.heads;
      slots = take (c.cmds * 5) w.slots;
    }

-- tables with another table of names; with other type words and sets; with other heads and places
abbrev pub with_names : List ℕ → JobTables → JobTables
with_names l w = record { names = l; types = w.types; sets = w.sets; values = w.values; heads = w.heads; slots = w.slots }

abbrev pub with_types : List ℕ → List ℕ → JobTables → JobTables
with_types l s w = record { names = w.names; types = l; sets = s; values = w.values; heads = w.heads; slots = w.slots }

abbrev pub with_heads : List ℕ → List ℕ → JobTables → JobTables
with_heads l s w = record { names = w.names; types = w.types; sets = w.sets; values = w.values; heads = l; slots = s }
