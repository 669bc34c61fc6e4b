-- Loading a job from its bytes into lent tables: 1 to 10, which are apart from types, or reading alone, 1 to 7; and what each of the tables holds afterwards.
use Rattle.std.specs.Prelude.{ℕ, ◌*◌, Bool, cond, List, length, replicate, ltb}
use Rattle.std.proofs.Math.Option.{Option, none, some}
use Rattle.order.specs.Bools.{◌or◌}
use Rattle.syntax.specs.Types.{TypeEntry}
use Rattle.syntax.specs.Job.{Job, source_of}
use Rattle.syntax.specs.Reading.{Refusal, Read, refused, read, refused_at, reading, most_names, most_variables, most_expressions}
use Rattle.syntax.specs.Tree.{tree_refusal}
use Rattle.syntax.specs.Words.{filled, name_words, type_words, set_words, value_words, head_words, slot_words}

-- the tables of a job: names; types and their sets; host values; the heads and the operands of expressions
pub record JobTables : Type 0 where
  pub names : List ℕ
  pub types : List ℕ
  pub sets : List ℕ
  pub values : List ℕ
  pub heads : List ℕ
  pub slots : List ℕ

-- "type table: 2,304 entries"; an expression has five places for operands of two bytes
abbrev pub most_entries : ℕ
most_entries = 2304

abbrev pub most_slots : ℕ
most_slots = most_expressions * 5

-- 1: "a lent work table is shorter than its limit"
unfoldable pub short : JobTables → Bool
short w =
    ltb (length w.names) most_names
    or ltb (length w.types) most_entries
    or ltb (length w.sets) most_entries
    or ltb (length w.values) most_variables
    or ltb (length w.heads) most_expressions
    or ltb (length w.slots) most_slots

-- as long as before, and all zero
unfoldable pub zeros : List ℕ → List ℕ
zeros l = replicate (length l) 0

unfoldable pub cleared : JobTables → JobTables
cleared w =
    record { names = zeros w.names; types = zeros w.types; sets = zeros w.sets; values = zeros w.values; heads = zeros w.heads; slots = zeros w.slots }

-- a job with the entries T in the type table: "the entries that the job doesn't use are zero"
unfoldable pub filled_with : List TypeEntry → Job → JobTables → JobTables
filled_with T J w =
    record {
      names = filled (length w.names) 0 (name_words J);
      types = filled (length w.types) 0 (type_words T);
      sets = filled (length w.sets) 0 (set_words T);
      values = filled (length w.values) 0 (value_words J);
      heads = filled (length w.heads) 0 (head_words J);
      slots = filled (length w.slots) 0 (slot_words J);
    }

-- 8 to 10 of a job that is read
unfoldable pub unless : Option Refusal → Job → Read
unless none J = read J
unless (some r) J = refused r

unfoldable pub in_tree : Read → Read
in_tree (refused r) = refused r
in_tree (read J) = unless (tree_refusal (source_of J)) J

-- the job, or 2 to 10, when all tables are long enough
unfoldable pub loading : List ℕ → Read
loading s = in_tree (reading s)

unfoldable pub load_with : JobTables → List ℕ → Read
load_with w s = cond (short w) (refused_at 1 0) (loading s)

-- reading alone, 1 to 7
unfoldable pub read_with : JobTables → List ℕ → Read
read_with w s = cond (short w) (refused_at 1 0) (reading s)

-- typing has made no entry yet
unfoldable pub holding : Read → JobTables → JobTables
holding (refused r) w = cleared w
holding (read J) w = filled_with J.types J w

-- "1 writes nothing; every other refusal leaves all lent tables zero to their ends."
unfoldable pub tables_after_load : JobTables → List ℕ → JobTables
tables_after_load w s = cond (short w) w (holding (loading s) w)

unfoldable pub tables_after_read : JobTables → List ℕ → JobTables
tables_after_read w s = cond (short w) w (holding (reading s) w)
