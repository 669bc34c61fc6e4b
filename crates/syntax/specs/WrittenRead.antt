-- What is written is read as the job that the tables hold: entry by entry the one that the check and the machine read there. So nothing that is no job is ever sent.
-- With WrittenBack: reading and writing are inverse on jobs, and so reading is injective on them, as `read_once` of BytesBack says by itself.
use Rattle.std.specs.Prelude.{◌≡◌}
use Prim.Native.Nat.{ℕ}
use mathlib.Core.List.{List, map}
use Rattle.std.proofs.Math.Option.{some}
use Rattle.order.specs.Effects.{of_word}
use Rattle.syntax.specs.Job.{Job}
use Rattle.syntax.specs.Reading.{read, reading}
use Rattle.syntax.specs.Words.{name_of, value_in, entry_in, code_in}
use Rattle.syntax.specs.Loading.{JobTables}
use Rattle.syntax.specs.Writing.{Counts, name_at, value_at}
use Rattle.syntax.specs.Writing.{each}

-- the job that the tables hold, by the words that the check and the machine read
pub record Held (w : JobTables) (c : Counts) (J : Job) : Type 0 where
  pub names : J.names ≡ each (λ i. name_of (name_at w i)) 0 c.names
  pub types : map some J.types ≡ each (entry_in w.types w.sets) 0 c.types
  pub values : J.values ≡ each (λ i. value_in (value_at w i)) 0 c.values
  pub rights : J.rights ≡ of_word c.rights
  pub cmds : J.cmds ≡ each (code_in w.heads w.slots) 0 c.cmds

-- Rows that are read: the job has what each of them means

-- what is sent, as it is read
pub record SentRead (w : JobTables) (c : Counts) (s : List ℕ) : Type 0 where
  pub job : Job
  pub is_read : reading s ≡ read job
  pub held : Held w c job
