-- Reading a job into tables and writing it from them, in words.
use Rattle.std.specs.Prelude.{◌≡◌, ℕ, cond, List, length, get_or, set, ltb}
use Rattle.syntax.specs.Reading.{Read, refused, read, refused_at}
use Rattle.syntax.specs.Loading.{JobTables, read_with, tables_after_read}
use Rattle.syntax.specs.Writing.{Sent, sent, unsent, unsent_at, write_with, buffer_after}
use Rattle.entry.specs.Shapes.{shape_of, counts_of}
use Rattle.entry.specs.declared.Shape.{Shape}

-- names, types, host values, expressions, rights
abbrev pub count_words_lem : ℕ
count_words_lem = 5

unfoldable pub laid_counts : List ℕ → Shape → List ℕ
laid_counts o g = set (set (set (set (set o 0 g.names) 1 g.types) 2 g.values) 3 g.cmds) 4 g.rights

unfoldable pub shape_in : List ℕ → Shape
shape_in k = record { names = get_or k 0 0; types = get_or k 1 0; values = get_or k 2 0; cmds = get_or k 3 0; rights = get_or k 4 0 }

-- reading with k for the counts: 1 too where they are too few
unfoldable pub read_by : JobTables → List ℕ → List ℕ → Read
read_by w k s = cond (ltb (length k) count_words_lem) (refused_at 1 0) (read_with w s)

unfoldable pub tables_read_by : JobTables → List ℕ → List ℕ → JobTables
tables_read_by w k s = cond (ltb (length k) count_words_lem) w (tables_after_read w s)

-- 0 for a job that is read, and the words of its counts; the number of a refusal, and its place as the first word
unfoldable pub read_number : Read → ℕ
read_number (read J) = 0
read_number (refused q) = q.number

unfoldable pub counts_after : Read → List ℕ → List ℕ
counts_after (read J) k = laid_counts k (shape_of J)
counts_after (refused q) k = set k 0 q.place

-- `read`: the tables w are x afterwards, and the counts k are k'
pub record Reads (bytes : List ℕ) (r : ℕ) (w x : JobTables) (k k' : List ℕ) : Type 0 where
  pub number : r ≡ read_number (read_by w k bytes)
  pub tables : x ≡ tables_read_by w k bytes
  pub counts : k' ≡ counts_after (read_by w k bytes) k

-- writing by the words of counts, into n bytes
unfoldable pub written_by : JobTables → List ℕ → ℕ → Sent
written_by w k n = cond (ltb (length k) count_words_lem) (unsent_at 1 0) (write_with w (counts_of (shape_in k)) n)

-- 0 and how many bytes there are; the number of a refusal, and its place
unfoldable pub sent_number : Sent → ℕ
sent_number (sent s) = 0
sent_number (unsent q) = q.number

unfoldable pub sent_word : Sent → ℕ
sent_word (sent s) = length s
sent_word (unsent q) = q.place

-- `write`: the tables w are x afterwards, the buffer b is b', and o is o'
pub record Writes (w x : JobTables) (k : List ℕ) (r : ℕ) (b b' o o' : List ℕ) : Type 0 where
  pub number : r ≡ sent_number (written_by w k (length b))
  pub told : o' ≡ set o 0 (sent_word (written_by w k (length b)))
  pub buffer : b' ≡ buffer_after (written_by w k (length b)) b
  pub tables : x ≡ w
