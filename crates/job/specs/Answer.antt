-- What `read` answers, and the lent tables afterwards.
use Rattle.std.specs.Prelude.{◌≡◌, ℕ, ◌≤◌, Bool, false, cond, List, length, replicate, leb, Result, Ok, Err}
use Rattle.syntax.specs.Job.{Job}
use Rattle.syntax.specs.Words.{filled, name_words, type_words, set_words, value_words, head_words, slot_words}
use Rattle.syntax.specs.Loading.{most_entries, most_slots}
use Rattle.syntax.specs.Reading.{Read, refused, read, reading, most_names, most_variables, most_expressions}
use Rattle.table.specs.declared.Refusal.{Refusal}
use Rattle.entry.specs.Shapes.{shape_of}
use Rattle.entry.specs.declared.Shape.{Shape}
use Rattle.entry.specs.declared.Entry.{Entry}
use Rattle.job.specs.After.{names_after, types_after, sets_after, depths_after, values_after, heads_after, slots_after}

-- what reading answers: the counts of a job, or a refusal
abbrev pub Answer : Type 0
Answer = Result Shape Refusal

abbrev pub refused_by : ℕ → ℕ → Answer
refused_by n p = Err (record { number = n; place = p })

-- the answer for a job read, or for a refusal by its number and place
unfoldable pub answer_of : Read → Answer
answer_of (refused r) = refused_by r.number r.place
answer_of (read J) = Ok (shape_of J)

-- a table of n entries afterwards: of a job the words that `words` gives, then zeros; of a refusal zeros to the end
unfoldable pub table_of : (Job → List ℕ) → Read → ℕ → List ℕ
table_of words (refused r) n = replicate n 0
table_of words (read J) n = filled n 0 (words J)

-- every lent table is as long as its limit
unfoldable pub long_enough : ℕ → ℕ → ℕ → ℕ → ℕ → ℕ → Bool
long_enough n t s v h p =
    cond (leb most_names n)
    (cond (leb most_entries t) (cond (leb most_entries s) (cond (leb most_variables v) (cond (leb most_expressions h) (leb most_slots p) false) false) false) false)
    false

abbrev pub long_tables : List ℕ → List ℕ → List ℕ → List ℕ → List ℕ → List ℕ → Bool
long_tables n t s v h p = long_enough (length n) (length t) (length s) (length v) (length h) (length p)

unfoldable pub after_of : Bool → (Job → List ℕ) → Read → List ℕ → List ℕ
after_of ok words r t = cond ok (table_of words r (length t)) t

-- `read`: number 1 writes nothing; else the answer is that of reading the bytes, and each table holds the job's words or zeros
pub record ReadTo (bytes : List ℕ) (r : Answer) (n t s v h p n' t' s' v' h' p' : List ℕ) : Type 0 where
  pub answer : r ≡ cond (long_tables n t s v h p) (answer_of (reading bytes)) (refused_by 1 0)
  pub names : n' ≡ after_of (long_tables n t s v h p) name_words (reading bytes) n
  pub types : t' ≡ after_of (long_tables n t s v h p) (λ J. type_words J.types) (reading bytes) t
  pub sets : s' ≡ after_of (long_tables n t s v h p) (λ J. set_words J.types) (reading bytes) s
  pub values : v' ≡ after_of (long_tables n t s v h p) value_words (reading bytes) v
  pub heads : h' ≡ after_of (long_tables n t s v h p) head_words (reading bytes) h
  pub slots : p' ≡ after_of (long_tables n t s v h p) slot_words (reading bytes) p

-- the tables hold the words of J
pub record Holds (J : Job) (n t s v h p : List ℕ) (kn kt ks kv kh kp : ℕ) : Type 0 where
  pub names : n ≡ filled kn 0 (name_words J)
  pub types : t ≡ filled kt 0 (type_words J.types)
  pub sets : s ≡ filled ks 0 (set_words J.types)
  pub values : v ≡ filled kv 0 (value_words J)
  pub heads : h ≡ filled kh 0 (head_words J)
  pub slots : p ≡ filled kp 0 (slot_words J)

-- the answer is that of reading, and where a job is read the tables hold it
pub record Filled (bytes : List ℕ) (r : Answer) (n t s v h p : List ℕ) (kn kt ks kv kh kp : ℕ) : Type 0 where
  pub answer : r ≡ answer_of (reading bytes)
  pub tables : (J : Job) → reading bytes ≡ read J → Holds J n t s v h p kn kt ks kv kh kp

-- all zero, and as long as their limits
pub record Cleared (n t s v h p : List ℕ) : Type 0 where
  pub names : n ≡ replicate (length n) 0
  pub types : t ≡ replicate (length t) 0
  pub sets : s ≡ replicate (length s) 0
  pub values : v ≡ replicate (length v) 0
  pub heads : h ≡ replicate (length h) 0
  pub slots : p ≡ replicate (length p) 0

pub record Zeroed (n t s v h p n' t' s' v' h' p' : List ℕ) : Type 0 where
  pub names : n' ≡ replicate (length n) 0
  pub types : t' ≡ replicate (length t) 0
  pub sets : s' ≡ replicate (length s) 0
  pub values : v' ≡ replicate (length v) 0
  pub heads : h' ≡ replicate (length h) 0
  pub slots : p' ≡ replicate (length p) 0

-- an entry is put into the tables
pub record Put (e : Entry) (g : Shape) (d n t s v h p d' n' t' s' v' h' p' : List ℕ) : Type 0 where
  pub depths : d' ≡ depths_after e g d
  pub names : n' ≡ names_after e g n
  pub types : t' ≡ types_after e g t
  pub sets : s' ≡ sets_after e g s
  pub values : v' ≡ values_after e g v
  pub heads : h' ≡ heads_after e g h
  pub slots : p' ≡ slots_after e g p

-- counts that an entry more does not wrap
pub record Small (h : Shape) : Type 0 where
  pub names : h.names ≤ 65536
  pub types : h.types ≤ 65536
  pub values : h.values ≤ 65536
  pub cmds : h.cmds ≤ 4096
