-- What `read` leaves: its answer and its tables by the definitions of loading, 1 to 7 alone.
use Rattle.std.specs.Prelude.{◌≡◌, ℕ, Bool, not, List, length, ltb, leb}
use Rattle.std.proofs.Math.Path.{refl, ap}
use Rattle.std.proofs.Common.{sym, ◌∙◌, lt-ltb, le-ltb, leb-true, leb-false}
use Rattle.std.proofs.Math.Bool.{true, false, cond}
use Rattle.order.specs.Bools.{◌or◌}
use Rattle.syntax.specs.Words.{name_words, type_words, set_words, value_words, head_words, slot_words}
use Rattle.syntax.specs.Loading.{short, zeros, cleared, filled_with, read_with, holding, tables_after_read, most_entries, most_slots}
use Rattle.syntax.specs.Reading.{Read, refused, read, refused_at, reading, most_names, most_variables, most_expressions}
use Rattle.table.specs.Lent.{job_tables}
use Rattle.job.specs.Answer.{Answer, long_enough, long_tables, answer_of, refused_by, table_of, after_of, ReadTo}
use Rattle.job.specs.ReadTables.{left}

-- 1: some table is short where not all are long enough
not_all : (a b c d e f : Bool) → (not a or not b or not c or not d or not e or not f) ≡ not (cond a (cond b (cond c (cond d (cond e f false) false) false) false) false)
unfolding ◌or◌
not_all false b c d e f = refl
not_all true false c d e f = refl
not_all true true false d e f = refl
not_all true true true false e f = refl
not_all true true true true false f = refl
not_all true true true true true f = refl

shorter : (n most : ℕ) → ltb n most ≡ not (leb most n)
shorter n most = at (leb most n) refl
  where
    at : (b : Bool) → leb most n ≡ b → ltb n most ≡ not b
    at true e = le-ltb n most (leb-true most n e)
    at false e = lt-ltb n most (leb-false most n e)

pub short_tables : (n t s v h p : List ℕ) → short (job_tables n t s v h p) ≡ not (long_tables n t s v h p)
unfolding short long_enough
short_tables n t s v h p =
    (λ i.
    shorter (length n) most_names i or shorter (length t) most_entries i or shorter (length s) most_entries i or shorter (length v) most_variables i or shorter (length h) most_expressions i
    or shorter (length p) most_slots i)
    ∙ not_all (leb most_names (length n)) (leb most_entries (length t)) (leb most_entries (length s)) (leb most_variables (length v)) (leb most_expressions (length h)) (leb most_slots (length p))

module _ {bytes n t s v h p n' t' s' v' h' p' : List ℕ} {a : Answer} (to : ReadTo bytes a n t s v h p n' t' s' v' h' p') where
  pub tables_left : (b : Bool) (R : Read) → long_tables n t s v h p ≡ b → reading bytes ≡ R → job_tables n' t' s' v' h' p' ≡ left b R (job_tables n t s v h p)
  unfolding after_of table_of left holding cleared zeros filled_with
  tables_left b R l i =
      (λ k. job_tables (to.names k) (to.types k) (to.sets k) (to.values k) (to.heads k) (to.slots k))
      ∙ (λ k.
      job_tables (after_of (l k) name_words (i k) n) (after_of (l k) (λ J. type_words J.types) (i k) t) (after_of (l k) (λ J. set_words J.types) (i k) s) (after_of (l k) value_words (i k) v)
      (after_of (l k) head_words (i k) h) (after_of (l k) slot_words (i k) p))
      ∙ by b R
    where
      by : (c : Bool) (Q : Read)
          → job_tables (after_of c name_words Q n) (after_of c (λ J. type_words J.types) Q t) (after_of c (λ J. set_words J.types) Q s) (after_of c value_words Q v) (after_of c head_words Q h) (after_of c slot_words Q p)
          ≡ left c Q (job_tables n t s v h p)
      by false Q = refl
      by true (refused r) = refl
      by true (read J) = refl

  long_is : long_tables n t s v h p ≡ not (short (job_tables n t s v h p))
  long_is = twice (long_tables n t s v h p) ∙ ap not (sym (short_tables n t s v h p))
    where
      twice : (b : Bool) → b ≡ not (not b)
      twice true = refl
      twice false = refl

  -- the answer, and the tables: 1 first
  pub read_answer : a ≡ answer_of (read_with (job_tables n t s v h p) bytes)
  unfolding read_with answer_of
  read_answer = to.answer ∙ ap (λ (b : Bool). cond b (answer_of (reading bytes)) (refused_by 1 0)) long_is ∙ by (short (job_tables n t s v h p))
    where
      by : (b : Bool) → cond (not b) (answer_of (reading bytes)) (refused_by 1 0) ≡ answer_of (cond b (refused_at 1 0) (reading bytes))
      by true = refl
      by false = refl

  pub read_tables : job_tables n' t' s' v' h' p' ≡ tables_after_read (job_tables n t s v h p) bytes
  unfolding tables_after_read left
  read_tables = tables_left (long_tables n t s v h p) (reading bytes) refl refl ∙ ap (λ (b : Bool). left b (reading bytes) (job_tables n t s v h p)) long_is ∙ by (short (job_tables n t s v h p))
    where
      by : (b : Bool) → left (not b) (reading bytes) (job_tables n t s v h p) ≡ cond b (job_tables n t s v h p) (holding (reading bytes) (job_tables n t s v h p))
      by true = refl
      by false = refl
