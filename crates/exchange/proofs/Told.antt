-- What callers are told of reading and of writing.
use mathlib.Core.Path.{◌≡◌, sym, ap, ◌∙◌}
use Prim.Native.Nat.{ℕ, ◌≤◌, ◌<◌}
use native.Mathlib.Omega.{arith}
use mathlib.Core.Bool.{true, false}
use mathlib.Core.List.{List}
use lib.ListN.{length, set}
use lib.Dec.{ltb}
use borrow.Author.Tests.{lt-ltb, le-ltb}
use Rattle.syntax.specs.Reading.{Read, refused, read}
use Rattle.syntax.specs.Loading.{JobTables, read_with, tables_after_read}
use Rattle.syntax.specs.Writing.{Sent, sent, unsent, write_with, buffer_after}
use Rattle.table.specs.Told.{Tells}
use Rattle.table.specs.declared.Refusal.{Refusal}
use Rattle.entry.specs.Shapes.{shape_of, counts_of}
use Rattle.entry.specs.declared.Shape.{Shape}
use Rattle.job.specs.Answer as jobs
use Rattle.job.specs.Answer.{Answer}
use Rattle.std.specs.Prelude.{Ok, Err}
use Rattle.writer.specs.Sends as sends
use Rattle.writer.specs.Sends.{Sent as Answered, WriteTo}
use Rattle.exchange.specs.Exchanges.{laid_counts, shape_in, read_by, tables_read_by, read_number, counts_after, Reads, written_by, sent_number, sent_word, Writes}

-- Reading

-- what is told of a job that is read, and of a refusal
job_told : {r : ℕ} (k : List ℕ) {k' : List ℕ} (Q : Read) {g : Shape} → jobs.answer_of Q ≡ Ok g → r ≡ 0 → k' ≡ laid_counts k g → (r ≡ read_number Q) × (k' ≡ counts_after Q k)
unfolding jobs.answer_of read_number counts_after
job_told k (read J) {g} e n c = let z : g ≡ shape_of J = cc in (n, c ∙ ap (laid_counts k) z)
job_told k (refused q) e n c = absurd (let z : ◌≡◌ {A = ℕ} 0 1 = cc in omega arith)

refusal_told : {r : ℕ} (k : List ℕ) {k' : List ℕ} (Q : Read) {u : Refusal} → jobs.answer_of Q ≡ Err u → Tells u.number u.place r k k' → (r ≡ read_number Q) × (k' ≡ counts_after Q k)
unfolding jobs.answer_of read_number counts_after
refusal_told k (read J) e t = absurd (let z : ◌≡◌ {A = ℕ} 0 1 = cc in omega arith)
refusal_told k (refused q) {u} e t =
    let z : u ≡ record { number = q.number; place = q.place } = cc in
    (t.number ∙ ap (λ (v : Refusal). v.number) z, t.told ∙ ap (λ (v : Refusal). set k 0 v.place) z)

module _ {bytes : List ℕ} (k : List ℕ) {k' : List ℕ} {w x : JobTables} {r : ℕ} where
  pub reads_short : length k < 5 → x ≡ w → Tells 1 0 r k k' → Reads bytes r w x k k'
  unfolding read_by tables_read_by read_number counts_after
  reads_short h e t =
      let b : ltb (length k) 5 ≡ true = lt-ltb (length k) 5 h in
      record { number = rw b t.number; tables = rw b e; counts = rw b t.told }

  module _ (h : 5 ≤ length k) {a : Answer} (e : a ≡ jobs.answer_of (read_with w bytes)) (y : x ≡ tables_after_read w bytes) where
    reads_long : (r ≡ read_number (read_with w bytes)) × (k' ≡ counts_after (read_with w bytes) k) → Reads bytes r w x k k'
    unfolding read_by tables_read_by
    reads_long z = let b : ltb (length k) 5 ≡ false = le-ltb (length k) 5 h in record { number = rw b z.0; tables = rw b y; counts = rw b z.1 }

    pub reads_job : {g : Shape} → a ≡ Ok g → r ≡ 0 → k' ≡ laid_counts k g → Reads bytes r w x k k'
    reads_job z n c = reads_long (job_told k (read_with w bytes) (sym e ∙ z) n c)

    pub reads_refused : {u : Refusal} → a ≡ Err u → Tells u.number u.place r k k' → Reads bytes r w x k k'
    reads_refused z t = reads_long (refusal_told k (read_with w bytes) (sym e ∙ z) t)

-- Writing

bytes_told : {r n : ℕ} {o o' : List ℕ} (S : Sent) → sends.answer_of S ≡ Ok n → Tells 0 n r o o' → (r ≡ sent_number S) × (o' ≡ set o 0 (sent_word S))
unfolding sends.answer_of sent_number sent_word
bytes_told {n = n} {o} (sent s) e t = let z : n ≡ length s = cc in (t.number, t.told ∙ ap (set o 0) z)
bytes_told (unsent q) e t = absurd (let z : ◌≡◌ {A = ℕ} 0 1 = cc in omega arith)

unsent_told : {r : ℕ} {o o' : List ℕ} (S : Sent) {u : Refusal} → sends.answer_of S ≡ Err u → Tells u.number u.place r o o' → (r ≡ sent_number S) × (o' ≡ set o 0 (sent_word S))
unfolding sends.answer_of sent_number sent_word
unsent_told (sent s) e t = absurd (let z : ◌≡◌ {A = ℕ} 0 1 = cc in omega arith)
unsent_told {o = o} (unsent q) {u} e t =
    let z : u ≡ record { number = q.number; place = q.place } = cc in
    (t.number ∙ ap (λ (v : Refusal). v.number) z, t.told ∙ ap (λ (v : Refusal). set o 0 v.place) z)

module _ {w x : JobTables} (k : List ℕ) {b b' : List ℕ} where
  pub writes_short : {o o' : List ℕ} {r : ℕ} → length k < 5 → x ≡ w → b' ≡ b → Tells 1 0 r o o' → Writes w x k r b b' o o'
  unfolding written_by sent_number sent_word buffer_after
  writes_short h e y t =
      let c : ltb (length k) 5 ≡ true = lt-ltb (length k) 5 h in
      record { number = rw c t.number; told = rw c t.told; buffer = rw c y; tables = e }

  module _ (h : 5 ≤ length k) {g : Shape} (z : g ≡ shape_in k) {a : Answered} (e : WriteTo w x (counts_of g) a b b') where
    is : written_by w k (length b) ≡ write_with w (counts_of g) (length b)
    unfolding written_by
    is = rw (le-ltb (length k) 5 h) (ap (λ (s : Shape). write_with w (counts_of s) (length b)) (sym z))

    writes_long : {o o' : List ℕ} {r : ℕ} → (r ≡ sent_number (write_with w (counts_of g) (length b))) × (o' ≡ set o 0 (sent_word (write_with w (counts_of g) (length b)))) → Writes w x k r b b' o o'
    writes_long {o} y =
        record {
          number = y.0 ∙ ap sent_number (sym is);
          told = y.1 ∙ ap (λ (s : Sent). set o 0 (sent_word s)) (sym is);
          buffer = e.buffer ∙ ap (λ (s : Sent). buffer_after s b) (sym is);
          tables = e.tables;
        }

    pub writes_sent : {o o' : List ℕ} {r n : ℕ} → a ≡ Ok n → Tells 0 n r o o' → Writes w x k r b b' o o'
    writes_sent y t = writes_long (bytes_told (write_with w (counts_of g) (length b)) (sym e.answer ∙ y) t)

    pub writes_refused : {o o' : List ℕ} {r : ℕ} {u : Refusal} → a ≡ Err u → Tells u.number u.place r o o' → Writes w x k r b b' o o'
    writes_refused y t = writes_long (unsent_told (write_with w (counts_of g) (length b)) (sym e.answer ∙ y) t)
