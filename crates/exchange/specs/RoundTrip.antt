-- Sent on, from the contracts alone: what `read` takes, `write` gives back byte for byte; and what `write` sends, the reader takes as the job that the tables hold. The hypotheses are what the two
-- functions ensure, and nothing else.
use Rattle.std.specs.Prelude.{◌≡◌, refl, ℕ, ◌≤◌, Bool, true, false, cond, List, [], ◌∷◌, ◌++◌, ◌⊎◌, length, set, drop, ltb}
use Rattle.std.proofs.Common.{sym, ap, ap₂, ◌∙◌, arith, append-nil, inl, inr, length-set, ltb-false, le-ltb}
use Rattle.syntax.specs.Types.{TypeEntry}
use Rattle.syntax.specs.Job.{Job}
use Rattle.syntax.specs.Reading.{Refusal, Read, refused, read, refused_at, reading}
use Rattle.syntax.proofs.ReadPlaces.{refused_number}
use Rattle.syntax.specs.WordLaws.{Bytes}
use Rattle.syntax.specs.Loading.{JobTables, short, filled_with, holding, read_with, tables_after_read}
use Rattle.syntax.specs.Writing.{Sent, sent, unsent, unsent_at, write_with, buffer_after}
use Rattle.syntax.specs.WrittenBack as back
use Rattle.syntax.proofs.WrittenBack.{sent_back}
use Rattle.syntax.specs.WrittenRead.{Held}
use Rattle.syntax.proofs.WrittenRead.{written_read, write_sent}
use Rattle.syntax.specs.ScriptLaws.{Number}
use Rattle.syntax.proofs.ScriptLaws.{number_pos}
use Rattle.syntax.proofs.WrittenRefusals.{write_number}
use Rattle.entry.specs.Shapes.{shape_of, counts_of}
use Rattle.entry.specs.declared.Shape.{Shape}
use Rattle.exchange.specs.Exchanges.{laid_counts, shape_in, read_by, tables_read_by, read_number, counts_after, Reads, written_by, sent_number, sent_word, Writes}

-- Reading

-- a job that is read: 0 is told, the tables hold it, and the counts are its own
pub record JobRead (bytes : List ℕ) (w x : JobTables) (k k' : List ℕ) : Type 0 where
  pub job : Job
  pub is : reading bytes ≡ read job
  pub long : short w ≡ false
  pub room : ltb (length k) 5 ≡ false
  pub tables : x ≡ filled_with job.types job w
  pub counts : k' ≡ laid_counts k (shape_of job)

pub job_read : {bytes : List ℕ} {r : ℕ} {w x : JobTables} {k k' : List ℕ} → Reads bytes r w x k k' → r ≡ 0 → JobRead bytes w x k k'
unfolding read_by tables_read_by read_with tables_after_read read_number counts_after holding
job_read {bytes} {r} {w} {x} {k} {k'} h z = at (ltb (length k) 5) refl (short w) refl (reading bytes) refl (sym h.number ∙ z) h.tables h.counts
  where
    at : (a : Bool) → ltb (length k) 5 ≡ a → (b : Bool) → short w ≡ b → (R : Read) → reading bytes ≡ R → read_number (cond a (refused_at 1 0) (cond b (refused_at 1 0) R)) ≡ 0
        → x ≡ cond a w (cond b w (holding R w)) → k' ≡ counts_after (cond a (refused_at 1 0) (cond b (refused_at 1 0) R)) k → JobRead bytes w x k k'
    at true p b q R e n t c = absurd (omega (arith, n))
    at false p true q R e n t c = absurd (omega (arith, n))
    at false p false q (refused u) e n t c = absurd (omega (arith, n, (refused_number bytes u e).0))
    at false p false q (read J) e n t c = record { job = J; is = e; long = q; room = p; tables = t; counts = c }

-- the counts that are told are those that are taken
counts_back : (k : List ℕ) (g : Shape) → 5 ≤ length k → shape_in (laid_counts k g) ≡ g
unfolding shape_in laid_counts
counts_back [] g h = absurd (omega arith)
counts_back (a ∷ []) g h = absurd (omega arith)
counts_back (a ∷ b ∷ []) g h = absurd (omega arith)
counts_back (a ∷ b ∷ c ∷ []) g h = absurd (omega arith)
counts_back (a ∷ b ∷ c ∷ d ∷ []) g h = absurd (omega arith)
counts_back (a ∷ b ∷ c ∷ d ∷ e ∷ k) g h = refl

counts_length : (k : List ℕ) (g : Shape) → length (laid_counts k g) ≡ length k
unfolding laid_counts
counts_length k g = simp length-set

-- Writing

-- bytes are sent: 0 and how many there are, and they stand at the start of the buffer
pub record SentAll (s : List ℕ) (r : ℕ) (b b' o o' : List ℕ) : Type 0 where
  pub number : r ≡ 0
  pub told : o' ≡ set o 0 (length s)
  pub buffer : b' ≡ s ++ drop (length s) b

sent_all : {w x : JobTables} {k : List ℕ} {r : ℕ} {b b' o o' : List ℕ} → Writes w x k r b b' o o' → (s : List ℕ) → written_by w k (length b) ≡ sent s → SentAll s r b b' o o'
unfolding sent_number sent_word buffer_after
sent_all {b = b} {o = o} h s e =
    record {
      number = h.number ∙ ap sent_number e;
      told = h.told ∙ ap (λ (z : Sent). set o 0 (sent_word z)) e;
      buffer = h.buffer ∙ ap (λ (z : Sent). buffer_after z b) e;
    }

-- (a): read, and written into a buffer that is long enough
pub round_trip : {bytes : List ℕ} {r q : ℕ} {w x y : JobTables} {k k' b b' o o' : List ℕ} → Bytes bytes → Reads bytes r w x k k' → r ≡ 0
    → Writes x y k' q b b' o o' → length bytes ≤ length b → SentAll bytes q b b' o o'
unfolding written_by back.counts_of shape_of
round_trip {bytes} {w = w} {x = x} {k = k} {k' = k'} {b = b} by h z g l =
    let j = job_read h z in
    let J = j.job in
    let long : 5 ≤ length k = ltb-false (length k) 5 j.room in
    let many : ltb (length k') 5 ≡ false = le-ltb (length k') 5 (omega (arith, long, ap (λ (t : List ℕ). length t) j.counts, counts_length k (shape_of J))) in
    let shape : shape_in k' ≡ shape_of J = ap shape_in j.counts ∙ counts_back k (shape_of J) long in
    let tables : x ≡ filled_with (J.types ++ []) J w = j.tables ∙ ap (λ (T : List TypeEntry). filled_with T J w) (sym (append-nil J.types)) in
    sent_all g bytes
    (rw many (ap₂ (λ (t : JobTables) (u : Shape). write_with t (counts_of u) (length b)) tables shape ∙ sent_back bytes J by j.is w j.long [] (length b) l))

-- (b): what is written is a job, the one that the tables hold
pub record SentJob (w : JobTables) (k : List ℕ) (r : ℕ) (b b' o o' : List ℕ) : Type 0 where
  pub bytes : List ℕ
  pub job : Job
  pub is : reading bytes ≡ read job
  pub held : Held w (counts_of (shape_in k)) job
  pub all : SentAll bytes r b b' o o'

pub sends_a_job : {w x : JobTables} {k : List ℕ} {r : ℕ} {b b' o o' : List ℕ} → Writes w x k r b b' o o' → r ≡ 0 → SentJob w k r b b' o o'
unfolding written_by sent_number
sends_a_job {w} {x} {k} {r} {b} {b'} {o} {o'} h z = at (ltb (length k) 5) refl (write_with w (counts_of (shape_in k)) (length b)) refl (sym h.number ∙ z)
  where
    no_zero : (q : Refusal) → write_with w (counts_of (shape_in k)) (length b) ≡ unsent q → q.number ≡ 0 → ⊥
    no_zero q e n = by (write_number w (counts_of (shape_in k)) (length b) q e)
      where
        by : (q.number ≡ 1) ⊎ (Number q.number ⊎ (q.number ≡ 15)) → ⊥
        by (inl u) = omega (arith, u, n)
        by (inr (inl u)) = omega (arith, number_pos u, n)
        by (inr (inr u)) = omega (arith, u, n)

    at : (a : Bool) → ltb (length k) 5 ≡ a → (S : Sent) → write_with w (counts_of (shape_in k)) (length b) ≡ S → sent_number (cond a (unsent_at 1 0) S) ≡ 0 → SentJob w k r b b' o o'
    at true p S e n = absurd (omega (arith, n))
    at false p (unsent q) e n = absurd (no_zero q e n)
    at false p (sent s) e n =
        let wrote = (write_sent w (counts_of (shape_in k)) (length b) s e).0 in
        let j = written_read w (counts_of (shape_in k)) s wrote in
        record { bytes = s; job = j.job; is = j.is_read; held = j.held; all = sent_all h s (rw p e) }
