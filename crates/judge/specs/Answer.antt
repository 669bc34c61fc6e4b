-- The tables as loading leaves them for a job, and what judging it gives: an acceptance, with the tables afterwards, or a refusal.
use Rattle.std.specs.Prelude.{◌≡◌, ℕ, false, List, length, Result, Ok, Err}
use Rattle.order.specs.Effects.{of_word}
use Rattle.syntax.specs.Types.{tree}
use Rattle.syntax.specs.Job.{Job}
use Rattle.syntax.specs.Reading.{read}
use Rattle.syntax.specs.Loading.{zeros, filled_with, loading}
use Rattle.syntax.specs.WordLaws.{Bytes}
use Rattle.typing.specs.Verdict as rules
use Rattle.typing.specs.Tables.{Tables, short}
use Rattle.typing.specs.Numbered.{Sofar, whole, numbering}
use Rattle.typing.proofs.NumberedLaws.{Inv}
use Rattle.typing.specs.NumberedVerdict.{last_entry, last_effect, filled_from}
use Rattle.elaborate.specs.OpsLaws.{job_ops}
use Rattle.entry.specs.declared.Shape.{Shape}
use Rattle.entry.specs.Shapes.{shape_of}
use Rattle.table.specs.Lent.{job_tables}
use Rattle.table.specs.declared.Refusal.{Refusal}
use Rattle.judge.specs.declared.Accepted.{Accepted}

-- what a job is accepted with, or its refusal
abbrev pub Verdict : Type 0
Verdict = Result Accepted Refusal

-- by the entry of its type, and its effect
abbrev pub accepted_by : ℕ → ℕ → Verdict
accepted_by i s = Ok (record { entry = i; effect = s })

-- by number and place
abbrev pub refused_by : ℕ → ℕ → Verdict
refused_by n p = Err (record { number = n; place = p })

abbrev pub tables : List ℕ → List ℕ → List ℕ → List ℕ → List ℕ → List ℕ → List ℕ → List ℕ → Tables
tables n t s v h p o e = record { job = job_tables n t s v h p; entries = o; effects = e }

-- the tables as loading leaves them for the job J
pub record Given (bytes : List ℕ) (J : Job) (g : Shape) (w : Tables) : Type 0 where
  pub bytes_are : Bytes bytes
  pub is_loaded : loading bytes ≡ read J
  pub shape : g ≡ shape_of J
  pub job : w.job ≡ filled_with J.types J w.job
  pub long : short w ≡ false

-- no expression has an entry or an effect yet
pub record Untyped (w : Tables) : Type 0 where
  pub entries : w.entries ≡ zeros w.entries
  pub effects : w.effects ≡ zeros w.effects

-- the answer on such tables, and where it is an acceptance the tables afterwards
pub data Judged (bytes : List ℕ) (J : Job) : Verdict → Tables → Type 0 where
  accepted : (k : ℕ) (σ : Sofar) (x : Tables) (i s : ℕ) → numbering (job_ops k J) J ≡ whole σ → Inv J (length J.cmds) σ → x ≡ filled_from J σ x → i ≡ last_entry J σ → of_word s ≡ last_effect J σ
      → rules.verdict_of bytes ≡ rules.accept (tree σ.entries i) (of_word s) → Judged bytes J (accepted_by i s) x
  refused_by_lem : (n p : ℕ) (x : Tables) → rules.verdict_of bytes ≡ rules.refuse (record { number = n; place = p }) → Judged bytes J (refused_by n p) x
