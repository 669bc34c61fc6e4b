-- The answer by the check's verdict.
use mathlib.Core.Path.{◌≡◌, refl}
use Prim.Native.Nat.{ℕ, ◌≤◌, ◌<◌}
use mathlib.Core.Bool.{false}
use mathlib.Core.List.{List}
use lib.ListN.{length}
use borrow.Author.Tests.{lt-ltb, le-ltb}
use Rattle.order.specs.Effects.{of_word}
use Rattle.syntax.specs.Job.{Job, source_of}
use Rattle.syntax.specs.WordLaws.{Bytes}
use Rattle.typing.specs.Tables.{Tables, short}
use Rattle.typing.specs.Verdict.{Verdict, verdict_of}
use Rattle.std.specs.Prelude.{Ok, Err}
use Rattle.table.specs.declared.Refusal.{Refusal}
use Rattle.checker.specs.declared.Checked.{Checked}
use Rattle.checker.specs.Answer.{tree_of, CheckTo}
use Rattle.start.specs.Starts.{Ready}
use Rattle.safety.specs.Accepting.{Accepting}
use Rattle.safety.proofs.Accepting.{accepting, refusing}
use Rattle.output.specs.Lines.{refused_line}
use Rattle.output.specs.Sheet.{rows_of, sheet_text, sheet_read, sheeted, sheet_of}
use Rattle.wall.specs.declared.Listing.{Listing}
use Rattle.wall.specs.Listed.{sheet_bytes, Laid, number_of, place_of, sheet_in, SheetTo}

-- a text that is too short
pub sheet_short : (bytes t : List ℕ) → length t < sheet_bytes → SheetTo bytes (record { number = 1; place = 0; len = 0 }) t t
unfolding sheet_in
sheet_short bytes t h = let e = lt-ltb (length t) sheet_bytes h in record { number = simp e; place = simp e; sheet = simp e (record { reach = refl; text = refl }) }

-- a text that is long enough, by the verdict
by_verdict : (bytes t u : List ℕ) (r : Listing) (v : Verdict) → sheet_bytes ≤ length t → verdict_of bytes ≡ v → r.number ≡ number_of v → r.place ≡ place_of v → Laid (sheet_of bytes) r.len t u → SheetTo bytes r t u
unfolding sheet_in
by_verdict bytes t u r v h e n p l = let z = le-ltb (length t) sheet_bytes h in record { number = simp (z, e) n; place = simp (z, e) p; sheet = simp z l }

pub sheet_refused :
    (bytes : List ℕ) (r : Refusal) (w x : Tables) (len : ℕ) (t u : List ℕ) → CheckTo bytes (Err r) w x → short w ≡ false → sheet_bytes ≤ length t
    → Laid (refused_line (record { number = r.number; place = r.place })) len t u → SheetTo bytes (record { number = r.number; place = r.place; len = len }) t u
unfolding number_of place_of sheet_of sheeted
sheet_refused bytes r w x len t u c l h y =
    let e = refusing bytes r w x c l in
    by_verdict bytes t u (record { number = r.number; place = r.place; len = len }) _ h e refl refl (simp e y)

pub sheet_accepted :
    (bytes : List ℕ) (r : Checked) (w x : Tables) (len : ℕ) (t u : List ℕ) → CheckTo bytes (Ok r) w x → Bytes bytes → sheet_bytes ≤ length t
    → ((J : Job) → Ready J r.shape x.job.names x.job.types x.job.values → Laid (sheet_text (rows_of (source_of J) (of_word r.accepted.effect))) len t u) → SheetTo bytes (record { number = 0; place = 0; len = len }) t u
unfolding number_of place_of sheet_of sheeted sheet_read
sheet_accepted bytes r w x len t u c by h f = go (accepting bytes by r w x c)
  where
    go : Accepting bytes r.shape (tree_of x.job.types x.job.sets r.accepted.entry) (of_word r.accepted.effect) x → SheetTo bytes (record { number = 0; place = 0; len = len }) t u
    go y = by_verdict bytes t u (record { number = 0; place = 0; len = len }) _ h y.verdict refl refl (simp (y.verdict, y.is) (f y.job y.ready))
