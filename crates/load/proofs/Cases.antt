-- What a load came to, by its answer.
use Rattle.std.proofs.Math.Path.{◌≡◌, refl}
use Rattle.std.proofs.Common.{sym, ap, ◌∙◌, arith}
use Rattle.std.specs.Prelude.{ℕ, Bool, true, List}
use Rattle.std.proofs.Math.Bool.{false}
use Rattle.syntax.specs.Reading.{Read, refused, read, refused_at}
use Rattle.syntax.specs.Loading.{JobTables, short, loading, load_with, holding}
use Rattle.syntax.proofs.LoadLaws.{long_load, long_after, short_load}
use Rattle.table.specs.declared.Refusal.{Refusal}
use Rattle.entry.specs.declared.Shape.{Shape}
use Rattle.job.specs.Answer.{Answer}
use Rattle.std.specs.Prelude.{Ok, Err}
use Rattle.job.specs.Answer.{answer_of}
use Rattle.load.specs.Loads.{LoadTo}
use Rattle.load.specs.Cases.{Loaded}

refusal_is : (R : Read) (k : Refusal) → Err k ≡ answer_of R → R ≡ refused_at k.number k.place
unfolding answer_of
refusal_is (refused r) k e = let y : k ≡ record { number = r.number; place = r.place } = cc in ap (λ (z : Refusal). refused_at z.number z.place) (sym y)
refusal_is (read J) k e = absurd (let z : ◌≡◌ {A = ℕ} 0 1 = cc in omega arith)

module _ {bytes : List ℕ} {r : Answer} {w x : JobTables} (to : LoadTo bytes r w x) where
  pub refused_by_lem : (k : Refusal) → r ≡ Err k → load_with w bytes ≡ refused_at k.number k.place
  refused_by_lem k e = refusal_is (load_with w bytes) k (sym e ∙ to.answer)

  pub job_loaded : {g : Shape} → r ≡ Ok g → Loaded bytes g w x
  unfolding answer_of holding
  job_loaded {g} e = at (short w) refl
    where
      job : (R : Read) → loading bytes ≡ R → short w ≡ false → Ok g ≡ answer_of R → x ≡ holding R w → Loaded bytes g w x
      job (refused q) i l a t = absurd (let z : ◌≡◌ {A = ℕ} 0 1 = cc in omega arith)
      job (read J) i l a t = record { job = J; is = i; shape = cc; long = l; tables = t }

      at : (b : Bool) → short w ≡ b → Loaded bytes g w x
      at true l = absurd (let y : Ok g ≡ answer_of (refused_at 1 0) = sym e ∙ to.answer ∙ ap answer_of (short_load w bytes l) in let z : ◌≡◌ {A = ℕ} 0 1 = cc in omega arith)
      at false l = job (loading bytes) refl l (sym e ∙ to.answer ∙ ap answer_of (long_load w bytes l)) (to.tables ∙ long_after w bytes l)
