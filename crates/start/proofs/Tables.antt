-- From what the load comes to, to what the start comes to.
use mathlib.Core.Path.{◌≡◌, refl, ap, ◌∙◌}
use Prim.Native.Nat.{ℕ}
use mathlib.Core.List.{List}
use lib.ListN.{length}
use Rattle.order.specs.Bools.{◌and◌}
use Rattle.syntax.specs.Job.{Job, source_of}
use Rattle.syntax.specs.ReadLaws.{JobOk}
use Rattle.syntax.proofs.ReadLaws.{read_ok}
use Rattle.syntax.specs.WordLaws.{Bytes, JobFits}
use Rattle.syntax.proofs.WordLaws.{job_fits}
use Rattle.syntax.specs.Loading.{JobTables, filled_with}
use Rattle.syntax.proofs.LoadLaws.{loaded, long_load}
use Rattle.semantics.specs.Start.{start_of}
use Rattle.semantics.specs.Starting.{started, start_loaded, start_with}
use Rattle.machine.specs.declared.Machine.{Machine}
use Rattle.machine.specs.View.{seen}
use Rattle.initial.specs.Empty.{empty_machine, machine_of, empty_is}
use Rattle.initial.specs.Begun.{is_job, source_in}
use Rattle.initial.specs.Held.{filled_holds}
use Rattle.entry.specs.declared.Shape.{Shape}
use Rattle.entry.specs.Shapes.{shape_of, no_shape}
use Rattle.std.specs.Prelude.{Ok, Err}
use Rattle.table.specs.declared.Refusal.{Refusal}
use Rattle.load.specs.Loads.{LoadTo}
use Rattle.load.specs.Cases.{Loaded}
use Rattle.load.proofs.Cases.{refused_by_lem, job_loaded}
use Rattle.start.specs.Starts.{Starts, built_from, Ready}
use Rattle.start.proofs.Starts.{ready_built}

-- of no job the empty machine is built, whatever the tables hold
pub none_built : (n t v : List ℕ) → built_from no_shape n t v ≡ empty_machine
unfolding built_from source_in is_job ◌and◌
none_built n t v = empty_is

ready_of : {J : Job} {g : Shape} {x : JobTables} (w : JobTables) → JobOk J → JobFits J → g ≡ shape_of J → x ≡ filled_with J.types J w → Ready J g x.names x.types x.values
unfolding filled_with shape_of
ready_of {J} w o f a b = record { ok = o; shape = a; holds = rw (a, b) (filled_holds J f (length w.names) (length w.types) (length w.values)) }

loaded_ready : {bytes : List ℕ} {g : Shape} {w x : JobTables} → Bytes bytes → (l : Loaded bytes g w x) → Ready l.job g x.names x.types x.values
loaded_ready {bytes} {w = w} by l = let r = (loaded bytes l.job l.is).0 in ready_of w (read_ok bytes l.job r) (job_fits bytes l.job by r) l.shape l.tables

-- a load that is refused, and one that is not
module _ {bytes : List ℕ} {w x : JobTables} (m : Machine) where
  pub start_refused : {k : Refusal} → LoadTo bytes (Err k) w x → ((fs : List ℕ) → seen m fs ≡ empty_machine) → Starts bytes (record { told = Err k; machine = m }) w x
  unfolding start_with start_loaded machine_of
  start_refused {k} l z = let i = refused_by_lem l k refl in record { answer = λ fs. rw i; machine = λ fs. rw i (z fs); tables = l.tables }

  pub start_made : {g : Shape} → Bytes bytes → LoadTo bytes (Ok g) w x → ((fs : List ℕ) → seen m fs ≡ built_from g x.names x.types x.values) → Starts bytes (record { told = Ok tt; machine = m }) w x
  unfolding start_with start_loaded machine_of
  start_made by l z =
      let j = job_loaded l refl in
      let i = long_load w bytes j.long ∙ j.is in
      let y : (fs : List ℕ) → seen m fs ≡ start_of (source_of j.job) = λ fs. z fs ∙ ready_built (loaded_ready by j) in
      record { answer = λ fs. rw i (ap started (y fs)); machine = λ fs. rw i (y fs); tables = l.tables }
