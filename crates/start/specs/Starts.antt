-- Starting a job: "It starts any job free of 1 to 10 and answers those numbers otherwise. It never looks at types." What it answers is defined in `semantics/Starting`, what it
-- leaves in the lent tables in `syntax/Loading`.
use Rattle.std.specs.Prelude.{◌≡◌, ℕ, List, Result, Ok, Err}
use Rattle.syntax.specs.Job.{Job}
use Rattle.syntax.specs.ReadLaws.{JobOk}
use Rattle.syntax.specs.Loading.{JobTables, tables_after_load}
use Rattle.semantics.specs.Machine.{System}
use Rattle.semantics.specs.Start.{start_of}
use Rattle.semantics.specs.Starting.{Started as Outcome, started, unstarted, start_with}
use Rattle.machine.specs.View.{seen}
use Rattle.initial.specs.Empty.{machine_of}
use Rattle.initial.specs.Begun.{source_in}
use Rattle.initial.specs.Held.{Holds}
use Rattle.entry.specs.declared.Shape.{Shape}
use Rattle.entry.specs.Shapes.{shape_of}
use Rattle.table.specs.declared.Refusal.{Refusal}
use Rattle.start.specs.declared.Opened.{Opened}

-- what is told of a start: nothing more, or its refusal
abbrev pub Told : Type 0
Told = Result (Unit {0}) Refusal

-- the machine that it stands for, or the refusal by number and place
abbrev pub told_in : Told → System → Outcome
told_in (Ok u) m = started m
told_in (Err k) m = unstarted (record { number = k.number; place = k.place })

-- with the frames that are lent to it
abbrev pub started_in : Opened → List ℕ → Outcome
started_in r fs = told_in r.told (seen r.machine fs)

-- starting `bytes` with the lent tables w, which are x afterwards; the machine of a refused start is the empty one. No frame is used, so it does not matter what the frames hold
pub record Starts (bytes : List ℕ) (r : Opened) (w x : JobTables) : Type 0 where
  pub answer : (fs : List ℕ) → started_in r fs ≡ start_with w bytes
  pub machine : (fs : List ℕ) → seen r.machine fs ≡ machine_of (start_with w bytes)
  pub tables : x ≡ tables_after_load w bytes

-- the machine at the start of the job that words hold, with the counts and rights of g; the empty one where the counts are no job's
unfoldable pub built_from : Shape → List ℕ → List ℕ → List ℕ → System
built_from g n t v = start_of (source_in n g.names t v g.values g.rights g.cmds)

-- the tables of names, types and host values hold a job that has so many entries; what the table of types holds past its own does not matter
pub record Ready (J : Job) (g : Shape) (n t v : List ℕ) : Type 0 where
  pub ok : JobOk J
  pub shape : g ≡ shape_of J
  pub holds : Holds J n g.names t v g.values g.rights
