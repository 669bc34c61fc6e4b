-- From what reading and the tree come to, to what the load comes to.
use mathlib.Core.Path.{◌≡◌, refl, sym, ap, ◌∙◌}
use Prim.Native.Nat.{ℕ}
use native.Mathlib.Omega.{arith}
use mathlib.Core.Bool.{Bool, true, false, cond, not}
use mathlib.Core.List.{List}
use lib.ListN.{length}
use Rattle.syntax.specs.Job.{Job, source_of}
use Rattle.syntax.specs.Reading.{Read, refused, read, refused_at, reading}
use Rattle.syntax.specs.ReadLaws.{JobOk}
use Rattle.syntax.proofs.ReadLaws.{read_ok}
use Rattle.syntax.specs.WordLaws.{Bytes, JobFits}
use Rattle.syntax.proofs.WordLaws.{job_fits}
use Rattle.syntax.specs.Tree.{tree_refusal}
use Rattle.syntax.specs.Words.{filled, name_words, type_words, set_words, head_words, slot_words}
use Rattle.syntax.specs.Loading.{JobTables, short, zeros, cleared, filled_with, loading, load_with, holding, tables_after_load}
use Rattle.syntax.specs.LoadLaws.{Lengths}
use Rattle.syntax.proofs.LoadLaws.{load_refused, load_whole, load_out, long_load, long_after, cleared_same}
use Rattle.entry.specs.declared.Shape.{Shape}
use Rattle.entry.specs.Shapes.{shape_of}
use Rattle.job.specs.Answer.{Answer}
use Rattle.std.specs.Prelude.{⊤, Result, Ok, Err}
use Rattle.job.specs.ReadTables.{left}
use Rattle.job.proofs.ReadTables.{short_tables, tables_left}
use Rattle.job.specs.Answer.{long_tables, answer_of, refused_by, ReadTo, Zeroed}
use Rattle.table.specs.Lent.{job_tables}
use Rattle.table.specs.declared.Refusal.{Refusal}
use Rattle.uses.specs.Answer.{refusal_of}
use Rattle.tree.specs.Holds.{Holds}
use Rattle.tree.specs.Filled.{filled_holds}
use Rattle.load.specs.Loads.{LoadTo}

-- what the tree checks ask of the tables
held : {J : Job} {g : Shape} {n t s h p : List ℕ} (kn kt ks kh kp : ℕ) → JobFits J → g ≡ shape_of J → n ≡ filled kn 0 (name_words J) → t ≡ filled kt 0 (type_words J.types) → s ≡ filled ks 0 (set_words J.types)
    → h ≡ filled kh 0 (head_words J) → p ≡ filled kp 0 (slot_words J) → Holds J h p g.cmds n g.names t s g.types g.values
unfolding shape_of
held {J} kn kt ks kh kp f eg en et es eh ep = rw (eg, en, et, es, eh, ep) (filled_holds J f kh kp kn kt ks)

module _ {bytes n t s v h p n' t' s' v' h' p' : List ℕ} {a : Answer} (to : ReadTo bytes a n t s v h p n' t' s' v' h' p') where
  abbrev before : JobTables
  before = job_tables n t s v h p

  abbrev after : JobTables
  after = job_tables n' t' s' v' h' p'

  short_is : short before ≡ not (long_tables n t s v h p)
  short_is = short_tables n t s v h p

  after_is : (b : Bool) (R : Read) → long_tables n t s v h p ≡ b → reading bytes ≡ R → after ≡ left b R before
  after_is = tables_left to

  -- 1 to 7
  pub refused_to : (q : Refusal) → a ≡ Err q → LoadTo bytes (Err q) before after
  unfolding left answer_of load_with tables_after_load holding
  refused_to q e = go (long_tables n t s v h p) (reading bytes) refl refl (sym e ∙ to.answer)
    where
      go : (b : Bool) (R : Read) → long_tables n t s v h p ≡ b → reading bytes ≡ R → Err q ≡ cond b (answer_of R) (refused_by 1 0) → LoadTo bytes (Err q) before after
      go false R l i z = let all_short : short before ≡ true = short_is ∙ ap not l in record { answer = rw all_short z; tables = rw all_short (after_is false R l i) }
      go true (refused r) l i z =
          let none_short : short before ≡ false = short_is ∙ ap not l in
          let k = load_refused bytes r i in
          record { answer = rw (none_short, k) z; tables = rw (none_short, k) (after_is true (refused r) l i) }
      go true (read J) l i z = absurd (let y : ◌≡◌ {A = ℕ} 0 1 = cc in omega arith)

  -- a job is read
  record JobRead (g : Shape) : Type 0 where
    pub job : Job
    pub is : reading bytes ≡ read job
    pub shape : g ≡ shape_of job
    pub long : short before ≡ false
    pub tables : after ≡ filled_with job.types job before

  job_read : (g : Shape) → a ≡ Ok g → JobRead g
  unfolding answer_of left holding
  job_read g e = go (long_tables n t s v h p) (reading bytes) refl refl (sym e ∙ to.answer)
    where
      go : (b : Bool) (R : Read) → long_tables n t s v h p ≡ b → reading bytes ≡ R → Ok g ≡ cond b (answer_of R) (refused_by 1 0) → JobRead g
      go false R l i z = absurd (let y : ◌≡◌ {A = ℕ} 0 1 = cc in omega arith)
      go true (refused r) l i z = absurd (let y : ◌≡◌ {A = ℕ} 0 1 = cc in omega arith)
      go true (read J) l i z = record { job = J; is = i; shape = cc; long = short_is ∙ ap not l; tables = after_is true (read J) l i }

  module _ (by : Bytes bytes) {g : Shape} (e : a ≡ Ok g) (b : Result ⊤ Refusal) (f : (J : Job) → JobOk J → Holds J h' p' g.cmds n' g.names t' s' g.types g.values → refusal_of b ≡ tree_refusal (source_of J)) where
    its : JobRead g
    its = job_read g e

    says : refusal_of b ≡ tree_refusal (source_of its.job)
    unfolding filled_with
    says =
        let J = its.job in
        let x = its.tables in
        f J (read_ok bytes J its.is)
        (held (length n) (length t) (length s) (length h) (length p) (job_fits bytes J by its.is) its.shape (ap (λ (w : JobTables). w.names) x) (ap (λ (w : JobTables). w.types) x)
        (ap (λ (w : JobTables). w.sets) x) (ap (λ (w : JobTables). w.heads) x) (ap (λ (w : JobTables). w.slots) x))

    -- the job
    pub loaded_to : b ≡ Ok tt → LoadTo bytes (Ok g) before after
    unfolding answer_of holding
    loaded_to d =
        let k : loading bytes ≡ read its.job = load_whole bytes its.job its.is (sym says ∙ ap refusal_of d) in
        record {
          answer = ap Ok its.shape ∙ sym (ap answer_of (long_load before bytes its.long ∙ k));
          tables = its.tables ∙ sym (long_after before bytes its.long ∙ ap (λ (R : Read). holding R before) k);
        }

    -- 8 to 10
    pub cleared_to : {r : Refusal} {n'' t'' s'' v'' h'' p'' : List ℕ} → b ≡ Err r → Lengths after before → Zeroed n' t' s' v' h' p' n'' t'' s'' v'' h'' p''
        → LoadTo bytes (Err r) before (job_tables n'' t'' s'' v'' h'' p'')
    unfolding answer_of holding cleared zeros
    cleared_to {r} d l y =
        let k : loading bytes ≡ refused_at r.number r.place = load_out bytes its.job its.is _ (sym says ∙ ap refusal_of d) in
        record {
          answer = sym (ap answer_of (long_load before bytes its.long ∙ k));
          tables =
              (λ i. job_tables (y.names i) (y.types i) (y.sets i) (y.values i) (y.heads i) (y.slots i)) ∙ cleared_same l
              ∙ sym (long_after before bytes its.long ∙ ap (λ (R : Read). holding R before) k);
        }
