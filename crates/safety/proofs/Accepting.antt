-- What an accepted job's tables say: the job that its bytes are, held by the tables, and demand 3 of its calls. And what a refusal says, where no table is too short.
use Rattle.std.specs.Prelude.{◌≡◌, refl, ℕ, zero, suc, Bool, true, false, cond, List, [], ◌∷◌, ◌++◌, length, Ok, Err}
use Rattle.std.proofs.Common.{sym, ◌∙◌, arith}
use Rattle.std.proofs.Math.Option.{some}
use Rattle.std.proofs.Math.ListN.{get_elem?}
use Rattle.order.specs.Effects.{Effect, of_word}
use Rattle.syntax.specs.Types.{Ty, TypeEntry}
use Rattle.syntax.specs.Commands.{Cmd}
use Rattle.syntax.specs.Job.{Job}
use Rattle.syntax.specs.Reading.{Refusal, read, reading}
use Rattle.syntax.specs.ReadLaws.{JobOk}
use Rattle.syntax.proofs.ReadLaws.{read_ok}
use Rattle.syntax.specs.Words.{code_in, filled, name_words, type_words, value_words, type_word}
use Rattle.syntax.specs.WordLaws.{Bytes, JobFits}
use Rattle.syntax.proofs.WordLaws.{job_fits, code_back, word_at}
use Rattle.syntax.specs.Loading.{filled_with}
use Rattle.typing.specs.Layout.{Points, new, old, Layout, point, layout_from, layout_of}
use Rattle.typing.specs.Verdict.{Verdict, accept, refuse, verdict_of}
use Rattle.typing.specs.Tables.{Tables, short, layout_for, filled_by, verdict_with, kept_on, tables_after}
use Rattle.semantics.specs.Demand3.{expr_of}
use Rattle.semantics.proofs.Demand3.{demand3}
use Rattle.initial.specs.Held.{Holds}
use Rattle.initial.specs.Held as held
use Rattle.entry.specs.declared.Shape.{Shape}
use Rattle.entry.specs.Shapes.{shape_of}
use Rattle.table.specs.declared.Refusal.{Refusal as Refused}
use Rattle.checker.specs.declared.Checked.{Checked}
use Rattle.checker.specs.Answer.{tree_of, verdict_in, shape_read, shape_for, CheckTo}
use Rattle.start.specs.Starts.{Ready}
use Rattle.safety.specs.Accepting.{Accepting}

-- the table of types of an accepted job begins with the types that the job declares
some_left : {A : Type 0} (a b : List A) (i : ℕ) (x : A) → get_elem? a i ≡ some x → get_elem? (a ++ b) i ≡ some x
some_left [] b i x e = absurd (let z : ◌≡◌ {A = ℕ} 0 1 = cc in omega arith)
some_left (y ∷ a) b zero x e = e
some_left (y ∷ a) b (suc i) x e = some_left a b i x e

point_keeps : (p : Points) (L : Layout) (i : ℕ) (x : TypeEntry) → get_elem? L.entries i ≡ some x → get_elem? (point p L).entries i ≡ some x
unfolding point
point_keeps (new l y) L i x e = some_left L.entries (l ++ (y ∷ [])) i x e
point_keeps (old j) L i x e = e

layout_from_keeps : (var : ℕ → ℕ) (eff : ℕ → Effect) (l : List (Cmd ℕ)) (L : Layout) (i : ℕ) (x : TypeEntry) → get_elem? L.entries i ≡ some x → get_elem? (layout_from var eff l L).entries i ≡ some x
unfolding layout_from
layout_from_keeps var eff [] L i x e = e
layout_from_keeps var eff (k ∷ l) L i x e = layout_from_keeps var eff l (point _ L) i x (point_keeps _ L i x e)

layout_for_keeps : (J : Job) (i : ℕ) (x : TypeEntry) → get_elem? J.types i ≡ some x → get_elem? (layout_for J).entries i ≡ some x
unfolding layout_for layout_of
layout_for_keeps J i x e = layout_from_keeps _ _ J.cmds _ i x (some_left J.types _ i x e)

layout_for_holds : (J : Job) → JobFits J → (n t v : ℕ)
    → Holds J (filled n 0 (name_words J)) (length J.names) (filled t 0 (type_words (layout_for J).entries)) (filled v 0 (value_words J)) (length J.values) J.rights.set
layout_for_holds J f n t v =
    let h = held.filled_holds J f n t v in
    record {
      all_names = h.all_names;
      all_values = h.all_values;
      its_rights = h.its_rights;
      name = h.name;
      type = λ i x e. word_at type_word t (layout_for J).entries i x (layout_for_keeps J i x e);
      value = h.value;
      number = h.number;
    }

pub if_accepted : (b : Bool) (q : Refusal) (v : Verdict) (T : Ty) (e : Effect) → accept T e ≡ cond b (refuse q) v → (b ≡ false) × (v ≡ accept T e)
if_accepted true q v T e h = absurd (let z : ◌≡◌ {A = ℕ} 0 1 = cc in omega arith)
if_accepted false q v T e h = (refl, sym h)

pub after_accept : (w : Tables) (bytes : List ℕ) (J : Job) {T : Ty} {e : Effect} → short w ≡ false → verdict_of bytes ≡ accept T e → reading bytes ≡ read J → tables_after w bytes ≡ filled_by J w
unfolding tables_after kept_on
after_accept w bytes J a b c = rw (a, b, c)

shape_accept : (w : Tables) (bytes : List ℕ) (J : Job) {T : Ty} {e : Effect} → accept T e ≡ verdict_with w bytes → reading bytes ≡ read J → shape_for (verdict_with w bytes) (reading bytes) ≡ shape_of J
unfolding shape_for shape_read
shape_accept w bytes J a c = rw (sym a, c)

ready_of : (J : Job) (g : Shape) (x w : Tables) → JobOk J → JobFits J → g ≡ shape_of J → x ≡ filled_by J w → Ready J g x.job.names x.job.types x.job.values
unfolding filled_by filled_with shape_of
ready_of J g x w o f a b = record { ok = o; shape = a; holds = rw (a, b) (layout_for_holds J f _ _ _) }

code_of : (J : Job) (x w : Tables) → JobOk J → JobFits J → x ≡ filled_by J w → (i : ℕ) → code_in x.job.heads x.job.slots i ≡ expr_of J i
unfolding filled_by filled_with
code_of J x w o f b i = rw b (code_back J o f _ _ i)

pub accepting : (bytes : List ℕ) → Bytes bytes → (r : Checked) (w x : Tables) → CheckTo bytes (Ok r) w x
    → Accepting bytes r.shape (tree_of x.job.types x.job.sets r.accepted.entry) (of_word r.accepted.effect) x
unfolding verdict_in verdict_with
accepting bytes by r w x c =
    let a : accept (tree_of x.job.types x.job.sets r.accepted.entry) (of_word r.accepted.effect) ≡ verdict_with w bytes = c.verdict in
    let b = if_accepted (short w) _ (verdict_of bytes) _ _ a in
    let d = demand3 bytes b.1 in
    let J = d.0 in
    let t : x ≡ filled_by J w = c.tables ∙ after_accept w bytes J b.0 b.1 d.1 in
    let g : r.shape ≡ shape_of J = c.shape ∙ shape_accept w bytes J a d.1 in
    let f = job_fits bytes J by d.1 in
    let o = read_ok bytes J d.1 in
    record {
      job = J;
      is = d.1;
      verdict = b.1;
      allowed = d.2;
      ready = ready_of J r.shape x w o f g t;
      code = code_of J x w o f t;
    }

-- a refused job: the check's answer is the verdict on its bytes
refused_with : (b : Bool) (q : Refusal) (v : Verdict) (r : Refusal) → b ≡ false → refuse r ≡ cond b (refuse q) v → v ≡ refuse r
refused_with b q v r e h = sym (rw e at h)

pub refusing : (bytes : List ℕ) (r : Refused) (w x : Tables) → CheckTo bytes (Err r) w x → short w ≡ false → verdict_of bytes ≡ refuse (record { number = r.number; place = r.place })
unfolding verdict_in verdict_with
refusing bytes r w x c l = refused_with (short w) _ (verdict_of bytes) _ l c.verdict
