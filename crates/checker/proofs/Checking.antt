-- From what the parts of the check answer to the verdict of the rules and the tables.
use Rattle.std.specs.Prelude.{◌≡◌, Bool, true, false, cond, List, map, length, ltb, eqb}
use Rattle.std.proofs.Math.Path.{refl, sym, ap}
use Rattle.std.proofs.Common.{◌∙◌, subst, arith, lt-ltb, le-ltb, ne_eqb, Ok, Err}
use Prim.Native.Nat.{ℕ, suc, ◌≤◌, ◌<◌}
use Rattle.std.proofs.Math.ListN.{replicate}
use Rattle.std.proofs.lemmas.List.{length-replicate}
use Rattle.order.specs.Bools.{◌or◌}
use Rattle.order.proofs.Bools.{or_l, or_r}
use Rattle.syntax.specs.Types.{Ty, tree_in, tree}
use Rattle.syntax.specs.Job.{Job, source_of}
use Rattle.syntax.specs.Reading.{Read, refused, read, refused_at, reading, most_expressions}
use Rattle.syntax.proofs.ReadLaws.{read_ok}
use Rattle.syntax.specs.Tree.{predecessor}
use Rattle.order.specs.Effects.{of_word}
use Rattle.syntax.specs.Words.{filled, type_words, set_words, effect_words}
use Rattle.syntax.specs.WordLaws.{Bytes}
use Rattle.syntax.proofs.WordLaws.{filled_at}
use Rattle.syntax.specs.Loading.{JobTables, zeros, filled_with, loading, holding}
use Rattle.syntax.specs.Loading as loads
use Rattle.syntax.proofs.LoadLaws as lengths
use Rattle.syntax.specs.LoadLaws as lengths_defs
use Rattle.syntax.proofs.LoadLaws.{short_load, short_after, long_load, long_after, filled_same}
use Rattle.typing.specs.Verdict as rules
use Rattle.typing.proofs.RefusalLaws.{load_number, verdict_load}
use Rattle.typing.specs.Least.{types}
use Rattle.typing.specs.Tables.{Tables, short, cleared, effect_of, layout_for, filled_by, kept_on, tables_after, verdict_with}
use Rattle.typing.specs.Numbered.{Sofar}
use Rattle.typing.specs.NumberedLaws.{Fits}
use Rattle.typing.proofs.NumberedLaws.{inv_fits}
use Rattle.typing.proofs.NumberedWords.{words_back}
use Rattle.typing.specs.NumberedVerdict.{last_of, last_entry, filled_from}
use Rattle.typing.proofs.NumberedVerdict.{tables_accepted}
use Rattle.typing.proofs.NumberedVerdict.{tables_refused, tables_short}
use Rattle.elaborate.specs.OpsLaws.{job_ops, agree}
use Rattle.table.specs.declared.Refusal.{Refusal}
use Rattle.entry.specs.declared.Shape.{Shape}
use Rattle.entry.specs.Shapes.{shape_of}
use Rattle.job.specs.Answer.{Answer as Loading}
use Rattle.load.specs.Loads.{LoadTo}
use Rattle.load.proofs.Cases.{refused_by_lem, job_loaded}
use Rattle.judge.specs.declared.Accepted.{Accepted}
use Rattle.judge.specs.Answer as judged
use Rattle.judge.specs.Answer.{Verdict, tables, Given, Untyped, Judged, accepted}
use Rattle.checker.specs.Answer.{Answer, tree_of, verdict_in, refused_by, shape_read, shape_for, last_in, CheckTo, unless_one}
use Rattle.judge.specs.Judging.{is_read}
use Rattle.checker.specs.Checking.{Lengths}

tree_is : (σ : Sofar) → Fits σ → (n m i : ℕ) → tree_of (filled n 0 (type_words σ.entries)) (filled m 0 (set_words σ.entries)) i ≡ tree σ.entries i
unfolding tree_of tree
tree_is σ g n m i = λ k. tree_in (suc i) (λ x. words_back σ g n m x k) i

-- Tables of the same lengths

cleared_same : (w x : Tables) → Lengths w x → cleared w ≡ cleared x
unfolding cleared zeros
cleared_same w x l = λ i. record { job = lengths.cleared_same l.job i; entries = replicate (l.entries i) 0; effects = replicate (l.effects i) 0 }

from_same : (J : Job) (σ : Sofar) (w x : Tables) → Lengths w x → filled_from J σ w ≡ filled_from J σ x
unfolding filled_from
from_same J σ w x l = λ i. record { job = filled_same l.job σ.entries J i; entries = filled (l.entries i) 0 σ.of; effects = filled (l.effects i) 0 (effect_words σ.effects) }

short_same : (w x : Tables) → Lengths w x → short w ≡ short x
unfolding short
short_same w x l = λ i. lengths.short_same l.job i or ltb (l.entries i) most_expressions or ltb (l.effects i) most_expressions

kept_same : (v : rules.Verdict) (r : Read) (w x : Tables) → Lengths w x → kept_on v r w ≡ kept_on v r x
unfolding kept_on filled_by
kept_same (rules.accept T e) (refused u) w x l = cleared_same w x l
kept_same (rules.accept T e) (read J) w x l =
    λ i. record {
      job = filled_same l.job (layout_for J).entries J i;
      entries = filled (l.entries i) 0 (layout_for J).of;
      effects = filled (l.effects i) 0 (effect_words (map effect_of (types (source_of J))));
    }
kept_same (rules.refuse n) r w x l = cleared_same w x l

-- The answers of the check

with_long : (w : Tables) (bytes : List ℕ) → short w ≡ false → verdict_with w bytes ≡ rules.verdict_of bytes
unfolding verdict_with
with_long w bytes h = ap (λ (b : Bool). cond b (rules.refuse (record { number = 1; place = 0 })) (rules.verdict_of bytes)) h

after_long : (w : Tables) (bytes : List ℕ) → short w ≡ false → tables_after w bytes ≡ kept_on (rules.verdict_of bytes) (reading bytes) w
unfolding tables_after
after_long w bytes h = ap (λ (b : Bool). cond b w (kept_on (rules.verdict_of bytes) (reading bytes) w)) h

-- for tables of other contents and the same lengths
check_on : {bytes : List ℕ} {r : Answer} {w x y : Tables} → Lengths w x → short w ≡ false → CheckTo bytes r x y → CheckTo bytes r w y
check_on {bytes} {r} {w} {x} {y} l h c =
    let k : short x ≡ false = sym (short_same w x l) ∙ h in
    let v : verdict_with x bytes ≡ verdict_with w bytes = with_long x bytes k ∙ sym (with_long w bytes h) in
    record {
      verdict = c.verdict ∙ v;
      tables = c.tables ∙ after_long x bytes k ∙ sym (kept_same (rules.verdict_of bytes) (reading bytes) w x l) ∙ sym (after_long w bytes h);
      shape = c.shape ∙ ap (λ (u : rules.Verdict). shape_for u (reading bytes)) v;
      entry = c.entry;
    }

-- the same tables
same : {w : Tables} → Lengths w w
same = record { job = record { names = refl; types = refl; sets = refl; values = refl; heads = refl; slots = refl }; entries = refl; effects = refl }

-- 1
pub short_to : (bytes : List ℕ) (w : Tables) → short w ≡ true → CheckTo bytes (refused_by 1 0) w w
unfolding verdict_in verdict_with shape_for
short_to bytes w h =
    record {
      verdict = sym (ap (λ (b : Bool). cond b (rules.refuse (record { number = 1; place = 0 })) (rules.verdict_of bytes)) h);
      tables = sym (tables_short bytes w h);
      shape = sym (ap (λ (b : Bool). shape_for (cond b (rules.refuse (record { number = 1; place = 0 })) (rules.verdict_of bytes)) (reading bytes)) h);
      entry = tt;
    }

-- every other refusal
refused_to : {bytes : List ℕ} {w x y : Tables} {n p : ℕ} → Lengths w x → short w ≡ false → rules.verdict_of bytes ≡ rules.refuse (record { number = n; place = p }) → y ≡ cleared x → CheckTo bytes (refused_by n p) w y
unfolding verdict_in shape_for
refused_to {bytes} {w} {x} {y} {n} {p} l h v c =
    let z : verdict_with w bytes ≡ rules.refuse (record { number = n; place = p }) = with_long w bytes h ∙ v in
    record {
      verdict = sym z;
      tables = c ∙ sym (cleared_same w x l) ∙ sym (tables_refused bytes w h _ v);
      shape = sym (ap (λ (u : rules.Verdict). shape_for u (reading bytes)) z);
      entry = tt;
    }

judged_refused : {bytes : List ℕ} {J : Job} {v : Verdict} {x : Tables} {r : Refusal} → Judged bytes J v x → v ≡ Err r → rules.verdict_of bytes ≡ rules.refuse (record { number = r.number; place = r.place })
judged_refused (accepted k σ x i s a b c d e f) q = absurd (let z : ◌≡◌ {A = ℕ} 0 1 = cc in omega arith)
judged_refused {r = r} (judged.refused_by_lem m o x f) q = let y : record { number = m; place = o } ≡ r = cc in f ∙ (λ i. rules.refuse (record { number = (y i).number; place = (y i).place }))

-- the entry of the last expression stands in the table
last_entry_lem : (J : Job) (σ : Sofar) (g : Shape) (l : List ℕ) (k : ℕ) → g ≡ shape_of J → l ≡ filled k 0 σ.of → last_entry J σ ≡ last_in l g.cmds
unfolding last_in last_of shape_of
last_entry_lem J σ g l k m n = rw (m, n) (sym (filled_at k σ.of (predecessor (length J.cmds))))

-- an acceptance
accepted_to : {bytes : List ℕ} {J : Job} {v : Verdict} {g : Shape} {w x : Tables} {t : Accepted} → reading bytes ≡ read J → g ≡ shape_of J → Lengths w x → short w ≡ false → Judged bytes J v x → v ≡ Ok t
    → CheckTo bytes (Ok (record { accepted = t; shape = g })) w x
accepted_to q m l h (judged.refused_by_lem n p x f) z = absurd (let y : ◌≡◌ {A = ℕ} 0 1 = cc in omega arith)
accepted_to {bytes} {J} {g = g} {w} {t = t} q m l h (accepted k σ x i s a b c d e f) z =
    let y : record { entry = i; effect = s } ≡ t = cc in
    subst (λ (u : Accepted). CheckTo bytes (Ok (record { accepted = u; shape = g })) w x) y
    (record {
      verdict = unfold verdict_in in trees ∙ sym whole_verdict;
      tables = c ∙ sym (from_same J σ w x l) ∙ sym (tables_accepted (job_ops k) (λ K j. agree k j) bytes J q w h σ a f);
      shape = unfold shape_for shape_read in m ∙ sym (ap (λ (r : Read). shape_read r) q) ∙ sym (ap (λ (y : rules.Verdict). shape_for y (reading bytes)) whole_verdict);
      entry = d ∙ last_entry_lem J σ g x.entries (length x.entries) m (unfold filled_from in ap (λ (y : Tables). y.entries) c);
    })
  where
    whole_verdict : verdict_with w bytes ≡ rules.accept (tree σ.entries i) (of_word s)
    whole_verdict = with_long w bytes h ∙ f

    trees : rules.accept (tree_of x.job.types x.job.sets i) (of_word s) ≡ rules.accept (tree σ.entries i) (of_word s)
    trees =
        let n : x.job.types ≡ filled (length x.job.types) 0 (type_words σ.entries) = unfold filled_from filled_with in ap (λ (y : Tables). y.job.types) c in
        let o : x.job.sets ≡ filled (length x.job.sets) 0 (set_words σ.entries) = unfold filled_from filled_with in ap (λ (y : Tables). y.job.sets) c in
        (λ j. rules.accept (tree_of (n j) (o j) i) (of_word s)) ∙ ap (λ (T : Ty). rules.accept T (of_word s)) (tree_is σ (inv_fits (read_ok bytes J q) (omega arith) b) (length x.job.types) (length x.job.sets) i)

-- A job that is loaded: its entries and effects are cleared, and its expressions are typed

module _ {bytes : List ℕ} {J : Job} {g : Shape} {w : Tables} {o e : List ℕ} (o_is : o ≡ replicate (length w.entries) 0) (e_is : e ≡ replicate (length w.effects) 0) (given : Given bytes J g w) where
  abbrev w' : Tables
  w' = record { job = w.job; entries = o; effects = e }

  as_long : Lengths w w'
  as_long =
      record {
        job = record { names = refl; types = refl; sets = refl; values = refl; heads = refl; slots = refl };
        entries = sym (ap length o_is ∙ length-replicate (length w.entries) 0);
        effects = sym (ap length e_is ∙ length-replicate (length w.effects) 0);
      }

  given_clear : Given bytes J g w'
  given_clear =
      record { bytes_are = given.bytes_are; is_loaded = given.is_loaded; shape = given.shape; job = given.job; long = sym (short_same w w' as_long) ∙ given.long }

  untyped : Untyped w'
  unfolding zeros
  untyped = record { entries = o_is ∙ ap (λ (n : ℕ). replicate n 0) as_long.entries; effects = e_is ∙ ap (λ (n : ℕ). replicate n 0) as_long.effects }

  module _ {v : Verdict} {x : Tables} (j : Given bytes J g w' → Untyped w' → Judged bytes J v x) (l : Lengths w' x) where
    judged_to : Judged bytes J v x
    judged_to = j given_clear untyped

    long_clear : short w' ≡ false
    long_clear = given_clear.long

    pub settled : {t : Accepted} → v ≡ Ok t → CheckTo bytes (Ok (record { accepted = t; shape = g })) w x
    settled q = check_on as_long given.long (accepted_to (is_read given) given.shape l long_clear judged_to q)

    pub settled_refused : {r : Refusal} {y : Tables} → v ≡ Err r → y ≡ cleared x → CheckTo bytes (Err r) w y
    settled_refused q z = check_on as_long given.long (refused_to l long_clear (judged_refused judged_to q) z)

-- Loading, then the rest

pub short_entries : (w : Tables) → length w.entries < most_expressions → short w ≡ true
unfolding short
short_entries w h = or_l _ _ (or_r (loads.short w.job) _ (lt-ltb _ _ h))

pub short_effects : (w : Tables) → length w.effects < most_expressions → short w ≡ true
unfolding short
short_effects w h = or_r _ _ (lt-ltb _ _ h)

-- whether all are long enough is then decided by the load
decided : (w : Tables) → most_expressions ≤ length w.entries → most_expressions ≤ length w.effects → short w ≡ loads.short w.job
unfolding short ◌or◌
decided w h k = (λ i. loads.short w.job or le-ltb _ most_expressions h i or le-ltb _ most_expressions k i) ∙ at (loads.short w.job)
  where
    at : (b : Bool) → (b or false or false) ≡ b
    at true = refl
    at false = refl

module _ {bytes : List ℕ} {r : Loading} {w : Tables} (ho : most_expressions ≤ length w.entries) (he : most_expressions ≤ length w.effects) {x : JobTables} (to : LoadTo bytes r w.job x) where
  pub load_refused : {o e : List ℕ} (k : Refusal) → r ≡ Err k → o ≡ unless_one k.number w.entries → e ≡ unless_one k.number w.effects
      → CheckTo bytes (Err k) w (record { job = x; entries = o; effects = e })
  unfolding unless_one cleared holding
  load_refused {o} {e} k q oi ei = at (loads.short w.job) refl
    where
      number : Read → ℕ
      number (refused y) = y.number
      number (read J) = 0

      place : Read → ℕ
      place (refused y) = y.place
      place (read J) = 0

      at : (b : Bool) → loads.short w.job ≡ b → CheckTo bytes (Err k) w (record { job = x; entries = o; effects = e })
      at true l =
          let z : refused_at 1 0 ≡ refused_at k.number k.place = sym (short_load w.job bytes l) ∙ refused_by_lem to k q in
          let n : 1 ≡ k.number = ap number z in
          let d : o ≡ w.entries = oi ∙ sym (ap (λ (m : ℕ). unless_one m w.entries) n) in
          let f : e ≡ w.effects = ei ∙ sym (ap (λ (m : ℕ). unless_one m w.effects) n) in
          let t : x ≡ w.job = to.tables ∙ short_after w.job bytes l in
          subst (λ (y : ℕ × ℕ × Tables). CheckTo bytes (refused_by y.0 y.1) w y.2)
          (λ i. (n i, ap place z i, record { job = sym t i; entries = sym d i; effects = sym f i }))
          (short_to bytes w (decided w ho he ∙ l))
      at false l =
          let z : loading bytes ≡ refused_at k.number k.place = sym (long_load w.job bytes l) ∙ refused_by_lem to k q in
          let n : eqb k.number 1 ≡ false = ne_eqb k.number 1 (λ j. absurd (omega (arith, (load_number bytes _ z).0))) in
          let d : o ≡ zeros w.entries = oi ∙ ap (λ (b : Bool). cond b w.entries (zeros w.entries)) n in
          let f : e ≡ zeros w.effects = ei ∙ ap (λ (b : Bool). cond b w.effects (zeros w.effects)) n in
          let t : x ≡ loads.cleared w.job = to.tables ∙ long_after w.job bytes l ∙ ap (λ (R : Read). holding R w.job) z in
          refused_to {x = w} same (decided w ho he ∙ l) (verdict_load bytes _ z) (λ i. record { job = t i; entries = d i; effects = f i })

  pub load_settled : {g : Shape} {c : Answer} {y : Tables} → Bytes bytes → r ≡ Ok g → lengths_defs.Lengths w.job x
      → ((J : Job) → Given bytes J g (record { job = x; entries = w.entries; effects = w.effects }) → CheckTo bytes c (record { job = x; entries = w.entries; effects = w.effects }) y) → CheckTo bytes c w y
  load_settled {g} {c} {y} b q m f =
      let z = job_loaded to q in
      let long : short w ≡ false = decided w ho he ∙ z.long in
      let l : Lengths w (record { job = x; entries = w.entries; effects = w.effects }) = record { job = m; entries = refl; effects = refl } in
      check_on l long
      (f z.job
      (record {
        bytes_are = b;
        is_loaded = z.is;
        shape = z.shape;
        job = z.tables ∙ filled_same m z.job.types z.job;
        long = sym (short_same w _ l) ∙ long;
      }))
