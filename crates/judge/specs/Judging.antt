-- From the pass over all expressions, and the test of the rights, to the verdict of the rules.
use Rattle.std.specs.Prelude.{◌≡◌, refl, ℕ, ◌%◌, ◌≤◌, Bool, true, false}
use Rattle.std.proofs.Math.Path.{sym, ap, subst}
use Rattle.std.proofs.Common.{◌∙◌, arith, ltb-false, Ok, Err}
use mathlib.Core.List.{List, []}
use Rattle.std.proofs.Math.Option.{none}
use Rattle.std.proofs.Math.ListN.{length, get_or, length-map}
use Rattle.syntax.specs.Types.{tree}
use Rattle.syntax.specs.Job.{Job, source_of}
use Rattle.syntax.specs.Reading.{read, reading, most_expressions}
use Rattle.syntax.specs.ReadLaws.{JobOk}
use Rattle.syntax.proofs.ReadLaws.{read_ok, or_none}
use Rattle.syntax.specs.Tree.{predecessor, tree_refusal}
use Rattle.order.specs.Effects.{Effect, of_word}
use Rattle.syntax.specs.Words.{filled, name_words, type_word, set_word, type_words, set_words, value_words, head_words, slot_words, effect_words}
use Rattle.syntax.specs.WordLaws.{JobFits}
use Rattle.syntax.proofs.WordLaws.{job_fits, filled_at, effect_back, filled_none, filled_length}
use Rattle.syntax.specs.Loading.{JobTables, zeros, filled_with}
use Rattle.syntax.proofs.LoadLaws as lengths
use Rattle.syntax.specs.LoadLaws as lengths_defs
use Rattle.syntax.proofs.LoadLaws.{loaded}
use Rattle.typing.specs.Verdict as rules
use Rattle.typing.specs.Tables.{Tables, short}
use Rattle.typing.specs.Numbered.{Sofar, Whole, whole, halted, numbering}
use Rattle.typing.specs.NumberedLaws.{Fits}
use Rattle.typing.proofs.NumberedLaws.{Inv, inv_fits}
use Rattle.typing.specs.NumberedVerdict.{last_of, last_entry, last_effect, filled_from}
use Rattle.typing.proofs.NumberedVerdict.{verdict_halted, verdict_beyond, verdict_within}
use Rattle.names.specs.Ancestors.{names_in, ancestors_by, eff_below_by, effects_by}
use Rattle.table.specs.declared.Refusal.{Refusal}
use Rattle.elaborate.specs.Pass.{Answer, refusal, Out, Ended, numbered_by}
use Rattle.elaborate.specs.OpsLaws.{job_ops, agree, names_held}
use Rattle.elaborate.specs.Right.{Reached, r_whole, r_halted, numbered_right}
use Rattle.entry.specs.declared.Shape.{Shape}
use Rattle.entry.specs.Shapes.{shape_of}
use Rattle.judge.specs.Answer as judged
use Rattle.judge.specs.Answer.{tables, Given, Untyped, Judged, accepted, accepted_by, refused_by}

-- Lengths

-- each table is as long as its limit
pub record Long (w : Tables) : Type 0 where
  pub job : lengths_defs.Long w.job
  pub entries : most_expressions ≤ length w.entries
  pub effects : most_expressions ≤ length w.effects

pub long_is : (w : Tables) → short w ≡ false → Long w
unfolding short
long_is w h =
    let a = or_none _ _ h in
    let b = or_none _ _ a.0 in
    record { job = lengths.long_is w.job b.0; entries = ltb-false _ _ b.1; effects = ltb-false _ _ a.1 }

-- A job that is read and a tree in scope

module _ {bytes : List ℕ} {J : Job} {g : Shape} {w : Tables} (given : Given bytes J g w) where
  pub is_read : reading bytes ≡ read J
  is_read = (loaded bytes J given.is_loaded).0

  scoped : tree_refusal (source_of J) ≡ none
  scoped = (loaded bytes J given.is_loaded).1

  job_ok : JobOk J
  job_ok = read_ok bytes J is_read

  fits : JobFits J
  fits = job_fits bytes J given.bytes_are is_read

  long : Long w
  long = long_is w given.long

  names_is : w.job.names ≡ filled (length w.job.names) 0 (name_words J)
  unfolding filled_with
  names_is = ap (λ (x : JobTables). x.names) given.job

  types_is : w.job.types ≡ filled (length w.job.types) 0 (type_words J.types)
  unfolding filled_with
  types_is = ap (λ (x : JobTables). x.types) given.job

  sets_is : w.job.sets ≡ filled (length w.job.sets) 0 (set_words J.types)
  unfolding filled_with
  sets_is = ap (λ (x : JobTables). x.sets) given.job

  values_is : w.job.values ≡ filled (length w.job.values) 0 (value_words J)
  unfolding filled_with
  values_is = ap (λ (x : JobTables). x.values) given.job

  heads_is : w.job.heads ≡ filled (length w.job.heads) 0 (head_words J)
  unfolding filled_with
  heads_is = ap (λ (x : JobTables). x.heads) given.job

  slots_is : w.job.slots ≡ filled (length w.job.slots) 0 (slot_words J)
  unfolding filled_with
  slots_is = ap (λ (x : JobTables). x.slots) given.job

  module _ (none_yet : Untyped w) {anc : List ℕ} (anc_is : anc ≡ ancestors_by (names_in w.job.names g.names)) {nt nv nc : ℕ} (nt_is : nt ≡ g.types % 65536) (nv_is : nv ≡ g.values % 65536) (nc_is : nc ≡ g.cmds % 65536) where
    names_are : names_in w.job.names g.names ≡ J.names
    unfolding shape_of
    names_are = (λ i. names_in (names_is i) (given.shape i).names) ∙ names_held (length w.job.names) job_ok

    anc_by : ancestors_by J.names ≡ anc
    anc_by = sym (anc_is ∙ ap ancestors_by names_are)

    types_count : length J.types ≡ nt
    unfolding shape_of
    types_count = let z : length J.types % 65536 ≡ length J.types = omega (arith, job_ok.few_types) in sym (nt_is ∙ (λ i. (given.shape i).types % 65536) ∙ z)

    values_count : length J.values ≡ nv
    unfolding shape_of
    values_count = let z : length J.values % 65536 ≡ length J.values = omega (arith, job_ok.few_values) in sym (nv_is ∙ (λ i. (given.shape i).values % 65536) ∙ z)

    cmds_count : length J.cmds ≡ nc
    unfolding shape_of
    cmds_count = let z : length J.cmds % 65536 ≡ length J.cmds = omega (arith, job_ok.few_cmds) in sym (nc_is ∙ (λ i. (given.shape i).cmds % 65536) ∙ z)

    reached : Reached J (length w.job.types) (length w.job.sets) (length w.entries) (length w.effects)
        (numbered_by anc w.job.names w.job.values w.job.heads w.job.slots nt nv nc w.job.types w.job.sets w.entries w.effects) (numbering (job_ops (length w.job.names) J) J)
    unfolding zeros
    reached =
        let o : filled (length w.entries) 0 [] ≡ w.entries = filled_none (length w.entries) ∙ sym none_yet.entries in
        let e : filled (length w.effects) 0 [] ≡ w.effects = filled_none (length w.effects) ∙ sym none_yet.effects in
        subst (λ (x : Out). Reached J (length w.job.types) (length w.job.sets) (length w.entries) (length w.effects) x (numbering (job_ops (length w.job.names) J) J))
        (λ i. numbered_by (anc_by i) (sym names_is i) (sym values_is i) (sym heads_is i) (sym slots_is i) (types_count i) (values_count i) (cmds_count i)
        (sym types_is i) (sym sets_is i) (o i) (e i))
        (numbered_right job_ok fits scoped (length w.job.names) (length w.job.types) (length w.job.sets) (length w.entries) (length w.effects) (length w.job.values) (length w.job.heads) (length w.job.slots)
        long.job.types long.job.sets long.entries long.effects)

    module _ {a : Answer} {ts ss os es : List ℕ} (after : Ended (numbered_by anc w.job.names w.job.values w.job.heads w.job.slots nt nv nc w.job.types w.job.sets w.entries w.effects) a ts ss os es) where
      abbrev left : Tables
      left = tables w.job.names ts ss w.job.values w.job.heads w.job.slots os es

      halted_is : {o : Out} {x : Whole} {r : Refusal} → Reached J (length w.job.types) (length w.job.sets) (length w.entries) (length w.effects) o x → Ended o a ts ss os es → a ≡ Err r
          → x ≡ halted (record { number = r.number; place = r.place })
      halted_is (r_whole σ v) z q = absurd (let y : ◌≡◌ {A = ℕ} 0 1 = cc z.answer in omega arith)
      halted_is {r = r} (r_halted m f u) z q =
          let e : ◌≡◌ {A = Answer} (Err (refusal m f)) (Err r) = sym z.answer ∙ q in
          let y : refusal m f ≡ r = cc in
          λ i. halted (record { number = (y i).number; place = (y i).place })

      -- 11 to 13, 16
      pub typed_halted : {r : Refusal} → a ≡ Err r → Judged bytes J (Err r) left
      typed_halted {r} q =
          judged.refused_by_lem r.number r.place left (verdict_halted (job_ops (length w.job.names)) (λ K k. agree (length w.job.names) k) bytes J (is_read) _ scoped (halted_is reached after q))

      -- the state that the typing came to
      record Came (σ : Sofar) (x : Whole) : Type 0 where
        pub is_whole : x ≡ whole σ
        pub state : Inv J (length J.cmds) σ
        pub types : ts ≡ filled (length w.job.types) 0 (type_words σ.entries)
        pub sets : ss ≡ filled (length w.job.sets) 0 (set_words σ.entries)
        pub entries : os ≡ filled (length w.entries) 0 σ.of
        pub effects : es ≡ filled (length w.effects) 0 (effect_words σ.effects)

      whole_is : {o : Out} {x : Whole} → Reached J (length w.job.types) (length w.job.sets) (length w.entries) (length w.effects) o x → Ended o a ts ss os es → a ≡ Ok tt → (σ : Sofar) × Came σ x
      whole_is (r_whole σ v) z q = (σ, record { is_whole = refl; state = v; types = z.types; sets = z.sets; entries = z.entries; effects = z.effects })
      whole_is (r_halted m f u) z q = absurd (let y : ◌≡◌ {A = ℕ} 0 1 = cc z.answer in omega arith)

      module _ (q : a ≡ Ok tt) {e s : ℕ} (e_is : e ≡ predecessor g.cmds) (s_is : s ≡ get_or es e 0) {b : Bool} (b_is : b ≡ eff_below_by anc s g.rights) where
        abbrev σ : Sofar
        σ = (whole_is reached after q).0

        came : Came σ (numbering (job_ops (length w.job.names) J) J)
        came = (whole_is reached after q).1

        last_is : e ≡ last_of J
        unfolding shape_of last_of
        last_is = e_is ∙ (λ i. predecessor (given.shape i).cmds)

        effect_is : of_word s ≡ last_effect J σ
        effect_is = ap of_word (s_is ∙ (λ i. get_or (came.effects i) (last_is i) 0)) ∙ effect_back (length w.effects) σ.effects (last_of J)

        below_is : (job_ops (length w.job.names) J).eff_below (last_effect J σ) J.rights ≡ b
        unfolding job_ops shape_of
        below_is = sym (b_is ∙ (λ i. effects_by (sym anc_by i) (effect_is i) (of_word (given.shape i).rights)))

        -- 14
        pub typed_beyond : b ≡ false → Judged bytes J (refused_by 14 e) left
        typed_beyond f =
            judged.refused_by_lem 14 e left
            (verdict_beyond (job_ops (length w.job.names)) (λ K k. agree (length w.job.names) k) bytes J (is_read) σ scoped came.is_whole (below_is ∙ f)
            ∙ (λ i. rules.refuse (record { number = 14; place = sym last_is i })))

        pub typed_within : b ≡ true → {t : ℕ} → t ≡ get_or os e 0 → Judged bytes J (accepted_by t s) left
        unfolding filled_from filled_with
        typed_within f {t} t_is =
            let r : t ≡ last_entry J σ = t_is ∙ (λ i. get_or (came.entries i) (last_is i) 0) ∙ filled_at (length w.entries) σ.of (last_of J) in
            let c : Fits σ = inv_fits job_ok (omega arith) came.state in
            let lt : length ts ≡ length w.job.types = ap length came.types ∙ filled_length (length w.job.types) (type_words σ.entries) (omega (arith, c.few, long.job.types, length-map σ.entries type_word)) in
            let ls : length ss ≡ length w.job.sets = ap length came.sets ∙ filled_length (length w.job.sets) (set_words σ.entries) (omega (arith, c.few, long.job.sets, length-map σ.entries set_word)) in
            let lo : length os ≡ length w.entries = ap length came.entries ∙ filled_length (length w.entries) σ.of (omega (arith, came.state.count_of, long.entries, job_ok.few_cmds)) in
            let le : length es ≡ length w.effects = ap length came.effects ∙ filled_length (length w.effects) (effect_words σ.effects) (omega (arith, length-map σ.effects (λ (s : Effect). s.set), came.state.count_effects, long.effects, job_ok.few_cmds)) in
            let kt : ts ≡ filled (length ts) 0 (type_words σ.entries) = came.types ∙ (λ i. filled (sym lt i) 0 (type_words σ.entries)) in
            let ks : ss ≡ filled (length ss) 0 (set_words σ.entries) = came.sets ∙ (λ i. filled (sym ls i) 0 (set_words σ.entries)) in
            let ko : os ≡ filled (length os) 0 σ.of = came.entries ∙ (λ i. filled (sym lo i) 0 σ.of) in
            let ke : es ≡ filled (length es) 0 (effect_words σ.effects) = came.effects ∙ (λ i. filled (sym le i) 0 (effect_words σ.effects)) in
            accepted (length w.job.names) σ left t s came.is_whole came.state
            (λ i. tables (names_is i) (kt i) (ks i) (values_is i) (heads_is i) (slots_is i) (ko i) (ke i)) r effect_is
            (verdict_within (job_ops (length w.job.names)) (λ K k. agree (length w.job.names) k) bytes J (is_read) σ scoped came.is_whole (below_is ∙ f)
            ∙ (λ i. rules.accept (tree σ.entries (sym r i)) (sym effect_is i)))
