-- What typing all expressions comes to: the pass over the tables for all tables, and typing by numbers for a job that the tables hold.
use Rattle.std.specs.Prelude.{◌≡◌, ℕ, ◌≤◌, List, [], length}
use Rattle.std.proofs.Common.{Ok, Err}
use Rattle.std.proofs.Common.{subst}
use Rattle.std.proofs.Math.Option.{none}
use Rattle.syntax.specs.Job.{Job, source_of}
use Rattle.syntax.specs.ReadLaws.{JobOk}
use Rattle.syntax.specs.Tree.{tree_refusal}
use Rattle.syntax.specs.Words.{filled, name_words, type_words, set_words, value_words, head_words, slot_words, effect_words}
use Rattle.syntax.specs.WordLaws.{JobFits}
use Rattle.syntax.specs.Loading.{most_entries}
use Rattle.typing.specs.Numbered.{Whole, whole, halted, numbering}
use Rattle.names.specs.Ancestors.{ancestors_by}
use Rattle.elaborate.specs.Pass.{Answer, refusal, Out, Ended, numbered_by}
use Rattle.elaborate.specs.OpsLaws.{job_ops}
use Rattle.elaborate.specs.Right.{Reached, r_whole, r_halted, numbered_right}

-- the lengths of the lent tables
pub record Lengths : Type 0 where
  pub names : ℕ
  pub types : ℕ
  pub sets : ℕ
  pub values : ℕ
  pub heads : ℕ
  pub slots : ℕ
  pub entries : ℕ
  pub effects : ℕ

-- the tables are those of the job J, free of 1 to 10, with none yet of entries and effects
pub record Held (J : Job) (k : Lengths) (anc names values heads slots : List ℕ) (nt nv nc : ℕ) (types sets entries effects : List ℕ) : Type 0 where
  pub job_ok : JobOk J
  pub job_fits : JobFits J
  pub scoped : tree_refusal (source_of J) ≡ none
  pub long_types : most_entries ≤ k.types
  pub long_sets : most_entries ≤ k.sets
  pub long_entries : 512 ≤ k.entries
  pub long_effects : 512 ≤ k.effects
  pub is_anc : anc ≡ ancestors_by J.names
  pub is_names : names ≡ filled k.names 0 (name_words J)
  pub is_values : values ≡ filled k.values 0 (value_words J)
  pub is_heads : heads ≡ filled k.heads 0 (head_words J)
  pub is_slots : slots ≡ filled k.slots 0 (slot_words J)
  pub declared : nt ≡ length J.types
  pub given : nv ≡ length J.values
  pub cmds : nc ≡ length J.cmds
  pub is_types : types ≡ filled k.types 0 (type_words J.types)
  pub is_sets : sets ≡ filled k.sets 0 (set_words J.types)
  pub is_entries : entries ≡ filled k.entries 0 []
  pub is_effects : effects ≡ filled k.effects 0 []

-- the answer and the tables say what typing by numbers came to
unfoldable pub Says : Lengths → Answer → List ℕ → List ℕ → List ℕ → List ℕ → Whole → Type 0
Says k r ts ss os es (whole σ) =
    (r ≡ Ok tt) × (ts ≡ filled k.types 0 (type_words σ.entries)) × (ss ≡ filled k.sets 0 (set_words σ.entries)) × (os ≡ filled k.entries 0 σ.of) × (es ≡ filled k.effects 0 (effect_words σ.effects))
Says k r ts ss os es (halted ρ) = r ≡ Err (refusal ρ.number ρ.place)

pub record Typed (anc names values heads slots : List ℕ) (nt nv nc : ℕ) (types sets entries effects : List ℕ) (r : Answer) (ts ss os es : List ℕ) : Type 0 where
  -- for all tables
  pub by : Ended (numbered_by anc names values heads slots nt nv nc types sets entries effects) r ts ss os es
  -- of a job
  pub right : (J : Job) (k : Lengths) → Held J k anc names values heads slots nt nv nc types sets entries effects → Says k r ts ss os es (numbering (job_ops k.names J) J)

says : {J : Job} (k : Lengths) {o : Out} {w : Whole} → Reached J k.types k.sets k.entries k.effects o w → {r : Answer} {ts ss os es : List ℕ} → Ended o r ts ss os es → Says k r ts ss os es w
unfolding Says
says k (r_whole σ i) e = (e.answer, e.types, e.sets, e.entries, e.effects)
says k (r_halted n p w) e = e.answer

-- the first gives the second
pub typed : {anc names values heads slots : List ℕ} {nt nv nc : ℕ} {types sets entries effects : List ℕ} {r : Answer} {ts ss os es : List ℕ}
    → Ended (numbered_by anc names values heads slots nt nv nc types sets entries effects) r ts ss os es → Typed anc names values heads slots nt nv nc types sets entries effects r ts ss os es
typed {anc} {names} {values} {heads} {slots} {nt} {nv} {nc} {types} {sets} {entries} {effects} {r} {ts} {ss} {os} {es} e = record { by = e; right = λ J k h. at J k h }
  where
    at : (J : Job) (k : Lengths) → Held J k anc names values heads slots nt nv nc types sets entries effects → Says k r ts ss os es (numbering (job_ops k.names J) J)
    at J k h =
        says k
        (numbered_right h.job_ok h.job_fits h.scoped k.names k.types k.sets k.entries k.effects k.values k.heads k.slots h.long_types h.long_sets h.long_entries h.long_effects)
        (subst (λ (o : Out). Ended o r ts ss os es)
        (λ i. numbered_by (h.is_anc i) (h.is_names i) (h.is_values i) (h.is_heads i) (h.is_slots i) (h.declared i) (h.given i) (h.cmds i) (h.is_types i) (h.is_sets i) (h.is_entries i) (h.is_effects i))
        e)
