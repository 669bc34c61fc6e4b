-- The verdict and the tables by the way a checker goes: reading, the tree of expressions, typing by numbers, the rights.
use Rattle.std.specs.Prelude.{◌≡◌, ℕ, ◌<◌, true, false, List, length}
use Rattle.std.proofs.Math.Path.{refl, sym, ap, subst⁻¹}
use Rattle.std.proofs.Common.{◌∙◌}
use Rattle.std.proofs.Math.Bool.{cond}
use Rattle.std.proofs.Math.Option.{Option, none, some}
use Rattle.order.proofs.Bools.{and_l}
use Rattle.order.specs.Effects.{Effect, eff_below}
use Rattle.order.specs.EffectLaws.{Within}
use Rattle.syntax.specs.Types.{Ty, tree}
use Rattle.syntax.specs.Job.{Job, up_of, source_of}
use Rattle.syntax.specs.Reading.{Refusal, Read, refused, read, reading, rights_ok}
use Rattle.syntax.specs.ReadLaws.{JobOk}
use Rattle.syntax.proofs.ReadLaws.{read_ok}
use Rattle.syntax.specs.Tree.{predecessor, root, tree_refusal}
use Rattle.syntax.proofs.Context.{predecessor_lt}
use Rattle.typing.specs.Least.{typed, types, type_of, first_untyped}
use Rattle.typing.specs.Verdict.{Verdict, accept, refuse, unless, within, judged, judge, judge_read, verdict_of}
use Rattle.typing.proofs.Exactly.{unless_is}
use Rattle.typing.specs.Tables.{Tables, short, cleared, filled_by, kept_on, tables_after}
use Rattle.typing.specs.Numbered.{Ops, Sofar, Whole, whole, halted, numbering}
use Rattle.typing.proofs.NumberedTables.{set_lt}
use Rattle.typing.specs.NumberedOps.{Agree}
use Rattle.typing.proofs.NumberedOps.{agree_self}
use Rattle.typing.specs.NumberedLaws.{final_of, whole_of}
use Rattle.typing.proofs.NumberedLaws.{numbering_is, inv_final, up_length, cmds_length}
use Rattle.typing.specs.NumberedVerdict.{filled_from, filled_whole, judge_by, judge_read_by, kept_by, last_effect, last_entry, last_of, order_ops, reported, tables_by, verdict_by}

root_last : (J : Job) → root (source_of J) ≡ last_of J
unfolding root last_of
root_last J = ap predecessor (cmds_length J)

last_lt : (J : Job) → JobOk J → last_of J < length J.cmds
unfolding last_of
last_lt J j = predecessor_lt (length J.cmds) j.some_cmds

rights_lt : (J : Job) → JobOk J → Within (length (up_of (source_of J))) J.rights
unfolding rights_ok
rights_lt J j = subst⁻¹ (λ n. Within n J.rights) (up_length J) (set_lt J.names J.rights (and_l _ _ j.rights))

-- the job's own operations, which agree with those of the order
module _ (ops : Job → Ops) (ag : (J : Job) → JobOk J → Agree (up_of (source_of J)) (ops J)) where
  module _ (J : Job) (j : JobOk J) (scoped : tree_refusal (source_of J) ≡ none) where
    last_typed : first_untyped 0 (types (source_of J)) ≡ none → type_of (source_of J) (root (source_of J)) ≡ typed (tree (final_of J).entries (last_entry J (final_of J))) (last_effect J (final_of J))
    last_typed h = ap (type_of (source_of J)) (root_last J) ∙ ((inv_final j scoped (ag J j) h).each (last_of J) (last_lt J j)).is

    judged_last : first_untyped 0 (types (source_of J)) ≡ none → reported (ops J) J (whole (final_of J)) ≡ judged (source_of J) (type_of (source_of J) (root (source_of J)))
    unfolding reported judged source_of
    judged_last h =
        let p = (inv_final j scoped (ag J j) h).each (last_of J) (last_lt J j) in
        let e : (ops J).eff_below (last_effect J (final_of J)) J.rights ≡ eff_below (up_of (source_of J)) (last_effect J (final_of J)) J.rights =
        (ag J j).eff_below (last_effect J (final_of J)) J.rights p.small (rights_lt J j) in
        ap (λ b. within b (last_of J) (tree (final_of J).entries (last_entry J (final_of J))) (last_effect J (final_of J))) e
        ∙ ap
        (λ r. within (eff_below (up_of (source_of J)) (last_effect J (final_of J)) J.rights) r (tree (final_of J).entries (last_entry J (final_of J))) (last_effect J (final_of J)))
        (sym (root_last J))
        ∙ ap (judged (source_of J)) (sym (last_typed h))

    after_tree : reported (ops J) J (numbering (ops J) J) ≡ unless (first_untyped 0 (types (source_of J))) (judged (source_of J) (type_of (source_of J) (root (source_of J))))
    unfolding reported unless whole_of
    after_tree = ap (reported (ops J) J) (numbering_is j scoped (ag J j)) ∙ at (first_untyped 0 (types (source_of J))) refl
      where
        at : (o : Option Refusal) → first_untyped 0 (types (source_of J)) ≡ o → reported (ops J) J (whole_of o (final_of J)) ≡ unless o (judged (source_of J) (type_of (source_of J) (root (source_of J))))
        at none h = judged_last h
        at (some r) h = refl

  judge_by_lem : (J : Job) → JobOk J → judge_by ops J ≡ judge (source_of J)
  unfolding judge_by judge unless
  judge_by_lem J j = at (tree_refusal (source_of J)) refl
    where
      at : (o : Option Refusal) → tree_refusal (source_of J) ≡ o
          → unless o (reported (ops J) J (numbering (ops J) J)) ≡ unless o (unless (first_untyped 0 (types (source_of J))) (judged (source_of J) (type_of (source_of J) (root (source_of J)))))
      at none h = after_tree J j h
      at (some r) h = refl

  -- the verdict that a checker comes to is the verdict
  pub verdict_by_lem : (s : List ℕ) → verdict_by ops s ≡ verdict_of s
  unfolding verdict_by verdict_of judge_read_by judge_read
  verdict_by_lem s = at (reading s) refl
    where
      at : (r : Read) → reading s ≡ r → judge_read_by ops r ≡ judge_read r
      at (refused r) e = refl
      at (read J) e = judge_by_lem J (read_ok s J e)

  -- typing came to the final state where the job is accepted
  accepted_whole : (J : Job) → JobOk J → {T : Ty} {e : Effect} → judge (source_of J) ≡ accept T e → numbering (ops J) J ≡ whole (final_of J)
  unfolding judge whole_of
  accepted_whole J j h =
      let a = unless_is (tree_refusal (source_of J)) _ h in
      let b = unless_is (first_untyped 0 (types (source_of J))) _ a.1 in
      numbering_is j a.0 (ag J j) ∙ ap (λ o. whole_of o (final_of J)) b.0

  -- and the tables that it leaves are the tables
  pub tables_by_lem : (w : Tables) (s : List ℕ) → tables_by ops w s ≡ tables_after w s
  unfolding tables_by tables_after kept_by kept_on filled_whole filled_by filled_from final_of verdict_of judge_read
  tables_by_lem w s = ap (λ v. cond (short w) w (kept_by v ops (reading s) w)) (verdict_by_lem s) ∙ ap (cond (short w) w) (at (reading s) refl (verdict_of s) refl)
    where
      at : (r : Read) → reading s ≡ r → (v : Verdict) → judge_read r ≡ v → kept_by v ops r w ≡ kept_on v r w
      at (refused r) q (accept T e) h = refl
      at (refused r) q (refuse n) h = refl
      at (read J) q (accept T e) h = ap (λ x. filled_whole J x w) (accepted_whole J (read_ok s J q) h)
      at (read J) q (refuse n) h = refl

  -- Case by case, as a checker comes to them

  module _ (s : List ℕ) where
    pub verdict_refused : (r : Refusal) → reading s ≡ refused r → verdict_of s ≡ refuse r
    unfolding verdict_of judge_read
    verdict_refused r q = ap judge_read q

    module _ (J : Job) (q : reading s ≡ read J) where
      read_as : judge_by ops J ≡ verdict_of s
      unfolding verdict_by judge_read_by
      read_as = ap (judge_read_by ops) (sym q) ∙ verdict_by_lem s

      pub verdict_tree : (r : Refusal) → tree_refusal (source_of J) ≡ some r → verdict_of s ≡ refuse r
      unfolding judge_by unless
      verdict_tree r t = sym read_as ∙ ap (λ o. unless o (reported (ops J) J (numbering (ops J) J))) t

      typed_as : (w : Whole) → tree_refusal (source_of J) ≡ none → numbering (ops J) J ≡ w → verdict_of s ≡ reported (ops J) J w
      unfolding judge_by unless
      typed_as w t n = sym read_as ∙ ap (λ o. unless o (reported (ops J) J (numbering (ops J) J))) t ∙ ap (reported (ops J) J) n

      pub verdict_halted : (r : Refusal) → tree_refusal (source_of J) ≡ none → numbering (ops J) J ≡ halted r → verdict_of s ≡ refuse r
      unfolding reported
      verdict_halted r t n = typed_as (halted r) t n

      pub verdict_beyond : (σ : Sofar) → tree_refusal (source_of J) ≡ none → numbering (ops J) J ≡ whole σ → (ops J).eff_below (last_effect J σ) J.rights ≡ false
          → verdict_of s ≡ refuse (record { number = 14; place = last_of J })
      unfolding reported within
      verdict_beyond σ t n e = typed_as (whole σ) t n ∙ ap (λ b. within b (last_of J) (tree σ.entries (last_entry J σ)) (last_effect J σ)) e

      pub verdict_within : (σ : Sofar) → tree_refusal (source_of J) ≡ none → numbering (ops J) J ≡ whole σ → (ops J).eff_below (last_effect J σ) J.rights ≡ true
          → verdict_of s ≡ accept (tree σ.entries (last_entry J σ)) (last_effect J σ)
      unfolding reported within
      verdict_within σ t n e = typed_as (whole σ) t n ∙ ap (λ b. within b (last_of J) (tree σ.entries (last_entry J σ)) (last_effect J σ)) e

      -- the tables of an accepted job
      pub tables_accepted : (w : Tables) → short w ≡ false → (σ : Sofar) → numbering (ops J) J ≡ whole σ → {T : Ty} {e : Effect} → verdict_of s ≡ accept T e
          → tables_after w s ≡ filled_from J σ w
      unfolding tables_by kept_by filled_whole
      tables_accepted w h σ n {T} {e} a =
          sym (tables_by_lem w s)
          ∙ ap (λ b. cond b w (kept_by (verdict_by ops s) ops (reading s) w)) h
          ∙ ap (λ v. kept_by v ops (reading s) w) (verdict_by_lem s ∙ a)
          ∙ ap (λ r. kept_by (accept T e) ops r w) q
          ∙ ap (λ x. filled_whole J x w) n

-- the tables after a refusal; and where one of them is too short
pub tables_refused : (s : List ℕ) (w : Tables) → short w ≡ false → (r : Refusal) → verdict_of s ≡ refuse r → tables_after w s ≡ cleared w
unfolding tables_after kept_on
tables_refused s w h r v = ap (λ b. cond b w (kept_on (verdict_of s) (reading s) w)) h ∙ ap (λ x. kept_on x (reading s) w) v

pub tables_short : (s : List ℕ) (w : Tables) → short w ≡ true → tables_after w s ≡ w
unfolding tables_after
tables_short s w h = ap (λ b. cond b w (kept_on (verdict_of s) (reading s) w)) h

pub verdict_by_order : (s : List ℕ) → verdict_by order_ops s ≡ verdict_of s
verdict_by_order s = verdict_by_lem order_ops (λ J j. agree_self (up_of (source_of J))) s
