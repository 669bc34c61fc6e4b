-- The operations by the tables of a job that was read are those of the order.
use Rattle.std.specs.Prelude.{◌≡◌, true, get_or, replicate}
use Rattle.std.proofs.Math.Path.{sym, ap}
use Rattle.std.proofs.Common.{◌∙◌}
use Prim.Native.Nat.{ℕ, suc, ◌+◌, ◌-◌, ◌%◌, ◌≤◌, ◌<◌}
use native.Mathlib.Omega.{arith}
use mathlib.Core.List.{List}
use Rattle.std.proofs.Math.Option.{Option, some}
use Rattle.std.proofs.Math.ListN.{length, get_elem?}
use Rattle.std.proofs.Math.Dec.{eqb}
use Rattle.order.specs.OrderLaws.{Proper}
use Rattle.order.specs.Sets.{bit}
use Rattle.order.proofs.SetLaws.{bit_lt}
use Rattle.order.specs.Effects.{Effect, of_word, eff_below, touch, reduce, drop, raise}
use Rattle.order.specs.EffectLaws.{Within}
use Rattle.syntax.specs.Job.{Job, Name, uppers, up_of, source_of}
use Rattle.syntax.specs.Words.{name_words, filled}
use Rattle.syntax.specs.ReadLaws.{JobOk}
use Rattle.syntax.proofs.ReadFormed as formed
use Rattle.typing.specs.Least.{is_upper}
use Rattle.typing.specs.Numbered.{Ops}
use Rattle.typing.specs.NumberedOps.{Agree}
use Rattle.names.specs.Ancestors.{name_of, names_in, ancestors_by, ancestors_of}
use Rattle.names.proofs.Tables.{names_in_at, names_proper, upper_at, uppers_length}
use Rattle.names.proofs.Pass.{ancestors_by_lem}
use Rattle.names.proofs.Laws.{below_by_lem, eff_below_by_lem, reduce_by_lem, drop_by_lem, touch_by_lem, raise_by_lem}
use Rattle.rules.specs.Ops.{ops_by}

-- the operations of a job by its own tables, of which that of names has k entries
unfoldable pub job_ops : ℕ → Job → Ops
job_ops k J = ops_by (ancestors_by J.names) (filled k 0 (name_words J))

module _ (k : ℕ) {J : Job} (j : JobOk J) where
  proper : Proper (uppers J.names)
  proper = formed.names_proper j.names

  few : length J.names ≤ 62
  few = omega (arith, j.few_names)

  few_up : length (uppers J.names) ≤ 64
  few_up = omega (arith, uppers_length J.names, few)

  table : ancestors_by J.names ≡ ancestors_of (uppers J.names)
  table = ancestors_by_lem J.names proper few

  -- a names table that holds the job's names gives them back
  pub names_held : names_in (filled k 0 (name_words J)) (length J.names) ≡ J.names
  unfolding filled
  names_held = names_proper J (replicate (k - length (name_words J)) 0) proper few

  over : (r u : ℕ) → 1 < r → r < length (uppers J.names) → eqb u (get_or (filled k 0 (name_words J)) r 0 % 256) ≡ is_upper (get_elem? (uppers J.names) r) u
  unfolding is_upper name_of
  over r u h l =
      let i : r - 2 < length J.names = omega (arith, uppers_length J.names) in
      let z : 2 + (r - 2) ≡ r = omega arith in
      let y : suc (suc (r - 2)) ≡ r = omega arith in
      let e : get_elem? J.names (r - 2) ≡ some (name_of (get_or (filled k 0 (name_words J)) (2 + (r - 2)) 0)) =
      ap (λ (l : List Name). get_elem? l (r - 2)) (sym names_held) ∙ names_in_at (filled k 0 (name_words J)) (length J.names) (r - 2) i in
      sym
      (ap (λ (n : ℕ). is_upper (get_elem? (uppers J.names) n) u) (sym y) ∙ ap (λ (o : Option ℕ). is_upper o u) (upper_at J.names (r - 2) _ e)
      ∙ ap (λ (n : ℕ). eqb u (get_or (filled k 0 (name_words J)) n 0 % 256)) z)

  within : (s : Effect) → Within (length (uppers J.names)) s → (n : ℕ) → bit s.set n ≡ true → n < length (uppers J.names)
  within s h n e = bit_lt (length (uppers J.names)) s.set n e h

  pub agree : Agree (up_of (source_of J)) (job_ops k J)
  unfolding source_of job_ops eff_below touch reduce drop raise
  agree =
      record {
        over = λ r u h l m. over r u h l;
        below = λ a b h l. below_by_lem proper few_up table a b;
        eff_below = λ s t h l. eff_below_by_lem proper few_up table s.set t.set (within s h);
        touch = λ q s h l. ap of_word (touch_by_lem q s.set (omega (arith, few_up)));
        reduce = λ s h. ap of_word (reduce_by_lem proper few_up table s.set (within s h));
        drop = λ r s h l. ap of_word (drop_by_lem proper few_up table r s.set);
        raise = λ r u s h l m. ap of_word (raise_by_lem r u s.set (omega (arith, few_up)) (omega (arith, few_up)));
      }
