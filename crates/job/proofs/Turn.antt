-- The loop of the reader: what it keeps, over one command and where reading stops.
use mathlib.Core.Path.{◌≡◌, refl, sym, subst}
use Prim.Native.Nat.{ℕ, ◌+◌, ◌-◌, ◌<◌}
use mathlib.Core.Bool.{false}
use mathlib.Core.List.{List}
use lib.ListN.{length, get_or}
use Rattle.std.specs.Prelude.{Ok, Err}
use Rattle.table.specs.declared.Refusal.{Refusal}
use Rattle.names.specs.Ancestors.{names_in, ancestors_by}
use Rattle.entry.specs.Bytes.{rest_of}
use Rattle.entry.specs.Entries.{judged_by, stops_of, sort_of}
use Rattle.entry.specs.declared.Shape.{Shape}
use Rattle.entry.specs.declared.Entry.{Entry}
use Rattle.entry.specs.declared.Entry.TheVariants.{Named, Typed, Valued, Rights, Formed, Last}
use Rattle.job.specs.After.{ancestors_after, shape_after}
use Rattle.job.specs.Answer.{refused_by, Filled, Put}
use Rattle.job.proofs.Going.{Loop, loop_turn, stop_refused, stop_ended, stop_followed}
use Rattle.job.proofs.Ancestors.{ancestors_turn, judged_kept}

-- reading stops at the end alone
pub goes_on : (e : Entry) → (e ≡ Last → ⊥) → stops_of e ≡ false
unfolding stops_of
goes_on (Named w) h = refl
goes_on (Typed w s d) h = refl
goes_on (Valued w) h = refl
goes_on (Rights s) h = refl
goes_on (Formed f) h = refl
goes_on Last h = absurd (h refl)

-- the tables hold what is read, and the ancestors are those of the names
pub record Reads (bytes left : List ℕ) (cur : ℕ) (g : Shape) (d n t u v h p n₀ t₀ u₀ v₀ h₀ p₀ anc : List ℕ) : Type 0 where
  pub loop : Loop bytes left cur g d n t u v h p n₀ t₀ u₀ v₀ h₀ p₀
  pub ancestors : anc ≡ ancestors_by (names_in n g.names)

-- one command is read
module _ {bytes left : List ℕ} {cur : ℕ} {g : Shape} {d n t u v h p n₀ t₀ u₀ v₀ h₀ p₀ anc : List ℕ} (k : Reads bytes left cur g d n t u v h p n₀ t₀ u₀ v₀ h₀ p₀ anc) where
  -- it is refused
  pub here_refused : 0 < length left → {r : Refusal} → Err r.number ≡ judged_by (get_or left 0 0) left cur g anc n t d → r.place ≡ length bytes - length left
      → Filled bytes (Err r) n t u v h p (length n₀) (length t₀) (length u₀) (length v₀) (length h₀) (length p₀)
  here_refused some {r} em at_place =
      subst (λ (i : ℕ). Filled bytes (refused_by r.number i) n t u v h p (length n₀) (length t₀) (length u₀) (length v₀) (length h₀) (length p₀)) (sym at_place)
      (stop_refused bytes left cur g d n t u v h p (length n₀) (length t₀) (length u₀) (length v₀) (length h₀) (length p₀) k.loop.going some r.number (judged_kept _ left cur g anc n t d (Err r.number) em k.ancestors))

  -- it is the end, and the last byte
  pub here_ended : Ok Last ≡ judged_by (get_or left 0 0) left cur g anc n t d → length left ≡ 1
      → Filled bytes (Ok g) n t u v h p (length n₀) (length t₀) (length u₀) (length v₀) (length h₀) (length p₀)
  here_ended em one =
      stop_ended bytes left cur g d n t u v h p (length n₀) (length t₀) (length u₀) (length v₀) (length h₀) (length p₀) k.loop.going (judged_kept _ left cur g anc n t d (Ok Last) em k.ancestors) one

  -- it is the end, and a byte follows
  pub here_followed : 0 < length left → Ok Last ≡ judged_by (get_or left 0 0) left cur g anc n t d → (length left ≡ 1 → ⊥)
      → Filled bytes (refused_by 7 (length bytes - length left + 1)) n t u v h p (length n₀) (length t₀) (length u₀) (length v₀) (length h₀) (length p₀)
  here_followed some em more =
      stop_followed bytes left cur g d n t u v h p (length n₀) (length t₀) (length u₀) (length v₀) (length h₀) (length p₀) k.loop.going some (judged_kept _ left cur g anc n t d (Ok Last) em k.ancestors) more

  -- reading goes on
  pub go_on : 0 < length left → {e : Entry} → Ok e ≡ judged_by (get_or left 0 0) left cur g anc n t d → stops_of e ≡ false
      → {g' : Shape} {d' n' t' u' v' h' p' anc' : List ℕ} → g' ≡ shape_after e g → Put e g d n t u v h p d' n' t' u' v' h' p' → anc' ≡ ancestors_after e g.names anc
      → Reads bytes (rest_of left) (sort_of e) g' d' n' t' u' v' h' p' n₀ t₀ u₀ v₀ h₀ p₀ anc'
  go_on some {e} ee es {g'} {d'} {n'} {t'} {u'} {v'} {h'} {p'} eg put ea =
      let m = loop_turn bytes left cur g d n t u v h p n₀ t₀ u₀ v₀ h₀ p₀ k.loop some e (judged_kept _ left cur g anc n t d (Ok e) ee k.ancestors) es g' d' n' t' u' v' h' p' eg put in
      record { loop = m; ancestors = ancestors_turn m g n anc e eg put.names ea k.loop.names k.ancestors }
