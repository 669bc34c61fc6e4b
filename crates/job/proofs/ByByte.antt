-- A turn of the reader by its command byte: the section that follows is the byte's own.
use mathlib.Core.Path.{◌≡◌, sym, subst}
use Prim.Native.Nat.{ℕ, ◌<◌}
use mathlib.Core.Bool.{false}
use mathlib.Core.List.{List}
use lib.ListN.{length, get_or}
use Rattle.std.specs.Prelude.{Ok}
use Rattle.names.specs.Ancestors.{names_in, ancestors_by}
use Rattle.entry.specs.Bytes.{rest_of, section_byte}
use Rattle.entry.specs.Entries.{judged_by, judged_in, stops_of}
use Rattle.entry.specs.declared.Shape.{Shape}
use Rattle.entry.specs.declared.Entry.{Entry}
use Rattle.entry.proofs.Sorts.{sort_is}
use Rattle.job.specs.After.{ancestors_after, shape_after}
use Rattle.job.specs.Answer.{Put}
use Rattle.job.proofs.Going as going
use Rattle.job.proofs.Going.{Long, Going, Loop}
use Rattle.job.proofs.Turn as reads
use Rattle.job.proofs.Turn.{Reads}

pub turn : (bytes left : List ℕ) (cur : ℕ) (g g' : Shape) (d n t u v h p d' n' t' u' v' h' p' : List ℕ) (kn kt ks kv kh kp : ℕ) → Long kn kt ks kv kh kp
    → Going bytes left cur g d n t u v h p kn kt ks kv kh kp → 0 < length left
    → (e : Entry) → Ok e ≡ judged_in (get_or left 0 0) left cur g n t d → stops_of e ≡ false → g' ≡ shape_after e g → Put e g d n t u v h p d' n' t' u' v' h' p'
    → Going bytes (rest_of left) (section_byte (get_or left 0 0)) g' d' n' t' u' v' h' p' kn kt ks kv kh kp
turn bytes left cur g g' d n t u v h p d' n' t' u' v' h' p' kn kt ks kv kh kp long k z e ee es w' q =
    subst (λ (i : ℕ). Going bytes (rest_of left) i g' d' n' t' u' v' h' p' kn kt ks kv kh kp) (sort_is (get_or left 0 0) left cur g (ancestors_by (names_in n g.names)) n t d (sym ee))
    (going.turn bytes left cur g g' d n t u v h p d' n' t' u' v' h' p' kn kt ks kv kh kp long k z e ee es w' q)

module _ (bytes left : List ℕ) (cur : ℕ) (g : Shape) (d n t u v h p n₀ t₀ u₀ v₀ h₀ p₀ : List ℕ) (k : Loop bytes left cur g d n t u v h p n₀ t₀ u₀ v₀ h₀ p₀) where
  pub loop_turn : 0 < length left → (e : Entry) → Ok e ≡ judged_in (get_or left 0 0) left cur g n t d → stops_of e ≡ false
      → (g' : Shape) (d' n' t' u' v' h' p' : List ℕ) → g' ≡ shape_after e g → Put e g d n t u v h p d' n' t' u' v' h' p'
      → Loop bytes (rest_of left) (section_byte (get_or left 0 0)) g' d' n' t' u' v' h' p' n₀ t₀ u₀ v₀ h₀ p₀
  loop_turn z e ee es g' d' n' t' u' v' h' p' w' q =
      subst (λ (i : ℕ). Loop bytes (rest_of left) i g' d' n' t' u' v' h' p' n₀ t₀ u₀ v₀ h₀ p₀) (sort_is (get_or left 0 0) left cur g (ancestors_by (names_in n g.names)) n t d (sym ee))
      (going.loop_turn bytes left cur g d n t u v h p n₀ t₀ u₀ v₀ h₀ p₀ k z e ee es g' d' n' t' u' v' h' p' w' q)

module _ {bytes left : List ℕ} {cur : ℕ} {g : Shape} {d n t u v h p n₀ t₀ u₀ v₀ h₀ p₀ anc : List ℕ} (k : Reads bytes left cur g d n t u v h p n₀ t₀ u₀ v₀ h₀ p₀ anc) where
  pub go_on : 0 < length left → {e : Entry} → Ok e ≡ judged_by (get_or left 0 0) left cur g anc n t d → stops_of e ≡ false
      → {g' : Shape} {d' n' t' u' v' h' p' anc' : List ℕ} → g' ≡ shape_after e g → Put e g d n t u v h p d' n' t' u' v' h' p' → anc' ≡ ancestors_after e g.names anc
      → Reads bytes (rest_of left) (section_byte (get_or left 0 0)) g' d' n' t' u' v' h' p' n₀ t₀ u₀ v₀ h₀ p₀ anc'
  go_on some {e} ee es {g'} {d'} {n'} {t'} {u'} {v'} {h'} {p'} {anc'} eg put ea =
      subst (λ (i : ℕ). Reads bytes (rest_of left) i g' d' n' t' u' v' h' p' n₀ t₀ u₀ v₀ h₀ p₀ anc') (sort_is (get_or left 0 0) left cur g anc n t d (sym ee))
      (reads.go_on k some ee es eg put ea)
