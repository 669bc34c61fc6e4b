-- The table of ancestors beside the names table, entry by entry.
use mathlib.Core.Path.{◌≡◌, refl, sym, ap, ap₂, ◌∙◌}
use Prim.Native.Nat.{ℕ, zero, suc, ◌+◌, ◌≤◌, ◌<◌}
use native.Mathlib.Omega.{arith}
use mathlib.Core.Bool.{Bool, cond}
use mathlib.Core.List.{List, [], ◌∷◌, ◌++◌}
use lib.ListN.{length, get_or, set}
use lib.Seq.{get_or-set_same, get_or-set_other}
use borrow.Author.Tests.{lt-ltb}
use Rattle.syntax.specs.Job.{Name}
use Rattle.names.specs.Ancestors.{name_of, names_in, entered, ancestors_by}
use Rattle.names.proofs.Pass.{pass_next}
use Rattle.entry.specs.Entries.{Judged, judged_by, judged_in}
use Rattle.entry.specs.Shapes.{shape_of}
use Rattle.entry.specs.declared.Shape.{Shape}
use Rattle.entry.specs.declared.Entry.{Entry}
use Rattle.entry.specs.declared.Entry.TheVariants.{Named, Typed, Valued, Rights, Formed, Last}
use Rattle.job.specs.After.{names_after, shape_after, ancestors_after}
use Rattle.job.proofs.Going.{Loop}

-- a word stored past the first k names leaves them
names_kept : (n : List ℕ) (i w k : ℕ) → k + 2 ≤ i → names_in (set n i w) k ≡ names_in n k
unfolding names_in
names_kept n i w zero h = refl
names_kept n i w (suc k) h =
    ap₂ (λ (l : List Name) (x : ℕ). l ++ (name_of x ∷ [])) (names_kept n i w k (omega arith)) (get_or-set_other n i (2 + k) w 0 (λ e. omega arith))

named : (n anc : List ℕ) (k w : ℕ) → k + 2 < length n → anc ≡ ancestors_by (names_in n k) → entered anc (k + 2) (name_of w) ≡ ancestors_by (names_in (set n (k + 2) w) (k + 1))
named n anc k w h e =
    let x : k + 2 ≡ 2 + k = omega arith in
    let y : suc k ≡ k + 1 = omega arith in
    let z : get_or (set n (k + 2) w) (2 + k) 0 ≡ w = ap (λ (i : ℕ). get_or (set n (k + 2) w) i 0) (sym x) ∙ get_or-set_same n (k + 2) w 0 h in
    ap₂ (λ (l : List ℕ) (i : ℕ). entered l i (name_of w)) (e ∙ ap ancestors_by (sym (names_kept n (k + 2) w k (omega arith)))) x
    ∙ ap (λ (v : ℕ). entered (ancestors_by (names_in (set n (k + 2) w) k)) (2 + k) (name_of v)) (sym z)
    ∙ sym (pass_next (set n (k + 2) w) k)
    ∙ ap (λ (i : ℕ). ancestors_by (names_in (set n (k + 2) w) i)) y

entry_turn : (e : Entry) (g : Shape) (n anc : List ℕ) → (shape_after e g).names ≤ 62 → 64 ≤ length n → anc ≡ ancestors_by (names_in n g.names)
    → ancestors_after e g.names anc ≡ ancestors_by (names_in (names_after e g n) (shape_after e g).names)
unfolding shape_after names_after ancestors_after
entry_turn (Named w) g n anc h k e =
    ap (λ (b : Bool). cond b (entered anc (g.names + 2) (name_of w)) anc) (lt-ltb (g.names + 2) 64 (omega arith)) ∙ named n anc g.names w (omega arith) e
entry_turn (Typed w s d) g n anc h k e = e
entry_turn (Valued w) g n anc h k e = e
entry_turn (Rights s) g n anc h k e = e
entry_turn (Formed f) g n anc h k e = e
entry_turn Last g n anc h k e = e

module _ {bytes left : List ℕ} {cur : ℕ} {g : Shape} {d n t u v h p n₀ t₀ u₀ v₀ h₀ p₀ : List ℕ} (k : Loop bytes left cur g d n t u v h p n₀ t₀ u₀ v₀ h₀ p₀) where
  few : g.names ≤ 62
  unfolding shape_of
  few =
      let e : g.names ≡ length k.going.J.names = ap (λ (y : Shape). y.names) k.going.tables.shape in
      omega (arith, k.going.sofar.few_names)

  -- a turn of the loop keeps the table of ancestors, which is that of the names
  pub ancestors_turn : (g₁ : Shape) (n₁ anc : List ℕ) {anc' : List ℕ} (e : Entry) → g ≡ shape_after e g₁ → n ≡ names_after e g₁ n₁ → anc' ≡ ancestors_after e g₁.names anc → length n₁ ≡ length n₀
      → anc ≡ ancestors_by (names_in n₁ g₁.names) → anc' ≡ ancestors_by (names_in n g.names)
  ancestors_turn g₁ n₁ anc e eg en ea el i =
      let z : (shape_after e g₁).names ≡ g.names = ap (λ (y : Shape). y.names) (sym eg) in
      ea ∙ entry_turn e g₁ n₁ anc (omega (arith, few)) (omega (arith, k.long.names)) i ∙ ap₂ (λ (l : List ℕ) (y : Shape). ancestors_by (names_in l y.names)) (sym en) (sym eg)

-- what a command comes to, by the table of ancestors that the loop keeps
pub judged_kept : (b : ℕ) (s : List ℕ) (cur : ℕ) (g : Shape) (anc n t d : List ℕ) (r : Judged) → r ≡ judged_by b s cur g anc n t d → anc ≡ ancestors_by (names_in n g.names) → r ≡ judged_in b s cur g n t d
judged_kept b s cur g anc n t d r er ea = er ∙ ap (λ (l : List ℕ). judged_by b s cur g l n t d) ea
