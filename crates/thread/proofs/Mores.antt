-- Is an operand left?
use Prim.Native.Nat.{ℕ, ◌+◌, ◌<◌, ◌≤◌}
use Rattle.std.proofs.Common.{min}
use mathlib.Core.Path.{◌≡◌, refl, sym, ◌∙◌}
use mathlib.Core.Bool.{Bool, true, false}
use native.Mathlib.Omega.{arith}
use borrow.Author.Tests.{eqb-true, eqb-false, ltb-true, ltb-false, le-ltb}
use lib.Dec.{ltb, eqb}
use Rattle.syntax.specs.Operands.{evaluated}
use Rattle.syntax.specs.Words.{decode}
use Rattle.acts.specs.Inner.{Works}
use Rattle.acts.proofs.Codes.{works_limit, works_limit_all, works_none}
use Rattle.thread.specs.Inner.{More}

-- of a limit, four at most
pub works_min : (op x n : ℕ) → op ≡ 0x3C → n ≡ min x 4 → Works op x n
works_min op x n h e = at (ltb x 4) refl
  where
    at : (b : Bool) → ltb x 4 ≡ b → Works op x n
    at true l = let k : x < 4 = ltb-true x 4 l in let d : n ≡ x = omega arith in rw d (works_limit op x h k)
    at false l = let k : 4 ≤ x = ltb-false x 4 l in let d : n ≡ 4 = omega arith in rw d (works_limit_all op x h k)

by : {A : Type 0} (op k : ℕ) → (op ≡ k → A) → ((op ≡ k → ⊥) → A) → A
by {A} op k f g = at (eqb op k) refl
  where
    at : (b : Bool) → eqb op k ≡ b → A
    at true e = f (eqb-true op k e)
    at false e = g (eqb-false op k e)

-- with one in hand none is left but of a limit
module _ (op x held : ℕ) (some : held ≡ 0 → ⊥) where
  after : (n : ℕ) → n ≤ 2 → Works op x n → More op x held false
  after n l w = record { need = n; works = w; is = sym (le-ltb (held + 1) n (omega arith)) }

  pub none_left : (op ≡ 60 → ⊥) → More op x held false
  unfolding decode evaluated
  none_left hc =
      by op 0x33 (λ h. after 2 (omega arith) (record { all = λ a b c d e. simp h; few = omega arith })) (λ h3.
      by op 0x34 (λ h. after 1 (omega arith) (record { all = λ a b c d e. simp h; few = omega arith })) (λ h4.
      by op 0x36 (λ h. after 2 (omega arith) (record { all = λ a b c d e. simp h; few = omega arith })) (λ h6.
      by op 0x37 (λ h. after 1 (omega arith) (record { all = λ a b c d e. simp h; few = omega arith })) (λ h7.
      by op 0x38 (λ h. after 2 (omega arith) (record { all = λ a b c d e. simp h; few = omega arith })) (λ h8.
      by op 0x39 (λ h. after 1 (omega arith) (record { all = λ a b c d e. simp h; few = omega arith })) (λ h9.
      by op 0x3A (λ h. after 2 (omega arith) (record { all = λ a b c d e. simp h; few = omega arith })) (λ ha.
      by op 0x3B (λ h. after 1 (omega arith) (record { all = λ a b c d e. simp h; few = omega arith })) (λ hb.
      by op 0x3D (λ h. after 1 (omega arith) (record { all = λ a b c d e. simp h; few = omega arith })) (λ hd.
      by op 0x3E (λ h. after 1 (omega arith) (record { all = λ a b c d e. simp h; few = omega arith })) (λ he.
      by op 0x3F (λ h. after 2 (omega arith) (record { all = λ a b c d e. simp h; few = omega arith })) (λ hf.
      by op 0x40 (λ h. after 1 (omega arith) (record { all = λ a b c d e. simp h; few = omega arith })) (λ h40.
      by op 0x41 (λ h. after 2 (omega arith) (record { all = λ a b c d e. simp h; few = omega arith })) (λ h41.
      after 0 (omega arith) (works_none op x h3 h4 h6 h7 h8 h9 ha hb hc hd he hf h40 h41))))))))))))))

module _ {op x held : ℕ} {r : Bool} (m : More op x held r) where
  pub more_left : r ≡ true → held + 1 < m.need
  more_left h = ltb-true _ _ (sym m.is ∙ h)

  pub more_none : r ≡ false → m.need ≤ held + 1
  more_none h = ltb-false _ _ (sym m.is ∙ h)

  pub more_few : r ≡ true → held < 3
  more_few h = omega (arith, more_left h, m.works.few)
