-- The numbers 8, 9 and 10, exactly: each is given when its fact fails, at the lowest expression where it does, and when the facts of the numbers before it hold of all expressions; none is given when
-- all three hold of all.
use Rattle.std.specs.Prelude.{◌≡◌, refl, ℕ, zero, suc, ◌+◌, ◌≤◌, ◌<◌, Bool, true, false, cond, ◌≢◌, ◌↔◌, length, eqb}
use Rattle.std.proofs.Common.{sym, ap, ◌∙◌, subst, arith, true≢false, eqb-true}
use Rattle.std.proofs.Math.Option.{Option, none, some}
use Rattle.std.proofs.lemmas.Bool.{eqb-false}
use Rattle.syntax.specs.Job.{Src}
use Rattle.syntax.specs.Reading.{Refusal}
use Rattle.syntax.specs.Formed.{Formed}
use Rattle.syntax.specs.Tree.{used_right, binds_new, in_scope, first_bad, or_else, numbered, lowest, tree_refusal}
use Rattle.syntax.specs.TreeFacts.{Each, Lowest, UsedAsDue, BindsAnew, UsesInScope, TreeOk}
use Rattle.syntax.proofs.TreeTests.{used→, →used, new→, →new}
use Rattle.syntax.proofs.Context.{scope→, →scope}
use Rattle.syntax.specs.TreeExactly.{refusal}

-- it finds none, where the test holds of all; or the first failure
data Search (p : ℕ → Bool) (i n : ℕ) : Option ℕ → Type 0 where
  s_none : ((j : ℕ) → i ≤ j → j < i + n → p j ≡ true) → Search p i n none
  s_some : (e : ℕ) → i ≤ e → e < i + n → p e ≡ false → ((j : ℕ) → i ≤ j → j < e → p j ≡ true) → Search p i n (some e)

search : (p : ℕ → Bool) (n i : ℕ) → Search p i n (first_bad p i n)
unfolding first_bad
search p zero i = s_none (λ j h k. absurd (omega arith))
search p (suc n) i = at (p i) refl (search p n (suc i))
  where
    cases : (j : ℕ) → i ≤ j → p i ≡ true → (suc i ≤ j → p j ≡ true) → p j ≡ true
    cases j h z f = same (eqb i j) refl
      where
        same : (c : Bool) → eqb i j ≡ c → p j ≡ true
        same true y = ap p (sym (eqb-true i j y)) ∙ z
        same false y = let w : i ≢ j = eqb-false i j y in f (omega arith)

    up : {o : Option ℕ} → p i ≡ true → Search p (suc i) n o → Search p i (suc n) o
    up z (s_none f) = s_none (λ j h k. cases j h z (λ l. f j l (omega arith)))
    up z (s_some e h k b f) = s_some e (omega arith) (omega arith) b (λ j l m. cases j l z (λ x. f j x m))

    at : (b : Bool) → p i ≡ b → Search p (suc i) n (first_bad p (suc i) n) → Search p i (suc n) (cond b (first_bad p (suc i) n) (some i))
    at true z s = up z s
    at false z s = s_some i (omega arith) (omega arith) z (λ j h k. absurd (omega arith))

-- so of the three numbers: what the search with number n finds, of a fact that the test decides
data Found (S : Src) (P : ℕ → Type 0) (n : ℕ) : Option Refusal → Type 0 where
  f_none : Each S P → Found S P n none
  f_some : (e : ℕ) → Lowest S P e → Found S P n (some (refusal n e))

found : (S : Src) (n : ℕ) (p : ℕ → Bool) (P : ℕ → Type 0) → ((e : ℕ) → e < length S.cmds → p e ≡ true → P e) → ((e : ℕ) → e < length S.cmds → P e → p e ≡ true) → Found S P n (lowest n p (length S.cmds))
unfolding lowest numbered
found S n p P to back = at (search p (length S.cmds) 0)
  where
    at : {o : Option ℕ} → Search p 0 (length S.cmds) o → Found S P n (numbered n o)
    at (s_none f) = f_none (λ e h. to e h (f e (omega arith) (omega arith)))
    at (s_some e h k b f) = f_some e (record { is = omega arith; fails = λ x. true≢false (sym (back e (omega arith) x) ∙ b); before = λ d l. to d (omega arith) (f d (omega arith) l) })

-- All three

-- which refusal, if any, the tree gets
data Outcome (S : Src) : Option Refusal → Type 0 where
  o_none : TreeOk S → Outcome S none
  o_8 : (e : ℕ) → Lowest S (UsedAsDue S) e → Outcome S (some (refusal 8 e))
  o_9 : (e : ℕ) → Each S (UsedAsDue S) → Lowest S (BindsAnew S) e → Outcome S (some (refusal 9 e))
  o_10 : (e : ℕ) → Each S (UsedAsDue S) → Each S (BindsAnew S) → Lowest S (UsesInScope S) e → Outcome S (some (refusal 10 e))

outcome : (S : Src) → Formed S → Outcome S (tree_refusal S)
unfolding tree_refusal or_else
outcome S ok = at (found S 8 (used_right S) (UsedAsDue S) (λ e h t. used→ S e t) (λ e h f. →used S e f))
  where
    last : Each S (UsedAsDue S) → Each S (BindsAnew S) → {o : Option Refusal} → Found S (UsesInScope S) 10 o → Outcome S o
    last u a (f_none s) = o_none (record { used = u; anew = a; scoped = s })
    last u a (f_some e l) = o_10 e u a l

    next : Each S (UsedAsDue S) → {o : Option Refusal} → Found S (BindsAnew S) 9 o → Outcome S (or_else o (lowest 10 (in_scope S) (length S.cmds)))
    next u (f_none a) = last u a (found S 10 (in_scope S) (UsesInScope S) (λ e h t. scope→ S ok u e h t) (λ e h f. →scope S ok u f.stands f.uses))
    next u (f_some e l) = o_9 e u l

    at : {o : Option Refusal} → Found S (UsedAsDue S) 8 o → Outcome S (or_else o (or_else (lowest 9 (binds_new S) (length S.cmds)) (lowest 10 (in_scope S) (length S.cmds))))
    at (f_none u) = next u (found S 9 (binds_new S) (BindsAnew S) (λ e h t. new→ S e t) (λ e h f. →new S e f))
    at (f_some e l) = o_8 e l

-- and it is the only one
some_is : {q r : Refusal} → some q ≡ some r → (q.number ≡ r.number) × (q.place ≡ r.place)
some_is {q} {r} h = let z : q ≡ r = cc in (ap (λ (x : Refusal). x.number) z, ap (λ (x : Refusal). x.place) z)

none_some : {q : Refusal} {X : Type 0} → none ≡ some q → X
none_some h = absurd (let z : ◌≡◌ {A = ℕ} 0 1 = cc in omega arith)

module _ {S : Src} where
  lowest_same : {P : ℕ → Type 0} {d e : ℕ} → d ≡ e → Lowest S P d → Lowest S P e
  lowest_same {P} z l = subst (λ x. Lowest S P x) z l

  lowest_one : {P : ℕ → Type 0} {d e : ℕ} → Lowest S P d → Lowest S P e → d ≡ e
  lowest_one {P} {d} {e} x y = order (eqb d e) refl
    where
      less : (d e : ℕ) → d ≢ e → (d < e → ⊥) → (e < d → ⊥) → ⊥
      less zero zero n f g = n refl
      less zero (suc e) n f g = f (omega arith)
      less (suc d) zero n f g = g (omega arith)
      less (suc d) (suc e) n f g = less d e (λ z. n (ap suc z)) (λ h. f (omega arith)) (λ h. g (omega arith))

      order : (b : Bool) → eqb d e ≡ b → d ≡ e
      order true z = eqb-true d e z
      order false z = absurd (less d e (eqb-false d e z) (λ h. x.fails (y.before d h)) (λ h. y.fails (x.before e h)))

  not_each : {P : ℕ → Type 0} {e : ℕ} {X : Type 0} → Lowest S P e → Each S P → X
  not_each {e = e} l f = absurd (l.fails (f e l.is))

-- The theorems

module _ (S : Src) (ok : Formed S) where
  -- none, exactly when the facts of 8, 9 and 10 hold of all expressions
  pub tree_ok : (tree_refusal S ≡ none) ↔ TreeOk S
  tree_ok = (λ h. to (outcome S ok) h, λ t. back t (outcome S ok))
    where
      to : {o : Option Refusal} → Outcome S o → o ≡ none → TreeOk S
      to (o_none t) h = t
      to (o_8 e l) h = none_some (sym h)
      to (o_9 e u l) h = none_some (sym h)
      to (o_10 e u a l) h = none_some (sym h)

      back : TreeOk S → {o : Option Refusal} → Outcome S o → o ≡ none
      back t (o_none s) = refl
      back t (o_8 e l) = not_each l t.used
      back t (o_9 e u l) = not_each l t.anew
      back t (o_10 e u a l) = not_each l t.scoped

  -- 8 at e, exactly when e is the lowest expression that is not used as is due
  pub tree_8 : (e : ℕ) → (tree_refusal S ≡ some (refusal 8 e)) ↔ Lowest S (UsedAsDue S) e
  tree_8 e = (λ h. to (outcome S ok) h, λ l. back l (outcome S ok))
    where
      to : {o : Option Refusal} → Outcome S o → o ≡ some (refusal 8 e) → Lowest S (UsedAsDue S) e
      to (o_none t) h = none_some h
      to (o_8 d l) h = lowest_same (some_is h).1 l
      to (o_9 d u l) h = absurd (omega (arith, (some_is h).0))
      to (o_10 d u a l) h = absurd (omega (arith, (some_is h).0))

      back : Lowest S (UsedAsDue S) e → {o : Option Refusal} → Outcome S o → o ≡ some (refusal 8 e)
      back l (o_none t) = not_each l t.used
      back l (o_8 d m) = ap (λ x. some (refusal 8 x)) (lowest_one m l)
      back l (o_9 d u m) = not_each l u
      back l (o_10 d u a m) = not_each l u

  -- 9 at e, exactly when all are used as is due and e is the lowest that binds what is bound before
  pub tree_9 : (e : ℕ) → (tree_refusal S ≡ some (refusal 9 e)) ↔ (Each S (UsedAsDue S) × Lowest S (BindsAnew S) e)
  tree_9 e = (λ h. to (outcome S ok) h, λ z. back z.0 z.1 (outcome S ok))
    where
      to : {o : Option Refusal} → Outcome S o → o ≡ some (refusal 9 e) → Each S (UsedAsDue S) × Lowest S (BindsAnew S) e
      to (o_none t) h = none_some h
      to (o_8 d l) h = absurd (omega (arith, (some_is h).0))
      to (o_9 d u l) h = (u, lowest_same (some_is h).1 l)
      to (o_10 d u a l) h = absurd (omega (arith, (some_is h).0))

      back : Each S (UsedAsDue S) → Lowest S (BindsAnew S) e → {o : Option Refusal} → Outcome S o → o ≡ some (refusal 9 e)
      back u l (o_none t) = not_each l t.anew
      back u l (o_8 d m) = not_each m u
      back u l (o_9 d v m) = ap (λ x. some (refusal 9 x)) (lowest_one m l)
      back u l (o_10 d v a m) = not_each l a

  -- 10 at e, exactly when all are used as is due, nothing is bound twice, and e is the lowest that uses what is not in its scope
  pub tree_10 : (e : ℕ) → (tree_refusal S ≡ some (refusal 10 e)) ↔ (Each S (UsedAsDue S) × Each S (BindsAnew S) × Lowest S (UsesInScope S) e)
  tree_10 e = (λ h. to (outcome S ok) h, λ z. back z.0 z.1 z.2 (outcome S ok))
    where
      to : {o : Option Refusal} → Outcome S o → o ≡ some (refusal 10 e) → Each S (UsedAsDue S) × Each S (BindsAnew S) × Lowest S (UsesInScope S) e
      to (o_none t) h = none_some h
      to (o_8 d l) h = absurd (omega (arith, (some_is h).0))
      to (o_9 d u l) h = absurd (omega (arith, (some_is h).0))
      to (o_10 d u a l) h = (u, a, lowest_same (some_is h).1 l)

      back : Each S (UsedAsDue S) → Each S (BindsAnew S) → Lowest S (UsesInScope S) e → {o : Option Refusal} → Outcome S o → o ≡ some (refusal 10 e)
      back u a l (o_none t) = not_each l t.scoped
      back u a l (o_8 d m) = not_each m u
      back u a l (o_9 d v m) = not_each m a
      back u a l (o_10 d v b m) = ap (λ x. some (refusal 10 x)) (lowest_one m l)
