-- The tests of the numbers 8 and 9 hold of an expression exactly when its fact holds.
use Rattle.std.specs.Prelude.{◌≡◌, Bool, true, false, cond, not, ◌≢◌, ◌⊎◌, take, eqb}
use Rattle.std.proofs.Math.Path.{refl, sym, subst}
use Rattle.std.proofs.Common.{ap, ◌∙◌, true≢false, inl, inr}
use Prim.Native.Nat.{ℕ, zero, suc, ◌+◌, ◌≤◌, ◌<◌}
use native.Mathlib.Omega.{arith}
use mathlib.Core.List.Memᴰ
use mathlib.Core.List.{List, [], ◌∷◌, ◌++◌, flat_map, Memᴰ}
use Rattle.std.proofs.Math.Option.{some, none-ne-some, some-injective}
use Rattle.std.proofs.Math.ListN.{get_elem?}
use borrow.Author.Tests.{eq-eqb, eqb-true, eqb-false, not-true}
use Rattle.order.proofs.Bools.{and_l, and_r, and2}
use Rattle.order.proofs.OrderLaws.{get_elem?_mem}
use Rattle.order.specs.Sets.{all_of}
use Rattle.order.proofs.SetLaws.{all_of→, →all_of}
use Rattle.syntax.specs.Types.{Ty}
use Rattle.syntax.specs.Commands.{Cmd}
use Rattle.syntax.specs.Operands.{nth, children}
use Rattle.syntax.specs.Job.{Src}
use Rattle.syntax.proofs.ReadFormed.{mem_at}
use Rattle.syntax.specs.Tree.{Entry, binds, vars_of, names_of, mem_b, root, count, uses, used_right, bound_by, binds_new}
use Rattle.syntax.specs.TreeFacts.{UsedAt, UsedOnce, UsedAsDue, BindsAnew}
use Rattle.syntax.proofs.Scope.{mem_b→, →mem_b, count_mem, mem_count, uses_mem, mem_uses, vars_of_app, names_of_app, binds_vars, vars_binds, binds_name_lem, names_binds}

-- 8

no_more : (n : ℕ) → (1 ≤ n → ⊥) → n ≡ 0
no_more zero f = refl
no_more (suc n) f = absurd (f (omega arith))

count_hit : (x y : ℕ) (l : List ℕ) → x ≡ y → count x (y ∷ l) ≡ 1 + count x l
unfolding count
count_hit x y l e = rw (eq-eqb x y e)

-- a number that is counted once at most stands at one place at most
count_one : (x : ℕ) (l : List ℕ) (i j : ℕ) → count x l ≤ 1 → get_elem? l i ≡ some x → get_elem? l j ≡ some x → i ≡ j
unfolding count
count_one x [] i j h a b = absurd (none-ne-some x a)
count_one x (y ∷ l) zero zero h a b = refl
count_one x (y ∷ l) zero (suc j) h a b = absurd (omega (arith, h, count_hit x y l (sym (some-injective y x a)), count_mem x l (get_elem?_mem l j x b)))
count_one x (y ∷ l) (suc i) zero h a b = absurd (omega (arith, h, count_hit x y l (sym (some-injective y x b)), count_mem x l (get_elem?_mem l i x a)))
count_one x (y ∷ l) (suc i) (suc j) h a b = ap suc (count_one x l i j (omega arith) a b)

-- and the other way round
one_count : (x : ℕ) (l : List ℕ) → ((i j : ℕ) → get_elem? l i ≡ some x → get_elem? l j ≡ some x → i ≡ j) → count x l ≤ 1
unfolding count
one_count x [] f = omega arith
one_count x (y ∷ l) f = at (eqb x y) refl (one_count x l (λ i j a b. let z = f (suc i) (suc j) a b in omega arith))
  where
    later : x ≡ y → 1 ≤ count x l → ⊥
    later e h = let m = mem_at (mem_count x l h) in let z = f 0 (suc m.0) (ap some (sym e)) m.1 in omega arith

    at : (b : Bool) → eqb x y ≡ b → count x l ≤ 1 → cond b 1 0 + count x l ≤ 1
    at true e h = let z = no_more (count x l) (later (eqb-true x y e)) in omega arith
    at false e h = omega arith

-- the same of all expressions
uses_one : (l : List (Cmd Ty)) (c p i q j : ℕ) → uses l c ≤ 1 → get_elem? (children (nth l p)) i ≡ some c → get_elem? (children (nth l q)) j ≡ some c → (p ≡ q) × (i ≡ j)
unfolding uses nth
uses_one [] c p i q j h a b = absurd (let z = uses_mem [] p c (get_elem?_mem (children (nth [] p)) i c a) in omega (arith, z.2))
uses_one (k ∷ l) c zero i zero j h a b = (refl, count_one c (children k) i j (omega arith) a b)
uses_one (k ∷ l) c zero i (suc q) j h a b = absurd (omega (arith, count_mem c (children k) (get_elem?_mem (children k) i c a), (uses_mem l q c (get_elem?_mem (children (nth l q)) j c b)).0))
uses_one (k ∷ l) c (suc p) i zero j h a b = absurd (omega (arith, count_mem c (children k) (get_elem?_mem (children k) j c b), (uses_mem l p c (get_elem?_mem (children (nth l p)) i c a)).0))
uses_one (k ∷ l) c (suc p) i (suc q) j h a b = let z = uses_one l c p i q j (omega arith) a b in (ap suc z.0, z.1)

one_uses : (l : List (Cmd Ty)) (c : ℕ) → ((p i q j : ℕ) → get_elem? (children (nth l p)) i ≡ some c → get_elem? (children (nth l q)) j ≡ some c → (p ≡ q) × (i ≡ j)) → uses l c ≤ 1
unfolding uses nth
one_uses [] c f = omega arith
one_uses (k ∷ l) c f = at (one_count c (children k) (λ i j a b. (f 0 i 0 j a b).1)) (one_uses l c (λ p i q j a b. let z = f (suc p) i (suc q) j a b in (omega (arith, z.0), z.1)))
  where
    both : 1 ≤ count c (children k) → 1 ≤ uses l c → ⊥
    both g h =
        let m = mem_at (mem_count c (children k) g) in
        let w = mem_uses l c h in
        let n = mem_at w.1 in
        let z = f 0 m.0 (suc w.0) n.0 m.1 n.1 in
        omega (arith, z.0)

    at : count c (children k) ≤ 1 → uses l c ≤ 1 → count c (children k) + uses l c ≤ 1
    at g h = sum (count c (children k)) (uses l c) refl refl g h
      where
        sum : (m n : ℕ) → m ≡ count c (children k) → n ≡ uses l c → count c (children k) ≤ 1 → uses l c ≤ 1 → count c (children k) + uses l c ≤ 1
        sum zero n x y g h = omega arith
        sum (suc m) zero x y g h = omega arith
        sum (suc m) (suc n) x y g h = absurd (both (omega arith) (omega arith))

module _ (S : Src) (e : ℕ) where
  place_uses : {p i : ℕ} → UsedAt S p i e → 1 ≤ uses S.cmds e
  place_uses {p} {i} o = (uses_mem S.cmds p e (get_elem?_mem (children (nth S.cmds p)) i e o.is)).0

  uses_place : 1 ≤ uses S.cmds e → (p : ℕ) × (i : ℕ) × UsedAt S p i e
  uses_place h = let w = mem_uses S.cmds e h in let m = mem_at w.1 in (w.0, m.0, record { is = m.1 })

  pub used→ : used_right S e ≡ true → UsedAsDue S e
  unfolding used_right
  used→ t = record { once = λ ne. one (eqb e (root S)) refl ne (eqb-true _ _ t); last = λ z p i o. never (eqb e (root S)) refl z (eqb-true _ _ t) (place_uses o) }
    where
      once : uses S.cmds e ≡ 1 → UsedOnce S e
      once h = let w = uses_place (omega arith) in record { user = w.0; place = w.1; used = w.2; only = λ p i o. uses_one S.cmds e p i w.0 w.1 (omega arith) o.is w.2.is }

      one : (b : Bool) → eqb e (root S) ≡ b → e ≢ root S → uses S.cmds e ≡ cond b 0 1 → UsedOnce S e
      one true z ne h = absurd (ne (eqb-true e (root S) z))
      one false z ne h = once h

      never : (b : Bool) → eqb e (root S) ≡ b → e ≡ root S → uses S.cmds e ≡ cond b 0 1 → 1 ≤ uses S.cmds e → ⊥
      never true z y h g = omega arith
      never false z y h g = eqb-false e (root S) z y

  pub →used : UsedAsDue S e → used_right S e ≡ true
  unfolding used_right
  →used f = eq-eqb _ _ (at (eqb e (root S)) refl)
    where
      single : UsedOnce S e → uses S.cmds e ≡ 1
      single u =
          let most : uses S.cmds e ≤ 1 = one_uses S.cmds e (λ p i q j a b. let x = u.only p i (record { is = a }) in let y = u.only q j (record { is = b }) in (x.0 ∙ sym y.0, x.1 ∙ sym y.1)) in
          omega (arith, most, place_uses u.used)

      at : (b : Bool) → eqb e (root S) ≡ b → uses S.cmds e ≡ cond b 0 1
      at true z = no_more (uses S.cmds e) (λ h. let w = uses_place h in f.last (eqb-true e (root S) z) w.0 w.1 w.2)
      at false z = single (f.once (eqb-false e (root S) z))

-- 9

-- what the first e expressions bind, variables or names
module _ (part : List Entry → List ℕ) (part_app : (Γ Δ : List Entry) → part (Γ ++ Δ) ≡ part Γ ++ part Δ) (part_nil : part [] ≡ []) where
  pub before→ : (l : List (Cmd Ty)) (e : ℕ) {x : ℕ} → Memᴰ x (part (bound_by (take e l))) → (d : ℕ) × (d < e) × Memᴰ x (part (binds (nth l d)))
  unfolding bound_by flat_map nth
  before→ [] zero {x} m = absurd (Memᴰ.not-nil (subst (λ t. Memᴰ x t) part_nil m))
  before→ [] (suc e) {x} m = absurd (Memᴰ.not-nil (subst (λ t. Memᴰ x t) part_nil m))
  before→ (k ∷ l) zero {x} m = absurd (Memᴰ.not-nil (subst (λ t. Memᴰ x t) part_nil m))
  before→ (k ∷ l) (suc e) {x} m = at (Memᴰ.append_cases (part (binds k)) (subst (λ t. Memᴰ x t) (part_app (binds k) (bound_by (take e l))) m)) (λ w. before→ l e w)
    where
      at : Memᴰ x (part (binds k)) ⊎ Memᴰ x (part (bound_by (take e l))) → (Memᴰ x (part (bound_by (take e l))) → (d : ℕ) × (d < e) × Memᴰ x (part (binds (nth l d))))
          → (d : ℕ) × (d < suc e) × Memᴰ x (part (binds (nth (k ∷ l) d)))
      at (inl w) f = (0, omega arith, w)
      at (inr w) f = let z = f w in (suc z.0, omega (arith, z.1), z.2)

  pub →before : (l : List (Cmd Ty)) (d e : ℕ) {x : ℕ} → d < e → Memᴰ x (part (binds (nth l d))) → Memᴰ x (part (bound_by (take e l)))
  unfolding bound_by flat_map nth binds
  →before [] d e {x} h m = absurd (Memᴰ.not-nil (subst (λ t. Memᴰ x t) part_nil m))
  →before (k ∷ l) d zero h m = absurd (omega arith)
  →before (k ∷ l) zero (suc e) {x} h m = subst (λ t. Memᴰ x t) (sym (part_app (binds k) (bound_by (take e l)))) (Memᴰ.append_left (part (bound_by (take e l))) m)
  →before (k ∷ l) (suc d) (suc e) {x} h m = subst (λ t. Memᴰ x t) (sym (part_app (binds k) (bound_by (take e l)))) (Memᴰ.append_right (part (binds k)) (→before l d e (omega arith) m))

  -- the test of one kind of binding
  anew→ : (l : List (Cmd Ty)) (e : ℕ) (own : List ℕ) → all_of (λ x. not (mem_b x (part (bound_by (take e l))))) own ≡ true
      → (d x : ℕ) → d < e → Memᴰ x (part (binds (nth l d))) → Memᴰ x own → ⊥
  anew→ l e own t d x h m w =
      true≢false (sym (→mem_b x (part (bound_by (take e l))) (→before l d e h m)) ∙ not-true _ (all_of→ (λ x. not (mem_b x (part (bound_by (take e l))))) t w))

  →anew : (l : List (Cmd Ty)) (e : ℕ) (own : List ℕ) → ((d x : ℕ) → d < e → Memᴰ x (part (binds (nth l d))) → Memᴰ x own → ⊥)
      → all_of (λ x. not (mem_b x (part (bound_by (take e l))))) own ≡ true
  →anew l e own f = →all_of (λ x. not (mem_b x (part (bound_by (take e l))))) own (λ x w. at x w (mem_b x (part (bound_by (take e l)))) refl)
    where
      at : (x : ℕ) → Memᴰ x own → (b : Bool) → mem_b x (part (bound_by (take e l))) ≡ b → not b ≡ true
      at x w true z = let y = before→ l e (mem_b→ x (part (bound_by (take e l))) z) in absurd (f y.0 x y.1 y.2 w)
      at x w false z = refl

module _ (S : Src) (e : ℕ) where
  pub new→ : binds_new S e ≡ true → BindsAnew S e
  unfolding binds_new vars_of names_of
  new→ t = record {
    variable = λ d v h m w. anew→ vars_of vars_of_app refl S.cmds e (vars_of (binds (nth S.cmds e))) (and_l _ _ t) d v h (vars_binds (nth S.cmds d) m) (vars_binds (nth S.cmds e) w);
    name = λ d r h m w. anew→ names_of names_of_app refl S.cmds e (names_of (binds (nth S.cmds e))) (and_r _ _ t) d r h (names_binds (nth S.cmds d) m) (names_binds (nth S.cmds e) w);
  }

  pub →new : BindsAnew S e → binds_new S e ≡ true
  unfolding binds_new vars_of names_of
  →new f =
      and2 _ _
      (→anew vars_of vars_of_app refl S.cmds e (vars_of (binds (nth S.cmds e))) (λ d v h m w. f.variable d v h (binds_vars (nth S.cmds d) m) (binds_vars (nth S.cmds e) w)))
      (→anew names_of names_of_app refl S.cmds e (names_of (binds (nth S.cmds e))) (λ d r h m w. f.name d r h (binds_name_lem (nth S.cmds d) m) (binds_name_lem (nth S.cmds e) w)))
