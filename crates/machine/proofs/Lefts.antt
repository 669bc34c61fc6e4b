-- Steps that are left, in words: the marks of threads that have some, the fewest of these, and what is taken of an allowance.
use mathlib.Core.Path.{◌≡◌, refl, sym, ap, ◌∙◌, subst⁻¹}
use Prim.Native.Nat.{ℕ, zero, suc, ◌+◌, ◌-◌, ◌≤◌, ◌<◌}
use native.Mathlib.Omega.{arith}
use mathlib.Core.Bool.{Bool, true, false, cond, false≢true}
use mathlib.Core.List.{List, [], ◌∷◌}
use lib.Dec.{eqb, ltb}
use lib.ListN.{length, length-set, get_or, set, replicate}
use lib.Seq.{get_or-set_same, get_or-set_other}
use borrow.Author.Tests.{eqb-true, eqb-false, ltb-true, ltb-false}
use Rattle.order.specs.Bools.{◌and◌}
use Rattle.semantics.specs.Calls.{total}
use Rattle.machine.specs.Turns.{has_left}
use Rattle.machine.specs.TurnsCalls.{Split}
use Rattle.machine.specs.Ahead.{MarksLeft, Least}
use Rattle.machine.specs.Scheduled.{marked}
use Rattle.machine.proofs.Marks.{none_at}

-- past the end there is nothing
past : (l : List ℕ) (i : ℕ) → length l ≤ i → get_or l i 0 ≡ 0
past [] i h = refl
past (x ∷ l) zero h = absurd (omega arith)
past (x ∷ l) (suc i) h = past l i (omega arith)

-- The marks of those that have a step left

abbrev keep : ℕ → ℕ → ℕ
keep m s = cond (ltb 0 s) m 0

-- up to place i each mark is kept or not; from there on there is none
pub record LeftTo (live rest left : List ℕ) (i : ℕ) : Type 0 where
  pub long : length left ≡ 8
  pub few : i ≤ 8
  pub done : (j : ℕ) → j < i → get_or left j 0 ≡ keep (get_or live j 0) (get_or rest j 0)
  pub none : (j : ℕ) → i ≤ j → get_or left j 0 ≡ 0

pub left_none : (live rest : List ℕ) → LeftTo live rest (replicate 8 0) 0
left_none live rest = record { long = refl; few = omega arith; done = λ j h. absurd (omega (arith, h)); none = λ j h. none_at 8 j }

pub left_more : {live rest left : List ℕ} {i x : ℕ} → LeftTo live rest left i → i < 8 → x ≡ cond (ltb 0 (get_or rest i 0)) (get_or live i 0) 0 → LeftTo live rest (set left i x) (i + 1)
left_more {live} {rest} {left} {i} {x} v h e = record {
  long = length-set left i x ∙ v.long;
  few = omega arith;
  done = λ j l. at j l (eqb j i) refl;
  none = λ j l. get_or-set_other left i j x 0 (λ q. omega (arith, q, l)) ∙ v.none j (omega (arith, l));
}
  where
    at : (j : ℕ) → j < i + 1 → (b : Bool) → eqb j i ≡ b → get_or (set left i x) j 0 ≡ cond (ltb 0 (get_or rest j 0)) (get_or live j 0) 0
    at j l true q =
        subst⁻¹ (λ (k : ℕ). get_or (set left i x) k 0 ≡ cond (ltb 0 (get_or rest k 0)) (get_or live k 0) 0) (eqb-true j i q) (get_or-set_same left i x 0 (omega (arith, v.long, h)) ∙ e)
    at j l false q = get_or-set_other left i j x 0 (eqb-false j i q) ∙ v.done j (let z = eqb-false j i q in omega (arith, l, z))

pub total_few : (l k : List ℕ) → length l ≡ length k → ((j : ℕ) → get_or l j 0 ≤ get_or k j 0) → total l ≤ total k
unfolding total
total_few [] k e f = omega arith
total_few (x ∷ l) [] e f = absurd (omega (arith, e))
total_few (x ∷ l) (y ∷ k) e f = let z = total_few l k (omega (arith, e)) (λ j. f (suc j)) in omega (arith, z, f 0)

pub left_all : {live rest left : List ℕ} {i : ℕ} → length live ≡ 8 → length rest ≡ 8 → LeftTo live rest left i → 8 ≤ i → MarksLeft live rest left
unfolding marked has_left ◌and◌
left_all {live} {rest} {left} {i} a b v h = record { long = v.long; each = λ j. at j (ltb j 8) refl; fewer = total_few left live (v.long ∙ sym a) (λ j. fewer j (ltb j 8) refl) }
  where
    here : (j : ℕ) → j < 8 → get_or left j 0 ≡ cond (ltb 0 (get_or rest j 0)) (get_or live j 0) 0
    here j l = v.done j (omega (arith, l, h))

    kept_mark : (m : ℕ) (s : Bool) → eqb (cond s m 0) 1 ≡ cond (eqb m 1) s false
    kept_mark m true = at (eqb m 1)
      where
        at : (c : Bool) → c ≡ cond c true false
        at true = refl
        at false = refl
    kept_mark m false = at (eqb m 1)
      where
        at : (c : Bool) → false ≡ cond c false false
        at true = refl
        at false = refl

    and_cond : (x y : Bool) → cond x y false ≡ (x and y)
    and_cond true y = refl
    and_cond false y = refl

    at : (j : ℕ) (c : Bool) → ltb j 8 ≡ c → eqb (get_or left j 0) 1 ≡ (eqb (get_or live j 0) 1 and ltb 0 (get_or rest j 0))
    at j true q = ap (λ k. eqb k 1) (here j (ltb-true j 8 q)) ∙ kept_mark (get_or live j 0) (ltb 0 (get_or rest j 0)) ∙ and_cond (eqb (get_or live j 0) 1) (ltb 0 (get_or rest j 0))
    at j false q = let l = ltb-false j 8 q in rw (past left j (omega (arith, l, v.long)), past live j (omega (arith, l, a)))

    fewer : (j : ℕ) (c : Bool) → ltb j 8 ≡ c → get_or left j 0 ≤ get_or live j 0
    fewer j true q = subst⁻¹ (λ k. k ≤ get_or live j 0) (here j (ltb-true j 8 q)) (under (ltb 0 (get_or rest j 0)) (get_or live j 0))
      where
        under : (s : Bool) (m : ℕ) → cond s m 0 ≤ m
        under true m = omega arith
        under false m = omega arith
    fewer j false q = let z = past left j (let l = ltb-false j 8 q in omega (arith, l, v.long)) in omega (arith, z)

-- The fewest

pub record LeastTo (live rest : List ℕ) (most n i : ℕ) : Type 0 where
  pub few : i ≤ 8
  pub within : n ≤ most
  pub each : (j : ℕ) → j < i → marked live j ≡ true → n ≤ get_or rest j 0
  pub some : 0 < most → ((j : ℕ) → marked live j ≡ true → 0 < get_or rest j 0) → 0 < n

pub least_none : (live rest : List ℕ) (most : ℕ) → LeastTo live rest most most 0
least_none live rest most = record { few = omega arith; within = omega arith; each = λ j h. absurd (omega (arith, h)); some = λ h f. h }

pub least_more : {live rest : List ℕ} {most n i m : ℕ} → LeastTo live rest most n i → i < 8 → m ≡ cond (eqb (get_or live i 0) 1) (cond (ltb (get_or rest i 0) n) (get_or rest i 0) n) n → LeastTo live rest most m (i + 1)
unfolding marked
least_more {live} {rest} {most} {n} {i} {m} v h e = at (eqb (get_or live i 0) 1) refl (ltb (get_or rest i 0) n) refl e
  where
    earlier : (k : ℕ) → k ≤ n → (marked live i ≡ true → k ≤ get_or rest i 0) → (j : ℕ) → j < i + 1 → marked live j ≡ true → k ≤ get_or rest j 0
    earlier k l f j g w = by (eqb j i) refl
      where
        by : (b : Bool) → eqb j i ≡ b → k ≤ get_or rest j 0
        by true q = subst⁻¹ (λ (z : ℕ). k ≤ get_or rest z 0) (eqb-true j i q) (f (ap (marked live) (sym (eqb-true j i q)) ∙ w))
        by false q = let z = v.each j (let y = eqb-false j i q in omega (arith, g, y)) w in omega (arith, z, l)

    at : (a : Bool) → eqb (get_or live i 0) 1 ≡ a → (b : Bool) → ltb (get_or rest i 0) n ≡ b → m ≡ cond a (cond b (get_or rest i 0) n) n → LeastTo live rest most m (i + 1)
    at true q true z y =
        let l = ltb-true (get_or rest i 0) n z in
        record { few = omega arith; within = omega (arith, y, l, v.within); each = earlier m (omega (arith, y, l)) (λ _. omega (arith, y)); some = λ s f. let k = f i q in omega (arith, y, k) }
    at true q false z y =
        let l = ltb-false (get_or rest i 0) n z in
        record { few = omega arith; within = omega (arith, y, v.within); each = earlier m (omega (arith, y)) (λ _. omega (arith, y, l)); some = λ s f. let k = v.some s f in omega (arith, y, k) }
    at false q b z y =
        record { few = omega arith; within = omega (arith, y, v.within); each = earlier m (omega (arith, y)) (λ w. absurd (false≢true (sym q ∙ w))); some = λ s f. let k = v.some s f in omega (arith, y, k) }

pub least_all : {live rest : List ℕ} {most n i : ℕ} → LeastTo live rest most n i → 8 ≤ i → Least live rest most n
least_all v h = record { within = v.within; each = λ j l w. v.each j (omega (arith, l, h)) w; some = v.some }

-- What is taken of an allowance

-- up to place i what is left is taken off; from there on the allowance stands
pub record TakenTo (allow rest counts : List ℕ) (i : ℕ) : Type 0 where
  pub long : length counts ≡ 8
  pub done : (j : ℕ) → j < i → get_or counts j 0 + get_or rest j 0 ≡ get_or allow j 0
  pub todo : (j : ℕ) → i ≤ j → get_or counts j 0 ≡ get_or allow j 0

pub taken_none : (allow rest : List ℕ) → length allow ≡ 8 → TakenTo allow rest allow 0
taken_none allow rest a = record { long = a; done = λ j h. absurd (omega (arith, h)); todo = λ j h. refl }

pub taken_more : {allow rest counts : List ℕ} {i : ℕ} → TakenTo allow rest counts i → i < 8 → get_or rest i 0 ≤ get_or allow i 0
    → TakenTo allow rest (set counts i (get_or counts i 0 - get_or rest i 0)) (i + 1)
taken_more {allow} {rest} {counts} {i} v h f = record {
  long = length-set counts i _ ∙ v.long;
  done = λ j l. at j l (eqb j i) refl;
  todo = λ j l. get_or-set_other counts i j _ 0 (λ q. omega (arith, q, l)) ∙ v.todo j (omega (arith, l));
}
  where
    here : get_or (set counts i (get_or counts i 0 - get_or rest i 0)) i 0 + get_or rest i 0 ≡ get_or allow i 0
    here = omega (arith, get_or-set_same counts i (get_or counts i 0 - get_or rest i 0) 0 (omega (arith, v.long, h)), v.todo i (omega arith), f)

    at : (j : ℕ) → j < i + 1 → (b : Bool) → eqb j i ≡ b → get_or (set counts i (get_or counts i 0 - get_or rest i 0)) j 0 + get_or rest j 0 ≡ get_or allow j 0
    at j l true q = subst⁻¹ (λ (k : ℕ). get_or (set counts i (get_or counts i 0 - get_or rest i 0)) k 0 + get_or rest k 0 ≡ get_or allow k 0) (eqb-true j i q) here
    at j l false q =
        let z = eqb-false j i q in
        omega (arith, get_or-set_other counts i j (get_or counts i 0 - get_or rest i 0) 0 z, v.done j (omega (arith, l, z)))

pub taken_all : {allow rest counts : List ℕ} {i : ℕ} → length rest ≡ 8 → TakenTo allow rest counts i → 8 ≤ i → Split allow counts rest
taken_all {allow} {rest} {counts} {i} b v h = record { each = λ j. at j (ltb j i) refl }
  where
    at : (j : ℕ) (c : Bool) → ltb j i ≡ c → get_or counts j 0 + get_or rest j 0 ≡ get_or allow j 0
    at j true q = v.done j (ltb-true j i q)
    at j false q = let l = ltb-false j i q in omega (arith, v.todo j l, past rest j (omega (arith, l, b, h)))
