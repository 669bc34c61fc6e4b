-- The step of a pass at each of an expression's five places, from the last down, is its act at the last place where that is an operand, then at the first ones.
use mathlib.Core.Path.{◌≡◌, refl, sym, ap, ap₂, ◌∙◌}
use Prim.Native.Nat.{ℕ, zero, suc, ◌+◌, ◌-◌, ◌*◌, ◌/◌, ◌%◌, ◌≤◌, ◌<◌}
use native.Mathlib.Omega.{arith}
use mathlib.Core.Bool.{Bool, true, false, cond}
use mathlib.Core.List.{List}
use lib.ListN.{get_or}
use lib.Dec.{eqb, ltb}
use borrow.Author.Tests.{lt-ltb, le-ltb, ltb-true, ltb-false, ne_eqb}
use Rattle.uses.specs.Passes.{arity_of, is_operand, tallied, count_step, counted}
use Rattle.uses.specs.Places.{last_is_operand, first_operands, at_last, at_first, tally_at}

-- which places are operands

few : (b : Bool) {x y : ℕ} → x ≤ 3 → y ≤ 3 → cond b x y ≤ 3
few true h k = h
few false h k = k

arity_few : (b : ℕ) → arity_of b ≤ 3
unfolding arity_of
arity_few b =
    few (eqb b 0x33) (omega arith)
    (few (eqb b 0x34) (omega arith)
    (few (eqb b 0x35) (omega arith)
    (few (eqb b 0x36) (omega arith)
    (few (eqb b 0x37) (omega arith)
    (few (eqb b 0x38) (omega arith)
    (few (eqb b 0x39) (omega arith)
    (few (eqb b 0x3A) (omega arith)
    (few (eqb b 0x3B) (omega arith)
    (few (eqb b 0x3D) (omega arith)
    (few (eqb b 0x3E) (omega arith)
    (few (eqb b 0x3F) (omega arith)
    (few (eqb b 0x40) (omega arith)
    (few (eqb b 0x41) (omega arith)
    (few (eqb b 0x42) (omega arith) (omega arith)))))))))))))))

first_few : (w : ℕ) → first_operands w ≤ 4
unfolding first_operands
first_few w = at (eqb (w % 256) 0x3C) (ltb (w / 256) 4) refl
  where
    at : (b d : Bool) → ltb (w / 256) 4 ≡ d → cond b (cond d (w / 256) 4) (arity_of (w % 256)) ≤ 4
    at true true e = omega (arith, ltb-true (w / 256) 4 e)
    at true false e = omega arith
    at false d e = omega (arith, arity_few (w % 256))

last_is : (w : ℕ) → is_operand w 4 ≡ last_is_operand w
unfolding is_operand last_is_operand
last_is w = at (eqb (w % 256) 0x3C) (ltb 4 (w / 256))
  where
    at : (b d : Bool) → cond b (cond d true true) (ltb 4 (arity_of (w % 256))) ≡ b
    at true true = refl
    at true false = refl
    at false d = le-ltb 4 (arity_of (w % 256)) (omega (arith, arity_few (w % 256)))

first_is : (w i : ℕ) → i < 4 → is_operand w i ≡ ltb i (first_operands w)
unfolding is_operand first_operands
first_is w i h = at (eqb (w % 256) 0x3C)
  where
    used : (d : Bool) → ltb (w / 256) 4 ≡ d → cond (ltb i (w / 256)) true false ≡ ltb i (cond d (w / 256) 4)
    used true e = whole (ltb i (w / 256))
      where
        whole : (x : Bool) → cond x true false ≡ x
        whole true = refl
        whole false = refl
    used false e = rw (lt-ltb i (w / 256) (omega (arith, ltb-false (w / 256) 4 e)), lt-ltb i 4 h)

    at : (b : Bool) → cond b (cond (ltb i (w / 256)) true (eqb i 4)) (ltb i (arity_of (w % 256))) ≡ ltb i (cond b (cond (ltb (w / 256) 4) (w / 256) 4) (arity_of (w % 256)))
    at true = ap (λ (x : Bool). cond (ltb i (w / 256)) true x) (ne_eqb i 4 (λ e. omega arith)) ∙ used (ltb (w / 256) 4) refl
    at false = refl

-- the five steps of one expression

-- an act at place i, where b says that it is an operand
unfoldable pub on : (ℕ → List ℕ → List ℕ) → Bool → ℕ → List ℕ → List ℕ
on act b i l = cond b (act i l) l

firsts : (act : ℕ → List ℕ → List ℕ) (k : ℕ) → k ≤ 4 → (l : List ℕ) → on act (ltb 0 k) 0 (on act (ltb 1 k) 1 (on act (ltb 2 k) 2 (on act (ltb 3 k) 3 l))) ≡ at_first act k l
unfolding on at_first
firsts act zero h l = refl
firsts act (suc zero) h l = refl
firsts act (suc (suc zero)) h l = refl
firsts act (suc (suc (suc zero))) h l = refl
firsts act (suc (suc (suc (suc zero)))) h l = refl
firsts act (suc (suc (suc (suc (suc k))))) h l = absurd (omega arith)

five : (act : ℕ → List ℕ → List ℕ) (w : ℕ) (l : List ℕ)
    → on act (is_operand w 0) 0 (on act (is_operand w 1) 1 (on act (is_operand w 2) 2 (on act (is_operand w 3) 3 (on act (is_operand w 4) 4 l)))) ≡ at_first act (first_operands w) (at_last act w l)
unfolding on at_last
five act w l =
    rw (last_is w, first_is w 0 (omega arith), first_is w 1 (omega arith), first_is w 2 (omega arith), first_is w 3 (omega arith))
    (firsts act (first_operands w) (first_few w) (on act (last_is_operand w) 4 l))

module _ (run act : ℕ → List ℕ → List ℕ) (w e : ℕ)
    (turn : (i j : ℕ) (l : List ℕ) → i < 5 → j ≡ e * 5 + i → run (suc j) l ≡ run j (on act (is_operand w i) i l)) where
  pub run_five : (l : List ℕ) → run (suc e * 5) l ≡ run (e * 5) (at_first act (first_operands w) (at_last act w l))
  run_five l =
      let m : ℕ = e * 5 in
      let z : suc e * 5 ≡ suc (suc (suc (suc (suc m)))) = omega arith in
      ap (λ (j : ℕ). run j l) z
      ∙ turn 4 (suc (suc (suc (suc m)))) _ (omega arith) (omega arith)
      ∙ turn 3 (suc (suc (suc m))) _ (omega arith) (omega arith)
      ∙ turn 2 (suc (suc m)) _ (omega arith) (omega arith)
      ∙ turn 1 (suc m) _ (omega arith) (omega arith)
      ∙ turn 0 m _ (omega arith) (omega arith)
      ∙ ap (run m) (five act w l)

-- of the pass that counts

count_turn : (heads slots : List ℕ) (e i j : ℕ) (l : List ℕ) → i < 5 → j ≡ e * 5 + i
    → counted heads slots (suc j) l ≡ counted heads slots j (on (tally_at slots e) (is_operand (get_or heads e 0) i) i l)
unfolding counted count_step tally_at on
count_turn heads slots e i j l h k =
    let p : j / 5 ≡ e = omega arith in
    let q : j % 5 ≡ i = omega arith in
    ap (counted heads slots j)
    (ap₂ (λ (a b : ℕ). cond (is_operand (get_or heads a 0) b) (tallied l (get_or slots j 0)) l) p q
    ∙ ap (λ (n : ℕ). cond (is_operand (get_or heads e 0) i) (tallied l (get_or slots n 0)) l) k)

pub count_on : (heads slots l : List ℕ) (e : ℕ) {m a x : List ℕ} {w k : ℕ} → 0 < e → w ≡ get_or heads (e - 1) 0 → a ≡ at_last (tally_at slots (e - 1)) w l → k ≡ first_operands w
    → m ≡ at_first (tally_at slots (e - 1)) k a → x ≡ counted heads slots (e * 5) l → x ≡ counted heads slots ((e - 1) * 5) m
count_on heads slots l e h hw ha hk hm hx =
    let z : e ≡ suc (e - 1) = omega arith in
    rw (hm, hk, ha, hw)
    (hx ∙ ap (λ (i : ℕ). counted heads slots (i * 5) l) z ∙ run_five (counted heads slots) (tally_at slots (e - 1)) (get_or heads (e - 1) 0) (e - 1) (count_turn heads slots (e - 1)) l)

pub count_end : (heads slots l : List ℕ) (e : ℕ) {x : List ℕ} → e ≤ 0 → x ≡ counted heads slots (e * 5) l → l ≡ x
unfolding counted
count_end heads slots l e h k = let z : e * 5 ≡ 0 = omega arith in sym (k ∙ ap (λ (i : ℕ). counted heads slots i l) z)

-- the first places, one by one

pub first_on : (act : ℕ → List ℕ → List ℕ) (i : ℕ) (l : List ℕ) {m x : List ℕ} → 0 < i → m ≡ act (i - 1) l → x ≡ at_first act i l → x ≡ at_first act (i - 1) m
unfolding at_first
first_on act i l h hm hx = let z : i ≡ suc (i - 1) = omega arith in rw hm (hx ∙ ap (λ (j : ℕ). at_first act j l) z)

pub first_end : (act : ℕ → List ℕ → List ℕ) (i : ℕ) (l : List ℕ) {x : List ℕ} → i ≤ 0 → x ≡ at_first act i l → l ≡ x
unfolding at_first
first_end act i l h hx = let z : i ≡ 0 = omega arith in sym (hx ∙ ap (λ (j : ℕ). at_first act j l) z)

pub tally_next : (slots : List ℕ) (e i : ℕ) (l : List ℕ) {m x : List ℕ} {s : ℕ} → 0 < i → s ≡ get_or slots (e * 5 + (i - 1)) 0 → m ≡ tallied l s → x ≡ at_first (tally_at slots e) i l
    → x ≡ at_first (tally_at slots e) (i - 1) m
unfolding tally_at
tally_next slots e i l h hs hm hx = first_on (tally_at slots e) i l h (hm ∙ ap (tallied l) hs) hx

pub operands_few : (w : ℕ) {k : ℕ} → k ≡ first_operands w → k ≤ 4
operands_few w e = omega (arith, first_few w)
