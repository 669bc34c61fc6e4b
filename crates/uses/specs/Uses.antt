-- Number 8: the pass over the places counts the uses of each expression.
use Rattle.std.specs.Prelude.{◌≡◌, Bool, true, false, cond, List, [], ◌∷◌, map, get_or, set, take, replicate, ltb}
use Rattle.std.proofs.Math.Path.{refl, ap, ap₂}
use Rattle.std.proofs.Common.{sym, ◌∙◌, subst, length-set, get_or-set_same, get_or-set_other, lt-ltb, eq-eqb, ne_eqb, eqb-true}
use Prim.Native.Nat.{ℕ, zero, suc, ◌+◌, ◌*◌, ◌/◌, ◌%◌, ◌≤◌, ◌<◌}
use native.Mathlib.Omega.{arith}
use Rattle.std.proofs.Math.Option.{Option, some}
use Rattle.std.proofs.Math.ListN.{length, length-map}
use Rattle.std.proofs.lemmas.List.{length-replicate, get_or-replicate}
use Rattle.std.proofs.Math.Seq.{take-length}
use Rattle.std.proofs.Math.Dec.{eqb}
use Rattle.std.proofs.lemmas.Bool.{eqb-false}
use Rattle.order.proofs.SetLaws.{bool_ext}
use Rattle.syntax.specs.Types.{Ty}
use Rattle.syntax.specs.Commands.{Cmd, map_cmd}
use Rattle.syntax.specs.Operands.{nth, children}
use Rattle.syntax.specs.Words as words
use Rattle.syntax.specs.Tree.{count, uses, predecessor, first_bad}
use Rattle.syntax.proofs.ReadFormed.{children_map}
use Rattle.syntax.proofs.ReadFormed.{nth_map}
use Rattle.uses.specs.Passes.{is_operand, one_more, tallied, count_step, counted, counts_by, right_count}
use Rattle.uses.specs.Heads.{byte_of, keys_of, op_at, operand_is, use_at, uses5, children_count}

-- two tests that agree find the same expression
pub bad_cong : (p q : ℕ → Bool) (n i : ℕ) → ((j : ℕ) → i ≤ j → j < i + n → p j ≡ q j) → first_bad p i n ≡ first_bad q i n
unfolding first_bad
bad_cong p q zero i f = refl
bad_cong p q (suc n) i f =
    ap (λ (b : Bool). cond b (first_bad p (suc i) n) (some i)) (f i (omega arith) (omega arith))
    ∙ ap (λ (o : Option ℕ). cond (q i) o (some i)) (bad_cong p q n (suc i) (λ j h k. f j (omega arith) (omega arith)))

-- x is the number y, or 2 where y is more
pub record Capped (x y : ℕ) : Type 0 where
  pub low : y ≤ 1 → x ≡ y
  pub high : 2 ≤ y → x ≡ 2

capped_more : (x y : ℕ) → Capped x y → Capped (one_more x) (1 + y)
unfolding one_more
capped_more x zero c = let z = c.low (omega arith) in record { low = λ h. rw z; high = λ h. absurd (omega arith) }
capped_more x (suc zero) c = let z = c.low (omega arith) in record { low = λ h. absurd (omega arith); high = λ h. rw z }
capped_more x (suc (suc y)) c = let z = c.high (omega arith) in record { low = λ h. absurd (omega arith); high = λ h. rw z }

pub capped_is : (x y : ℕ) → Capped x y → (b : Bool) → eqb x (cond b 0 1) ≡ eqb y (cond b 0 1)
capped_is x zero c b = ap (λ (t : ℕ). eqb t (cond b 0 1)) (c.low (omega arith))
capped_is x (suc zero) c b = ap (λ (t : ℕ). eqb t (cond b 0 1)) (c.low (omega arith))
capped_is x (suc (suc y)) c true = let z : x ≡ 2 = c.high (omega arith) in ne_eqb x 0 (λ e. omega arith) ∙ sym (ne_eqb (suc (suc y)) 0 (λ e. omega arith))
capped_is x (suc (suc y)) c false = let z : x ≡ 2 = c.high (omega arith) in ne_eqb x 1 (λ e. omega arith) ∙ sym (ne_eqb (suc (suc y)) 1 (λ e. omega arith))

zero_more : {x t : ℕ} → Capped x t → Capped x (0 + t)
zero_more {x} {t} k = let z : t ≡ 0 + t = omega arith in subst (λ (y : ℕ). Capped x y) z k

count_step_lem : (l : List ℕ) (w i s c t : ℕ) → length l ≡ 512 → c < 512 → Capped (get_or l c 0) t → Capped (get_or (count_step l w i s) c 0) (use_at (is_operand w i) s c + t)
unfolding count_step tallied use_at
count_step_lem l w i s c t n h k = at (is_operand w i)
  where
    same : eqb c s ≡ true → Capped (get_or (cond (ltb s 512) (set l s (one_more (get_or l s 0))) l) c 0) (1 + t)
    same e =
        let z : c ≡ s = eqb-true c s e in
        let y : get_or (set l c (one_more (get_or l c 0))) c 0 ≡ one_more (get_or l c 0) = get_or-set_same l c (one_more (get_or l c 0)) 0 (omega arith) in
        rw (← z, lt-ltb c 512 h, y) (capped_more (get_or l c 0) t k)

    other : (b : Bool) → eqb c s ≡ false → Capped (get_or (cond b (set l s (one_more (get_or l s 0))) l) c 0) t
    other true e = rw (get_or-set_other l s c (one_more (get_or l s 0)) 0 (eqb-false c s e)) k
    other false e = k

    by : (b : Bool) → eqb c s ≡ b → Capped (get_or (cond (ltb s 512) (set l s (one_more (get_or l s 0))) l) c 0) (cond b 1 0 + t)
    by true e = same e
    by false e = zero_more (other (ltb s 512) e)

    at : (o : Bool) → Capped (get_or (cond o (cond (ltb s 512) (set l s (one_more (get_or l s 0))) l) l) c 0) (cond o (cond (eqb c s) 1 0) 0 + t)
    at true = by (eqb c s) refl
    at false = zero_more k

step_length : (l : List ℕ) (w i s : ℕ) → length (count_step l w i s) ≡ length l
unfolding count_step tallied
step_length l w i s = at (is_operand w i) (ltb s 512)
  where
    at : (o b : Bool) → length (cond o (cond b (set l s (one_more (get_or l s 0))) l) l) ≡ length l
    at true true = length-set l s (one_more (get_or l s 0))
    at true false = refl
    at false b = refl

-- the uses of c in the first j places
unfoldable pub uses_in : List ℕ → List ℕ → ℕ → ℕ → ℕ
uses_in heads places zero c = 0
uses_in heads places (suc j) c = use_at (is_operand (get_or heads (j / 5) 0) (j % 5)) (get_or places j 0) c + uses_in heads places j c

counted_is : (heads places : List ℕ) (j : ℕ) (l : List ℕ) (c t : ℕ) → length l ≡ 512 → c < 512 → Capped (get_or l c 0) t → Capped (get_or (counted heads places j l) c 0) (uses_in heads places j c + t)
unfolding counted uses_in
counted_is heads places zero l c t n h k = zero_more k
counted_is heads places (suc j) l c t n h k =
    let w : ℕ = get_or heads (j / 5) 0 in
    let u : ℕ = use_at (is_operand w (j % 5)) (get_or places j 0) c in
    let z : uses_in heads places j c + (u + t) ≡ u + uses_in heads places j c + t = omega arith in
    subst (λ (y : ℕ). Capped (get_or (counted heads places j (count_step l w (j % 5) (get_or places j 0))) c 0) y) z
    (counted_is heads places j (count_step l w (j % 5) (get_or places j 0)) c (u + t) (step_length l w (j % 5) (get_or places j 0) ∙ n) h (count_step_lem l w (j % 5) (get_or places j 0) c t n h k))

pub counts_are : (heads places : List ℕ) (n c : ℕ) → c < 512 → Capped (get_or (counts_by heads places n) c 0) (uses_in heads places (n * 5) c)
unfolding counts_by
counts_are heads places n c h =
    let z : uses_in heads places (n * 5) c + 0 ≡ uses_in heads places (n * 5) c = omega arith in
    subst (λ (y : ℕ). Capped (get_or (counted heads places (n * 5) (replicate 512 0)) c 0) y) z
    (counted_is heads places (n * 5) (replicate 512 0) c 0 (length-replicate {A = ℕ} 512 0) h (record { low = λ k. get_or-replicate 512 c 0 0 h; high = λ k. absurd (omega arith) }))

-- the uses in the places are the uses by the expressions
uses_next : (l : List (Cmd Ty)) (n c : ℕ) → n < length l → uses (take (suc n) l) c ≡ count c (children (nth l n)) + uses (take n l) c
unfolding uses nth
uses_next [] n c h = absurd (omega arith)
uses_next (k ∷ l) zero c h = omega arith
uses_next (k ∷ l) (suc n) c h = omega (arith, uses_next l n c (omega arith))

module _ (l : List (Cmd ℕ)) (f : ℕ → Ty) (heads places : List ℕ)
    (head : (e : ℕ) → e < length l → get_or heads e 0 ≡ words.head_word (nth l e))
    (five : (e : ℕ) → e < length l → length (words.slots (nth l e)) ≡ 5)
    (slot : (e i : ℕ) → e < length l → i < 5 → get_or places (e * 5 + i) 0 ≡ get_or (words.slots (nth l e)) i 0) where
  place : (n i j c : ℕ) → n < length l → i < 5 → j ≡ n * 5 + i
      → use_at (is_operand (get_or heads (j / 5) 0) (j % 5)) (get_or places j 0) c ≡ use_at (op_at (byte_of (nth l n)) (keys_of (nth l n)) i) (get_or (words.slots (nth l n)) i 0) c
  place n i j c h k e =
      let p : j / 5 ≡ n = omega arith in
      let q : j % 5 ≡ i = omega arith in
      ap₂ (λ (a b : ℕ). use_at (is_operand (get_or heads a 0) b) (get_or places j 0) c) p q
      ∙ ap₂ (λ (a b : ℕ). use_at (is_operand a i) b c) (head n h) (ap (λ (m : ℕ). get_or places m 0) e ∙ slot n i h k)
      ∙ ap (λ (o : Bool). use_at o (get_or (words.slots (nth l n)) i 0) c) (operand_is (nth l n) i)

  pub uses_are : (n c : ℕ) → n ≤ length l → uses_in heads places (n * 5) c ≡ uses (take n (map (map_cmd f) l)) c
  unfolding uses_in uses uses5
  uses_are zero c h = refl
  uses_are (suc n) c h =
      let m : ℕ = n * 5 in
      let z : suc n * 5 ≡ suc (suc (suc (suc (suc m)))) = omega arith in
      let k : n < length (map (map_cmd f) l) = omega (arith, length-map l (map_cmd f)) in
      let same : children (nth (map (map_cmd f) l) n) ≡ children (nth l n) = ap children (nth_map f l n) ∙ children_map f (nth l n) in
      ap (λ (j : ℕ). uses_in heads places j c) z
      ∙ omega (
        arith,
        place n 4 (suc (suc (suc (suc m)))) c h (omega arith) (omega arith),
        place n 3 (suc (suc (suc m))) c h (omega arith) (omega arith),
        place n 2 (suc (suc m)) c h (omega arith) (omega arith),
        place n 1 (suc m) c h (omega arith) (omega arith),
        place n 0 m c h (omega arith) (omega arith),
        children_count (nth l n) (five n h) c,
        uses_next (map (map_cmd f) l) n c k,
        ap (count c) same,
        uses_are n c (omega arith),
      )

  pub uses_all : (c : ℕ) → uses_in heads places (length l * 5) c ≡ uses (map (map_cmd f) l) c
  uses_all c = uses_are (length l) c (omega arith) ∙ ap (λ (m : List (Cmd Ty)). uses m c) (ap (λ (k : ℕ). take k (map (map_cmd f) l)) (sym (length-map l (map_cmd f))) ∙ take-length (map (map_cmd f) l))

  -- so the test by the counts is the test of 8
  pub right_is : (e : ℕ) → e < length l → length l ≤ 512 → right_count (counts_by heads places (length l)) (length l) e ≡ eqb (uses (map (map_cmd f) l) e) (cond (eqb e (predecessor (length (map (map_cmd f) l)))) 0 1)
  unfolding right_count predecessor
  right_is e h k =
      capped_is (get_or (counts_by heads places (length l)) e 0) (uses_in heads places (length l * 5) e) (counts_are heads places (length l) e (omega arith)) (eqb (e + 1) (length l))
      ∙ ap₂ (λ (u : ℕ) (b : Bool). eqb u (cond b 0 1)) (uses_all e) (last (length l) (length-map l (map_cmd f)) h)
    where
      last : (n : ℕ) → length (map (map_cmd f) l) ≡ n → e < n → eqb (e + 1) n ≡ eqb e (predecessor (length (map (map_cmd f) l)))
      last zero z q = absurd (omega arith)
      last (suc n) z q = bool_ext (eqb (e + 1) (suc n)) (eqb e (predecessor (length (map (map_cmd f) l)))) to from
        where
          top : predecessor (length (map (map_cmd f) l)) ≡ n
          top = ap predecessor z

          to : eqb (e + 1) (suc n) ≡ true → eqb e (predecessor (length (map (map_cmd f) l))) ≡ true
          to x = eq-eqb e _ (omega (arith, eqb-true (e + 1) (suc n) x, top))

          from : eqb e (predecessor (length (map (map_cmd f) l))) ≡ true → eqb (e + 1) (suc n) ≡ true
          from x = eq-eqb (e + 1) (suc n) (omega (arith, eqb-true e _ x, top))
