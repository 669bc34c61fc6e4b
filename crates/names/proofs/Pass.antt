-- The pass over the declared names: what a turn does, and that it gives the table of ancestors where each upper name is declared earlier.
use Rattle.std.specs.Prelude.{◌≡◌, refl, Bool, true, false, cond, ◌||◌, List, [], ◌∷◌, ◌++◌, ◌⊎◌, set, replicate, eqb, ltb}
use Rattle.std.proofs.Math.Path.{sym, ap, ap₂}
use Rattle.std.proofs.Common.{◌∙◌, subst, inl, inr, length-set, get_or-set_same, ext_get_or, lt-ltb, ltb-true, ltb-false, eq-eqb, eqb-true}
use Prim.Native.Nat.{ℕ, zero, suc, ◌+◌, ◌%◌, ◌^◌, ◌≤◌, ◌<◌}
use native.Mathlib.Omega.{arith}
use Rattle.std.proofs.Math.Option.{some, none-ne-some, some-injective}
use Rattle.std.proofs.Math.ListN.{length, get_or, get_elem?, get_or-replicate}
use Rattle.std.proofs.Math.Seq.{get_or-set_other, set_out}
use Rattle.std.specs.Int.Bits.{bit_or}
use Rattle.std.proofs.lemmas.Bool.{eqb-false}
use Rattle.order.specs.Order.{Below, there, below}
use Rattle.order.specs.OrderLaws.{Proper}
use Rattle.order.proofs.OrderLaws.{below→, →below, below_self, below_bot, below_le, below_zero}
use Rattle.order.specs.Ranges.{range}
use Rattle.order.specs.Sets.{bit, cons_if, set_of, keep}
use Rattle.order.proofs.SetLaws.{bool_ext, or→, →or_l, →or_r, bit_or_lem, bit_pow, set_ext}
use Rattle.order.proofs.NameSetLaws.{below_upper}
use Rattle.syntax.specs.Job.{Name, uppers}
use Rattle.names.specs.Ancestors.{name_of, names_in, at_or_above, ancestors_of, one_of, first_two, entered, pass_over, ancestors_by}
use Rattle.names.proofs.Bits.{one_of_lem, keep_cong}
use Rattle.names.proofs.Tables.{names_in_length, upper_at, uppers_length}
use Rattle.names.proofs.Laws.{above_bit, bit_above, above_lt, table_length, table_in, table_out}

-- One turn

pass_snoc : (a : ℕ) (anc : List ℕ) (ds : List Name) (d : Name) → pass_over a anc (ds ++ (d ∷ [])) ≡ entered (pass_over a anc ds) (a + length ds) d
unfolding pass_over
pass_snoc a anc [] d = let h : a ≡ a + 0 = omega arith in ap (λ (i : ℕ). entered anc i d) h
pass_snoc a anc (x ∷ ds) d =
    let h : suc a + length ds ≡ a + suc (length ds) = omega arith in
    pass_snoc (suc a) (entered anc a x) ds d ∙ ap (λ (i : ℕ). entered (pass_over (suc a) (entered anc a x) ds) i d) h

pub pass_next : (t : List ℕ) (n : ℕ) → ancestors_by (names_in t (suc n)) ≡ entered (ancestors_by (names_in t n)) (2 + n) (name_of (get_or t (2 + n) 0))
unfolding ancestors_by names_in
pass_next t n =
    pass_snoc 2 first_two (names_in t n) (name_of (get_or t (2 + n) 0))
    ∙ ap (λ (k : ℕ). entered (pass_over 2 first_two (names_in t n)) (2 + k) (name_of (get_or t (2 + n) 0))) (names_in_length t n)

pass_length : (a : ℕ) (anc : List ℕ) (ds : List Name) → length (pass_over a anc ds) ≡ length anc
unfolding pass_over entered
pass_length a anc [] = refl
pass_length a anc (d ∷ ds) = pass_length (suc a) (entered anc a d) ds ∙ length-set anc a (bit_or (one_of a) (get_or anc d.upper 0))

pub by_length : (ds : List Name) → length (ancestors_by ds) ≡ 64
unfolding ancestors_by first_two
by_length ds = pass_length 2 first_two ds

-- names past the 62nd have no entry
pub pass_done : (t : List ℕ) (k n : ℕ) → 62 ≤ k → k ≤ n → ancestors_by (names_in t n) ≡ ancestors_by (names_in t k)
unfolding entered
pass_done t k zero h g = absurd (omega arith)
pass_done t k (suc n) h g = at (eqb k (suc n)) refl (λ q. pass_done t k n h q)
  where
    next : k ≤ n → ancestors_by (names_in t (suc n)) ≡ ancestors_by (names_in t n)
    next q = pass_next t n ∙ set_out (ancestors_by (names_in t n)) (2 + n) (bit_or (one_of (2 + n)) (get_or (ancestors_by (names_in t n)) (name_of (get_or t (2 + n) 0)).upper 0)) (omega (arith, by_length (names_in t n)))

    at : (c : Bool) → eqb k (suc n) ≡ c → (k ≤ n → ancestors_by (names_in t n) ≡ ancestors_by (names_in t k)) → ancestors_by (names_in t (suc n)) ≡ ancestors_by (names_in t k)
    at true e f = ap (λ (i : ℕ). ancestors_by (names_in t i)) (sym (eqb-true k (suc n) e))
    at false e f = let z = eqb-false k (suc n) e in let q : k ≤ n = omega arith in next q ∙ f q

-- the same as code takes a turn: w is the word of the name, e the entry of its upper name, o its own bit
pub pass_turn :
    (t : List ℕ) (k : ℕ) {anc : List ℕ} {w e o : ℕ} → anc ≡ ancestors_by (names_in t k) → w ≡ get_or t (k + 2) 0 → e ≡ get_or anc (w % 256) 0 → o ≡ one_of (k + 2)
    → set anc (k + 2) (bit_or o e) ≡ ancestors_by (names_in t (k + 1))
unfolding entered name_of
pass_turn t k {anc} {w} {e} {o} ha hw he ho =
    let x : k + 2 ≡ 2 + k = omega arith in
    let y : k + 1 ≡ suc k = omega arith in
    let z : e ≡ get_or anc (get_or t (2 + k) 0 % 256) 0 = he ∙ ap (λ (v : ℕ). get_or anc (v % 256) 0) (hw ∙ ap (λ (i : ℕ). get_or t i 0) x) in
    ap₂ (λ (i b : ℕ). set anc i b) x (ap₂ (λ (a b : ℕ). bit_or a b) (ho ∙ ap one_of x) z)
    ∙ ap (λ (l : List ℕ). set l (2 + k) (bit_or (one_of (2 + k)) (get_or l (get_or t (2 + k) 0 % 256) 0))) ha
    ∙ sym (ap (λ (i : ℕ). ancestors_by (names_in t i)) y ∙ pass_next t k)

-- the same by what `enter` does of it, and so for names that have an entry
pub pass_entered : (t : List ℕ) (k : ℕ) {anc x : List ℕ} {w : ℕ} → k < 62 → anc ≡ ancestors_by (names_in t k) → w ≡ get_or t (k + 2) 0 → x ≡ cond (ltb (k + 2) 64) (entered anc (k + 2) (name_of w)) anc
    → x ≡ ancestors_by (names_in t (k + 1))
pass_entered t k {anc} {x} {w} h ha hw hx =
    let y : k + 2 ≡ 2 + k = omega arith in
    let z : k + 1 ≡ suc k = omega arith in
    hx
    ∙ ap (λ (c : Bool). cond c (entered anc (k + 2) (name_of w)) anc) (lt-ltb (k + 2) 64 (omega arith))
    ∙ ap₂ (λ (i v : ℕ). entered anc i (name_of v)) y (hw ∙ ap (λ (i : ℕ). get_or t i 0) y)
    ∙ ap (λ (l : List ℕ). entered l (2 + k) (name_of (get_or t (2 + k) 0))) ha
    ∙ sym (ap (λ (i : ℕ). ancestors_by (names_in t i)) z ∙ pass_next t k)

-- the pass ends at the last name, or at the last that has an entry
pub pass_end : (t : List ℕ) (k n : ℕ) {anc : List ℕ} → k ≤ n → (k < n → 62 ≤ k) → anc ≡ ancestors_by (names_in t k) → anc ≡ ancestors_by (names_in t n)
pass_end t k n {anc} h f e = at (ltb k n) refl
  where
    at : (c : Bool) → ltb k n ≡ c → anc ≡ ancestors_by (names_in t n)
    at true z = e ∙ sym (pass_done t k n (f (ltb-true k n z)) h)
    at false z = let g : n ≤ k = ltb-false k n z in let y : k ≡ n = omega arith in e ∙ ap (λ (i : ℕ). ancestors_by (names_in t i)) y

-- Entries

pass_keep : (a : ℕ) (anc : List ℕ) (ds : List Name) (j : ℕ) → j < a → get_or (pass_over a anc ds) j 0 ≡ get_or anc j 0
unfolding pass_over entered
pass_keep a anc [] j h = refl
pass_keep a anc (d ∷ ds) j h = pass_keep (suc a) (entered anc a d) ds j (omega arith) ∙ get_or-set_other anc a j (bit_or (one_of a) (get_or anc d.upper 0)) 0 (λ e. omega arith)

pass_past : (a : ℕ) (anc : List ℕ) (ds : List Name) (j : ℕ) → a + length ds ≤ j → get_or (pass_over a anc ds) j 0 ≡ get_or anc j 0
unfolding pass_over entered
pass_past a anc [] j h = refl
pass_past a anc (d ∷ ds) j h = pass_past (suc a) (entered anc a d) ds j (omega arith) ∙ get_or-set_other anc a j (bit_or (one_of a) (get_or anc d.upper 0)) 0 (λ e. omega arith)

pass_at_lem :
    (a : ℕ) (anc : List ℕ) (ds : List Name) (k : ℕ) (d : Name) → get_elem? ds k ≡ some d → d.upper < a + k → a + k < length anc
    → get_or (pass_over a anc ds) (a + k) 0 ≡ bit_or (one_of (a + k)) (get_or (pass_over a anc ds) d.upper 0)
unfolding pass_over entered
pass_at_lem a anc [] k d e h g = absurd (none-ne-some d e)
pass_at_lem a anc (x ∷ ds) zero d e h g =
    let z : a + 0 ≡ a = omega arith in
    let y : x ≡ d = some-injective x d e in
    let w : d.upper < a = omega arith in
    ap (λ (i : ℕ). get_or (pass_over (suc a) (entered anc a x) ds) i 0) z
    ∙ pass_keep (suc a) (entered anc a x) ds a (omega arith)
    ∙ get_or-set_same anc a (bit_or (one_of a) (get_or anc x.upper 0)) 0 (omega arith)
    ∙ ap₂ (λ (i : ℕ) (n : Name). bit_or (one_of i) (get_or anc n.upper 0)) (sym z) y
    ∙ ap (bit_or (one_of (a + 0))) (sym (pass_keep (suc a) (entered anc a x) ds d.upper (omega arith) ∙ get_or-set_other anc a d.upper (bit_or (one_of a) (get_or anc x.upper 0)) 0 (λ q. omega arith)))
pass_at_lem a anc (x ∷ ds) (suc k) d e h g =
    let z : suc a + k ≡ a + suc k = omega arith in
    subst (λ (i : ℕ). get_or (pass_over (suc a) (entered anc a x) ds) i 0 ≡ bit_or (one_of i) (get_or (pass_over (suc a) (entered anc a x) ds) d.upper 0)) z
    (pass_at_lem (suc a) (entered anc a x) ds k d e (omega arith) (omega (arith, length-set anc a (bit_or (one_of a) (get_or anc x.upper 0)))))

-- The entries of 0 and 1

above_zero : (up : List ℕ) → at_or_above up 0 ≡ 0xFFFFFFFFFFFFFFFF
unfolding at_or_above set_of keep cons_if range
above_zero up = ap set_of (keep_cong (λ b. below up 0 b) (λ b. true) (range 0 64) (λ n m. below_bot up n))

above_one : {up : List ℕ} → Proper up → at_or_above up 1 ≡ 2
unfolding at_or_above set_of keep cons_if range
above_one {up} ok = ap set_of (keep_cong (λ b. below up 1 b) (λ b. eqb b 1) (range 0 64) (λ n m. bool_ext (below up 1 n) (eqb n 1) (to n) (from n)))
  where
    to : (n : ℕ) → below up 1 n ≡ true → eqb n 1 ≡ true
    to n e = at n (below→ up 1 n e) (below_le ok (below→ up 1 n e))
      where
        at : (n : ℕ) → Below up 1 n → (◌≡◌ {A = ℕ} 1 0) ⊎ (n ≤ 1) → eqb n 1 ≡ true
        at n b (inl z) = absurd (omega (arith, z))
        at zero b (inr z) = absurd (omega (arith, below_zero ok b))
        at (suc n) b (inr z) = eq-eqb (suc n) 1 (omega arith)

    from : (n : ℕ) → eqb n 1 ≡ true → below up 1 n ≡ true
    from n e = ap (below up 1) (eqb-true n 1 e) ∙ below_self up 1

-- what is at or above a name: itself, and what is at or above its upper name
above_upper : {up : List ℕ} → Proper up → (a u : ℕ) → a < 64 → 0 < a → get_elem? up a ≡ some u → bit_or (2 ^ a) (at_or_above up u) ≡ at_or_above up a
above_upper {up} ok a u h p g = set_ext (bit_or (2 ^ a) (at_or_above up u)) (at_or_above up a) (λ b. bool_ext (bit (bit_or (2 ^ a) (at_or_above up u)) b) (bit (at_or_above up a) b) (to b) (from b))
  where
    to : (b : ℕ) → bit (bit_or (2 ^ a) (at_or_above up u)) b ≡ true → bit (at_or_above up a) b ≡ true
    to b e = at (or→ (bit (2 ^ a) b) (bit (at_or_above up u) b) (sym (bit_or_lem b (2 ^ a) (at_or_above up u)) ∙ e))
      where
        at : (bit (2 ^ a) b ≡ true) ⊎ (bit (at_or_above up u) b ≡ true) → bit (at_or_above up a) b ≡ true
        at (inl z) = let q : b ≡ a = eqb-true b a (sym (bit_pow a b) ∙ z) in ap (bit (at_or_above up a)) q ∙ bit_above up a a h (below_self up a)
        at (inr z) = bit_above up a b (above_lt up u b z) (→below ok (there g (below→ up u b (above_bit up u b z))))

    from : (b : ℕ) → bit (at_or_above up a) b ≡ true → bit (bit_or (2 ^ a) (at_or_above up u)) b ≡ true
    from b e = bit_or_lem b (2 ^ a) (at_or_above up u) ∙ at (below_upper g (below→ up a b (above_bit up a b e)))
      where
        at : (a ≡ 0) ⊎ (a ≡ b) ⊎ Below up u b → (bit (2 ^ a) b || bit (at_or_above up u) b) ≡ true
        at (inl z) = absurd (omega arith)
        at (inr (inl z)) = →or_l (bit (2 ^ a) b) (bit (at_or_above up u) b) (bit_pow a b ∙ eq-eqb b a (sym z))
        at (inr (inr z)) = →or_r (bit (2 ^ a) b) (bit (at_or_above up u) b) (bit_above up u b (above_lt up a b e) (→below ok z))

get_elem?_in {ℓ} : {A : Type ℓ} (l : List A) (k : ℕ) → k < length l → (a : A) × (get_elem? l k ≡ some a)
get_elem?_in [] k h = absurd (omega arith)
get_elem?_in (x ∷ l) zero h = (x, refl)
get_elem?_in (x ∷ l) (suc k) h = get_elem?_in l k (omega arith)

-- The table

module _ (ds : List Name) (ok : Proper (uppers ds)) (few : length ds ≤ 62) where
  entry : (f a : ℕ) → a < f → a < 2 + length ds → get_or (ancestors_by ds) a 0 ≡ at_or_above (uppers ds) a
  unfolding ancestors_by first_two
  entry zero a h k = absurd (omega arith)
  entry (suc f) zero h k = pass_keep 2 first_two ds 0 (omega arith) ∙ sym (above_zero (uppers ds))
  entry (suc f) (suc zero) h k = pass_keep 2 first_two ds 1 (omega arith) ∙ sym (above_one ok)
  entry (suc f) (suc (suc j)) h k = at (get_elem?_in ds j (omega arith)) (λ u p q. entry f u p q)
    where
      step : (d : Name) → get_elem? ds j ≡ some d → ((u : ℕ) → u < f → u < 2 + length ds → get_or (ancestors_by ds) u 0 ≡ at_or_above (uppers ds) u)
          → ((d.upper < suc (suc j)) × (0 < d.upper)) ⊎ ((d.upper ≡ suc (suc j)) × (suc (suc j) < 2)) → get_or (ancestors_by ds) (suc (suc j)) 0 ≡ at_or_above (uppers ds) (suc (suc j))
      step d e ih (inr z) = absurd (omega (arith, z.1))
      step d e ih (inl z) =
          let w : 2 + j ≡ suc (suc j) = omega arith in
          let y : d.upper < 2 + j = omega arith in
          ap (λ (i : ℕ). get_or (ancestors_by ds) i 0) (sym w)
          ∙ pass_at_lem 2 first_two ds j d e y (omega arith)
          ∙ ap₂ (λ (a b : ℕ). bit_or a b) (one_of_lem (2 + j) (omega arith)) (ih d.upper (omega arith) (omega arith))
          ∙ ap (λ (i : ℕ). bit_or (2 ^ i) (at_or_above (uppers ds) d.upper)) w
          ∙ above_upper ok (suc (suc j)) d.upper (omega arith) (omega arith) (upper_at ds j d e)

      at : (d : Name) × (get_elem? ds j ≡ some d) → ((u : ℕ) → u < f → u < 2 + length ds → get_or (ancestors_by ds) u 0 ≡ at_or_above (uppers ds) u) → get_or (ancestors_by ds) (suc (suc j)) 0 ≡ at_or_above (uppers ds) (suc (suc j))
      at z ih = step z.0 z.1 ih (ok.down (suc (suc j)) z.0.upper (upper_at ds j z.0 z.1))

  none : (a : ℕ) → 2 + length ds ≤ a → a < 64 → get_or (ancestors_by ds) a 0 ≡ 0
  unfolding ancestors_by first_two
  none a h k =
      pass_past 2 first_two ds a h
      ∙ get_or-set_other (set (replicate 64 0) 0 0xFFFFFFFFFFFFFFFF) 1 a 2 0 (λ e. omega arith)
      ∙ get_or-set_other (replicate 64 0) 0 a 0xFFFFFFFFFFFFFFFF 0 (λ e. omega arith)
      ∙ get_or-replicate 64 a 0 0 k

  pub ancestors_by_lem : ancestors_by ds ≡ ancestors_of (uppers ds)
  ancestors_by_lem = ext_get_or 0 (ancestors_by ds) (ancestors_of (uppers ds)) (by_length ds ∙ sym (table_length (uppers ds))) (λ i h. at i (omega (arith, by_length ds)) (ltb i (2 + length ds)) refl)
    where
      at : (i : ℕ) → i < 64 → (c : Bool) → ltb i (2 + length ds) ≡ c → get_or (ancestors_by ds) i 0 ≡ get_or (ancestors_of (uppers ds)) i 0
      at i h true e = let z : i < 2 + length ds = ltb-true i (2 + length ds) e in entry (suc i) i (omega arith) z ∙ sym (table_in (uppers ds) i (omega (arith, uppers_length ds)) (omega (arith, uppers_length ds)))
      at i h false e = let z : 2 + length ds ≤ i = ltb-false i (2 + length ds) e in none i z h ∙ sym (table_out (uppers ds) i (omega (arith, uppers_length ds)))
