-- Laws of the order of a tree of numbers, and of lists that grow at the end.
use Rattle.std.specs.Prelude.{◌≡◌, refl, Bool, true, false, cond, ◌⊎◌, length, get_or, set, eqb}
use Rattle.std.proofs.Common.{sym, ap, ◌∙◌, subst, arith, add-one, inl, inr, length-append, eq-eqb, eqb-true}
use Rattle.std.proofs.Math.Path.{subst⁻¹}
use Prim.Native.Nat.{ℕ, zero, suc, ◌≤◌, ◌<◌}
use Rattle.std.proofs.lemmas.Bool.{false≢true}
use mathlib.Core.List.{List, [], ◌∷◌, ◌++◌, Memᴰ}
use Rattle.std.proofs.Math.Option.{Option, none, some, none-ne-some, some-injective}
use Rattle.std.proofs.Math.ListN.{get_elem?}
use Rattle.order.specs.Order.{Below, bot, here, there, on_upper, below_in, below}
use Rattle.order.specs.OrderLaws.{Proper}

pub below_trans : {up : List ℕ} {a b c : ℕ} → Below up a b → Below up b c → Below up a c
below_trans bot q = bot
below_trans here q = q
below_trans (there e p) q = there e (below_trans p q)

pub get_elem?_append {ℓ} : {A : Type ℓ} (l m : List A) (i : ℕ) (a : A) → get_elem? l i ≡ some a → get_elem? (l ++ m) i ≡ some a
get_elem?_append [] m i a e = absurd (none-ne-some a e)
get_elem?_append (x ∷ l) m zero a e = e
get_elem?_append (x ∷ l) m (suc i) a e = get_elem?_append l m i a e

pub get_elem?_seam {ℓ} : {A : Type ℓ} (l : List A) (a : A) → get_elem? (l ++ (a ∷ [])) (length l) ≡ some a
get_elem?_seam [] a = refl
get_elem?_seam (x ∷ l) a = get_elem?_seam l a

pub get_elem?_get_d {ℓ} : {A : Type ℓ} (l : List A) (i : ℕ) (a d : A) → get_elem? l i ≡ some a → get_or l i d ≡ a
get_elem?_get_d [] i a d e = absurd (none-ne-some a e)
get_elem?_get_d (x ∷ l) zero a d e = some-injective x a e
get_elem?_get_d (x ∷ l) (suc i) a d e = get_elem?_get_d l i a d e

pub get_elem?_lt {ℓ} : {A : Type ℓ} (l : List A) (i : ℕ) (a : A) → get_elem? l i ≡ some a → i < length l
get_elem?_lt [] i a e = absurd (none-ne-some a e)
get_elem?_lt (x ∷ l) zero a e = Prim.Native.Nat.suc-le-suc Prim.Native.Nat.zero-le
get_elem?_lt (x ∷ l) (suc i) a e = Prim.Native.Nat.suc-le-suc (get_elem?_lt l i a e)

pub get_elem?_some {ℓ} : {A : Type ℓ} (l : List A) (i : ℕ) → i < length l → (a : A) × (get_elem? l i ≡ some a)
get_elem?_some [] i h = absurd (omega arith)
get_elem?_some (x ∷ l) zero h = (x, refl)
get_elem?_some (x ∷ l) (suc i) h = get_elem?_some l i (omega arith)

pub get_elem?_mem {ℓ} : {A : Type ℓ} (l : List A) (i : ℕ) (a : A) → get_elem? l i ≡ some a → Memᴰ a l
get_elem?_mem [] i a e = absurd (none-ne-some a e)
get_elem?_mem (x ∷ l) zero a e = Memᴰ.head (sym (some-injective x a e))
get_elem?_mem (x ∷ l) (suc i) a e = Memᴰ.tail (get_elem?_mem l i a e)

-- what is below stays below when the list of upper numbers grows
pub below_append : {up : List ℕ} (m : List ℕ) {a b : ℕ} → Below up a b → Below (up ++ m) a b
below_append m bot = bot
below_append m here = here
below_append {up} m (there {a = x} {u = y} e p) = there (get_elem?_append up m x y e) (below_append m p)

pub get_elem?_snoc {ℓ} : {A : Type ℓ} (l : List A) (x : A) (i : ℕ) (a : A) → get_elem? (l ++ (x ∷ [])) i ≡ some a → (get_elem? l i ≡ some a) ⊎ ((i ≡ length l) × (x ≡ a))
get_elem?_snoc [] x zero a e = inr (refl, some-injective x a e)
get_elem?_snoc [] x (suc i) a e = absurd (none-ne-some a e)
get_elem?_snoc (y ∷ l) x zero a e = inl e
get_elem?_snoc (y ∷ l) x (suc i) a e = up (get_elem?_snoc l x i a e)
  where
    up : (get_elem? l i ≡ some a) ⊎ ((i ≡ length l) × (x ≡ a)) → (get_elem? l i ≡ some a) ⊎ ((suc i ≡ suc (length l)) × (x ≡ a))
    up (inl h) = inl h
    up (inr h) = inr (ap suc h.0, h.1)

pub length_snoc {ℓ} : {A : Type ℓ} (l : List A) (x : A) → length (l ++ (x ∷ [])) ≡ suc (length l)
length_snoc l x = length-append l (x ∷ []) ∙ add-one (length l)

pub get_elem?_at {ℓ} : {A : Type ℓ} (l : List A) (x : A) (i : ℕ) → i ≡ length l → get_elem? (l ++ (x ∷ [])) i ≡ some x
get_elem?_at l x i e = rw e (get_elem?_seam l x)

-- after a store at i each entry is as it was or is the new one
pub get_elem?_set {ℓ} : {A : Type ℓ} (l : List A) (i : ℕ) (v : A) (j : ℕ) (a : A) → get_elem? l j ≡ some a
    → (get_elem? (set l i v) j ≡ some a) ⊎ ((i ≡ j) × (get_elem? (set l i v) j ≡ some v))
get_elem?_set [] i v j a e = absurd (none-ne-some a e)
get_elem?_set (x ∷ l) zero v zero a e = inr (refl, refl)
get_elem?_set (x ∷ l) zero v (suc j) a e = inl e
get_elem?_set (x ∷ l) (suc i) v zero a e = inl e
get_elem?_set {A} (x ∷ l) (suc i) v (suc j) a e = up (get_elem?_set l i v j a e)
  where
    up : (get_elem? (set l i v) j ≡ some a) ⊎ ((i ≡ j) × (get_elem? (set l i v) j ≡ some v)) → (get_elem? (set l i v) j ≡ some a) ⊎ ((suc i ≡ suc j) × (get_elem? (set l i v) j ≡ some v))
    up (inl h) = inl h
    up (inr h) = inr (ap suc h.0, h.1)

-- 0 and 1 alone
pub proper_two : Proper (0 ∷ 1 ∷ [])
proper_two = record { down = at }
  where
    at : (a u : ℕ) → get_elem? (0 ∷ 1 ∷ []) a ≡ some u → ((u < a) × (0 < u)) ⊎ ((u ≡ a) × (a < 2))
    at zero u e = inr (sym (some-injective 0 u e), omega arith)
    at (suc zero) u e = inr (sym (some-injective 1 u e), omega arith)
    at (suc (suc a)) u e = absurd (none-ne-some u e)

-- what the test finds holds
below_in→ : (up : List ℕ) (f a b : ℕ) → below_in up f a b ≡ true → Below up a b
unfolding below_in on_upper
below_in→ up zero a b e = at (eqb a 0) refl e
  where
    at : (i : Bool) → eqb a 0 ≡ i → cond i true (eqb a b) ≡ true → Below up a b
    at true z h = subst⁻¹ (λ t. Below up t b) (eqb-true a 0 z) bot
    at false z h = subst (λ t. Below up a t) (eqb-true a b h) here
below_in→ up (suc f) a b e = at (eqb a 0) refl (eqb a b) refl (get_elem? up a) refl e (λ u h. below_in→ up f u b h)
  where
    at : (i : Bool) → eqb a 0 ≡ i → (j : Bool) → eqb a b ≡ j → (o : Option ℕ) → get_elem? up a ≡ o → cond i true (cond j true (on_upper o (λ u. below_in up f u b))) ≡ true
        → ((u : ℕ) → below_in up f u b ≡ true → Below up u b) → Below up a b
    at true z j y o x h g = subst⁻¹ (λ t. Below up t b) (eqb-true a 0 z) bot
    at false z true y o x h g = subst (λ t. Below up a t) (eqb-true a b y) here
    at false z false y none x h g = absurd (false≢true h)
    at false z false y (some u) x h g = there x (g u h)

pub below→ : (up : List ℕ) (a b : ℕ) → below up a b ≡ true → Below up a b
unfolding below
below→ up a b e = below_in→ up (length up) a b e

self : (up : List ℕ) (f a : ℕ) → below_in up f a a ≡ true
unfolding below_in
self up zero a = at (eqb a 0)
  where
    at : (b : Bool) → cond b true (eqb a a) ≡ true
    at true = refl
    at false = eq-eqb a a refl
self up (suc f) a = at (eqb a 0) (on_upper (get_elem? up a) (λ u. below_in up f u a))
  where
    at : (b o : Bool) → cond b true (cond (eqb a a) true o) ≡ true
    at true o = refl
    at false o = rw (eq-eqb a a refl)

pub below_self : (up : List ℕ) (a : ℕ) → below up a a ≡ true
unfolding below
below_self up a = self up (length up) a

-- 0 is below all
pub below_bot : (up : List ℕ) (b : ℕ) → below up 0 b ≡ true
unfolding below below_in
below_bot up b = at (length up)
  where
    at : (f : ℕ) → below_in up f 0 b ≡ true
    at zero = refl
    at (suc f) = refl

-- the test finds all that holds: as many steps as the number are enough
→below_in : {up : List ℕ} → Proper up → {a b : ℕ} → Below up a b → (f : ℕ) → a ≤ f → below_in up f a b ≡ true
unfolding below_in on_upper
→below_in ok bot zero h = refl
→below_in ok bot (suc f) h = refl
→below_in {up} ok {a} here f h = self up f a
→below_in {up} ok {b = b} (there {a = x} {u = y} g p) f h = step f h (λ k z. →below_in ok p k z) (ok.down x y g)
  where
    step : (f : ℕ) → x ≤ f → ((k : ℕ) → y ≤ k → below_in up k y b ≡ true) → ((y < x) × (0 < y)) ⊎ ((y ≡ x) × (x < 2)) → below_in up f x b ≡ true
    step zero h ih (inl z) = absurd (omega (arith, z.0))
    step (suc f) h ih (inl z) = at (eqb x 0) (eqb x b)
      where
        at : (i j : Bool) → cond i true (cond j true (on_upper (get_elem? up x) (λ u. below_in up f u b))) ≡ true
        at true j = refl
        at false true = refl
        at false false = rw g (ih f (omega (arith, z.0)))
    step f h ih (inr z) = subst (λ t. below_in up f t b ≡ true) z.0 (ih f (omega (arith, z.0)))

pub →below : {up : List ℕ} → Proper up → {a b : ℕ} → Below up a b → below up a b ≡ true
unfolding below
→below {up} ok bot = →below_in ok bot (length up) (omega arith)
→below {up} ok {a} here = self up (length up) a
→below {up} ok (there {a = x} {u = y} g p) = →below_in ok (there g p) (length up) (omega (arith, get_elem?_lt up x y g))

-- a number is below no larger one, but 0 is below all
pub below_le : {up : List ℕ} → Proper up → {a b : ℕ} → Below up a b → (a ≡ 0) ⊎ (b ≤ a)
below_le ok bot = inl refl
below_le ok here = inr (omega arith)
below_le ok {b = b} (there {a = x} {u = y} g p) = step (ok.down x y g) (below_le ok p)
  where
    step : ((y < x) × (0 < y)) ⊎ ((y ≡ x) × (x < 2)) → (y ≡ 0) ⊎ (b ≤ y) → (x ≡ 0) ⊎ (b ≤ x)
    step (inl z) (inl w) = absurd (omega arith)
    step (inl z) (inr w) = inr (omega arith)
    step (inr z) (inl w) = inl (omega arith)
    step (inr z) (inr w) = inr (omega arith)

pub below_zero : {up : List ℕ} → Proper up → {a : ℕ} → Below up a 0 → a ≡ 0
below_zero ok p = at ok p refl
  where
    at : {up : List ℕ} → Proper up → {a b : ℕ} → Below up a b → b ≡ 0 → a ≡ 0
    at ok bot e = refl
    at ok here e = e
    at ok (there {a = x} {u = y} g p) e = step (ok.down x y g) (at ok p e)
      where
        step : ((y < x) × (0 < y)) ⊎ ((y ≡ x) × (x < 2)) → y ≡ 0 → x ≡ 0
        step (inl z) w = absurd (omega arith)
        step (inr z) w = omega arith

pub below_antisym : {up : List ℕ} → Proper up → {a b : ℕ} → Below up a b → Below up b a → a ≡ b
below_antisym {up} ok {a} {b} p q = at (below_le ok p) (below_le ok q)
  where
    at : (a ≡ 0) ⊎ (b ≤ a) → (b ≡ 0) ⊎ (a ≤ b) → a ≡ b
    at (inl z) w = z ∙ sym (below_zero ok (subst (λ t. Below up b t) z q))
    at (inr z) (inl w) = below_zero ok (subst (λ t. Below up a t) w p) ∙ sym w
    at (inr z) (inr w) = omega arith

-- a new last entry
pub proper_snoc : {up : List ℕ} → Proper up → {j : ℕ} → 0 < j → j < length up → Proper (up ++ (j ∷ []))
proper_snoc {up} ok {j} h k = record { down = λ a u e. at a u (get_elem?_snoc up j a u e) }
  where
    at : (a u : ℕ) → (get_elem? up a ≡ some u) ⊎ ((a ≡ length up) × (j ≡ u)) → ((u < a) × (0 < u)) ⊎ ((u ≡ a) × (a < 2))
    at a u (inl e) = ok.down a u e
    at a u (inr e) = inl (omega arith, omega arith)
