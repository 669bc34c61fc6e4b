-- Laws of effects, each from that of sets of names (`NameSetLaws`): what their names are, their order, and what each operation does to both. In each, `up` is the list of upper
-- numbers of the names.
use Rattle.std.specs.Prelude.{◌≡◌, refl, ℕ, ◌≤◌, ◌<◌, true, false, ◌≢◌, ◌⊎◌}
use Rattle.std.proofs.Common.{ap, inl, inr, eqb-true, eq-eqb}
use mathlib.Core.List.{List, [], ◌∷◌, Memᴰ}
use Rattle.std.proofs.Math.Option.{some}
use Rattle.std.proofs.Math.ListN.{get_elem?}
use Rattle.std.specs.Int.Bits.{or_zero_l, or_zero_r}
use Rattle.order.specs.Order.{Below, below}
use Rattle.order.specs.OrderLaws.{Proper}
use Rattle.order.specs.Effects.{Effect, of_word, pure, same_effect, names, touch, of_names, join, EffBelow, eff_below, reduced, reduce, drop, raise}
use Rattle.order.proofs.NameSetLaws as sets
use Rattle.order.specs.EffectLaws.{Within}

-- Equality

pub same_effect_lem : (s t : Effect) → same_effect s t ≡ true → s ≡ t
same_effect_lem s t e = ap of_word (eqb-true s.set t.set e)

pub effect_same : (s : Effect) → same_effect s s ≡ true
effect_same s = eq-eqb s.set s.set refl

-- Names

pub name_not_zero : (s : Effect) {n : ℕ} → Memᴰ n (names s) → n ≢ 0
unfolding names
name_not_zero s m = (sets.name_mem s.set m).1

pub pure_name : {n : ℕ} → Memᴰ n (names pure) → ⊥
unfolding names
pure_name m = sets.pure_name m

pub touch_name : (q : ℕ) (s : Effect) → q ≢ 0 → Memᴰ q (names (touch q s))
unfolding names touch
touch_name q s h = sets.touch_name q s.set h

pub touch_old : (q : ℕ) (s : Effect) {n : ℕ} → Memᴰ n (names s) → Memᴰ n (names (touch q s))
unfolding names touch
touch_old q s m = sets.touch_old q s.set m

pub touch_cases : (q : ℕ) (s : Effect) {n : ℕ} → Memᴰ n (names (touch q s)) → (n ≡ q) ⊎ Memᴰ n (names s)
unfolding names touch
touch_cases q s m = sets.touch_cases q s.set m

pub of_names_lem : (l : List ℕ) {n : ℕ} → Memᴰ n (names (of_names l)) → Memᴰ n l
unfolding of_names
of_names_lem [] m = absurd (pure_name m)
of_names_lem (k ∷ l) {n} m = at (touch_cases k (of_names l) m) (λ h. of_names_lem l h)
  where
    at : (n ≡ k) ⊎ Memᴰ n (names (of_names l)) → (Memᴰ n (names (of_names l)) → Memᴰ n l) → Memᴰ n (k ∷ l)
    at (inl e) f = Memᴰ.head e
    at (inr h) f = Memᴰ.tail (f h)

pub join_left : (s t : Effect) {n : ℕ} → Memᴰ n (names s) → Memᴰ n (names (join s t))
unfolding names join
join_left s t m = sets.join_left s.set t.set m

pub join_right : (s t : Effect) {n : ℕ} → Memᴰ n (names t) → Memᴰ n (names (join s t))
unfolding names join
join_right s t m = sets.join_right s.set t.set m

pub join_cases : (s t : Effect) {n : ℕ} → Memᴰ n (names (join s t)) → Memᴰ n (names s) ⊎ Memᴰ n (names t)
unfolding names join
join_cases s t m = sets.join_cases s.set t.set m

pub reduce_in : (up : List ℕ) (s : Effect) {n : ℕ} → Memᴰ n (names (reduce up s)) → Memᴰ n (names s)
unfolding names reduce
reduce_in up s m = sets.reduce_in up s.set m

pub drop_in : (up : List ℕ) (r : ℕ) (s : Effect) {n : ℕ} → Memᴰ n (names (drop up r s)) → Memᴰ n (names s) × (below up n r ≡ false)
unfolding names drop
drop_in up r s m = sets.drop_in up r s.set m

pub drop_or : (up : List ℕ) (r : ℕ) (s : Effect) {n : ℕ} → Memᴰ n (names s) → Memᴰ n (names (drop up r s)) ⊎ Below up n r
unfolding names drop
drop_or up r s m = sets.drop_or up r s.set m

pub raise_off : (r u : ℕ) (s : Effect) {n : ℕ} → Memᴰ n (names s) → n ≢ r → Memᴰ n (names (raise r u s))
unfolding names raise
raise_off r u s m h = sets.raise_off r u s.set m h

pub raise_on : (r u : ℕ) (s : Effect) → Memᴰ r (names s) → u ≢ 0 → Memᴰ u (names (raise r u s))
unfolding names raise
raise_on r u s m h = sets.raise_on r u s.set m h

pub raise_cases : (r u : ℕ) (s : Effect) {n : ℕ} → Memᴰ n (names (raise r u s)) → (Memᴰ n (names s) × (n ≢ r)) ⊎ (Memᴰ r (names s) × (n ≡ u))
unfolding names raise
raise_cases r u s m = sets.raise_cases r u s.set m

pub join_pure : (s : Effect) → join s pure ≡ s
unfolding join
join_pure s = ap of_word (or_zero_r s.set)

pub pure_join : (s : Effect) → join pure s ≡ s
unfolding join
pure_join s = ap of_word (or_zero_l s.set)

pub join_swap : (s t u : Effect) → join (join s t) u ≡ join t (join s u)
unfolding join
join_swap s t u = ap of_word (sets.join_swap s.set t.set u.set)

-- a touch before a join or after it
pub touch_join : (q : ℕ) (s t : Effect) → join (touch q s) t ≡ touch q (join s t)
unfolding touch join
touch_join q s t = ap of_word (sets.touch_join q s.set t.set)

pub join_touch : (q : ℕ) (s t : Effect) → join s (touch q t) ≡ touch q (join s t)
unfolding touch join
join_touch q s t = ap of_word (sets.join_touch q s.set t.set)

-- The order

-- each name is below some name of the other
pub eff_each : {up : List ℕ} {s t : Effect} → EffBelow up s t → (n : ℕ) → Memᴰ n (names s) → (m : ℕ) × Memᴰ m (names t) × Below up n m
unfolding names
eff_each p n m = p.sets.each n m

pub eff_refl : {up : List ℕ} {s : Effect} → EffBelow up s s
eff_refl = record { sets = sets.eff_refl }

pub eff_trans : {up : List ℕ} {s t u : Effect} → EffBelow up s t → EffBelow up t u → EffBelow up s u
eff_trans p q = record { sets = sets.eff_trans p.sets q.sets }

pub eff_pure : {up : List ℕ} {t : Effect} → EffBelow up pure t
eff_pure = record { sets = sets.eff_pure }

pub eff_join_mono : {up : List ℕ} {s s' t t' : Effect} → EffBelow up s s' → EffBelow up t t' → EffBelow up (join s t) (join s' t')
unfolding join
eff_join_mono p q = record { sets = sets.eff_join_mono p.sets q.sets }

pub eff_touch_mono : {up : List ℕ} → Proper up → {p q : ℕ} {s t : Effect} → Below up p q → EffBelow up s t → EffBelow up (touch p s) (touch q t)
unfolding touch
eff_touch_mono ok b e = record { sets = sets.eff_touch_mono ok b e.sets }

-- the test
pub eff_below→ : (up : List ℕ) (s t : Effect) → eff_below up s t ≡ true → EffBelow up s t
unfolding eff_below
eff_below→ up s t e = record { sets = sets.eff_below→ up s.set t.set e }

pub →eff_below : {up : List ℕ} → Proper up → {s t : Effect} → EffBelow up s t → eff_below up s t ≡ true
unfolding eff_below
→eff_below ok e = sets.→eff_below ok e.sets

-- Reduce, drop and raise

pub reduce_below : (up : List ℕ) (s : Effect) → EffBelow up (reduce up s) s
unfolding reduce
reduce_below up s = record { sets = sets.reduce_below up s.set }

pub below_reduce : {up : List ℕ} → Proper up → (s : Effect) → EffBelow up s (reduce up s)
unfolding reduce
below_reduce ok s = record { sets = sets.below_reduce ok s.set }

pub pure_reduced : (up : List ℕ) → reduced up pure ≡ true
unfolding reduced
pure_reduced up = sets.none_reduced up

pub reduce_reduced : (up : List ℕ) (s : Effect) → reduced up (reduce up s) ≡ true
unfolding reduced reduce
reduce_reduced up s = sets.reduce_reduced up s.set

-- of the reduced effects of one meaning there is one
pub reduced_unique : {up : List ℕ} → Proper up → {s t : Effect} → reduced up s ≡ true → reduced up t ≡ true → EffBelow up s t → EffBelow up t s → s ≡ t
unfolding reduced
reduced_unique ok rs rt p q = ap of_word (sets.reduced_unique ok rs rt p.sets q.sets)

pub drop_mono : {up : List ℕ} → Proper up → (r : ℕ) {s t : Effect} → EffBelow up s t → EffBelow up (drop up r s) (drop up r t)
unfolding drop
drop_mono ok r p = record { sets = sets.drop_mono ok r p.sets }

pub raise_mono : {up : List ℕ} → Proper up → (r : ℕ) {u : ℕ} → get_elem? up r ≡ some u → {s t : Effect} → EffBelow up s t → EffBelow up (raise r u s) (raise r u t)
unfolding raise
raise_mono ok r g p = record { sets = sets.raise_mono ok r g p.sets }

-- Sizes: an effect of names below k

-- by its names
pub within_names : (k : ℕ) (s : Effect) → 0 < k → ((n : ℕ) → Memᴰ n (names s) → n < k) → Within k s
unfolding names
within_names k s h f = sets.names_lt k s.set h f

pub within_wider : {j k : ℕ} {s : Effect} → Within j s → j ≤ k → Within k s
within_wider h l = sets.lt_wider h l

pub within_pure : (k : ℕ) → Within k pure
within_pure k = sets.none_lt k

pub reduce_within : (k : ℕ) (up : List ℕ) (s : Effect) → Within k s → Within k (reduce up s)
unfolding reduce
reduce_within k up s h = sets.reduce_lt k up s.set h

pub drop_within : (k : ℕ) (up : List ℕ) (r : ℕ) (s : Effect) → Within k s → Within k (drop up r s)
unfolding drop
drop_within k up r s h = sets.drop_lt k up r s.set h

pub join_within : (k : ℕ) (s t : Effect) → Within k s → Within k t → Within k (join s t)
unfolding join
join_within k s t h g = sets.join_lt k s.set t.set h g

pub touch_within : (k q : ℕ) (s : Effect) → q < k → Within k s → Within k (touch q s)
unfolding touch
touch_within k q s h g = sets.touch_lt k q s.set h g

pub raise_within : (k r u : ℕ) (s : Effect) → u < k → Within k s → Within k (raise r u s)
unfolding raise
raise_within k r u s h g = sets.raise_lt k r u s.set h g
