-- A type is in scope exactly when each of its names is; what is in scope stays so in a wider context; effects that are put together of names in scope are in scope.
use Rattle.std.specs.Prelude.{◌≡◌, refl, ℕ, ◌<◌, Bool, true, false, cond, ◌≢◌, ◌⊎◌, ltb}
use Rattle.std.proofs.Math.Path.{subst⁻¹}
use Rattle.std.proofs.Common.{arith, inl, inr, lt-ltb}
use mathlib.Core.List.Memᴰ
use mathlib.Core.List.{List, [], ◌∷◌, ◌++◌, Memᴰ}
use Rattle.order.specs.Effects.{Effect, pure, names, touch, join, drop, raise, reduce}
use Rattle.order.proofs.EffectLaws.{pure_name, touch_cases, join_cases, reduce_in, drop_in, raise_cases}
use Rattle.syntax.specs.Types.{Ty, num, pair, cell, fn, lim, grant, key_of, rekey, names_in}
use Rattle.syntax.specs.Tree.{Entry, e_var, e_name, names_of, mem_b, name_in}
use Rattle.syntax.proofs.Scope.{→mem_b, name_in_cases}
use Rattle.syntax.specs.WellScoped.{ScopedName, n_low, n_bound, ScopedEffect, ScopedType, w_num, w_pair, w_cell, w_fn, w_lim, w_grant}

module _ {Γ : List Entry} where
  pub zero_scoped : ScopedName Γ 0
  zero_scoped = n_low (omega arith)

  pub one_scoped : ScopedName Γ 1
  one_scoped = n_low (omega arith)

  pub same_name : {m n : ℕ} → n ≡ m → ScopedName Γ m → ScopedName Γ n
  same_name e k = subst⁻¹ (λ (x : ℕ). ScopedName Γ x) e k

  head_name : {q n : ℕ} {l : List ℕ} → ScopedName Γ q → (Memᴰ n l → ScopedName Γ n) → Memᴰ n (q ∷ l) → ScopedName Γ n
  head_name k f (Memᴰ.head e) = same_name e k
  head_name k f (Memᴰ.tail m) = f m

  either : {n : ℕ} {l m : List ℕ} → (Memᴰ n l → ScopedName Γ n) → (Memᴰ n m → ScopedName Γ n) → Memᴰ n l ⊎ Memᴰ n m → ScopedName Γ n
  either f g (inl w) = f w
  either f g (inr w) = g w

  no_name : {n : ℕ} → Memᴰ n [] → ScopedName Γ n
  no_name m = absurd (Memᴰ.not-nil m)

  -- the names of a type in scope are
  pub type_names_lem : {T : Ty} → ScopedType Γ T → (n : ℕ) → Memᴰ n (names_in T) → ScopedName Γ n
  unfolding names_in
  type_names_lem (w_num q) n m = head_name q no_name m
  type_names_lem (w_pair {A = A} q a b) n m = head_name q (λ w. either (type_names_lem a n) (type_names_lem b n) (Memᴰ.append_cases (names_in A) w)) m
  type_names_lem (w_cell q a) n m = head_name q (type_names_lem a n) m
  type_names_lem (w_fn {A = A} {B = B} q a b s) n m =
      head_name q (λ w. either (type_names_lem a n) (λ v. either (type_names_lem b n) (s.each n) (Memᴰ.append_cases (names_in B) v)) (Memᴰ.append_cases (names_in A) w)) m
  type_names_lem (w_lim q r) n m = head_name q (head_name r no_name) m
  type_names_lem (w_grant q r) n m = head_name q (head_name r no_name) m

  -- and the other way round
  pub names_type : (T : Ty) → ((n : ℕ) → Memᴰ n (names_in T) → ScopedName Γ n) → ScopedType Γ T
  unfolding names_in
  names_type (num q) f = w_num (f q (Memᴰ.head refl))
  names_type (pair q A B) f =
      w_pair (f q (Memᴰ.head refl)) (names_type A (λ n m. f n (Memᴰ.tail (Memᴰ.append_left (names_in B) m)))) (names_type B (λ n m. f n (Memᴰ.tail (Memᴰ.append_right (names_in A) m))))
  names_type (cell q A) f = w_cell (f q (Memᴰ.head refl)) (names_type A (λ n m. f n (Memᴰ.tail m)))
  names_type (fn q A B s) f =
      w_fn (f q (Memᴰ.head refl)) (names_type A (λ n m. f n (Memᴰ.tail (Memᴰ.append_left (names_in B ++ names s) m))))
      (names_type B (λ n m. f n (Memᴰ.tail (Memᴰ.append_right (names_in A) (Memᴰ.append_left (names s) m)))))
      (record { each = λ n m. f n (Memᴰ.tail (Memᴰ.append_right (names_in A) (Memᴰ.append_right (names_in B) m))) })
  names_type (lim q r) f = w_lim (f q (Memᴰ.head refl)) (f r (Memᴰ.tail (Memᴰ.head refl)))
  names_type (grant q r) f = w_grant (f q (Memᴰ.head refl)) (f r (Memᴰ.tail (Memᴰ.head refl)))

  -- a type's key, and a type with another key
  pub key_scoped : {T : Ty} → ScopedType Γ T → ScopedName Γ (key_of T)
  unfolding key_of
  key_scoped (w_num q) = q
  key_scoped (w_pair q a b) = q
  key_scoped (w_cell q a) = q
  key_scoped (w_fn q a b s) = q
  key_scoped (w_lim q r) = q
  key_scoped (w_grant q r) = q

  pub rekey_scoped : {k : ℕ} {T : Ty} → ScopedName Γ k → ScopedType Γ T → ScopedType Γ (rekey k T)
  unfolding rekey
  rekey_scoped k (w_num q) = w_num k
  rekey_scoped k (w_pair q a b) = w_pair k a b
  rekey_scoped k (w_cell q a) = w_cell k a
  rekey_scoped k (w_fn q a b s) = w_fn k a b s
  rekey_scoped k (w_lim q r) = w_lim k r
  rekey_scoped k (w_grant q r) = w_grant k r

  -- effects
  pub pure_scoped : ScopedEffect Γ pure
  pure_scoped = record { each = λ n m. absurd (pure_name m) }

  pub join_scoped : {s t : Effect} → ScopedEffect Γ s → ScopedEffect Γ t → ScopedEffect Γ (join s t)
  join_scoped {s} {t} p q = record { each = λ n m. either (p.each n) (q.each n) (join_cases s t m) }

  pub touch_scoped : {q : ℕ} {s : Effect} → ScopedName Γ q → ScopedEffect Γ s → ScopedEffect Γ (touch q s)
  touch_scoped {q} {s} k p = record { each = λ n m. at n (touch_cases q s m) }
    where
      at : (n : ℕ) → (n ≡ q) ⊎ Memᴰ n (names s) → ScopedName Γ n
      at n (inl e) = same_name e k
      at n (inr m) = p.each n m

  pub drop_scoped : (up : List ℕ) (r : ℕ) {s : Effect} → ScopedEffect Γ s → ScopedEffect Γ (drop up r s)
  drop_scoped up r {s} p = record { each = λ n m. p.each n (drop_in up r s m).0 }

  pub reduce_scoped : (up : List ℕ) {s : Effect} → ScopedEffect Γ s → ScopedEffect Γ (reduce up s)
  reduce_scoped up {s} p = record { each = λ n m. p.each n (reduce_in up s m) }

  -- what is in scope in the body of 0x3E alone is raised
  pub raise_scoped : (r : ℕ) {u x : ℕ} {T : Ty} {s : Effect} → ScopedName Γ u → ScopedEffect (e_var x T ∷ e_name r ∷ Γ) s → ScopedEffect Γ (raise r u s)
  unfolding names_of
  raise_scoped r {u} {x} {T} {s} k p = record { each = λ n m. at n (raise_cases r u s m) }
    where
      other : {n : ℕ} → n ≢ r → ScopedName (e_var x T ∷ e_name r ∷ Γ) n → ScopedName Γ n
      other h (n_low l) = n_low l
      other h (n_bound (Memᴰ.head e)) = absurd (h e)
      other h (n_bound (Memᴰ.tail m)) = n_bound m

      at : (n : ℕ) → (Memᴰ n (names s) × (n ≢ r)) ⊎ (Memᴰ r (names s) × (n ≡ u)) → ScopedName Γ n
      at n (inl z) = other z.1 (p.each n z.0)
      at n (inr z) = same_name z.1 k

-- the test of a name
pub name_scoped : (Γ : List Entry) (n : ℕ) → name_in Γ n ≡ true → ScopedName Γ n
name_scoped Γ n e = at (name_in_cases Γ n e)
  where
    at : (n < 2) ⊎ Memᴰ n (names_of Γ) → ScopedName Γ n
    at (inl h) = n_low h
    at (inr m) = n_bound m

pub scoped_name : {Γ : List Entry} {n : ℕ} → ScopedName Γ n → name_in Γ n ≡ true
unfolding name_in
scoped_name {Γ} {n} (n_low h) = rw (lt-ltb n 2 h)
scoped_name {Γ} {n} (n_bound m) = at (ltb n 2)
  where
    at : (b : Bool) → cond b true (mem_b n (names_of Γ)) ≡ true
    at true = refl
    at false = →mem_b n (names_of Γ) m

-- a wider context
module _ {Γ Δ : List Entry} (f : (n : ℕ) → Memᴰ n (names_of Γ) → Memᴰ n (names_of Δ)) where
  pub wider_name : {n : ℕ} → ScopedName Γ n → ScopedName Δ n
  wider_name (n_low h) = n_low h
  wider_name {n} (n_bound m) = n_bound (f n m)

  pub wider_effect : {s : Effect} → ScopedEffect Γ s → ScopedEffect Δ s
  wider_effect s = record { each = λ n m. wider_name (s.each n m) }

  pub wider_type : {T : Ty} → ScopedType Γ T → ScopedType Δ T
  wider_type (w_num q) = w_num (wider_name q)
  wider_type (w_pair q a b) = w_pair (wider_name q) (wider_type a) (wider_type b)
  wider_type (w_cell q a) = w_cell (wider_name q) (wider_type a)
  wider_type (w_fn q a b s) = w_fn (wider_name q) (wider_type a) (wider_type b) (wider_effect s)
  wider_type (w_lim q r) = w_lim (wider_name q) (wider_name r)
  wider_type (w_grant q r) = w_grant (wider_name q) (wider_name r)
