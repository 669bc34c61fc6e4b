-- The list of the first n, by number: its length, its elements, and the list after one of them is set or one is added.
use Rattle.std.specs.Prelude.{◌≡◌, Bool, true, false, ◌⊎◌, ltb, length, set}
use Rattle.std.proofs.Math.Path.{refl, sym, ap, ap₂}
use Rattle.std.proofs.Common.{◌∙◌, arith, inl, inr, ltb-true, ltb-false, length-append}
use Prim.Native.Nat.{ℕ, zero, suc, ◌≤◌, ◌<◌}
use mathlib.Core.List.{List, [], ◌∷◌, ◌++◌}
use Rattle.std.proofs.Math.Option.{none, some}
use Rattle.std.proofs.Math.Logic.{⊎_elim}
use Rattle.std.proofs.Math.ListN.{get_elem?}
use Rattle.std.proofs.Math.Seq.{set-append_left, set_at}
use Rattle.order.proofs.OrderLaws.{get_elem?_append, get_elem?_at}
use Rattle.machine.specs.Scheduled.{listed}

less : (b : Bool) (i n : ℕ) → ltb i n ≡ b → i < suc n → (i < n) ⊎ (i ≡ n)
less true i n e h = inl (ltb-true i n e)
less false i n e h = let g : n ≤ i = ltb-false i n e in inr (omega arith)

past : {A : Type 0} (l : List A) (i : ℕ) → length l ≤ i → get_elem? l i ≡ none
past [] i h = refl
past (x ∷ l) zero h = absurd (omega arith)
past (x ∷ l) (suc i) h = past l i (omega arith)

module _ {A : Type 0} where
  pub listed_length : (f : ℕ → A) (n : ℕ) → length (listed f n) ≡ n
  unfolding listed
  listed_length f zero = refl
  listed_length f (suc n) = simp (length-append, listed_length f n) (omega arith)

  pub listed_get : (f : ℕ → A) (n j : ℕ) → j < n → get_elem? (listed f n) j ≡ some (f j)
  unfolding listed
  listed_get f zero j h = absurd (omega arith)
  listed_get f (suc n) j h = ⊎_elim
      (λ l. get_elem?_append (listed f n) (f n ∷ []) j (f j) (listed_get f n j l))
      (λ e. rw e (get_elem?_at (listed f n) (f n) n (sym (listed_length f n))))
      (less (ltb j n) j n refl h)

  pub listed_none : (f : ℕ → A) (n j : ℕ) → n ≤ j → get_elem? (listed f n) j ≡ none
  listed_none f n j h = past (listed f n) j (omega (arith, listed_length f n))

  pub listed_same : (f g : ℕ → A) (n : ℕ) → ((j : ℕ) → j < n → f j ≡ g j) → listed f n ≡ listed g n
  unfolding listed
  listed_same f g zero h = refl
  listed_same f g (suc n) h = ap₂ (λ l x. l ++ (x ∷ [])) (listed_same f g n (λ j l. h j (omega arith))) (h n (omega arith))

  -- one is set
  pub listed_set : (f g : ℕ → A) (n i : ℕ) (x : A) → i < n → g i ≡ x → ((j : ℕ) → (j ≡ i → ⊥) → g j ≡ f j) → set (listed f n) i x ≡ listed g n
  unfolding listed
  listed_set f g zero i x h e o = absurd (omega arith)
  listed_set f g (suc n) i x h e o = ⊎_elim
      (λ l. set-append_left (listed f n) (f n ∷ []) i x (omega (arith, listed_length f n)) ∙ ap₂ (λ l y. l ++ (y ∷ [])) (listed_set f g n i x l e o) (sym (o n (λ z. omega arith))))
      (λ z. set_at (listed f n) (f n) [] x i (listed_length f n ∙ sym z) ∙ ap₂ (λ l y. l ++ (y ∷ [])) (listed_same f g n (λ j l. sym (o j (λ w. omega arith)))) (sym e ∙ ap g z))
      (less (ltb i n) i n refl h)

  -- one is added
  pub listed_snoc : (f g : ℕ → A) (n : ℕ) (x : A) → ((j : ℕ) → j < n → g j ≡ f j) → g n ≡ x → listed f n ++ (x ∷ []) ≡ listed g (suc n)
  unfolding listed
  listed_snoc f g n x h e = ap₂ (λ l y. l ++ (y ∷ [])) (listed_same f g n (λ j l. sym (h j l))) (sym e)
