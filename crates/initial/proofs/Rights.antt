-- The keys of the names that the rights have, added one after another.
use Prim.Native.Nat.{ℕ, ◌-◌, ◌%◌, ◌^◌, ◌<◌, ◌≤◌}
use mathlib.Core.Path.{◌≡◌, ap, sym, ◌∙◌}
use mathlib.Core.Bool.{Bool, true, cond}
use mathlib.Core.List.{List, map}
use native.Mathlib.Omega.{arith}
use borrow.Author.Tests.{lt-ltb}
use lib.Dec.{ltb}
use lib.Bits.{bit_and, bit_or, or_zero_l, or_zero_r, or_comm}
use Rattle.order.specs.Sets.{members_from, members, set_of}
use Rattle.order.proofs.SetLaws.{or_assoc}
use Rattle.order.specs.Effects.{of_word, names}
use Rattle.names.specs.Ancestors.{lowest, nonzero}
use Rattle.names.proofs.Walk.{members_step, names_members}
use Rattle.store.specs.Meaning.{keys_in}
use Rattle.store.specs.Tables.{capped}
use Rattle.initial.specs.Entries.{Within}
use Rattle.initial.proofs.Jobs.{capped_le}

cap_within : (k n : ℕ) → k < n → n ≤ 128 → ltb k (capped n 128) ≡ true
cap_within k n h l = ap (ltb k) (capped_le n 128 l) ∙ lt-ltb k n h

or_swap : (a b c : ℕ) → bit_or a (bit_or b c) ≡ bit_or (bit_or b a) c
or_swap a b c = sym (or_assoc a b c) ∙ ap (λ x. bit_or x c) (or_comm a b)

module _ (f : ℕ → ℕ) where
  pub no_key : (s : ℕ) → set_of (map f (names (of_word s))) ≡ bit_or (keys_in (record { 0 = 0; 1 = 0 })) (set_of (map f (members (s - s % 2))))
  unfolding keys_in nonzero names
  no_key s = ap (λ (l : List ℕ). set_of (map f l)) (names_members s) ∙ sym (or_zero_l _)

  pub next_key :
      (s n i k nkeys on next : ℕ) → Within f nkeys → 0 < s → s < 2 ^ 64 → n ≡ bit_or on (set_of (map f (members s))) → i ≡ lowest s → k ≡ f i →
      next ≡ cond (ltb k (capped nkeys 128)) (bit_or (2 ^ k) on) on → n ≡ bit_or next (set_of (map f (members (bit_and s (s - 1)))))
  unfolding set_of
  next_key s n i k nkeys on next w h b e ei ek en =
      let l : k < nkeys = omega (arith, w.each i) in
      let x : next ≡ bit_or (2 ^ k) on = en ∙ ap (λ (c : Bool). cond c (bit_or (2 ^ k) on) on) (cap_within k nkeys l w.few) in
      let y : f (lowest s) ≡ k = ap f (sym ei) ∙ sym ek in
      e ∙ ap (λ (m : List ℕ). bit_or on (set_of (map f m))) (members_step s h b)
      ∙ ap (λ (j : ℕ). bit_or on (bit_or (2 ^ j) (set_of (map f (members (bit_and s (s - 1))))))) y
      ∙ or_swap on (2 ^ k) (set_of (map f (members (bit_and s (s - 1)))))
      ∙ ap (λ (j : ℕ). bit_or j (set_of (map f (members (bit_and s (s - 1)))))) (sym x)

  pub last_key : (s n on : ℕ) → s ≤ 0 → n ≡ bit_or on (set_of (map f (members s))) → on ≡ n
  unfolding members members_from set_of
  last_key s n on h e =
      let z : s ≡ 0 = omega arith in
      sym (e ∙ ap (λ (t : ℕ). bit_or on (set_of (map f (members t)))) z ∙ or_zero_r on)
