-- 0x41 (F-5 of document 02), said apart from its rule and from the checker's function: its type, which effects its own is below, exactly, and its refusal.
use Rattle.std.specs.Prelude.{◌≡◌, List, ◌↔◌, ◌≢◌, ◌⊎◌}
use Rattle.std.proofs.Math.Path.{refl}
use Prim.Native.Nat.{ℕ}
use Rattle.std.proofs.Common.{inl, inr}
use Rattle.order.specs.OrderLaws.{Proper}
use Rattle.order.specs.Effects.{Effect, touch, join, reduce, EffBelow}
use Rattle.syntax.specs.Types.{Ty, num, pair, cell, fn, lim, grant, by_type, on_num}
use Rattle.syntax.specs.Commands.{c_divide}
use Rattle.syntax.specs.Job.{Src, up_of}
use Rattle.syntax.specs.Tree.{Entry}
use Rattle.typing.specs.Rules.{code_of, Has, h_divide}
use Rattle.typing.specs.Least.{Typed, typed, untyped, with, want_num, type_at}
use Rattle.typing.specs.AccessLaws.{BothTouched}
use Rattle.typing.proofs.AccessLaws.{reduced_same, both_exactly}
use Rattle.typing.specs.DivideLaws.{two_numbers}

-- the rule: of two numbers, the pair, and an effect that is below those that have what it asks for, and no others; "Both numbers are touched."
pub divide_rule : (S : Src) {Γ : List Entry} {e a b p q : ℕ} {s t : Effect} → code_of S e ≡ c_divide a b → Has S Γ a (num p) s → Has S Γ b (num q) t
    → (w : Effect) × Has S Γ e two_numbers w × ((v : Effect) → EffBelow (up_of S) w v ↔ BothTouched (up_of S) p q s t v)
divide_rule S {p = p} {q = q} {s = s} {t = t} k x y = (touch p (touch q (join s t)), h_divide k x y, λ v. both_exactly p q s t v)

-- the checker's function, when the operands' types and effects are known
module _ (S : Src) (tab : ℕ → Typed) {a b : ℕ} {A B : Ty} {s t : Effect} (ha : tab a ≡ typed A s) (hb : tab b ≡ typed B t) where
  -- 11 where either is no number
  pub divide_11 : ((q : ℕ) → A ≢ num q) ⊎ ((q : ℕ) → B ≢ num q) → type_at S tab (c_divide a b) ≡ untyped 11
  unfolding type_at with want_num on_num by_type
  divide_11 h = rw (ha, hb) (at A B _ h)
    where
      second : (B : Ty) (f : ℕ → Typed) → ((q : ℕ) → B ≢ num q) → on_num B f (untyped 11) ≡ untyped 11
      second (num q) f h = absurd (h q refl)
      second (pair q A B) f h = refl
      second (cell q A) f h = refl
      second (fn q A B s) f h = refl
      second (lim q r) f h = refl
      second (grant q r) f h = refl

      at : (A B : Ty) (f : ℕ → ℕ → Typed) → ((q : ℕ) → A ≢ num q) ⊎ ((q : ℕ) → B ≢ num q) → on_num A (λ p. on_num B (f p) (untyped 11)) (untyped 11) ≡ untyped 11
      at (num q) B f (inl h) = absurd (h q refl)
      at (num q) B f (inr h) = second B (f q) h
      at (pair q C D) B f h = refl
      at (cell q C) B f h = refl
      at (fn q C D s) B f h = refl
      at (lim q r) B f h = refl
      at (grant q r) B f h = refl

  -- else the pair, and an effect that is below those that have what it asks for, and no others
  pub divide_typed : {p q : ℕ} → Proper (up_of S) → A ≡ num p → B ≡ num q
      → (w : Effect) × (type_at S tab (c_divide a b) ≡ typed two_numbers w) × ((v : Effect) → EffBelow (up_of S) w v ↔ BothTouched (up_of S) p q s t v)
  unfolding type_at with want_num on_num by_type
  divide_typed {p} {q} ok e g = (reduce (up_of S) (touch p (touch q (join s t))), rw (ha, hb, e, g), λ v. reduced_same ok _ v (both_exactly p q s t v))
