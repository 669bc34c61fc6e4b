-- Tables filled from the front: a store of the next entry, and what an entry reads.
use mathlib.Core.Path.{◌≡◌, refl, sym, ap, ◌∙◌}
use Prim.Native.Nat.{ℕ, suc, ◌+◌, ◌-◌, ◌≤◌, ◌<◌}
use native.Mathlib.Omega.{arith}
use mathlib.Core.List.{List, [], ◌∷◌, ◌++◌, flat_map, append_assoc, append-nil}
use lib.ListN.{length, get_or, set, replicate}
use Rattle.order.proofs.OrderLaws.{length_snoc}
use Rattle.syntax.specs.Words.{filled}
use Rattle.syntax.proofs.WordLaws.{filled_set}
use Rattle.entry.specs.declared.Form.{Form}
use Rattle.job.specs.After.{five_at}

-- a table with the next entry stored is the table of the longer list
pub stored : (n : ℕ) (l m : List ℕ) (i x : ℕ) {t u : List ℕ} → t ≡ filled n 0 l → u ≡ set t i x → length l < n → i ≡ length l → m ≡ l ++ (x ∷ []) → u ≡ filled n 0 m
stored n l m i x e f h g d = f ∙ ap (λ (v : List ℕ). set v i x) e ∙ filled_set n l i x h g ∙ ap (λ (v : List ℕ). filled n 0 v) (sym d)

pub filled_two : (n : ℕ) → 2 ≤ n → replicate n 0 ≡ filled n 0 (0 ∷ 0 ∷ [])
unfolding filled
filled_two n h = ap (λ (k : ℕ). replicate k 0) (let z : n ≡ suc (suc (n - 2)) = omega arith in z)

-- five entries at once
pub filled_five : (n : ℕ) (l : List ℕ) (i : ℕ) (f : Form) → length l + 5 ≤ n → i ≡ length l
    → five_at (filled n 0 l) i f ≡ filled n 0 (l ++ (f.a ∷ f.b ∷ f.c ∷ f.d ∷ f.e ∷ []))
unfolding five_at
filled_five n l i f h e =
    let l1 = l ++ (f.a ∷ []) in
    let l2 = l1 ++ (f.b ∷ []) in
    let l3 = l2 ++ (f.c ∷ []) in
    let l4 = l3 ++ (f.d ∷ []) in
    let n1 : length l1 ≡ suc (length l) = length_snoc l f.a in
    let n2 : length l2 ≡ suc (length l1) = length_snoc l1 f.b in
    let n3 : length l3 ≡ suc (length l2) = length_snoc l2 f.c in
    let n4 : length l4 ≡ suc (length l3) = length_snoc l3 f.d in
    ap (λ (t : List ℕ). set (set (set (set t (i + 1) f.b) (i + 2) f.c) (i + 3) f.d) (i + 4) f.e) (filled_set n l i f.a (omega arith) e)
    ∙ ap (λ (t : List ℕ). set (set (set t (i + 2) f.c) (i + 3) f.d) (i + 4) f.e) (filled_set n l1 (i + 1) f.b (omega arith) (omega arith))
    ∙ ap (λ (t : List ℕ). set (set t (i + 3) f.d) (i + 4) f.e) (filled_set n l2 (i + 2) f.c (omega arith) (omega arith))
    ∙ ap (λ (t : List ℕ). set t (i + 4) f.e) (filled_set n l3 (i + 3) f.d (omega arith) (omega arith))
    ∙ filled_set n l4 (i + 4) f.e (omega arith) (omega arith)
    ∙ ap (λ (t : List ℕ). filled n 0 t) (simp append_assoc)

pub flat_snoc : {A : Type 0} (f : A → List ℕ) (l : List A) (a : A) → flat_map f (l ++ (a ∷ [])) ≡ flat_map f l ++ f a
unfolding flat_map
flat_snoc f [] a = append-nil (f a)
flat_snoc f (x ∷ l) a = ap (λ (m : List ℕ). f x ++ m) (flat_snoc f l a) ∙ sym (append_assoc (f x) (flat_map f l) (f a))

-- a list of five is its five entries
pub five_entries : (l : List ℕ) → length l ≡ 5 → l ≡ get_or l 0 0 ∷ get_or l 1 0 ∷ get_or l 2 0 ∷ get_or l 3 0 ∷ get_or l 4 0 ∷ []
five_entries [] h = absurd (omega arith)
five_entries (a ∷ []) h = absurd (omega arith)
five_entries (a ∷ b ∷ []) h = absurd (omega arith)
five_entries (a ∷ b ∷ c ∷ []) h = absurd (omega arith)
five_entries (a ∷ b ∷ c ∷ d ∷ []) h = absurd (omega arith)
five_entries (a ∷ b ∷ c ∷ d ∷ e ∷ []) h = refl
five_entries (a ∷ b ∷ c ∷ d ∷ e ∷ x ∷ l) h = absurd (omega arith)
