-- What a text holds after one byte more, and after one list of bytes and then another.
use Prim.Native.Nat.{ℕ, zero, suc, ◌+◌, ◌≤◌, ◌<◌}
use mathlib.Core.Path.{◌≡◌, refl, ap, sym, ◌∙◌}
use mathlib.Core.List.{List, [], ◌∷◌, ◌++◌, append_assoc, append-nil}
use native.Mathlib.Omega.{arith}
use native.Mathlib.Numerals.{add-one}
use lib.ListN.{length, take, get_or, set, length-append, length-take}
use lib.Seq.{take_all, take-suc-set, take-append-le, take-suc, length-take-le}
use Rattle.format.specs.declared.Text.{Text}
use Rattle.format.specs.Text.{text_bytes, text_of, joined}

take_front : (n : ℕ) (a b : List ℕ) → take n (take n a ++ b) ≡ take n (a ++ b)
take_front zero a b = refl
take_front (suc n) [] b = refl
take_front (suc n) (x ∷ a) b = ap (λ (l : List ℕ). x ∷ l) (take_front n a b)

-- what is joined twice is joined by both
pub joined_joined : (a x y : List ℕ) → joined (joined a x) y ≡ joined a (x ++ y)
unfolding joined
joined_joined a x y = take_front text_bytes (a ++ x) y ∙ ap (take text_bytes) (append_assoc a x y)

-- where there is room
pub joined_all : (a x : List ℕ) → length (a ++ x) ≤ text_bytes → joined a x ≡ a ++ x
unfolding joined
joined_all a x h = take_all text_bytes (a ++ x) h

-- a byte that is stored at the end
pub stored : (l : List ℕ) (n b : ℕ) → length l ≡ text_bytes → n < text_bytes → take (n + 1) (set l n b) ≡ joined (take n l) (b ∷ [])
stored l n b e h =
    let g : length (take n l) ≡ n = length-take-le n l (omega arith) in
    let i : length (take n l ++ (b ∷ [])) ≤ text_bytes = simp (length-append, g) (omega arith) in
    rw (add-one, take-suc-set l n b (omega arith)) (sym (joined_all (take n l) (b ∷ []) i))

-- a byte for which there is no room
pub full : (l : List ℕ) (n b : ℕ) → length l ≡ text_bytes → text_bytes ≤ n → take n l ≡ joined (take n l) (b ∷ [])
unfolding joined
full l n b e h =
    let g : take n l ≡ l = take_all n l (omega arith) in
    rw g (sym (take-append-le text_bytes l (b ∷ []) (omega arith) ∙ take_all text_bytes l (omega arith)))

-- no byte more: a text is never longer than 128 bytes
pub text_nil : (t : Text) → length t.bytes ≡ text_bytes → text_of t ≡ joined (text_of t) []
unfolding text_of joined
text_nil t e =
    sym (ap (take text_bytes) (append-nil (take t.len t.bytes)) ∙ take_all text_bytes (take t.len t.bytes) (rw length-take (omega arith)))

-- the next byte of a list
pub next_byte : (u t a s : List ℕ) (i : ℕ) → i < length s → t ≡ joined a (take i s) → u ≡ joined t (get_or s i 0 ∷ []) → u ≡ joined a (take (i + 1) s)
next_byte u t a s i h et eu = simp (eu, et) (joined_joined a (take i s) (get_or s i 0 ∷ []) ∙ rw (add-one, take-suc s i 0))
