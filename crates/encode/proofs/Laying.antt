-- Bytes laid one after the other.
use mathlib.Core.Path.{◌≡◌, refl, sym, ap, ap₂, ◌∙◌, subst}
use Prim.Native.Nat.{ℕ, suc, ◌+◌, ◌-◌, ◌/◌, ◌%◌, ◌≤◌, ◌<◌}
use native.Mathlib.Omega.{arith}
use mathlib.Core.List.{List, [], ◌∷◌, ◌++◌, append_assoc}
use lib.ListN.{length, set, take, drop, length-append}
use lib.Seq.{sets}
use borrow.Rule.Slice.PartMut.{put_mid}
use Rattle.std.proofs.lemmas.Slice.{put_mid-paste}
use Rattle.std.proofs.lemmas.List.Edits.{paste_all, sets-eq}
use Rattle.std.specs.Int.{to_le_bytes, w16, w32, w64}
use Rattle.syntax.specs.JobBytes.{bytes_of}
use Rattle.syntax.proofs.RowsRead.{bytes_length}
use Rattle.encode.specs.Laid.{most_scratch, Pushed}

sets_append : (l : List ℕ) (at : ℕ) (a b : List ℕ) → sets l at (a ++ b) ≡ sets (sets l at a) (at + length a) b
sets_append l at [] b = let z : at ≡ at + 0 = omega arith in ap (λ (p : ℕ). sets l p b) z
sets_append l at (x ∷ a) b =
    let z : suc at + length a ≡ at + suc (length a) = omega arith in sets_append (set l at x) (suc at) a b ∙ ap (λ (p : ℕ). sets (sets (set l at x) (suc at) a) p b) z

-- one after the other
pub pushed_then : {l m n : List ℕ} {at p r : ℕ} {a b : List ℕ} → Pushed l m at p a → Pushed m n p r b → Pushed l n at r (a ++ b)
pushed_then {l} {m} {n} {at} {p} {r} {a} {b} x y =
    record { reach = omega (arith, x.reach, y.reach, length-append a b); bytes = y.bytes ∙ ap₂ (λ u v. sets u v b) x.bytes x.reach ∙ sym (sets_append l at a b) }

-- nothing
pub pushed_none : (l : List ℕ) (at : ℕ) → Pushed l l at at []
pushed_none l at = record { reach = omega arith; bytes = refl }

-- the room that is left
pub room_after : {l m : List ℕ} {at r : ℕ} {b : List ℕ} (j n : ℕ) → length b ≡ j → Pushed l m at r b → at + (j + n) ≤ most_scratch → r + n ≤ most_scratch
room_after j n e x h = omega (arith, e, x.reach)

-- less room is there too
pub at_most : (at n k : ℕ) → at + (n + k) ≤ most_scratch → at + n ≤ most_scratch
at_most at n k h = omega (arith, h)

pub two_length : (a b : ℕ) → length (bytes_of 2 a ++ bytes_of 2 b) ≡ 4
two_length a b = omega (arith, length-append (bytes_of 2 a) (bytes_of 2 b), bytes_length 2 a, bytes_length 2 b)

pub four_length : (a b c d : ℕ) → length ((bytes_of 2 a ++ bytes_of 2 b) ++ (bytes_of 2 c ++ bytes_of 2 d)) ≡ 8
four_length a b c d = omega (arith, length-append (bytes_of 2 a ++ bytes_of 2 b) (bytes_of 2 c ++ bytes_of 2 d), two_length a b, two_length c d)

-- the same bytes, said otherwise
pub pushed_as : {l m : List ℕ} {at r : ℕ} {a b : List ℕ} → a ≡ b → Pushed l m at r a → Pushed l m at r b
pushed_as {l} {m} {at} {r} e x = subst (Pushed l m at r) e x

-- a copy of b into the part that begins at `at`
pub pushed_copy : (l b new : List ℕ) (at n : ℕ) → n ≡ length b → at + n ≤ length l → new ≡ b → Pushed l (put_mid at (at + n - at) l new) at (at + n) b
pushed_copy l b new at n e h f =
    record {
      reach = omega (arith, e);
      bytes = put_mid-paste at (at + n - at) l new b n f (omega arith) e ∙ paste_all l at b n e ∙ ap (λ (m : ℕ). take at l ++ (b ++ drop (at + m) l)) e ∙ sym (append_assoc (take at l) b (drop (at + length b) l)) ∙ sym (sets-eq b l at (omega (arith, e, h)));
    }

-- the low bytes of a number
pub bytes_one : (x : ℕ) → x < 256 → x ∷ [] ≡ bytes_of 1 x
unfolding bytes_of
bytes_one x h = let z : x ≡ x % 256 = omega arith in ap (λ (y : ℕ). y ∷ []) z

pub bytes_two : (x : ℕ) → to_le_bytes w16 x ≡ bytes_of 2 x
unfolding bytes_of
bytes_two x = refl

pub bytes_four : (x : ℕ) → to_le_bytes w32 x ≡ bytes_of 4 x
unfolding bytes_of
bytes_four x =
    let a : x / 65536 ≡ x / 256 / 256 = omega arith in
    let b : x / 16777216 ≡ x / 256 / 256 / 256 = omega arith in
    cc

pub bytes_eight : (x : ℕ) → to_le_bytes w64 x ≡ bytes_of 8 x
unfolding bytes_of
bytes_eight x =
    let y : ℕ = x / 256 / 256 / 256 in
    let z : ℕ = y / 256 / 256 in
    let a : x / 65536 ≡ x / 256 / 256 = omega arith in
    let b : x / 16777216 ≡ y = omega arith in
    let c : x / 4294967296 ≡ y / 256 = omega (arith, b) in
    let d : x / 1099511627776 ≡ z = omega (arith, b) in
    let e : x / 281474976710656 ≡ z / 256 = omega (arith, d) in
    let f : x / 72057594037927936 ≡ z / 256 / 256 = omega (arith, d) in
    cc

-- a number in two halves
split_two : (n x : ℕ) → bytes_of (suc (suc n)) x ≡ bytes_of 2 x ++ bytes_of n (x / 65536)
unfolding bytes_of
split_two n x = let z : x / 256 / 256 ≡ x / 65536 = omega arith in ap (λ (y : ℕ). x % 256 ∷ x / 256 % 256 ∷ bytes_of n y) z

pub low_two : (x : ℕ) → bytes_of 2 (x % 65536) ≡ bytes_of 2 x
unfolding bytes_of
low_two x =
    let y : ℕ = x / 256 in
    let z : x / 65536 ≡ y / 256 = omega arith in
    let a : x % 65536 % 256 ≡ x % 256 = omega arith in
    let b : x % 65536 / 256 ≡ y % 256 = omega (arith, z) in
    let c : y % 256 % 256 ≡ y % 256 = omega arith in
    ap₂ (λ (u v : ℕ). u ∷ v ∷ []) a (ap (λ (n : ℕ). n % 256) b ∙ c)

pub low_four : (x : ℕ) → bytes_of 4 (x % 4294967296) ≡ bytes_of 4 x
low_four x =
    let r : ℕ = x % 4294967296 in
    let y : ℕ = x / 65536 in
    let z : x / 4294967296 ≡ y / 65536 = omega arith in
    let a : r % 65536 ≡ x % 65536 = omega arith in
    let b : r / 65536 ≡ y % 65536 = omega (arith, z) in
    split_two 2 r ∙ ap₂ (λ u v. u ++ v) (sym (low_two r) ∙ ap (bytes_of 2) a ∙ low_two x) (ap (bytes_of 2) b ∙ low_two y) ∙ sym (split_two 2 x)
