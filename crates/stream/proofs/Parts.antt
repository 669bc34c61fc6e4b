-- What several reads or writes, one after another, do to the known bytes.
use Rattle.std.proofs.Common.{◌≡◌, ℕ, ◌+◌, ◌≤◌, List, ◌++◌, length, take, drop, sym, ap, ◌∙◌, subst, arith, length-take-le, length-append}
use mathlib.Core.Path.{ap₂}
use Rattle.std.proofs.Math.Seq.{take-add, take-append_seam, drop-append_seam}
use Rattle.std.proofs.lemmas.List.{take-take, length-take, take-append-le}
use Rattle.std.specs.Prelude.{Option}
use Rattle.std.specs.Io.KnownBytes.{Appends, Consumes}
use Rattle.std.proofs.KnownBytes.{Appends-trans, Consumes-trans}

-- what stands after a read of k bytes into the part that begins at n
read_part : (n k : ℕ) (old part post : List ℕ) → n ≤ length old → k ≤ length part → take (n + k) (take n old ++ (part ++ post)) ≡ take n old ++ take k part
read_part n k old part post within bound =
    let front = take n old in
    let size : length front ≡ n = length-take-le n old within in
    subst (λ (m : ℕ). take (m + k) (front ++ (part ++ post)) ≡ front ++ take k part) size
    (take-add (length front) k (front ++ (part ++ post))
    ∙ ap₂ (λ a b. a ++ b) (take-append_seam front (part ++ post)) (ap (take k) (drop-append_seam front (part ++ post)) ∙ take-append-le k part post bound))

pub read_within : (n k : ℕ) (old part post : List ℕ) → n ≤ length old → k ≤ length part → n + k ≤ length (take n old ++ (part ++ post))
read_within n k old part post within bound = omega (arith, length-append (take n old) (part ++ post), length-append part post, length-take-le n old within)

-- a read of k bytes, after the first n
pub Consumes-more : (a b c : Option (List ℕ)) (n k : ℕ) (old part post : List ℕ) → n ≤ length old → k ≤ length part → Consumes a b (take n old) → Consumes b c (take k part) → Consumes a c (take (n + k) (take n old ++ (part ++ post)))
Consumes-more a b c n k old part post within bound before read = subst (Consumes a c) (sym (read_part n k old part post within bound)) (Consumes-trans a b c _ _ before read)

-- part of the bytes is no longer than it was asked to be
pub taken_within : (k m : ℕ) (bytes : List ℕ) → k ≤ length (take m bytes) → k ≤ m
taken_within k m bytes h = omega (arith, simp length-take at h)

-- a write of k bytes out of m, after the first n
pub Appends-more : (a b c : Option (List ℕ)) (n m k : ℕ) (bytes : List ℕ) → k ≤ m → Appends a b (take n bytes) → Appends b c (take k (take m (drop n bytes))) → Appends a c (take (n + k) bytes)
Appends-more a b c n m k bytes within before more =
    subst (Appends a c) (ap (λ l. take n bytes ++ l) (take-take k m (drop n bytes) within) ∙ sym (take-add n k bytes)) (Appends-trans a b c _ _ before more)
