-- The lines in a buffer, and those of the bytes that an input has.
use Rattle.std.proofs.Common.{◌≡◌, ℕ, ◌≤◌, Option, Some, None, IfSome, List, ◌++◌, length, take, min, ap, sym, ◌∙◌, subst, arith}
use Rattle.std.proofs.lemmas.List.{take-take, take-append-le, take_min, length-take}
use Rattle.std.specs.Io.KnownBytes.{Appends}
use Rattle.output.specs.Lines.{printed, desk_of, most_bytes}

-- past so many bytes nothing counts
printed-take : (xs : List ℕ) → printed (take most_bytes xs) ≡ printed xs
unfolding printed
printed-take xs = ap desk_of (take-take most_bytes most_bytes xs (omega arith))

pub lines_of : (r w w' : Option (List ℕ)) → IfSome r (λ job. Appends w w' (printed (take most_bytes job))) → IfSome r (λ job. Appends w w' (printed job))
lines_of None w w' h = tt
lines_of (Some xs) w w' h = subst (Appends w w') (printed-take xs) h

-- how many bytes the lines have
pub count_lines : (len n : ℕ) (bytes lines : List ℕ) → take len bytes ≡ lines → n ≡ min len (length bytes) → n ≡ length lines
count_lines len n bytes lines told least = least ∙ sym (length-take len bytes) ∙ ap length told

-- the lines that are put at the start of a buffer
pub put_lines : (len n : ℕ) (bytes new rest lines : List ℕ) → new ≡ bytes → take len bytes ≡ lines → n ≡ min len (length bytes) → take n (new ++ rest) ≡ lines
put_lines len n bytes new rest lines e told least =
    let within : n ≤ length new = rw (e, least) (search (arith)) in
    take-append-le n new rest within ∙ rw (e, least) (take_min len bytes) ∙ told
