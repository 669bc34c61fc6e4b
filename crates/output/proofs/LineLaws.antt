-- How long numbers and the line of a refusal are, and that decimal digits are read back.
use Rattle.std.specs.Prelude.{ℕ, zero, suc, ◌+◌, ◌-◌, ◌*◌, ◌^◌, ◌/◌, ◌%◌, ◌<◌, ◌≤◌, ◌≡◌, refl, Bool, true, false, cond, List, [], ◌∷◌, ◌++◌, length, ltb}
use Rattle.std.proofs.Common.{◌∙◌, pow-suc, arith, length-append}
use Rattle.syntax.specs.Reading.{Refusal}
use Rattle.output.specs.Lines.{decimal_in, decimal, hex, space, line, w_refused, w_at, refused_line}
use Rattle.output.specs.LineLaws.{read_from}

pub decimal_length : (f n : ℕ) → length (decimal_in f n) ≤ f
unfolding decimal_in
decimal_length zero n = omega arith
decimal_length (suc f) n = go (ltb n 10) (decimal_length f (n / 10))
  where
    go : (b : Bool) → length (decimal_in f (n / 10)) ≤ f → length (cond b ((48 + n) ∷ []) (decimal_in f (n / 10) ++ ((48 + n % 10) ∷ []))) ≤ suc f
    go true h = omega arith
    go false h = simp length-append (omega arith)

pub hex_length : (k n : ℕ) → length (hex k n) ≡ k
unfolding hex
hex_length zero n = refl
hex_length (suc k) n = simp (length-append, hex_length k (n / 16)) (omega arith)

pub refused_length : (r : Refusal) → length (refused_line r) < 64
unfolding refused_line line space w_refused w_at decimal
refused_length r = simp length-append (omega (arith, decimal_length 20 r.number, decimal_length 20 r.place))

read_append : (v : ℕ) (a b : List ℕ) → read_from v (a ++ b) ≡ read_from (read_from v a) b
unfolding read_from
read_append v [] b = refl
read_append v (d ∷ a) b = read_append (v * 10 + (d - 48)) a b

tenth : (n p : ℕ) → n < p * 10 → n / 10 < p
tenth n p h = omega arith

-- a number below 10 ^ f is read back from f digits
pub decimal_reads : (f n : ℕ) → n < 10 ^ f → read_from 0 (decimal_in f n) ≡ n
unfolding decimal_in read_from
decimal_reads zero n h = omega arith
decimal_reads (suc f) n h = go (ltb n 10) (decimal_reads f (n / 10) (tenth n (10 ^ f) (rw pow-suc at h)))
  where
    go : (b : Bool) → read_from 0 (decimal_in f (n / 10)) ≡ n / 10 → read_from 0 (cond b ((48 + n) ∷ []) (decimal_in f (n / 10) ++ ((48 + n % 10) ∷ []))) ≡ n
    go true e = omega arith
    go false e = read_append 0 (decimal_in f (n / 10)) ((48 + n % 10) ∷ []) ∙ rw e (omega arith)

-- 20 digits hold every number of 64 bits
pub decimal_whole : (n : ℕ) → n < 2 ^ 64 → read_from 0 (decimal n) ≡ n
unfolding decimal
decimal_whole n h = decimal_reads 20 n (omega arith)
