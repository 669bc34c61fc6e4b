-- Tests joined. They are shut until unfolded, so that a proof finds their parts.
use Rattle.std.specs.Prelude.{◌≡◌, refl, Bool, true, false, ◌⊎◌}
use Rattle.std.proofs.lemmas.Bool.{false≢true}
use Rattle.std.proofs.Common.{inl, inr}
use Rattle.order.specs.Bools.{◌and◌, ◌or◌}

pub and_l : (a b : Bool) → (a and b) ≡ true → a ≡ true
unfolding ◌and◌
and_l true b e = refl
and_l false b e = absurd (false≢true e)

pub and_r : (a b : Bool) → (a and b) ≡ true → b ≡ true
unfolding ◌and◌
and_r true b e = e
and_r false b e = absurd (false≢true e)

pub and2 : (a b : Bool) → a ≡ true → b ≡ true → (a and b) ≡ true
unfolding ◌and◌
and2 a b x y = rw (x, y)

pub and3 : (a b c : Bool) → a ≡ true → b ≡ true → c ≡ true → (a and b and c) ≡ true
unfolding ◌and◌
and3 a b c x y z = rw (x, y, z)

pub and4 : (a b c d : Bool) → a ≡ true → b ≡ true → c ≡ true → d ≡ true → (a and b and c and d) ≡ true
unfolding ◌and◌
and4 a b c d x y z w = rw (x, y, z, w)

pub or_cases : (a b : Bool) → (a or b) ≡ true → (a ≡ true) ⊎ (b ≡ true)
unfolding ◌or◌
or_cases true b e = inl refl
or_cases false b e = inr e

pub or_l : (a b : Bool) → a ≡ true → (a or b) ≡ true
unfolding ◌or◌
or_l a b e = rw e

pub or_r : (a b : Bool) → b ≡ true → (a or b) ≡ true
unfolding ◌or◌
or_r true b e = refl
or_r false b e = e
