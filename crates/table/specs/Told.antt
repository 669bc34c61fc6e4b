-- What a caller is told in plain numbers.
use Rattle.std.specs.Prelude.{◌≡◌, ℕ, List, [], ◌∷◌, set}
use Rattle.std.proofs.lemmas.List.Edits.{sets}

-- n is returned, and the word is the first of what is lent; r is the result, o and o' are what is lent, before and after
pub record Tells (n word r : ℕ) (o o' : List ℕ) : Type 0 where
  pub number : r ≡ n
  pub told : o' ≡ set o 0 word

-- two words are written from place `at` on, as far as there are places
pub record TwoPut (before after : List ℕ) (at x y : ℕ) : Type 0 where
  pub same : after ≡ sets before at (x ∷ y ∷ [])
