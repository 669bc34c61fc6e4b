-- The sheet of a job: its text, and what is told of it in numbers.
use Rattle.std.specs.Prelude.{◌≡◌, ℕ, List, [], ◌∷◌}
use Rattle.calls.specs.Words.{over}
use Rattle.wall.specs.declared.Listing.{Listing}
use Rattle.wall.specs.Listed.{SheetTo}

-- the answer r to `bytes` with the lent text t, which is t' afterwards; o and o' are what is told, before and after: how many bytes the text has, and the place of a refusal
pub record Sheets (bytes : List ℕ) (r : ℕ) (t t' o o' : List ℕ) : Type 0 where
  pub told : Listing
  pub to : SheetTo bytes told t t'
  pub number : r ≡ told.number
  pub out : o' ≡ over o (told.len ∷ told.place ∷ [])
