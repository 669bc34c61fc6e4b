-- What is told of a sheet.
use mathlib.Core.Path.{◌≡◌, ◌∙◌}
use Prim.Native.Nat.{ℕ}
use mathlib.Core.List.{List, [], ◌∷◌}
use Rattle.table.specs.Told.{TwoPut}
use Rattle.calls.specs.Words.{over}
use Rattle.calls.proofs.Laws.{sets_over}
use Rattle.wall.specs.declared.Listing.{Listing}
use Rattle.wall.specs.Listed.{SheetTo}
use Rattle.capi.specs.Sheets.{Sheets}

pub sheet_told : (bytes t t' o o' : List ℕ) (told : Listing) (a b r : ℕ) → SheetTo bytes told t t' → a ≡ told.len → b ≡ told.place → TwoPut o o' 0 a b → r ≡ told.number → Sheets bytes r t t' o o'
sheet_told bytes t t' o o' told a b r s ea eb z n =
    record { told = told; to = s; number = n; out = z.same ∙ sets_over o (a ∷ b ∷ []) ∙ (λ i. over o (ea i ∷ eb i ∷ [])) }
