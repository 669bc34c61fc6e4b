-- The sheet of a job: its text, and what is told of it in numbers.
use Rattle.std.specs.Prelude.{◌≡◌, ℕ, List, [], ◌∷◌}
use Rattle.calls.specs.Words.{over}
use Rattle.capi.specs.Sheets.{Sheets}

-- what is told of a sheet, word by word: its length, the place, and every other word as it was; of fewer words those that there are
pub sheet_words : {bytes t t' : List ℕ} {r a b : ℕ} {l o' : List ℕ} (s : Sheets bytes r t t' (a ∷ b ∷ l) o') → o' ≡ s.told.len ∷ s.told.place ∷ l
unfolding over
sheet_words {l = []} s = s.out
sheet_words {l = c ∷ l} s = s.out

pub sheet_word : {bytes t t' : List ℕ} {r a : ℕ} {o' : List ℕ} (s : Sheets bytes r t t' (a ∷ []) o') → o' ≡ s.told.len ∷ []
unfolding over
sheet_word s = s.out
