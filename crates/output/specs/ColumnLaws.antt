-- The sheet's columns, byte by byte: a line has fourteen bytes, each of them said apart from the words that it is put together of. So lines of equal bytes say the same, and so do equal sheets.
use Rattle.std.specs.Prelude.{ℕ, ◌+◌, ◌/◌, ◌%◌, ◌<◌, cond, List, [], ◌∷◌, ltb}
use Rattle.output.specs.Sheet.{Row}

-- the digit of n at the place of p (1, 10, 100), or a space where n has none there
unfoldable pub column : ℕ → ℕ → ℕ
column p n = cond (ltb n p) 0x20 (48 + n / p % 10)

-- the last column always has a digit
unfoldable pub last : ℕ → ℕ
last n = 48 + n % 10

-- what its columns have room for
pub record Fits (r : Row) : Type 0 where
  pub name : r.name < 100
  pub upper : r.upper < 100
  pub cells : r.cells < 1000

-- the fourteen bytes of a line: columns 1 to 13, and 0A
unfoldable pub columns : Row → List ℕ
columns r =
    column 10 r.name ∷ last r.name ∷ 0x20
    ∷ column 10 r.upper ∷ last r.upper ∷ 0x20
    ∷ cond r.used 0x79 0x6E ∷ cond r.used 0x65 0x6F ∷ cond r.used 0x73 0x20 ∷ 0x20
    ∷ column 100 r.cells ∷ column 10 r.cells ∷ last r.cells ∷ 0x0A ∷ []

-- every line of a list fits
pub data AllFit : List Row → Type 0 where
  fit_nil : AllFit []
  fit_cons : {r : Row} {rs : List Row} → Fits r → AllFit rs → AllFit (r ∷ rs)
