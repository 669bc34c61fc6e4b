-- The sheet's columns, byte by byte: a line has fourteen bytes, each of them said apart from the words that it is put together of. So lines of equal bytes say the same, and so do equal sheets.
use Rattle.std.specs.Prelude.{ℕ, zero, suc, ◌+◌, ◌*◌, ◌/◌, ◌%◌, ◌<◌, ◌≤◌, ◌≡◌, refl, Bool, true, false, cond, List, [], ◌∷◌, ◌++◌, length, get_or, take, drop, ltb}
use Rattle.std.proofs.Common.{ap, ap₂, sym, ◌∙◌, arith, length-append, lt-ltb, le-ltb, ltb-true, ltb-false}
use Rattle.std.proofs.Math.Option.{some}
use Rattle.std.proofs.Math.ListN.{get_elem?}
use Rattle.std.proofs.Math.Seq.{take-append_seam, drop-append-add}
use Rattle.output.specs.Lines.{decimal_in, decimal, space, line}
use Rattle.output.specs.Sheet.{Row, aligned, w_yes, w_no, row_line, laid, sheet_text}
use Rattle.output.specs.ColumnLaws.{AllFit, Fits, column, columns, fit_cons, fit_nil, last}

one_digit : (f n : ℕ) → n < 10 → decimal_in (suc f) n ≡ (48 + n) ∷ []
unfolding decimal_in
one_digit f n h = simp (lt-ltb n 10 h)

more_digits : (f n : ℕ) → 10 ≤ n → decimal_in (suc f) n ≡ decimal_in f (n / 10) ++ ((48 + n % 10) ∷ [])
unfolding decimal_in
more_digits f n h = simp (le-ltb n 10 h)

digits_1 : (n : ℕ) → n < 10 → decimal n ≡ last n ∷ []
unfolding decimal last
digits_1 n h = let e : n % 10 ≡ n = omega arith in one_digit 19 n h ∙ simp e

digits_2 : (n : ℕ) → 10 ≤ n → n < 100 → decimal n ≡ column 10 n ∷ last n ∷ []
unfolding decimal column last
digits_2 n h k =
    let e : n / 10 % 10 ≡ n / 10 = omega arith in
    more_digits 19 n h ∙ simp (one_digit 18 (n / 10) (omega arith), le-ltb n 10 h, e)

digits_3 : (n : ℕ) → 100 ≤ n → n < 1000 → decimal n ≡ column 100 n ∷ column 10 n ∷ last n ∷ []
unfolding decimal column last
digits_3 n h k =
    let e : n / 100 % 10 ≡ n / 10 / 10 = omega arith in
    more_digits 19 n (omega arith) ∙ simp (more_digits 18 (n / 10) (omega arith), one_digit 17 (n / 10 / 10) (omega arith), le-ltb n 10 (omega arith), le-ltb n 100 h, e)

no_digit : (p n : ℕ) → n < p → column p n ≡ 0x20
unfolding column
no_digit p n h = simp (lt-ltb n p h)

-- "right-aligned" in two columns and in three
pub two_columns : (n : ℕ) → n < 100 → aligned 2 n ≡ column 10 n ∷ last n ∷ []
unfolding aligned
two_columns n h = at (ltb n 10) refl
  where
    at : (b : Bool) → ltb n 10 ≡ b → aligned 2 n ≡ column 10 n ∷ last n ∷ []
    at true e = simp (digits_1 n (ltb-true n 10 e), no_digit 10 n (ltb-true n 10 e))
    at false e = simp (digits_2 n (ltb-false n 10 e) h)

pub three_columns : (n : ℕ) → n < 1000 → aligned 3 n ≡ column 100 n ∷ column 10 n ∷ last n ∷ []
unfolding aligned
three_columns n h = at (ltb n 10) refl (ltb n 100) refl
  where
    at : (b : Bool) → ltb n 10 ≡ b → (c : Bool) → ltb n 100 ≡ c → aligned 3 n ≡ column 100 n ∷ column 10 n ∷ last n ∷ []
    at true e c g = let l = ltb-true n 10 e in simp (digits_1 n l, no_digit 10 n l, no_digit 100 n (omega arith))
    at false e true g = let l = ltb-true n 100 g in simp (digits_2 n (ltb-false n 10 e) l, no_digit 100 n l)
    at false e false g = simp (digits_3 n (ltb-false n 100 g) h)

pub row_columns : (r : Row) → Fits r → row_line r ≡ columns r
unfolding row_line columns line space w_yes w_no
row_columns r f = simp (two_columns r.name f.name, two_columns r.upper f.upper, three_columns r.cells f.cells) (at r.used)
  where
    at : (b : Bool)
        → (column 10 r.name ∷ last r.name ∷ 0x20 ∷ column 10 r.upper ∷ last r.upper ∷ 0x20
        ∷ ((cond b (0x79 ∷ 0x65 ∷ 0x73 ∷ []) (0x6E ∷ 0x6F ∷ 0x20 ∷ []) ++ (0x20 ∷ column 100 r.cells ∷ column 10 r.cells ∷ last r.cells ∷ [])) ++ (0x0A ∷ [])))
        ≡ column 10 r.name ∷ last r.name ∷ 0x20 ∷ column 10 r.upper ∷ last r.upper ∷ 0x20
        ∷ cond b 0x79 0x6E ∷ cond b 0x65 0x6F ∷ cond b 0x73 0x20 ∷ 0x20 ∷ column 100 r.cells ∷ column 10 r.cells ∷ last r.cells ∷ 0x0A ∷ []
    at true = refl
    at false = refl

pub sheet_columns : (rs : List Row) → AllFit rs → sheet_text rs ≡ laid columns rs
unfolding sheet_text laid
sheet_columns [] fit_nil = refl
sheet_columns (r ∷ rs) (fit_cons f fs) = ap₂ (λ (a b : List ℕ). a ++ b) (row_columns r f) (sheet_columns rs fs)

-- fourteen bytes a line
pub columns_length : (rs : List Row) → length (laid columns rs) ≡ 14 * length rs
unfolding laid columns
columns_length [] = refl
columns_length (r ∷ rs) = simp length-append (omega (arith, columns_length rs))

pub sheet_length : (rs : List Row) → AllFit rs → length (sheet_text rs) ≡ 14 * length rs
sheet_length rs f = ap length (sheet_columns rs f) ∙ columns_length rs

laid_at : (rs : List Row) (k : ℕ) (r : Row) → get_elem? rs k ≡ some r → take 14 (drop (14 * k) (laid columns rs)) ≡ columns r
unfolding laid columns
laid_at [] k r e = absurd (let z : ◌≡◌ {A = ℕ} 0 1 = cc in omega arith)
laid_at (q ∷ rs) zero r e = let h : q ≡ r = cc in take-append_seam (columns q) (laid columns rs) ∙ ap columns h
laid_at (q ∷ rs) (suc k) r e =
    let z : 14 * suc k ≡ 14 + 14 * k = omega arith in
    rw z (ap (take 14) (drop-append-add (columns q) (laid columns rs) (14 * k)) ∙ laid_at rs k r e)

-- the bytes of the lines stand in their order: line k, the first being 0, has those from 14 k on
pub line_at : (rs : List Row) → AllFit rs → (k : ℕ) (r : Row) → get_elem? rs k ≡ some r → take 14 (drop (14 * k) (sheet_text rs)) ≡ columns r
line_at rs f k r e = ap (λ (l : List ℕ). take 14 (drop (14 * k) l)) (sheet_columns rs f) ∙ laid_at rs k r e

pub line_length : (r : Row) → Fits r → length (row_line r) ≡ 14
unfolding columns
line_length r f = ap length (row_columns r f)

-- Read back

digit_back : (c d : Bool) (x y : ℕ) → (c ≡ true → x ≡ 0) → (d ≡ true → y ≡ 0) → cond c 0x20 (48 + x) ≡ cond d 0x20 (48 + y) → x ≡ y
digit_back true true x y f g e = f refl ∙ sym (g refl)
digit_back true false x y f g e = absurd (omega arith)
digit_back false true x y f g e = absurd (omega arith)
digit_back false false x y f g e = omega arith

tens_back : (a b : ℕ) → column 10 a ≡ column 10 b → a / 10 % 10 ≡ b / 10 % 10
unfolding column
tens_back a b e = digit_back (ltb a 10) (ltb b 10) (a / 10 % 10) (b / 10 % 10) (low a) (low b) e
  where
    low : (n : ℕ) → ltb n 10 ≡ true → n / 10 % 10 ≡ 0
    low n h = omega (arith, ltb-true n 10 h)

hundreds_back : (a b : ℕ) → column 100 a ≡ column 100 b → a / 100 % 10 ≡ b / 100 % 10
unfolding column
hundreds_back a b e = digit_back (ltb a 100) (ltb b 100) (a / 100 % 10) (b / 100 % 10) (low a) (low b) e
  where
    low : (n : ℕ) → ltb n 100 ≡ true → n / 100 % 10 ≡ 0
    low n h = omega (arith, ltb-true n 100 h)

two_back : (a b : ℕ) → a < 100 → b < 100 → column 10 a ≡ column 10 b → last a ≡ last b → a ≡ b
unfolding last
two_back a b h k e f = omega (arith, tens_back a b e)

three_back : (a b : ℕ) → a < 1000 → b < 1000 → column 100 a ≡ column 100 b → column 10 a ≡ column 10 b → last a ≡ last b → a ≡ b
unfolding last
three_back a b h k e f g =
    let x : a / 10 / 10 ≡ b / 10 / 10 = high a h ∙ hundreds_back a b e ∙ sym (high b k) in
    let y : a / 10 ≡ b / 10 = put (a / 10) (b / 10) x (tens_back a b f) in
    put a b y (omega arith)
  where
    high : (n : ℕ) → n < 1000 → n / 10 / 10 ≡ n / 100 % 10
    high n l = omega arith

    put : (m n : ℕ) → m / 10 ≡ n / 10 → m % 10 ≡ n % 10 → m ≡ n
    put m n p q = omega arith

said_back : (c d : Bool) → ◌≡◌ {A = ℕ} (cond c 0x79 0x6E) (cond d 0x79 0x6E) → c ≡ d
said_back true true e = refl
said_back true false e = absurd (omega arith)
said_back false true e = absurd (omega arith)
said_back false false e = refl

-- a line is what it says
pub same_row : (r q : Row) → r.name ≡ q.name → r.upper ≡ q.upper → r.used ≡ q.used → r.cells ≡ q.cells → r ≡ q
same_row r q a b c d =
    ap₂ (λ (m n : ℕ). record { name = m; upper = n; used = r.used; cells = r.cells }) a b
    ∙ ap₂ (λ (u : Bool) (k : ℕ). record { name = q.name; upper = q.upper; used = u; cells = k }) c d

-- two lines of the same bytes say the same
pub line_says : (r q : Row) → Fits r → Fits q → row_line r ≡ row_line q → r ≡ q
unfolding columns
line_says r q f g e = same_row r q (two_back _ _ f.name g.name (at 0) (at 1)) (two_back _ _ f.upper g.upper (at 3) (at 4)) (said_back _ _ (at 6)) (three_back _ _ f.cells g.cells (at 10) (at 11) (at 12))
  where
    at : (i : ℕ) → get_or (columns r) i 0 ≡ get_or (columns q) i 0
    at i = ap (λ (l : List ℕ). get_or l i 0) (sym (row_columns r f) ∙ e ∙ row_columns q g)

-- two sheets of the same bytes have the same lines
cut : (a b c d : List ℕ) → length a ≡ length b → a ++ c ≡ b ++ d → (a ≡ b) × (c ≡ d)
cut [] [] c d l e = (refl, e)
cut [] (y ∷ b) c d l e = absurd (omega arith)
cut (x ∷ a) [] c d l e = absurd (omega arith)
cut (x ∷ a) (y ∷ b) c d l e =
    let z = cut a b c d (omega arith) cc in
    let w : x ≡ y = cc in
    (ap₂ (λ (n : ℕ) (k : List ℕ). n ∷ k) w z.0, z.1)

pub sheet_says : (rs qs : List Row) → AllFit rs → AllFit qs → sheet_text rs ≡ sheet_text qs → rs ≡ qs
unfolding sheet_text laid
sheet_says [] [] fs gs e = refl
sheet_says [] (q ∷ qs) fs (fit_cons g gs) e = absurd (let z : length (row_line q ++ sheet_text qs) ≡ 0 = ap length (sym e) in omega (arith, length-append (row_line q) (sheet_text qs), line_length q g, z))
sheet_says (r ∷ rs) [] (fit_cons f fs) gs e = absurd (let z : length (row_line r ++ sheet_text rs) ≡ 0 = ap length e in omega (arith, length-append (row_line r) (sheet_text rs), line_length r f, z))
sheet_says (r ∷ rs) (q ∷ qs) (fit_cons f fs) (fit_cons g gs) e =
    let z = cut (row_line r) (row_line q) (sheet_text rs) (sheet_text qs) (line_length r f ∙ sym (line_length q g)) e in
    ap₂ (λ (x : Row) (l : List Row). x ∷ l) (line_says r q f g z.0) (sheet_says rs qs fs gs z.1)
