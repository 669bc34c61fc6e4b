-- The sheet's text, line by line, and what it counts.
use Prim.Native.Nat.{ℕ, suc, ◌+◌, ◌-◌, ◌*◌, ◌/◌, ◌%◌, ◌≤◌, ◌<◌}
use mathlib.Core.Path.{◌≡◌, refl, sym, ap, ap₂, ◌∙◌, subst}
use mathlib.Core.Bool.{Bool, true, false, cond}
use mathlib.Core.List.{List, [], ◌∷◌, ◌++◌, append_assoc, append-nil}
use native.Mathlib.Omega.{arith}
use lib.ListN.{length, get_or, take, drop, length-append, length-take, length-drop}
use lib.Seq.{take_all, length-take-le, drop-length, drop-drop, take-append_seam, drop-append-add}
use lib.Dec.{eqb}
use borrow.Author.Tests.{eq-eqb, ne_eqb}
use Rattle.syntax.specs.Types.{Ty, num, lim, grant, on_cell, by_type}
use Rattle.syntax.specs.Job.{Name, HostValue}
use Rattle.syntax.specs.Reading.{Refusal, most_declared}
use Rattle.table.specs.Copied.{copied}
use Rattle.table.proofs.Copied.{copied_all}
use Rattle.names.specs.Ancestors.{name_of, names_in, eff_below_by, one_of}
use Rattle.names.proofs.Tables.{names_in_length}
use Rattle.initial.specs.Entries.{head_of, host_of, values_from}
use Rattle.output.specs.Lines.{refused_line}
use Rattle.output.proofs.LineLaws.{refused_length}
use Rattle.output.specs.Sheet.{Row, carries, count_of, rows_from, laid}
use Rattle.output.specs.ColumnLaws.{columns}
use Rattle.output.proofs.ColumnLaws.{columns_length}
use Rattle.output.proofs.SheetLaws.{rows_few}
use Rattle.format.specs.declared.Text.{Text}
use Rattle.format.specs.Text.{text_of}
use Rattle.wall.specs.Listed.{sheet_bytes, row_by, Laid, NameLaid}

-- Host cells

pub is_cell_lem : (n w : ℕ) {x k : ℕ} → x ≡ w % 256 → x ≡ 0x12 → k ≡ w / 256 % 256 → eqb k n ≡ carries n (head_of w)
unfolding carries head_of on_cell by_type
is_cell_lem n w e h f = let z : w % 256 ≡ 0x12 = sym e ∙ h in simp (z, f)

no_cell : (n w : ℕ) → (w % 256 ≡ 0x12 → ⊥) → carries n (head_of w) ≡ false
unfolding carries head_of on_cell by_type
no_cell n w h = simp (ne_eqb (w % 256) 0x12 h) (at (eqb (w % 256) 0x14) (eqb (w % 256) 0x15))
  where
    at : (a b : Bool) → carries n (cond a (lim (w / 256 % 256) (w / 65536 % 256)) (cond b (grant (w / 256 % 256) (w / 65536 % 256)) (num 0))) ≡ false
    at true b = refl
    at false true = refl
    at false false = refl

pub not_cell : (n w : ℕ) {x : ℕ} → x ≡ w % 256 → (x ≡ 0x12 → ⊥) → false ≡ carries n (head_of w)
not_cell n w e h = sym (no_cell n w (λ z. h (e ∙ z)))

-- v of m host values are looked at: so many of them count, and those that are left count as they will
pub record Counting (p : Ty → Bool) (types values : List ℕ) (m v count : ℕ) : Type 0 where
  pub same : count + count_of p (values_from types values v (m - v)) ≡ count_of p (values_from types values 0 m)
  pub few : count ≤ v
  pub within : v ≤ m

module _ (p : Ty → Bool) (types values : List ℕ) where
  pub count_first : (m : ℕ) → Counting p types values m 0 0
  count_first m = let z : m - 0 ≡ m = omega arith in record { same = ap (λ (k : ℕ). 0 + count_of p (values_from types values 0 k)) z ∙ omega arith; few = omega arith; within = omega arith }

  left_next : (m v : ℕ) → v < m → count_of p (values_from types values v (m - v)) ≡ cond (p (head_of (get_or types (get_or values v 0 / 256 % 65536) 0))) (suc (count_of p (values_from types values (suc v) (m - suc v)))) (count_of p (values_from types values (suc v) (m - suc v)))
  unfolding count_of values_from host_of
  left_next m v h = let z : m - v ≡ suc (m - suc v) = omega arith in simp z

  -- value v counts, or not; its word is w, and that of its type x
  count_next : (m v count c w x : ℕ) (b : Bool) → Counting p types values m v count → v < m → w ≡ get_or values v 0 → x ≡ get_or types (w / 256 % 65536) 0 → b ≡ p (head_of x) → c ≡ cond b (count + 1) count
      → Counting p types values m (v + 1) c
  count_next m v count c w x b h l ew ex eb ec = at b (eb ∙ ap (λ (y : ℕ). p (head_of y)) (ex ∙ ap (λ (y : ℕ). get_or types (y / 256 % 65536) 0) ew)) ec
    where
      z : v + 1 ≡ suc v
      z = omega arith

      rest : ℕ
      rest = count_of p (values_from types values (suc v) (m - suc v))

      at : (b : Bool) → b ≡ p (head_of (get_or types (get_or values v 0 / 256 % 65536) 0)) → c ≡ cond b (count + 1) count → Counting p types values m (v + 1) c
      at true e f =
          let q : count_of p (values_from types values v (m - v)) ≡ suc rest = left_next m v l ∙ ap (λ (y : Bool). cond y (suc rest) rest) (sym e) in
          record { same = rw z (omega (arith, q, h.same)); few = omega (arith, h.few); within = omega arith }
      at false e f =
          let q : count_of p (values_from types values v (m - v)) ≡ rest = left_next m v l ∙ ap (λ (y : Bool). cond y (suc rest) rest) (sym e) in
          record { same = rw z (omega (arith, q, h.same)); few = omega (arith, h.few); within = omega arith }

  pub count_hit : (m v count c w x : ℕ) (b : Bool) → Counting p types values m v count → v < m → w ≡ get_or values v 0 → x ≡ get_or types (w / 256 % 65536) 0 → b ≡ p (head_of x) → b ≡ true → c ≡ count + 1
      → Counting p types values m (v + 1) c
  count_hit m v count c w x b h l ew ex eb et ec = count_next m v count c w x b h l ew ex eb (rw et ec)

  pub count_miss : (m v count c w x : ℕ) (b : Bool) → Counting p types values m v count → v < m → w ≡ get_or values v 0 → x ≡ get_or types (w / 256 % 65536) 0 → b ≡ p (head_of x) → b ≡ false → c ≡ count
      → Counting p types values m (v + 1) c
  count_miss m v count c w x b h l ew ex eb et ec = count_next m v count c w x b h l ew ex eb (rw et ec)

  pub count_end : (m v count : ℕ) → Counting p types values m v count → m ≤ v → count ≡ count_of p (values_from types values 0 m)
  unfolding count_of values_from
  count_end m v count h l = let z : m - v ≡ 0 = omega arith in let q : count_of p (values_from types values v (m - v)) ≡ 0 = simp z in omega (arith, q, h.same)

-- Lines

-- a line laid over what is lent from `at` on
pub put_at : (at : ℕ) (t b c p : List ℕ) → at + 14 ≤ length t → b ≡ c → length c ≡ 14 → p ≡ copied b (take (length t - at) (drop at t))
    → take at t ++ (p ++ drop (length t - at) (drop at t)) ≡ take at t ++ (c ++ drop (at + 14) t)
put_at at t b c p h e l f = ap (λ (x : List ℕ). take at t ++ x) (ap₂ (λ (x y : List ℕ). x ++ y) (f ∙ whole ∙ inner) past ∙ append-nil (c ++ drop (at + 14) t))
  where
    past : drop (length t - at) (drop at t) ≡ []
    past = let z : at + (length t - at) ≡ length t = omega arith in drop-drop (length t - at) at t ∙ ap (λ (k : ℕ). drop k t) z ∙ drop-length t

    all : take (length t - at) (drop at t) ≡ drop at t
    all = take_all (length t - at) (drop at t) (omega (arith, length-drop at t))

    whole : copied b (take (length t - at) (drop at t)) ≡ b ++ drop (length b) (take (length t - at) (drop at t))
    whole = copied_all b (take (length t - at) (drop at t)) (omega (arith, ap length all, length-drop at t, ap length e))

    inner : b ++ drop (length b) (take (length t - at) (drop at t)) ≡ c ++ drop (at + 14) t
    inner = ap₂ (λ (x y : List ℕ). x ++ drop (length x) y) e all ∙ ap (λ (k : ℕ). c ++ drop k (drop at t)) l ∙ ap (λ (x : List ℕ). c ++ x) (drop-drop 14 at t)

-- one name more
rows_snoc : (f : ℕ → Name → Row) (n : ℕ) (ds : List Name) (d : Name) → rows_from f n (ds ++ (d ∷ [])) ≡ rows_from f n ds ++ cond d.host (f (n + length ds) d ∷ []) []
unfolding rows_from
rows_snoc f n [] d = let z : n + 0 ≡ n = omega arith in rw z refl
rows_snoc f n (c ∷ ds) d = at c.host (rows_snoc f (suc n) ds d)
  where
    z : suc n + length ds ≡ n + suc (length ds)
    z = omega arith

    at : (b : Bool) → rows_from f (suc n) (ds ++ (d ∷ [])) ≡ rows_from f (suc n) ds ++ cond d.host (f (suc n + length ds) d ∷ []) []
        → cond b (f n c ∷ rows_from f (suc n) (ds ++ (d ∷ []))) (rows_from f (suc n) (ds ++ (d ∷ [])))
        ≡ cond b (f n c ∷ rows_from f (suc n) ds) (rows_from f (suc n) ds) ++ cond d.host (f (n + suc (length ds)) d ∷ []) []
    at true e = ap (λ (l : List Row). f n c ∷ l) (e ∙ ap (λ (k : ℕ). rows_from f (suc n) ds ++ cond d.host (f k d ∷ []) []) z)
    at false e = e ∙ ap (λ (k : ℕ). rows_from f (suc n) ds ++ cond d.host (f k d ∷ []) []) z

laid_append : (rs qs : List Row) → laid columns (rs ++ qs) ≡ laid columns rs ++ laid columns qs
unfolding laid
laid_append [] qs = refl
laid_append (r ∷ rs) qs = ap (λ (l : List ℕ). columns r ++ l) (laid_append rs qs) ∙ sym (append_assoc (columns r) (laid columns rs) (laid columns qs))

-- the lines of the first k names
pub lined : (ℕ → Name → Row) → List ℕ → ℕ → List ℕ
lined f names k = laid columns (rows_from f 2 (names_in names k))

lined_next : (f : ℕ → Name → Row) (names : List ℕ) (k : ℕ) → lined f names (suc k) ≡ lined f names k ++ laid columns (cond (name_of (get_or names (2 + k) 0)).host (f (2 + k) (name_of (get_or names (2 + k) 0)) ∷ []) [])
unfolding lined names_in
lined_next f names k =
    ap (laid columns) (rows_snoc f 2 (names_in names k) (name_of (get_or names (2 + k) 0)))
    ∙ laid_append (rows_from f 2 (names_in names k)) _
    ∙ ap (λ (j : ℕ). lined f names k ++ laid columns (cond (name_of (get_or names (2 + k) 0)).host (f (2 + j) (name_of (get_or names (2 + k) 0)) ∷ []) [])) (names_in_length names k)

lined_few : (f : ℕ → Name → Row) (names : List ℕ) (k : ℕ) → length (lined f names k) ≤ 14 * k
unfolding lined
lined_few f names k = omega (arith, columns_length (rows_from f 2 (names_in names k)), rows_few f 2 (names_in names k), names_in_length names k)

-- k of n names are looked at: their lines stand at the start of the text
pub record Lining (f : ℕ → Name → Row) (names text₀ text : List ℕ) (n at k : ℕ) : Type 0 where
  pub lines : Laid (lined f names k) at text₀ text
  pub within : k ≤ n

module _ (f : ℕ → Name → Row) (names t : List ℕ) (n : ℕ) where
  pub lines_first : Lining f names t t n 0 0
  unfolding lined laid rows_from names_in
  lines_first = record { lines = record { reach = refl; text = refl }; within = omega arith }

  -- the text is as long as it was
  pub lines_length : {u : List ℕ} {at k : ℕ} → Lining f names t u n at k → n ≤ most_declared → sheet_bytes ≤ length t → length u ≡ length t
  lines_length {u} {at} {k} h few room =
      ap length h.lines.text ∙ length-append (lined f names k) (drop (length (lined f names k)) t)
      ∙ omega (arith, length-drop (length (lined f names k)) t, lined_few f names k, h.within)

  -- there is room for one more
  pub lines_room : {u : List ℕ} {at k : ℕ} → Lining f names t u n at k → k < n → n ≤ most_declared → sheet_bytes ≤ length t → at + 14 ≤ length u
  lines_room {u} {at} {k} h l few room = omega (arith, h.lines.reach, lined_few f names k, lines_length h few room)

  -- a host name has a line
  lines_host : (u v : List ℕ) (at k w : ℕ) (r : Row) → Lining f names t u n at k → k < n → w ≡ get_or names (k + 2) 0 → (name_of w).host ≡ true → r ≡ f (k + 2) (name_of w)
      → v ≡ take at u ++ (columns r ++ drop (at + 14) u) → Lining f names t v n (at + 14) (k + 1)
  unfolding laid columns
  lines_host u v at k w r h l ew is_host er ev = rw z (record { lines = record { reach = reach; text = text }; within = omega arith })
    where
      z : k + 1 ≡ suc k
      z = omega arith

      y : k + 2 ≡ 2 + k
      y = omega arith

      done : List ℕ
      done = lined f names k

      w_is : w ≡ get_or names (2 + k) 0
      w_is = ew ∙ ap (λ (j : ℕ). get_or names j 0) y

      next : lined f names (suc k) ≡ done ++ columns r
      next =
          lined_next f names k
          ∙ ap (λ (x : ℕ). done ++ laid columns (cond (name_of x).host (f (2 + k) (name_of x) ∷ []) [])) (sym w_is)
          ∙ ap (λ (b : Bool). done ++ laid columns (cond b (f (2 + k) (name_of w) ∷ []) [])) is_host
          ∙ ap (λ (x : List ℕ). done ++ x) (append-nil (columns (f (2 + k) (name_of w))))
          ∙ ap (λ (j : ℕ). done ++ columns (f j (name_of w))) (sym y)
          ∙ ap (λ (x : Row). done ++ columns x) (sym er)

      wide : length (columns r) ≡ 14
      wide = refl

      reach : at + 14 ≡ length (lined f names (suc k))
      reach = omega (arith, h.lines.reach, ap length next, length-append done (columns r), wide)

      text : v ≡ lined f names (suc k) ++ drop (length (lined f names (suc k))) t
      text =
          ev
          ∙ ap₂ (λ (x y : List ℕ). x ++ (columns r ++ y)) front rest
          ∙ sym (append_assoc done (columns r) (drop (at + 14) t))
          ∙ ap₂ (λ (x : List ℕ) (j : ℕ). x ++ drop j t) (sym next) reach
        where
          front : take at u ≡ done
          front = ap₂ take h.lines.reach h.lines.text ∙ take-append_seam done (drop (length done) t)

          rest : drop (at + 14) u ≡ drop (at + 14) t
          rest =
              ap₂ (λ (j : ℕ) (x : List ℕ). drop (j + 14) x) h.lines.reach h.lines.text
              ∙ drop-append-add done (drop (length done) t) 14
              ∙ drop-drop 14 (length done) t
              ∙ ap (λ (j : ℕ). drop (j + 14) t) (sym h.lines.reach)

  -- another has none
  lines_local : (u : List ℕ) (at k w : ℕ) → Lining f names t u n at k → k < n → w ≡ get_or names (k + 2) 0 → (name_of w).host ≡ false → Lining f names t u n at (k + 1)
  unfolding laid
  lines_local u at k w h l ew local = rw z (record { lines = record { reach = h.lines.reach ∙ ap length (sym next); text = h.lines.text ∙ ap (λ (x : List ℕ). x ++ drop (length x) t) (sym next) }; within = omega arith })
    where
      z : k + 1 ≡ suc k
      z = omega arith

      y : k + 2 ≡ 2 + k
      y = omega arith

      done : List ℕ
      done = lined f names k

      no_host : (name_of (get_or names (2 + k) 0)).host ≡ false
      no_host = ap (λ (j : ℕ). (name_of (get_or names j 0)).host) (sym y) ∙ ap (λ (x : ℕ). (name_of x).host) (sym ew) ∙ local

      next : lined f names (suc k) ≡ done
      next = lined_next f names k ∙ ap (λ (b : Bool). done ++ laid columns (cond b (f (2 + k) (name_of (get_or names (2 + k) 0)) ∷ []) [])) no_host ∙ append-nil done

  -- one name more
  pub lines_next : (u v : List ℕ) (at r k w : ℕ) → Lining f names t u n at k → k < n → w ≡ get_or names (k + 2) 0 → NameLaid (f (k + 2) (name_of w)) (name_of w).host at r u v → Lining f names t v n r (k + 1)
  lines_next u v at r k w h l ew x = by (name_of w).host refl x.reach x.text
    where
      by : (b : Bool) → (name_of w).host ≡ b → r ≡ cond b (at + 14) at → v ≡ cond b (take at u ++ (columns (f (k + 2) (name_of w)) ++ drop (at + 14) u)) u → Lining f names t v n r (k + 1)
      by true e er ev = rw er (lines_host u v at k w (f (k + 2) (name_of w)) h l ew e refl ev)
      by false e er ev = rw (er, ev) (lines_local u at k w h l ew e)

  -- the lines of all names
  lines_end : {u : List ℕ} {at k : ℕ} → Lining f names t u n at k → n ≤ k → Laid (laid columns (rows_from f 2 (names_in names n))) at t u
  unfolding lined
  lines_end {u} {at} {k} h l = let z : n ≡ k = omega (arith, h.within) in rw z h.lines

-- by the table of ancestors that there is
pub lines_all : (vs : List (HostValue Ty)) (s : ℕ) (names t u : List ℕ) (n at k : ℕ) (anc anc' : List ℕ) → anc ≡ anc' → Lining (row_by anc vs s) names t u n at k → n ≤ k
    → Laid (laid columns (rows_from (row_by anc' vs s) 2 (names_in names n))) at t u
lines_all vs s names t u n at k anc anc' e h l = subst (λ (x : List ℕ). Laid (laid columns (rows_from (row_by x vs s) 2 (names_in names n))) at t u) e (lines_end (row_by anc vs s) names t n h l)

-- the line of a name by its word
pub name_laid : (anc : List ℕ) (vs : List (HostValue Ty)) (s n w at one count : ℕ) (used : Bool) (t u : List ℕ) → w / 256 ≡ 1 → one ≡ one_of n → used ≡ eff_below_by anc one s → count ≡ count_of (carries n) vs
    → u ≡ take at t ++ (columns (record { name = n; upper = w % 256; used = used; cells = count }) ++ drop (at + 14) t) → NameLaid (row_by anc vs s n (name_of w)) (name_of w).host at (at + 14) t u
unfolding name_of row_by
name_laid anc vs s n w at one count used t u h eo eu ec e = record { reach = simp (eq-eqb (w / 256) 1 h); text = simp (eq-eqb (w / 256) 1 h) (e ∙ ap₂ (λ (b : Bool) (k : ℕ). take at t ++ (columns (record { name = n; upper = w % 256; used = b; cells = k }) ++ drop (at + 14) t)) (eu ∙ ap (λ (o : ℕ). eff_below_by anc o s) eo) ec) }

pub name_unlaid : (r : Row) (w at : ℕ) (t : List ℕ) → (w / 256 ≡ 1 → ⊥) → NameLaid r (name_of w).host at at t t
unfolding name_of
name_unlaid r w at t h = record { reach = simp (ne_eqb (w / 256) 1 h); text = simp (ne_eqb (w / 256) 1 h) }

pub laid_as : {a b : List ℕ} {r : ℕ} {t u : List ℕ} → a ≡ b → Laid a r t u → Laid b r t u
laid_as {r = r} {t = t} {u = u} e h = subst (λ (l : List ℕ). Laid l r t u) e h

-- A refused job's line

-- a text that holds a line is no longer than its room
pub text_short : (said : Text) (q : Refusal) → length said.bytes ≡ 128 → text_of said ≡ refused_line q → said.len ≤ length said.bytes
unfolding text_of
text_short said q room e = omega (arith, length-take said.len said.bytes, ap length e, refused_length q)

text_room : (said : Text) (q : Refusal) (t : List ℕ) → length said.bytes ≡ 128 → text_of said ≡ refused_line q → sheet_bytes ≤ length t → length (take said.len said.bytes) ≤ length t
unfolding text_of
text_room said q t room e h = omega (arith, ap length e, refused_length q)

pub text_laid : (said : Text) (n p k : ℕ) (t u : List ℕ) → length said.bytes ≡ 128 → k ≡ p → text_of said ≡ refused_line (record { number = n; place = k }) → sheet_bytes ≤ length t → u ≡ copied (take said.len said.bytes) t
    → Laid (refused_line (record { number = n; place = p })) said.len t u
unfolding text_of
text_laid said n p k t u room z e h f =
    let g : take said.len said.bytes ≡ refused_line (record { number = n; place = p }) = e ∙ ap (λ (j : ℕ). refused_line (record { number = n; place = j })) z in
    record { reach = sym (length-take-le said.len said.bytes (text_short said _ room e)) ∙ ap length g; text = f ∙ copied_all _ t (text_room said _ t room e h) ∙ ap (λ (l : List ℕ). l ++ drop (length l) t) g }
