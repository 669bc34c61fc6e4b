-- What the sheet's lines say, apart from how they are made: which names have a line, in which order, and what their counts of cells add up to.
use Prim.Native.Nat.{ℕ, zero, suc, ◌+◌, ◌-◌, ◌<◌, ◌≤◌}
use Rattle.std.proofs.Math.Path.{◌≡◌, refl, ap}
use Rattle.std.proofs.Common.{ap₂, sym, ◌∙◌, eqb-true, ne_eqb, leb-true, leb-false, le-leb}
use Rattle.std.specs.Prelude.{Bool, cond, ◌↔◌, length, eqb, leb}
use Rattle.std.proofs.Math.Bool.{true, false}
use Rattle.std.proofs.lemmas.Bool.{false≢true, eqb-false, lt-leb}
use mathlib.Core.List.Memᴰ
use mathlib.Core.List.{List, [], ◌∷◌, Memᴰ}
use Rattle.std.proofs.Math.Option.{some}
use native.Mathlib.Omega.{arith}
use Rattle.std.proofs.Math.ListN.{get_elem?}
use Rattle.order.specs.Bools.{◌and◌, ◌or◌}
use Rattle.order.specs.Effects.{Effect}
use Rattle.syntax.specs.Types.{Ty, num, pair, cell, fn, lim, grant, on_cell, by_type, names_in}
use Rattle.syntax.specs.Job.{Name, HostValue, Src}
use Rattle.syntax.specs.Reading.{is_host, host_name, open_name}
use Rattle.output.specs.Sheet.{Row, carries, count_of, row_of, rows_from, rows_of}
use Rattle.output.specs.SheetLaws.{Ascending, HostLine, asc_cons, asc_nil, host_keyed, is_cell, total}

module _ (S : Src) (s : Effect) where
  from_line : (n : ℕ) (ds : List Name) (r : Row) → Memᴰ r (rows_from (row_of S s) n ds) → (i : ℕ) × (d : Name) × (get_elem? ds i ≡ some d) × (d.host ≡ true) × (r ≡ row_of S s (n + i) d)
  unfolding rows_from
  from_line n [] r m = absurd (Memᴰ.not-nil m)
  from_line n (d ∷ ds) r m = at d.host refl m (λ k. from_line (suc n) ds r k)
    where
      next : (i : ℕ) × (c : Name) × (get_elem? ds i ≡ some c) × (c.host ≡ true) × (r ≡ row_of S s (suc n + i) c)
          → (i : ℕ) × (c : Name) × (get_elem? (d ∷ ds) i ≡ some c) × (c.host ≡ true) × (r ≡ row_of S s (n + i) c)
      next z = let e : suc n + z.0 ≡ n + suc z.0 = omega arith in (suc z.0, z.1, z.2, z.3, z.4 ∙ ap (λ (j : ℕ). row_of S s j z.1) e)

      at : (b : Bool) → d.host ≡ b → Memᴰ r (cond b (row_of S s n d ∷ rows_from (row_of S s) (suc n) ds) (rows_from (row_of S s) (suc n) ds))
          → (Memᴰ r (rows_from (row_of S s) (suc n) ds) → (i : ℕ) × (c : Name) × (get_elem? ds i ≡ some c) × (c.host ≡ true) × (r ≡ row_of S s (suc n + i) c))
          → (i : ℕ) × (c : Name) × (get_elem? (d ∷ ds) i ≡ some c) × (c.host ≡ true) × (r ≡ row_of S s (n + i) c)
      at true h (Memᴰ.head e) f = let z : n ≡ n + 0 = omega arith in (0, d, refl, h, e ∙ ap (λ (j : ℕ). row_of S s j d) z)
      at true h (Memᴰ.tail k) f = next (f k)
      at false h k f = next (f k)

  line_from : (n : ℕ) (ds : List Name) (i : ℕ) (d : Name) → get_elem? ds i ≡ some d → d.host ≡ true → Memᴰ (row_of S s (n + i) d) (rows_from (row_of S s) n ds)
  unfolding rows_from
  line_from n [] i d e h = absurd (let z : ◌≡◌ {A = ℕ} 0 1 = cc in omega arith)
  line_from n (c ∷ ds) zero d e h =
      let q : c ≡ d = cc in
      let z : n + 0 ≡ n = omega arith in
      rw (q, h, z) (Memᴰ.head refl)
  line_from n (c ∷ ds) (suc i) d e h = let z : n + suc i ≡ suc n + i = omega arith in rw z (at c.host (line_from (suc n) ds i d e h))
    where
      at : (b : Bool) {x : Row} → Memᴰ x (rows_from (row_of S s) (suc n) ds) → Memᴰ x (cond b (row_of S s n c ∷ rows_from (row_of S s) (suc n) ds) (rows_from (row_of S s) (suc n) ds))
      at true m = Memᴰ.tail m
      at false m = m

  -- a line for each host name, and none for another: not for 0, for 1 or for a local name
  pub listed : (r : Row) → Memᴰ r (rows_of S s) ↔ HostLine S s r
  unfolding rows_of
  listed r = (from_line 2 S.names r, λ z. rw z.4 (line_from 2 S.names z.0 z.1 z.2 z.3))

-- no host name, no line
pub no_lines : (S : Src) (s : Effect) → ((i : ℕ) (d : Name) → get_elem? S.names i ≡ some d → d.host ≡ false) → rows_of S s ≡ []
no_lines S s f = at (rows_of S s) (λ r m. (listed S s r).0 m)
  where
    at : (rs : List Row) → ((r : Row) → Memᴰ r rs → HostLine S s r) → rs ≡ []
    at [] g = refl
    at (r ∷ rs) g = let z = g r (Memᴰ.head refl) in absurd (false≢true (sym (f z.0 z.1 z.2) ∙ z.3))

-- no more lines than declared names
pub rows_few : (f : ℕ → Name → Row) (n : ℕ) (ds : List Name) → length (rows_from f n ds) ≤ length ds
unfolding rows_from
rows_few f n [] = omega arith
rows_few f n (d ∷ ds) = at d.host (rows_few f (suc n) ds)
  where
    at : (b : Bool) → length (rows_from f (suc n) ds) ≤ length ds → length (cond b (f n d ∷ rows_from f (suc n) ds) (rows_from f (suc n) ds)) ≤ suc (length ds)
    at true h = omega arith
    at false h = omega arith

lower : {m n : ℕ} {rs : List Row} → m ≤ n → Ascending n rs → Ascending m rs
lower h asc_nil = asc_nil
lower {m} h (asc_cons {r = r} l a) = let z : m ≤ r.name = omega arith in asc_cons z a

asc_from : (S : Src) (s : Effect) (n : ℕ) (ds : List Name) → Ascending n (rows_from (row_of S s) n ds)
unfolding rows_from row_of
asc_from S s n [] = asc_nil
asc_from S s n (d ∷ ds) = at d.host (asc_from S s (suc n) ds)
  where
    at : (b : Bool) → Ascending (suc n) (rows_from (row_of S s) (suc n) ds) → Ascending n (cond b (row_of S s n d ∷ rows_from (row_of S s) (suc n) ds) (rows_from (row_of S s) (suc n) ds))
    at true a = asc_cons {n = n} {r = row_of S s n d} (omega arith) a
    at false a = lower (omega arith) a

pub ascending : (S : Src) (s : Effect) → Ascending 2 (rows_of S s)
unfolding rows_of
ascending S s = asc_from S s 2 S.names

-- What the counts add up to

-- 1 for true
number : Bool → ℕ
number b = cond b 1 0

-- how many lines, of names from n on, count a value of type T
hits : Ty → ℕ → List Name → ℕ
hits T n [] = 0
hits T n (d ∷ ds) = cond d.host (number (carries n T) + hits T (suc n) ds) (hits T (suc n) ds)

sums : List (HostValue Ty) → ℕ → List Name → ℕ
sums l n [] = 0
sums l n (d ∷ ds) = cond d.host (count_of (carries n) l + sums l (suc n) ds) (sums l (suc n) ds)

total_sums : (S : Src) (s : Effect) (n : ℕ) (ds : List Name) → total (rows_from (row_of S s) n ds) ≡ sums S.values n ds
unfolding rows_from row_of total sums
total_sums S s n [] = refl
total_sums S s n (d ∷ ds) = at d.host (total_sums S s (suc n) ds)
  where
    at : (b : Bool) → total (rows_from (row_of S s) (suc n) ds) ≡ sums S.values (suc n) ds
        → total (cond b (row_of S s n d ∷ rows_from (row_of S s) (suc n) ds) (rows_from (row_of S s) (suc n) ds)) ≡ cond b (count_of (carries n) S.values + sums S.values (suc n) ds) (sums S.values (suc n) ds)
    at true e = ap (λ (k : ℕ). count_of (carries n) S.values + k) e
    at false e = e

sums_nil : (n : ℕ) (ds : List Name) → sums [] n ds ≡ 0
unfolding count_of sums
sums_nil n [] = refl
sums_nil n (d ∷ ds) = at d.host (sums_nil (suc n) ds)
  where
    at : (b : Bool) → sums [] (suc n) ds ≡ 0 → cond b (0 + sums [] (suc n) ds) (sums [] (suc n) ds) ≡ 0
    at true e = omega arith
    at false e = e

more : (p : Ty → Bool) (h : HostValue Ty) (l : List (HostValue Ty)) → count_of p (h ∷ l) ≡ number (p h.ty) + count_of p l
unfolding count_of number
more p h l = at (p h.ty)
  where
    at : (b : Bool) → cond b (suc (count_of p l)) (count_of p l) ≡ cond b 1 0 + count_of p l
    at true = omega arith
    at false = omega arith

sums_cons : (h : HostValue Ty) (l : List (HostValue Ty)) (n : ℕ) (ds : List Name) → sums (h ∷ l) n ds ≡ hits h.ty n ds + sums l n ds
unfolding sums hits
sums_cons h l n [] = refl
sums_cons h l n (d ∷ ds) = at d.host (sums_cons h l (suc n) ds)
  where
    at : (b : Bool) → sums (h ∷ l) (suc n) ds ≡ hits h.ty (suc n) ds + sums l (suc n) ds
        → cond b (count_of (carries n) (h ∷ l) + sums (h ∷ l) (suc n) ds) (sums (h ∷ l) (suc n) ds)
        ≡ cond b (number (carries n h.ty) + hits h.ty (suc n) ds) (hits h.ty (suc n) ds) + cond b (count_of (carries n) l + sums l (suc n) ds) (sums l (suc n) ds)
    at true e = omega (arith, more (carries n) h l)
    at false e = e

-- a cell is counted by the line of its own name alone
host_at : ℕ → List Name → ℕ → Bool
host_at n ds q = leb n q and is_host (get_elem? ds (q - n))

-- past a name that is not its own
skip : (d : Name) (ds : List Name) (n q : ℕ) → (q ≡ n → ⊥) → host_at (suc n) ds q ≡ host_at n (d ∷ ds) q
unfolding host_at ◌and◌
skip d ds n q h = at (leb n q) refl
  where
    at : (b : Bool) → leb n q ≡ b → host_at (suc n) ds q ≡ host_at n (d ∷ ds) q
    at true e =
        let l : n ≤ q = leb-true n q e in
        let m : suc n ≤ q = omega arith in
        let k : q - n ≡ suc (q - suc n) = omega arith in
        simp (le-leb (suc n) q m, e, k)
    at false e = let l : q < n = leb-false n q e in simp (lt-leb (suc n) q (omega arith), e)

hits_cell : (q : ℕ) (A : Ty) (n : ℕ) (ds : List Name) → hits (cell q A) n ds ≡ number (host_at n ds q)
unfolding hits number host_at carries on_cell by_type is_host ◌and◌
hits_cell q A n [] = at (leb n q)
  where
    at : (b : Bool) → ◌≡◌ {A = ℕ} 0 (cond (b and false) 1 0)
    at true = refl
    at false = refl
hits_cell q A n (d ∷ ds) = at (eqb q n) refl (hits_cell q A (suc n) ds)
  where
    own : (b : Bool) → cond b (1 + 0) 0 ≡ number b
    own true = refl
    own false = refl

    same : (b : Bool) (k : ℕ) → cond b (0 + k) k ≡ k
    same true k = omega arith
    same false k = refl

    at : (b : Bool) → eqb q n ≡ b → hits (cell q A) (suc n) ds ≡ number (host_at (suc n) ds q)
        → cond d.host (cond b 1 0 + hits (cell q A) (suc n) ds) (hits (cell q A) (suc n) ds) ≡ number (host_at n (d ∷ ds) q)
    at true e f =
        let q_is : q ≡ n = eqb-true q n e in
        let none : hits (cell q A) (suc n) ds ≡ 0 = f ∙ simp (lt-leb (suc n) q (omega arith)) in
        let first : q - n ≡ 0 = omega arith in
        simp (none, le-leb n q (omega arith), first) (own d.host)
    at false e f = same d.host (hits (cell q A) (suc n) ds) ∙ f ∙ ap number (skip d ds n q (eqb-false q n e))

hits_none : (T : Ty) (n : ℕ) (ds : List Name) → ((m : ℕ) → carries m T ≡ false) → hits T n ds ≡ 0
unfolding hits number
hits_none T n [] f = refl
hits_none T n (d ∷ ds) f = simp (f n, hits_none T (suc n) ds f) (at d.host)
  where
    at : (b : Bool) → cond b (0 + 0) 0 ≡ 0
    at true = refl
    at false = refl

hits_are : (T : Ty) (ds : List Name) → hits T 2 ds ≡ number (host_keyed ds T)
unfolding host_keyed on_cell by_type number carries host_at
hits_are (num q) ds = hits_none (num q) 2 ds (λ m. refl)
hits_are (pair q A B) ds = hits_none (pair q A B) 2 ds (λ m. refl)
hits_are (cell q A) ds = hits_cell q A 2 ds
hits_are (fn q A B s) ds = hits_none (fn q A B s) 2 ds (λ m. refl)
hits_are (lim q r) ds = hits_none (lim q r) 2 ds (λ m. refl)
hits_are (grant q r) ds = hits_none (grant q r) 2 ds (λ m. refl)

sums_are : (l : List (HostValue Ty)) (ds : List Name) → sums l 2 ds ≡ count_of (host_keyed ds) l
unfolding count_of
sums_are [] ds = sums_nil 2 ds
sums_are (h ∷ l) ds = sums_cons h l 2 ds ∙ ap₂ (λ (a b : ℕ). a + b) (hits_are h.ty ds) (sums_are l ds) ∙ sym (more (host_keyed ds) h l)

-- the counts of all lines are the host cells that carry a host name: none is left out, and none is counted twice
pub counts_add_up : (S : Src) (s : Effect) → total (rows_of S s) ≡ count_of (host_keyed S.names) S.values
unfolding rows_of
counts_add_up S s = total_sums S s 2 S.names ∙ sums_are S.values S.names

-- every other host cell is unkeyed or carries the top, in a job whose host values name 0, 1 and host names alone
split : (ds : List Name) (q : ℕ) → open_name ds q ≡ true → number (leb 2 q and is_host (get_elem? ds (q - 2))) + number (eqb q 0) + number (eqb q 1) ≡ 1
unfolding open_name host_name number ◌or◌ ◌and◌
split ds zero e = refl
split ds (suc zero) e = refl
split ds (suc (suc q)) e =
    let z : eqb (suc (suc q)) 0 ≡ false = ne_eqb (suc (suc q)) 0 (λ h. omega arith) in
    let o : eqb (suc (suc q)) 1 ≡ false = ne_eqb (suc (suc q)) 1 (λ h. omega arith) in
    let g : (leb 2 (suc (suc q)) and is_host (get_elem? ds (suc (suc q) - 2))) ≡ true = simp (z, o) at e in
    simp (z, o, g)

cell_split : (ds : List Name) (T : Ty) → ((n : ℕ) → Memᴰ n (names_in T) → open_name ds n ≡ true) → number (host_keyed ds T) + number (carries 0 T) + number (carries 1 T) ≡ number (is_cell T)
unfolding host_keyed carries is_cell on_cell by_type names_in number
cell_split ds (num q) f = refl
cell_split ds (pair q A B) f = refl
cell_split ds (cell q A) f = split ds q (f q (Memᴰ.head refl))
cell_split ds (fn q A B s) f = refl
cell_split ds (lim q r) f = refl
cell_split ds (grant q r) f = refl

pub all_counted : (ds : List Name) (l : List (HostValue Ty)) → ((h : HostValue Ty) → Memᴰ h l → (n : ℕ) → Memᴰ n (names_in h.ty) → open_name ds n ≡ true)
    → count_of (host_keyed ds) l + count_of (carries 0) l + count_of (carries 1) l ≡ count_of is_cell l
unfolding count_of
all_counted ds [] f = refl
all_counted ds (h ∷ l) f = omega (
  arith,
  more (host_keyed ds) h l,
  more (carries 0) h l,
  more (carries 1) h l,
  more is_cell h l,
  cell_split ds h.ty (f h (Memᴰ.head refl)),
  all_counted ds l (λ x m. f x (Memᴰ.tail m)),
)

-- no more than there are
pub count_few : (p : Ty → Bool) (l : List (HostValue Ty)) → count_of p l ≤ length l
unfolding count_of
count_few p [] = omega arith
count_few p (h ∷ l) = at (p h.ty) (count_few p l)
  where
    at : (b : Bool) → count_of p l ≤ length l → cond b (suc (count_of p l)) (count_of p l) ≤ suc (length l)
    at true k = omega arith
    at false k = omega arith
