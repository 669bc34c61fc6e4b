-- What a sheet says, apart from the definitions that make its lines: of the declared names, of the host values and of the effect. Nothing is left open: no other lines say it. And from the printed bytes alone
-- an accepted job is told from a refused one, and each line is read back.
use Prim.Native.Nat.{ℕ, zero, suc, ◌+◌, ◌-◌, ◌/◌, ◌%◌, ◌≤◌}
use Rattle.std.proofs.Math.Path.{◌≡◌, refl, ap}
use Rattle.std.proofs.Common.{ap₂, sym, ◌∙◌, eqb-true, eq-eqb, leb-true, le-leb}
use Rattle.std.specs.Prelude.{Bool, ◌↔◌, get_or, ltb, leb}
use Rattle.std.proofs.Math.Bool.{true, false, cond}
use Rattle.std.proofs.lemmas.Bool.{false≢true}
use mathlib.Core.List.Memᴰ
use mathlib.Core.List.{List, [], ◌∷◌, Memᴰ}
use Rattle.std.proofs.Math.Option.{Option, none, some}
use native.Mathlib.Omega.{arith}
use Rattle.std.proofs.Math.ListN.{length, get_elem?}
use Rattle.order.specs.Bools.{◌and◌}
use Rattle.order.proofs.SetLaws.{bool_ext}
use Rattle.order.specs.Effects.{Effect}
use Rattle.syntax.specs.Types.{Ty, num, pair, cell, fn, lim, grant, on_cell, by_type}
use Rattle.syntax.specs.Job.{Name, HostValue, Job, source_of}
use Rattle.syntax.specs.Reading.{Refusal, read, reading, is_host}
use Rattle.typing.specs.Verdict.{accept, refuse, verdict_of}
use Rattle.typing.specs.Demand2.{Accepted}
use Rattle.output.specs.Lines.{refused_line, line, space, w_refused}
use Rattle.output.specs.Sheet.{Row, carries, count_of, row_of, rows_of, laid, sheet_text, sheet_of}
use Rattle.output.specs.ColumnLaws.{AllFit, column, columns}
use Rattle.output.proofs.ColumnLaws.{same_row, sheet_columns, sheet_says}
use Rattle.output.specs.SheetLaws.{Ascending, asc_nil, asc_cons, host_keyed}
use Rattle.output.specs.SheetExactly.{Sheet}
use Rattle.output.proofs.SheetExactly.{sheet_exactly, refused_sheet}
use Rattle.output.specs.SheetSays.{CellOf, HostCell, Many, Rising, Says, ValueOf, rise_cons, rise_nil}

-- the numbers of the host values that pass a test, the first having number i
places : (Ty → Bool) → ℕ → List (HostValue Ty) → List ℕ
places p i [] = []
places p i (h ∷ l) = cond (p h.ty) (i ∷ places p (suc i) l) (places p (suc i) l)

module _ (p : Ty → Bool) where
  places_many : (i : ℕ) (l : List (HostValue Ty)) → count_of p l ≡ length (places p i l)
  unfolding count_of places
  places_many i [] = refl
  places_many i (h ∷ l) = at (p h.ty) (places_many (suc i) l)
    where
      at : (b : Bool) → count_of p l ≡ length (places p (suc i) l) → cond b (suc (count_of p l)) (count_of p l) ≡ length (cond b (i ∷ places p (suc i) l) (places p (suc i) l))
      at true e = ap suc e
      at false e = e

  places_rise : (i : ℕ) (l : List (HostValue Ty)) → Rising i (places p i l)
  unfolding places
  places_rise i [] = rise_nil
  places_rise i (h ∷ l) = at (p h.ty) (places_rise (suc i) l)
    where
      later : {j m : ℕ} {a : List ℕ} → j ≤ m → Rising m a → Rising j a
      later g rise_nil = rise_nil
      later {j} g (rise_cons {m = m} k a) = let z : j ≤ m = omega arith in rise_cons z a

      at : (b : Bool) → Rising (suc i) (places p (suc i) l) → Rising i (cond b (i ∷ places p (suc i) l) (places p (suc i) l))
      at true a = rise_cons {n = i} {m = i} (omega arith) a
      at false a = later (omega arith) a

  places_value : (i : ℕ) (l : List (HostValue Ty)) (v : ℕ) → Memᴰ v (places p i l) → (j : ℕ) × (v ≡ i + j) × ValueOf (λ T. p T ≡ true) l j
  unfolding places
  places_value i [] v m = absurd (Memᴰ.not-nil m)
  places_value i (h ∷ l) v m = at (p h.ty) refl m (λ k. places_value (suc i) l v k)
    where
      next : (j : ℕ) × (v ≡ suc i + j) × ValueOf (λ T. p T ≡ true) l j → (j : ℕ) × (v ≡ i + j) × ValueOf (λ T. p T ≡ true) (h ∷ l) j
      next z = let e : v ≡ i + suc z.0 = omega (arith, z.1) in (suc z.0, e, z.2)

      at : (b : Bool) → p h.ty ≡ b → Memᴰ v (cond b (i ∷ places p (suc i) l) (places p (suc i) l)) → (Memᴰ v (places p (suc i) l) → (j : ℕ) × (v ≡ suc i + j) × ValueOf (λ T. p T ≡ true) l j)
          → (j : ℕ) × (v ≡ i + j) × ValueOf (λ T. p T ≡ true) (h ∷ l) j
      at true e (Memᴰ.head q) f = let z : v ≡ i + 0 = omega (arith, q) in (0, z, (h, refl, e))
      at true e (Memᴰ.tail k) f = next (f k)
      at false e k f = next (f k)

  value_places : (i : ℕ) (l : List (HostValue Ty)) (j : ℕ) → ValueOf (λ T. p T ≡ true) l j → Memᴰ (i + j) (places p i l)
  unfolding places
  value_places i [] j c = absurd (let e = c.1 in let z : ◌≡◌ {A = ℕ} 0 1 = cc in omega arith)
  value_places i (h ∷ l) zero c =
      let e = c.1 in
      let q : h ≡ c.0 = cc in
      let b : p h.ty ≡ true = ap (λ (x : HostValue Ty). p x.ty) q ∙ c.2 in
      let z : i + 0 ≡ i = omega arith in
      rw (b, z) (Memᴰ.head refl)
  value_places i (h ∷ l) (suc j) c = let z : i + suc j ≡ suc i + j = omega arith in rw z (at (p h.ty) (value_places (suc i) l j c))
    where
      at : (b : Bool) {v : ℕ} → Memᴰ v (places p (suc i) l) → Memᴰ v (cond b (i ∷ places p (suc i) l) (places p (suc i) l))
      at true m = Memᴰ.tail m
      at false m = m

  -- a count is of the host values that pass the test, by what the test says
  pub count_many : {P : Ty → Type 0} → ((T : Ty) → (p T ≡ true) ↔ P T) → (l : List (HostValue Ty)) → Many P l (count_of p l)
  count_many is l = record {
    values = places p 0 l;
    once = places_rise 0 l;
    exactly = λ v. (
      λ m.
          let z = places_value 0 l v m in
          let e : v ≡ z.0 = omega (arith, z.1) in
          let y = z.2 in
          rw e (y.0, y.1, (is y.0.ty).0 y.2),
      λ c. let e : 0 + v ≡ v = omega arith in rw e at (value_places 0 l v (c.0, c.1, (is c.0.ty).1 c.2)),
    );
    many = places_many 0 l;
  }

carries_cell : (n : ℕ) (T : Ty) → carries n T ≡ true → CellOf n T
unfolding carries on_cell by_type
carries_cell n (num q) e = absurd (false≢true e)
carries_cell n (pair q A B) e = absurd (false≢true e)
carries_cell n (cell q A) e = (A, ap (λ (m : ℕ). cell m A) (eqb-true q n e))
carries_cell n (fn q A B s) e = absurd (false≢true e)
carries_cell n (lim q r) e = absurd (false≢true e)
carries_cell n (grant q r) e = absurd (false≢true e)

pub carries_is : (n : ℕ) (T : Ty) → (carries n T ≡ true) ↔ CellOf n T
unfolding carries on_cell by_type
carries_is n T = (carries_cell n T, λ z. rw z.1 (eq-eqb n n refl))

host_cell_lem : (ds : List Name) (q : ℕ) (A : Ty) (b : Bool) (o : Option Name) → leb 2 q ≡ b → get_elem? ds (q - 2) ≡ o → (b and is_host o) ≡ true → HostCell ds (cell q A)
unfolding is_host ◌and◌
host_cell_lem ds q A false o e f g = absurd (false≢true g)
host_cell_lem ds q A true none e f g = absurd (false≢true g)
host_cell_lem ds q A true (some d) e f g =
    let z : q ≡ 2 + (q - 2) = omega (arith, leb-true 2 q e) in
    (q - 2, d, f, g, (A, ap (λ (m : ℕ). cell m A) z))

keyed_host : (ds : List Name) (T : Ty) → host_keyed ds T ≡ true → HostCell ds T
unfolding host_keyed on_cell by_type
keyed_host ds (num q) e = absurd (false≢true e)
keyed_host ds (pair q A B) e = absurd (false≢true e)
keyed_host ds (cell q A) e = host_cell_lem ds q A (leb 2 q) (get_elem? ds (q - 2)) refl refl e
keyed_host ds (fn q A B s) e = absurd (false≢true e)
keyed_host ds (lim q r) e = absurd (false≢true e)
keyed_host ds (grant q r) e = absurd (false≢true e)

pub keyed_is : (ds : List Name) (T : Ty) → (host_keyed ds T ≡ true) ↔ HostCell ds T
unfolding host_keyed on_cell by_type is_host ◌and◌
keyed_is ds T = (
  keyed_host ds T,
  λ z.
      let k : (2 + z.0) - 2 ≡ z.0 = omega arith in
      let l : leb 2 (2 + z.0) ≡ true = le-leb 2 (2 + z.0) (omega arith) in
      rw z.4.1 (simp (l, k, z.2, z.3)),
)

-- The lines

-- lists that rise by f and have the same members are the same
data Up {A : Type 0} (f : A → ℕ) : ℕ → List A → Type 0 where
  up_nil : {n : ℕ} → Up f n []
  up_cons : {n : ℕ} {x : A} {l : List A} → n ≤ f x → Up f (suc (f x)) l → Up f n (x ∷ l)

module _ {A : Type 0} (f : A → ℕ) where
  up_from : {n : ℕ} {l : List A} {x : A} → Up f n l → Memᴰ x l → n ≤ f x
  up_from up_nil m = absurd (Memᴰ.not-nil m)
  up_from {n} (up_cons h u) (Memᴰ.head e) = let z = ap f e in omega arith
  up_from (up_cons h u) (Memᴰ.tail m) = let z = up_from u m in omega arith

  first : {x y : A} {a b : List A} → Up f (suc (f x)) a → Up f (suc (f y)) b → Memᴰ x (y ∷ b) → Memᴰ y (x ∷ a) → x ≡ y
  first u w (Memᴰ.head e) m = e
  first u w (Memᴰ.tail k) (Memᴰ.head e) = sym e
  first u w (Memᴰ.tail k) (Memᴰ.tail m) = absurd (let p = up_from w k in let q = up_from u m in omega arith)

  -- what is above the first is behind it
  behind : {v z : A} {c : List A} → suc (f z) ≤ f v → Memᴰ v (z ∷ c) → Memᴰ v c
  behind p (Memᴰ.head e) = absurd (let q = ap f e in omega arith)
  behind p (Memᴰ.tail m) = m

  same_up : {n k : ℕ} (a b : List A) → Up f n a → Up f k b → ((x : A) → Memᴰ x a → Memᴰ x b) → ((x : A) → Memᴰ x b → Memᴰ x a) → a ≡ b
  same_up [] [] u w g h = refl
  same_up [] (y ∷ b) u w g h = absurd (Memᴰ.not-nil (h y (Memᴰ.head refl)))
  same_up (x ∷ a) [] u w g h = absurd (Memᴰ.not-nil (g x (Memᴰ.head refl)))
  same_up {n = n} {k = k'} (x ∷ a) (y ∷ b) (up_cons i u) (up_cons j w) g h =
      let e = first u w (g x (Memᴰ.head refl)) (h y (Memᴰ.head refl)) in
      let k = ap f e in
      ap₂ (λ (z : A) (l : List A). z ∷ l) e (same_up {n = suc (f x)} {k = suc (f y)} a b u w
      (λ v m. let p : suc (f y) ≤ f v = omega (arith, up_from u m, k) in behind p (g v (Memᴰ.tail m)))
      (λ v m. let p : suc (f x) ≤ f v = omega (arith, up_from w m, k) in behind p (h v (Memᴰ.tail m))))

rising_up : {n : ℕ} {l : List ℕ} → Rising n l → Up (λ (v : ℕ). v) n l
rising_up rise_nil = up_nil
rising_up (rise_cons h r) = up_cons h (rising_up r)

ascending_up : {n : ℕ} {rs : List Row} → Ascending n rs → Up (λ (r : Row). r.name) n rs
ascending_up asc_nil = up_nil
ascending_up (asc_cons h a) = up_cons h (ascending_up a)

-- there is one such count
pub many_one : (P : Ty → Type 0) (l : List (HostValue Ty)) (j k : ℕ) → Many P l j → Many P l k → j ≡ k
many_one P l j k a b =
    a.many
    ∙ ap length (same_up (λ (v : ℕ). v) a.values b.values (rising_up a.once) (rising_up b.once) (λ v m. (b.exactly v).1 ((a.exactly v).0 m)) (λ v m. (a.exactly v).1 ((b.exactly v).0 m)))
    ∙ sym b.many

module _ (ds : List Name) (l : List (HostValue Ty)) (e : Effect) where
  same_line : (rs qs : List Row) → Says ds l e rs → Says ds l e qs → (r : Row) → Memᴰ r rs → Memᴰ r qs
  same_line rs qs a b r m =
      let x = a.host r m in
      let y = b.every x.0 x.1 x.2 x.3 in
      let q = y.0 in
      let z = b.host q y.1 in
      let n : r.name ≡ q.name = x.4 ∙ sym y.2 in
      let i : x.0 ≡ z.0 = omega (arith, y.2, z.4) in
      let s : some x.1 ≡ some z.1 = sym x.2 ∙ ap (λ (j : ℕ). get_elem? ds j) i ∙ z.2 in
      let d : x.1 ≡ z.1 = cc in
      let up : r.upper ≡ q.upper = x.5 ∙ ap (λ (c : Name). c.upper) d ∙ sym z.5 in
      let yr = a.yes r m in
      let yq = b.yes q y.1 in
      let used : r.used ≡ q.used = bool_ext r.used q.used (λ h. yq.1 (rw n at (yr.0 h))) (λ h. yr.1 (rw (sym n) at (yq.0 h))) in
      let k : r.cells ≡ q.cells = many_one (CellOf q.name) l r.cells q.cells (rw n at (a.cells r m)) (b.cells q y.1) in
      rw (same_row r q n up used k) y.1

  -- no other lines say it
  pub says_only : (rs qs : List Row) → Says ds l e rs → Says ds l e qs → rs ≡ qs
  says_only rs qs a b = same_up (λ (r : Row). r.name) rs qs (ascending_up a.order) (ascending_up b.order) (same_line rs qs a b) (same_line qs rs b a)

says_of : (J : Job) (e : Effect) → Sheet J e (rows_of (source_of J) e) → Says J.names (source_of J).values e (rows_of (source_of J) e)
unfolding row_of source_of
says_of J e h = record {
  host = λ r m. let z = (h.lines r).0 m in (z.0, z.1, z.2, z.3, ap (λ (x : Row). x.name) z.4, ap (λ (x : Row). x.upper) z.4);
  every = λ i d g t. (row_of (source_of J) e (2 + i) d, (h.lines _).1 (i, d, g, t, refl), refl);
  order = h.order;
  yes = h.yes;
  cells = λ r m. let z = (h.lines r).0 m in rw z.4 (count_many (carries (2 + z.0)) (carries_is (2 + z.0)) (source_of J).values);
  sum = rw h.keyed (count_many (host_keyed J.names) (keyed_is J.names) (source_of J).values);
}

-- an accepted job: these are the lines of its sheet, by its least effect
pub sheet_said : (s : List ℕ) {T : Ty} {e : Effect} → verdict_of s ≡ accept T e
    → (J : Job) × (reading s ≡ read J) × Accepted J T e × (rs : List Row) × Says J.names (source_of J).values e rs × AllFit rs × (sheet_of s ≡ sheet_text rs)
sheet_said s {T} {e} v = let z = sheet_exactly s v in let J = z.0 in (J, z.1, z.2, rows_of (source_of J) e, says_of J e z.3, z.3.fit, z.4)

-- From the bytes

-- the first byte of a line is a space or a digit
starts : (n : ℕ) → column 10 n ≡ 0x72 → ⊥
unfolding column
starts n e = at (ltb n 10) e
  where
    at : (b : Bool) → cond b 0x20 (48 + n / 10 % 10) ≡ 0x72 → ⊥
    at true g = omega arith
    at false g = omega arith

-- no sheet, the empty one neither, is the line of a refusal
pub not_a_refusal : (rs : List Row) → AllFit rs → (q : Refusal) → sheet_text rs ≡ refused_line q → ⊥
unfolding laid columns refused_line line space w_refused
not_a_refusal rs f q e = at rs (ap (λ (l : List ℕ). get_or l 0 0) (sym (sheet_columns rs f) ∙ e))
  where
    at : (rs : List Row) → get_or (laid columns rs) 0 0 ≡ get_or (refused_line q) 0 0 → ⊥
    at [] g = omega arith
    at (r ∷ rs) g = starts r.name g

pub told_apart : (s t : List ℕ) {T : Ty} {e : Effect} {q : Refusal} → verdict_of s ≡ accept T e → verdict_of t ≡ refuse q → sheet_of s ≡ sheet_of t → ⊥
told_apart s t {q = q} v w g = let z = sheet_exactly s v in not_a_refusal _ z.3.fit q (sym z.4 ∙ g ∙ (refused_sheet t w).1)

-- two accepted jobs with the same sheet have the same lines
pub same_sheet : (s t : List ℕ) {T U : Ty} {e f : Effect} → verdict_of s ≡ accept T e → verdict_of t ≡ accept U f → sheet_of s ≡ sheet_of t
    → (J K : Job) × (reading s ≡ read J) × (reading t ≡ read K) × (rows_of (source_of J) e ≡ rows_of (source_of K) f)
same_sheet s t v w g =
    let y = sheet_exactly s v in
    let z = sheet_exactly t w in
    (y.0, z.0, y.1, z.1, sheet_says _ _ y.3.fit z.3.fit (sym y.4 ∙ g ∙ z.4))
