-- What the pen has written: one entry, and a list of them.
use mathlib.Core.Path.{◌≡◌, refl, sym, ap, ap₂, ◌∙◌, subst}
use Prim.Native.Nat.{ℕ, zero, suc, ◌+◌, ◌-◌, ◌*◌, ◌≤◌, ◌<◌}
use native.Mathlib.Omega.{arith}
use mathlib.Core.Bool.{Bool, true, false, cond}
use mathlib.Core.Option.{Option, none, some}
use mathlib.Core.List.{List, [], ◌∷◌, ◌++◌, append-nil, append_assoc}
use lib.ListN.{length}
use lib.Seq.{sets}
use lib.Dec.{eqb, ltb}
use Rattle.syntax.specs.Commands.{Op, operands, width, section_of}
use Rattle.syntax.proofs.ReadPlaces.{width_most, widest_few}
use Rattle.syntax.specs.JobBytes.{command_bytes}
use Rattle.syntax.proofs.RowsRead.{all_length}
use Rattle.syntax.specs.Writing.{Item, item, fault, fits, item_of, Script, script, each, within}
use Rattle.std.specs.Prelude.{Ok, Err}
use Rattle.table.specs.declared.Refusal.{Refusal}
use Rattle.encode.specs.Laid.{Pushed}
use Rattle.encode.specs.Penned.{Pen, Penned, reach_of, fault_in, alone}
use Rattle.encode.proofs.Laying.{pushed_then, pushed_none, pushed_as}

pub penned_fault : {l : List ℕ} {at n : ℕ} {k : Refusal} {e : Item} → k.place ≡ at → 0 < n → k.number ≡ n → e ≡ fault n → Penned l l at (Err k) (alone e)
unfolding alone
penned_fault {l} {at} {n} {k} {e} p above z q =
    let s : alone e ≡ record { bytes = []; fault = n } = ap alone q in
    record {
      reach = p ∙ (let q : at ≡ at + 0 = omega arith in q) ∙ ap (λ (x : Script). at + length x.bytes) (sym s);
      bytes = ap (λ (x : Script). sets l at x.bytes) (sym s);
      fault_is = z ∙ ap (λ (x : Script). x.fault) (sym s);
      refused = omega arith;
    }

pub penned_item : {l m : List ℕ} {at p : ℕ} {e : Item} {op : Op} {o : List ℕ} → e ≡ item (op, o) → Pushed l m at p (command_bytes (op, o)) → Penned l m at (Ok p) (alone e)
unfolding alone
penned_item {l} {m} {at} {p} {e} {op} {o} k x =
    let s : alone e ≡ record { bytes = command_bytes (op, o); fault = 0 } = ap alone k in
    record {
      reach = x.reach ∙ ap (λ (y : Script). at + length y.bytes) (sym s);
      bytes = x.bytes ∙ ap (λ (y : Script). sets l at y.bytes) (sym s);
      fault_is = ap (λ (y : Script). y.fault) (sym s);
      refused = tt;
    }

-- a command has 14 bytes at most
pub entry_length : (e : Item) → length (alone e).bytes ≤ 14
unfolding alone command_bytes width
entry_length (item r) = omega (arith, all_length (operands r.0) r.1, width_most r.0, widest_few (section_of r.0))
entry_length (fault n) = omega arith

-- Lists of entries

-- an entry's fault has a number
pub data Sound : Item → Type 0 where
  sound_item : (r : Op × List ℕ) → Sound (item r)
  sound_fault : (n : ℕ) → 0 < n → Sound (fault n)

pub data AllSound : List Item → Type 0 where
  sound_none : AllSound []
  sound_more : {e : Item} {l : List Item} → Sound e → AllSound l → AllSound (e ∷ l)

-- no entry has a fault
pub data Whole : List Item → Type 0 where
  whole_none : Whole []
  whole_more : (r : Op × List ℕ) {l : List Item} → Whole l → Whole (item r ∷ l)

pub sound_each : (f : ℕ → Item) → ((i : ℕ) → Sound (f i)) → (i k : ℕ) → AllSound (each f i k)
unfolding each
sound_each f h i zero = sound_none
sound_each f h i (suc k) = sound_more (h i) (sound_each f h (suc i) k)

whole_is : {l : List Item} → AllSound l → (script l).fault ≡ 0 → Whole l
unfolding script
whole_is sound_none e = whole_none
whole_is (sound_more (sound_item r) h) e = whole_more r (whole_is h e)
whole_is (sound_more (sound_fault n k) h) e = absurd (omega (arith, k, e))

whole_snoc : {l : List Item} → Whole l → (r : Op × List ℕ) → Whole (l ++ (item r ∷ []))
whole_snoc whole_none r = whole_more r whole_none
whole_snoc (whole_more q h) r = whole_more q (whole_snoc h r)

whole_fault : {l : List Item} → Whole l → (script l).fault ≡ 0
unfolding script
whole_fault whole_none = refl
whole_fault (whole_more r h) = whole_fault h

abbrev joined : List ℕ → Script → Script
joined b s = record { bytes = b ++ s.bytes; fault = s.fault }

script_append : {l : List Item} → Whole l → (m : List Item) → script (l ++ m) ≡ joined (script l).bytes (script m)
unfolding script
script_append whole_none m = refl
script_append (whole_more r {l} h) m =
    ap (joined (command_bytes r)) (script_append h m) ∙ ap (λ (b : List ℕ). record { bytes = b; fault = (script m).fault }) (sym (append_assoc (command_bytes r) (script l).bytes (script m).bytes))

script_stops : (l m : List Item) → 0 < (script l).fault → script (l ++ m) ≡ script l
unfolding script
script_stops [] m h = absurd (omega arith)
script_stops (item r ∷ l) m h = ap (joined (command_bytes r)) (script_stops l m h)
script_stops (fault n ∷ l) m h = refl

-- f of the numbers below k, and of those from there on
each_split : {A : Type 0} (f : ℕ → A) (i k n m : ℕ) → m ≡ k + n → each f i m ≡ each f i k ++ each f (i + k) n
unfolding each
each_split f i zero n m e =
    let z : i ≡ i + 0 = omega arith in
    let y : m ≡ n = omega arith in
    ap₂ (λ (a b : ℕ). each f a b) z y
each_split f i (suc k) n zero e = absurd (omega arith)
each_split f i (suc k) n (suc m) e =
    let z : suc i + k ≡ i + suc k = omega arith in ap (λ l. f i ∷ l) (each_split f (suc i) k n m (omega arith) ∙ ap (λ (j : ℕ). each f (suc i) k ++ each f j n) z)

each_more : {A : Type 0} (f : ℕ → A) (k : ℕ) → each f 0 (k + 1) ≡ each f 0 k ++ (f k ∷ [])
unfolding each
each_more f k = let z : 0 + k ≡ k = omega arith in each_split f 0 k 1 (k + 1) refl ∙ ap (λ (j : ℕ). each f 0 k ++ (f j ∷ [])) z

-- The pen after a list

-- the same script, said otherwise
pub penned_as : {l m : List ℕ} {at : ℕ} {r : Pen} {s t : Script} → s ≡ t → Penned l m at r s → Penned l m at r t
penned_as {l} {m} {at} {r} e x = subst (Penned l m at r) e x

-- the bytes that it has written
pushed_by : {l m : List ℕ} {at : ℕ} {r : Pen} {s : Script} → Penned l m at r s → Pushed l m at (reach_of r) s.bytes
pushed_by x = record { reach = x.reach; bytes = x.bytes }

-- bytes, and what is written after them
penned_behind : {l m n : List ℕ} {at p : ℕ} {r : Pen} {b : List ℕ} {s : Script} → Pushed l m at p b → Penned m n p r s → Penned l n at r (joined b s)
penned_behind {l} {m} {n} {at} {p} {r} {b} {s} x y =
    let z = pushed_then x (pushed_by y) in record { reach = z.reach; bytes = z.bytes; fault_is = y.fault_is; refused = y.refused }

pub penned_stop : {l m : List ℕ} {at : ℕ} {r : Pen} (a b : List Item) → Penned l m at r (script a) → 0 < fault_in r → Penned l m at r (script (a ++ b))
penned_stop a b x h = penned_as (sym (script_stops a b (omega (arith, x.fault_is, h)))) x

pub penned_then : {l m n : List ℕ} {at : ℕ} {r q : Pen} (a b : List Item) → AllSound a → Penned l m at r (script a) → fault_in r ≤ 0 → Penned m n (reach_of r) q (script b) → Penned l n at q (script (a ++ b))
penned_then a b s x h y =
    penned_as (sym (script_append (whole_is s (omega (arith, x.fault_is, h))) b)) (penned_behind (pushed_by x) y)

pub penned_row : {l m n : List ℕ} {at p : ℕ} {q : Pen} (r : Op × List ℕ) (b : List Item) → Pushed l m at p (command_bytes r) → Penned m n p q (script b) → Penned l n at q (script (item r ∷ b))
unfolding script
penned_row r b x y = penned_behind x y

pub penned_none : {l : List ℕ} {at : ℕ} → Penned l l at (Ok at) (script [])
unfolding script
penned_none {l} {at} = record { reach = omega arith; bytes = refl; fault_is = refl; refused = tt }

-- The pen along a list: l became m, from `at` to p, by the first i entries
pub record Along (f : ℕ → Item) (l m : List ℕ) (at p i : ℕ) : Type 0 where
  pub whole : Whole (each f 0 i)
  pub pushed : Pushed l m at p (script (each f 0 i)).bytes
  pub room : p ≤ at + 14 * i

pub along_start : (f : ℕ → Item) (l : List ℕ) (at : ℕ) → Along f l l at at 0
unfolding each script
along_start f l at = record { whole = whole_none; pushed = pushed_none l at; room = omega arith }

-- one entry more
pub along_next : {f : ℕ → Item} {l m n : List ℕ} {at p i : ℕ} {r : Pen} → Along f l m at p i → Sound (f i) → Penned m n p r (alone (f i)) → fault_in r ≤ 0 → Along f l n at (reach_of r) (i + 1)
unfolding script alone
along_next {f} {l} {m} {n} {at} {p} {i} {r} x s y h = by (f i) s y refl
  where
    more : (e : Op × List ℕ) → f i ≡ item e → each f 0 (i + 1) ≡ each f 0 i ++ (item e ∷ [])
    more e z = each_more f i ∙ ap (λ k. each f 0 i ++ (k ∷ [])) z

    bytes : (e : Op × List ℕ) → f i ≡ item e → (script (each f 0 i)).bytes ++ command_bytes e ≡ (script (each f 0 (i + 1))).bytes
    bytes e z =
        ap (λ b. (script (each f 0 i)).bytes ++ b) (sym (append-nil (command_bytes e)))
        ∙ sym (ap (λ (t : Script). t.bytes) (ap script (more e z) ∙ script_append x.whole (item e ∷ [])))

    by : (e : Item) → Sound e → Penned m n p r (alone e) → f i ≡ e → Along f l n at (reach_of r) (i + 1)
    by e (sound_item q) y z =
        record {
          whole = subst Whole (sym (more q z)) (whole_snoc x.whole q);
          pushed = pushed_as (bytes q z) (pushed_then x.pushed (pushed_by y));
          room = omega (arith, x.room, y.reach, entry_length (item q));
        }
    by e (sound_fault k g) y z = absurd (omega (arith, y.fault_is, h, g))

-- a fault
pub along_stop : {f : ℕ → Item} {l m k : List ℕ} {at p i n : ℕ} {r : Pen} → Along f l m at p i → i < n → Penned m k p r (alone (f i)) → 0 < fault_in r → Penned l k at r (script (each f 0 n))
unfolding each alone script
along_stop {f} {l} {m} {k} {at} {p} {i} {n} {r} x b y h =
    penned_as (sym whole_script) (penned_behind x.pushed (by (f i) y))
  where
    rest : List Item
    rest = each f (i + 1) (n - (i + 1))

    parts : each f 0 n ≡ each f 0 i ++ (f i ∷ rest)
    parts =
        let z : 0 + i ≡ i = omega arith in
        let j : suc i ≡ i + 1 = omega arith in
        each_split f 0 i (suc (n - (i + 1))) n (omega arith)
        ∙ ap (λ (u : ℕ). each f 0 i ++ (f u ∷ each f (suc u) (n - (i + 1)))) z
        ∙ ap (λ (u : ℕ). each f 0 i ++ (f i ∷ each f u (n - (i + 1)))) j

    whole_script : script (each f 0 n) ≡ joined (script (each f 0 i)).bytes (script (f i ∷ rest))
    whole_script = ap script parts ∙ script_append x.whole (f i ∷ rest)

    by : (e : Item) → Penned m k p r (alone e) → Penned m k p r (script (e ∷ rest))
    by (item q) y = absurd (omega (arith, y.fault_is, h))
    by (fault u) y = y

-- the end
pub along_end : {f : ℕ → Item} {l m : List ℕ} {at p i n : ℕ} → Along f l m at p i → i ≡ n → Penned l m at (Ok p) (script (each f 0 n))
along_end {f} {l} {m} {at} {p} {i} {n} x e =
    let y : Penned l m at (Ok p) (script (each f 0 i)) = record { reach = x.pushed.reach; bytes = x.pushed.bytes; fault_is = sym (whole_fault x.whole); refused = tt } in
    subst (λ (k : ℕ). Penned l m at (Ok p) (script (each f 0 k))) e y

-- Entries within the limit, and past it
pub sound_item_of : (sec : ℕ) (o : Option Op) (f : Op → List ℕ) → Sound (item_of sec o f)
unfolding item_of
sound_item_of sec none f = sound_fault 2 (omega arith)
sound_item_of sec (some op) f = at (eqb (section_of op) sec) (fits (operands op) (f op))
  where
    at : (a b : Bool) → Sound (cond a (cond b (item (op, f op)) (fault 6)) (fault 3))
    at true true = sound_item _
    at true false = sound_fault 6 (omega arith)
    at false b = sound_fault 3 (omega arith)

pub sound_within : (limit i : ℕ) (e : Item) → Sound e → Sound (within limit i e)
unfolding within
sound_within limit i e h = at (ltb i limit)
  where
    at : (b : Bool) → Sound (cond b e (fault 5))
    at true = h
    at false = sound_fault 5 (omega arith)
