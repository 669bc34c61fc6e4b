-- The words of a machine's value and of its cells, written one after another.
use mathlib.Core.Path.{◌≡◌, refl, sym, ap, ◌∙◌}
use Prim.Native.Nat.{ℕ, zero, suc, ◌+◌, ◌-◌, ◌*◌, ◌<◌, ◌≤◌}
use native.Mathlib.Omega.{arith}
use mathlib.Core.Bool.{Bool, true, false, cond}
use mathlib.Core.List.{List, [], ◌∷◌}
use mathlib.Core.Option.{Option, none, some, none-ne-some, some-injective}
use lib.Dec.{ltb}
use lib.ListN.{length, get_elem?, get_or}
use lib.Seq.{sets}
use Rattle.semantics.specs.Machine.{Value, Thread as SThread, most_cells, most_threads}
use Rattle.semantics.specs.Threads.{all_done, handed_on, first_value}
use Rattle.store.specs.declared.Value.{Value as Held}
use Rattle.table.specs.declared.Expr.{Expr}
use Rattle.table.specs.Told.{TwoPut}
use Rattle.store.specs.Meaning.{kind_in, value_in}
use Rattle.store.specs.Words.{word_in, cell_in}
use Rattle.store.specs.Tables.{list_of, capped}
use Rattle.store.proofs.Laws.{list_get, list_beyond}
use Rattle.thread.specs.declared.Thread.{Thread}
use Rattle.acts.specs.declared.Control.TheVariants.{Enter, Hand}
use Rattle.machine.specs.declared.Machine.{Machine}
use Rattle.acts.specs.Meaning.{control_in}
use Rattle.machine.specs.Scheduled.{idle, thread_at, listed}
use Rattle.machine.specs.Listed.{listed_get}
use Rattle.machine.specs.View.{seen}
use Rattle.calls.specs.Words.{over}
use Rattle.calls.proofs.Laws.{sets_over}
use Rattle.results.specs.Values.{kind_no, payload_of, first_word, second_word, value_at, value_among, cells_from, cell_words, CellPut}

-- the value that a thread hands on
module _ (t : Thread) {s k : List ℕ} where
  pub put_enter : (e : Expr) → t.now.control ≡ Enter e → TwoPut s k 0 0 0 → k ≡ over s (value_at (handed_on (control_in t.now.control)))
  unfolding value_at first_word second_word handed_on
  put_enter e h z = z.same ∙ sets_over s (0 ∷ 0 ∷ []) ∙ sym (ap (λ c. over s (value_at (handed_on (control_in c)))) h)

  pub put_hand : (w : ℕ) (v : Held) (x y : ℕ) → t.now.control ≡ Hand w → value_in v ≡ word_in w → x ≡ kind_no (kind_in v.kind v.payload) → y ≡ payload_of (kind_in v.kind v.payload) → TwoPut s k 0 x y
      → k ≡ over s (value_at (handed_on (control_in t.now.control)))
  unfolding value_at first_word second_word handed_on
  put_hand w v x y h e p q z = z.same ∙ sets_over s (x ∷ y ∷ []) ∙ (λ i. over s (p i ∷ q i ∷ [])) ∙ ap (λ (u : Value). over s (value_at (some u))) e ∙ sym (ap (λ c. over s (value_at (handed_on (control_in c)))) h)

-- the value of so many threads
first_listed : (f : ℕ → SThread) (n : ℕ) → 0 < n → first_value (listed f n) ≡ handed_on (f 0).control
unfolding first_value
first_listed f n h = at (listed f n) (listed_get f n 0 h)
  where
    at : (l : List SThread) → get_elem? l 0 ≡ some (f 0) → first_value l ≡ handed_on (f 0).control
    at [] e = absurd (none-ne-some (f 0) e)
    at (x ∷ l) e = ap (λ (y : SThread). handed_on y.control) (some-injective x (f 0) e)

module _ (ts : List Thread) (c : ℕ) (s : List ℕ) {k : List ℕ} where
  pub value_nobody : c ≡ 0 → TwoPut s k 0 0 0 → (fs : List ℕ) → k ≡ over s (value_at (value_among (listed (thread_at ts fs) (capped c most_threads))))
  unfolding value_at first_word second_word listed all_done first_value
  value_nobody h z fs = z.same ∙ sets_over s (0 ∷ 0 ∷ []) ∙ sym (ap (λ (n : ℕ). over s (value_at (value_among (listed (thread_at ts fs) (capped n most_threads))))) h)

  pub value_waits : (b : Bool) → b ≡ false → ((fs : List ℕ) → b ≡ all_done (listed (thread_at ts fs) (capped c most_threads))) → TwoPut s k 0 0 0
      → (fs : List ℕ) → k ≡ over s (value_at (value_among (listed (thread_at ts fs) (capped c most_threads))))
  unfolding value_at first_word second_word
  value_waits b h d z fs =
      z.same ∙ sets_over s (0 ∷ 0 ∷ []) ∙ sym (ap (λ (a : Bool). over s (value_at (cond a (first_value (listed (thread_at ts fs) (capped c most_threads))) none))) (sym (d fs) ∙ h))

  pub value_first : (b : Bool) → b ≡ true → ((fs : List ℕ) → b ≡ all_done (listed (thread_at ts fs) (capped c most_threads))) → (c ≡ 0 → ⊥) → k ≡ over s (value_at (handed_on (control_in (get_or ts 0 idle).now.control)))
      → (fs : List ℕ) → k ≡ over s (value_at (value_among (listed (thread_at ts fs) (capped c most_threads))))
  unfolding thread_at
  value_first b h d n e fs =
      e
      ∙ ap (λ o. over s (value_at o)) (sym (first_listed (thread_at ts fs) (capped c most_threads) (some_threads c n)))
      ∙ sym (ap (λ (a : Bool). over s (value_at (cond a (first_value (listed (thread_at ts fs) (capped c most_threads))) none))) (sym (d fs) ∙ h))
    where
      some_threads : (n : ℕ) → (n ≡ 0 → ⊥) → 0 < capped n most_threads
      some_threads n h = at (ltb n most_threads)
        where
          at : (b : Bool) → 0 < cond b n most_threads
          at true = omega (arith, h)
          at false = omega arith

-- a cell
module _ (table : List ℕ) (used i : ℕ) {s k : List ℕ} where
  pub cell_there : (v : Held) (x y : ℕ) → i < used → value_in v ≡ cell_in table i → x ≡ kind_no (kind_in v.kind v.payload) → y ≡ payload_of (kind_in v.kind v.payload) → TwoPut s k (2 * i) x y
      → CellPut (list_of cell_in table used) s k i
  unfolding first_word second_word
  cell_there v x y h e p q z =
      let g : get_elem? (list_of cell_in table used) i ≡ some (value_in v) = list_get cell_in table used i h ∙ ap some (sym e) in
      record { same = z.same ∙ (λ j. sets s (2 * i) (p j ∷ q j ∷ [])) ∙ sym (ap (λ (o : Option Value). sets s (2 * i) (first_word o ∷ second_word o ∷ [])) g) }

  pub cell_none : used ≤ i → TwoPut s k (2 * i) 0 0 → CellPut (list_of cell_in table used) s k i
  unfolding first_word second_word
  cell_none h z = record { same = z.same ∙ sym (ap (λ (o : Option Value). sets s (2 * i) (first_word o ∷ second_word o ∷ [])) (list_beyond cell_in table used i h)) }

-- so many cells are written; the others are still to be
pub record Writing (l : List Value) (before after : List ℕ) (i : ℕ) : Type 0 where
  pub onward : sets after (2 * i) (cells_from l i (most_cells - i)) ≡ sets before 0 (cells_from l 0 most_cells)
  pub same : length after ≡ length before

pub writing_start : (l : List Value) (s : List ℕ) → Writing l s s 0
writing_start l s = record { onward = refl; same = refl }

pub writing_on : (l : List Value) {s a b : List ℕ} {i : ℕ} → i < most_cells → length b ≡ length a → CellPut l a b i → Writing l s a i → Writing l s b (i + 1)
unfolding cells_from
writing_on l {s} {a} {b} {i} h n e w =
    let C = cells_from l (i + 1) (most_cells - (i + 1)) in
    let p : 2 * (i + 1) ≡ suc (suc (2 * i)) = omega arith in
    let q : i + 1 ≡ suc i = omega arith in
    let r : most_cells - i ≡ suc (most_cells - (i + 1)) = omega arith in
    record {
      onward =
          ap (λ (z : List ℕ). sets z (2 * (i + 1)) C) e.same
          ∙ ap (λ (k : ℕ). sets (sets a (2 * i) (first_word (get_elem? l i) ∷ second_word (get_elem? l i) ∷ [])) k C) p
          ∙ ap (λ (k : ℕ). sets a (2 * i) (first_word (get_elem? l i) ∷ second_word (get_elem? l i) ∷ cells_from l k (most_cells - (i + 1)))) q
          ∙ ap (λ (k : ℕ). sets a (2 * i) (cells_from l i k)) (sym r)
          ∙ w.onward;
      same = n ∙ w.same;
    }

pub writing_end : {l : List Value} {s a : List ℕ} {i : ℕ} → most_cells ≤ i → Writing l s a i → a ≡ over s (cells_from l 0 most_cells)
unfolding cells_from
writing_end {l} {s} {a} {i} h w =
    let z : most_cells - i ≡ 0 = omega arith in
    sym (ap (λ (k : ℕ). sets a (2 * i) (cells_from l i k)) z) ∙ w.onward ∙ sets_over s (cells_from l 0 most_cells)

-- the cells of the machine, by their count
pub cells_told : (m : Machine) (s : List ℕ) {k : List ℕ} (used : ℕ) → used ≡ capped m.used.cells most_cells → k ≡ over s (cells_from (list_of cell_in m.cells used) 0 most_cells)
    → (fs : List ℕ) → k ≡ over s (cell_words (seen m fs))
unfolding cell_words
cells_told m s used e z fs = z ∙ ap (λ (u : ℕ). over s (cells_from (list_of cell_in m.cells u) 0 most_cells)) e

-- two words a cell
pub cells_length : (l : List Value) (i n : ℕ) → length (cells_from l i n) ≡ 2 * n
unfolding cells_from
cells_length l i zero = refl
cells_length l i (suc n) = let h = cells_length l (suc i) n in omega (arith, h)
