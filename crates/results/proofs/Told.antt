-- The words of a verdict, and of the room of a machine by its counts; and slices that are long enough.
use mathlib.Core.Path.{◌≡◌, refl, sym, ap, ◌∙◌}
use Prim.Native.Nat.{ℕ, ◌+◌, ◌*◌, ◌≤◌}
use native.Mathlib.Omega.{arith}
use mathlib.Core.Bool.{Bool, true, false, not, false≢true}
use mathlib.Core.List.{List, [], ◌∷◌, ◌++◌}
use borrow.Author.Tests.{ltb-false}
use lib.ListN.{length, get_or, set}
use native.Mathlib.Numerals.{add-one}
use lib.Dec.{ltb}
use Rattle.order.specs.Bools.{◌or◌}
use Rattle.semantics.specs.Machine.{Thread as SThread, most_threads, most_cells, most_keys, most_pairs, most_functions, most_frames, most_bindings}
use Rattle.store.specs.Tables.{capped, stack_of}
use Rattle.store.specs.Words.{cell_in, pair_in, function_in, link_in, up_in}
use Rattle.store.specs.Frames.{frame_in}
use Rattle.store.proofs.Laws.{cap_le, list_length, stack_length}
use Rattle.store.specs.declared.Used.{Used}
use Rattle.thread.specs.declared.Thread.{Thread}
use Rattle.machine.specs.declared.Machine.{Machine}
use Rattle.machine.specs.Scheduled.{part_of, idle, thread_at, listed}
use Rattle.machine.specs.Listed.{listed_length}
use Rattle.machine.specs.View.{seen}
use Rattle.calls.specs.Words.{room_for, over}
use Rattle.calls.proofs.Laws.{sets_over}
use Rattle.std.specs.Prelude.{Ok, Err}
use Rattle.judge.specs.Answer.{Verdict}
use Rattle.results.specs.Told.{out_words, frames_of, room_words, count_words, cell_words_lem, lent_short}

pub out_length : (u : Verdict) → length (out_words u) ≡ 2
unfolding out_words
out_length (Ok a) = refl
out_length (Err k) = refl

pub counted : (u : Used) (e g : ℕ) (l : List ℕ) {l1 l2 l3 l4 l5 l6 l7 : List ℕ} {a b c d f : ℕ}
    → a ≡ capped u.cells most_cells → b ≡ capped u.keys most_keys → c ≡ capped u.pairs most_pairs → d ≡ capped u.functions most_functions → f ≡ capped u.bindings most_bindings
    → l1 ≡ set l 0 a → l2 ≡ set l1 1 b → l3 ≡ set l2 2 c → l4 ≡ set l3 3 d → l5 ≡ set l4 4 e → l6 ≡ set l5 5 f → l7 ≡ set l6 6 g → l7 ≡ over l (count_words u e g)
unfolding count_words
counted u e g l {a = a} {b} {c} {d} {f} ha hb hc hd hf h1 h2 h3 h4 h5 h6 h7 =
    h7 ∙ ap (λ z. set z 6 g) (h6 ∙ ap (λ z. set z 5 f) (h5 ∙ ap (λ z. set z 4 e) (h4 ∙ ap (λ z. set z 3 d) (h3 ∙ ap (λ z. set z 2 c) (h2 ∙ ap (λ z. set z 1 b) h1)))))
    ∙ sets_over l (a ∷ b ∷ c ∷ d ∷ e ∷ f ∷ g ∷ [])
    ∙ (λ i. over l (ha i ∷ hb i ∷ hc i ∷ hd i ∷ e ∷ hf i ∷ g ∷ []))

-- The frames of so many threads

frames_snoc : (l : List SThread) (t : SThread) → frames_of (l ++ (t ∷ [])) ≡ frames_of l + length t.frames
unfolding frames_of
frames_snoc [] t = omega arith
frames_snoc (x ∷ l) t = let h = frames_snoc l t in omega (arith, h)

-- one thread more
pub frames_more : (ts : List Thread) (i : ℕ) {x s : ℕ} → x ≡ capped (get_or ts i idle).frames most_frames → ((fs : List ℕ) → s ≡ frames_of (listed (thread_at ts fs) i))
    → (fs : List ℕ) → s + x ≡ frames_of (listed (thread_at ts fs) (i + 1))
unfolding listed thread_at
frames_more ts i {x} {s} h e fs =
    let y : length (stack_of frame_in (part_of fs i) (capped (get_or ts i idle).frames most_frames)) ≡ x = stack_length frame_in (part_of fs i) (capped (get_or ts i idle).frames most_frames) ∙ sym h in
    let z = frames_snoc (listed (thread_at ts fs) i) (thread_at ts fs i) in
    let w : s + x ≡ frames_of (listed (thread_at ts fs) i) + length (thread_at ts fs i).frames = omega (arith, e fs, y) in
    w ∙ sym z ∙ ap (λ (n : ℕ). frames_of (listed (thread_at ts fs) n)) (sym (add-one i))

-- the frames of so many of them are summed
pub record Summing (ts : List Thread) (sum i : ℕ) : Type 0 where
  pub told : (fs : List ℕ) → sum ≡ frames_of (listed (thread_at ts fs) i)
  pub few : sum ≤ i * 256

pub summing_start : (ts : List Thread) → Summing ts 0 0
unfolding listed frames_of
summing_start ts = record { told = λ fs. refl; few = omega arith }

pub summing_on : (ts : List Thread) {s i x : ℕ} → (x ≡ capped (get_or ts i idle).frames most_frames) × (x ≤ most_frames) → Summing ts s i → Summing ts (s + x) (i + 1)
summing_on ts {s} {i} c w = record { told = frames_more ts i c.0 w.told; few = omega (arith, w.few, c.1) }

pub summing_end : {ts : List Thread} {n s i : ℕ} → n ≤ i → i ≤ n → Summing ts s i → (fs : List ℕ) → s ≡ frames_of (listed (thread_at ts fs) n)
summing_end {ts} {n} {s} {i} h g w fs = w.told fs ∙ ap (λ (k : ℕ). frames_of (listed (thread_at ts fs) k)) (let z : i ≡ n = omega arith in z)

pub within_few : (m : ℕ) {n : ℕ} → n ≡ capped m most_threads → n ≤ most_threads
within_few m h = let z = cap_le m most_threads in omega (arith, h, z)

-- the counts are the lengths
pub rooms_told : (m : Machine) (l : List ℕ) {k : List ℕ} {f n g : ℕ} → n ≡ capped m.count most_threads → g ≡ n → ((fs : List ℕ) → f ≡ frames_of (listed (thread_at m.threads fs) n))
    → k ≡ over l (count_words m.used f g) → (fs : List ℕ) → k ≡ over l (room_words (seen m fs))
unfolding count_words room_words
rooms_told m l {n = n} hn hw hf h fs =
    h
    ∙ (λ i.
    over l
    (sym (list_length cell_in m.cells (capped m.used.cells most_cells)) i ∷ sym (list_length up_in m.keys (capped m.used.keys most_keys)) i ∷ sym (list_length pair_in m.pairs (capped m.used.pairs most_pairs)) i
    ∷ sym (list_length function_in m.functions (capped m.used.functions most_functions)) i ∷ (hf fs ∙ ap (λ (z : ℕ). frames_of (listed (thread_at m.threads fs) z)) hn) i
    ∷ sym (list_length link_in m.bindings (capped m.used.bindings most_bindings)) i ∷ (hw ∙ hn ∙ sym (listed_length (thread_at m.threads fs) (capped m.count most_threads))) i ∷ []))

or_none : (a b : Bool) → (a or b) ≡ false → (a ≡ false) × (b ≡ false)
unfolding ◌or◌
or_none true b e = absurd (false≢true (sym e))
or_none false b e = (refl, e)

-- no slice is too short
pub long_lent : (ws a v c o : List ℕ) → lent_short ws a v c o ≡ false → (2 ≤ length v) × (cell_words_lem ≤ length c) × (2 ≤ length o)
unfolding lent_short
long_lent ws a v c o e =
    let x = or_none (not (room_for ws a) or ltb (length v) 2 or ltb (length c) cell_words_lem) (ltb (length o) 2) e in
    let y = or_none (not (room_for ws a) or ltb (length v) 2) (ltb (length c) cell_words_lem) x.0 in
    let z = or_none (not (room_for ws a)) (ltb (length v) 2) y.0 in
    (ltb-false _ _ z.1, ltb-false _ _ y.1, ltb-false _ _ x.1)
