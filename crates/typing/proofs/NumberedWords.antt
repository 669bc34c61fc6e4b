-- The words of the tables, read back: what the type table and its sets hold of a state's entries are those entries.
use Rattle.std.specs.Prelude.{◌≡◌, ℕ, ◌+◌, ◌*◌, ◌/◌, ◌%◌, ◌≤◌, ◌<◌, get_or}
use Rattle.std.proofs.Math.Path.{refl}
use Rattle.std.proofs.Common.{ap, ◌∙◌, arith}
use Rattle.std.proofs.Math.Option.{Option, none, some}
use Rattle.std.proofs.Math.ListN.{get_elem?}
use Rattle.order.proofs.OrderLaws.{get_elem?_lt}
use Rattle.syntax.specs.Types.{TypeEntry, e_num, e_pair, e_cell, e_fn, e_lim, e_grant}
use Rattle.syntax.specs.Reading.{most_names, most_types}
use Rattle.syntax.specs.Words.{type_bits, type_word, set_word, type_words, set_words, filled, entry_bits, entry_in}
use Rattle.syntax.proofs.WordLaws.{low_byte, word_at, word_past}
use Rattle.syntax.specs.Loading.{most_entries}
use Rattle.typing.specs.Numbered.{Sofar}
use Rattle.typing.specs.NumberedTables.{EntryOk, ok_num, ok_pair, ok_cell, ok_fn, ok_lim, ok_grant}
use Rattle.typing.specs.NumberedLaws.{Fits}

-- the fields of a word
bits_back : (byte q a b s : ℕ) → byte < 256 → q < 256 → a < 65536 → b < 65536
    → entry_bits (type_bits byte q a b % 256) (type_bits byte q a b / 256 % 256) (type_bits byte q a b / 65536 % 65536) (type_bits byte q a b / 4294967296 % 65536) s ≡ entry_bits byte q a b s
bits_back byte q a b s h k l m =
    let w : ℕ = type_bits byte q a b in
    let x : w % 256 ≡ byte = below_mod byte (q + 256 * a + 16777216 * b) w (omega arith) h in
    let y : w / 256 % 256 ≡ q = ap (λ n. n % 256) (over_div byte (q + 256 * a + 16777216 * b) w (omega arith) h) ∙ below_mod q (a + 65536 * b) _ (omega arith) k in
    let z : w / 65536 % 65536 ≡ a = ap (λ n. n % 65536) (half byte q (a + 65536 * b) w (omega arith) h k) ∙ below_half a b _ (omega arith) l in
    let v : w / 4294967296 % 65536 ≡ b = ap (λ n. n % 65536) (top byte q a b w (omega arith) h k l) ∙ small b m in
    λ i. entry_bits (x i) (y i) (z i) (v i) s
  where
    below_mod : (r n w : ℕ) → w ≡ r + 256 * n → r < 256 → w % 256 ≡ r
    below_mod r n w e h = omega arith

    over_div : (r n w : ℕ) → w ≡ r + 256 * n → r < 256 → w / 256 ≡ n
    over_div r n w e h = omega arith

    below_half : (r n w : ℕ) → w ≡ r + 65536 * n → r < 65536 → w % 65536 ≡ r
    below_half r n w e h = omega arith

    half : (r q n w : ℕ) → w ≡ r + 256 * q + 65536 * n → r < 256 → q < 256 → w / 65536 ≡ n
    half r q n w e h k = omega arith

    top : (r q a n w : ℕ) → w ≡ r + 256 * q + 65536 * a + 4294967296 * n → r < 256 → q < 256 → a < 65536 → w / 4294967296 ≡ n
    top r q a n w e h k l = omega arith

    small : (n : ℕ) → n < 65536 → n % 65536 ≡ n
    small n h = omega arith

-- an entry is read back from its word and its set
pub word_back : {n : ℕ} (x : TypeEntry) → EntryOk most_types most_names n x → n ≤ most_entries
    → entry_bits (type_word x % 256) (type_word x / 256 % 256) (type_word x / 65536 % 65536) (type_word x / 4294967296 % 65536) (set_word x) ≡ some x
unfolding type_word set_word entry_bits
word_back (e_num q) (ok_num a) h = bits_back 0x10 q 0 0 0 (omega arith) (omega arith) (omega arith) (omega arith)
word_back (e_pair q y z) (ok_pair a b c) h = bits_back 0x11 q y z 0 (omega arith) (omega arith) (omega arith) (omega arith)
word_back (e_cell q y) (ok_cell a b c) h = bits_back 0x12 q y 0 0 (omega arith) (omega arith) (omega arith) (omega arith)
word_back (e_fn q y z s) (ok_fn a b c d e) h = bits_back 0x13 q y z s.set (omega arith) (omega arith) (omega arith) (omega arith)
word_back (e_lim q r) (ok_lim a b) h = bits_back 0x14 q r 0 0 (omega arith) (omega arith) (omega arith) (omega arith) ∙ ap (λ k. some (e_lim q k)) (low_byte r (omega arith))
word_back (e_grant q r) (ok_grant a b) h = bits_back 0x15 q r 0 0 (omega arith) (omega arith) (omega arith) (omega arith) ∙ ap (λ k. some (e_grant q k)) (low_byte r (omega arith))

-- the entries of a state, from the tables that hold them, filled up with zeros to any length
pub words_back : (σ : Sofar) → Fits σ → (n m i : ℕ) → entry_in (filled n 0 (type_words σ.entries)) (filled m 0 (set_words σ.entries)) i ≡ get_elem? σ.entries i
unfolding entry_in
words_back σ f n m i = at (get_elem? σ.entries i) refl
  where
    bits : ℕ → ℕ → Option TypeEntry
    bits w s = entry_bits (w % 256) (w / 256 % 256) (w / 65536 % 65536) (w / 4294967296 % 65536) s

    nothing : bits 0 0 ≡ none
    nothing = unfold entry_bits in refl

    at : (o : Option TypeEntry) → get_elem? σ.entries i ≡ o → bits (get_or (filled n 0 (type_words σ.entries)) i 0) (get_or (filled m 0 (set_words σ.entries)) i 0) ≡ o
    at none e = (λ k. bits (word_past type_word n σ.entries i e k) (word_past set_word m σ.entries i e k)) ∙ nothing
    at (some x) e =
        (λ k. bits (word_at type_word n σ.entries i x e k) (word_at set_word m σ.entries i x e k))
        ∙ word_back x (f.entry i x e) (omega (arith, get_elem?_lt σ.entries i x e, f.few))
