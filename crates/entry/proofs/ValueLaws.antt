-- Host values: what the words of a declared type say of it.
use mathlib.Core.Path.{◌≡◌, refl, sym, ap, ◌∙◌}
use Prim.Native.Nat.{ℕ, ◌+◌, ◌*◌, ◌/◌, ◌%◌, ◌≤◌, ◌<◌}
use native.Mathlib.Omega.{arith}
use mathlib.Core.Bool.{Bool, true, false, cond}
use mathlib.Core.List.{List}
use mathlib.Core.Option.{some}
use lib.ListN.{length, get_or, get_elem?}
use lib.Dec.{eqb, ltb}
use borrow.Author.Tests.{eq-eqb, ne_eqb, eqb-true, eqb-false, lt-ltb, le-ltb, ltb-true}
use Rattle.std.specs.Prelude.{Ok, Err}
use Rattle.order.specs.Bools.{◌and◌}
use Rattle.order.proofs.Bools.{and_l, and_r}
use Rattle.order.proofs.OrderLaws.{get_elem?_some}
use Rattle.syntax.specs.Types.{Ty, TypeEntry, e_num, e_pair, e_cell, e_fn, e_lim, e_grant, entry_tree, tree, by_type, on_num, on_cell, on_grant, on_lim}
use Rattle.syntax.specs.Commands.{o_value, operands}
use Rattle.syntax.specs.Job.{Name, Job}
use Rattle.syntax.specs.Words.{type_word, value_word}
use Rattle.syntax.specs.Reading.{declared, open_name, parts_ok, unkeyed_number, host_type_ok, host_value_ok, written}
use Rattle.syntax.specs.ReadLaws.{TypesOk}
use Rattle.syntax.proofs.ReadFormed.{entry_parts, tree_at}
use Rattle.entry.specs.Bytes.{field_at}
use Rattle.entry.specs.Entries.{host_word_ok, value_entry}
use Rattle.entry.specs.declared.Entry.TheVariants.{Valued}
use Rattle.entry.proofs.Ops.{fields_from}
use Rattle.entry.proofs.Entered.{ok_w, entry_w, judged_w}

module _ (types : List ℕ) (ds : List Name) (w x : ℕ) where
  not_host : w % 256 < 20 → (w % 256 ≡ 18 → ⊥) → host_word_ok types ds w x ≡ false
  unfolding host_word_ok
  not_host h n = simp (ne_eqb (w % 256) 18 n, lt-ltb (w % 256) 20 h)

  cell_host : (q a : ℕ) → w % 256 ≡ 18 → w / 256 % 256 ≡ q → w / 65536 % 65536 ≡ a → host_word_ok types ds w x ≡ cond (open_name ds q) (eqb (get_or types a 0 % 65536) 0x10) false
  unfolding host_word_ok
  cell_host q a e f g = simp (eq-eqb (w % 256) 18 e, f, g)

  key_host : (q r : ℕ) → 20 ≤ w % 256 → w / 256 % 256 ≡ q → w / 65536 % 256 ≡ r → host_word_ok types ds w x ≡ cond (open_name ds q) (cond (open_name ds r) (eqb x 0) false) false
  unfolding host_word_ok
  key_host q r h f g = simp (ne_eqb (w % 256) 18 (λ e. omega arith), le-ltb (w % 256) 20 h, f, g)

both : (p q : Bool) → cond p q false ≡ (p and q)
unfolding ◌and◌
both true q = refl
both false q = refl

all_three : (p q r : Bool) → cond p (cond q r false) false ≡ (p and q and r)
unfolding ◌and◌
all_three true q r = both q r
all_three false q r = refl

module _ (J : Job) (ok : TypesOk J.names J.types) (few : length J.names ≤ 62) (few_types : length J.types ≤ 256)
    (types : List ℕ) (words : (i : ℕ) (e : TypeEntry) → get_elem? J.types i ≡ some e → get_or types i 0 ≡ type_word e) where
  small : (q : ℕ) → declared J.names q ≡ true → q < 256
  unfolding declared
  small q h = omega (arith, ltb-true q (2 + length J.names) h)

  -- the words of a number, and of an unkeyed one
  number : (q : ℕ) → q < 256 → (b : Bool) → eqb q 0 ≡ b → eqb ((16 + 256 * q) % 65536) 16 ≡ b
  number q h true e = let z : q ≡ 0 = eqb-true q 0 e in ap (λ (k : ℕ). eqb ((16 + 256 * k) % 65536) 16) z
  number q h false e = let y : (16 + 256 * q) % 65536 ≡ 16 + 256 * q = omega arith in ne_eqb ((16 + 256 * q) % 65536) 16 (λ z. eqb-false q 0 e (omega arith))

  other : (n q a b : ℕ) → 16 < n → n < 256 → q < 256 → eqb ((n + 256 * q + 65536 * a + 4294967296 * b) % 65536) 16 ≡ false
  other n q a b g h k =
      let z : (n + 256 * q + 65536 * a + 4294967296 * b) % 65536 ≡ n + 256 * q = omega arith in
      ne_eqb ((n + 256 * q + 65536 * a + 4294967296 * b) % 65536) 16 (λ y. omega arith)

  content_of : (i : ℕ) (e : TypeEntry) → parts_ok J.names i e ≡ true → eqb (type_word e % 65536) 0x10 ≡ unkeyed_number (entry_tree (some e) (tree J.types))
  unfolding type_word parts_ok entry_tree unkeyed_number on_num by_type
  content_of i (e_num q) h =
      let z : (0x10 + 256 * q + 65536 * 0 + 4294967296 * 0) % 65536 ≡ (16 + 256 * q) % 65536 = omega arith in
      ap (λ (k : ℕ). eqb k 16) z ∙ number q (small q h) (eqb q 0) refl
  content_of i (e_pair q a b) h = let k = small q (and_l _ _ (and_l _ _ h)) in other 17 q a b (omega arith) (omega arith) k
  content_of i (e_cell q a) h = let k = small q (and_l _ _ h) in other 18 q a 0 (omega arith) (omega arith) k
  content_of i (e_fn q a b s) h = let k = small q (and_l _ _ (and_l _ _ (and_l _ _ h))) in other 19 q a b (omega arith) (omega arith) k
  content_of i (e_lim q r) h = let k = small q (and_l _ _ (and_l _ _ h)) in other 20 q r 0 (omega arith) (omega arith) k
  content_of i (e_grant q r) h = let k = small q (and_l _ _ (and_l _ _ h)) in other 21 q r 0 (omega arith) (omega arith) k

  content : (a : ℕ) → a < length J.types → eqb (get_or types a 0 % 65536) 0x10 ≡ unkeyed_number (tree J.types a)
  content a h = at (get_elem?_some J.types a h)
    where
      at : (e : TypeEntry) × (get_elem? J.types a ≡ some e) → eqb (get_or types a 0 % 65536) 0x10 ≡ unkeyed_number (tree J.types a)
      at (e, z) = ap (λ (w : ℕ). eqb (w % 65536) 0x10) (words a e z) ∙ content_of a e (entry_parts J.names ok a e z) ∙ sym (ap unkeyed_number (tree_at J.names ok a e z))

  plain_of : (x n q a b : ℕ) → n < 20 → (n ≡ 18 → ⊥) → host_word_ok types J.names (n + 256 * q + 65536 * a + 4294967296 * b) x ≡ false
  plain_of x n q a b h f =
      let z : (n + 256 * q + 65536 * a + 4294967296 * b) % 256 ≡ n = omega arith in
      not_host types J.names (n + 256 * q + 65536 * a + 4294967296 * b) x (omega arith) (λ y. f (omega arith))

  byte_1 : (n q a b : ℕ) → n < 256 → q < 256 → (n + 256 * q + 65536 * a + 4294967296 * b) / 256 % 256 ≡ q
  byte_1 n q a b h k = let z : (n + 256 * q + 65536 * a + 4294967296 * b) / 256 ≡ q + 256 * a + 16777216 * b = omega arith in rw z (omega arith)

  byte_2 : (n q a b : ℕ) → n < 256 → q < 256 → a < 65536 → (n + 256 * q + 65536 * a + 4294967296 * b) / 65536 % 65536 ≡ a
  byte_2 n q a b h k l = let z : (n + 256 * q + 65536 * a + 4294967296 * b) / 65536 ≡ a + 65536 * b = omega arith in rw z (omega arith)

  byte_3 : (n q r : ℕ) → n < 256 → q < 256 → r < 256 → (n + 256 * q + 65536 * r + 4294967296 * 0) / 65536 % 256 ≡ r
  byte_3 n q r h k l = let z : (n + 256 * q + 65536 * r + 4294967296 * 0) / 65536 ≡ r = omega arith in rw z (omega arith)

  low : (n q r : ℕ) → 20 ≤ n → n < 256 → 20 ≤ (n + 256 * q + 65536 * r + 4294967296 * 0) % 256
  low n q r g h = let z : (n + 256 * q + 65536 * r + 4294967296 * 0) % 256 ≡ n = omega arith in omega arith

  host_of_lem : (i x : ℕ) → i < length J.types → (e : TypeEntry) → parts_ok J.names i e ≡ true → host_word_ok types J.names (type_word e) x ≡ host_type_ok J.names (entry_tree (some e) (tree J.types)) x
  unfolding type_word parts_ok entry_tree host_type_ok on_cell by_type on_lim on_grant
  host_of_lem i x l (e_num q) h = plain_of x 16 q 0 0 (omega arith) (λ z. omega arith)
  host_of_lem i x l (e_pair q a b) h = plain_of x 17 q a b (omega arith) (λ z. omega arith)
  host_of_lem i x l (e_cell q a) h =
      let k = small q (and_l _ _ h) in
      let y = ltb-true a i (and_r _ _ h) in
      cell_host types J.names (18 + 256 * q + 65536 * a + 4294967296 * 0) x q a (omega arith) (byte_1 18 q a 0 (omega arith) k) (byte_2 18 q a 0 (omega arith) k (omega arith))
      ∙ ap (λ (b : Bool). cond (open_name J.names q) b false) (content a (omega arith))
      ∙ both (open_name J.names q) (unkeyed_number (tree J.types a))
  host_of_lem i x l (e_fn q a b s) h = plain_of x 19 q a b (omega arith) (λ z. omega arith)
  host_of_lem i x l (e_lim q r) h =
      let k = small q (and_l _ _ (and_l _ _ h)) in
      let y = small r (and_r _ _ (and_l _ _ h)) in
      key_host types J.names (20 + 256 * q + 65536 * r + 4294967296 * 0) x q r (low 20 q r (omega arith) (omega arith)) (byte_1 20 q r 0 (omega arith) k) (byte_3 20 q r (omega arith) k y) ∙ all_three (open_name J.names q) (open_name J.names r) (eqb x 0)
  host_of_lem i x l (e_grant q r) h =
      let k = small q (and_l _ _ (and_l _ _ h)) in
      let y = small r (and_r _ _ (and_l _ _ h)) in
      key_host types J.names (21 + 256 * q + 65536 * r + 4294967296 * 0) x q r (low 21 q r (omega arith) (omega arith)) (byte_1 21 q r 0 (omega arith) k) (byte_3 21 q r (omega arith) k y) ∙ all_three (open_name J.names q) (open_name J.names r) (eqb x 0)

  host_word : (i x : ℕ) → i < length J.types → host_word_ok types J.names (get_or types i 0) x ≡ host_type_ok J.names (tree J.types i) x
  host_word i x h = at (get_elem?_some J.types i h)
    where
      at : (e : TypeEntry) × (get_elem? J.types i ≡ some e) → host_word_ok types J.names (get_or types i 0) x ≡ host_type_ok J.names (tree J.types i) x
      at (e, z) =
          ap (λ (w : ℕ). host_word_ok types J.names w x) (words i e z) ∙ host_of_lem i x h e (entry_parts J.names ok i e z)
          ∙ sym (ap (λ (t : Ty). host_type_ok J.names t x) (tree_at J.names ok i e z))

  pub law_o_value : (s : List ℕ) → value_entry s J.names types (length J.types) ≡ judged_w (written o_value (fields_from (operands o_value) s 1)) J
  unfolding value_entry written operands fields_from judged_w ok_w entry_w host_value_ok value_word ◌and◌
  law_o_value s = ap (λ (b : Bool). cond b (Ok (Valued (0x20 + 256 * field_at 2 s 1 + 16777216 * field_at 4 s 3))) (Err 6)) (at (ltb (field_at 2 s 1) (length J.types)) refl)
    where
      at : (b : Bool) → ltb (field_at 2 s 1) (length J.types) ≡ b
          → cond b (host_word_ok types J.names (get_or types (field_at 2 s 1) 0) (field_at 4 s 3)) false ≡ (b and host_type_ok J.names (tree J.types (field_at 2 s 1)) (field_at 4 s 3))
      at true e = host_word (field_at 2 s 1) (field_at 4 s 3) (ltb-true (field_at 2 s 1) (length J.types) e)
      at false e = refl
