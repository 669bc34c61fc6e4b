-- What writing doesn't look at: entries that the counts don't count, and fields of a word that are neither its command nor an operand of it. Tables that differ nowhere else write the same bytes,
-- or are refused the same way.
use Rattle.std.specs.Prelude.{◌≡◌, refl, ℕ, zero, suc, ◌+◌, ◌*◌, ◌/◌, ◌%◌, ◌≤◌, ◌<◌, Bool, true, false, cond, List, [], ◌∷◌, ◌++◌, length, get_or, set, take, eqb, ltb}
use Rattle.std.proofs.Common.{sym, ap, ap₂, ◌∙◌, subst, arith, get_or-take, get_or-set_same, get_or-set_other, take-take, ltb-true, ltb-false, eqb-true}
use Rattle.std.proofs.Math.Option.{Option, none, some, none-ne-some, some-injective}
use Rattle.std.proofs.Math.ListN.{get_or-eq_default}
use Rattle.std.proofs.lemmas.Bool.{eqb-false}
use Rattle.syntax.specs.Commands.{Op, o_rights, o_end, op_of, find_op, commands, operands, section_of}
use Rattle.syntax.specs.Reading.{most_declared, most_types, most_variables, most_expressions, reading}
use Rattle.syntax.specs.Words.{filled}
use Rattle.syntax.specs.Loading.{JobTables}
use Rattle.syntax.proofs.ReadPlaces.{op_byte}
use Rattle.syntax.specs.Writing.{Counts, Item, item, fault, fits, item_of, within, name_at, type_at, set_at, value_at, head_at, place_at, name_numbers, type_numbers, value_numbers}
use Rattle.syntax.specs.Writing.{name_item, type_item, value_item, fields_of, cmd_item, each, items, Script, script, judged, writing}
use Rattle.syntax.specs.ScriptLaws.{cmd_numbers, in_head, places_of}
use Rattle.syntax.proofs.ScriptLaws.{type_op, cmd_op}
use Rattle.syntax.specs.Unlooked.{SameCmd, SameLooked, SameName, SameRow, SameType, SameValue, cut_at, with_heads, with_names, with_types}

-- an entry up to its limit
entry_same : {sec x y : ℕ} {f g : Op → List ℕ} (limit i : ℕ) → (i < limit → SameRow sec x y f g) → within limit i (item_of sec (op_of x) f) ≡ within limit i (item_of sec (op_of y) g)
unfolding within item_of
entry_same {sec} {x} {y} {f} {g} limit i s = at (ltb i limit) refl
  where
    by : (b : Option Op) → ((op : Op) → b ≡ some op → section_of op ≡ sec → f op ≡ g op) → item_of sec b f ≡ item_of sec b g
    by none h = refl
    by (some op) h = in_section (eqb (section_of op) sec) refl
      where
        of : List ℕ → Item
        of o = cond (fits (operands op) o) (item (op, o)) (fault 6)

        in_section : (t : Bool) → eqb (section_of op) sec ≡ t → cond t (of (f op)) (fault 3) ≡ cond t (of (g op)) (fault 3)
        in_section true z = ap of (h op refl (eqb-true (section_of op) sec z))
        in_section false z = refl

    at : (t : Bool) → ltb i limit ≡ t → cond t (item_of sec (op_of x) f) (fault 5) ≡ cond t (item_of sec (op_of y) g) (fault 5)
    at true e = let r = s (ltb-true i limit e) in by (op_of x) r.operands_are ∙ ap (λ (b : ℕ). item_of sec (op_of b) g) r.command
    at false e = refl

each_same : (f g : ℕ → Item) (i k : ℕ) → ((n : ℕ) → n < i + k → f n ≡ g n) → each f i k ≡ each g i k
unfolding each
each_same f g i zero h = refl
each_same f g i (suc k) h = ap₂ (λ (x : Item) (y : List Item). x ∷ y) (h i (omega arith)) (each_same f g (suc i) k (λ n l. h n (omega arith)))

items_same : {w v : JobTables} {c : Counts} → SameLooked w v c → items w c ≡ items v c
unfolding items name_item type_item value_item cmd_item
items_same {w} {v} {c} s =
    let n = all (name_item w) (name_item v) c.names (λ i h. entry_same most_declared i (s.names i h)) in
    let t = all (type_item w) (type_item v) c.types (λ i h. entry_same most_types i (s.types i h)) in
    let x = all (value_item w) (value_item v) c.values (λ i h. entry_same most_variables i (s.values i h)) in
    let k = all (cmd_item w) (cmd_item v) c.cmds (λ i h. entry_same most_expressions i (s.cmds i h)) in
    λ i. n i ++ (t i ++ (x i ++ (item_of 3 (some o_rights) (λ op. c.rights ∷ []) ∷ (k i ++ (item (o_end, []) ∷ [])))))
  where
    all : (f g : ℕ → Item) (k : ℕ) → ((n : ℕ) → n < k → f n ≡ g n) → each f 0 k ≡ each g 0 k
    all f g k h = each_same f g 0 k (λ n l. h n (omega arith))

-- nothing else is looked at
pub not_looked_at : {w v : JobTables} {c : Counts} → SameLooked w v c → writing w c ≡ writing v c
unfolding writing
not_looked_at s = ap (λ (l : List Item). let x : Script = script l in judged x.fault x.bytes (reading x.bytes)) (items_same s)

-- Tables cut off

-- entries whose words are the same
row_refl : {sec x : ℕ} {f : Op → List ℕ} → SameRow sec x x f f
row_refl = record { command = refl; operands_are = λ op e z. refl }

name_words_lem : (w v : JobTables) (i : ℕ) → name_at w i ≡ name_at v i → SameName w v i
name_words_lem w v i p = record { command = ap (λ (d : ℕ). d / 256) p; operands_are = λ op e z. ap (λ (d : ℕ). name_numbers d op) p }

type_words_lem : (w v : JobTables) (i : ℕ) → type_at w i ≡ type_at v i → set_at w i ≡ set_at v i → SameType w v i
type_words_lem w v i p q = record { command = ap (λ (d : ℕ). d % 256) p; operands_are = λ op e z. ap₂ (λ (d s : ℕ). type_numbers d s op) p q }

value_words_lem : (w v : JobTables) (i : ℕ) → value_at w i ≡ value_at v i → SameValue w v i
value_words_lem w v i p = record { command = ap (λ (d : ℕ). d % 256) p; operands_are = λ op e z. ap (λ (d : ℕ). value_numbers d op) p }

cmd_words : (w v : JobTables) (i : ℕ) → head_at w i ≡ head_at v i → ((k : ℕ) → k < 5 → place_at w i k ≡ place_at v i k) → SameCmd w v i
cmd_words w v i p q =
    record {
      command = ap (λ (d : ℕ). d % 256) p;
      operands_are = λ op e z. λ j. fields_of (p j / 256) (q 0 (omega arith) j ∷ q 1 (omega arith) j ∷ q 2 (omega arith) j ∷ q 3 (omega arith) j ∷ q 4 (omega arith) j ∷ []) op;
    }

pub cut_written : (w : JobTables) (c : Counts) → writing (cut_at c w) c ≡ writing w c
unfolding cut_at
cut_written w c =
    not_looked_at
    (record {
      names = λ i h l. name_words_lem (cut_at c w) w i (get_or-take (2 + c.names) w.names (2 + i) 0 (omega arith));
      types = λ i h l. type_words_lem (cut_at c w) w i (get_or-take c.types w.types i 0 h) (get_or-take c.types w.sets i 0 h);
      values = λ i h l. value_words_lem (cut_at c w) w i (get_or-take c.values w.values i 0 h);
      cmds = λ i h l. cmd_words (cut_at c w) w i (get_or-take c.cmds w.heads i 0 h) (λ k b. get_or-take (c.cmds * 5) w.slots (i * 5 + k) 0 (omega arith));
    })

-- so entries at and past the counts can be anything
pub past_counts : (w v : JobTables) (c : Counts) → cut_at c w ≡ cut_at c v → writing w c ≡ writing v c
past_counts w v c e = sym (cut_written w c) ∙ ap (λ (x : JobTables). writing x c) e ∙ cut_written v c

-- Fields

types_alone : (w : JobTables) (c : Counts) (l s : List ℕ) → ((n : ℕ) → SameType w (with_types l s w) n) → writing (with_types l s w) c ≡ writing w c
types_alone w c l s f = sym (not_looked_at (record { names = λ n h k. row_refl; types = λ n h k. f n; values = λ n h k. row_refl; cmds = λ n h k. row_refl }))

heads_alone : (w : JobTables) (c : Counts) (l s : List ℕ) → ((n : ℕ) → SameCmd w (with_heads l s w) n) → writing (with_heads l s w) c ≡ writing w c
heads_alone w c l s f = sym (not_looked_at (record { names = λ n h k. row_refl; types = λ n h k. row_refl; values = λ n h k. row_refl; cmds = λ n h k. f n }))

-- names 0 and 1 can be anything
pub names_0_1 : (w : JobTables) (c : Counts) (a b : ℕ) → writing (with_names (set (set w.names 0 a) 1 b) w) c ≡ writing w c
names_0_1 w c a b =
    not_looked_at
    (record {
      names = λ i h l. name_words_lem (with_names (set (set w.names 0 a) 1 b) w) w i
          (get_or-set_other (set w.names 0 a) 1 (2 + i) b 0 (λ e. omega arith) ∙ get_or-set_other w.names 0 (2 + i) a 0 (λ e. omega arith));
      types = λ i h l. row_refl;
      values = λ i h l. row_refl;
      cmds = λ i h l. row_refl;
    })

-- a word that has a command stands in its table
there : (l : List ℕ) (i : ℕ) (op : Op) → op_of (get_or l i 0 % 256) ≡ some op → i < length l
unfolding op_of find_op commands
there l i op e = at (ltb i (length l)) refl
  where
    at : (t : Bool) → ltb i (length l) ≡ t → i < length l
    at true z = ltb-true i (length l) z
    at false z = absurd (none-ne-some op (ap (λ (d : ℕ). op_of (d % 256)) (sym (get_or-eq_default l 0 (ltb-false i (length l) z))) ∙ e))

-- entry i, and the others
here_or_not : (P : ℕ → Type 0) (i n : ℕ) → P i → ((n ≡ i → ⊥) → P n) → P n
here_or_not P i n x f = at (eqb n i) refl
  where
    at : (t : Bool) → eqb n i ≡ t → P n
    at true z = subst P (sym (eqb-true n i z)) x
    at false z = f (eqb-false n i z)

-- of a list, k entries decide fewer than k
take_fewer : (n k : ℕ) (l m : List ℕ) → n ≤ k → take k l ≡ take k m → take n l ≡ take n m
take_fewer n k l m h e = sym (take-take n k l h) ∙ ap (take n) e ∙ take-take n k m h

-- the set of a type can be anything but for the command 0x13
pub set_rest : (w : JobTables) (c : Counts) (i s : ℕ) → (type_at w i % 256 ≡ 0x13 → ⊥) → writing (with_types w.types (set w.sets i s) w) c ≡ writing w c
set_rest w c i s ne = types_alone w c w.types (set w.sets i s) (λ n. here_or_not (SameType w v) i n here (λ no. type_words_lem w v n refl (sym (get_or-set_other w.sets i n s 0 no))))
  where
    v : JobTables
    v = with_types w.types (set w.sets i s) w

    here : SameType w v i
    here = record { command = refl; operands_are = λ op f z. take_fewer _ 3 _ _ ((type_op op z).no_set (λ h. ne (op_byte _ op f ∙ h))) refl }

-- a type with at most k operands: another word y with the same command, and the same first k fields
word_rest : (w : JobTables) (c : Counts) (i k y : ℕ) (op : Op) → op_of (type_at w i % 256) ≡ some op → length (operands op) ≤ k
    → let d : ℕ = type_at w i in d % 256 ≡ y % 256
    → take k (d / 256 % 256 ∷ d / 65536 % 65536 ∷ d / 4294967296 ∷ set_at w i ∷ []) ≡ take k (y / 256 % 256 ∷ y / 65536 % 65536 ∷ y / 4294967296 ∷ set_at w i ∷ [])
    → writing (with_types (set w.types i y) w.sets w) c ≡ writing w c
word_rest w c i k y op e l p q =
    types_alone w c (set w.types i y) w.sets (λ n. here_or_not (SameType w v) i n here (λ no. type_words_lem w v n (sym (get_or-set_other w.types i n y 0 no)) refl))
  where
    v : JobTables
    v = with_types (set w.types i y) w.sets w

    here : SameType w v i
    here =
        subst (λ (d : ℕ). SameRow 1 (type_at w i % 256) (d % 256) (type_numbers (type_at w i) (set_at w i)) (type_numbers d (set_at w i))) (sym (get_or-set_same w.types i y 0 (there w.types i op e)))
        (record { command = p; operands_are = λ o f z. take_fewer _ k _ _ (subst (λ (o : Op). length (operands o) ≤ k) (some-injective op o (sym e ∙ f)) l) q })

-- the second part, x, can be anything for a command with two operands or fewer, which are 0x10, 0x12, 0x14 and 0x15
pub second_rest : (w : JobTables) (c : Counts) (i x : ℕ) (op : Op) → op_of (type_at w i % 256) ≡ some op → length (operands op) ≤ 2
    → writing (with_types (set w.types i (type_at w i % 4294967296 + 4294967296 * x)) w.sets w) c ≡ writing w c
second_rest w c i x op e l = let z = low (type_at w i) in word_rest w c i 2 _ op e l z.0 (λ j. z.1 j ∷ z.2 j ∷ [])
  where
    low : (d : ℕ) → let y : ℕ = d % 4294967296 + 4294967296 * x in (d % 256 ≡ y % 256) × (d / 256 % 256 ≡ y / 256 % 256) × (d / 65536 % 65536 ≡ y / 65536 % 65536)
    low d = (omega arith, omega arith, omega arith)

-- both parts, x, for a command with one, which is 0x10
pub parts_rest : (w : JobTables) (c : Counts) (i x : ℕ) (op : Op) → op_of (type_at w i % 256) ≡ some op → length (operands op) ≤ 1
    → writing (with_types (set w.types i (type_at w i % 65536 + 65536 * x)) w.sets w) c ≡ writing w c
parts_rest w c i x op e l = let z = low (type_at w i) in word_rest w c i 1 _ op e l z.0 (λ j. z.1 j ∷ [])
  where
    low : (d : ℕ) → let y : ℕ = d % 65536 + 65536 * x in (d % 256 ≡ y % 256) × (d / 256 % 256 ≡ y / 256 % 256)
    low d = (omega arith, omega arith)

-- places of two lists of places
take_each : (n i k : ℕ) (f g : ℕ → ℕ) → ((j : ℕ) → j < i + n → f j ≡ g j) → take n (each f i k) ≡ take n (each g i k)
unfolding each
take_each zero i k f g h = refl
take_each (suc n) i zero f g h = refl
take_each (suc n) i (suc k) f g h = ap₂ (λ (x : ℕ) (y : List ℕ). x ∷ y) (h i (omega arith)) (take_each n (suc i) k f g (λ j l. h j (omega arith)))

-- an expression whose command has an operand in its head, if at all, and so many places: nothing else is looked at
cmd_row : (w v : JobTables) (i : ℕ) (op : Op) → op_of (head_at w i % 256) ≡ some op → head_at w i % 256 ≡ head_at v i % 256 → (in_head op ≡ true → head_at w i / 256 ≡ head_at v i / 256)
    → ((k : ℕ) → k < places_of op → place_at w i k ≡ place_at v i k) → SameCmd w v i
unfolding each
cmd_row w v i op e p q r =
    record {
      command = p;
      operands_are =
          λ o f z. subst (λ (o : Op). section_of o ≡ 4 → cmd_numbers w i o ≡ cmd_numbers v i o) (some-injective op o (sym e ∙ f))
          (λ s.
          (cmd_op op s).looks _ _ _ _ _ _
          ∙ ap₂ (λ (x : ℕ) (l : List ℕ). fields_of x (filled 5 0 l) op) (in_head_lem (in_head op) refl) (take_each (places_of op) 0 5 (place_at w i) (place_at v i) (λ j l. r j (omega arith)))
          ∙ sym ((cmd_op op s).looks _ _ _ _ _ _)) z;
    }
  where
    in_head_lem : (b : Bool) → in_head op ≡ b → cond b (head_at w i / 256) 0 ≡ cond b (head_at v i / 256) 0
    in_head_lem true h = q h
    in_head_lem false h = refl

-- the rest of its head, x, can be anything for a command with no operand there, which are 0x31, 0x33, 0x36 to 0x39, 0x3B, 0x3D, 0x3F and 0x40
pub head_rest : (w : JobTables) (c : Counts) (i x : ℕ) (op : Op) → op_of (head_at w i % 256) ≡ some op → in_head op ≡ false
    → writing (with_heads (set w.heads i (head_at w i % 256 + 256 * x)) w.slots w) c ≡ writing w c
head_rest w c i x op e f =
    heads_alone w c (set w.heads i y) w.slots (λ n. here_or_not (SameCmd w v) i n here (λ no. cmd_words w v n (sym (get_or-set_other w.heads i n y 0 no)) (λ k b. refl)))
  where
    y : ℕ
    y = head_at w i % 256 + 256 * x

    v : JobTables
    v = with_heads (set w.heads i y) w.slots w

    low : (d : ℕ) → d % 256 ≡ (d % 256 + 256 * x) % 256
    low d = omega arith

    here : SameCmd w v i
    here =
        cmd_row w v i op e (low (head_at w i) ∙ ap (λ (d : ℕ). d % 256) (sym (get_or-set_same w.heads i y 0 (there w.heads i op e))))
        (λ t. absurd (let z : ◌≡◌ {A = ℕ} 0 1 = cc in omega arith)) (λ k b. refl)

-- place k can be anything past those of the command: 0x33, 0x35 to 0x38, 0x3A, 0x3D and 0x3F have two, 0x34 and 0x39 one, 0x3B and 0x40 four, 0x3E three, 0x3C all five, the others none
pub place_rest : (w : JobTables) (c : Counts) (i k n : ℕ) (op : Op) → op_of (head_at w i % 256) ≡ some op → places_of op ≤ k → k < 5
    → writing (with_heads w.heads (set w.slots (i * 5 + k) n) w) c ≡ writing w c
place_rest w c i k n op e l h =
    heads_alone w c w.heads (set w.slots (i * 5 + k) n)
    (λ m. here_or_not (SameCmd w v) i m here (λ no. cmd_words w v m refl (λ j b. other m j (λ z. no (apart m j b z)))))
  where
    v : JobTables
    v = with_heads w.heads (set w.slots (i * 5 + k) n) w

    other : (m j : ℕ) → (m * 5 + j ≡ i * 5 + k → ⊥) → place_at w m j ≡ place_at v m j
    other m j z = sym (get_or-set_other w.slots (i * 5 + k) (m * 5 + j) n 0 z)

    apart : (m j : ℕ) → j < 5 → m * 5 + j ≡ i * 5 + k → m ≡ i
    apart m j b z = omega arith

    here : SameCmd w v i
    here = cmd_row w v i op e refl (λ t. refl) (λ j b. other i j (λ z. omega arith))
