-- Why tables are not sent. A refusal is the one that reading gives for the bytes written, or the first entry at fault has it at the place of its command: 2 where there is no such command, which is
-- reading's refusal there too, and three that bytes cannot have, 3 for a command foreign to the table, 5 past the table's limit, 6 for a field too wide. Then 1 and 15 are the lent tables' and the
-- buffer's.
use Rattle.std.specs.Prelude.{◌≡◌, ℕ, ◌/◌, ◌%◌, ◌^◌, ◌≤◌, ◌<◌, true, false, length}
use mathlib.Core.List.{List, [], ◌∷◌, ◌++◌}
use Rattle.syntax.specs.Commands.{Op}
use Rattle.syntax.specs.Reading.{Refusal, most_declared, most_types, most_variables, most_expressions}
use Rattle.syntax.specs.Reading.{refused, refused_at, reading}
use Rattle.syntax.specs.Loading.{JobTables, short}
use Rattle.syntax.specs.Writing.{Counts, Item, item, fault, name_at, type_at, set_at, value_at, head_at, name_numbers, type_numbers, value_numbers}
use Rattle.syntax.specs.Writing.{name_item, type_item, value_item, cmd_item, each, items, script, sent, unsent, writing}
use Rattle.syntax.specs.ScriptLaws.{Own, cmd_numbers, after_names, after_types, after_rights}
use Rattle.syntax.specs.ScriptLaws.{Number}

-- the entry at fault, the entries before it, its command field and the number of its fault
pub data AtFault (w : JobTables) (c : Counts) : List Item → ℕ → ℕ → Type 0 where
  in_names : {n : ℕ} (i : ℕ) → i < c.names → Own 0 most_declared i (name_at w i / 256) (name_numbers (name_at w i)) n → AtFault w c (each (name_item w) 0 i) (name_at w i / 256) n
  in_types : {n : ℕ} (i : ℕ) → i < c.types → Own 1 most_types i (type_at w i % 256) (type_numbers (type_at w i) (set_at w i)) n → AtFault w c (after_names w c (each (type_item w) 0 i)) (type_at w i % 256) n
  in_values : {n : ℕ} (i : ℕ) → i < c.values → Own 2 most_variables i (value_at w i % 256) (value_numbers (value_at w i)) n → AtFault w c (after_types w c (each (value_item w) 0 i)) (value_at w i % 256) n
  in_rights : 256 ^ 8 ≤ c.rights → AtFault w c (after_types w c (each (value_item w) 0 c.values)) 0x21 6
  in_cmds : {n : ℕ} (i : ℕ) → i < c.cmds → Own 4 most_expressions i (head_at w i % 256) (cmd_numbers w i) n → AtFault w c (after_rights w c (each (cmd_item w) 0 i)) (head_at w i % 256) n

-- why tables are not sent
pub data Why (w : JobTables) (c : Counts) (q : Refusal) : Type 0 where
  -- the bytes written before any fault are refused by reading so, at one of them
  as_read : reading (script (items w c)).bytes ≡ refused q → q.place < length (script (items w c)).bytes → Why w c q
  -- the first entry at fault is refused by its fault, at its command. The entries before it have no fault, and reading finds nothing wrong with their bytes but that they end.
  -- If it is no command, then reading refuses it so whatever follows
  by_fault : (before : List Item) (b : ℕ) → AtFault w c before b q.number → (script before).fault ≡ 0 → q.place ≡ length (script before).bytes
      → reading (script before).bytes ≡ refused_at 4 q.place
      → (q.number ≡ 2 → (t : List ℕ) → reading ((script before).bytes ++ (b ∷ t)) ≡ refused q) → Why w c q

-- The first fault

-- the first fault of a script, and the entries before it
pub data First : List Item → List Item → ℕ → Type 0 where
  here : {x : Item} {l : List Item} {n : ℕ} → x ≡ fault n → First (x ∷ l) [] n
  later : {x : Item} {l b : List Item} {n : ℕ} (r : Op × List ℕ) → x ≡ item r → First l b n → First (x ∷ l) (x ∷ b) n

-- the first fault of the tables
pub record Found (w : JobTables) (c : Counts) (n : ℕ) : Type 0 where
  pub before : List Item
  pub field : ℕ
  pub entry : AtFault w c before field n
  pub first : First (items w c) before n

-- a refusal, with its reason and its number
pub record Reason (w : JobTables) (c : Counts) (q : Refusal) : Type 0 where
  pub why : Why w c q
  pub number : Number q.number

pub data WriteWhy (w : JobTables) (c : Counts) (n : ℕ) (q : Refusal) : Type 0 where
  short_table : short w ≡ true → q ≡ record { number = 1; place = 0 } → WriteWhy w c n q
  not_sent : short w ≡ false → writing w c ≡ unsent q → WriteWhy w c n q
  short_buffer : (s : List ℕ) → short w ≡ false → writing w c ≡ sent s → n < length s → q ≡ record { number = 15; place = 0 } → WriteWhy w c n q
