-- From tables to rows: what an entry of each table comes to, what its row means, and that the bytes of a script are read row by row.
use Rattle.std.specs.Prelude.{◌≡◌, ℕ, ◌/◌, ◌%◌, ◌≤◌, ◌<◌, Bool, true, false, cond, length, take}
use mathlib.Core.List.{List, [], ◌∷◌, ◌++◌, flat_map}
use Rattle.std.proofs.Math.Option.{none, some}
use Rattle.order.specs.Effects.{of_word}
use Rattle.syntax.specs.Types.{TypeEntry}
use Rattle.syntax.specs.Commands.{Op, o_rights, o_end, traits, form, op_of, operands, section_of}
use Rattle.syntax.specs.Operands.{wanted, some_wanted}
use Rattle.syntax.specs.Job.{Job}
use Rattle.syntax.specs.Reading.{w_name, w_type, w_value, w_rights, w_cmd, means}
use Rattle.syntax.specs.Reading.{written, enter, Step, refuse, proceed, finish}
use Rattle.syntax.specs.Words.{name_of, value_in, head_roles, filled, decode_as, entry_bits}
use Rattle.syntax.specs.Loading.{JobTables}
use Rattle.syntax.specs.RowsRead.{Narrow}
use Rattle.syntax.specs.Writing.{Counts, Item, item, fault, fits, item_of, head_at, place_at, name_numbers, value_numbers}
use Rattle.syntax.specs.Writing.{name_item, type_item, value_item, fields_of, each}

-- a name's command: one operand
pub record NameOp (op : Op) : Type 0 where
  pub size : length (operands op) ≡ 1
  pub says : (d : ℕ) → d / 256 ≡ (form op).byte → means op (name_numbers d op) ≡ w_name (name_of d)

-- a type's: the first few of four fields. Where they fit, they say the entry that the word stands for
pub record TypeOp (op : Op) : Type 0 where
  pub size : length (operands op) ≤ 4
  pub no_set : ((form op).byte ≡ 0x13 → ⊥) → length (operands op) ≤ 3
  pub says : (q a b s : ℕ) → fits (operands op) (take (length (operands op)) (q ∷ a ∷ b ∷ s ∷ [])) ≡ true
      → (e : TypeEntry) × (means op (take (length (operands op)) (q ∷ a ∷ b ∷ s ∷ [])) ≡ w_type e) × (entry_bits (form op).byte q a (b % 65536) s ≡ some e)

-- a host value's
pub record ValueOp (op : Op) : Type 0 where
  pub size : length (operands op) ≡ 2
  pub says : (d : ℕ) → fits (operands op) (value_numbers d op) ≡ true → means op (value_numbers d op) ≡ w_value (value_in d)

-- the rights'
pub record RightsOp (op : Op) : Type 0 where
  pub size : length (operands op) ≡ 1
  pub says : (n : ℕ) → means op (n ∷ []) ≡ w_rights (of_word n)

-- an expression's command has an operand in its head; how many of its places are operands
unfoldable pub in_head : Op → Bool
unfolding some_wanted form
in_head op = some_wanted head_roles (form op).roles

unfoldable pub places_of : Op → ℕ
unfolding wanted traits form flat_map
places_of op = length (flat_map (λ r. cond (wanted head_roles r) [] (traits r).widths) (form op).roles)

-- an expression's: it has no number from a head with no operand, nor from a place past those
pub record CmdOp (op : Op) : Type 0 where
  pub looks : (x a b c d e : ℕ) → fields_of x (a ∷ b ∷ c ∷ d ∷ e ∷ []) op ≡ fields_of (cond (in_head op) x 0) (filled 5 0 (take (places_of op) (a ∷ b ∷ c ∷ d ∷ e ∷ []))) op
  pub size : (x a b c d e : ℕ) → length (fields_of x (a ∷ b ∷ c ∷ d ∷ e ∷ []) op) ≡ length (operands op)
  pub says : (x a b c d e : ℕ) → fits (operands op) (fields_of x (a ∷ b ∷ c ∷ d ∷ e ∷ []) op) ≡ true
      → means op (fields_of x (a ∷ b ∷ c ∷ d ∷ e ∷ []) op) ≡ w_cmd (decode_as (some op) (x % 4294967296) (a ∷ b ∷ c ∷ d ∷ e ∷ []))

-- an entry's own fault, with its number. i is its place in its table, b its command field, and `numbers` gives the numbers of its operands by its command
pub data Own (sec limit i b : ℕ) (numbers : Op → List ℕ) : ℕ → Type 0 where
  no_command : i < limit → op_of b ≡ none → Own sec limit i b numbers 2
  foreign : i < limit → (op : Op) → op_of b ≡ some op → (section_of op ≡ sec → ⊥) → Own sec limit i b numbers 3
  past_limit : limit ≤ i → Own sec limit i b numbers 5
  too_wide : i < limit → (op : Op) → op_of b ≡ some op → section_of op ≡ sec → fits (operands op) (numbers op) ≡ false → Own sec limit i b numbers 6

-- what an entry comes to: a row of its table, whose numbers fit, or its own fault
pub data Entry (sec limit i b : ℕ) (numbers : Op → List ℕ) : Item → Type 0 where
  sound : (op : Op) → op_of b ≡ some op → section_of op ≡ sec → fits (operands op) (numbers op) ≡ true → Entry sec limit i b numbers (item (op, numbers op))
  faulty : {n : ℕ} → Own sec limit i b numbers n → Entry sec limit i b numbers (fault n)

-- the numbers of the operands of expression i
abbrev pub cmd_numbers : JobTables → ℕ → Op → List ℕ
cmd_numbers w i = fields_of (head_at w i / 256) (place_at w i 0 ∷ place_at w i 1 ∷ place_at w i 2 ∷ place_at w i 3 ∷ place_at w i 4 ∷ [])

-- the numbers of faults and of refusals by a command
pub data Number : ℕ → Type 0 where
  number_2 : Number 2
  number_3 : Number 3
  number_5 : Number 5
  number_6 : Number 6

-- an entry that is not the end: its numbers fit its operands
pub data Inner : Item → Type 0 where
  inner_item : {r : Op × List ℕ} → Narrow (operands r.0) r.1 → section_of r.0 < 5 → Inner (item r)
  inner_fault : {n : ℕ} → Number n → Inner (fault n)

-- such entries, and the end
pub data Closed : List Item → Type 0 where
  closed_end : Closed (item (o_end, []) ∷ [])
  closed_more : {x : Item} {l : List Item} → Inner x → Closed l → Closed (x ∷ l)

-- l after the names, after the types, after the host values and after the rights
abbrev pub after_names : JobTables → Counts → List Item → List Item
after_names w c l = each (name_item w) 0 c.names ++ l

abbrev pub after_types : JobTables → Counts → List Item → List Item
after_types w c l = after_names w c (each (type_item w) 0 c.types ++ l)

abbrev pub after_values : JobTables → Counts → List Item → List Item
after_values w c l = after_types w c (each (value_item w) 0 c.values ++ l)

abbrev pub after_rights : JobTables → Counts → List Item → List Item
after_rights w c l = after_values w c (item_of 3 (some o_rights) (λ op. c.rights ∷ []) ∷ l)

-- the rows before the first fault
unfoldable pub rows_in : List Item → List (Op × List ℕ)
rows_in [] = []
rows_in (fault n ∷ l) = []
rows_in (item r ∷ l) = r ∷ rows_in l

-- what one row comes to
pub data StepOn (op : Op) (o : List ℕ) (J : Job) : Step → Type 0 where
  on_refuse : {n : ℕ} → Number n → StepOn op o J (refuse n)
  on_proceed : (K : Job) → (section_of op ≡ 5 → ⊥) → enter (written op o) J ≡ some K → StepOn op o J (proceed (record { section = section_of op; job = K }))
  on_finish : (K : Job) → section_of op ≡ 5 → enter (written op o) J ≡ some K → StepOn op o J (finish K)
