-- Writing (document 02, F-3): the bytes of the job that lent tables hold, or the first refusal. Nothing is judged here that reading judges: what the tables write is read, and reading's refusal
-- is the answer. Beside it stand the faults that bytes cannot have: a field too wide for its operand, a command foreign to its table, a count above its limit.
use Rattle.std.specs.Prelude.{ℕ, zero, suc, ◌+◌, ◌*◌, ◌/◌, ◌%◌, ◌^◌, Bool, true, cond, List, [], ◌∷◌, ◌++◌, length, get_or, take, drop, eqb, ltb}
use Rattle.std.proofs.Math.Option.{Option, none, some}
use Rattle.order.specs.Bools.{◌and◌}
use Rattle.syntax.specs.Commands.{Op, o_rights, o_end, Role, r_type, traits, form, op_of, operands, section_of}
use Rattle.syntax.specs.Operands.{wanted, some_wanted}
use Rattle.syntax.specs.Reading.{Refusal, Read, refused, read, reading, most_declared, most_types, most_variables, most_expressions}
use Rattle.syntax.specs.Words.{head_roles, places_in}
use Rattle.syntax.specs.Loading.{JobTables, short}
use Rattle.syntax.specs.JobBytes.{command_bytes}

-- how many declared names, types, host values and expressions the tables hold, and the rights, for which there is no table
pub record Counts : Type 0 where
  pub names : ℕ
  pub types : ℕ
  pub values : ℕ
  pub cmds : ℕ
  pub rights : ℕ

-- an entry of a table: its command with its operands' numbers, or the number of its fault
pub data Item : Type 0 where
  item : Op × List ℕ → Item
  fault : ℕ → Item

-- every number fits its operand, whose width is given in bytes
unfoldable pub fits : List ℕ → List ℕ → Bool
fits [] o = true
fits (w ∷ ws) o = ltb (get_or o 0 0) (256 ^ w) and fits ws (drop 1 o)

-- an entry of the table of section `sec`: what its command field says, and the numbers of its operands by its command. "A field too wide for its operand is 6, a command foreign to its table 3"; no
-- command is 2
unfoldable pub item_of : ℕ → Option Op → (Op → List ℕ) → Item
unfolding fits
item_of sec none numbers = fault 2
item_of sec (some op) numbers = cond (eqb (section_of op) sec) (cond (fits (operands op) (numbers op)) (item (op, numbers op)) (fault 6)) (fault 3)

-- entry i of a table: "a count above its limit 5, whatever the entry past it holds"
unfoldable pub within : ℕ → ℕ → Item → Item
within limit i e = cond (ltb i limit) e (fault 5)

-- the words of entry i of each table; an expression has five places
abbrev pub name_at : JobTables → ℕ → ℕ
name_at w i = get_or w.names (2 + i) 0

abbrev pub type_at : JobTables → ℕ → ℕ
type_at w i = get_or w.types i 0

abbrev pub set_at : JobTables → ℕ → ℕ
set_at w i = get_or w.sets i 0

abbrev pub value_at : JobTables → ℕ → ℕ
value_at w i = get_or w.values i 0

abbrev pub head_at : JobTables → ℕ → ℕ
head_at w i = get_or w.heads i 0

abbrev pub place_at : JobTables → ℕ → ℕ → ℕ
place_at w i k = get_or w.slots (i * 5 + k) 0

-- a name: its command above its upper name
abbrev pub name_numbers : ℕ → Op → List ℕ
name_numbers d = λ op. d % 256 ∷ []

abbrev pub name_fields : ℕ → Item
name_fields d = item_of 0 (op_of (d / 256)) (name_numbers d)

unfoldable pub name_item : JobTables → ℕ → Item
unfolding item_of within
name_item w i = within most_declared i (name_fields (name_at w i))

-- a type of word d and set s: its command, its key, its first part; its second part is all that is left of the word. A command has as many of these, and of the set, as it has operands
abbrev pub type_numbers : ℕ → ℕ → Op → List ℕ
type_numbers d s = λ op. take (length (operands op)) (d / 256 % 256 ∷ d / 65536 % 65536 ∷ d / 4294967296 ∷ s ∷ [])

abbrev pub type_fields : ℕ → ℕ → Item
type_fields d s = item_of 1 (op_of (d % 256)) (type_numbers d s)

unfoldable pub type_item : JobTables → ℕ → Item
unfolding item_of within
type_item w i = within most_types i (type_fields (type_at w i) (set_at w i))

-- a host value: its command, its type; its number is all that is left of the word
abbrev pub value_numbers : ℕ → Op → List ℕ
value_numbers d = λ op. d / 256 % 65536 ∷ d / 16777216 ∷ []

abbrev pub value_fields : ℕ → Item
value_fields d = item_of 2 (op_of (d % 256)) (value_numbers d)

unfoldable pub value_item : JobTables → ℕ → Item
unfolding item_of within
value_item w i = within most_variables i (value_fields (value_at w i))

-- the numbers of an expression's operands, in order, by their roles: x is what the head has of them, one byte for each but the last, which has all that is left; l are the places, and t is the type's
unfoldable pub fields_by : List Role → ℕ → List ℕ → ℕ → List ℕ
unfolding wanted some_wanted traits
fields_by [] x l t = []
fields_by (r ∷ rs) x l t =
    cond (wanted head_roles r) (cond (some_wanted head_roles rs) (x % 256) x ∷ fields_by rs (x / 256) l t)
    (cond (wanted (r_type ∷ []) r) (t ∷ fields_by rs x l t)
    (take (length (traits r).widths) l ++ fields_by rs x (drop (length (traits r).widths) l) t))

-- by a command's row, where the places are l
unfoldable pub fields_of : ℕ → List ℕ → Op → List ℕ
unfolding fields_by places_in form
fields_of x l op = fields_by (form op).roles x l (get_or l (places_in (form op).roles) 0)

-- an expression of head h and five places
abbrev pub expr_fields : ℕ → ℕ → ℕ → ℕ → ℕ → ℕ → Item
expr_fields h a b c d e = item_of 4 (op_of (h % 256)) (fields_of (h / 256) (a ∷ b ∷ c ∷ d ∷ e ∷ []))

unfoldable pub cmd_item : JobTables → ℕ → Item
unfolding item_of within fields_of
cmd_item w i = within most_expressions i (expr_fields (head_at w i) (place_at w i 0) (place_at w i 1) (place_at w i 2) (place_at w i 3) (place_at w i 4))

-- f of k numbers from i on
unfoldable pub each : {A : Type 0} → (ℕ → A) → ℕ → ℕ → List A
each f i zero = []
each f i (suc k) = f i ∷ each f (suc i) k

-- all entries in the order of the job, with the rights before the expressions and the end after them
unfoldable pub items : JobTables → Counts → List Item
unfolding each name_item type_item value_item cmd_item item_of
items w c =
    each (name_item w) 0 c.names
    ++ (each (type_item w) 0 c.types
    ++ (each (value_item w) 0 c.values
    ++ (item_of 3 (some o_rights) (λ op. c.rights ∷ [])
    ∷ (each (cmd_item w) 0 c.cmds
    ++ (item (o_end, [])
    ∷ [])))))

-- the bytes of the entries before the first fault, and its number; 0 for none
pub record Script : Type 0 where
  pub bytes : List ℕ
  pub fault : ℕ

unfoldable pub script : List Item → Script
unfolding command_bytes
script [] = record { bytes = []; fault = 0 }
script (fault n ∷ l) = record { bytes = []; fault = n }
script (item r ∷ l) = record { bytes = command_bytes r ++ (script l).bytes; fault = (script l).fault }

-- the bytes of a job, or a refusal
pub data Sent : Type 0 where
  sent : List ℕ → Sent
  unsent : Refusal → Sent

abbrev pub unsent_at : ℕ → ℕ → Sent
unsent_at n p = unsent (record { number = n; place = p })

-- "refused by the number and place that reading their bytes would give": what reading gives for bytes s, after which the tables have fault n, 0 for none. The first fault decides
unfoldable pub judged : ℕ → List ℕ → Read → Sent
judged zero s (read J) = sent s
judged zero s (refused q) = unsent q
judged (suc n) s (read J) = unsent_at (suc n) (length s)
judged (suc n) s (refused q) = cond (ltb q.place (length s)) (unsent q) (unsent_at (suc n) (length s))

unfoldable pub writing : JobTables → Counts → Sent
unfolding items script judged
writing w c = let s : Script = script (items w c) in judged s.fault s.bytes (reading s.bytes)

-- "15 if the buffer is too short, tested last", and 1 first
unfoldable pub fitting : ℕ → Sent → Sent
fitting n (sent s) = cond (ltb n (length s)) (unsent_at 15 0) (sent s)
fitting n (unsent q) = unsent q

unfoldable pub write_with : JobTables → Counts → ℕ → Sent
unfolding fitting
write_with w c n = cond (short w) (unsent_at 1 0) (fitting n (writing w c))

-- "A refusal writes no byte of it", and "bytes past the job's stay"
unfoldable pub buffer_after : Sent → List ℕ → List ℕ
buffer_after (sent s) b = s ++ drop (length s) b
buffer_after (unsent q) b = b
