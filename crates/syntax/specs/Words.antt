-- A job's tables as numbers: what the lent tables hold of names, types, host values and expressions.
use Rattle.std.specs.Prelude.{ℕ, ◌+◌, ◌-◌, ◌*◌, ◌/◌, ◌%◌, cond, length, replicate, get_or, take, drop, eqb}
use mathlib.Core.List.{List, [], ◌∷◌, ◌++◌, map, flat_map}
use Rattle.std.proofs.Math.Option.{Option, none, some}
use Rattle.order.specs.Effects.{Effect, of_word}
use Rattle.syntax.specs.Types.{TypeEntry, e_num, e_pair, e_cell, e_fn, e_lim, e_grant}
use Rattle.syntax.specs.Commands.{Cmd, c_num, Op, o_number, o_pair, o_cell, o_function, o_limit, o_grant, traits, form, row, commands, find_op, op_of}
use Rattle.syntax.specs.Commands.{Role, r_evaluated, r_entered, r_inside, r_count, r_keys, r_unused, r_variable, r_parameter, r_keypair, r_local, r_type, r_number, r_choice}
use Rattle.syntax.specs.Operands.{wanted, of_roles, types_of}
use Rattle.syntax.specs.Job.{Name, HostValue, Job}
use Rattle.syntax.specs.Reading.{Written, w_name, w_type, w_value, w_rights, w_cmd, w_end, unwritten, means}

-- the upper name, and 1 for a host name or 2 for a local one
unfoldable pub name_word : Name → ℕ
name_word d = d.upper + 256 * cond d.host 1 2

-- the declared name that a word of the names table stands for
unfoldable pub name_of : ℕ → Name
name_of w = record { host = eqb (w / 256) 1; upper = w % 256 }

-- a type entry's command, and its operands in order
unfoldable pub entry_row : TypeEntry → Op × List ℕ
entry_row (e_num q) = (o_number, q ∷ [])
entry_row (e_pair q a b) = (o_pair, q ∷ a ∷ b ∷ [])
entry_row (e_cell q a) = (o_cell, q ∷ a ∷ [])
entry_row (e_fn q a b s) = (o_function, q ∷ a ∷ b ∷ s.set ∷ [])
entry_row (e_lim q r) = (o_limit, q ∷ r ∷ [])
entry_row (e_grant q r) = (o_grant, q ∷ r ∷ [])

-- command byte, key, first and second part
abbrev pub type_bits : ℕ → ℕ → ℕ → ℕ → ℕ
type_bits byte q a b = byte + 256 * q + 65536 * a + 4294967296 * b

unfoldable pub type_word : TypeEntry → ℕ
unfolding entry_row form
type_word e = type_bits (form (entry_row e).0).byte (get_or (entry_row e).1 0 0) (get_or (entry_row e).1 1 0) (get_or (entry_row e).1 2 0)

-- the set of a function's effect stands in a table of its own
unfoldable pub set_word : TypeEntry → ℕ
unfolding entry_row
set_word e = get_or (entry_row e).1 3 0

-- command byte, type, starting number
unfoldable pub value_word : HostValue ℕ → ℕ
value_word h = 0x20 + 256 * h.ty + 16777216 * h.init

-- the host value that a word stands for
unfoldable pub value_in : ℕ → HostValue ℕ
value_in w = record { ty = w / 256 % 65536; init = w / 16777216 % 4294967296 }

-- an expression's command byte, and its operands of one byte or four, the first one lowest
abbrev pub head_bits : ℕ → ℕ → ℕ
head_bits byte x = byte + 256 * x

unfoldable pub packed : List ℕ → ℕ
packed [] = 0
packed (x ∷ []) = x
packed (x ∷ y ∷ l) = x + 256 * packed (y ∷ l)

abbrev pub byte_roles : List Role
byte_roles = r_variable ∷ r_parameter ∷ r_keypair ∷ r_local ∷ []

-- (roles are compared without their range)
abbrev pub head_roles : List Role
head_roles = byte_roles ++ (r_count ∷ r_number ∷ r_choice 0 0 ∷ [])

unfoldable pub head_word : Cmd ℕ → ℕ
unfolding of_roles form row packed
head_word k = head_bits (form (row k).op).byte (packed (of_roles head_roles k))

-- a list filled up to n entries
unfoldable pub filled : ℕ → ℕ → List ℕ → List ℕ
filled n x l = l ++ replicate (n - length l) x

-- its operands of two bytes, five places: expressions in the order written, then the type
abbrev pub place_roles : List Role
place_roles = r_evaluated ∷ r_keys ∷ r_unused ∷ r_entered ∷ r_inside ∷ []

unfoldable pub slots : Cmd ℕ → List ℕ
unfolding of_roles types_of filled
slots k = filled 5 0 (of_roles place_roles k ++ types_of k)

-- the tables' used entries; names 0 and 1 are not declared by the job
abbrev pub name_words : Job → List ℕ
name_words J = 0 ∷ 0 ∷ map name_word J.names

abbrev pub type_words : List TypeEntry → List ℕ
type_words T = map type_word T

abbrev pub set_words : List TypeEntry → List ℕ
set_words T = map set_word T

abbrev pub effect_words : List Effect → List ℕ
effect_words l = map (λ s. s.set) l

abbrev pub value_words : Job → List ℕ
value_words J = map value_word J.values

abbrev pub head_words : Job → List ℕ
head_words J = map head_word J.cmds

abbrev pub slot_words : Job → List ℕ
slot_words J = flat_map slots J.cmds

-- how many places the expressions of a row have; its type stands behind them
unfoldable pub places_in : List Role → ℕ
unfolding wanted traits flat_map
places_in rs = length (flat_map (λ r. cond (wanted place_roles r) (traits r).widths []) rs)

-- the operands' numbers, in order, by their roles. x is what the head has of them: those of one byte, the first one lowest, or one that takes all of it; l are the places, and t is the type's
unfoldable pub numbers_by : List Role → ℕ → List ℕ → ℕ → List ℕ
unfolding wanted traits
numbers_by [] x l t = []
numbers_by (r ∷ rs) x l t =
    cond (wanted byte_roles r) (x % 256 ∷ numbers_by rs (x / 256) l t)
    (cond (wanted head_roles r) (x ∷ numbers_by rs x l t)
    (cond (wanted (r_type ∷ []) r) (t ∷ numbers_by rs x l t)
    (take (length (traits r).widths) l ++ numbers_by rs x (drop (length (traits r).widths) l) t)))

-- the expression that is written; z where none is
unfoldable pub expression : Cmd ℕ → Written → Cmd ℕ
expression z (w_name d) = z
expression z (w_type e) = z
expression z (w_value h) = z
expression z (w_rights s) = z
expression z (w_cmd k) = k
expression z w_end = z
expression z unwritten = z

-- the expression that a head and five places stand for; a head with no expression's command byte stands for a number
unfoldable pub decode_as : Option Op → ℕ → List ℕ → Cmd ℕ
unfolding expression means numbers_by places_in form
decode_as none x l = c_num x
decode_as (some o) x l = expression (c_num x) (means o (numbers_by (form o).roles x l (get_or l (places_in (form o).roles) 0)))

unfoldable pub decode : ℕ → ℕ → ℕ → ℕ → ℕ → ℕ → ℕ → Cmd ℕ
unfolding decode_as op_of find_op commands
decode byte x a b c d e = decode_as (op_of byte) x (a ∷ b ∷ c ∷ d ∷ e ∷ [])

-- expression i of the tables
unfoldable pub code_in : List ℕ → List ℕ → ℕ → Cmd ℕ
code_in heads slots i =
    decode (get_or heads i 0 % 256) (get_or heads i 0 / 256 % 4294967296)
    (get_or slots (i * 5) 0) (get_or slots (i * 5 + 1) 0) (get_or slots (i * 5 + 2) 0) (get_or slots (i * 5 + 3) 0) (get_or slots (i * 5 + 4) 0)

-- the type entry that a word and a set stand for; a word with no type's command byte is no entry
unfoldable pub entry_bits : ℕ → ℕ → ℕ → ℕ → ℕ → Option TypeEntry
entry_bits byte q a b s =
    cond (eqb byte 0x10) (some (e_num q))
    (cond (eqb byte 0x11) (some (e_pair q a b))
    (cond (eqb byte 0x12) (some (e_cell q a))
    (cond (eqb byte 0x13) (some (e_fn q a b (of_word s)))
    (cond (eqb byte 0x14) (some (e_lim q (a % 256)))
    (cond (eqb byte 0x15) (some (e_grant q (a % 256)))
    none)))))

-- entry i of the tables
unfoldable pub entry_in : List ℕ → List ℕ → ℕ → Option TypeEntry
entry_in types sets i =
    entry_bits (get_or types i 0 % 256) (get_or types i 0 / 256 % 256) (get_or types i 0 / 65536 % 65536) (get_or types i 0 / 4294967296 % 65536) (get_or sets i 0)
