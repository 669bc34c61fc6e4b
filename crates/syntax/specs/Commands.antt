-- The commands of a job (document 01, "The bytes of a job"): their bytes, operands and sections, and the expressions that they write.
use Rattle.std.specs.Prelude.{ℕ, ◌+◌, ◌-◌, ◌*◌, Bool, true, false, cond, length, get_or, replicate, take, drop, eqb, leb}
use mathlib.Core.List.{List, [], ◌∷◌, flat_map}
use Rattle.std.proofs.Math.Option.{Option, none, some}
use Rattle.order.specs.Bools.{◌and◌}
use Rattle.order.specs.Sets.{all_of}

-- an expression; T is how a type operand is given: by its number, or as a tree
pub data Cmd (T : Type 0) : Type 0 where
  -- 0x30 n
  c_num : ℕ → Cmd T
  -- 0x31: the top's limit key
  c_top : Cmd T
  -- 0x32 v
  c_var : ℕ → Cmd T
  -- 0x33 e e
  c_pair : ℕ → ℕ → Cmd T
  -- 0x34 e i: part 1 (true) or 2
  c_part : ℕ → Bool → Cmd T
  -- 0x35 v t e
  c_fn : ℕ → T → ℕ → Cmd T
  -- 0x36 e e: function, argument
  c_app : ℕ → ℕ → Cmd T
  -- 0x37 t e
  c_new : T → ℕ → Cmd T
  -- 0x38 e e: cell, value
  c_asg : ℕ → ℕ → Cmd T
  -- 0x39 e
  c_read : ℕ → Cmd T
  -- 0x3A op e e: sum (true) or difference
  c_sum : Bool → ℕ → ℕ → Cmd T
  -- 0x3B e e e t: number, branch if not zero, branch if zero, result type
  c_test : ℕ → ℕ → ℕ → T → Cmd T
  -- 0x3C c e e e e e: limit keys, body
  c_lim : List ℕ → ℕ → Cmd T
  -- 0x3D e e: grant key, body
  c_grant : ℕ → ℕ → Cmd T
  -- 0x3E v r e e t: variable, local name, limit key above, body, result type
  c_newkey : ℕ → ℕ → ℕ → ℕ → T → Cmd T
  -- 0x3F e e: value, limit key
  c_assoc : ℕ → ℕ → Cmd T
  -- 0x40 e e e t: limit key, branch if that key is enabled, branch if not, result type (have-access of document 000)
  c_access : ℕ → ℕ → ℕ → T → Cmd T
  -- 0x41 e e: dividend, divisor
  c_divide : ℕ → ℕ → Cmd T
  -- 0x42 e: body of a new thread (spawn of document 000)
  c_spawn : ℕ → Cmd T

-- the same with another form of type operands
unfoldable pub map_cmd : {T U : Type 0} → (T → U) → Cmd T → Cmd U
map_cmd f (c_num n) = c_num n
map_cmd f c_top = c_top
map_cmd f (c_var v) = c_var v
map_cmd f (c_pair a b) = c_pair a b
map_cmd f (c_part a i) = c_part a i
map_cmd f (c_fn v t b) = c_fn v (f t) b
map_cmd f (c_app a b) = c_app a b
map_cmd f (c_new t a) = c_new (f t) a
map_cmd f (c_asg a b) = c_asg a b
map_cmd f (c_read a) = c_read a
map_cmd f (c_sum i a b) = c_sum i a b
map_cmd f (c_test a b c t) = c_test a b c (f t)
map_cmd f (c_lim ks b) = c_lim ks b
map_cmd f (c_grant a b) = c_grant a b
map_cmd f (c_newkey v r a b t) = c_newkey v r a b (f t)
map_cmd f (c_assoc a b) = c_assoc a b
map_cmd f (c_access a b c t) = c_access a b c (f t)
map_cmd f (c_divide a b) = c_divide a b
map_cmd f (c_spawn b) = c_spawn b

-- what a command byte says
pub data Op : Type 0 where
  o_host o_local : Op
  o_number o_pair o_cell o_function o_limit o_grant : Op
  o_value o_rights : Op
  x_number x_top x_variable x_pair x_part x_function x_apply x_cell x_assign x_read x_sum x_test x_limit x_grant x_newkey x_associate x_access x_divide x_spawn : Op
  o_end : Op

-- what an operand is for
pub data Role : Type 0 where
  -- e: an expression that is evaluated before the act; one that is entered later, in the same scope; one where what the command binds is in scope
  r_evaluated r_entered r_inside : Role
  -- c: how many of the next four places are used; e e e e: limit keys, evaluated before the act; the places that are not used, 0xFFFF
  r_count r_keys r_unused : Role
  -- v: a variable that is used; one that is bound, of the type operand; one that is bound, of the limit and grant key of the name that is bound
  r_variable r_parameter r_keypair : Role
  -- r: a local name that is bound, with a key; q, r: a name
  r_local r_name : Role
  -- t: a type; s: a set of names; n: a number
  r_type r_set r_number : Role
  -- op, i: a choice from the first number to the second
  r_choice : ℕ → ℕ → Role

-- what there is to know of a role: a number of its own, by which roles are compared; the widths of its operands; and whether the numbers from there on are allowed
pub record Traits : Type 0 where
  pub code : ℕ
  pub widths : List ℕ
  pub allows : List ℕ → Bool

abbrev pub free : ℕ → List ℕ → Traits
free c ws = record { code = c; widths = ws; allows = λ o. true }

abbrev pub ranged : ℕ → (List ℕ → Bool) → Traits
ranged c p = record { code = c; widths = 1 ∷ []; allows = p }

-- the places of 0x3C's keys are four, used or not: "c (0 to 4) keys, unused key operands FFFF"
unfoldable pub traits : Role → Traits
traits r_evaluated = free 0 (2 ∷ [])
traits r_entered = free 1 (2 ∷ [])
traits r_inside = free 2 (2 ∷ [])
traits r_count = ranged 3 (λ o. leb (get_or o 0 0) 4 and all_of (λ e. eqb e 0xFFFF) (drop (get_or o 0 0) (take 4 (drop 1 o))))
traits r_keys = free 4 (2 ∷ 2 ∷ 2 ∷ 2 ∷ [])
traits r_unused = free 5 []
traits r_variable = free 6 (1 ∷ [])
traits r_parameter = free 7 (1 ∷ [])
traits r_keypair = free 8 (1 ∷ [])
traits r_local = free 9 (1 ∷ [])
traits r_name = free 10 (1 ∷ [])
traits r_type = free 11 (2 ∷ [])
traits r_set = free 12 (8 ∷ [])
traits r_number = free 13 (4 ∷ [])
traits (r_choice lo hi) = ranged 14 (λ o. leb lo (get_or o 0 0) and leb (get_or o 0 0) hi)

-- every operand is one that its role allows
unfoldable pub allowed : List Role → List ℕ → Bool
unfolding traits
allowed [] o = true
allowed (r ∷ rs) o = cond ((traits r).allows o) (allowed rs (drop (length (traits r).widths) o)) false

-- "Sections come in this order": names 0, types 1, host values 2, rights 3, expressions 4, the end 5
pub record Form : Type 0 where
  pub byte : ℕ
  pub section : ℕ
  pub roles : List Role

abbrev pub form_of : ℕ → ℕ → List Role → Form
form_of b s rs = record { byte = b; section = s; roles = rs }

-- one row a command: its byte, its section, and what its operands are for, in order. In rows of names, types, host values and rights a role says the width alone
unfoldable pub form : Op → Form
form o_host = form_of 0x01 0 (r_name ∷ [])
form o_local = form_of 0x02 0 (r_name ∷ [])
form o_number = form_of 0x10 1 (r_name ∷ [])
form o_pair = form_of 0x11 1 (r_name ∷ r_type ∷ r_type ∷ [])
form o_cell = form_of 0x12 1 (r_name ∷ r_type ∷ [])
form o_function = form_of 0x13 1 (r_name ∷ r_type ∷ r_type ∷ r_set ∷ [])
form o_limit = form_of 0x14 1 (r_name ∷ r_name ∷ [])
form o_grant = form_of 0x15 1 (r_name ∷ r_name ∷ [])
form o_value = form_of 0x20 2 (r_type ∷ r_number ∷ [])
form o_rights = form_of 0x21 3 (r_set ∷ [])
form x_number = form_of 0x30 4 (r_number ∷ [])
form x_top = form_of 0x31 4 []
form x_variable = form_of 0x32 4 (r_variable ∷ [])
form x_pair = form_of 0x33 4 (r_evaluated ∷ r_evaluated ∷ [])
form x_part = form_of 0x34 4 (r_evaluated ∷ r_choice 1 2 ∷ [])
form x_function = form_of 0x35 4 (r_parameter ∷ r_type ∷ r_inside ∷ [])
form x_apply = form_of 0x36 4 (r_evaluated ∷ r_evaluated ∷ [])
form x_cell = form_of 0x37 4 (r_type ∷ r_evaluated ∷ [])
form x_assign = form_of 0x38 4 (r_evaluated ∷ r_evaluated ∷ [])
form x_read = form_of 0x39 4 (r_evaluated ∷ [])
form x_sum = form_of 0x3A 4 (r_choice 0 1 ∷ r_evaluated ∷ r_evaluated ∷ [])
form x_test = form_of 0x3B 4 (r_evaluated ∷ r_entered ∷ r_entered ∷ r_type ∷ [])
form x_limit = form_of 0x3C 4 (r_count ∷ r_keys ∷ r_unused ∷ r_entered ∷ [])
form x_grant = form_of 0x3D 4 (r_evaluated ∷ r_entered ∷ [])
form x_newkey = form_of 0x3E 4 (r_keypair ∷ r_local ∷ r_evaluated ∷ r_inside ∷ r_type ∷ [])
form x_associate = form_of 0x3F 4 (r_evaluated ∷ r_evaluated ∷ [])
form x_access = form_of 0x40 4 (r_evaluated ∷ r_entered ∷ r_entered ∷ r_type ∷ [])
form x_divide = form_of 0x41 4 (r_evaluated ∷ r_evaluated ∷ [])
form x_spawn = form_of 0x42 4 (r_entered ∷ [])
form o_end = form_of 0xFF 5 []

-- what is given for an operand: numbers, one but for 0x3C's keys; or a type
pub data Operand (T : Type 0) : Type 0 where
  numbers : List ℕ → Operand T
  type : T → Operand T

abbrev pub one : {T : Type 0} → ℕ → Operand T
one n = numbers (n ∷ [])

pub record Row (T : Type 0) : Type 0 where
  pub op : Op
  pub given : List (Operand T)

abbrev pub row_of : {T : Type 0} → Op → List (Operand T) → Row T
row_of o l = record { op = o; given = l }

-- an expression in its row: what is given for each operand
unfoldable pub row : {T : Type 0} → Cmd T → Row T
row (c_num n) = row_of x_number (one n ∷ [])
row c_top = row_of x_top []
row (c_var v) = row_of x_variable (one v ∷ [])
row (c_pair a b) = row_of x_pair (one a ∷ one b ∷ [])
row (c_part a i) = row_of x_part (one a ∷ one (cond i 1 2) ∷ [])
row (c_fn v t b) = row_of x_function (one v ∷ type t ∷ one b ∷ [])
row (c_app a b) = row_of x_apply (one a ∷ one b ∷ [])
row (c_new t a) = row_of x_cell (type t ∷ one a ∷ [])
row (c_asg a b) = row_of x_assign (one a ∷ one b ∷ [])
row (c_read a) = row_of x_read (one a ∷ [])
row (c_sum i a b) = row_of x_sum (one (cond i 0 1) ∷ one a ∷ one b ∷ [])
row (c_test a b c t) = row_of x_test (one a ∷ one b ∷ one c ∷ type t ∷ [])
row (c_lim ks b) = row_of x_limit (one (length ks) ∷ numbers ks ∷ numbers (replicate (4 - length ks) 0xFFFF) ∷ one b ∷ [])
row (c_grant a b) = row_of x_grant (one a ∷ one b ∷ [])
row (c_newkey v r a b t) = row_of x_newkey (one v ∷ one r ∷ one a ∷ one b ∷ type t ∷ [])
row (c_assoc a b) = row_of x_associate (one a ∷ one b ∷ [])
row (c_access a b c t) = row_of x_access (one a ∷ one b ∷ one c ∷ type t ∷ [])
row (c_divide a b) = row_of x_divide (one a ∷ one b ∷ [])
row (c_spawn b) = row_of x_spawn (one b ∷ [])

-- every command
unfoldable pub commands : List Op
commands =
    o_host ∷ o_local ∷ o_number ∷ o_pair ∷ o_cell ∷ o_function ∷ o_limit ∷ o_grant ∷ o_value ∷ o_rights
    ∷ x_number ∷ x_top ∷ x_variable ∷ x_pair ∷ x_part ∷ x_function ∷ x_apply ∷ x_cell ∷ x_assign ∷ x_read
    ∷ x_sum ∷ x_test ∷ x_limit ∷ x_grant ∷ x_newkey ∷ x_associate ∷ x_access ∷ x_divide ∷ x_spawn ∷ o_end ∷ []

unfoldable pub find_op : List Op → ℕ → Option Op
unfolding form
find_op [] b = none
find_op (o ∷ l) b = cond (eqb b (form o).byte) (some o) (find_op l b)

-- the command of a byte, if it is one
unfoldable pub op_of : ℕ → Option Op
op_of b = find_op commands b

-- the widths of a command's operands
unfoldable pub operands : Op → List ℕ
unfolding form traits flat_map
operands o = flat_map (λ r. (traits r).widths) (form o).roles

unfoldable pub total : List ℕ → ℕ
total [] = 0
total (w ∷ l) = w + total l

-- how many bytes follow the command byte
unfoldable pub width : Op → ℕ
width o = total (operands o)

unfoldable pub section_of : Op → ℕ
unfolding form
section_of o = (form o).section

-- "Operands of several bytes have the low byte first."
unfoldable pub little : List ℕ → ℕ
little [] = 0
little (b ∷ l) = b + 256 * little l

-- the operands of the given widths at the front of the bytes
unfoldable pub fields : List ℕ → List ℕ → List ℕ
fields [] s = []
fields (w ∷ l) s = little (take w s) ∷ fields l (drop w s)
