-- From tables to rows: what an entry of each table comes to, what its row means, and that the bytes of a script are read row by row.
use Rattle.std.specs.Prelude.{◌≡◌, refl, ℕ, zero, suc, ◌+◌, ◌-◌, ◌/◌, ◌%◌, ◌^◌, ◌<◌, Bool, true, false, cond, length, get_or, take, drop, eqb, ltb}
use Rattle.std.proofs.Common.{sym, ap, ap₂, ◌∙◌, subst, arith, length-take-le, get_or-drop, ltb-true, ltb-false, eqb-true, eq-eqb}
use mathlib.Core.List.{List, [], ◌∷◌, ◌++◌, flat_map}
use Rattle.std.proofs.Math.Option.{Option, none, some}
use Rattle.std.proofs.lemmas.Bool.{eqb-false}
use Rattle.order.proofs.Bools.{and_l, and_r}
use Rattle.order.specs.Effects.{of_word}
use Rattle.syntax.specs.Types.{e_num, e_pair, e_cell, e_fn, e_lim, e_grant}
use Rattle.syntax.specs.Commands.{c_num, c_var, c_part, c_fn, c_sum, c_lim, c_newkey}
use Rattle.syntax.specs.Commands.{Op, o_host, o_local, o_number, o_pair, o_cell, o_function, o_limit, o_grant, o_value, o_rights, o_end, form, op_of, operands, section_of}
use Rattle.syntax.specs.Commands.{x_number, x_top, x_variable, x_pair, x_part, x_function, x_apply, x_cell, x_assign, x_read, x_sum, x_test, x_limit, x_grant, x_newkey, x_associate, x_access, x_divide, x_spawn}
use Rattle.syntax.specs.Job.{Job}
use Rattle.syntax.specs.Reading.{w_name, w_value, w_cmd, means, most_names, most_types, most_variables, most_expressions}
use Rattle.syntax.specs.Reading.{State, written, enter, misplaced, full, refuse, proceed, finish, settle, reading}
use Rattle.syntax.specs.Words.{name_of, value_in, filled, decode_as, entry_bits}
use Rattle.syntax.proofs.ReadPlaces.{op_found}
use Rattle.syntax.specs.Loading.{JobTables}
use Rattle.syntax.specs.JobBytes.{command_bytes}
use Rattle.syntax.specs.RowsRead.{command_on, rows_bytes, reading_rows, Narrow, narrow_none, narrow_more, AllNarrow, all_none, all_more}
use Rattle.syntax.proofs.RowsRead.{rows_read}
use Rattle.syntax.specs.Writing.{Counts, Item, item, fault, fits, item_of, within, name_at, type_at, set_at, value_at, head_at, name_numbers, type_numbers, value_numbers}
use Rattle.syntax.specs.Writing.{name_item, type_item, value_item, fields_of, cmd_item, each, items, script}
use Rattle.syntax.specs.ScriptLaws.{Closed, CmdOp, Entry, Inner, NameOp, Number, Own, RightsOp, StepOn, TypeOp, ValueOp, closed_end, closed_more, cmd_numbers, faulty, foreign, in_head, inner_fault, inner_item, no_command, number_2, number_3, number_5, number_6, on_finish, on_proceed, on_refuse, past_limit, places_of, rows_in, sound, too_wide}

-- Rows by their tables

-- numbers that fit, as many as there are operands
pub fits_narrow : (ws o : List ℕ) → length o ≡ length ws → fits ws o ≡ true → Narrow ws o
unfolding fits
fits_narrow [] [] h e = narrow_none
fits_narrow [] (n ∷ o) h e = absurd (omega arith)
fits_narrow (w ∷ ws) [] h e = absurd (omega arith)
fits_narrow (w ∷ ws) (n ∷ o) h e = narrow_more (ltb-true n (256 ^ w) (and_l _ _ e)) (fits_narrow ws o (omega arith) (and_r _ _ e))

-- by the section
abbrev InTable : ℕ → Op → Type 0
InTable zero op = NameOp op
InTable (suc zero) op = TypeOp op
InTable (suc (suc zero)) op = ValueOp op
InTable (suc (suc (suc zero))) op = RightsOp op
InTable (suc (suc (suc (suc zero)))) op = CmdOp op
InTable (suc (suc (suc (suc (suc n))))) op = Unit

-- Where numbers fit, each is below its operand's bound
fit_at : (ws o : List ℕ) (i : ℕ) → fits ws o ≡ true → i < length ws → get_or o i 0 < 256 ^ get_or ws i 0
unfolding fits
fit_at [] o i h l = absurd (omega arith)
fit_at (w ∷ ws) o zero h l = ltb-true (get_or o 0 0) (256 ^ w) (and_l _ _ h)
fit_at (w ∷ ws) o (suc i) h l =
    let z : 1 + i ≡ suc i = omega arith in
    subst (λ (n : ℕ). n < 256 ^ get_or ws i 0) (get_or-drop 1 o i 0 ∙ ap (λ (n : ℕ). get_or o n 0) z) (fit_at ws (drop 1 o) i (and_r _ _ h) (omega arith))

-- an expression whose head has no operand; and an operand of one byte in the head
plain_cmd : (op : Op) → ((x a b c d e : ℕ) → fields_of x (a ∷ b ∷ c ∷ d ∷ e ∷ []) op ≡ fields_of (cond (in_head op) x 0) (filled 5 0 (take (places_of op) (a ∷ b ∷ c ∷ d ∷ e ∷ []))) op)
    → ((x a b c d e : ℕ) → length (fields_of x (a ∷ b ∷ c ∷ d ∷ e ∷ []) op) ≡ length (operands op))
    → ((x a b c d e : ℕ) → means op (fields_of x (a ∷ b ∷ c ∷ d ∷ e ∷ []) op) ≡ w_cmd (decode_as (some op) (x % 4294967296) (a ∷ b ∷ c ∷ d ∷ e ∷ []))) → CmdOp op
plain_cmd op k l f = record { looks = k; size = l; says = λ x a b c d e h. f x a b c d e }

low : (x : ℕ) → x < 256 → x ≡ x % 4294967296
low x h = omega arith

low_byte : (x : ℕ) → x < 256 → x ≡ x % 4294967296 % 256
low_byte x h = omega arith

in_table : (op : Op) → InTable (section_of op) op
unfolding section_of operands means name_of fits entry_bits value_in fields_of decode_as in_head places_of filled
in_table o_host = record { size = refl; says = λ d h. ap (λ (b : Bool). w_name (record { host = b; upper = d % 256 })) (sym (eq-eqb (d / 256) 1 h)) }
in_table o_local = record { size = refl; says = λ d h. ap (λ (n : ℕ). w_name (record { host = eqb n 1; upper = d % 256 })) (sym h) }
in_table o_number = record { size = omega arith; no_set = λ n. omega arith; says = λ q a b s h. (e_num q, refl, refl) }
in_table o_pair =
    record {
      size = omega arith;
      no_set = λ n. omega arith;
      says = λ q a b s h. let z : b % 65536 ≡ b = omega (arith, fit_at (operands o_pair) (q ∷ a ∷ b ∷ []) 2 h (omega arith)) in (e_pair q a b, refl, ap (λ (n : ℕ). some (e_pair q a n)) z);
    }
in_table o_cell = record { size = omega arith; no_set = λ n. omega arith; says = λ q a b s h. (e_cell q a, refl, refl) }
in_table o_function =
    record {
      size = omega arith;
      no_set = λ n. absurd (n refl);
      says =
          λ q a b s h. let z : b % 65536 ≡ b = omega (arith, fit_at (operands o_function) (q ∷ a ∷ b ∷ s ∷ []) 2 h (omega arith)) in
          (e_fn q a b (of_word s), refl, ap (λ (n : ℕ). some (e_fn q a n (of_word s))) z);
    }
in_table o_limit =
    record {
      size = omega arith;
      no_set = λ n. omega arith;
      says = λ q a b s h. let z : a % 256 ≡ a = omega (arith, fit_at (operands o_limit) (q ∷ a ∷ []) 1 h (omega arith)) in (e_lim q a, refl, ap (λ (n : ℕ). some (e_lim q n)) z);
    }
in_table o_grant =
    record {
      size = omega arith;
      no_set = λ n. omega arith;
      says = λ q a b s h. let z : a % 256 ≡ a = omega (arith, fit_at (operands o_grant) (q ∷ a ∷ []) 1 h (omega arith)) in (e_grant q a, refl, ap (λ (n : ℕ). some (e_grant q n)) z);
    }
in_table o_value =
    record {
      size = refl;
      says = λ d h. ap (λ (n : ℕ). w_value (record { ty = d / 256 % 65536; init = n })) (small (d / 16777216) (fit_at (operands o_value) (value_numbers d o_value) 1 h (omega arith)));
    }
  where
    small : (n : ℕ) → n < 4294967296 → n ≡ n % 4294967296
    small n h = omega arith
in_table o_rights = record { size = refl; says = λ n. refl }
in_table x_number =
    record {
      looks = λ x a b c d e. refl;
      size = λ x a b c d e. refl;
      says = λ x a b c d e h. let z : x ≡ x % 4294967296 = omega (arith, fit_at (operands x_number) (x ∷ []) 0 h (omega arith)) in ap (λ (n : ℕ). w_cmd (c_num n)) z;
    }
in_table x_top = plain_cmd x_top (λ x a b c d e. refl) (λ x a b c d e. refl) (λ x a b c d e. refl)
in_table x_variable =
    record { looks = λ x a b c d e. refl; size = λ x a b c d e. refl; says = λ x a b c d e h. ap (λ (n : ℕ). w_cmd (c_var n)) (low_byte x (fit_at (operands x_variable) (x ∷ []) 0 h (omega arith))) }
in_table x_pair = plain_cmd x_pair (λ x a b c d e. refl) (λ x a b c d e. refl) (λ x a b c d e. refl)
in_table x_part =
    record { looks = λ x a b c d e. refl; size = λ x a b c d e. refl; says = λ x a b c d e h. ap (λ (n : ℕ). w_cmd (c_part a (eqb n 1))) (low x (fit_at (operands x_part) (a ∷ x ∷ []) 1 h (omega arith))) }
in_table x_function =
    record {
      looks = λ x a b c d e. refl;
      size = λ x a b c d e. refl;
      says = λ x a b c d e h. ap (λ (n : ℕ). w_cmd (c_fn n b a)) (low_byte x (fit_at (operands x_function) (x ∷ b ∷ a ∷ []) 0 h (omega arith)));
    }
in_table x_apply = plain_cmd x_apply (λ x a b c d e. refl) (λ x a b c d e. refl) (λ x a b c d e. refl)
in_table x_cell = plain_cmd x_cell (λ x a b c d e. refl) (λ x a b c d e. refl) (λ x a b c d e. refl)
in_table x_assign = plain_cmd x_assign (λ x a b c d e. refl) (λ x a b c d e. refl) (λ x a b c d e. refl)
in_table x_read = plain_cmd x_read (λ x a b c d e. refl) (λ x a b c d e. refl) (λ x a b c d e. refl)
in_table x_sum =
    record {
      looks = λ x a b c d e. refl;
      size = λ x a b c d e. refl;
      says = λ x a b c d e h. ap (λ (n : ℕ). w_cmd (c_sum (eqb n 0) a b)) (low x (fit_at (operands x_sum) (x ∷ a ∷ b ∷ []) 0 h (omega arith)));
    }
in_table x_test = plain_cmd x_test (λ x a b c d e. refl) (λ x a b c d e. refl) (λ x a b c d e. refl)
in_table x_limit =
    record {
      looks = λ x a b c d e. refl;
      size = λ x a b c d e. refl;
      says = λ x a b c d e h. ap (λ (n : ℕ). w_cmd (c_lim (take n (a ∷ b ∷ c ∷ d ∷ [])) e)) (low x (fit_at (operands x_limit) (x ∷ a ∷ b ∷ c ∷ d ∷ e ∷ []) 0 h (omega arith)));
    }
in_table x_grant = plain_cmd x_grant (λ x a b c d e. refl) (λ x a b c d e. refl) (λ x a b c d e. refl)
in_table x_newkey =
    record {
      looks = λ x a b c d e. refl;
      size = λ x a b c d e. refl;
      says = λ x a b c d e h. two x (fit_at (operands x_newkey) (x % 256 ∷ x / 256 ∷ a ∷ b ∷ c ∷ []) 1 h (omega arith)) (λ v r. w_cmd (c_newkey v r a b c));
    }
  where
    two : {A : Type 0} (x : ℕ) → x / 256 < 256 → (f : ℕ → ℕ → A) → f (x % 256) (x / 256) ≡ f (x % 4294967296 % 256) (x % 4294967296 / 256 % 256)
    two x h f =
        let z : x ≡ x % 4294967296 = omega arith in
        let y : x / 256 ≡ x / 256 % 256 = omega arith in
        ap₂ f (ap (λ (n : ℕ). n % 256) z) (y ∙ ap (λ (n : ℕ). n / 256 % 256) z)
in_table x_associate = plain_cmd x_associate (λ x a b c d e. refl) (λ x a b c d e. refl) (λ x a b c d e. refl)
in_table x_access = plain_cmd x_access (λ x a b c d e. refl) (λ x a b c d e. refl) (λ x a b c d e. refl)
in_table x_divide = plain_cmd x_divide (λ x a b c d e. refl) (λ x a b c d e. refl) (λ x a b c d e. refl)
in_table x_spawn = plain_cmd x_spawn (λ x a b c d e. refl) (λ x a b c d e. refl) (λ x a b c d e. refl)
in_table o_end = tt

pub name_op : (op : Op) → section_of op ≡ 0 → NameOp op
name_op op h = subst (λ (n : ℕ). InTable n op) h (in_table op)

pub type_op : (op : Op) → section_of op ≡ 1 → TypeOp op
type_op op h = subst (λ (n : ℕ). InTable n op) h (in_table op)

pub value_op : (op : Op) → section_of op ≡ 2 → ValueOp op
value_op op h = subst (λ (n : ℕ). InTable n op) h (in_table op)

pub rights_op : (op : Op) → section_of op ≡ 3 → RightsOp op
rights_op op h = subst (λ (n : ℕ). InTable n op) h (in_table op)

pub cmd_op : (op : Op) → section_of op ≡ 4 → CmdOp op
cmd_op op h = subst (λ (n : ℕ). InTable n op) h (in_table op)

-- Entries

entry : (sec limit i b : ℕ) (numbers : Op → List ℕ) → Entry sec limit i b numbers (within limit i (item_of sec (op_of b) numbers))
unfolding within item_of
entry sec limit i b numbers = at (ltb i limit) refl (op_of b) refl
  where
    of : i < limit → (op : Op) → op_of b ≡ some op → (x : Bool) → eqb (section_of op) sec ≡ x → (y : Bool) → fits (operands op) (numbers op) ≡ y
        → Entry sec limit i b numbers (cond x (cond y (item (op, numbers op)) (fault 6)) (fault 3))
    of l op h true p true q = sound op h (eqb-true (section_of op) sec p) q
    of l op h true p false q = faulty (too_wide l op h (eqb-true (section_of op) sec p) q)
    of l op h false p y q = faulty (foreign l op h (eqb-false (section_of op) sec p))

    at : (x : Bool) → ltb i limit ≡ x → (o : Option Op) → op_of b ≡ o → Entry sec limit i b numbers (within limit i (item_of sec o numbers))
    at false p o h = rw p (faulty (past_limit (ltb-false i limit p)))
    at true p none h = rw p (faulty (no_command (ltb-true i limit p) h))
    at true p (some op) h = rw p (of (ltb-true i limit p) op h (eqb (section_of op) sec) refl (fits (operands op) (numbers op)) refl)

pub name_entry_lem : (w : JobTables) (i : ℕ) → Entry 0 (most_names - 2) i (name_at w i / 256) (name_numbers (name_at w i)) (name_item w i)
unfolding name_item
name_entry_lem w i = entry 0 (most_names - 2) i (name_at w i / 256) (name_numbers (name_at w i))

pub type_entry_lem : (w : JobTables) (i : ℕ) → Entry 1 most_types i (type_at w i % 256) (type_numbers (type_at w i) (set_at w i)) (type_item w i)
unfolding type_item
type_entry_lem w i = entry 1 most_types i (type_at w i % 256) (type_numbers (type_at w i) (set_at w i))

pub value_entry_lem : (w : JobTables) (i : ℕ) → Entry 2 most_variables i (value_at w i % 256) (value_numbers (value_at w i)) (value_item w i)
unfolding value_item
value_entry_lem w i = entry 2 most_variables i (value_at w i % 256) (value_numbers (value_at w i))

pub cmd_entry : (w : JobTables) (i : ℕ) → Entry 4 most_expressions i (head_at w i % 256) (cmd_numbers w i) (cmd_item w i)
unfolding cmd_item
cmd_entry w i = entry 4 most_expressions i (head_at w i % 256) (cmd_numbers w i)

-- the rights are as a table of one entry, which has the right command
pub rights_entry_lem : (c : Counts) → Entry 3 1 0 0x21 (λ op. c.rights ∷ []) (item_of 3 (some o_rights) (λ op. c.rights ∷ []))
unfolding within form
rights_entry_lem c =
    subst (λ o. Entry 3 1 0 0x21 (λ op. c.rights ∷ []) (within 1 0 (item_of 3 o (λ op. c.rights ∷ [])))) (op_found o_rights) (entry 3 1 0 0x21 (λ op. c.rights ∷ []))

-- Scripts

pub own_number : {sec limit i b n : ℕ} {numbers : Op → List ℕ} → Own sec limit i b numbers n → Number n
own_number (no_command l h) = number_2
own_number (foreign l op h k) = number_3
own_number (past_limit l) = number_5
own_number (too_wide l op h k f) = number_6

pub number_pos : {n : ℕ} → Number n → 0 < n
number_pos number_2 = omega arith
number_pos number_3 = omega arith
number_pos number_5 = omega arith
number_pos number_6 = omega arith

inner : {sec limit i b : ℕ} {numbers : Op → List ℕ} {x : Item} → sec < 5 → ((op : Op) → section_of op ≡ sec → length (numbers op) ≡ length (operands op)) → Entry sec limit i b numbers x → Inner x
inner l f (sound op h k e) = inner_item (fits_narrow (operands op) _ (f op k) e) (omega arith)
inner l f (faulty o) = inner_fault (own_number o)

closed_each : (f : ℕ → Item) → ((i : ℕ) → Inner (f i)) → (i k : ℕ) (l : List Item) → Closed l → Closed (each f i k ++ l)
unfolding each
closed_each f g i zero l h = h
closed_each f g i (suc k) l h = closed_more (g i) (closed_each f g (suc i) k l h)

pub closed : (w : JobTables) (c : Counts) → Closed (items w c)
unfolding items operands
closed w c =
    closed_each (name_item w) (λ i. inner (omega arith) (λ op h. sym (name_op op h).size) (name_entry_lem w i)) 0 c.names _
    (closed_each (type_item w) (λ i. inner (omega arith) (λ op h. length-take-le (length (operands op)) _ (type_op op h).size) (type_entry_lem w i)) 0 c.types _
    (closed_each (value_item w) (λ i. inner (omega arith) (λ op h. sym (value_op op h).size) (value_entry_lem w i)) 0 c.values _
    (closed_more (inner (omega arith) (λ op h. sym (rights_op op h).size) (rights_entry_lem c))
    (closed_each (cmd_item w) (λ i. inner (omega arith) (λ op h. (cmd_op op h).size _ _ _ _ _ _) (cmd_entry w i)) 0 c.cmds _ closed_end))))

pub script_bytes : (l : List Item) → (script l).bytes ≡ rows_bytes (rows_in l)
unfolding script rows_in flat_map
script_bytes [] = refl
script_bytes (fault n ∷ l) = refl
script_bytes (item r ∷ l) = ap (λ s. command_bytes r ++ s) (script_bytes l)

all_narrow : {l : List Item} → Closed l → AllNarrow (rows_in l)
unfolding rows_in operands
all_narrow closed_end = all_more narrow_none all_none
all_narrow (closed_more (inner_item h k) c) = all_more h (all_narrow c)
all_narrow (closed_more (inner_fault n) c) = all_none

-- a script is read row by row
pub script_read : {l : List Item} → Closed l → reading (script l).bytes ≡ reading_rows (rows_in l)
script_read {l} c = ap reading (script_bytes l) ∙ rows_read (rows_in l) (all_narrow c)

-- Steps

pub step_on : (r : Op × List ℕ) (st : State) → StepOn r.0 r.1 st.job (command_on r st)
unfolding command_on settle
step_on r st = at (misplaced st (section_of r.0)) (full st.job (section_of r.0)) (enter (written r.0 r.1) st.job) refl
  where
    last : (K : Job) → enter (written r.0 r.1) st.job ≡ some K → (b : Bool) → eqb (section_of r.0) 5 ≡ b
        → StepOn r.0 r.1 st.job (cond b (finish K) (proceed (record { section = section_of r.0; job = K })))
    last K h true e = on_finish K (eqb-true (section_of r.0) 5 e) h
    last K h false e = on_proceed K (eqb-false (section_of r.0) 5 e) h

    at : (a b : Bool) (x : Option Job) → enter (written r.0 r.1) st.job ≡ x → StepOn r.0 r.1 st.job (cond a (refuse 3) (cond b (refuse 5) (settle (section_of r.0) x)))
    at true b x h = on_refuse number_3
    at false true x h = on_refuse number_5
    at false false none h = on_refuse number_6
    at false false (some K) h = last K h (eqb (section_of r.0) 5) refl
