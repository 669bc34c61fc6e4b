-- What the reader takes from the bytes of a job: operands, widths, sections, the rest.
use Rattle.std.specs.Prelude.{ℕ, ◌+◌, ◌-◌, ◌*◌, ◌/◌, ◌%◌, ◌^◌, Bool, true, false, cond, List, length, get_or, take, drop, eqb, ltb, leb}
use Rattle.std.proofs.Math.Option.{Option, none, some}
use Rattle.syntax.specs.Commands.{Op, op_of, width, little}
use Rattle.syntax.specs.Reading.{most_names, most_types, most_variables, most_expressions}
use Rattle.entry.specs.declared.Form.{Form}
use Rattle.entry.specs.declared.Section.{Section}
use Rattle.entry.specs.declared.Section.TheVariants.{Names, Types, Values, Rights, Expressions, End}

-- the operand of w bytes at `at`; 0 where the bytes end before it does
unfoldable pub field_at : ℕ → List ℕ → ℕ → ℕ
field_at w s at = cond (leb (at + w) (length s)) (little (take w (drop at s))) 0

-- how many bytes follow a command byte; 255 for a byte that is no command
unfoldable pub width_on : Option Op → ℕ
width_on none = 255
width_on (some o) = width o

unfoldable pub width_byte : ℕ → ℕ
width_byte b = width_on (op_of b)

-- the number of a section
abbrev pub section_no : Section → ℕ
section_no Names = 0
section_no Types = 1
section_no Values = 2
section_no Rights = 3
section_no Expressions = 4
section_no End = 5

-- the section of a command byte; commands from 0x30 on are expressions, but for the end
unfoldable pub section_byte : ℕ → ℕ
section_byte b = cond (ltb b 0x10) 0 (cond (ltb b 0x20) 1 (cond (eqb b 0x20) 2 (cond (eqb b 0x21) 3 (cond (ltb b 0xFF) 4 5))))

-- what follows the first command
unfoldable pub rest_of : List ℕ → List ℕ
rest_of s = drop (width_byte (get_or s 0 0) + 1) s

-- refusal 3: in section `cur`, a command of section `sec`, after n expressions
unfoldable pub misplaced_by : ℕ → ℕ → ℕ → Bool
misplaced_by cur sec n = cond (ltb sec cur) true (cond (eqb sec 3) (eqb cur 3) (cond (ltb sec 4) false (cond (ltb cur 3) true (cond (eqb sec 5) (eqb n 0) false))))

-- refusal 5: by the numbers of declared names, types, host values and expressions
unfoldable pub full_by : ℕ → ℕ → ℕ → ℕ → ℕ → Bool
full_by sec n t v e = cond (eqb sec 0) (leb (most_names - 2) n) (cond (eqb sec 1) (leb most_types t) (cond (eqb sec 2) (leb most_variables v) (cond (eqb sec 4) (leb most_expressions e) false)))

-- where the five places of an expression stand: a digit for each, place 0 in the last one; 0 for a place that is not used
unfoldable pub offsets_of : ℕ → ℕ
offsets_of op =
    cond (eqb op 0x33) 0x00031
    (cond (eqb op 0x34) 0x00001
    (cond (eqb op 0x35) 0x00024
    (cond (eqb op 0x36) 0x00031
    (cond (eqb op 0x37) 0x00013
    (cond (eqb op 0x38) 0x00031
    (cond (eqb op 0x39) 0x00001
    (cond (eqb op 0x3A) 0x00042
    (cond (eqb op 0x3B) 0x07531
    (cond (eqb op 0x3C) 0xA8642
    (cond (eqb op 0x3D) 0x00031
    (cond (eqb op 0x3E) 0x00753
    (cond (eqb op 0x3F) 0x00031
    (cond (eqb op 0x40) 0x07531
    (cond (eqb op 0x41) 0x00031
    (cond (eqb op 0x42) 0x00001
    0)))))))))))))))

-- what stands there: 1 an expression, 2 a type, 0 nothing
unfoldable pub kinds_of : ℕ → ℕ
kinds_of op =
    cond (eqb op 0x33) 0x00011
    (cond (eqb op 0x34) 0x00001
    (cond (eqb op 0x35) 0x00021
    (cond (eqb op 0x36) 0x00011
    (cond (eqb op 0x37) 0x00021
    (cond (eqb op 0x38) 0x00011
    (cond (eqb op 0x39) 0x00001
    (cond (eqb op 0x3A) 0x00011
    (cond (eqb op 0x3B) 0x02111
    (cond (eqb op 0x3C) 0x11111
    (cond (eqb op 0x3D) 0x00011
    (cond (eqb op 0x3E) 0x00211
    (cond (eqb op 0x3F) 0x00011
    (cond (eqb op 0x40) 0x02111
    (cond (eqb op 0x41) 0x00011
    (cond (eqb op 0x42) 0x00001
    0)))))))))))))))

-- digit i of a word, from the right
unfoldable pub digit_of : ℕ → ℕ → ℕ
digit_of w i = w / 2 ^ (4 * i) % 16

-- place i of an expression whose places stand where w says
unfoldable pub slot_in : List ℕ → ℕ → ℕ → ℕ
slot_in s w i = cond (eqb (digit_of w i) 0) 0 (field_at 2 s (digit_of w i))

-- the operands of one byte or four of an expression, as its head has them
unfoldable pub lead_of : ℕ → List ℕ → ℕ
lead_of op s =
    cond (eqb op 0x30) (field_at 4 s 1)
    (cond (eqb op 0x32) (field_at 1 s 1)
    (cond (eqb op 0x34) (field_at 1 s 3)
    (cond (eqb op 0x35) (field_at 1 s 1)
    (cond (eqb op 0x3A) (field_at 1 s 1)
    (cond (eqb op 0x3C) (field_at 1 s 1)
    (cond (eqb op 0x3E) (field_at 1 s 1 + 256 * field_at 1 s 2)
    0))))))

unfoldable pub form_of : ℕ → List ℕ → Form
form_of op s =
    record {
      head = op + 256 * lead_of op s;
      a = slot_in s (offsets_of op) 0;
      b = slot_in s (offsets_of op) 1;
      c = slot_in s (offsets_of op) 2;
      d = slot_in s (offsets_of op) 3;
      e = slot_in s (offsets_of op) 4;
    }

-- an operand of two bytes among n expressions and t types
unfoldable pub slot_ok : ℕ → ℕ → ℕ → ℕ → Bool
slot_ok k x n t = cond (eqb k 1) (ltb x n) (cond (eqb k 2) (ltb x t) true)

unfoldable pub slots_ok : ℕ → Form → ℕ → ℕ → Bool
slots_ok op f n t =
    cond (slot_ok (digit_of (kinds_of op) 0) f.a n t)
    (cond (slot_ok (digit_of (kinds_of op) 1) f.b n t)
    (cond (slot_ok (digit_of (kinds_of op) 2) f.c n t) (cond (slot_ok (digit_of (kinds_of op) 3) f.d n t) (slot_ok (digit_of (kinds_of op) 4) f.e n t) false) false)
    false)
    false

-- 0x3C: key i of c, among n expressions
unfoldable pub key_ok : ℕ → ℕ → ℕ → ℕ → Bool
key_ok i c x n = cond (ltb i c) (ltb x n) (eqb x 0xFFFF)

unfoldable pub limit_ok : ℕ → Form → ℕ → Bool
limit_ok c f n =
    cond (leb c 4) (cond (key_ok 0 c f.a n) (cond (key_ok 1 c f.b n) (cond (key_ok 2 c f.c n) (cond (key_ok 3 c f.d n) (ltb f.e n) false) false) false) false) false
