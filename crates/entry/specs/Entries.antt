-- What one command comes to: the words of its entry, the job's end, or a refusal.
use Rattle.std.specs.Prelude.{ℕ, max, ◌+◌, ◌*◌, ◌/◌, ◌%◌, Bool, true, false, cond, List, length, get_or, eqb, ltb, leb, Result, Ok, Err}
use Rattle.syntax.specs.Job.{Name}
use Rattle.syntax.specs.Words.{type_bits}
use Rattle.syntax.specs.Reading.{most_variables, most_depth, host_name, open_name, local_name}
use Rattle.names.specs.Ancestors.{names_in, declared_of, ancestors_by, set_ok_by, rights_ok_by}
use Rattle.entry.specs.Bytes.{field_at, width_byte, section_byte, misplaced_by, full_by, form_of, slots_ok, limit_ok}
use Rattle.entry.specs.declared.Form.{Form}
use Rattle.entry.specs.declared.Shape.{Shape}
use Rattle.entry.specs.declared.Entry.{Entry}
use Rattle.entry.specs.declared.Entry.TheVariants.{Named, Typed, Valued, Rights, Formed, Last}

-- what a command comes to: an entry, or the number of a refusal
abbrev pub Judged : Type 0
Judged = Result Entry ℕ

-- the depth of part a of a new type, the n-th; 255 where it is not earlier
unfoldable pub part_depth : List ℕ → ℕ → ℕ → ℕ
part_depth depths n a = cond (ltb a n) (get_or depths a 0) 255

-- a type whose deepest part has depth d
unfoldable pub typed_of : ℕ → ℕ → ℕ → Judged
typed_of w s d = cond (ltb d most_depth) (Ok (Typed w s (d + 1))) (Err 6)

-- What the command comes to, by section: names, types, host values, rights, expressions. `s` starts at the command byte.

-- 0x01, 0x02: `d` and `h` say whether the upper name u is declared and is a host name or 1
abbrev pub named_of : ℕ → ℕ → Bool → Bool → Judged
named_of op u d h = cond (eqb u 0) (Err 6) (cond d (cond (eqb op 1) (cond h (Ok (Named (u + 256))) (Err 6)) (Ok (Named (u + 512)))) (Err 6))

unfoldable pub name_entry : ℕ → List ℕ → List ℕ → ℕ → Judged
name_entry op s names n = named_of op (field_at 1 s 1) (declared_of n (field_at 1 s 1)) (host_name (names_in names n) (field_at 1 s 1))

-- 0x14, 0x15
unfoldable pub key_type_of : ℕ → ℕ → ℕ → Bool → Judged
key_type_of op q r d = cond (eqb r 0) (Err 6) (cond d (typed_of (type_bits op q r 0) 0 0) (Err 6))

-- 0x13
unfoldable pub function_of : ℕ → ℕ → ℕ → ℕ → ℕ → Bool → Judged
function_of q a b s d ok = cond ok (typed_of (type_bits 0x13 q a b) s d) (Err 6)

unfoldable pub two_depths : List ℕ → ℕ → ℕ → ℕ → ℕ
two_depths depths t a b = max (part_depth depths t a) (part_depth depths t b)

-- 0x10 to 0x15, by the key q; t types are declared, and n names with these ancestors
unfoldable pub type_by : ℕ → ℕ → List ℕ → List ℕ → ℕ → List ℕ → ℕ → Judged
type_by op q s anc n depths t =
    cond (eqb op 0x10) (typed_of (type_bits op q 0 0) 0 0)
    (cond (eqb op 0x11) (typed_of (type_bits op q (field_at 2 s 2) (field_at 2 s 4)) 0 (two_depths depths t (field_at 2 s 2) (field_at 2 s 4)))
    (cond (eqb op 0x12) (typed_of (type_bits op q (field_at 2 s 2) 0) 0 (part_depth depths t (field_at 2 s 2)))
    (cond (eqb op 0x13)
    (function_of q (field_at 2 s 2) (field_at 2 s 4) (field_at 8 s 6) (two_depths depths t (field_at 2 s 2) (field_at 2 s 4)) (set_ok_by anc n (field_at 8 s 6)))
    (key_type_of op q (field_at 1 s 2) (declared_of n (field_at 1 s 2))))))

unfoldable pub type_entry : ℕ → List ℕ → List ℕ → ℕ → List ℕ → ℕ → Judged
type_entry op s anc n depths t = cond (declared_of n (field_at 1 s 1)) (type_by op (field_at 1 s 1) s anc n depths t) (Err 6)

-- 0x20
abbrev pub valued_of : Bool → ℕ → ℕ → Judged
valued_of ok ty n = cond ok (Ok (Valued (0x20 + 256 * ty + 16777216 * n))) (Err 6)

-- the type's word is w: a cell of unkeyed numbers, or a key of an open name with n 0
unfoldable pub host_word_ok : List ℕ → List Name → ℕ → ℕ → Bool
host_word_ok types ds w n =
    cond (eqb (w % 256) 0x12) (cond (open_name ds (w / 256 % 256)) (eqb (get_or types (w / 65536 % 65536) 0 % 65536) 0x10) false)
    (cond (ltb (w % 256) 0x14) false (cond (open_name ds (w / 256 % 256)) (cond (open_name ds (w / 65536 % 256)) (eqb n 0) false) false))

unfoldable pub value_entry : List ℕ → List Name → List ℕ → ℕ → Judged
value_entry s ds types t =
    valued_of (cond (ltb (field_at 2 s 1) t) (host_word_ok types ds (get_or types (field_at 2 s 1) 0) (field_at 4 s 3)) false) (field_at 2 s 1) (field_at 4 s 3)

-- 0x21
unfoldable pub rights_entry : List ℕ → List ℕ → List Name → Judged
rights_entry s anc ds = cond (rights_ok_by anc ds (field_at 8 s 1)) (Ok (Rights (field_at 8 s 1))) (Err 6)

-- 0x30 to 0x42: variables, binders, parts, after v host values
unfoldable pub binds_ok : ℕ → ℕ → Bool
binds_ok v x = cond (leb v x) (ltb x most_variables) false

-- x is i or one more
unfoldable pub either_of : ℕ → ℕ → Bool
either_of x i = cond (eqb x i) true (eqb x (i + 1))

unfoldable pub new_key_ok : List ℕ → List Name → ℕ → Bool
new_key_ok s ds v = cond (binds_ok v (field_at 1 s 1)) (local_name ds (field_at 1 s 2)) false

unfoldable pub lead_ok : ℕ → List ℕ → List Name → ℕ → Bool
lead_ok op s ds v =
    cond (eqb op 0x32) (ltb (field_at 1 s 1) most_variables)
    (cond (eqb op 0x34) (either_of (field_at 1 s 3) 1)
    (cond (eqb op 0x35) (binds_ok v (field_at 1 s 1))
    (cond (eqb op 0x3A) (either_of (field_at 1 s 1) 0)
    (cond (eqb op 0x3E) (new_key_ok s ds v)
    true))))

unfoldable pub places_ok : ℕ → ℕ → Form → ℕ → ℕ → Bool
places_ok op c f n t = cond (eqb op 0x3C) (limit_ok c f n) (slots_ok op f n t)

unfoldable pub form_entry : ℕ → List ℕ → List Name → Shape → Judged
form_entry op s ds h = cond (places_ok op (field_at 1 s 1) (form_of op s) h.cmds h.types) (cond (lead_ok op s ds h.values) (Ok (Formed (form_of op s))) (Err 6)) (Err 6)

unfoldable pub entry_of : ℕ → List ℕ → List ℕ → List ℕ → List ℕ → List ℕ → Shape → Judged
entry_of op s anc names types depths h =
    cond (eqb (section_byte op) 0) (name_entry op s names h.names)
    (cond (eqb (section_byte op) 1) (type_entry op s anc h.names depths h.types)
    (cond (eqb (section_byte op) 2) (value_entry s (names_in names h.names) types h.types)
    (cond (eqb (section_byte op) 3) (rights_entry s anc (names_in names h.names))
    (cond (eqb (section_byte op) 4) (form_entry op s (names_in names h.names) h)
    (Ok Last)))))

-- refusal 4 where the input ends first, then 5
abbrev pub in_room : Bool → Bool → Judged → Judged
in_room ends full e = cond ends (Err 4) (cond full (Err 5) e)

-- refusals 2, 3, 4, 5 and 6 in this order
unfoldable pub judged_by : ℕ → List ℕ → ℕ → Shape → List ℕ → List ℕ → List ℕ → List ℕ → Judged
judged_by b s cur h anc names types depths =
    cond (eqb (width_byte b) 255) (Err 2)
    (cond (misplaced_by cur (section_byte b) h.cmds) (Err 3)
    (in_room (leb (length s) (width_byte b)) (full_by (section_byte b) h.names h.types h.values h.cmds) (entry_of b s anc names types depths h)))

-- the same, by the ancestors of the names in the table
abbrev pub entry_in : ℕ → List ℕ → List ℕ → List ℕ → List ℕ → Shape → Judged
entry_in op s names types depths h = entry_of op s (ancestors_by (names_in names h.names)) names types depths h

abbrev pub judged_in : ℕ → List ℕ → ℕ → Shape → List ℕ → List ℕ → List ℕ → Judged
judged_in b s cur h names types depths = judged_by b s cur h (ancestors_by (names_in names h.names)) names types depths

-- the section of an entry; 5 at the end of the job
unfoldable pub sort_of : Entry → ℕ
sort_of (Named w) = 0
sort_of (Typed w s d) = 1
sort_of (Valued w) = 2
sort_of (Rights s) = 3
sort_of (Formed f) = 4
sort_of Last = 5

-- reading stops at the end
unfoldable pub stops_of : Entry → Bool
stops_of (Named w) = false
stops_of (Typed w s d) = false
stops_of (Valued w) = false
stops_of (Rights s) = false
stops_of (Formed f) = false
stops_of Last = true
