-- The entries of the tables by their words, and what the code tells of them by their command bytes.
use Rattle.std.specs.Prelude.{ℕ, ◌-◌, ◌/◌, ◌%◌, Bool, false, cond, List, [], ◌++◌, eqb, leb}
use Rattle.syntax.specs.Reading.{most_names, most_types, most_variables, most_expressions}
use Rattle.syntax.specs.Loading.{JobTables}
use Rattle.syntax.specs.JobBytes.{bytes_of}
use Rattle.syntax.specs.Writing.{Item, within, name_at, type_at, set_at, value_at, head_at, place_at, name_fields, type_fields, value_fields, expr_fields}
use Rattle.entry.specs.Bytes.{width_byte, section_byte}

-- 2 for a byte that is no command, 3 for a command of another section, else 0
unfoldable pub foreign_by : ℕ → ℕ → ℕ
foreign_by b sec = cond (eqb (width_byte b) 255) 2 (cond (eqb (section_byte b) sec) 0 3)

unfoldable pub limit_of : ℕ → ℕ
limit_of sec = cond (eqb sec 0) (most_names - 2) (cond (eqb sec 1) most_types (cond (eqb sec 2) most_variables most_expressions))

-- entry i of section `sec`, and the same within the limit
unfoldable pub entry_item : JobTables → ℕ → ℕ → Item
entry_item w sec i =
    cond (eqb sec 0) (name_fields (name_at w i))
    (cond (eqb sec 1) (type_fields (type_at w i) (set_at w i))
    (cond (eqb sec 2) (value_fields (value_at w i))
    (expr_fields (head_at w i) (place_at w i 0) (place_at w i 1) (place_at w i 2) (place_at w i 3) (place_at w i 4))))

unfoldable pub item_in : JobTables → ℕ → ℕ → Item
item_in w sec i = within (limit_of sec) i (entry_item w sec i)

-- the second part of a type is too wide for a type's number, or the first one for a name
unfoldable pub type_wide : ℕ → ℕ → Bool
type_wide op d =
    cond (eqb op 0x11) (leb 281474976710656 d)
    (cond (eqb op 0x13) (leb 281474976710656 d)
    (cond (eqb op 0x14) (leb 256 (d / 65536 % 65536))
    (cond (eqb op 0x15) (leb 256 (d / 65536 % 65536))
    false)))

-- what the head has is too wide
unfoldable pub head_wide : ℕ → ℕ → Bool
head_wide op x =
    cond (eqb op 0x30) (leb 4294967296 x)
    (cond (eqb op 0x32) (leb 256 x)
    (cond (eqb op 0x34) (leb 256 x)
    (cond (eqb op 0x35) (leb 256 x)
    (cond (eqb op 0x3A) (leb 256 x)
    (cond (eqb op 0x3C) (leb 256 x)
    (cond (eqb op 0x3E) (leb 65536 x)
    false))))))

-- the bytes of the operands: of a type
unfoldable pub type_tail : ℕ → ℕ → ℕ → List ℕ
type_tail op d s =
    bytes_of 1 (d / 256 % 256)
    ++ cond (eqb op 0x10) []
    (cond (eqb op 0x11) (bytes_of 2 (d / 65536 % 65536) ++ bytes_of 2 (d / 4294967296 % 65536))
    (cond (eqb op 0x12) (bytes_of 2 (d / 65536 % 65536))
    (cond (eqb op 0x13) ((bytes_of 2 (d / 65536 % 65536) ++ bytes_of 2 (d / 4294967296 % 65536)) ++ bytes_of 8 s)
    (bytes_of 1 (d / 65536 % 256)))))

-- of an expression
unfoldable pub expr_tail : ℕ → ℕ → ℕ → ℕ → ℕ → ℕ → ℕ → List ℕ
expr_tail op x a b c d e =
    let two : ℕ → ℕ → List ℕ = λ m n. bytes_of 2 m ++ bytes_of 2 n in
    cond (eqb op 0x30) (bytes_of 4 (x % 4294967296))
    (cond (eqb op 0x31) []
    (cond (eqb op 0x32) (bytes_of 1 (x % 256))
    (cond (eqb op 0x34) (bytes_of 2 a ++ bytes_of 1 (x % 256))
    (cond (eqb op 0x35) (bytes_of 1 (x % 256) ++ two b a)
    (cond (eqb op 0x37) (two b a)
    (cond (eqb op 0x39) (bytes_of 2 a)
    (cond (eqb op 0x3A) (bytes_of 1 (x % 256) ++ two a b)
    (cond (eqb op 0x3B) (two a b ++ two c d)
    (cond (eqb op 0x3C) (bytes_of 1 (x % 256) ++ ((two a b ++ two c d) ++ bytes_of 2 e))
    (cond (eqb op 0x3E) (bytes_of 2 (x % 65536) ++ (two a b ++ bytes_of 2 c))
    (cond (eqb op 0x40) (two a b ++ two c d)
    (cond (eqb op 0x42) (bytes_of 2 a)
    (two a b)))))))))))))
