-- Which fault an entry has, said of its words; and that the entries are as many as the counts say.
use Rattle.std.specs.Prelude.{◌≡◌, refl, ℕ, zero, suc, ◌+◌, ◌/◌, ◌%◌, ◌≤◌, Bool, true, false, List, [], ◌∷◌, ◌++◌, length, ltb}
use Rattle.std.proofs.Common.{ap, ◌∙◌, arith, length-append, le-ltb, ne_eqb}
use Rattle.std.proofs.Math.Option.{some}
use Rattle.order.specs.Bools.{◌and◌}
use Rattle.syntax.specs.Commands.{Op, o_pair, o_value, op_of, operands, section_of}
use Rattle.syntax.specs.Loading.{JobTables}
use Rattle.syntax.specs.Writing.{Counts, Item, fault, fits, item_of, within, type_fields, value_fields, name_item, type_item, value_item, cmd_item, each, items}

-- "a count above its limit 5, whatever the entry past it holds"
pub beyond : (limit i : ℕ) (e : Item) → limit ≤ i → within limit i e ≡ fault 5
unfolding within
beyond limit i e h = rw (le-ltb i limit h) refl

-- "a command foreign to its table 3", also where its fields are too wide
pub foreign_is_3 : (sec : ℕ) (op : Op) (numbers : Op → List ℕ) → (section_of op ≡ sec → ⊥) → item_of sec (some op) numbers ≡ fault 3
unfolding item_of
foreign_is_3 sec op numbers h = rw (ne_eqb (section_of op) sec h) refl

-- a test that fails among three, and among two
third_wide : (a b c : Bool) → c ≡ false → (a and (b and c)) ≡ false
unfolding ◌and◌
third_wide true true c e = e
third_wide true false c e = refl
third_wide false b c e = refl

narrow_and : (a b : Bool) → a ≡ false → (a and b) ≡ false
unfolding ◌and◌
narrow_and a b e = rw e refl

-- "a field too wide for its operand is 6": the second part of a pair
pub wide_pair : (d s : ℕ) → op_of (d % 256) ≡ some o_pair → 65536 ≤ d / 4294967296 → type_fields d s ≡ fault 6
unfolding item_of fits operands section_of
wide_pair d s e h = rw (e, third_wide (ltb (d / 256 % 256) 256) (ltb (d / 65536 % 65536) 65536) (ltb (d / 4294967296) 65536 and true) (narrow_and _ _ (le-ltb (d / 4294967296) 65536 h))) refl

-- the number of a host value
pub wide_value : (d : ℕ) → op_of (d % 256) ≡ some o_value → 4294967296 ≤ d / 16777216 → value_fields d ≡ fault 6
unfolding item_of fits operands section_of ◌and◌
wide_value d e h = rw (e, second_wide (ltb (d / 256 % 65536) 65536) (ltb (d / 16777216) 4294967296 and true) (narrow_and _ _ (le-ltb (d / 16777216) 4294967296 h))) refl
  where
    second_wide : (a b : Bool) → b ≡ false → (a and b) ≡ false
    second_wide true b z = z
    second_wide false b z = refl

-- as many entries as the counts say, with the rights and the end
each_length : {A : Type 0} (f : ℕ → A) (i k : ℕ) → length (each f i k) ≡ k
unfolding each
each_length f i zero = refl
each_length f i (suc k) = ap suc (each_length f (suc i) k)

counted : (a b c d : List Item) (r e : Item) → length (a ++ (b ++ (c ++ (r ∷ (d ++ (e ∷ [])))))) ≡ length a + length b + length c + length d + 2
counted a b c d r e =
    omega (arith, length-append a (b ++ (c ++ (r ∷ (d ++ (e ∷ []))))), length-append b (c ++ (r ∷ (d ++ (e ∷ [])))), length-append c (r ∷ (d ++ (e ∷ []))), length-append d (e ∷ []))

pub all_counted : (w : JobTables) (c : Counts) → length (items w c) ≡ c.names + c.types + c.values + c.cmds + 2
unfolding items
all_counted w c =
    counted (each (name_item w) 0 c.names) (each (type_item w) 0 c.types) (each (value_item w) 0 c.values) (each (cmd_item w) 0 c.cmds) _ _
    ∙ (λ i.
    each_length (name_item w) 0 c.names i + each_length (type_item w) 0 c.types i + each_length (value_item w) 0 c.values i + each_length (cmd_item w) 0 c.cmds i + 2)
