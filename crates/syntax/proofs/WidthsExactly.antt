-- F-8: what the table of widths has for each of the 256 bytes, by the rows of the commands, and that no other table has it (`widths_exactly`).
use Rattle.std.specs.Prelude.{◌≡◌, refl, ℕ, ◌<◌, List, ◌↔◌, length, get_or}
use Rattle.std.proofs.Common.{sym, ap, ◌∙◌, arith, ext_get_or}
use Rattle.std.proofs.Math.Option.{Option, none, some, none-ne-some}
use Rattle.std.proofs.Math.ListN.{get_elem?}
use Rattle.order.proofs.OrderLaws.{get_elem?_get_d}
use Rattle.order.proofs.Ranges.{at_range, length_range}
use Rattle.syntax.specs.Commands.{Op, o_end, x_top, form, traits, op_of, operands, total, width, section_of}
use Rattle.syntax.proofs.ReadPlaces.{width_most, widest_few, byte_low, op_found, op_byte}
use Rattle.syntax.specs.Widths.{width_on, width_byte, width_table}
use Rattle.syntax.specs.WidthsExactly.{NoCommand, Widths}

entries : length width_table ≡ 256
unfolding width_table
entries = length_range width_byte 0 256

-- the entry of a byte
at_byte : (b : ℕ) → b < 256 → get_elem? width_table b ≡ some (width_byte b)
unfolding width_table
at_byte b h = at_range width_byte 256 b h

pub width_at : (b : ℕ) → b < 256 → get_or width_table b 0 ≡ width_byte b
width_at b h = get_elem?_get_d width_table b (width_byte b) 0 (at_byte b h)

-- what stands for a command's byte, and for every other
pub width_is : (b : ℕ) (o : Op) → op_of b ≡ some o → width_byte b ≡ width o
unfolding width_byte width_on
width_is b o e = rw e

pub width_none : (b : ℕ) → op_of b ≡ none → width_byte b ≡ 255
unfolding width_byte width_on
width_none b e = rw e

of_command : (o : Op) → width_byte (form o).byte ≡ total (operands o)
unfolding width
of_command o = width_is (form o).byte o (op_found o)

not_found : (b : ℕ) → NoCommand b → op_of b ≡ none
not_found b n = at (op_of b) refl
  where
    at : (c : Option Op) → op_of b ≡ c → c ≡ none
    at none e = refl
    at (some o) e = absurd (n o (op_byte b o e))

of_other : (b : ℕ) → NoCommand b → width_byte b ≡ 255
of_other b n = width_none b (not_found b n)

-- the facts decide the table
decided : {t : List ℕ} → Widths t → (b : ℕ) → b < 256 → get_or t b 0 ≡ width_byte b
decided {t} w b h = at (op_of b) refl
  where
    at : (c : Option Op) → op_of b ≡ c → get_or t b 0 ≡ width_byte b
    at (some o) e = let q = op_byte b o e in ap (λ (x : ℕ). get_or t x 0) q ∙ get_elem?_get_d t (form o).byte (total (operands o)) 0 (w.command o) ∙ sym (of_command o) ∙ ap width_byte (sym q)
    at none e =
        let n : NoCommand b = λ o q. none-ne-some o (sym e ∙ ap op_of q ∙ op_found o) in
        get_elem?_get_d t b 255 0 (w.other b h n) ∙ sym (of_other b n)

-- **the table of widths has these entries, and no other table has them**
pub widths_exactly : (t : List ℕ) → (t ≡ width_table) ↔ Widths t
widths_exactly t = (
  λ e. rw e (record {
    every = entries;
    command = λ o. at_byte (form o).byte (byte_low o) ∙ ap some (of_command o);
    other = λ b h n. at_byte b h ∙ ap some (of_other b n);
  }),
  λ w. ext_get_or 0 t width_table (w.every ∙ sym entries) (λ b h. let k : b < 256 = omega (arith, w.every) in decided w b k ∙ sym (width_at b k)),
)

-- 0xFF and 0x31 have no operands
pub without_operands : (get_elem? width_table 0xFF ≡ some 0) × (get_elem? width_table 0x31 ≡ some 0)
unfolding form traits operands total
without_operands = let w = (widths_exactly width_table).0 refl in (w.command o_end, w.command x_top)

-- 255 is no command's width
pub width_narrow : (o : Op) → width o < 255
width_narrow o = omega (arith, width_most o, widest_few (section_of o))
