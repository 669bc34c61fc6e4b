-- The commands by their bytes: sections and widths are those of reading.
use Rattle.std.specs.Prelude.{◌≡◌, refl, ℕ, ◌<◌}
use Rattle.std.proofs.Common.{arith}
use Rattle.std.proofs.Math.Option.{none, some}
use Rattle.syntax.specs.Commands.{Op, o_host, o_local, o_number, o_pair, o_cell, o_function, o_limit, o_grant, o_value, o_rights, o_end, op_of, width, section_of}
use Rattle.syntax.specs.Commands.{x_number, x_top, x_variable, x_pair, x_part, x_function, x_apply, x_cell, x_assign, x_read, x_sum, x_test, x_limit, x_grant, x_newkey, x_associate, x_access, x_divide, x_spawn}
use Rattle.syntax.proofs.ReadPlaces as places
use Rattle.syntax.proofs.ReadPlaces.{width_most, widest_few}
use Rattle.entry.specs.Bytes.{width_on, width_byte, section_byte}
use Rattle.entry.specs.OpBytes.{byte_of}

-- the byte of a command
pub op_byte : (b : ℕ) (o : Op) → op_of b ≡ some o → b ≡ byte_of o
unfolding byte_of
op_byte b o e = places.op_byte b o e

-- the section of a command, by its byte and by its number
pub sections : (o : Op) → (section_byte (byte_of o) ≡ section_of o) × (section_of o < 6)
unfolding section_byte section_of byte_of
sections o_host = (refl, omega arith)
sections o_local = (refl, omega arith)
sections o_number = (refl, omega arith)
sections o_pair = (refl, omega arith)
sections o_cell = (refl, omega arith)
sections o_function = (refl, omega arith)
sections o_limit = (refl, omega arith)
sections o_grant = (refl, omega arith)
sections o_value = (refl, omega arith)
sections o_rights = (refl, omega arith)
sections x_number = (refl, omega arith)
sections x_top = (refl, omega arith)
sections x_variable = (refl, omega arith)
sections x_pair = (refl, omega arith)
sections x_part = (refl, omega arith)
sections x_function = (refl, omega arith)
sections x_apply = (refl, omega arith)
sections x_cell = (refl, omega arith)
sections x_assign = (refl, omega arith)
sections x_read = (refl, omega arith)
sections x_sum = (refl, omega arith)
sections x_test = (refl, omega arith)
sections x_limit = (refl, omega arith)
sections x_grant = (refl, omega arith)
sections x_newkey = (refl, omega arith)
sections x_associate = (refl, omega arith)
sections x_access = (refl, omega arith)
sections x_divide = (refl, omega arith)
sections x_spawn = (refl, omega arith)
sections o_end = (refl, omega arith)

pub section_is : (o : Op) → section_byte (byte_of o) ≡ section_of o
section_is o = (sections o).0

pub width_narrow : (o : Op) → width o < 255
width_narrow o = omega (arith, width_most o, widest_few (section_of o))

pub width_is : (b : ℕ) (o : Op) → op_of b ≡ some o → width_byte b ≡ width o
unfolding width_byte width_on
width_is b o e = rw e

pub width_none : (b : ℕ) → op_of b ≡ none → width_byte b ≡ 255
unfolding width_byte width_on
width_none b e = rw e
