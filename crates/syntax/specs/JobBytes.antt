-- The bytes that write a job, command by command: `reading` turned round. Document 01's "low byte first", and its sections in order.
use Rattle.std.specs.Prelude.{ℕ, zero, suc, ◌/◌, ◌%◌, cond, get_or, drop, leb}
use mathlib.Core.List.{List, [], ◌∷◌, ◌++◌, flat_map}
use Rattle.syntax.specs.Commands.{Op, o_host, o_local, o_value, o_rights, o_end, form, operands, row}
use Rattle.syntax.specs.Job.{Job}
use Rattle.syntax.specs.Reading.{Written, w_name, w_type, w_value, w_rights, w_cmd, w_end, unwritten}
use Rattle.syntax.specs.Words.{entry_row}
use Rattle.syntax.specs.WrittenLaws.{numbers_of}

-- an operand of w bytes
unfoldable pub bytes_of : ℕ → ℕ → List ℕ
bytes_of zero n = []
bytes_of (suc w) n = n % 256 ∷ bytes_of w (n / 256)

-- operands of the given widths
unfoldable pub operand_bytes : List ℕ → List ℕ → List ℕ
operand_bytes [] o = []
operand_bytes (w ∷ ws) o = bytes_of w (get_or o 0 0) ++ operand_bytes ws (drop 1 o)

unfoldable pub command_bytes : Op × List ℕ → List ℕ
unfolding form operands
command_bytes r = (form r.0).byte ∷ operand_bytes (operands r.0) r.1

-- the command that writes an entry, and its operands in order
unfoldable pub row_of : Written → Op × List ℕ
unfolding entry_row row
row_of (w_name d) = (cond d.host o_host o_local, d.upper ∷ [])
row_of (w_type e) = entry_row e
row_of (w_value h) = (o_value, h.ty ∷ h.init ∷ [])
row_of (w_rights s) = (o_rights, s.set ∷ [])
row_of (w_cmd k) = ((row k).op, numbers_of k)
row_of w_end = (o_end, [])
row_of unwritten = (o_end, [])

abbrev pub entry_bytes : Written → List ℕ
entry_bytes w = command_bytes (row_of w)

-- what is read up to a command in section `sec`: the rights stand before section 4, and so in section 3
unfoldable pub bytes_to : ℕ → Job → List ℕ
bytes_to sec J =
    (((flat_map (λ d. entry_bytes (w_name d)) J.names
    ++ flat_map (λ e. entry_bytes (w_type e)) J.types)
    ++ flat_map (λ h. entry_bytes (w_value h)) J.values)
    ++ cond (leb 3 sec) (entry_bytes (w_rights J.rights)) [])
    ++ flat_map (λ k. entry_bytes (w_cmd k)) J.cmds

-- the whole job
unfoldable pub job_bytes : Job → List ℕ
job_bytes J = bytes_to 5 J ++ entry_bytes w_end
