-- What a head and its places stand for, one condition a command byte, for proofs about programs that test the byte.
use Rattle.std.specs.Prelude.{ℕ, ◌/◌, ◌%◌, take}
use Rattle.std.proofs.Math.Bool.{cond}
use mathlib.Core.List.{[], ◌∷◌}
use Rattle.std.proofs.Math.Dec.{eqb}
use Rattle.syntax.specs.Commands.{Cmd, c_num, c_top, c_var, c_pair, c_part, c_fn, c_app, c_new, c_asg, c_read, c_sum, c_test, c_lim, c_grant, c_newkey, c_assoc, c_access, c_divide, c_spawn}

-- z where the byte is none of these
abbrev pub decode_or : Cmd ℕ → ℕ → ℕ → ℕ → ℕ → ℕ → ℕ → ℕ → Cmd ℕ
decode_or z byte x a b c d e =
    cond (eqb byte 0x31) c_top
    (cond (eqb byte 0x32) (c_var (x % 256))
    (cond (eqb byte 0x33) (c_pair a b)
    (cond (eqb byte 0x34) (c_part a (eqb x 1))
    (cond (eqb byte 0x35) (c_fn (x % 256) b a)
    (cond (eqb byte 0x36) (c_app a b)
    (cond (eqb byte 0x37) (c_new b a)
    (cond (eqb byte 0x38) (c_asg a b)
    (cond (eqb byte 0x39) (c_read a)
    (cond (eqb byte 0x3A) (c_sum (eqb x 0) a b)
    (cond (eqb byte 0x3B) (c_test a b c d)
    (cond (eqb byte 0x3C) (c_lim (take x (a ∷ b ∷ c ∷ d ∷ [])) e)
    (cond (eqb byte 0x3D) (c_grant a b)
    (cond (eqb byte 0x3E) (c_newkey (x % 256) (x / 256 % 256) a b c)
    (cond (eqb byte 0x3F) (c_assoc a b)
    (cond (eqb byte 0x40) (c_access a b c d)
    (cond (eqb byte 0x41) (c_divide a b)
    (cond (eqb byte 0x42) (c_spawn a)
    z)))))))))))))))))

unfoldable pub decode_by : ℕ → ℕ → ℕ → ℕ → ℕ → ℕ → ℕ → Cmd ℕ
decode_by byte x a b c d e = decode_or (c_num x) byte x a b c d e
