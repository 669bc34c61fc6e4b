-- 0x41 (F-5 of document 02), said apart from its rule and from the checker's function: its type, which effects its own is below, exactly, and its refusal.
use Rattle.syntax.specs.Types.{Ty, num, pair}

-- "an unkeyed pair of unkeyed numbers"
abbrev pub two_numbers : Ty
two_numbers = pair 0 (num 0) (num 0)
