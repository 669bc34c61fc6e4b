-- Bytes copied to the start of a lent buffer.
use Rattle.std.specs.Prelude.{◌≡◌, ℕ, ◌≤◌, ◌<◌, List, ◌++◌, length, drop}
use Rattle.std.proofs.Common.{lt-ltb, le-ltb}
use Rattle.table.specs.Copied.{copied}

pub copied_all : (s b : List ℕ) → length s ≤ length b → copied s b ≡ s ++ drop (length s) b
unfolding copied
copied_all s b h = simp (le-ltb (length b) (length s) h)

-- a buffer that is too short stays
pub copied_none : (s b : List ℕ) → length b < length s → copied s b ≡ b
unfolding copied
copied_none s b h = simp (lt-ltb (length b) (length s) h)
