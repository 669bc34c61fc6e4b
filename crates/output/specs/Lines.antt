-- The desk program's lines as bytes (document 01, "The desk program").
use Rattle.std.specs.Prelude.{ℕ, zero, suc, ◌+◌, ◌/◌, ◌%◌, cond, List, [], ◌∷◌, ◌++◌, get_or, take, ltb}
use Rattle.std.proofs.Math.Option.{Option, none, some}
use Rattle.order.specs.Effects.{Effect}
use Rattle.syntax.specs.Types.{Ty, num, pair, cell, fn, lim, grant}
use Rattle.syntax.specs.Job.{Src, source_of}
use Rattle.syntax.specs.Operands.{nth}
use Rattle.syntax.specs.Reading.{Refusal, Read, refused, read, reading}
use Rattle.typing.specs.Verdict.{Verdict, accept, refuse, verdict_of}
use Rattle.semantics.specs.Machine.{Kind, k_num, k_pair, k_fn, k_cell, k_lim, k_grant, Value, System}
use Rattle.semantics.specs.Start.{start_of}
use Rattle.semantics.specs.Threads.{steps_of, value_of}
use Rattle.semantics.specs.Calls.{Answer, taken, finished, spent, noroom, stuck, denied, Ran, run_of, call}

-- a number in decimal, no leading zeros; at most so many digits
unfoldable pub decimal_in : ℕ → ℕ → List ℕ
decimal_in zero n = []
decimal_in (suc f) n = cond (ltb n 10) ((48 + n) ∷ []) (decimal_in f (n / 10) ++ ((48 + n % 10) ∷ []))

unfoldable pub decimal : ℕ → List ℕ
decimal n = decimal_in 20 n

-- a digit of base 16, "letters small"
unfoldable pub hex_digit : ℕ → ℕ
hex_digit d = cond (ltb d 10) (48 + d) (87 + d)

-- the last k digits, highest first
unfoldable pub hex : ℕ → ℕ → List ℕ
hex zero n = []
hex (suc k) n = hex k (n / 16) ++ (hex_digit (n % 16) ∷ [])

-- the words, in ASCII
unfoldable pub w_refused : List ℕ
w_refused = 0x72 ∷ 0x65 ∷ 0x66 ∷ 0x75 ∷ 0x73 ∷ 0x65 ∷ 0x64 ∷ []

unfoldable pub w_at : List ℕ
w_at = 0x61 ∷ 0x74 ∷ []

unfoldable pub w_accepted : List ℕ
w_accepted = 0x61 ∷ 0x63 ∷ 0x63 ∷ 0x65 ∷ 0x70 ∷ 0x74 ∷ 0x65 ∷ 0x64 ∷ []

unfoldable pub w_done : List ℕ
w_done = 0x64 ∷ 0x6F ∷ 0x6E ∷ 0x65 ∷ []

unfoldable pub w_spent : List ℕ
w_spent = 0x73 ∷ 0x70 ∷ 0x65 ∷ 0x6E ∷ 0x74 ∷ []

unfoldable pub w_no_room : List ℕ
w_no_room = 0x6E ∷ 0x6F ∷ 0x20 ∷ 0x72 ∷ 0x6F ∷ 0x6F ∷ 0x6D ∷ []

unfoldable pub w_number : List ℕ
w_number = 0x6E ∷ 0x75 ∷ 0x6D ∷ 0x62 ∷ 0x65 ∷ 0x72 ∷ []

unfoldable pub w_pair : List ℕ
w_pair = 0x70 ∷ 0x61 ∷ 0x69 ∷ 0x72 ∷ []

unfoldable pub w_cell : List ℕ
w_cell = 0x63 ∷ 0x65 ∷ 0x6C ∷ 0x6C ∷ []

unfoldable pub w_function : List ℕ
w_function = 0x66 ∷ 0x75 ∷ 0x6E ∷ 0x63 ∷ 0x74 ∷ 0x69 ∷ 0x6F ∷ 0x6E ∷ []

unfoldable pub w_limit : List ℕ
w_limit = 0x6C ∷ 0x69 ∷ 0x6D ∷ 0x69 ∷ 0x74 ∷ []

unfoldable pub w_grant : List ℕ
w_grant = 0x67 ∷ 0x72 ∷ 0x61 ∷ 0x6E ∷ 0x74 ∷ []

-- "One space parts the words; each line ends with byte 0A."
unfoldable pub space : List ℕ → List ℕ → List ℕ
space a b = a ++ (0x20 ∷ b)

unfoldable pub line : List ℕ → List ℕ
line a = a ++ (0x0A ∷ [])

-- "the type's kind (number, pair, cell, function, limit, grant)"
unfoldable pub type_kind : Ty → List ℕ
type_kind (num q) = w_number
type_kind (pair q A B) = w_pair
type_kind (cell q A) = w_cell
type_kind (fn q A B s) = w_function
type_kind (lim q r) = w_limit
type_kind (grant q r) = w_grant

-- "kind and, for a number, its value"
unfoldable pub value_kind : Kind → List ℕ
value_kind (k_num n) = space w_number (decimal n)
value_kind (k_pair p) = w_pair
value_kind (k_fn f) = w_function
value_kind (k_cell c) = w_cell
value_kind (k_lim k) = w_limit
value_kind (k_grant k) = w_grant

unfoldable pub handed : Option Value → List ℕ
handed none = []
handed (some v) = value_kind v.kind

-- "`refused N at P`"
unfoldable pub refused_line : Refusal → List ℕ
refused_line r = line (space w_refused (space (decimal r.number) (space w_at (decimal r.place))))

-- "`accepted`, the effect as 16 hexadecimal digits (letters small) and the type's kind"
unfoldable pub accepted_line : Ty → Effect → List ℕ
accepted_line T s = line (space w_accepted (space (hex 16 s.set) (type_kind T)))

-- "`done`, steps, kind and, for a number, its value; or `spent` .., or `no room` and steps", by the counts of a run and the thread that failed: "prints thread 0's count, after `spent` too, or at `no room` that of
-- the thread without room"; the job's value is thread 0's. No line is defined for stuck and denied: demand 3 says that an accepted job never needs one. A run is never taken, which is a step's answer.
unfoldable pub ran_line : Answer → List ℕ → ℕ → System → List ℕ
ran_line taken c i m = []
ran_line finished c i m = line (space w_done (space (decimal (get_or c 0 0)) (handed (value_of m))))
ran_line spent c i m = line (space w_spent (decimal (get_or c 0 0)))
ran_line noroom c i m = line (space w_no_room (decimal (get_or c i 0)))
ran_line stuck c i m = []
ran_line denied c i m = []

-- "The desk program allows 100,000 to each"
abbrev pub most_steps : ℕ
most_steps = 100000

abbrev pub desk_allows : List ℕ
desk_allows = most_steps ∷ most_steps ∷ most_steps ∷ most_steps ∷ most_steps ∷ most_steps ∷ most_steps ∷ most_steps ∷ []

unfoldable pub ran_of : Ran → List ℕ
ran_of r = ran_line r.answer r.counts r.thread r.machine

unfoldable pub run_line : Src → List ℕ
run_line S = ran_of (call (steps_of (nth S.cmds)) (run_of desk_allows) (start_of S))

unfoldable pub run_read : Read → List ℕ
run_read (refused r) = []
run_read (read J) = run_line (source_of J)

unfoldable pub reported : Verdict → Read → List ℕ
reported (refuse r) j = refused_line r
reported (accept T s) j = accepted_line T s ++ run_read j

-- what the desk program prints for a job's bytes
unfoldable pub desk_of : List ℕ → List ℕ
desk_of s = reported (verdict_of s) (reading s)

-- "16,384 bytes are read"
abbrev pub most_bytes : ℕ
most_bytes = 16384

unfoldable pub printed : List ℕ → List ℕ
printed input = desk_of (take most_bytes input)
