-- Where reading stops: the number and place of a refusal, and how long a job can be.
use Rattle.std.specs.Prelude.{◌≡◌, ℕ, zero, suc, ◌+◌, ◌*◌, ◌≤◌, ◌<◌, List, length}
use Rattle.syntax.specs.Job.{Job}
use Rattle.syntax.specs.Reading.{Refusal, State}
use Rattle.syntax.specs.Reading.{Read, refused, read, read_from}

-- the most bytes that follow a command byte, by section
unfoldable pub widest : ℕ → ℕ
widest zero = 1
widest (suc zero) = 13
widest (suc (suc zero)) = 6
widest (suc (suc (suc zero))) = 8
widest (suc (suc (suc (suc zero)))) = 11
widest (suc (suc (suc (suc (suc n))))) = 0

-- the most bytes that write the entries of a job
unfoldable pub weight : Job → ℕ
weight J = 2 * length J.names + 14 * length J.types + 7 * length J.values + 12 * length J.cmds

-- the command at offset `pos` is due, and reading is in section `sec`
pub record Weighed (pos sec : ℕ) (J : Job) : Type 0 where
  pub early : sec < 3 → pos ≤ weight J
  pub late : 3 ≤ sec → pos ≤ weight J + 9

-- what reading an input of n bytes comes to
pub data Comes (n : ℕ) : Read → Type 0 where
  comes_refused : (r : Refusal) → 2 ≤ r.number → r.number ≤ 7 → r.place ≤ n → Comes n (refused r)
  comes_read : (J : Job) → n ≤ weight J + 10 → Comes n (read J)

-- what follows the bytes is read on from where they end, in the state that they lead to
pub record ReadOn (end : ℕ) (t : List ℕ) (r : Read) : Type 0 where
  pub steps : ℕ
  pub state : State
  pub enough : length t < steps
  pub is_on : r ≡ read_from steps end state t
