-- What is written by the three commands that have an operand with a range, 0x34, 0x3A and 0x3C; and the operands' numbers of what is written, which are those that wrote it.
use Rattle.std.specs.Prelude.{◌≡◌, ℕ, zero, suc, true, false, cond, List, [], ◌∷◌, ◌++◌, take, drop, eqb, leb}
use Rattle.order.specs.Bools.{◌and◌}
use Rattle.order.specs.Sets.{all_of}
use Rattle.syntax.specs.Commands.{Cmd, c_part, c_sum, c_lim, Op, Operand, numbers, type, row}
use Rattle.syntax.specs.Reading.{Written, w_cmd, unwritten}

-- 0x34: part 1 or 2
unfoldable pub part_of : ℕ → ℕ → Written
part_of a i = cond (eqb i 1) (w_cmd (c_part a true)) (cond (eqb i 2) (w_cmd (c_part a false)) unwritten)

-- 0x3A: sum (0) or difference (1)
unfoldable pub sum_of : ℕ → ℕ → ℕ → Written
sum_of op a b = cond (eqb op 0) (w_cmd (c_sum true a b)) (cond (eqb op 1) (w_cmd (c_sum false a b)) unwritten)

-- 0x3C: at most four keys, and 0xFFFF where no key stands
unfoldable pub limit_of : ℕ → List ℕ → ℕ → Written
limit_of c ks b = cond (leb c 4 and all_of (λ e. eqb e 0xFFFF) (drop c ks)) (w_cmd (c_lim (take c ks) b)) unwritten

-- the numbers of an expression's operands, in the order written
unfoldable pub numbers_in : List (Operand ℕ) → List ℕ
numbers_in [] = []
numbers_in (numbers l ∷ os) = l ++ numbers_in os
numbers_in (type t ∷ os) = t ∷ numbers_in os

abbrev pub numbers_of : Cmd ℕ → List ℕ
numbers_of k = numbers_in (row k).given

-- an expression's command and the numbers of its operands
pub record Raw (op : Op) (o : List ℕ) (k : Cmd ℕ) : Type 0 where
  pub command : (row k).op ≡ op
  pub numbers_are : numbers_of k ≡ o

-- the first n numbers that f gives; those of a list
unfoldable pub firsts : ℕ → (ℕ → ℕ) → List ℕ
firsts zero f = []
firsts (suc n) f = f 0 ∷ firsts n (λ i. f (suc i))
