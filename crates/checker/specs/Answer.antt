-- What the answers of the check stand for: the verdict by number and place, or by the tree of the job's type and its effect, and the tables afterwards.
use Rattle.std.specs.Prelude.{◌≡◌, ℕ, suc, cond, List, get_or, eqb, Result, Ok, Err, IfOk}
use Rattle.order.specs.Effects.{of_word}
use Rattle.syntax.specs.Types.{Ty, tree_in}
use Rattle.syntax.specs.Reading.{Read, refused, read, reading}
use Rattle.syntax.specs.Tree.{predecessor}
use Rattle.syntax.specs.Words.{entry_in}
use Rattle.syntax.specs.Loading.{zeros}
use Rattle.typing.specs.Verdict as rules
use Rattle.typing.specs.Tables.{Tables, tables_after, verdict_with}
use Rattle.entry.specs.declared.Shape.{Shape}
use Rattle.entry.specs.Shapes.{shape_of, no_shape}
use Rattle.table.specs.declared.Refusal.{Refusal}
use Rattle.judge.specs.Answer.{Verdict}
use Rattle.checker.specs.declared.Checked.{Checked}

-- the tree of entry i of the type table and its sets
unfoldable pub tree_of : List ℕ → List ℕ → ℕ → Ty
tree_of types sets i = tree_in (suc i) (entry_in types sets) i

-- the verdict that an answer stands for, by the type table afterwards and its sets
unfoldable pub verdict_in : List ℕ → List ℕ → Verdict → rules.Verdict
verdict_in types sets (Ok a) = rules.accept (tree_of types sets a.entry) (of_word a.effect)
verdict_in types sets (Err r) = rules.refuse (record { number = r.number; place = r.place })

-- what the check answers
abbrev pub Answer : Type 0
Answer = Result Checked Refusal

abbrev pub refused_by : ℕ → ℕ → Answer
refused_by n p = Err (record { number = n; place = p })

-- its verdict, and the counts of an accepted job; a refused one has none
abbrev pub verdict_from : Answer → Verdict
verdict_from (Ok c) = Ok c.accepted
verdict_from (Err r) = Err r

abbrev pub shape_from : Answer → Shape
shape_from (Ok c) = c.shape
shape_from (Err r) = no_shape

-- the counts of an accepted job, and none of a refused one
unfoldable pub shape_read : Read → Shape
shape_read (refused r) = no_shape
shape_read (read J) = shape_of J

unfoldable pub shape_for : rules.Verdict → Read → Shape
shape_for (rules.accept T e) r = shape_read r
shape_for (rules.refuse n) r = no_shape

-- the entry of the last of n expressions
unfoldable pub last_in : List ℕ → ℕ → ℕ
last_in entries n = get_or entries (predecessor n) 0

-- `check`: the verdict, the tables afterwards, and the counts of an accepted job; the entry that an acceptance names is that of the last expression
pub record CheckTo (bytes : List ℕ) (r : Answer) (w x : Tables) : Type 0 where
  pub verdict : verdict_in x.job.types x.job.sets (verdict_from r) ≡ verdict_with w bytes
  pub tables : x ≡ tables_after w bytes
  pub shape : shape_from r ≡ shape_for (verdict_with w bytes) (reading bytes)
  pub entry : IfOk r (λ c. c.accepted.entry ≡ last_in x.entries c.shape.cmds)

-- what a table of expressions holds after the load is refused with the number n: 1 writes nothing
unfoldable pub unless_one : ℕ → List ℕ → List ℕ
unless_one n l = cond (eqb n 1) l (zeros l)
