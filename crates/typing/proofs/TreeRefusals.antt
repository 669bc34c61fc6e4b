-- The numbers 8, 9 and 10 from the bytes, exactly: each is the verdict when the bytes are a job in which its fact fails, at the lowest expression where it does, and the facts of the numbers before it
-- hold of all expressions.
use Rattle.std.specs.Prelude.{◌≡◌, ℕ, ◌≤◌, List, ◌↔◌}
use Rattle.std.proofs.Common.{arith}
use Rattle.std.proofs.Math.Option.{some}
use Rattle.order.specs.Effects.{Effect}
use Rattle.syntax.specs.Types.{Ty}
use Rattle.syntax.specs.Job.{Job, source_of}
use Rattle.syntax.specs.Reading.{Refusal, read, reading}
use Rattle.syntax.proofs.ReadFormed.{read_formed}
use Rattle.syntax.specs.Tree.{tree_refusal}
use Rattle.syntax.specs.TreeFacts.{Lowest, UsedAsDue, BindsAnew, UsesInScope}
use Rattle.syntax.specs.TreeExactly.{refusal}
use Rattle.syntax.proofs.TreeExactly.{tree_8, tree_9, tree_10}
use Rattle.typing.specs.Verdict.{refuse, verdict_of}
use Rattle.typing.specs.Demand2.{AllUsed, AllAnew, JobHas}
use Rattle.typing.proofs.Exactly.{typed_scoped}
use Rattle.typing.proofs.RefusalLaws.{tree_decides, refused_read}

-- a refusal of the tree, and what it says of the job
by_tree : (s : List ℕ) (q : Refusal) → 8 ≤ q.number → q.number ≤ 10 → (P : Job → Type 0) → ((J : Job) → reading s ≡ read J → (tree_refusal (source_of J) ≡ some q) ↔ P J)
    → (verdict_of s ≡ refuse q) ↔ ((J : Job) × (reading s ≡ read J) × P J)
by_tree s q a b P f = (
  λ e. let z = refused_read s q e a in (z.0, z.1, (f z.0 z.1).0 ((tree_decides s z.0 z.1 q b).0 e)),
  λ z. (tree_decides s z.0 z.1 q b).1 ((f z.0 z.1).1 z.2),
)

-- 8: e is the lowest expression that is used other than once (the last: not at all)
pub refused_8 : (s : List ℕ) (e : ℕ) → (verdict_of s ≡ refuse (refusal 8 e)) ↔ ((J : Job) × (reading s ≡ read J) × Lowest (source_of J) (UsedAsDue (source_of J)) e)
refused_8 s e = by_tree s (refusal 8 e) (omega arith) (omega arith) (λ J. Lowest (source_of J) (UsedAsDue (source_of J)) e) (λ J q. tree_8 (source_of J) (read_formed s J q) e)

-- 9: none is, and e is the lowest that binds a variable or name bound before
pub refused_9 : (s : List ℕ) (e : ℕ) → (verdict_of s ≡ refuse (refusal 9 e)) ↔ ((J : Job) × (reading s ≡ read J) × (AllUsed J × Lowest (source_of J) (BindsAnew (source_of J)) e))
refused_9 s e = by_tree s (refusal 9 e) (omega arith) (omega arith) (λ J. AllUsed J × Lowest (source_of J) (BindsAnew (source_of J)) e) (λ J q. tree_9 (source_of J) (read_formed s J q) e)

-- 10: none is, none does, and e is the lowest that uses a variable, or has a name in its type operand, out of scope
pub refused_10 : (s : List ℕ) (e : ℕ) → (verdict_of s ≡ refuse (refusal 10 e)) ↔ ((J : Job) × (reading s ≡ read J) × (AllUsed J × AllAnew J × Lowest (source_of J) (UsesInScope (source_of J)) e))
refused_10 s e = by_tree s (refusal 10 e) (omega arith) (omega arith) (λ J. AllUsed J × AllAnew J × Lowest (source_of J) (UsesInScope (source_of J)) e) (λ J q. tree_10 (source_of J) (read_formed s J q) e)

-- and to a job that gets 10 the rules give no type
pub untyped_10 : (s : List ℕ) (e : ℕ) → verdict_of s ≡ refuse (refusal 10 e) → (J : Job) → reading s ≡ read J → (T : Ty) (t : Effect) → JobHas J T t → ⊥
untyped_10 s e h J q T t d =
    let z = (tree_10 (source_of J) (read_formed s J q) e).0 ((tree_decides s J q (refusal 10 e) (omega arith)).0 h) in
    z.2.fails ((typed_scoped (source_of J) (read_formed s J q) z.0 z.1 d).scoped e z.2.is)
