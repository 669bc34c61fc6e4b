-- The refusals of a start: 1 to 10, and no other number.
use Rattle.std.specs.Prelude.{◌≡◌, refl, ℕ, ◌≤◌, Bool, true, false, cond, List}
use Rattle.std.proofs.Common.{ap, arith}
use Rattle.syntax.specs.Reading.{Refusal, Read, refused, read, refused_at}
use Rattle.syntax.specs.Loading.{JobTables, short, loading, load_with}
use Rattle.typing.proofs.RefusalLaws.{load_number}
use Rattle.semantics.specs.Starting.{unstarted, start_loaded, start_with}

same_number : {p q : Refusal} → unstarted p ≡ unstarted q → p.number ≡ q.number
same_number {p} {q} e = let z : p ≡ q = cc in ap (λ (x : Refusal). x.number) z

pub start_number : (w : JobTables) (s : List ℕ) (q : Refusal) → start_with w s ≡ unstarted q → (1 ≤ q.number) × (q.number ≤ 10)
unfolding start_with start_loaded load_with
start_number w s q e = at (short w) e
  where
    from : (R : Read) → loading s ≡ R → start_loaded R ≡ unstarted q → (1 ≤ q.number) × (q.number ≤ 10)
    from (refused r) f g = let n = same_number g in let a = load_number s r f in (omega (arith, a.0), omega (arith, a.1))
    from (read J) f g = absurd (let z : ◌≡◌ {A = ℕ} 0 1 = cc in omega arith)

    at : (b : Bool) → start_loaded (cond b (refused_at 1 0) (loading s)) ≡ unstarted q → (1 ≤ q.number) × (q.number ≤ 10)
    at true g = let n : 1 ≡ q.number = same_number g in (omega arith, omega arith)
    at false g = from (loading s) refl g
