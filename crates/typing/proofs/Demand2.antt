-- Demand 2, from the bytes: a job is accepted exactly when its expressions are used as is due, nothing is bound twice, and the rules of document 01 give it a type, with an effect below its rights; and the
-- type and the effect reported are the least that they give. What the numbers 8 and 9 are about is said of the job (`TreeFacts`), apart from the tests; number 10 is part of the rules.
use Rattle.std.specs.Prelude.{◌≡◌, refl, ℕ, List, ◌↔◌}
use Rattle.order.specs.Effects.{Effect, EffBelow}
use Rattle.syntax.specs.Types.{Ty}
use Rattle.syntax.specs.Job.{Job, up_of, source_of}
use Rattle.syntax.specs.Reading.{Read, refused, read, reading}
use Rattle.syntax.specs.Formed.{Formed}
use Rattle.syntax.proofs.ReadFormed.{read_formed}
use Rattle.syntax.specs.Tree.{root}
use Rattle.syntax.specs.TreeFacts.{x_root}
use Rattle.typing.specs.Subtype.{Sub}
use Rattle.typing.specs.Verdict.{accept, judge, judge_read, verdict_of}
use Rattle.typing.specs.Least.{typed, type_of}
use Rattle.typing.proofs.Exactly.{least, refuse_not, accepted_is, accepted_typed, typed_accepted}
use Rattle.typing.specs.Demand2.{Accepted, AllAnew, AllUsed, JobHas, WithinRights}

accepted_means : (J : Job) → Formed (source_of J) → {T : Ty} {e : Effect} → judge (source_of J) ≡ accept T e → Accepted J T e
accepted_means J ok {T} {e} h =
    let z = accepted_typed (source_of J) ok h in
    record { used = z.0.used; anew = z.0.anew; has = z.1; within = z.2; least = λ U t d. same (least (source_of J) ok z.0 x_root d) (accepted_is (source_of J) h).1 }
  where
    same : {U : Ty} {t : Effect} → (A : Ty) × (a : Effect) × (type_of (source_of J) (root (source_of J)) ≡ typed A a) × Sub (up_of (source_of J)) A U × EffBelow (up_of (source_of J)) a t
        → type_of (source_of J) (root (source_of J)) ≡ typed T e → Sub (up_of (source_of J)) T U × EffBelow (up_of (source_of J)) e t
    same z g = let p : z.0 ≡ T = cc z.2 in let q : z.1 ≡ e = cc z.2 in (rw p at z.3, rw q at z.4)

-- bytes that are accepted are a job, and the rules give it the type and the effect, which are the least
pub accepts_typed : (s : List ℕ) {T : Ty} {e : Effect} → verdict_of s ≡ accept T e → (J : Job) × (reading s ≡ read J) × Accepted J T e
unfolding verdict_of judge_read
accepts_typed s {T} {e} h = at (reading s) refl h
  where
    at : (r : Read) → reading s ≡ r → judge_read r ≡ accept T e → (J : Job) × (reading s ≡ read J) × Accepted J T e
    at (refused r) q g = refuse_not g
    at (read J) q g = (J, q, accepted_means J (read_formed s J q) g)

-- and bytes that are a job of which this holds, with some type and effect, are accepted
pub typed_accepts : (s : List ℕ) (J : Job) → reading s ≡ read J → AllUsed J → AllAnew J → (U : Ty) (t : Effect) → JobHas J U t → WithinRights J t → (T : Ty) × (e : Effect) × (verdict_of s ≡ accept T e)
unfolding verdict_of judge_read
typed_accepts s J q used anew U t d u = let z = typed_accepted (source_of J) (read_formed s J q) used anew d u in (z.0, z.1, rw q z.2)

-- "a job is accepted exactly when the report's rules, as document 01 restates them, give it a type and an effect at or below its rights"
pub demand2 : (s : List ℕ)
    → ((T : Ty) × (e : Effect) × (verdict_of s ≡ accept T e)) ↔ ((J : Job) × (reading s ≡ read J) × AllUsed J × AllAnew J × (U : Ty) × (t : Effect) × JobHas J U t × WithinRights J t)
demand2 s = (
  λ z. let y = accepts_typed s z.2 in let a = y.2 in (y.0, y.1, a.used, a.anew, z.0, z.1, a.has, a.within),
  λ z. typed_accepts s z.0 z.1 z.2 z.3 z.4 z.5 z.6 z.7,
)
