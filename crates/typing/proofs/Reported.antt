-- What the checker reports of a job that it accepts: the effect and the sets in the type are reduced, so that they are the one least type and effect as they are written;
-- and they name 0, 1 and host names alone, what a manager knows.
use Rattle.std.specs.Prelude.{◌≡◌, refl, ℕ, zero, suc, ◌<◌, true, ◌≢◌, ◌⊎◌, eqb}
use Rattle.std.proofs.Common.{arith, inl, inr, eqb-true}
use mathlib.Core.List.{List}
use Rattle.order.specs.Bools.{◌or◌}
use Rattle.order.proofs.Bools.{or_cases}
use Rattle.order.specs.Effects.{Effect}
use Rattle.order.proofs.EffectLaws.{name_not_zero, reduced_unique}
use Rattle.syntax.specs.Types.{Ty}
use Rattle.syntax.specs.Job.{Name, Job, Src, up_of, source_of}
use Rattle.syntax.specs.Reading.{host_name, open_name, read, reading}
use Rattle.syntax.proofs.ReadFormed.{read_formed, host_open, zero_open}
use Rattle.syntax.specs.Formed.{Formed}
use Rattle.syntax.specs.Tree.{host_ctx}
use Rattle.syntax.specs.WellScoped.{ScopedName, n_low, n_bound}
use Rattle.syntax.specs.TreeFacts.{x_root}
use Rattle.syntax.proofs.Scope.{host_name_lem}
use Rattle.syntax.proofs.ScopeLaws.{type_names_lem}
use Rattle.typing.proofs.SubtypeLaws.{sub_antisym}
use Rattle.typing.proofs.Scoping.{Worked, host_type, worked_out}
use Rattle.typing.specs.RulesScoped.{ScopedResult}
use Rattle.typing.proofs.RulesScoped.{rules_scoped}
use Rattle.typing.proofs.Scoped.{lookup_var}
use Rattle.typing.proofs.Exactly.{accepted_is, accepted_typed}
use Rattle.typing.specs.Verdict.{accept, judge, judge_read, verdict_of}
use Rattle.typing.specs.Demand2.{JobHas, Accepted}
use Rattle.typing.proofs.Demand2.{accepts_typed}
use Rattle.typing.specs.Reported.{Report}

one_open : (ds : List Name) → open_name ds 1 ≡ true
unfolding open_name host_name ◌or◌
one_open ds = refl

low_open : (ds : List Name) (n : ℕ) → n < 2 → open_name ds n ≡ true
low_open ds zero h = zero_open ds
low_open ds (suc zero) h = one_open ds
low_open ds (suc (suc n)) h = absurd (omega arith)

-- what is in scope in the host's context is 0, 1 or a host name
host_known : (S : Src) {n : ℕ} → ScopedName (host_ctx S) n → open_name S.names n ≡ true
host_known S {n} (n_low h) = low_open S.names n h
host_known S {n} (n_bound m) = host_open S.names n (host_name_lem S m)

open_above : (ds : List Name) (n : ℕ) → open_name ds n ≡ true → n ≢ 0 → host_name ds n ≡ true
unfolding open_name
open_above ds n e h = at (or_cases (eqb n 0) (host_name ds n) e)
  where
    at : (eqb n 0 ≡ true) ⊎ (host_name ds n ≡ true) → host_name ds n ≡ true
    at (inl z) = absurd (h (eqb-true n 0 z))
    at (inr z) = z

-- whatever type and effect the rules give a job that is read, they name only 0, 1 and host names
pub job_scoped : (s : List ℕ) (J : Job) → reading s ≡ read J → (T : Ty) (t : Effect) → JobHas J T t → ScopedResult (host_ctx (source_of J)) T t
job_scoped s J q T t d = let ok = read_formed s J q in rules_scoped (source_of J) ok d (record { each = λ x T l. (host_type (source_of J) ok (lookup_var l)).scoped })

report_of : (J : Job) → Formed (source_of J) → {T : Ty} {e : Effect} → Accepted J T e → ScopedResult (host_ctx (source_of J)) T e → Worked (up_of (source_of J)) T e → Report J T e
unfolding source_of
report_of J ok {T} {e} a g w = record {
  effect_reduced = w.eff;
  type_reduced = w.ty;
  effect_names = λ n m. open_above J.names n (host_known (source_of J) (g.eff.each n m)) (name_not_zero e m);
  type_names_lem = λ n m. host_known (source_of J) (type_names_lem g.ty n m);
  least_unique = λ U t d l ru rt. let x = l T e a.has in let y = a.least U t d in
      (sub_antisym ok.proper ru w.ty x.0 y.0, reduced_unique ok.proper rt w.eff x.1 y.1);
}

-- of all bytes: what is accepted is a job, and what is reported is a report of it
pub accepts_reported : (s : List ℕ) {T : Ty} {e : Effect} → verdict_of s ≡ accept T e → (J : Job) × (reading s ≡ read J) × Accepted J T e × Report J T e
unfolding verdict_of judge_read
accepts_reported s {T} {e} h = let z = accepts_typed s h in (z.0, z.1, z.2, from z.0 z.1 z.2)
  where
    from : (J : Job) → reading s ≡ read J → Accepted J T e → Report J T e
    from J q a =
        let g : judge (source_of J) ≡ accept T e = rw q at h in
        let ok = read_formed s J q in
        report_of J ok a (job_scoped s J q T e a.has) (worked_out (source_of J) ok (accepted_typed (source_of J) ok g).0 x_root (accepted_is (source_of J) g).1)
