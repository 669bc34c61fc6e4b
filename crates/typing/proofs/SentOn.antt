-- A checked job can be sent on: the tables that an accepting check leaves write the bytes that were checked.
use Rattle.std.specs.Prelude.{◌≡◌, refl, ℕ, ◌≤◌, Bool, true, false, cond, List, [], ◌∷◌, ◌++◌, length, get_or}
use Rattle.std.proofs.Common.{sym, ap, ap₂, ◌∙◌, arith, append-nil, append_assoc}
use Rattle.syntax.specs.Types.{Ty, TypeEntry}
use Rattle.syntax.specs.Commands.{Cmd}
use Rattle.order.specs.Effects.{Effect}
use Rattle.syntax.specs.Job.{Job}
use Rattle.syntax.specs.Reading.{Refusal, Read, read, reading}
use Rattle.syntax.specs.WordLaws.{Bytes}
use Rattle.syntax.proofs.ReadLaws.{or_none}
use Rattle.syntax.specs.Loading as loads
use Rattle.syntax.specs.Loading.{filled_with}
use Rattle.syntax.proofs.LoadLaws.{long_with}
use Rattle.syntax.specs.Writing.{writing, write_with, sent}
use Rattle.syntax.proofs.BufferLaws.{long_enough_lem}
use Rattle.syntax.specs.WrittenBack.{counts_of}
use Rattle.syntax.proofs.WrittenBack.{read_written}
use Rattle.typing.specs.Verdict.{Verdict, accept, refuse, verdict_of}
use Rattle.typing.specs.Layout.{Layout, Points, new, old, point, points_to, var_entry, layout_from, layout_of}
use Rattle.typing.specs.Tables.{Tables, short, effect_in, layout_for, filled_by, kept_on, tables_after, verdict_with}

-- the entries that a layout adds stand behind those that it started with
record Grown (a b : List TypeEntry) : Type 0 where
  pub more : List TypeEntry
  pub are : b ≡ a ++ more

grown_then : {a b c : List TypeEntry} → Grown a b → Grown b c → Grown a c
grown_then {a} x y = record { more = x.more ++ y.more; are = y.are ∙ ap (λ l. l ++ y.more) x.are ∙ append_assoc a x.more y.more }

point_grown : (p : Points) (L : Layout) → Grown L.entries (point p L).entries
unfolding point
point_grown (new l x) L = record { more = l ++ (x ∷ []); are = refl }
point_grown (old i) L = record { more = []; are = sym (append-nil L.entries) }

layout_grown : (var : ℕ → ℕ) (eff : ℕ → Effect) (l : List (Cmd ℕ)) (L : Layout) → Grown L.entries (layout_from var eff l L).entries
unfolding layout_from
layout_grown var eff [] L = record { more = []; are = sym (append-nil L.entries) }
layout_grown var eff (k ∷ l) L = let p = points_to var eff L.entries (λ e. get_or L.of e 0) k in grown_then (point_grown p L) (layout_grown var eff l (point p L))

declared_first : (J : Job) → Grown J.types (layout_for J).entries
unfolding layout_for layout_of
declared_first J = grown_then (record { more = _; are = refl }) (layout_grown (var_entry J) (effect_in J) J.cmds _)

-- the tables of an accepted job, whatever they held before
pub checked_written : (s : List ℕ) (J : Job) → Bytes s → reading s ≡ read J → (w : Tables) → writing (filled_by J w).job (counts_of J) ≡ sent s
unfolding filled_by
checked_written s J by e w =
    let g = declared_first J in ap (λ (T : List TypeEntry). writing (filled_with T J w.job) (counts_of J)) g.are ∙ read_written s J by e w.job g.more

pub accepted_written : (s : List ℕ) (J : Job) → Bytes s → reading s ≡ read J → (w : Tables) {T : Ty} {e : Effect} → verdict_with w s ≡ accept T e → writing (tables_after w s).job (counts_of J) ≡ sent s
unfolding verdict_with tables_after kept_on
accepted_written s J by r w {T} {e} v = at (short w) refl (verdict_of s) refl v
  where
    not_refused : {X : Type 0} {q : Refusal} → refuse q ≡ accept T e → X
    not_refused z = absurd (let y : ◌≡◌ {A = ℕ} 0 1 = cc in omega arith)

    kept : (d : Verdict) → d ≡ accept T e → kept_on d (reading s) w ≡ filled_by J w
    kept d z = ap₂ (λ (x : Verdict) (R : Read). kept_on x R w) z r

    at : (b : Bool) → short w ≡ b → (d : Verdict) → verdict_of s ≡ d → cond b (refuse (record { number = 1; place = 0 })) d ≡ accept T e
        → writing (cond b w (kept_on d (reading s) w)).job (counts_of J) ≡ sent s
    at true p d q z = not_refused z
    at false p d q z = ap (λ (x : Tables). writing x.job (counts_of J)) (kept d z) ∙ checked_written s J by r w

-- with a buffer that is long enough
pub accepted_sent : (s : List ℕ) (J : Job) → Bytes s → reading s ≡ read J → (w : Tables) {T : Ty} {e : Effect} → verdict_with w s ≡ accept T e → (n : ℕ) → length s ≤ n
    → write_with (tables_after w s).job (counts_of J) n ≡ sent s
unfolding verdict_with tables_after kept_on filled_by short
accepted_sent s J by r w {T} {e} v n l = at (short w) refl (verdict_of s) refl v (accepted_written s J by r w v)
  where
    at : (b : Bool) → short w ≡ b → (d : Verdict) → verdict_of s ≡ d → cond b (refuse (record { number = 1; place = 0 })) d ≡ accept T e
        → writing (cond b w (kept_on d (reading s) w)).job (counts_of J) ≡ sent s → write_with (cond b w (kept_on d (reading s) w)).job (counts_of J) n ≡ sent s
    at true p d q z h = absurd (let y : ◌≡◌ {A = ℕ} 0 1 = cc in omega arith)
    at false p d q z h =
        let x : kept_on d (reading s) w ≡ filled_by J w = ap₂ (λ (a : Verdict) (R : Read). kept_on a R w) z r in
        let job_long : loads.short w.job ≡ false = (or_none _ _ (or_none _ _ p).0).0 in
        let kept_long : loads.short (kept_on d (reading s) w).job ≡ false = ap (λ (t : Tables). loads.short t.job) x ∙ long_with (layout_for J).entries J w.job job_long in
        long_enough_lem (kept_on d (reading s) w).job (counts_of J) n s kept_long h l
