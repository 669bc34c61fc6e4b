-- What a manager can hold the sheet to, from the bytes of a job: a line for each host name and no other; `yes` exactly where the name is below a name of the least effect, so below a name of
-- whatever effect the rules give the job; counts that add up to the host cells that carry a host name; and for a refused job the desk program's line.
use Rattle.std.specs.Prelude.{ℕ, ◌+◌, ◌≡◌, true, ◌↔◌, take}
use Rattle.std.proofs.Math.Path.{refl, ap}
use Rattle.std.proofs.Common.{sym, ◌∙◌, arith, length-take}
use mathlib.Core.List.{List, [], ◌∷◌, Memᴰ}
use Rattle.std.proofs.lemmas.List.{length-map}
use Rattle.order.specs.Order.{below}
use Rattle.order.specs.OrderLaws.{Proper}
use Rattle.order.proofs.OrderLaws.{get_elem?_lt, below→, →below, below_trans}
use Rattle.order.proofs.SetLaws.{some_of→, →some_of}
use Rattle.order.specs.Effects.{Effect, names}
use Rattle.order.proofs.EffectLaws.{eff_each}
use Rattle.syntax.specs.Types.{Ty}
use Rattle.syntax.specs.Job.{Job, up_of, value_of, source_of}
use Rattle.syntax.specs.Reading.{Refusal, read, reading}
use Rattle.syntax.specs.ReadLaws.{JobOk}
use Rattle.syntax.proofs.ReadLaws.{read_ok, built_at}
use Rattle.syntax.specs.Formed.{Formed}
use Rattle.syntax.proofs.ReadFormed.{read_formed, upper_ok}
use Rattle.typing.specs.Verdict.{accept, refuse, verdict_of}
use Rattle.typing.specs.Demand2.{JobHas, Accepted}
use Rattle.typing.proofs.Demand2.{accepts_typed}
use Rattle.output.specs.Lines.{refused_line, reported, desk_of}
use Rattle.output.specs.Sheet.{Row, is_used, carries, count_of, row_of, rows_of, sheet_text, sheet_read, sheeted, sheet_of}
use Rattle.output.specs.ColumnLaws.{Fits, AllFit, fit_nil, fit_cons}
use Rattle.output.proofs.SheetLaws.{listed, ascending, counts_add_up, all_counted, count_few}
use Rattle.output.specs.SheetExactly.{Sheet, UnderEffect}

-- the lines of every job that is read fit into their columns
pub rows_fit : (J : Job) → JobOk J → (s : Effect) → AllFit (rows_of (source_of J) s)
unfolding row_of source_of
rows_fit J ok s = all (rows_of (source_of J) s) fits
  where
    fits : (r : Row) → Memᴰ r (rows_of (source_of J) s) → Fits r
    fits r m =
        let z = (listed (source_of J) s r).0 m in
        let l = get_elem?_lt J.names z.0 z.1 z.2 in
        let u = (upper_ok (take z.0 J.names) z.1 (built_at _ ok.names z.0 z.1 z.2)).earlier in
        rw z.4 (record {
          name = omega (arith, ok.few_names);
          upper = omega (arith, ok.few_names, length-take z.0 J.names);
          cells = omega (arith, count_few (carries (2 + z.0)) (source_of J).values, length-map J.values (value_of J.types), ok.few_values);
        })

    all : (rs : List Row) → ((r : Row) → Memᴰ r rs → Fits r) → AllFit rs
    all [] f = fit_nil
    all (r ∷ rs) f = fit_cons (f r (Memᴰ.head refl)) (all rs (λ q m. f q (Memᴰ.tail m)))

used_under : {up : List ℕ} → Proper up → (s : Effect) (n : ℕ) → (is_used up s n ≡ true) ↔ UnderEffect up n s
unfolding is_used
used_under {up} ok s n = (
  λ h. let z = some_of→ (λ m. below up n m) (names s) h in (z.0, z.1, below→ up n z.0 z.2),
  λ z. →some_of (λ m. below up n m) z.1 (→below ok z.2),
)

module _ (J : Job) (ok : JobOk J) (form : Formed (source_of J)) (T : Ty) (e : Effect) (acc : Accepted J T e) where
  line_used : (r : Row) → Memᴰ r (rows_of (source_of J) e) → r.used ≡ is_used (up_of (source_of J)) e r.name
  unfolding row_of
  line_used r m = let z = (listed (source_of J) e r).0 m in rw z.4 refl

  yes_line : (r : Row) → Memᴰ r (rows_of (source_of J) e) → (r.used ≡ true) ↔ UnderEffect (up_of (source_of J)) r.name e
  yes_line r m = let u = used_under form.proper e r.name in let q = line_used r m in (λ h. u.0 (sym q ∙ h), λ z. q ∙ u.1 z)

  under_least : (n : ℕ) → UnderEffect (up_of (source_of J)) n e ↔ ((U : Ty) (t : Effect) → JobHas J U t → UnderEffect (up_of (source_of J)) n t)
  under_least n = (
    λ z U t d. let y = eff_each (acc.least U t d).1 z.0 z.1 in (y.0, y.1, below_trans z.2 y.2),
    λ f. f T e acc.has,
  )

  sheet_lines : Sheet J e (rows_of (source_of J) e)
  unfolding source_of
  sheet_lines = record {
    lines = listed (source_of J) e;
    order = ascending (source_of J) e;
    yes = yes_line;
    needed = λ r m. let y = yes_line r m in let u = under_least r.name in (λ h. u.0 (y.0 h), λ f. y.1 (u.1 f));
    keyed = counts_add_up (source_of J) e;
    others = ap (λ (k : ℕ). k + count_of (carries 0) (source_of J).values + count_of (carries 1) (source_of J).values) (counts_add_up (source_of J) e) ∙ all_counted J.names (source_of J).values form.host_type;
    fit = rows_fit J ok e;
  }

-- an accepted job: its sheet is these lines, of its least effect
pub sheet_exactly : (s : List ℕ) {T : Ty} {e : Effect} → verdict_of s ≡ accept T e
    → (J : Job) × (reading s ≡ read J) × Accepted J T e × Sheet J e (rows_of (source_of J) e) × (sheet_of s ≡ sheet_text (rows_of (source_of J) e))
unfolding sheet_of sheeted sheet_read
sheet_exactly s {T} {e} v =
    let z = accepts_typed s v in
    let J = z.0 in
    (J, z.1, z.2, sheet_lines J (read_ok s J z.1) (read_formed s J z.1) T e z.2, rw (v, z.1) refl)

-- "for a refused one, the desk program's line"
pub refused_sheet : (s : List ℕ) {q : Refusal} → verdict_of s ≡ refuse q → (sheet_of s ≡ desk_of s) × (sheet_of s ≡ refused_line q)
unfolding sheet_of sheeted desk_of reported
refused_sheet s v = (rw v refl, rw v refl)
