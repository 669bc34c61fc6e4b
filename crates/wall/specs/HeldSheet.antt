-- Tables that hold a job give its sheet: by its table of ancestors a name is used as the order says, so the lines that the words give are those of the job.
use Rattle.std.specs.Prelude.{◌≡◌, refl, ℕ, suc, ◌+◌, ◌^◌, ◌≤◌, ◌<◌, Bool, true, false, cond, List, [], ◌∷◌, ◌≢◌}
use Rattle.std.proofs.Math.Path.{sym, ap}
use Rattle.std.proofs.Common.{ap₂, ◌∙◌, arith, eqb-true, eq-eqb}
use Rattle.std.proofs.Math.Option.{some}
use Rattle.std.proofs.Math.ListN.{length, get_elem?}
use Rattle.order.specs.Order.{below}
use Rattle.order.specs.OrderLaws.{Proper}
use Rattle.order.proofs.OrderLaws.{get_elem?_lt}
use Rattle.order.specs.Sets.{some_of, all_of}
use Rattle.order.proofs.SetLaws.{bool_ext, bit_pow, all_of→, →all_of}
use Rattle.order.specs.Effects.{of_word, names, set_names, set_below}
use Rattle.order.proofs.NameSetLaws.{name_bit, bit_name}
use Rattle.syntax.specs.Types.{Ty}
use Rattle.syntax.specs.Job.{Name, HostValue, Job, uppers, source_of}
use Rattle.syntax.specs.ReadLaws.{JobOk}
use Rattle.syntax.proofs.ReadFormed.{names_proper}
use Rattle.names.specs.Ancestors.{names_in, ancestors_by, ancestors_of, eff_below_by, one_of}
use Rattle.names.proofs.Bits.{one_of_lem}
use Rattle.names.proofs.Laws.{eff_below_by_lem}
use Rattle.names.proofs.Pass.{ancestors_by_lem}
use Rattle.names.proofs.Tables.{uppers_length}
use Rattle.entry.specs.declared.Shape.{Shape}
use Rattle.initial.specs.Entries.{values_from}
use Rattle.initial.specs.Held.{names_are, values_are}
use Rattle.start.specs.Starts.{Ready}
use Rattle.output.specs.Sheet.{Row, is_used, carries, count_of, row_of, rows_from, rows_of, sheet_text, laid}
use Rattle.output.specs.ColumnLaws.{columns}
use Rattle.output.proofs.ColumnLaws.{sheet_columns}
use Rattle.output.proofs.SheetExactly.{rows_fit}
use Rattle.wall.specs.Listed.{row_by}

-- the set of one name has that name alone
alone : (p : ℕ → Bool) (n : ℕ) → n ≢ 0 → all_of p (set_names (2 ^ n)) ≡ p n
alone p n z = bool_ext (all_of p (set_names (2 ^ n))) (p n)
    (λ e. all_of→ p e (bit_name (2 ^ n) (bit_pow n n ∙ eq-eqb n n refl) z))
    (λ e. →all_of p (set_names (2 ^ n)) (λ m k. let h : m ≡ n = eqb-true m n (sym (bit_pow n m) ∙ (name_bit (2 ^ n) k).0) in rw h e))

-- a name is used by the table of ancestors as by the order
used_by : {up : List ℕ} → Proper up → length up ≤ 64 → {anc : List ℕ} → anc ≡ ancestors_of up → (n s : ℕ) → n ≢ 0 → n < length up → eff_below_by anc (one_of n) s ≡ is_used up (of_word s) n
unfolding is_used set_below names
used_by {up} ok few {anc} t n s z h =
    ap (λ (o : ℕ). eff_below_by anc o s) (one_of_lem n (omega arith))
    ∙ eff_below_by_lem ok few t (2 ^ n) s (λ m b. let e : m ≡ n = eqb-true m n (sym (bit_pow n m) ∙ b) in omega (arith, e))
    ∙ alone (λ k. some_of (λ m. below up k m) (set_names s)) n z

-- lines that agree at each name
rows_same : (f g : ℕ → Name → Row) (n : ℕ) (ds : List Name) → ((i : ℕ) (d : Name) → get_elem? ds i ≡ some d → f (n + i) d ≡ g (n + i) d) → rows_from f n ds ≡ rows_from g n ds
unfolding rows_from
rows_same f g n [] e = refl
rows_same f g n (d ∷ ds) e = at d.host head (rows_same f g (suc n) ds (λ i c h. let z : suc n + i ≡ n + suc i = omega arith in rw z (e (suc i) c h)))
  where
    head : f n d ≡ g n d
    head = let z : n + 0 ≡ n = omega arith in rw z at (e 0 d refl)

    at : (b : Bool) → f n d ≡ g n d → rows_from f (suc n) ds ≡ rows_from g (suc n) ds → cond b (f n d ∷ rows_from f (suc n) ds) (rows_from f (suc n) ds) ≡ cond b (g n d ∷ rows_from g (suc n) ds) (rows_from g (suc n) ds)
    at true x y = ap₂ (λ (r : Row) (l : List Row). r ∷ l) x y
    at false x y = y

module _ (J : Job) (ok : JobOk J) (s : ℕ) where
  job_row : (i : ℕ) (d : Name) → get_elem? J.names i ≡ some d → row_by (ancestors_by J.names) (source_of J).values s (2 + i) d ≡ row_of (source_of J) (of_word s) (2 + i) d
  unfolding row_by row_of source_of
  job_row i d e =
      let few : length J.names ≤ 62 = omega (arith, ok.few_names) in
      let proper = names_proper ok.names in
      let long : length (uppers J.names) ≤ 64 = omega (arith, uppers_length J.names) in
      let h : 2 + i < length (uppers J.names) = omega (arith, uppers_length J.names, get_elem?_lt J.names i d e) in
      ap (λ (b : Bool). record { name = 2 + i; upper = d.upper; used = b; cells = count_of (carries (2 + i)) (source_of J).values })
      (used_by proper long (ancestors_by_lem J.names proper few) (2 + i) s (λ z. omega arith) h)

  job_lines : laid columns (rows_from (row_by (ancestors_by J.names) (source_of J).values s) 2 J.names) ≡ sheet_text (rows_of (source_of J) (of_word s))
  unfolding rows_of source_of
  job_lines = ap (laid columns) (rows_same _ _ 2 J.names job_row) ∙ sym (sheet_columns (rows_of (source_of J) (of_word s)) (rows_fit J ok (of_word s)))

-- the lines by the words
pub held_sheet : {J : Job} {g : Shape} {n t v : List ℕ} → Ready J g n t v → (s : ℕ)
    → laid columns (rows_from (row_by (ancestors_by (names_in n g.names)) (values_from t v 0 g.values) s) 2 (names_in n g.names)) ≡ sheet_text (rows_of (source_of J) (of_word s))
unfolding source_of
held_sheet {J} {g} {n} {t} {v} r s =
    let a : names_in n g.names ≡ J.names = ap (names_in n) r.holds.all_names ∙ names_are r.ok r.holds in
    let b : values_from t v 0 g.values ≡ (source_of J).values = ap (values_from t v 0) r.holds.all_values ∙ values_are r.ok r.holds in
    ap₂ (λ (ds : List Name) (vs : List (HostValue Ty)). laid columns (rows_from (row_by (ancestors_by ds) vs s) 2 ds)) a b ∙ job_lines J r.ok s

-- a job declares no more names than there is room for
pub ready_few : {J : Job} {g : Shape} {n t v : List ℕ} → Ready J g n t v → g.names ≤ 62
ready_few r = omega (arith, r.holds.all_names, r.ok.few_names)
