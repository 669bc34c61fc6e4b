-- Each table's entry, from what the code finds of it to what the pen has written.
use mathlib.Core.Path.{◌≡◌, refl, sym, ap, ◌∙◌}
use Prim.Native.Nat.{ℕ, ◌/◌, ◌%◌, ◌^◌, ◌≤◌, ◌<◌}
use native.Mathlib.Omega.{arith}
use mathlib.Core.Bool.{Bool, true, false, not}
use mathlib.Core.List.{List, [], ◌∷◌, ◌++◌}
use borrow.Author.Tests.{lt-ltb, le-ltb}
use Rattle.syntax.specs.Commands.{Op, operands}
use Rattle.syntax.specs.JobBytes.{bytes_of}
use Rattle.syntax.specs.Writing.{fits, name_numbers, name_fields, type_numbers, type_fields, value_numbers, value_fields, fields_of, expr_fields}
use Rattle.std.specs.Prelude.{Ok, Err}
use Rattle.table.specs.declared.Refusal.{Refusal}
use Rattle.encode.specs.Laid.{Pushed}
use Rattle.encode.specs.Entries.{foreign_by, type_wide, head_wide, type_tail, expr_tail}
use Rattle.encode.specs.Penned.{Penned, alone}
use Rattle.encode.proofs.Laying.{pushed_then, pushed_as}
use Rattle.encode.proofs.Items.{Found, foreign_item, found, wide_item, item_is, byte_is, bytes_are, name_fits, name_tail, value_fits, value_tail, type_fits, type_tail_lem, Places, expr_fits, expr_tail_lem}
use Rattle.encode.proofs.Pens.{penned_fault, penned_item}

-- names
module _ (d : ℕ) {n : ℕ} (told : n ≡ foreign_by (d / 256) 0) where
  pub name_foreign : {l : List ℕ} {at : ℕ} {k : Refusal} → k.place ≡ at → 0 < n → k.number ≡ n → Penned l l at (Err k) (alone (name_fields d))
  name_foreign p h z = penned_fault p h z (foreign_item (d / 256) 0 n (name_numbers d) told h)

  pub name_entered : {l : List ℕ} {at : ℕ} {m k : List ℕ} {p q : ℕ} → d < 65536 → n ≤ 0 → Pushed l m at p (bytes_of 1 (d / 256)) → Pushed m k p q (bytes_of 1 (d % 256)) → Penned l k at (Ok q) (alone (name_fields d))
  name_entered b h x y =
      let o : Found (d / 256) 0 = found (d / 256) 0 n told h in
      penned_item (item_is o (name_numbers d) (name_fits o.op o.section d))
      (pushed_as (bytes_are o (name_numbers d) (omega arith) (name_tail o.op o.section (d % 256))) (pushed_then x y))

-- types, with set s
module _ (d s : ℕ) (set : s < 256 ^ 8) {n op : ℕ} (is : op ≡ d % 256) (told : n ≡ foreign_by op 1) where
  in_word : n ≡ foreign_by (d % 256) 1
  in_word = told ∙ ap (λ (b : ℕ). foreign_by b 1) is

  pub type_foreign : {l : List ℕ} {at : ℕ} {k : Refusal} → k.place ≡ at → 0 < n → k.number ≡ n → Penned l l at (Err k) (alone (type_fields d s))
  type_foreign p h z = penned_fault p h z (foreign_item (d % 256) 1 n (type_numbers d s) in_word h)

  fitting : (o : Found (d % 256) 1) {t : Bool} → t ≡ type_wide op d → fits (operands o.op) (type_numbers d s o.op) ≡ not t
  fitting o {t} e = type_fits o.op o.section d s set ∙ ap not (ap (λ (b : ℕ). type_wide b d) (sym (is ∙ byte_is o (type_numbers d s))) ∙ sym e)

  pub type_wide_lem : {l : List ℕ} {at : ℕ} {t : Bool} → n ≤ 0 → t ≡ type_wide op d → t ≡ true → Penned l l at (Err (record { number = 6; place = at })) (alone (type_fields d s))
  type_wide_lem h e y = let o : Found (d % 256) 1 = found (d % 256) 1 n in_word h in penned_fault refl (omega arith) refl (wide_item o (type_numbers d s) (fitting o e ∙ ap not y))

  pub type_entered : {l : List ℕ} {at : ℕ} {t : Bool} {m k : List ℕ} {p q : ℕ} → n ≤ 0 → t ≡ type_wide op d → t ≡ false → Pushed l m at p (bytes_of 1 op) → Pushed m k p q (type_tail op d s) → Penned l k at (Ok q) (alone (type_fields d s))
  type_entered h e y u v =
      let o : Found (d % 256) 1 = found (d % 256) 1 n in_word h in
      penned_item (item_is o (type_numbers d s) (fitting o e ∙ ap not y))
      (pushed_as
      (ap (λ (b : ℕ). bytes_of 1 b ++ type_tail op d s) is
      ∙ bytes_are o (type_numbers d s) (omega arith) (type_tail_lem o.op o.section d s ∙ ap (λ (b : ℕ). type_tail b d s) (sym (is ∙ byte_is o (type_numbers d s)))))
      (pushed_then u v))

-- host values
module _ (d : ℕ) {n op : ℕ} (is : op ≡ d % 256) (told : n ≡ foreign_by op 2) where
  of_word : n ≡ foreign_by (d % 256) 2
  of_word = told ∙ ap (λ (b : ℕ). foreign_by b 2) is

  pub value_foreign : {l : List ℕ} {at : ℕ} {k : Refusal} → k.place ≡ at → 0 < n → k.number ≡ n → Penned l l at (Err k) (alone (value_fields d))
  value_foreign p h z = penned_fault p h z (foreign_item (d % 256) 2 n (value_numbers d) of_word h)

  pub value_wide : {l : List ℕ} {at : ℕ} → n ≤ 0 → 4294967296 ≤ d / 16777216 → Penned l l at (Err (record { number = 6; place = at })) (alone (value_fields d))
  value_wide h y =
      let o : Found (d % 256) 2 = found (d % 256) 2 n of_word h in penned_fault refl (omega arith) refl (wide_item o (value_numbers d) (value_fits o.op o.section d ∙ le-ltb (d / 16777216) 4294967296 y))

  pub value_entered : {l : List ℕ} {at : ℕ} {m k j : List ℕ} {p q u : ℕ} → n ≤ 0 → d / 16777216 < 4294967296
      → Pushed l m at p (bytes_of 1 op) → Pushed m k p q (bytes_of 2 (d / 256 % 65536)) → Pushed k j q u (bytes_of 4 (d / 16777216)) → Penned l j at (Ok u) (alone (value_fields d))
  value_entered h y a b c =
      let o : Found (d % 256) 2 = found (d % 256) 2 n of_word h in
      penned_item (item_is o (value_numbers d) (value_fits o.op o.section d ∙ lt-ltb (d / 16777216) 4294967296 y))
      (pushed_as
      (ap (λ (x : ℕ). bytes_of 1 x ++ (bytes_of 2 (d / 256 % 65536) ++ bytes_of 4 (d / 16777216))) is ∙ bytes_are o (value_numbers d) (omega arith) (value_tail o.op o.section (d / 256 % 65536) (d / 16777216)))
      (pushed_then a (pushed_then b c)))

-- expressions
module _ (h a b c d e : ℕ) (p : Places a b c d e) {n op : ℕ} (is : op ≡ h % 256) (told : n ≡ foreign_by op 4) where
  abbrev given : Op → List ℕ
  given = fields_of (h / 256) (a ∷ b ∷ c ∷ d ∷ e ∷ [])

  by_word : n ≡ foreign_by (h % 256) 4
  by_word = told ∙ ap (λ (x : ℕ). foreign_by x 4) is

  pub expr_foreign : {l : List ℕ} {at : ℕ} {k : Refusal} → k.place ≡ at → 0 < n → k.number ≡ n → Penned l l at (Err k) (alone (expr_fields h a b c d e))
  expr_foreign p k z = penned_fault p k z (foreign_item (h % 256) 4 n given by_word k)

  fit : (o : Found (h % 256) 4) {t : Bool} → t ≡ head_wide op (h / 256) → fits (operands o.op) (given o.op) ≡ not t
  fit o {t} k = expr_fits o.op o.section (h / 256) a b c d e p ∙ ap not (ap (λ (x : ℕ). head_wide x (h / 256)) (sym (is ∙ byte_is o given)) ∙ sym k)

  pub expr_wide : {l : List ℕ} {at : ℕ} {t : Bool} → n ≤ 0 → t ≡ head_wide op (h / 256) → t ≡ true → Penned l l at (Err (record { number = 6; place = at })) (alone (expr_fields h a b c d e))
  expr_wide k x y = let o : Found (h % 256) 4 = found (h % 256) 4 n by_word k in penned_fault refl (omega arith) refl (wide_item o given (fit o x ∙ ap not y))

  pub expr_entered : {l : List ℕ} {at : ℕ} {t : Bool} {m j : List ℕ} {u q : ℕ} → n ≤ 0 → t ≡ head_wide op (h / 256) → t ≡ false
      → Pushed l m at u (bytes_of 1 op) → Pushed m j u q (expr_tail op (h / 256) a b c d e) → Penned l j at (Ok q) (alone (expr_fields h a b c d e))
  expr_entered k x y v w =
      let o : Found (h % 256) 4 = found (h % 256) 4 n by_word k in
      penned_item (item_is o given (fit o x ∙ ap not y))
      (pushed_as
      (ap (λ (i : ℕ). bytes_of 1 i ++ expr_tail op (h / 256) a b c d e) is
      ∙ bytes_are o given (omega arith) (expr_tail_lem o.op o.section (h / 256) a b c d e ∙ ap (λ (i : ℕ). expr_tail i (h / 256) a b c d e) (sym (is ∙ byte_is o given))))
      (pushed_then v w))
