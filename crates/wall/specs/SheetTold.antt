-- What a caller can tell by the answer: 1 is a text that is too short, which stays as it was; 0 is an accepted job; and the bytes told of are the sheet, for which a text of 868 bytes always has room.
use Rattle.std.specs.Prelude.{◌≡◌, ℕ, ◌≤◌, ◌<◌, Bool, ◌↔◌, ltb}
use Rattle.std.proofs.Math.Path.{refl, ap, ap₂}
use Rattle.std.proofs.Common.{sym, ◌∙◌, arith, lt-ltb, le-ltb, ltb-true, ltb-false}
use Rattle.std.proofs.Math.Bool.{true, false, cond}
use mathlib.Core.List.{List, [], ◌++◌}
use Rattle.std.proofs.Math.ListN.{length, take, drop}
use Rattle.std.proofs.Math.Seq.{take-append_seam}
use Rattle.order.specs.Effects.{Effect}
use Rattle.syntax.specs.Types.{Ty}
use Rattle.syntax.specs.Job.{source_of}
use Rattle.syntax.specs.Reading.{Refusal}
use Rattle.syntax.proofs.ReadLaws.{read_ok}
use Rattle.typing.specs.Verdict.{Verdict, accept, refuse, verdict_of}
use Rattle.typing.specs.RefusalLaws.{Stands, by_reading, by_expression}
use Rattle.typing.proofs.RefusalLaws.{refusal_stands}
use Rattle.output.specs.Sheet.{row_of, rows_of, sheet_of}
use Rattle.output.proofs.LineLaws.{refused_length}
use Rattle.output.proofs.ColumnLaws.{sheet_length}
use Rattle.output.proofs.SheetLaws.{rows_few}
use Rattle.output.proofs.SheetExactly.{sheet_exactly, refused_sheet}
use Rattle.wall.specs.declared.Listing.{Listing}
use Rattle.wall.specs.Listed.{sheet_bytes, number_of, place_of, sheet_in, SheetTo}

-- a text of 868 bytes has room for every sheet
pub sheet_room : (s : List ℕ) → length (sheet_of s) ≤ sheet_bytes
unfolding rows_of source_of
sheet_room s = at (verdict_of s) refl
  where
    at : (v : Verdict) → verdict_of s ≡ v → length (sheet_of s) ≤ sheet_bytes
    at (refuse q) e = omega (arith, ap length (refused_sheet s e).1, refused_length q)
    at (accept T f) e =
        let z = sheet_exactly s e in
        let J = z.0 in
        omega (arith, ap length z.4, sheet_length _ z.3.fit, rows_few (row_of (source_of J) f) 2 J.names, (read_ok s J z.1).few_names)

-- a job's own refusal is none of 0 and 1
own_number : (s : List ℕ) (q : Refusal) → verdict_of s ≡ refuse q → 2 ≤ q.number
own_number s q e = at (refusal_stands s q e)
  where
    at : {r : Refusal} → Stands s r → 2 ≤ r.number
    at (by_reading r a b c) = a
    at (by_expression r J i a b c) = omega arith

own_not_1 : (s : List ℕ) (v : Verdict) → verdict_of s ≡ v → number_of v ≡ 1 → ⊥
unfolding number_of
own_not_1 s (accept T f) e h = omega arith
own_not_1 s (refuse q) e h = omega (arith, own_number s q e)

own_0 : (s : List ℕ) (v : Verdict) → verdict_of s ≡ v → number_of v ≡ 0 → (T : Ty) × (f : Effect) × (verdict_of s ≡ accept T f)
unfolding number_of
own_0 s (accept T f) e h = (T, f, e)
own_0 s (refuse q) e h = absurd (omega (arith, own_number s q e))

module _ (bytes : List ℕ) (r : Listing) (t u : List ℕ) (s : SheetTo bytes r t u) where
  long_number : sheet_bytes ≤ length t → r.number ≡ number_of (verdict_of bytes)
  long_number h = s.number ∙ ap (λ (b : Bool). cond b 1 (number_of (verdict_of bytes))) (le-ltb (length t) sheet_bytes h)

  long_place : sheet_bytes ≤ length t → r.place ≡ place_of (verdict_of bytes)
  long_place h = s.place ∙ ap (λ (b : Bool). cond b 0 (place_of (verdict_of bytes))) (le-ltb (length t) sheet_bytes h)

  -- 1: the text is too short, and nothing else is 1
  pub told_short : (r.number ≡ 1) ↔ (length t < sheet_bytes)
  told_short = (
    λ e. at (ltb (length t) sheet_bytes) refl e,
    λ h. s.number ∙ ap (λ (b : Bool). cond b 1 (number_of (verdict_of bytes))) (lt-ltb (length t) sheet_bytes h),
  )
    where
      at : (b : Bool) → ltb (length t) sheet_bytes ≡ b → r.number ≡ 1 → length t < sheet_bytes
      at true e h = ltb-true (length t) sheet_bytes e
      at false e h = absurd (own_not_1 bytes (verdict_of bytes) refl (sym (long_number (ltb-false (length t) sheet_bytes e)) ∙ h))

  -- 0: the job is accepted, and no refused one is 0
  pub told_accepted : sheet_bytes ≤ length t → (r.number ≡ 0) ↔ ((T : Ty) × (f : Effect) × (verdict_of bytes ≡ accept T f))
  unfolding number_of
  told_accepted h = (
    λ e. own_0 bytes (verdict_of bytes) refl (sym (long_number h) ∙ e),
    λ z. long_number h ∙ ap number_of z.2,
  )

  -- the number and the place of a refused job are its refusal's; the place is 0 of an accepted job and of a text that is too short
  pub told_refused : sheet_bytes ≤ length t → (q : Refusal) → verdict_of bytes ≡ refuse q → (r.number ≡ q.number) × (r.place ≡ q.place)
  unfolding number_of place_of
  told_refused h q e = (long_number h ∙ ap number_of e, long_place h ∙ ap place_of e)

  pub told_nowhere : (T : Ty) (f : Effect) → verdict_of bytes ≡ accept T f → r.place ≡ 0
  unfolding place_of
  told_nowhere T f e = s.place ∙ at (ltb (length t) sheet_bytes)
    where
      at : (b : Bool) → cond b 0 (place_of (verdict_of bytes)) ≡ 0
      at true = refl
      at false = ap place_of e

  pub short_nowhere : length t < sheet_bytes → r.place ≡ 0
  short_nowhere h = s.place ∙ ap (λ (b : Bool). cond b 0 (place_of (verdict_of bytes))) (lt-ltb (length t) sheet_bytes h)

  -- a text that is too short stays, and no byte is told of
  pub short_stays : length t < sheet_bytes → (u ≡ t) × (r.len ≡ 0)
  unfolding sheet_in
  short_stays h =
      let e : sheet_in (length t) bytes ≡ [] = ap (λ (b : Bool). cond b [] (sheet_of bytes)) (lt-ltb (length t) sheet_bytes h) in
      (s.sheet.text ∙ ap (λ (b : List ℕ). b ++ drop (length b) t) e, s.sheet.reach ∙ ap length e)

  -- the bytes told of are the sheet; those past it stay
  pub long_says : sheet_bytes ≤ length t → (r.len ≡ length (sheet_of bytes)) × (take r.len u ≡ sheet_of bytes) × (u ≡ sheet_of bytes ++ drop r.len t)
  unfolding sheet_in
  long_says h =
      let e : sheet_in (length t) bytes ≡ sheet_of bytes = ap (λ (b : Bool). cond b [] (sheet_of bytes)) (le-ltb (length t) sheet_bytes h) in
      let n : r.len ≡ length (sheet_of bytes) = s.sheet.reach ∙ ap length e in
      let w : u ≡ sheet_of bytes ++ drop (length (sheet_of bytes)) t = s.sheet.text ∙ ap (λ (b : List ℕ). b ++ drop (length b) t) e in
      (n, ap₂ take n w ∙ take-append_seam (sheet_of bytes) (drop (length (sheet_of bytes)) t), w ∙ ap (λ (k : ℕ). sheet_of bytes ++ drop k t) (sym n))
