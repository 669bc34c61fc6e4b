-- One turn of the loops of 8 and 9, by the definition that it follows.
use mathlib.Core.Path.{◌≡◌, refl, sym, ap, ap₂, ◌∙◌}
use Prim.Native.Nat.{ℕ, zero, suc, ◌+◌, ◌-◌, ◌/◌, ◌%◌, ◌≤◌, ◌<◌}
use native.Mathlib.Omega.{arith}
use native.Mathlib.Numerals.{add-one}
use mathlib.Core.Bool.{Bool, true, false, cond, not, ◌||◌, true≢false}
use mathlib.Core.List.{List}
use mathlib.Core.Option.{Option, none, some}
use lib.ListN.{get_or}
use lib.Dec.{eqb}
use lib.Bits.{bit_or, or_zero_r}
use Rattle.order.specs.Sets.{bit}
use Rattle.order.proofs.SetLaws.{bit_or_lem, bit_zero}
use Rattle.syntax.specs.Reading.{Refusal}
use Rattle.syntax.specs.Tree.{first_bad, numbered}
use Rattle.names.specs.Ancestors.{one_of}
use Rattle.uses.specs.Passes.{before, bound_var, bound_name, bound_of, is_new}
use Rattle.uses.specs.Places.{is_binder}
use Rattle.uses.specs.Heads.{one_past}

-- a search for the lowest that fails

pub search_on : (p : ℕ → Bool) (i n : ℕ) {o : Option ℕ} → i < n → p i ≡ true → o ≡ first_bad p i (n - i) → o ≡ first_bad p (i + 1) (n - (i + 1))
unfolding first_bad
search_on p i n h t e =
    let z : n - i ≡ suc (n - (i + 1)) = omega arith in
    e ∙ ap (first_bad p i) z ∙ ap (λ (b : Bool). cond b (first_bad p (suc i) (n - (i + 1))) (some i)) t ∙ ap (λ (j : ℕ). first_bad p j (n - (i + 1))) (sym (add-one i))

pub search_hit : (p : ℕ → Bool) (i n : ℕ) {o : Option ℕ} (number : ℕ) → i < n → p i ≡ false → o ≡ first_bad p i (n - i) → ◌≡◌ {A = Option Refusal} (some (record { number = number; place = i })) (numbered number o)
unfolding first_bad numbered
search_hit p i n number h t e =
    let z : n - i ≡ suc (n - (i + 1)) = omega arith in
    sym (ap (numbered number) (e ∙ ap (first_bad p i) z ∙ ap (λ (b : Bool). cond b (first_bad p (suc i) (n - (i + 1))) (some i)) t))

pub search_end : (p : ℕ → Bool) (i n : ℕ) {o : Option ℕ} (number : ℕ) → n ≤ i → o ≡ first_bad p i (n - i) → ◌≡◌ {A = Option Refusal} none (numbered number o)
unfolding first_bad numbered
search_end p i n number h e = let z : n - i ≡ 0 = omega arith in sym (ap (numbered number) (e ∙ ap (first_bad p i) z))

pub search_start : (p : ℕ → Bool) (n : ℕ) → first_bad p 0 n ≡ first_bad p 0 (n - 0)
search_start p n = let z : n ≡ n - 0 = omega arith in ap (first_bad p 0) z

-- upward

pub var_on : (heads : List ℕ) (e : ℕ) {s w b o : ℕ} → s ≡ before false heads e → w ≡ get_or heads e 0 → b ≡ bound_var w → o ≡ one_of b → bit_or s o ≡ before false heads (e + 1)
unfolding before bound_of
var_on heads e hs hw hb ho = rw (add-one e, hs, ho, hb, hw)

pub name_on : (heads : List ℕ) (e : ℕ) {s w b o : ℕ} → s ≡ before true heads e → w ≡ get_or heads e 0 → b ≡ bound_name w → o ≡ one_of b → bit_or s o ≡ before true heads (e + 1)
unfolding before bound_of
name_on heads e hs hw hb ho = rw (add-one e, hs, ho, hb, hw)

-- what is no binder changes nothing

no_var : (w : ℕ) → is_binder w ≡ false → bound_var w ≡ 64
unfolding is_binder bound_var
no_var w h = at (eqb (w % 256) 0x35) (eqb (w % 256) 0x3E) h
  where
    at : (a b : Bool) → cond a true b ≡ false → cond a (w / 256 % 256) (cond b (w / 256 % 256) 64) ≡ 64
    at true b e = absurd (true≢false e)
    at false true e = absurd (true≢false e)
    at false false e = refl

no_name : (w : ℕ) → is_binder w ≡ false → bound_name w ≡ 64
unfolding is_binder bound_name
no_name w h = at (eqb (w % 256) 0x35) (eqb (w % 256) 0x3E) h
  where
    at : (a b : Bool) → cond a true b ≡ false → cond b (w / 65536 % 256) 64 ≡ 64
    at true b e = absurd (true≢false e)
    at false true e = absurd (true≢false e)
    at false false e = refl

none_bound : (is_name : Bool) (w : ℕ) → is_binder w ≡ false → bound_of is_name w ≡ 64
unfolding bound_of
none_bound true w h = no_name w h
none_bound false w h = no_var w h

past_64 : (is_name : Bool) (heads : List ℕ) (e : ℕ) → bit (before is_name heads e) 64 ≡ false
unfolding before
past_64 is_name heads zero = bit_zero 64
past_64 is_name heads (suc e) = bit_or_lem 64 (before is_name heads e) (one_of (bound_of is_name (get_or heads e 0))) ∙ ap₂ (λ (a b : Bool). a || b) (past_64 is_name heads e) (one_past (bound_of is_name (get_or heads e 0)) 64 (omega arith))

pub skip_bound : (is_name : Bool) (heads : List ℕ) (e : ℕ) {s w : ℕ} {b : Bool} → s ≡ before is_name heads e → w ≡ get_or heads e 0 → b ≡ is_binder w → b ≡ false → s ≡ before is_name heads (e + 1)
unfolding before one_of
skip_bound is_name heads e hs hw hb h =
    let z : bound_of is_name (get_or heads e 0) ≡ 64 = none_bound is_name (get_or heads e 0) (ap is_binder (sym hw) ∙ sym hb ∙ h) in
    rw (add-one e, z, or_zero_r (before is_name heads e)) hs

pub skip_new : (heads : List ℕ) (e : ℕ) {w : ℕ} {b : Bool} → w ≡ get_or heads e 0 → b ≡ is_binder w → b ≡ false → is_new heads e ≡ true
unfolding is_new
skip_new heads e hw hb h =
    let z : is_binder (get_or heads e 0) ≡ false = ap is_binder (sym hw) ∙ sym hb ∙ h in
    rw (no_var (get_or heads e 0) z, no_name (get_or heads e 0) z, past_64 false heads e, past_64 true heads e)

-- what one turn tests

pub new_is : (heads : List ℕ) (e : ℕ) {vars locals w : ℕ} {b : Bool} → vars ≡ before false heads e → locals ≡ before true heads e → w ≡ get_or heads e 0
    → b ≡ cond (bit vars (bound_var w)) false (not (bit locals (bound_name w))) → is_new heads e ≡ b
unfolding is_new
new_is heads e hv hl hw hb = sym (rw (← hw, ← hv, ← hl) hb)
