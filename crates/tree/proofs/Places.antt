-- The step of the pass for number 10 at each of an expression's five places is its act at the last place where that is an operand, then at the first ones.
use mathlib.Core.Path.{◌≡◌, refl, sym, ap, ap₂, ◌∙◌}
use Prim.Native.Nat.{ℕ, zero, suc, ◌+◌, ◌-◌, ◌*◌, ◌/◌, ◌%◌, ◌≤◌, ◌<◌}
use native.Mathlib.Omega.{arith}
use mathlib.Core.Bool.{Bool, true, false, cond, true≢false}
use mathlib.Core.List.{List}
use lib.ListN.{get_or}
use lib.Dec.{eqb}
use lib.Bits.{bit_or}
use Rattle.names.specs.Ancestors.{one_of}
use Rattle.uses.specs.Passes.{bound_of, is_body, is_operand}
use Rattle.tree.specs.Passes.{inherited_by, put_in, inherit_step, inherited_down}
use Rattle.uses.specs.Places.{first_operands, at_last, at_first, is_binder}
use Rattle.tree.specs.Places.{inherit_to, inherit_at, pass_to, pass_at}
use Rattle.uses.proofs.Places.{on, run_five, first_on}

inherit_turn : (is_name : Bool) (heads slots : List ℕ) (e i j : ℕ) (l : List ℕ) → i < 5 → j ≡ e * 5 + i
    → inherited_down is_name heads slots (suc j) l ≡ inherited_down is_name heads slots j (on (inherit_at is_name slots (get_or heads e 0) e) (is_operand (get_or heads e 0) i) i l)
unfolding inherited_down inherit_step inherit_at inherit_to on
inherit_turn is_name heads slots e i j l h k =
    let p : j / 5 ≡ e = omega arith in
    let q : j % 5 ≡ i = omega arith in
    ap (inherited_down is_name heads slots j)
    (ap₂ (λ (a b : ℕ). inherit_step is_name l (get_or heads a 0) b a (get_or slots j 0)) p q
    ∙ ap (λ (n : ℕ). inherit_step is_name l (get_or heads e 0) i e (get_or slots n 0)) k)

pub inherit_on : (is_name : Bool) (heads slots l : List ℕ) (e : ℕ) {m a x : List ℕ} {w k : ℕ} → 0 < e → w ≡ get_or heads (e - 1) 0 → a ≡ at_last (inherit_at is_name slots w (e - 1)) w l → k ≡ first_operands w
    → m ≡ at_first (inherit_at is_name slots w (e - 1)) k a → x ≡ inherited_down is_name heads slots (e * 5) l → x ≡ inherited_down is_name heads slots ((e - 1) * 5) m
inherit_on is_name heads slots l e h hw ha hk hm hx =
    let z : e ≡ suc (e - 1) = omega arith in
    rw (hm, hk, ha, hw)
    (hx ∙ ap (λ (i : ℕ). inherited_down is_name heads slots (i * 5) l) z ∙ run_five (inherited_down is_name heads slots) (inherit_at is_name slots (get_or heads (e - 1) 0) (e - 1)) (get_or heads (e - 1) 0) (e - 1) (inherit_turn is_name heads slots (e - 1)) l)

pub inherit_end : (is_name : Bool) (heads slots l : List ℕ) (e : ℕ) {x : List ℕ} → e ≤ 0 → x ≡ inherited_down is_name heads slots (e * 5) l → l ≡ x
unfolding inherited_down
inherit_end is_name heads slots l e h k = let z : e * 5 ≡ 0 = omega arith in sym (k ∙ ap (λ (i : ℕ). inherited_down is_name heads slots i l) z)

-- the first places, one by one

pub inherit_next : (is_name : Bool) (slots : List ℕ) (w e i : ℕ) (l : List ℕ) {m x : List ℕ} {s : ℕ} → 0 < i → s ≡ get_or slots (e * 5 + (i - 1)) 0 → m ≡ inherit_to is_name l w (i - 1) e s
    → x ≡ at_first (inherit_at is_name slots w e) i l → x ≡ at_first (inherit_at is_name slots w e) (i - 1) m
unfolding inherit_at
inherit_next is_name slots w e i l h hs hm hx = first_on (inherit_at is_name slots w e) i l h (hm ∙ ap (inherit_to is_name l w (i - 1) e) hs) hx

pub pass_next : (slots : List ℕ) (e i : ℕ) (l : List ℕ) {m x : List ℕ} {s : ℕ} → 0 < i → s ≡ get_or slots (e * 5 + (i - 1)) 0 → m ≡ pass_to l e s → x ≡ at_first (pass_at slots e) i l
    → x ≡ at_first (pass_at slots e) (i - 1) m
unfolding pass_at
pass_next slots e i l h hs hm hx = first_on (pass_at slots e) i l h (hm ∙ ap (pass_to l e) hs) hx

-- what is no binder passes its scope on as it is

no_body : (w i : ℕ) → is_binder w ≡ false → is_body w i ≡ false
unfolding is_binder is_body
no_body w i h = at (eqb (w % 256) 0x35) (eqb (w % 256) 0x3E) h
  where
    at : (a b : Bool) → cond a true b ≡ false → cond a (eqb i 0) (cond b (eqb i 1) false) ≡ false
    at true b e = absurd (true≢false e)
    at false true e = absurd (true≢false e)
    at false false e = refl

passed : (is_name : Bool) (slots : List ℕ) (w e n : ℕ) (l : List ℕ) → is_binder w ≡ false → at_first (pass_at slots e) n l ≡ at_first (inherit_at is_name slots w e) n l
unfolding at_first inherit_at inherit_to inherited_by pass_at pass_to
passed is_name slots w e zero l h = refl
passed is_name slots w e (suc n) l h =
    passed is_name slots w e n (pass_to l e (get_or slots (e * 5 + n) 0)) h
    ∙ sym
    (ap (λ (b : Bool). at_first (inherit_at is_name slots w e) n (put_in l (get_or slots (e * 5 + n) 0) (cond b (bit_or (get_or l e 0) (one_of (bound_of is_name w))) (get_or l e 0))))
    (no_body w n h))

pub pass_is : (is_name : Bool) (slots : List ℕ) (w e n : ℕ) (l : List ℕ) {x : List ℕ} {b : Bool} → b ≡ is_binder w → b ≡ false → x ≡ at_first (pass_at slots e) n l
    → x ≡ at_first (inherit_at is_name slots w e) n l
pass_is is_name slots w e n l hb h hx = hx ∙ passed is_name slots w e n l (sym hb ∙ h)
