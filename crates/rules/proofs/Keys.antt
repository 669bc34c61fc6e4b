-- The keys of a limit, place by place.
use mathlib.Core.Path.{◌≡◌, refl, ap, ◌∙◌}
use Prim.Native.Nat.{ℕ, zero, suc, ◌+◌, ◌-◌, ◌<◌, ◌≤◌}
use Rattle.std.specs.Prelude.{min}
use native.Mathlib.Omega.{arith}
use native.Mathlib.Numerals.{add-one, unary_clauses}
use mathlib.Core.List.{List, [], ◌∷◌}
use mathlib.Core.Option.{Option, none, some}
use Rattle.syntax.specs.Types.{TypeEntry, e_num, e_pair, e_cell, e_fn, e_lim, e_grant}
use Rattle.rules.specs.Ops.{ops_by}
use lib.ListN.{get_or, take}
use Rattle.order.specs.Effects.{Effect, of_word}
use Rattle.syntax.specs.Words.{entry_in}
use Rattle.typing.specs.Numbered.{Result, points, need_lim, need, keys_from}
use Rattle.names.specs.Ancestors.{eff_below_by, touch_by, join_by, reduce_by}
use Rattle.equality.specs.declared.Entry.{Entry}
use Rattle.equality.specs.Entry.{entry_of}
use Rattle.rules.specs.declared.Operand.{Operand}
use Rattle.rules.specs.Commands.{operand_at, slots_from, keys_by, limit_by}

places : (slots : List ℕ) (at : ℕ) → (get_or slots at 0 ∷ get_or slots (at + 1) 0 ∷ get_or slots (at + 2) 0 ∷ get_or slots (at + 3) 0 ∷ []) ≡ slots_from slots at 4
unfolding slots_from
places slots at =
    let h : at + 1 ≡ suc at = omega arith in
    let k : at + 2 ≡ suc (suc at) = omega arith in
    let l : at + 3 ≡ suc (suc (suc at)) = omega arith in
    simp (h, k, l)

some_taken : (slots : List ℕ) (at m n : ℕ) → take n (slots_from slots at m) ≡ slots_from slots at (min n m)
unfolding slots_from
some_taken slots at m zero = simp unary_clauses
some_taken slots at zero (suc n) = simp unary_clauses
some_taken slots at (suc m) (suc n) = simp unary_clauses (ap (λ (l : List ℕ). get_or slots at 0 ∷ l) (some_taken slots (suc at) m n))

-- the keys that are there are the slots from the first on
keys_four : (slots : List ℕ) (at n : ℕ) → take n (get_or slots at 0 ∷ get_or slots (at + 1) 0 ∷ get_or slots (at + 2) 0 ∷ get_or slots (at + 3) 0 ∷ []) ≡ slots_from slots at (min n 4)
keys_four slots at n = ap (λ (l : List ℕ). take n l) (places slots at) ∙ some_taken slots at 4 n

module _ (anc types sets slots entries effects : List ℕ) (at : ℕ) where
  abbrev from : ℕ → ℕ → ℕ → ℕ → Result
  from j end rs s = keys_by anc types sets slots entries effects at (slots_from slots j (end - j)) rs s

  -- before the first key
  pub keys_begun : (n : ℕ) → limit_by anc types sets slots entries effects at n ≡ from at (at + min n 4) 0 0
  keys_begun n =
      let e : at + min n 4 - at ≡ min n 4 = omega arith in
      rw e (ap (λ (l : List ℕ). keys_by anc types sets slots entries effects at l 0 0) (keys_four slots at n))

  module _ (j end rs s : ℕ) where
    -- one key more
    pub keys_turn : {x : Operand} (e : Entry) → j < end → x ≡ operand_at slots entries effects j → entry_of e ≡ entry_in types sets x.ty → from j end rs s ≡
        need_lim (entry_of e) (λ q r. from (j + 1) end (touch_by r rs) (touch_by q (join_by x.effect s)))
    unfolding slots_from keys_from
    keys_turn e h x_is e_is = let d : end - j ≡ suc (end - (j + 1)) = omega arith in simp (e_is, x_is, d, add-one)

    -- all keys are in hand
    pub keys_ended : end ≤ j → from j end rs s ≡
        need 13 (eff_below_by anc (operand_at slots entries effects (at + 4)).effect rs)
        (points (operand_at slots entries effects (at + 4)).ty (of_word (reduce_by anc (join_by s (operand_at slots entries effects (at + 4)).effect))))
    unfolding slots_from keys_from
    keys_ended h = let e : end - j ≡ 0 = omega arith in rw e

lim_cong : (o : Option TypeEntry) (f g : ℕ → ℕ → Result) → ((q r : ℕ) → f q r ≡ g q r) → need_lim o f ≡ need_lim o g
unfolding need_lim
lim_cong none f g h = refl
lim_cong (some (e_num q)) f g h = refl
lim_cong (some (e_pair q a b)) f g h = refl
lim_cong (some (e_cell q a)) f g h = refl
lim_cong (some (e_fn q a b s)) f g h = refl
lim_cong (some (e_lim q r)) f g h = h q r
lim_cong (some (e_grant q r)) f g h = refl

-- what the keys come to does not depend on names and variables
pub keys_any : (anc names : List ℕ) (var : ℕ → ℕ) (at : ℕ → Option TypeEntry) (of : ℕ → ℕ) (eff : ℕ → Effect) (ks : List ℕ) (rs s : Effect) (f : Effect → Effect → Result)
    → keys_from (ops_by anc []) (λ v. 0) at of eff ks rs s f ≡ keys_from (ops_by anc names) var at of eff ks rs s f
unfolding keys_from
keys_any anc names var at of eff [] rs s f = refl
keys_any anc names var at of eff (a ∷ ks) rs s f = lim_cong (at (of a)) _ _ (λ q r. keys_any anc names var at of eff ks _ _ f)
