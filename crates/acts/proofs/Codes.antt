-- What the bytes of a command come to.
use Prim.Native.Nat.{ℕ, zero, suc, ◌+◌, ◌*◌, ◌/◌, ◌%◌, ◌<◌, ◌≤◌}
use mathlib.Core.Path.{◌≡◌, refl, sym, ◌∙◌, ap}
use mathlib.Core.Bool.{cond}
use mathlib.Core.List.{List, [], ◌∷◌, ◌++◌}
use mathlib.Core.Option.{none, some}
use mathlib.Core.Logic.{◌⊎◌, inl, inr}
use native.Mathlib.Omega.{arith}
use borrow.Author.Tests.{ne_eqb}
use lib.Dec.{eqb, ltb}
use lib.ListN.{take, get_or, get_elem?}
use Rattle.syntax.specs.Commands.{Cmd, c_num}
use Rattle.syntax.specs.Operands.{evaluated}
use Rattle.syntax.specs.Words.{decode, code_in}
use Rattle.syntax.proofs.DecodeLaws.{decode_cases}
use Rattle.semantics.specs.Machine.{Value, Machine}
use Rattle.semantics.specs.Step.{o_stuck, room, touch_all, p_wrong, settle, push, act, enter_at, enter_cmd, bare, one, two, limit_keys, keys_of, act_lim, act_test, act_access}
use Rattle.semantics.proofs.Enabled.{narrow_none}
use Rattle.store.specs.Frames.{hand_of}
use Rattle.acts.specs.Inner.{go, act_numbers, Works}
use Rattle.acts.proofs.Limit.{padded}

cons_nil : {x : ℕ} {t : List ℕ} → x ∷ t ≡ [] → ⊥
cons_nil p = let z : ◌≡◌ {A = ℕ} 0 1 = cc in omega arith

-- an operand is evaluated: entering pushes a frame
pub enter_push : (e : ℕ) (k : Cmd ℕ) (a : ℕ) (l : List ℕ) (m : Machine) → evaluated k ≡ a ∷ l → enter_cmd e k m ≡ push e a m
unfolding enter_cmd enter_at
enter_push e k a l m h = rw h

-- no operand is evaluated, and the byte is none of those that have an arm of their own
pub enter_number :
    (op x a b c d e : ℕ) → Works op x 0 → (op ≡ 0x31 → ⊥) → (op ≡ 0x32 → ⊥) → (op ≡ 0x35 → ⊥) → (op ≡ 0x3C → ⊥) → (op ≡ 0x42 → ⊥) → decode op x a b c d e ≡ c_num x
unfolding evaluated
enter_number op x a b c d e w h1 h2 h5 hc h42 = at (w.all a b c d e)
  where
    at : evaluated (decode op x a b c d e) ≡ take 0 (a ∷ b ∷ c ∷ d ∷ []) → decode op x a b c d e ≡ c_num x
    at = decode_cases (λ k. evaluated k ≡ [] → k ≡ c_num x) op x a b c d e
        (λ h. absurd (h1 h)) (λ h. absurd (h2 h)) (λ h p. absurd (cons_nil p)) (λ h p. absurd (cons_nil p)) (λ h. absurd (h5 h)) (λ h p. absurd (cons_nil p)) (λ h p. absurd (cons_nil p))
        (λ h p. absurd (cons_nil p)) (λ h p. absurd (cons_nil p)) (λ h p. absurd (cons_nil p)) (λ h p. absurd (cons_nil p)) (λ h. absurd (hc h)) (λ h p. absurd (cons_nil p)) (λ h p. absurd (cons_nil p))
        (λ h p. absurd (cons_nil p)) (λ h p. absurd (cons_nil p)) (λ h p. absurd (cons_nil p)) (λ h. absurd (h42 h)) (λ p. refl)

-- the arms of an act on one value, and on two
pub one_stuck :
    (op x a b c d e : ℕ) (v : Value) (m : Machine) → (op ≡ 0x34 → ⊥) → (op ≡ 0x37 → ⊥) → (op ≡ 0x39 → ⊥) → (op ≡ 0x3B → ⊥) → (op ≡ 0x3C → ⊥) → (op ≡ 0x3D → ⊥) → (op ≡ 0x3E → ⊥) → (op ≡ 0x40 → ⊥) →
    act (decode op x a b c d e) (v ∷ []) m ≡ p_wrong
unfolding act bare two
one_stuck op x a b c d e v m h4 h7 h9 hb hc hd he h40 = decode_cases (λ k. act k (v ∷ []) m ≡ p_wrong) op x a b c d e
    (λ h. refl) (λ h. refl) (λ h. refl) (λ h. absurd (h4 h)) (λ h. refl) (λ h. refl) (λ h. absurd (h7 h)) (λ h. refl) (λ h. absurd (h9 h)) (λ h. refl)
    (λ h. absurd (hb h)) (λ h. absurd (hc h)) (λ h. absurd (hd h)) (λ h. absurd (he h)) (λ h. refl) (λ h. absurd (h40 h)) (λ h. refl) (λ h. refl) refl

pub two_stuck :
    (op x a b c d e : ℕ) (u v : Value) (m : Machine) → (op ≡ 0x33 → ⊥) → (op ≡ 0x36 → ⊥) → (op ≡ 0x38 → ⊥) → (op ≡ 0x3A → ⊥) → (op ≡ 0x3C → ⊥) → (op ≡ 0x3F → ⊥) → (op ≡ 0x41 → ⊥) →
    act (decode op x a b c d e) (u ∷ v ∷ []) m ≡ p_wrong
unfolding act bare one
two_stuck op x a b c d e u v m h3 h6 h8 ha hc hf h41 = decode_cases (λ k. act k (u ∷ v ∷ []) m ≡ p_wrong) op x a b c d e
    (λ h. refl) (λ h. refl) (λ h. absurd (h3 h)) (λ h. refl) (λ h. refl) (λ h. absurd (h6 h)) (λ h. refl) (λ h. absurd (h8 h)) (λ h. refl) (λ h. absurd (ha h))
    (λ h. refl) (λ h. absurd (hc h)) (λ h. refl) (λ h. refl) (λ h. absurd (hf h)) (λ h. refl) (λ h. absurd (h41 h)) (λ h. refl) refl

-- no command but a limit acts on three values or more
pub more_stuck : (op x a b c d e : ℕ) (u v w : Value) (l : List Value) (m : Machine) → (op ≡ 0x3C → ⊥) → act (decode op x a b c d e) (u ∷ v ∷ w ∷ l) m ≡ p_wrong
unfolding act bare one two
more_stuck op x a b c d e u v w l m hc = decode_cases (λ k. act k (u ∷ v ∷ w ∷ l) m ≡ p_wrong) op x a b c d e
    (λ h. refl) (λ h. refl) (λ h. refl) (λ h. refl) (λ h. refl) (λ h. refl) (λ h. refl) (λ h. refl) (λ h. refl) (λ h. refl)
    (λ h. refl) (λ h. absurd (hc h)) (λ h. refl) (λ h. refl) (λ h. refl) (λ h. refl) (λ h. refl) (λ h. refl) refl

-- the bytes of no command that works out an operand
pub works_none :
    (op x : ℕ) → (op ≡ 0x33 → ⊥) → (op ≡ 0x34 → ⊥) → (op ≡ 0x36 → ⊥) → (op ≡ 0x37 → ⊥) → (op ≡ 0x38 → ⊥) → (op ≡ 0x39 → ⊥) →
    (op ≡ 0x3A → ⊥) → (op ≡ 0x3B → ⊥) → (op ≡ 0x3C → ⊥) → (op ≡ 0x3D → ⊥) → (op ≡ 0x3E → ⊥) → (op ≡ 0x3F → ⊥) → (op ≡ 0x40 → ⊥) → (op ≡ 0x41 → ⊥) → Works op x 0
unfolding evaluated
works_none op x h3 h4 h6 h7 h8 h9 ha hb hc hd he hf h40 h41 =
    record {
      all = λ a b c d e. decode_cases (λ k. evaluated k ≡ []) op x a b c d e
          (λ h. refl) (λ h. refl) (λ h. absurd (h3 h)) (λ h. absurd (h4 h)) (λ h. refl) (λ h. absurd (h6 h)) (λ h. absurd (h7 h)) (λ h. absurd (h8 h)) (λ h. absurd (h9 h)) (λ h. absurd (ha h))
          (λ h. absurd (hb h)) (λ h. absurd (hc h)) (λ h. absurd (hd h)) (λ h. absurd (he h)) (λ h. absurd (hf h)) (λ h. absurd (h40 h)) (λ h. absurd (h41 h)) (λ h. refl) refl;
      few = omega arith;
    }

take_four : (x a b c d : ℕ) → 4 ≤ x → take x (a ∷ b ∷ c ∷ d ∷ []) ≡ a ∷ b ∷ c ∷ d ∷ []
take_four zero a b c d h = absurd (omega arith)
take_four (suc zero) a b c d h = absurd (omega arith)
take_four (suc (suc zero)) a b c d h = absurd (omega arith)
take_four (suc (suc (suc zero))) a b c d h = absurd (omega arith)
take_four (suc (suc (suc (suc zero)))) a b c d h = refl
take_four (suc (suc (suc (suc (suc x))))) a b c d h = refl

-- a limit works out its keys
pub works_limit : (op x : ℕ) → op ≡ 0x3C → x < 4 → Works op x x
unfolding decode evaluated
works_limit op x h l = record { all = λ a b c d e. simp h; few = omega arith }

pub works_limit_all : (op x : ℕ) → op ≡ 0x3C → 4 ≤ x → Works op x 4
unfolding decode evaluated
works_limit_all op x h l = record { all = λ a b c d e. simp h (take_four x a b c d l); few = omega arith }

-- the operand in hand next
pub taken_in : (n j a b c d : ℕ) → j < n → n ≤ 4 → (f : ℕ → ℕ) → f 0 ≡ a → f 1 ≡ b → f 2 ≡ c → f 3 ≡ d → get_elem? (take n (a ∷ b ∷ c ∷ d ∷ [])) j ≡ some (f j)
taken_in zero j a b c d h l f e0 e1 e2 e3 = absurd (omega arith)
taken_in (suc n) zero a b c d h l f e0 e1 e2 e3 = ap some (sym e0)
taken_in (suc zero) (suc j) a b c d h l f e0 e1 e2 e3 = absurd (omega arith)
taken_in (suc (suc n)) (suc zero) a b c d h l f e0 e1 e2 e3 = ap some (sym e1)
taken_in (suc (suc zero)) (suc (suc j)) a b c d h l f e0 e1 e2 e3 = absurd (omega arith)
taken_in (suc (suc (suc n))) (suc (suc zero)) a b c d h l f e0 e1 e2 e3 = ap some (sym e2)
taken_in (suc (suc (suc zero))) (suc (suc (suc j))) a b c d h l f e0 e1 e2 e3 = absurd (omega arith)
taken_in (suc (suc (suc (suc n)))) (suc (suc (suc zero))) a b c d h l f e0 e1 e2 e3 = ap some (sym e3)
taken_in (suc (suc (suc (suc n)))) (suc (suc (suc (suc j)))) a b c d h l f e0 e1 e2 e3 = absurd (omega arith)

pub taken_out : (n j a b c d : ℕ) → n ≤ j → get_elem? (take n (a ∷ b ∷ c ∷ d ∷ [])) j ≡ none
taken_out zero j a b c d h = refl
taken_out (suc n) zero a b c d h = absurd (omega arith)
taken_out (suc zero) (suc j) a b c d h = refl
taken_out (suc (suc n)) (suc zero) a b c d h = absurd (omega arith)
taken_out (suc (suc zero)) (suc (suc j)) a b c d h = refl
taken_out (suc (suc (suc n))) (suc (suc zero)) a b c d h = absurd (omega arith)
taken_out (suc (suc (suc zero))) (suc (suc (suc j))) a b c d h = refl
taken_out (suc (suc (suc (suc n)))) (suc (suc (suc zero))) a b c d h = absurd (omega arith)
taken_out (suc (suc (suc (suc zero)))) (suc (suc (suc (suc j)))) a b c d h = refl
taken_out (suc (suc (suc (suc (suc n))))) (suc (suc (suc (suc j)))) a b c d h = refl

-- the same of an expression of the tables, whose head was read
module _ (heads slots : List ℕ) (i head : ℕ) (e : head ≡ get_or heads i 0) where
  pub code_one :
      (v : Value) (m : Machine) → (get_or heads i 0 % 256 ≡ 0x3C → ⊥) → (head % 256 ≡ 0x34 → ⊥) → (head % 256 ≡ 0x37 → ⊥) → (head % 256 ≡ 0x39 → ⊥) → (head % 256 ≡ 0x3B → ⊥) →
      (head % 256 ≡ 0x3D → ⊥) → (head % 256 ≡ 0x3E → ⊥) → (head % 256 ≡ 0x40 → ⊥) → settle (act (code_in heads slots i) (v ∷ []) m) ≡ o_stuck
  unfolding code_in settle
  code_one v m hc h4 h7 h9 hb hd he h40 = simp (← e) (ap settle (one_stuck (head % 256) (head / 256 % 4294967296) _ _ _ _ _ v m h4 h7 h9 hb (λ z. hc (ap (λ (x : ℕ). x % 256) (sym e) ∙ z)) hd he h40))

  pub code_two :
      (u v : Value) (m : Machine) → (get_or heads i 0 % 256 ≡ 0x3C → ⊥) → (head % 256 ≡ 0x33 → ⊥) → (head % 256 ≡ 0x36 → ⊥) → (head % 256 ≡ 0x38 → ⊥) → (head % 256 ≡ 0x3A → ⊥) →
      (head % 256 ≡ 0x3F → ⊥) → (head % 256 ≡ 0x41 → ⊥) → settle (act (code_in heads slots i) (u ∷ v ∷ []) m) ≡ o_stuck
  unfolding code_in settle
  code_two u v m hc h3 h6 h8 ha hf h41 = simp (← e) (ap settle (two_stuck (head % 256) (head / 256 % 4294967296) _ _ _ _ _ u v m h3 h6 h8 ha (λ z. hc (ap (λ (x : ℕ). x % 256) (sym e) ∙ z)) hf h41))

  code_three : (u v w : Value) (l : List Value) (m : Machine) → (head % 256 ≡ 0x3C → ⊥) → settle (act (code_in heads slots i) (u ∷ v ∷ w ∷ l) m) ≡ o_stuck
  unfolding code_in settle
  code_three u v w l m hc = simp (← e) (ap settle (more_stuck (head % 256) (head / 256 % 4294967296) _ _ _ _ _ u v w l m hc))

  pub code_more : (n : ℕ) (p q r v : Value) (m : Machine) → (head % 256 ≡ 0x3C → ⊥) → (n ≡ 0 → ⊥) → (n ≡ 1 → ⊥) → settle (act (code_in heads slots i) (hand_of n p q r ++ (v ∷ [])) m) ≡ o_stuck
  code_more zero p q r v m hc h0 h1 = absurd (h0 refl)
  code_more (suc zero) p q r v m hc h0 h1 = absurd (h1 refl)
  code_more (suc (suc zero)) p q r v m hc h0 h1 = code_three p q v [] m hc
  code_more (suc (suc (suc n))) p q r v m hc h0 h1 =
      let e2 : suc (suc (suc n)) ≡ 2 → ⊥ = λ z. omega arith in
      simp (ne_eqb _ _ h0, ne_eqb _ _ h1, ne_eqb _ _ e2) (code_three p q r (v ∷ []) m hc)

  pub code_limit :
      (n : ℕ) (p q r v : Value) (m : Machine) {body : ℕ} {a b c d : Value} → head % 256 ≡ 0x3C → body ≡ get_or slots (i * 5 + 4) 0 →
      a ≡ cond (ltb 0 n) p v → b ≡ cond (ltb 1 n) q v → c ≡ cond (ltb 2 n) r v → d ≡ v → settle (act (code_in heads slots i) (hand_of n p q r ++ (v ∷ [])) m) ≡ settle (act_lim body (a ∷ b ∷ c ∷ d ∷ []) m)
  unfolding code_in decode act
  code_limit n p q r v m h hb ha hq hc hd = simp (← e, h, ← hb) (padded n _ p q r v m ∙ simp (← ha, ← hq, ← hc, hd))

  pub code_test :
      (v : Value) (m : Machine) {b c : ℕ} → head % 256 ≡ 0x3B → b ≡ get_or slots (i * 5 + 1) 0 → c ≡ get_or slots (i * 5 + 2) 0 → act (code_in heads slots i) (v ∷ []) m ≡ act_test b c v m
  unfolding code_in decode act one
  code_test v m h hb hc = simp (← e, h, ← hb, ← hc)

  -- 0x3A and 0x41, on two values
  pub code_numbers :
      (u v : Value) (m : Machine) → (head % 256 ≡ 0x3A) ⊎ (head % 256 ≡ 0x41)
      → act (code_in heads slots i) (u ∷ v ∷ []) m ≡ act_numbers (eqb (head % 256) 0x41) (eqb (head / 256 % 4294967296) 0) u v m
  unfolding code_in decode act two
  code_numbers u v m (inl h) = simp (← e, h)
  code_numbers u v m (inr h) = simp (← e, h)

  pub code_access :
      (v : Value) (m : Machine) {b c : ℕ} → head % 256 ≡ 0x40 → b ≡ get_or slots (i * 5 + 1) 0 → c ≡ get_or slots (i * 5 + 2) 0 → act (code_in heads slots i) (v ∷ []) m ≡ act_access b c v m
  unfolding code_in decode act one
  code_access v m h hb hc = simp (← e, h, ← hb, ← hc)

  code_works : (need : ℕ) → Works (head % 256) (head / 256 % 4294967296) need →
      evaluated (code_in heads slots i) ≡ take need (get_or slots (i * 5) 0 ∷ get_or slots (i * 5 + 1) 0 ∷ get_or slots (i * 5 + 2) 0 ∷ get_or slots (i * 5 + 3) 0 ∷ [])
  unfolding code_in
  code_works need w = simp (← e) (w.all _ _ _ _ _)

  pub code_push : (j need : ℕ) (m : Machine) {a : ℕ} → Works (head % 256) (head / 256 % 4294967296) need → 0 < need → a ≡ get_or slots (i * 5) 0 → enter_cmd j (code_in heads slots i) m ≡ push j a m
  code_push j zero m w h ha = absurd (omega arith)
  code_push j (suc need) m w h ha = enter_push j (code_in heads slots i) _ _ m (code_works (suc need) w) ∙ ap (λ (x : ℕ). push j x m) (sym ha)

  no_works : (x a b c d y : ℕ) → Works 0x3C x 0 → take x (a ∷ b ∷ c ∷ d ∷ []) ≡ []
  unfolding decode evaluated
  no_works x a b c d y w = w.all a b c d y

  pub code_bare : (j need : ℕ) (m : Machine) {body : ℕ} → head % 256 ≡ 0x3C → Works (head % 256) (head / 256 % 4294967296) need → need ≤ 0 → body ≡ get_or slots (i * 5 + 4) 0 →
      settle (enter_cmd j (code_in heads slots i) m) ≡ go body m.thread.env 0 m
  unfolding code_in decode evaluated enter_cmd enter_at act act_lim limit_keys keys_of settle touch_all room
  code_bare j (suc need) m h w l hb = absurd (omega arith)
  code_bare j zero m h w l hb =
      let t = no_works (head / 256 % 4294967296) (get_or slots (i * 5) 0) (get_or slots (i * 5 + 1) 0) (get_or slots (i * 5 + 2) 0) (get_or slots (i * 5 + 3) 0) 0 (rw h at w) in
      simp (← e, h, t, ← hb, narrow_none m.store.keys m.thread.on)

  pub code_number : (need : ℕ) → Works (head % 256) (head / 256 % 4294967296) need → need ≤ 0 → (head % 256 ≡ 0x31 → ⊥) → (head % 256 ≡ 0x32 → ⊥) → (head % 256 ≡ 0x35 → ⊥) →
      (head % 256 ≡ 0x3C → ⊥) → (head % 256 ≡ 0x42 → ⊥) → code_in heads slots i ≡ c_num (head / 256 % 4294967296)
  unfolding code_in
  code_number (suc need) w l h1 h2 h5 hc h42 = absurd (omega arith)
  code_number zero w l h1 h2 h5 hc h42 = simp (← e) (enter_number (head % 256) (head / 256 % 4294967296) _ _ _ _ _ w h1 h2 h5 hc h42)
