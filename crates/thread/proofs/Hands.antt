-- A value goes to the newest frame.
use Prim.Native.Nat.{ℕ, zero, suc, ◌+◌, ◌-◌, ◌*◌, ◌/◌, ◌%◌, ◌<◌, ◌≤◌}
use mathlib.Core.Path.{◌≡◌, refl, sym, ◌∙◌, ap, ap₂}
use mathlib.Core.Bool.{Bool, true, false, cond}
use mathlib.Core.List.{List, [], ◌∷◌, ◌++◌}
use mathlib.Core.Option.{Option, none, some}
use native.Mathlib.Omega.{arith}
use borrow.Author.Tests.{eqb-true, eqb-false}
use lib.Dec.{ltb, eqb}
use lib.ListN.{length, get_or, get_elem?, take}
use Rattle.syntax.specs.Commands.{Cmd}
use Rattle.syntax.specs.Words.{code_in}
use Rattle.semantics.specs.Machine.{Value as SValue, Frame, hand, Machine as Clean}
use Rattle.syntax.specs.Operands.{evaluated}
use Rattle.semantics.specs.Step.{Out, o_done, room, touch_all, settle, act, enter_cmd, receive, hand_to, resume, with_frames, plan_on, plan, step}
use Rattle.semantics.proofs.SpawnLaws.{is_spawn}
use Rattle.semantics.specs.Room.{is_done, done_at}
use Rattle.table.specs.declared.Expr.{Expr}
use Rattle.store.specs.declared.Head.{Head}
use Rattle.store.specs.Meaning.{keys_in}
use Rattle.store.specs.Words.{word_in}
use Rattle.store.specs.Frames.{head_at, held_in, hand_of, frame_in, hold_of, Held}
use Rattle.store.specs.Tables.{Wrote, capped, stack_of}
use Rattle.store.proofs.Laws.{stack_top, stack_none, stack_put, cap_below, cap_le}
use Rattle.acts.specs.declared.State.{State}
use Rattle.acts.specs.declared.Control.TheVariants.{Enter, Hand}
use Rattle.acts.specs.View.{Tables, view}
use Rattle.acts.specs.Inner.{Stepped, settled, tried, go, resume_of, put_frames, Works}
use Rattle.semantics.proofs.OthersUnseen.{spawning}
use Rattle.thread.specs.Inner.{starting, entered_by, is_spawn_at, step_of, stepped_by}
use Rattle.acts.proofs.Codes.{taken_in, taken_out}

hand_length : (k : ℕ) (a b d : SValue) → k ≤ 3 → length (hand_of k a b d) ≡ k
hand_length zero a b d h = refl
hand_length (suc zero) a b d h = refl
hand_length (suc (suc zero)) a b d h = refl
hand_length (suc (suc (suc zero))) a b d h = refl
hand_length (suc (suc (suc (suc k)))) a b d h = absurd (omega arith)

pub few_held : (t : List ℕ) (i : ℕ) → (head_at t i).held ≤ 3
unfolding head_at
few_held t i = omega arith

-- the frame whose head was read
module _ (t : List ℕ) (i : ℕ) (h : Head) (e : h ≡ head_at t i) where
  top_at : (frame_in t i).at ≡ h.at.0
  unfolding frame_in
  top_at = sym (ap (λ (x : Head). x.at.0) e)

  top_env : (frame_in t i).env ≡ h.env
  unfolding frame_in
  top_env = sym (ap (λ (x : Head). x.env) e)

  top_on : (frame_in t i).on ≡ keys_in h.on
  unfolding frame_in
  top_on = sym (ap (λ (x : Head). keys_in x.on) e)

  top_hand : (frame_in t i).hand ≡ hand_of h.held (held_in t i 0) (held_in t i 1) (held_in t i 2)
  unfolding frame_in
  top_hand = sym (ap (λ (x : Head). hand_of x.held (held_in t i 0) (held_in t i 1) (held_in t i 2)) e)

  pub top_few : h.held ≤ 3
  top_few = let q : h.held ≡ (head_at t i).held = ap (λ (x : Head). x.held) e in omega (arith, few_held t i)

  top_length : length (frame_in t i).hand ≡ h.held
  top_length = ap length top_hand ∙ hand_length h.held _ _ _ top_few

-- the operands of an expression of the tables
module _ (heads slots : List ℕ) (i head need : ℕ) (hh : head ≡ get_or heads i 0) (hw : Works (head % 256) (head / 256 % 4294967296) need) where
  pub evaluated_in : evaluated (code_in heads slots i) ≡ take need (get_or slots (i * 5) 0 ∷ get_or slots (i * 5 + 1) 0 ∷ get_or slots (i * 5 + 2) 0 ∷ get_or slots (i * 5 + 3) 0 ∷ [])
  unfolding code_in
  evaluated_in = simp (← hh) (hw.all _ _ _ _ _)

  pub next_in_lem : (j : ℕ) → j < need → get_elem? (evaluated (code_in heads slots i)) j ≡ some (get_or slots (i * 5 + j) 0)
  next_in_lem j h =
      let z : i * 5 + 0 ≡ i * 5 = omega arith in
      ap (λ (l : List ℕ). get_elem? l j) evaluated_in ∙ taken_in need j _ _ _ _ h hw.few (λ k. get_or slots (i * 5 + k) 0) (ap (λ (x : ℕ). get_or slots x 0) z) refl refl refl

  pub next_out : (j : ℕ) → need ≤ j → get_elem? (evaluated (code_in heads slots i)) j ≡ none
  next_out j h = ap (λ (l : List ℕ). get_elem? l j) evaluated_in ∙ taken_out need j _ _ _ _ h

pub hand_done : {T : Type 0} (code : ℕ → Cmd T) (self : State) (w : Tables) (v : SValue) {n : ℕ} → n ≡ capped self.frames 256 → n ≡ 0 →
    settle (hand_to code v (view self w).thread.frames (view self w)) ≡ o_done
unfolding view hand_to settle
hand_done code self w v e z = simp (← e, stack_none frame_in w.frames _ z)

module _ (self : State) (w : Tables) (heads slots : List ℕ) (v : SValue) (n : ℕ) (h : Head) (head need : ℕ)
    (hn : n ≡ capped self.frames 256) (h0 : n ≡ 0 → ⊥) (hh : h ≡ head_at w.frames (n - 1))
    (hd : head ≡ get_or heads h.at.0 0) (hw : Works (head % 256) (head / 256 % 4294967296) need) where
  split : (view self w).thread.frames ≡ frame_in w.frames (n - 1) ∷ stack_of frame_in w.frames (n - 1)
  unfolding view
  split = ap (stack_of frame_in w.frames) (sym hn) ∙ stack_top frame_in w.frames n h0

  to_top :
      hand_to (code_in heads slots) v (view self w).thread.frames (view self w) ≡
      receive (code_in heads slots) (get_elem? (evaluated (code_in heads slots h.at.0)) (suc h.held)) (frame_in w.frames (n - 1)) ((frame_in w.frames (n - 1)).hand ++ (v ∷ []))
      (stack_of frame_in w.frames (n - 1)) (view self w)
  unfolding hand_to
  to_top =
      ap (λ (fs : List Frame). hand_to (code_in heads slots) v fs (view self w)) split
      ∙ simp (top_at w.frames (n - 1) h hh, top_length w.frames (n - 1) h hh)

  pub small_top : n - 1 < 256
  small_top = omega (arith, cap_le self.frames 256)

  held_view :
      (frames : List ℕ) (e : Expr) → Wrote frame_in w.frames frames (n - 1) (hold_of (frame_in w.frames (n - 1)) v) →
      go e.0 h.env (keys_in h.on) (with_frames (view self w) (hold_of (frame_in w.frames (n - 1)) v ∷ stack_of frame_in w.frames (n - 1))) ≡
      go e.0 h.env (keys_in h.on) (view self (put_frames w frames))
  unfolding view
  held_view frames e hw =
      let one : n ≡ n - 1 + 1 = omega arith in
      let st : stack_of frame_in frames (capped self.frames 256) ≡ hold_of (frame_in w.frames (n - 1)) v ∷ stack_of frame_in w.frames (n - 1) =
      ap (stack_of frame_in frames) (sym hn ∙ one) ∙ stack_put frame_in w.frames frames (n - 1) _ hw in
      simp st

  -- an operand is left
  pub hand_held :
      (frames : List ℕ) (e : Expr) → h.held + 1 < need → Held w.frames frames (n - 1) v → e.0 ≡ get_or slots (h.at.0 * 5 + (h.held + 1)) 0 →
      settle (hand_to (code_in heads slots) v (view self w).thread.frames (view self w)) ≡ go e.0 h.env (keys_in h.on) (view self (put_frames w frames))
  unfolding receive settle touch_all room
  hand_held frames e hb hp he =
      let z : suc h.held ≡ h.held + 1 = omega arith in
      let lt : (head_at w.frames (n - 1)).held < 3 = omega (arith, ap (λ (x : Head). x.held) hh, hw.few) in
      ap settle (to_top
      ∙ ap (λ (o : Option ℕ). receive (code_in heads slots) o (frame_in w.frames (n - 1)) ((frame_in w.frames (n - 1)).hand ++ (v ∷ [])) (stack_of frame_in w.frames (n - 1)) (view self w))
      (ap (get_elem? (evaluated (code_in heads slots h.at.0))) z ∙ next_in_lem heads slots h.at.0 head need hd hw (h.held + 1) hb ∙ ap some (sym he)))
      ∙ ap (λ (x : ℕ). go e.0 x (frame_in w.frames (n - 1)).on (with_frames (view self w) (hold_of (frame_in w.frames (n - 1)) v ∷ stack_of frame_in w.frames (n - 1)))) (top_env w.frames (n - 1) h hh)
      ∙ ap (λ (x : ℕ). go e.0 h.env x (with_frames (view self w) (hold_of (frame_in w.frames (n - 1)) v ∷ stack_of frame_in w.frames (n - 1)))) (top_on w.frames (n - 1) h hh)
      ∙ held_view frames e (hp.wrote small_top lt)

  back_view : view (resume_of self (n - 1) h.env h.on) w ≡ resume (frame_in w.frames (n - 1)) (stack_of frame_in w.frames (n - 1)) (view self w)
  unfolding view
  back_view = simp (cap_below (n - 1) 256 small_top, top_env w.frames (n - 1) h hh, top_on w.frames (n - 1) h hh)

  -- all operands are in hand
  pub hand_all :
      {back : State} → need ≤ h.held + 1 → back ≡ resume_of self (n - 1) h.env h.on →
      settle (act (code_in heads slots h.at.0) (hand_of h.held (held_in w.frames (n - 1) 0) (held_in w.frames (n - 1) 1) (held_in w.frames (n - 1) 2) ++ (v ∷ [])) (view back w)) ≡
      settle (hand_to (code_in heads slots) v (view self w).thread.frames (view self w))
  unfolding receive
  hand_all {back} hb hk =
      let z : need ≤ suc h.held = omega arith in
      ap settle (sym (to_top
      ∙ simp (next_out heads slots h.at.0 head need hd hw (suc h.held) z, top_at w.frames (n - 1) h hh, top_hand w.frames (n - 1) h hh)
      (ap (λ (m : Clean). act (code_in heads slots h.at.0) (hand_of h.held (held_in w.frames (n - 1) 0) (held_in w.frames (n - 1) 1) (held_in w.frames (n - 1) 2) ++ (v ∷ [])) m)
      (sym (ap (λ (t : State). view t w) hk ∙ back_view)))))

-- a step by the control
module _ {T : Type 0} (code : ℕ → Cmd T) (self : State) (w : Tables) {r : Stepped} where
  stepped_as : {b : Bool} {o : Out} → is_spawn_at code (view self w) ≡ b → step code (view self w) ≡ o → r ≡ cond b (starting (view self w)) (settled (view self w) o) → r ≡ stepped_by code self w
  unfolding step_of
  stepped_as {b} {o} h e q = q ∙ sym (ap₂ (λ (b : Bool) (o : Out). cond b (starting (view self w)) (settled (view self w) o)) h e)

  pub by_enter : {e : Expr} → self.now.control ≡ Enter e → r ≡ entered_by e.0 (code e.0) self w → r ≡ stepped_by code self w
  unfolding view step plan plan_on spawning
  by_enter {e} h q = stepped_as at goes q
    where
      at : is_spawn_at code (view self w) ≡ is_spawn (code e.0)
      at = simp h

      goes : step code (view self w) ≡ settle (enter_cmd e.0 (code e.0) (view self w))
      goes = simp h

  pub by_hand : {v : ℕ} → self.now.control ≡ Hand v → r ≡ tried self self w (λ m. hand_to code (word_in v) m.thread.frames m) → r ≡ stepped_by code self w
  unfolding view step plan plan_on spawning
  by_hand {v} h q = stepped_as at goes q
    where
      at : is_spawn_at code (view self w) ≡ false
      at = simp h

      goes : step code (view self w) ≡ settle (hand_to code (word_in v) (view self w).thread.frames (view self w))
      goes = simp h

cap_some : (n most : ℕ) → (n ≡ 0 → ⊥) → 0 < most → capped n most ≡ 0 → ⊥
cap_some n most h l = at (ltb n most) refl
  where
    at : (b : Bool) → ltb n most ≡ b → cond b n most ≡ 0 → ⊥
    at true e z = h z
    at false e z = omega arith

-- done: a value and no frame
pub done_enter : (self : State) (w : Tables) (e : Expr) → self.now.control ≡ Enter e → false ≡ is_done (view self w)
unfolding view is_done done_at
done_enter self w e h = rw h

done_empty : (v : SValue) (t : List ℕ) (n : ℕ) → eqb n 0 ≡ done_at (hand v) (stack_of frame_in t (capped n 256))
unfolding done_at
done_empty v t n = at (eqb n 0) refl
  where
    at : (b : Bool) → eqb n 0 ≡ b → b ≡ done_at (hand v) (stack_of frame_in t (capped n 256))
    at true e =
        let z : n ≡ 0 = eqb-true n 0 e in
        let y : capped n 256 ≡ 0 = ap (λ (x : ℕ). capped x 256) z in
        simp (stack_none frame_in t (capped n 256) y)
    at false e =
        let z : n ≡ 0 → ⊥ = eqb-false n 0 e in
        simp (stack_top frame_in t (capped n 256) (cap_some n 256 z (omega arith)))

pub done_hand : (self : State) (w : Tables) (v : ℕ) → self.now.control ≡ Hand v → eqb self.frames 0 ≡ is_done (view self w)
unfolding view is_done
done_hand self w v h = rw h (done_empty (word_in v) w.frames self.frames)
