-- What entering an expression comes to, over plain variables.
use Prim.Native.Nat.{ℕ, zero, suc, ◌+◌, ◌/◌, ◌%◌, ◌<◌, ◌≤◌}
use mathlib.Core.Path.{◌≡◌, refl, sym, ap, ◌∙◌}
use mathlib.Core.Bool.{Bool, true, false}
use mathlib.Core.List.{List, [], ◌∷◌}
use native.Mathlib.Omega.{arith}
use borrow.Author.Tests.{lt-ltb}
use lib.ListN.{length, get_or}
use Rattle.syntax.specs.Commands.{Cmd, form, row}
use Rattle.syntax.specs.Operands.{evaluated}
use Rattle.syntax.specs.Words.{decode, code_in}
use Rattle.syntax.proofs.DecodeLaws.{decode_cases}
use Rattle.semantics.specs.Machine.{k_fn, unkeyed}
use Rattle.semantics.proofs.SpawnLaws.{is_spawn, spawn_is}
use Rattle.semantics.specs.Step.{o_room, room, touch, touch_all, settle}
use Rattle.semantics.specs.Step.{act_fn, push, enter_cmd}
use Rattle.table.specs.declared.Expr.{Expr}
use Rattle.store.specs.Meaning.{keys_in}
use Rattle.store.specs.Words.{function_in}
use Rattle.store.specs.Frames.{frame_in, fresh_of}
use Rattle.store.specs.Tables.{Put}
use Rattle.store.proofs.Laws.{list_length, list_extended, stack_length, stack_put, cap_below, cap_above, cap_more}
use Rattle.acts.specs.declared.State.{State}
use Rattle.acts.specs.declared.Acted.{Acted}
use Rattle.acts.specs.declared.Answer.TheVariants.{Starts}
use Rattle.acts.specs.View.{Tables, view}
use Rattle.acts.specs.Inner.{Stepped, acted, tried, give, go, stop_of, put_frames, put_functions, Works}
use Rattle.thread.specs.Inner.{entered_by}
use Rattle.thread.proofs.Hands.{evaluated_in}

abbrev more_frames : State → State
more_frames t = record { now = t.now; frames = t.frames + 1; cells = t.cells; keys = t.keys; pairs = t.pairs; functions = t.functions; bindings = t.bindings }

abbrev more_functions : State → State
more_functions t = record { now = t.now; frames = t.frames; cells = t.cells; keys = t.keys; pairs = t.pairs; functions = t.functions + 1; bindings = t.bindings }

module _ (back : State) (w : Tables) where
  pub fn_made : (x b : ℕ) (q : List ℕ) → back.functions < 512 → Put function_in 512 w.functions q back.functions (record { var = x; body = b; env = back.now.env }) →
      settle (act_fn x b (view back w)) ≡ give (unkeyed (k_fn back.functions)) (view (more_functions back) (put_functions w q))
  unfolding view act_fn settle touch_all touch room
  fn_made x b q h p =
      rw (
        cap_below back.functions 512 h,
        list_length function_in w.functions back.functions,
        lt-ltb back.functions 512 h,
        cap_more back.functions 512 h,
        list_extended function_in w.functions q back.functions _ (p.wrote h),
      )

  pub fn_full : (x b : ℕ) → 512 ≤ back.functions → settle (act_fn x b (view back w)) ≡ o_room
  unfolding view act_fn settle touch_all touch room
  fn_full x b h = rw (cap_above back.functions 512 h, list_length function_in w.functions 512)

  pub pushed : (e : Expr) (a : ℕ) (q : List ℕ) → back.frames < 256 → Put frame_in 256 w.frames q back.frames (fresh_of e back.now.env back.now.on) →
      settle (push e.0 a (view back w)) ≡ go a back.now.env (keys_in back.now.on) (view (more_frames back) (put_frames w q))
  unfolding view push settle touch_all touch room
  pushed e a q h p =
      rw (
        cap_below back.frames 256 h,
        stack_length frame_in w.frames back.frames,
        lt-ltb back.frames 256 h,
        cap_more back.frames 256 h,
        stack_put frame_in w.frames q back.frames _ (p.wrote h),
      )

  pub push_full : (e a : ℕ) → 256 ≤ back.frames → settle (push e a (view back w)) ≡ o_room
  unfolding view push settle touch_all touch room
  push_full e a h = rw (cap_above back.frames 256 h, stack_length frame_in w.frames 256)

-- 0x42, and any other command
module _ {T : Type 0} (e : ℕ) (k : Cmd T) (s : State) (w : Tables) where
  pub spawn_entered : {r : Acted} → is_spawn k ≡ true → r ≡ stop_of s Starts → acted r w ≡ entered_by e k s w
  spawn_entered h q = simp (h, q)

  pub other_entered : {r : Stepped} → is_spawn k ≡ false → r ≡ tried s s w (enter_cmd e k) → r ≡ entered_by e k s w
  other_entered h q = q ∙ rw h

nil_cons : {a : ℕ} {l : List ℕ} → [] ≡ a ∷ l → ⊥
nil_cons {l = l} q = let z : ◌≡◌ {A = ℕ} 0 (suc (length l)) = ap length q in omega arith

-- a command with an operand to evaluate is no 0x42
has_operand : (k : Cmd ℕ) {a : ℕ} {l : List ℕ} → evaluated k ≡ a ∷ l → is_spawn k ≡ false
unfolding evaluated
has_operand k q = at (is_spawn k) refl
  where
    at : (b : Bool) → is_spawn k ≡ b → is_spawn k ≡ false
    at false h = h
    at true h = let z = spawn_is k h in absurd (nil_cons (sym (ap evaluated z.1) ∙ q))

other_byte : (op x a b c d e : ℕ) → (op ≡ 0x42 → ⊥) → is_spawn (decode op x a b c d e) ≡ false
unfolding is_spawn form row
other_byte op x a b c d e n = decode_cases (λ k. is_spawn k ≡ false) op x a b c d e
    (λ h. refl) (λ h. refl) (λ h. refl) (λ h. refl) (λ h. refl) (λ h. refl) (λ h. refl) (λ h. refl) (λ h. refl) (λ h. refl)
    (λ h. refl) (λ h. refl) (λ h. refl) (λ h. refl) (λ h. refl) (λ h. refl) (λ h. refl) (λ h. absurd (n h)) refl

-- the same of an expression of the tables, whose head was read
module _ (heads slots : List ℕ) (i head : ℕ) (e : head ≡ get_or heads i 0) where
  pub spawn_in : head % 256 ≡ 0x42 → is_spawn (code_in heads slots i) ≡ true
  unfolding code_in decode is_spawn form row
  spawn_in h = simp (← e, h)

  pub other_in : (head % 256 ≡ 0x42 → ⊥) → is_spawn (code_in heads slots i) ≡ false
  unfolding code_in
  other_in n = simp (← e) (other_byte (head % 256) (head / 256 % 4294967296) _ _ _ _ _ n)

  pub operand_in : (need : ℕ) → Works (head % 256) (head / 256 % 4294967296) need → 0 < need → is_spawn (code_in heads slots i) ≡ false
  operand_in zero w h = absurd (omega arith)
  operand_in (suc need) w h = has_operand (code_in heads slots i) (evaluated_in heads slots i head (suc need) e w)
