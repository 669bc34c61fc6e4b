-- What a step keeps, of every machine and every code. It stays within its room (`room_kept`); and it keeps every cell's value, unless an operand of its act is written
-- (`unwritten_kept`); one is written only where the act can change a cell (`written_changes`), and one is read and written only in 0x3F (`both_exactly`). Which operands are written is read off document 01's list (`Wants`), apart from the step.
use Rattle.std.specs.Prelude.{◌≡◌, ℕ, zero, suc, ◌≤◌, true, ◌≢◌, length, eqb, ltb}
use Rattle.std.proofs.Math.Path.{refl}
use Rattle.std.proofs.Common.{sym, ap, ◌∙◌, arith, length-append}
use Rattle.std.proofs.Math.Bool.{false}
use Rattle.std.proofs.lemmas.Bool.{false≢true}
use mathlib.Core.List.{List, [], ◌∷◌, ◌++◌}
use Rattle.std.proofs.Math.Option.{Option, none, some}
use Rattle.std.proofs.Math.ListN.{length-set, get_elem?}
use borrow.Author.Tests.{ltb-true}
use Rattle.order.specs.Bools.{◌or◌}
use Rattle.order.proofs.Bools.{and_l, and_r}
use Rattle.order.proofs.OrderLaws.{get_elem?_append}
use Rattle.syntax.specs.Commands.{Cmd, c_num, c_top, c_var, c_pair, c_part, c_fn, c_app, c_new, c_asg, c_read, c_sum, c_test, c_lim, c_grant, c_newkey, c_assoc, c_access, c_divide, c_spawn, form, row}
use Rattle.syntax.specs.Operands.{evaluated}
use Rattle.semantics.specs.Machine.{k_num, k_cell, Value, unkeyed, Frame, Control, enter, hand, Machine, most_cells, most_keys, most_pairs, most_functions, most_frames, most_bindings, most_threads}
use Rattle.semantics.specs.Keys.{enabled}
use Rattle.semantics.specs.Step.{o_step, handing, with_cells, room, touch, touch_all, settle, as_num, as_pair, as_fn, as_cell, as_lim, as_grant, found, two}
use Rattle.semantics.specs.Step.{seek, variable, act_pair, act_part, act_fn, act_app, act_new, act_asg, act_read, act_sum, act_test, act_lim, act_grant, make_key, act_newkey, act_assoc, act_access, act_divide, act_spawn}
use Rattle.semantics.specs.Step.{resume, push, act, enter_at, enter_cmd, receive, hand_to, plan_on, plan, step}
use Rattle.semantics.specs.Ends.{Ends, en_done, en_try}
use Rattle.semantics.proofs.Ends.{settle_ends, found_ends, bare_ends, one_ends, two_ends, limits_end}
use Rattle.semantics.specs.Wants.{read, touches, a_limit, alike, wants_of, acting, to_enter, to_receive, to_hand, needs_on, needs}
use Rattle.semantics.specs.StepKeeps.{Changes, Fits, Kept, Within, any_both, any_written, is_both, is_write}

-- one entry more, where there is room for it
one_more : {A : Type 0} (l : List A) (x : A) (most : ℕ) → ltb (length l) most ≡ true → length (l ++ (x ∷ [])) ≤ most
one_more l x most e = omega (arith, length-append l (x ∷ []), ltb-true (length l) most e)

-- two entries more
two_more : {A : Type 0} (l : List A) (x y : A) (most : ℕ) → ltb (suc (length l)) most ≡ true → length (l ++ (x ∷ y ∷ [])) ≤ most
two_more l x y most e = omega (arith, length-append l (x ∷ y ∷ []), ltb-true (suc (length l)) most e)

module _ {T : Type 0} where
  act_fits : (k : Cmd T) (h : List Value) (m : Machine) → Fits m → Ends Fits (act k h m)
  unfolding act act_pair act_part act_fn act_app act_new act_asg act_read act_sum act_test act_lim act_grant make_key act_newkey act_assoc act_access act_divide act_spawn variable
  act_fits (c_num n) h m r = bare_ends h (en_try (λ e. r))
  act_fits c_top h m r = bare_ends h (en_try (λ e. r))
  act_fits (c_var x) h m r = bare_ends h (found_ends (seek most_bindings m.store.bindings m.thread.env x) _ (λ v. en_try (λ e. r)))
  act_fits (c_pair a b) h m r =
      two_ends h _ (λ v w. en_try (λ e. record { cells = r.cells; keys = r.keys; pairs = one_more m.store.pairs _ most_pairs e; functions = r.functions; bindings = r.bindings; frames = r.frames; threads = r.threads }))
  act_fits (c_part a i) h m r = one_ends h _ (λ v. found_ends (as_pair v.kind) _ (λ p. found_ends (get_elem? m.store.pairs p) _ (λ t. en_try (λ e. r))))
  act_fits (c_fn x t b) h m r =
      bare_ends h (en_try (λ e. record { cells = r.cells; keys = r.keys; pairs = r.pairs; functions = one_more m.store.functions _ most_functions e; bindings = r.bindings; frames = r.frames; threads = r.threads }))
  act_fits (c_app a b) h m r =
      two_ends h _ (λ v w. found_ends (as_fn v.kind) _ (λ f. found_ends (get_elem? m.store.functions f) _ (λ c.
      en_try (λ e. record { cells = r.cells; keys = r.keys; pairs = r.pairs; functions = r.functions; bindings = one_more m.store.bindings _ most_bindings e; frames = r.frames; threads = r.threads }))))
  act_fits (c_new t a) h m r =
      one_ends h _ (λ v. en_try (λ e. record { cells = one_more m.store.cells v most_cells e; keys = r.keys; pairs = r.pairs; functions = r.functions; bindings = r.bindings; frames = r.frames; threads = r.threads }))
  act_fits (c_asg a b) h m r =
      two_ends h _ (λ v w. found_ends (as_cell v.kind) _ (λ c. found_ends (get_elem? m.store.cells c) _ (λ old.
      en_try (λ e. record { cells = omega (arith, length-set m.store.cells c w, r.cells); keys = r.keys; pairs = r.pairs; functions = r.functions; bindings = r.bindings; frames = r.frames; threads = r.threads }))))
  act_fits (c_read a) h m r = one_ends h _ (λ v. found_ends (as_cell v.kind) _ (λ c. found_ends (get_elem? m.store.cells c) _ (λ w. en_try (λ e. r))))
  act_fits (c_sum i a b) h m r = two_ends h _ (λ v w. found_ends (as_num v.kind) _ (λ x. found_ends (as_num w.kind) _ (λ y. en_try (λ e. r))))
  act_fits (c_test a b c t) h m r = one_ends h _ (λ v. found_ends (as_num v.kind) _ (λ n. en_try (λ e. r)))
  act_fits (c_lim ks b) h m r = limits_end h _ (λ js. en_try (λ e. r))
  act_fits (c_grant a b) h m r = one_ends h _ (λ v. found_ends (as_grant v.kind) _ (λ j. en_try (λ e. r)))
  act_fits (c_newkey x n a b t) h m r =
      one_ends h _ (λ v. found_ends (as_lim v.kind) _ (λ j. en_try (λ e. record {
        cells = r.cells;
        keys = one_more m.store.keys _ most_keys (and_l _ _ (and_l _ _ e));
        pairs = one_more m.store.pairs _ most_pairs (and_r _ _ (and_l _ _ e));
        functions = r.functions;
        bindings = two_more m.store.bindings _ _ most_bindings (and_r _ _ e);
        frames = r.frames;
        threads = r.threads;
      })))
  act_fits (c_assoc a b) h m r = two_ends h _ (λ v w. found_ends (as_lim w.kind) _ (λ j. en_try (λ e. r)))
  act_fits (c_access a b c t) h m r = one_ends h _ (λ v. found_ends (as_lim v.kind) _ (λ j. en_try (λ e. r)))
  act_fits (c_divide a b) h m r =
      two_ends h _ (λ v w. found_ends (as_num v.kind) _ (λ x. found_ends (as_num w.kind) _ (λ y.
      en_try (λ e. record { cells = r.cells; keys = r.keys; pairs = one_more m.store.pairs _ most_pairs e; functions = r.functions; bindings = r.bindings; frames = r.frames; threads = r.threads }))))
  act_fits (c_spawn b) h m r =
      bare_ends h (en_try (λ e. record { cells = r.cells; keys = r.keys; pairs = r.pairs; functions = r.functions; bindings = r.bindings; frames = r.frames; threads = one_more m.threads _ most_threads e }))

  enter_fits : (e : ℕ) (l : List ℕ) (k : Cmd T) (m : Machine) → Fits m → Ends Fits (enter_at e l k m)
  unfolding enter_at push
  enter_fits e [] k m r = act_fits k [] m r
  enter_fits e (a ∷ l) k m r =
      en_try (λ z. record { cells = r.cells; keys = r.keys; pairs = r.pairs; functions = r.functions; bindings = r.bindings; frames = ltb-true (length m.thread.frames) most_frames z; threads = r.threads })

module _ {T : Type 0} (code : ℕ → Cmd T) where
  receive_fits : (o : Option ℕ) (f : Frame) (h : List Value) (fs : List Frame) (m : Machine) → Within (f ∷ fs) m.store m.threads → Ends Fits (receive code o f h fs m)
  unfolding receive
  receive_fits none f h fs m r =
      act_fits (code f.at) h (resume f fs m) (record { cells = r.cells; keys = r.keys; pairs = r.pairs; functions = r.functions; bindings = r.bindings; frames = omega (arith, r.frames); threads = r.threads })
  receive_fits (some a) f h fs m r =
      en_try (λ e. record { cells = r.cells; keys = r.keys; pairs = r.pairs; functions = r.functions; bindings = r.bindings; frames = r.frames; threads = r.threads })

  on_fits : (c : Control) (m : Machine) → Fits m → Ends Fits (plan_on code c m)
  unfolding plan_on hand_to enter_cmd
  on_fits (enter e) m r = enter_fits e (evaluated (code e)) (code e) m r
  on_fits (hand v) m r = at m.thread.frames r
    where
      at : (fs : List Frame) → Within fs m.store m.threads → Ends Fits (hand_to code v fs m)
      at [] r = en_done
      at (f ∷ fs) r = receive_fits (get_elem? (evaluated (code f.at)) (suc (length f.hand))) f (f.hand ++ (v ∷ [])) fs m r

  -- a step keeps the machine within its room
  pub room_kept : (m n : Machine) → step code m ≡ o_step n → Fits m → Fits n
  unfolding plan step
  room_kept m n e r = settle_ends (on_fits m.thread.control m r) e

-- Cells

module _ {T : Type 0} where
  -- a command whose row has no operand that is written
  act_keeps : (k : Cmd T) (h : List Value) (m : Machine) → any_written (wants_of k (length h)).uses ≡ false → Ends (Kept m.store) (act k h m)
  unfolding act act_pair act_part act_fn act_app act_new act_asg act_read act_sum act_test act_lim act_grant make_key act_newkey act_assoc act_access act_divide act_spawn variable wants_of any_written is_write ◌or◌
  act_keeps (c_num n) h m r = bare_ends h (en_try (λ e. record { at = λ i v z. z }))
  act_keeps c_top h m r = bare_ends h (en_try (λ e. record { at = λ i v z. z }))
  act_keeps (c_var x) h m r = bare_ends h (found_ends (seek most_bindings m.store.bindings m.thread.env x) _ (λ v. en_try (λ e. record { at = λ i v z. z })))
  act_keeps (c_pair a b) h m r = two_ends h _ (λ v w. en_try (λ e. record { at = λ i v z. z }))
  act_keeps (c_part a i) h m r = one_ends h _ (λ v. found_ends (as_pair v.kind) _ (λ p. found_ends (get_elem? m.store.pairs p) _ (λ t. en_try (λ e. record { at = λ i v z. z }))))
  act_keeps (c_fn x t b) h m r = bare_ends h (en_try (λ e. record { at = λ i v z. z }))
  act_keeps (c_app a b) h m r = two_ends h _ (λ v w. found_ends (as_fn v.kind) _ (λ f. found_ends (get_elem? m.store.functions f) _ (λ c. en_try (λ e. record { at = λ i v z. z }))))
  act_keeps (c_new t a) h m r = one_ends h _ (λ v. en_try (λ e. record { at = λ i w z. get_elem?_append m.store.cells (v ∷ []) i w z }))
  act_keeps (c_asg a b) h m r = absurd (false≢true (sym r))
  act_keeps (c_read a) h m r = one_ends h _ (λ v. found_ends (as_cell v.kind) _ (λ c. found_ends (get_elem? m.store.cells c) _ (λ w. en_try (λ e. record { at = λ i v z. z }))))
  act_keeps (c_sum i a b) h m r = two_ends h _ (λ v w. found_ends (as_num v.kind) _ (λ x. found_ends (as_num w.kind) _ (λ y. en_try (λ e. record { at = λ i v z. z }))))
  act_keeps (c_test a b c t) h m r = one_ends h _ (λ v. found_ends (as_num v.kind) _ (λ n. en_try (λ e. record { at = λ i v z. z })))
  act_keeps (c_lim ks b) h m r = limits_end h _ (λ js. en_try (λ e. record { at = λ i v z. z }))
  act_keeps (c_grant a b) h m r = one_ends h _ (λ v. found_ends (as_grant v.kind) _ (λ j. en_try (λ e. record { at = λ i v z. z })))
  act_keeps (c_newkey x n a b t) h m r = one_ends h _ (λ v. found_ends (as_lim v.kind) _ (λ j. en_try (λ e. record { at = λ i v z. z })))
  act_keeps (c_assoc a b) h m r = two_ends h _ (λ v w. found_ends (as_lim w.kind) _ (λ j. en_try (λ e. record { at = λ i v z. z })))
  act_keeps (c_access a b c t) h m r = one_ends h _ (λ v. found_ends (as_lim v.kind) _ (λ j. en_try (λ e. record { at = λ i v z. z })))
  act_keeps (c_divide a b) h m r = two_ends h _ (λ v w. found_ends (as_num v.kind) _ (λ x. found_ends (as_num w.kind) _ (λ y. en_try (λ e. record { at = λ i v z. z }))))
  act_keeps (c_spawn b) h m r = bare_ends h (en_try (λ e. record { at = λ i v z. z }))

  enter_keeps : (e : ℕ) (l : List ℕ) (k : Cmd T) (m : Machine) → any_written (to_enter l k m).uses ≡ false → Ends (Kept m.store) (enter_at e l k m)
  unfolding enter_at push to_enter acting
  enter_keeps e [] k m r = act_keeps k [] m r
  enter_keeps e (a ∷ l) k m r = en_try (λ e. record { at = λ i v z. z })

module _ {T : Type 0} (code : ℕ → Cmd T) where
  receive_keeps : (o : Option ℕ) (f : Frame) (h : List Value) (fs : List Frame) (m : Machine) → any_written (to_receive o (code f.at) f h m).uses ≡ false → Ends (Kept m.store) (receive code o f h fs m)
  unfolding receive to_receive acting
  receive_keeps none f h fs m r = act_keeps (code f.at) h (resume f fs m) r
  receive_keeps (some a) f h fs m r = en_try (λ e. record { at = λ i v z. z })

  on_keeps : (c : Control) (m : Machine) → any_written (needs_on code c m).uses ≡ false → Ends (Kept m.store) (plan_on code c m)
  unfolding plan_on hand_to enter_cmd needs_on to_hand
  on_keeps (enter e) m r = enter_keeps e (evaluated (code e)) (code e) m r
  on_keeps (hand v) m r = at m.thread.frames r
    where
      at : (fs : List Frame) → any_written (to_hand code v fs m).uses ≡ false → Ends (Kept m.store) (hand_to code v fs m)
      at [] r = en_done
      at (f ∷ fs) r = receive_keeps (get_elem? (evaluated (code f.at)) (suc (length f.hand))) f (f.hand ++ (v ∷ [])) fs m r

  -- a step whose act has no operand that is written keeps every cell's value
  pub unwritten_kept : (m n : Machine) → step code m ≡ o_step n → any_written (needs code m).uses ≡ false → (i : ℕ) (v : Value) → get_elem? m.store.cells i ≡ some v → get_elem? n.store.cells i ≡ some v
  unfolding plan step needs
  unwritten_kept m n e r = (settle_ends (on_keeps m.thread.control m r) e).at

-- No row says more than that: where an operand is written, some machine with some values in hand takes the act's step, and a cell changes

-- one cell, with number 0
abbrev one_cell : Machine
one_cell = record {
  thread = record { control = enter 0; env = 0; on = 0; frames = [] };
  store = record { cells = unkeyed (k_num 0) ∷ []; keys = []; pairs = []; functions = []; bindings = [] };
  threads = [];
}

apart : k_num 0 ≢ k_num 1
apart e = let z : ◌≡◌ {A = ℕ} 0 1 = cc in absurd (omega arith)

reads_only : (n : ℕ) → any_written (alike n (touches read a_limit)) ≡ false
unfolding any_written is_write alike ◌or◌
reads_only zero = refl
reads_only (suc n) = reads_only n

module _ {T : Type 0} where
  pub written_changes : (k : Cmd T) (i : ℕ) → any_written (wants_of k i).uses ≡ true → Changes k
  unfolding wants_of any_written is_write ◌or◌ settle act two act_asg found as_cell touch_all touch enabled room
  written_changes (c_num n) i e = absurd (false≢true e)
  written_changes c_top i e = absurd (false≢true e)
  written_changes (c_var x) i e = absurd (false≢true e)
  written_changes (c_pair a b) i e = absurd (false≢true e)
  written_changes (c_part a n) i e = absurd (false≢true e)
  written_changes (c_fn x t b) i e = absurd (false≢true e)
  written_changes (c_app a b) i e = absurd (false≢true e)
  written_changes (c_new t a) i e = absurd (false≢true e)
  written_changes (c_asg a b) i e = record {
    m = one_cell;
    n = handing (unkeyed (k_num 1)) (with_cells one_cell (unkeyed (k_num 1) ∷ []));
    held = unkeyed (k_cell 0) ∷ unkeyed (k_num 1) ∷ [];
    taken = refl;
    i = 0;
    old = unkeyed (k_num 0);
    new = unkeyed (k_num 1);
    before = refl;
    after = refl;
    differ = λ z. apart (ap (λ v. v.kind) z);
  }
  written_changes (c_read a) i e = absurd (false≢true e)
  written_changes (c_sum n a b) i e = absurd (false≢true e)
  written_changes (c_test a b c t) i e = absurd (false≢true e)
  written_changes (c_lim ks b) i e = absurd (false≢true (sym (reads_only i) ∙ e))
  written_changes (c_grant a b) i e = absurd (false≢true e)
  written_changes (c_newkey x r a b t) i e = absurd (false≢true e)
  written_changes (c_assoc a b) i e = absurd (false≢true e)
  written_changes (c_access a b c t) i e = absurd (false≢true e)
  written_changes (c_divide a b) i e = absurd (false≢true e)
  written_changes (c_spawn b) i e = absurd (false≢true e)

-- Nor is another operand read and written than the value of 0x3F, by the command's byte

reads_no_both : (n : ℕ) → any_both (alike n (touches read a_limit)) ≡ false
unfolding any_both is_both alike ◌or◌
reads_no_both zero = refl
reads_no_both (suc n) = reads_no_both n

module _ {T : Type 0} where
  pub both_exactly : (k : Cmd T) (i : ℕ) → any_both (wants_of k i).uses ≡ eqb (form (row k).op).byte 0x3F
  unfolding wants_of any_both is_both ◌or◌ form row
  both_exactly (c_num n) i = refl
  both_exactly c_top i = refl
  both_exactly (c_var x) i = refl
  both_exactly (c_pair a b) i = refl
  both_exactly (c_part a n) i = refl
  both_exactly (c_fn x t b) i = refl
  both_exactly (c_app a b) i = refl
  both_exactly (c_new t a) i = refl
  both_exactly (c_asg a b) i = refl
  both_exactly (c_read a) i = refl
  both_exactly (c_sum n a b) i = refl
  both_exactly (c_test a b c t) i = refl
  both_exactly (c_lim ks b) i = reads_no_both i
  both_exactly (c_grant a b) i = refl
  both_exactly (c_newkey x r a b t) i = refl
  both_exactly (c_assoc a b) i = refl
  both_exactly (c_access a b c t) i = refl
  both_exactly (c_divide a b) i = refl
  both_exactly (c_spawn b) i = refl
