-- Expressions: the words that the reader makes of the operands are those of the expression, and its test is reading's.
use mathlib.Core.Path.{◌≡◌, refl, sym, ap, ◌∙◌}
use Prim.Native.Nat.{ℕ, zero, suc, ◌+◌, ◌*◌}
use native.Mathlib.Omega.{arith}
use mathlib.Core.Bool.{Bool, true, false, cond}
use mathlib.Core.List.{List, [], ◌∷◌}
use lib.ListN.{length, take, drop}
use lib.Dec.{eqb, ltb, leb}
use borrow.Author.Tests.{eqb-true, le-leb, lt-leb}
use Rattle.std.specs.Prelude.{Ok, Err}
use Rattle.order.specs.Bools.{◌and◌}
use Rattle.order.specs.Sets.{all_of}
use Rattle.syntax.specs.Commands.{Cmd, c_part, c_sum, c_lim}
use Rattle.syntax.specs.Commands.{operands}
use Rattle.syntax.specs.Commands.{x_number, x_top, x_variable, x_pair, x_part, x_function, x_apply, x_cell, x_assign, x_read, x_sum, x_test, x_limit, x_grant, x_newkey, x_associate, x_access, x_divide, x_spawn}
use Rattle.syntax.specs.Operands.{plain, inner, children, types_of, uses_var, binds_var, binds_name}
use Rattle.syntax.specs.Job.{Job}
use Rattle.syntax.specs.Words.{head_word, slots, filled}
use Rattle.syntax.specs.Reading.{Written, w_cmd, unwritten, written, local_name, cmd_ok}
use Rattle.syntax.specs.WrittenLaws.{part_of, sum_of, limit_of}
use Rattle.syntax.proofs.WrittenLaws.{written_part, written_sum, written_limit}
use Rattle.entry.specs.Bytes.{field_at, digit_of, offsets_of, kinds_of, slot_in, lead_of, form_of, slot_ok, slots_ok, key_ok, limit_ok}
use Rattle.entry.specs.Entries.{Judged, either_of, binds_ok, new_key_ok, lead_ok, places_ok, form_entry}
use Rattle.entry.specs.declared.Entry.TheVariants.{Formed}
use Rattle.entry.specs.OpBytes.{byte_of}
use Rattle.entry.proofs.Ops.{fields_from}
use Rattle.entry.proofs.Entered.{ok_w, words_of, entry_w, judged_w}
use Rattle.entry.specs.Shapes.{shape_of}

-- Tests joined, in the order of the reader and in that of reading
no_operand : (f r : Judged) → cond true (cond true f r) r ≡ cond (((((true and true) and true) and true) and true)) f r
unfolding ◌and◌
no_operand f r = refl

one_variable : (u : Bool) (f r : Judged) → cond true (cond u f r) r ≡ cond (((((true and true) and (cond u true false)) and true) and true)) f r
unfolding ◌and◌
one_variable false f r = refl
one_variable true f r = refl

one_child : (k0 : Bool) (f r : Judged) → cond (cond k0 true false) (cond true f r) r ≡ cond ((((((cond k0 true false) and true) and true) and true) and true)) f r
unfolding ◌and◌
one_child false f r = refl
one_child true f r = refl

two_children : (k0 k1 : Bool) (f r : Judged) → cond (cond k0 (cond k1 true false) false) (cond true f r) r ≡ cond ((((((cond k0 (cond k1 true false) false) and true) and true) and true) and true)) f r
unfolding ◌and◌
two_children false k1 f r = refl
two_children true false f r = refl
two_children true true f r = refl

child_type : (k0 t0 : Bool) (f r : Judged) → cond (cond k0 (cond t0 true false) false) (cond true f r) r ≡ cond ((((((cond k0 true false) and (cond t0 true false)) and true) and true) and true)) f r
unfolding ◌and◌
child_type false t0 f r = refl
child_type true false f r = refl
child_type true true f r = refl

three_type : (k0 k1 k2 t0 : Bool) (f r : Judged) → cond (cond k0 (cond k1 (cond k2 (cond t0 true false) false) false) false) (cond true f r) r ≡ cond ((((((cond k0 (cond k1 (cond k2 true false) false) false) and (cond t0 true false)) and true) and true) and true)) f r
unfolding ◌and◌
three_type false k1 k2 t0 f r = refl
three_type true false k2 t0 f r = refl
three_type true true false t0 f r = refl
three_type true true true false f r = refl
three_type true true true true f r = refl

binder : (k0 t0 u v : Bool) (f r : Judged) → cond (cond k0 (cond t0 true false) false) (cond (cond u v false) f r) r ≡ cond ((((((cond k0 true false) and (cond t0 true false)) and true) and (cond (u and v) true false)) and true)) f r
unfolding ◌and◌
binder false t0 u v f r = refl
binder true false u v f r = refl
binder true true false v f r = refl
binder true true true false f r = refl
binder true true true true f r = refl

key_binder : (k0 k1 t0 u v w : Bool) (f r : Judged) → cond (cond k0 (cond k1 (cond t0 true false) false) false) (cond (cond (cond u v false) w false) f r) r ≡ cond ((((((cond k0 (cond k1 true false) false) and (cond t0 true false)) and true) and (cond (u and v) true false)) and (cond w true false))) f r
unfolding ◌and◌
key_binder false k1 t0 u v w f r = refl
key_binder true false t0 u v w f r = refl
key_binder true true false u v w f r = refl
key_binder true true true false v w f r = refl
key_binder true true true true false w f r = refl
key_binder true true true true true false f r = refl
key_binder true true true true true true f r = refl

limit_0 : (z0 z1 z2 z3 b : Bool) (f g r : Judged) → (z0 ≡ true → z1 ≡ true → z2 ≡ true → z3 ≡ true → f ≡ g) → cond (cond z0 (cond z1 (cond z2 (cond z3 b false) false) false) false) (cond true f r) r ≡ cond (true and (cond z0 (cond z1 (cond z2 (cond z3 true false) false) false) false)) (cond ((((((cond b true false) and true) and true) and true) and true)) g r) r
unfolding ◌and◌
limit_0 false z1 z2 z3 b f g r h = refl
limit_0 true false z2 z3 b f g r h = refl
limit_0 true true false z3 b f g r h = refl
limit_0 true true true false b f g r h = refl
limit_0 true true true true false f g r h = refl
limit_0 true true true true true f g r h = h refl refl refl refl

limit_1 : (k0 z1 z2 z3 b : Bool) (f g r : Judged) → (z1 ≡ true → z2 ≡ true → z3 ≡ true → f ≡ g) → cond (cond k0 (cond z1 (cond z2 (cond z3 b false) false) false) false) (cond true f r) r ≡ cond (true and (cond z1 (cond z2 (cond z3 true false) false) false)) (cond ((((((cond k0 (cond b true false) false) and true) and true) and true) and true)) g r) r
unfolding ◌and◌
limit_1 false false z2 z3 b f g r h = refl
limit_1 false true false z3 b f g r h = refl
limit_1 false true true false b f g r h = refl
limit_1 false true true true b f g r h = refl
limit_1 true false z2 z3 b f g r h = refl
limit_1 true true false z3 b f g r h = refl
limit_1 true true true false b f g r h = refl
limit_1 true true true true false f g r h = refl
limit_1 true true true true true f g r h = h refl refl refl

limit_2 : (k0 k1 z2 z3 b : Bool) (f g r : Judged) → (z2 ≡ true → z3 ≡ true → f ≡ g) → cond (cond k0 (cond k1 (cond z2 (cond z3 b false) false) false) false) (cond true f r) r ≡ cond (true and (cond z2 (cond z3 true false) false)) (cond ((((((cond k0 (cond k1 (cond b true false) false) false) and true) and true) and true) and true)) g r) r
unfolding ◌and◌
limit_2 false k1 false z3 b f g r h = refl
limit_2 false k1 true false b f g r h = refl
limit_2 false k1 true true b f g r h = refl
limit_2 true false false z3 b f g r h = refl
limit_2 true false true false b f g r h = refl
limit_2 true false true true b f g r h = refl
limit_2 true true false z3 b f g r h = refl
limit_2 true true true false b f g r h = refl
limit_2 true true true true false f g r h = refl
limit_2 true true true true true f g r h = h refl refl

limit_3 : (k0 k1 k2 z3 b : Bool) (f g r : Judged) → (z3 ≡ true → f ≡ g) → cond (cond k0 (cond k1 (cond k2 (cond z3 b false) false) false) false) (cond true f r) r ≡ cond (true and (cond z3 true false)) (cond ((((((cond k0 (cond k1 (cond k2 (cond b true false) false) false) false) and true) and true) and true) and true)) g r) r
unfolding ◌and◌
limit_3 false k1 k2 false b f g r h = refl
limit_3 false k1 k2 true b f g r h = refl
limit_3 true false k2 false b f g r h = refl
limit_3 true false k2 true b f g r h = refl
limit_3 true true false false b f g r h = refl
limit_3 true true false true b f g r h = refl
limit_3 true true true false b f g r h = refl
limit_3 true true true true false f g r h = refl
limit_3 true true true true true f g r h = h refl

limit_4 : (k0 k1 k2 k3 b : Bool) (f g r : Judged) → (f ≡ g) → cond (cond k0 (cond k1 (cond k2 (cond k3 b false) false) false) false) (cond true f r) r ≡ cond (true and true) (cond ((((((cond k0 (cond k1 (cond k2 (cond k3 (cond b true false) false) false) false) false) and true) and true) and true) and true)) g r) r
unfolding ◌and◌
limit_4 false k1 k2 k3 b f g r h = refl
limit_4 true false k2 k3 b f g r h = refl
limit_4 true true false k3 b f g r h = refl
limit_4 true true true false b f g r h = refl
limit_4 true true true true false f g r h = refl
limit_4 true true true true true f g r h = h

-- the condition on what is written, where that goes by a test
ok_if : (b : Bool) (k : Cmd ℕ) (w : Written) (J : Job) → judged_w (cond b (w_cmd k) w) J ≡ cond b (cond (cmd_ok J k) (Ok (Formed (words_of k))) (Err 6)) (judged_w w J)
unfolding judged_w ok_w entry_w
ok_if true k w J = refl
ok_if false k w J = refl

module _ (s : List ℕ) (J : Job) where
  pub law_x_number : form_entry (byte_of x_number) s J.names (shape_of J) ≡ judged_w (written x_number (fields_from (operands x_number) s 1)) J
  unfolding digit_of offsets_of kinds_of form_entry places_ok slots_ok slot_ok form_of slot_in lead_of lead_ok byte_of written operands fields_from judged_w ok_w entry_w cmd_ok children plain inner types_of uses_var binds_var binds_name all_of words_of head_word slots filled shape_of
  law_x_number = no_operand _ _

  pub law_x_top : form_entry (byte_of x_top) s J.names (shape_of J) ≡ judged_w (written x_top (fields_from (operands x_top) s 1)) J
  unfolding digit_of offsets_of kinds_of form_entry places_ok slots_ok slot_ok form_of slot_in lead_of lead_ok byte_of written operands fields_from judged_w ok_w entry_w cmd_ok children plain inner types_of uses_var binds_var binds_name all_of words_of head_word slots filled shape_of
  law_x_top = no_operand _ _

  pub law_x_variable : form_entry (byte_of x_variable) s J.names (shape_of J) ≡ judged_w (written x_variable (fields_from (operands x_variable) s 1)) J
  unfolding digit_of offsets_of kinds_of form_entry places_ok slots_ok slot_ok form_of slot_in lead_of lead_ok byte_of written operands fields_from judged_w ok_w entry_w cmd_ok children plain inner types_of uses_var binds_var binds_name all_of words_of head_word slots filled shape_of
  law_x_variable = one_variable (ltb (field_at 1 s 1) 64) _ _

  pub law_x_pair : form_entry (byte_of x_pair) s J.names (shape_of J) ≡ judged_w (written x_pair (fields_from (operands x_pair) s 1)) J
  unfolding digit_of offsets_of kinds_of form_entry places_ok slots_ok slot_ok form_of slot_in lead_of lead_ok byte_of written operands fields_from judged_w ok_w entry_w cmd_ok children plain inner types_of uses_var binds_var binds_name all_of words_of head_word slots filled shape_of
  law_x_pair = two_children (ltb (field_at 2 s 1) (length J.cmds)) (ltb (field_at 2 s 3) (length J.cmds)) _ _

  pub law_x_apply : form_entry (byte_of x_apply) s J.names (shape_of J) ≡ judged_w (written x_apply (fields_from (operands x_apply) s 1)) J
  unfolding digit_of offsets_of kinds_of form_entry places_ok slots_ok slot_ok form_of slot_in lead_of lead_ok byte_of written operands fields_from judged_w ok_w entry_w cmd_ok children plain inner types_of uses_var binds_var binds_name all_of words_of head_word slots filled shape_of
  law_x_apply = two_children (ltb (field_at 2 s 1) (length J.cmds)) (ltb (field_at 2 s 3) (length J.cmds)) _ _

  pub law_x_assign : form_entry (byte_of x_assign) s J.names (shape_of J) ≡ judged_w (written x_assign (fields_from (operands x_assign) s 1)) J
  unfolding digit_of offsets_of kinds_of form_entry places_ok slots_ok slot_ok form_of slot_in lead_of lead_ok byte_of written operands fields_from judged_w ok_w entry_w cmd_ok children plain inner types_of uses_var binds_var binds_name all_of words_of head_word slots filled shape_of
  law_x_assign = two_children (ltb (field_at 2 s 1) (length J.cmds)) (ltb (field_at 2 s 3) (length J.cmds)) _ _

  pub law_x_grant : form_entry (byte_of x_grant) s J.names (shape_of J) ≡ judged_w (written x_grant (fields_from (operands x_grant) s 1)) J
  unfolding digit_of offsets_of kinds_of form_entry places_ok slots_ok slot_ok form_of slot_in lead_of lead_ok byte_of written operands fields_from judged_w ok_w entry_w cmd_ok children plain inner types_of uses_var binds_var binds_name all_of words_of head_word slots filled shape_of
  law_x_grant = two_children (ltb (field_at 2 s 1) (length J.cmds)) (ltb (field_at 2 s 3) (length J.cmds)) _ _

  pub law_x_associate : form_entry (byte_of x_associate) s J.names (shape_of J) ≡ judged_w (written x_associate (fields_from (operands x_associate) s 1)) J
  unfolding digit_of offsets_of kinds_of form_entry places_ok slots_ok slot_ok form_of slot_in lead_of lead_ok byte_of written operands fields_from judged_w ok_w entry_w cmd_ok children plain inner types_of uses_var binds_var binds_name all_of words_of head_word slots filled shape_of
  law_x_associate = two_children (ltb (field_at 2 s 1) (length J.cmds)) (ltb (field_at 2 s 3) (length J.cmds)) _ _

  pub law_x_divide : form_entry (byte_of x_divide) s J.names (shape_of J) ≡ judged_w (written x_divide (fields_from (operands x_divide) s 1)) J
  unfolding digit_of offsets_of kinds_of form_entry places_ok slots_ok slot_ok form_of slot_in lead_of lead_ok byte_of written operands fields_from judged_w ok_w entry_w cmd_ok children plain inner types_of uses_var binds_var binds_name all_of words_of head_word slots filled shape_of
  law_x_divide = two_children (ltb (field_at 2 s 1) (length J.cmds)) (ltb (field_at 2 s 3) (length J.cmds)) _ _

  pub law_x_read : form_entry (byte_of x_read) s J.names (shape_of J) ≡ judged_w (written x_read (fields_from (operands x_read) s 1)) J
  unfolding digit_of offsets_of kinds_of form_entry places_ok slots_ok slot_ok form_of slot_in lead_of lead_ok byte_of written operands fields_from judged_w ok_w entry_w cmd_ok children plain inner types_of uses_var binds_var binds_name all_of words_of head_word slots filled shape_of
  law_x_read = one_child (ltb (field_at 2 s 1) (length J.cmds)) _ _

  pub law_x_spawn : form_entry (byte_of x_spawn) s J.names (shape_of J) ≡ judged_w (written x_spawn (fields_from (operands x_spawn) s 1)) J
  unfolding digit_of offsets_of kinds_of form_entry places_ok slots_ok slot_ok form_of slot_in lead_of lead_ok byte_of written operands fields_from judged_w ok_w entry_w cmd_ok children plain inner types_of uses_var binds_var binds_name all_of words_of head_word slots filled shape_of
  law_x_spawn = one_child (ltb (field_at 2 s 1) (length J.cmds)) _ _

  pub law_x_function : form_entry (byte_of x_function) s J.names (shape_of J) ≡ judged_w (written x_function (fields_from (operands x_function) s 1)) J
  unfolding digit_of offsets_of kinds_of form_entry places_ok slots_ok slot_ok form_of slot_in lead_of lead_ok byte_of written operands fields_from judged_w ok_w entry_w cmd_ok children plain inner types_of uses_var binds_var binds_name all_of words_of head_word slots filled shape_of binds_ok
  law_x_function = binder (ltb (field_at 2 s 4) (length J.cmds)) (ltb (field_at 2 s 2) (length J.types)) (leb (length J.values) (field_at 1 s 1)) (ltb (field_at 1 s 1) 64) _ _

  pub law_x_cell : form_entry (byte_of x_cell) s J.names (shape_of J) ≡ judged_w (written x_cell (fields_from (operands x_cell) s 1)) J
  unfolding digit_of offsets_of kinds_of form_entry places_ok slots_ok slot_ok form_of slot_in lead_of lead_ok byte_of written operands fields_from judged_w ok_w entry_w cmd_ok children plain inner types_of uses_var binds_var binds_name all_of words_of head_word slots filled shape_of
  law_x_cell = child_type (ltb (field_at 2 s 3) (length J.cmds)) (ltb (field_at 2 s 1) (length J.types)) _ _

  pub law_x_test : form_entry (byte_of x_test) s J.names (shape_of J) ≡ judged_w (written x_test (fields_from (operands x_test) s 1)) J
  unfolding digit_of offsets_of kinds_of form_entry places_ok slots_ok slot_ok form_of slot_in lead_of lead_ok byte_of written operands fields_from judged_w ok_w entry_w cmd_ok children plain inner types_of uses_var binds_var binds_name all_of words_of head_word slots filled shape_of
  law_x_test = three_type (ltb (field_at 2 s 1) (length J.cmds)) (ltb (field_at 2 s 3) (length J.cmds)) (ltb (field_at 2 s 5) (length J.cmds)) (ltb (field_at 2 s 7) (length J.types)) _ _

  pub law_x_access : form_entry (byte_of x_access) s J.names (shape_of J) ≡ judged_w (written x_access (fields_from (operands x_access) s 1)) J
  unfolding digit_of offsets_of kinds_of form_entry places_ok slots_ok slot_ok form_of slot_in lead_of lead_ok byte_of written operands fields_from judged_w ok_w entry_w cmd_ok children plain inner types_of uses_var binds_var binds_name all_of words_of head_word slots filled shape_of
  law_x_access = three_type (ltb (field_at 2 s 1) (length J.cmds)) (ltb (field_at 2 s 3) (length J.cmds)) (ltb (field_at 2 s 5) (length J.cmds)) (ltb (field_at 2 s 7) (length J.types)) _ _

  pub law_x_newkey : form_entry (byte_of x_newkey) s J.names (shape_of J) ≡ judged_w (written x_newkey (fields_from (operands x_newkey) s 1)) J
  unfolding digit_of offsets_of kinds_of form_entry places_ok slots_ok slot_ok form_of slot_in lead_of lead_ok byte_of written operands fields_from judged_w ok_w entry_w cmd_ok children plain inner types_of uses_var binds_var binds_name all_of words_of head_word slots filled shape_of binds_ok new_key_ok
  law_x_newkey = key_binder (ltb (field_at 2 s 3) (length J.cmds)) (ltb (field_at 2 s 5) (length J.cmds)) (ltb (field_at 2 s 7) (length J.types)) (leb (length J.values) (field_at 1 s 1)) (ltb (field_at 1 s 1) 64) (local_name J.names (field_at 1 s 2)) _ _

  none_two : (k : Bool) (r : Judged) → cond (cond k true false) r r ≡ r
  none_two true r = refl
  none_two false r = refl

  none_three : (k l : Bool) (r : Judged) → cond (cond k (cond l true false) false) r r ≡ r
  none_three true true r = refl
  none_three true false r = refl
  none_three false l r = refl

  pub law_x_part : form_entry (byte_of x_part) s J.names (shape_of J) ≡ judged_w (written x_part (fields_from (operands x_part) s 1)) J
  unfolding digit_of offsets_of kinds_of form_entry places_ok slots_ok slot_ok form_of slot_in lead_of lead_ok byte_of operands fields_from judged_w ok_w entry_w cmd_ok children plain inner types_of uses_var binds_var binds_name all_of words_of head_word slots filled shape_of part_of either_of
  law_x_part = at (eqb i 1) refl (eqb i 2) refl ∙ sym (ap (λ w. judged_w w J) (written_part (fields_from (operands x_part) s 1)))
    where
      i : ℕ
      i = field_at 1 s 3

      a : ℕ
      a = field_at 2 s 1

      k : Bool
      k = ltb a (length J.cmds)

      with : ℕ → Judged
      with j = Ok (Formed (record { head = 0x34 + 256 * j; a = a; b = 0; c = 0; d = 0; e = 0 }))

      at : (e : Bool) → eqb i 1 ≡ e → (f : Bool) → eqb i 2 ≡ f
          → cond (cond k true false) (cond (cond e true f) (with i) (Err 6)) (Err 6) ≡ judged_w (cond e (w_cmd (c_part a true)) (cond f (w_cmd (c_part a false)) unwritten)) J
      at true p f q = ap (λ (j : ℕ). cond (cond k true false) (with j) (Err 6)) (eqb-true i 1 p) ∙ one_child k (with 1) (Err 6)
      at false p true q = ap (λ (j : ℕ). cond (cond k true false) (with j) (Err 6)) (eqb-true i 2 q) ∙ one_child k (with 2) (Err 6)
      at false p false q = none_two k (Err 6)

  pub law_x_sum : form_entry (byte_of x_sum) s J.names (shape_of J) ≡ judged_w (written x_sum (fields_from (operands x_sum) s 1)) J
  unfolding digit_of offsets_of kinds_of form_entry places_ok slots_ok slot_ok form_of slot_in lead_of lead_ok byte_of operands fields_from judged_w ok_w entry_w cmd_ok children plain inner types_of uses_var binds_var binds_name all_of words_of head_word slots filled shape_of sum_of either_of
  law_x_sum = at (eqb i 0) refl (eqb i 1) refl ∙ sym (ap (λ w. judged_w w J) (written_sum (fields_from (operands x_sum) s 1)))
    where
      i : ℕ
      i = field_at 1 s 1

      a : ℕ
      a = field_at 2 s 2

      b : ℕ
      b = field_at 2 s 4

      k : Bool
      k = ltb a (length J.cmds)

      l : Bool
      l = ltb b (length J.cmds)

      with : ℕ → Judged
      with j = Ok (Formed (record { head = 0x3A + 256 * j; a = a; b = b; c = 0; d = 0; e = 0 }))

      at : (e : Bool) → eqb i 0 ≡ e → (f : Bool) → eqb i 1 ≡ f
          → cond (cond k (cond l true false) false) (cond (cond e true f) (with i) (Err 6)) (Err 6) ≡ judged_w (cond e (w_cmd (c_sum true a b)) (cond f (w_cmd (c_sum false a b)) unwritten)) J
      at true p f q = ap (λ (j : ℕ). cond (cond k (cond l true false) false) (with j) (Err 6)) (eqb-true i 0 p) ∙ two_children k l (with 0) (Err 6)
      at false p true q = ap (λ (j : ℕ). cond (cond k (cond l true false) false) (with j) (Err 6)) (eqb-true i 1 q) ∙ two_children k l (with 1) (Err 6)
      at false p false q = none_three k l (Err 6)

  form_same : (h e : ℕ) {a b c d : ℕ} {a' b' c' d' : ℕ} → a ≡ a' → b ≡ b' → c ≡ c' → d ≡ d'
      → ◌≡◌ {A = Judged} (Ok (Formed (record { head = h; a = a; b = b; c = c; d = d; e = e }))) (Ok (Formed (record { head = h; a = a'; b = b'; c = c'; d = d'; e = e })))
  form_same h e p q r t = rw (p, q, r, t)

  pub law_x_limit : form_entry (byte_of x_limit) s J.names (shape_of J) ≡ judged_w (written x_limit (fields_from (operands x_limit) s 1)) J
  unfolding digit_of offsets_of kinds_of form_entry places_ok slots_ok slot_ok form_of slot_in lead_of lead_ok byte_of operands fields_from judged_w ok_w entry_w cmd_ok children plain inner types_of uses_var binds_var binds_name all_of words_of head_word slots filled shape_of limit_of limit_ok key_ok ◌and◌
  law_x_limit = at (field_at 1 s 1) (leb (field_at 1 s 1) 4) refl ∙ sym (ap (λ w. judged_w w J) (written_limit (fields_from (operands x_limit) s 1)))
    where
      k : ℕ → ℕ
      k o = field_at 2 s o

      u : ℕ → Bool
      u o = ltb (field_at 2 s o) (length J.cmds)

      z : ℕ → Bool
      z o = eqb (field_at 2 s o) 0xFFFF

      f : ℕ → Judged
      f c = Ok (Formed (record { head = 0x3C + 256 * c; a = k 2; b = k 4; c = k 6; d = k 8; e = k 10 }))

      keys : List ℕ
      keys = k 2 ∷ k 4 ∷ k 6 ∷ k 8 ∷ []

      y : (o : ℕ) → z o ≡ true → field_at 2 s o ≡ 0xFFFF
      y o h = eqb-true (field_at 2 s o) 0xFFFF h

      body : ℕ → Bool
      body c = cond (key_ok 0 c (k 2) (length J.cmds)) (cond (key_ok 1 c (k 4) (length J.cmds)) (cond (key_ok 2 c (k 6) (length J.cmds)) (cond (key_ok 3 c (k 8) (length J.cmds)) (u 10) false) false) false) false

      g : ℕ → Judged
      g c = Ok (Formed (words_of (c_lim (take c keys) (k 10))))

      ok : (c : ℕ) → cond (true and all_of (λ e. eqb e 0xFFFF) (drop c keys)) (cond (cmd_ok J (c_lim (take c keys) (k 10))) (g c) (Err 6)) (Err 6)
          ≡ judged_w (cond (true and all_of (λ e. eqb e 0xFFFF) (drop c keys)) (w_cmd (c_lim (take c keys) (k 10))) unwritten) J
      ok c = sym (ok_if (true and all_of (λ e. eqb e 0xFFFF) (drop c keys)) (c_lim (take c keys) (k 10)) unwritten J)

      at : (c : ℕ) (l : Bool) → leb c 4 ≡ l
          → cond (cond l (body c) false) (f c) (Err 6) ≡ judged_w (cond (l and all_of (λ e. eqb e 0xFFFF) (drop c keys)) (w_cmd (c_lim (take c keys) (k 10))) unwritten) J
      at c false h = refl
      at zero true h = limit_0 (z 2) (z 4) (z 6) (z 8) (u 10) (f 0) (g 0) (Err 6) (λ p q r t. form_same (0x3C + 256 * 0) (k 10) (y 2 p) (y 4 q) (y 6 r) (y 8 t)) ∙ ok 0
      at (suc zero) true h = limit_1 (u 2) (z 4) (z 6) (z 8) (u 10) (f 1) (g 1) (Err 6) (λ q r t. form_same (0x3C + 256 * 1) (k 10) refl (y 4 q) (y 6 r) (y 8 t)) ∙ ok 1
      at (suc (suc zero)) true h = limit_2 (u 2) (u 4) (z 6) (z 8) (u 10) (f 2) (g 2) (Err 6) (λ r t. form_same (0x3C + 256 * 2) (k 10) refl refl (y 6 r) (y 8 t)) ∙ ok 2
      at (suc (suc (suc zero))) true h = limit_3 (u 2) (u 4) (u 6) (z 8) (u 10) (f 3) (g 3) (Err 6) (λ t. form_same (0x3C + 256 * 3) (k 10) refl refl refl (y 8 t)) ∙ ok 3
      at (suc (suc (suc (suc zero)))) true h = limit_4 (u 2) (u 4) (u 6) (u 8) (u 10) (f 4) (g 4) (Err 6) refl ∙ ok 4
      at (suc (suc (suc (suc (suc c))))) true h = absurd (omega (arith, borrow.Author.Tests.leb-true (suc (suc (suc (suc (suc c))))) 4 h))
