-- Declared types: their depths by the depths of their parts, their conditions, and what their words give back.
use mathlib.Core.Path.{◌≡◌, refl, sym, ap, ap₂, ◌∙◌}
use Prim.Native.Nat.{ℕ, suc, max, ◌+◌, ◌≤◌, ◌<◌}
use native.Mathlib.Omega.{arith}
use native.Mathlib.Numerals.{add-one}
use mathlib.Core.Bool.{Bool, true, false, cond, not}
use mathlib.Core.List.{List}
use mathlib.Core.Option.{some}
use lib.ListN.{length, get_or}
use lib.Dec.{eqb, ltb, leb}
use borrow.Author.Tests.{le-ltb, ltb-true}
use Rattle.std.specs.Prelude.{Ok, Err}
use Rattle.order.specs.Bools.{◌and◌}
use Rattle.order.specs.Effects.{of_word}
use Rattle.syntax.specs.Types.{TypeEntry, e_num, e_pair, e_cell, e_fn, e_lim, e_grant, entry_tree, tree, depth}
use Rattle.syntax.proofs.TypeLaws.{tree_new}
use Rattle.syntax.specs.Commands.{o_number, o_pair, o_cell, o_function, o_limit, o_grant, operands}
use Rattle.syntax.specs.Job.{Job}
use Rattle.syntax.specs.Words.{type_word, set_word}
use Rattle.syntax.specs.Reading.{declared, set_ok, parts_ok, type_ok, w_type, written}
use Rattle.syntax.specs.ReadLaws.{TypesOk}
use Rattle.syntax.proofs.ReadFormed.{parts_earlier, types_earlier}
use Rattle.names.specs.Ancestors.{declared_of, set_ok_by}
use Rattle.entry.specs.Bytes.{field_at}
use Rattle.entry.specs.Entries.{Judged, part_depth, two_depths, typed_of, key_type_of, function_of, type_by, type_entry}
use Rattle.entry.specs.declared.Entry.TheVariants.{Typed}
use Rattle.entry.specs.OpBytes.{byte_of}
use Rattle.entry.proofs.Ops.{fields_from}
use Rattle.entry.proofs.Entered.{ok_w, new_depth, entry_w, judged_w}

-- Depths

pub typed_is : (w s d : ℕ) → typed_of w s d ≡ cond (leb (suc d) 16) (Ok (Typed w s (suc d))) (Err 6)
unfolding typed_of
typed_is w s d = ap (λ (k : ℕ). cond (ltb d 16) (Ok (Typed w s k)) (Err 6)) (add-one d)

pub typed_deep : (w s d : ℕ) → 16 ≤ d → typed_of w s d ≡ Err 6
unfolding typed_of
typed_deep w s d h = ap (λ (b : Bool). cond b (Ok (Typed w s (d + 1))) (Err 6)) (le-ltb d 16 h)

module _ (J : Job) (ok : TypesOk J.names J.types) (depths : List ℕ) (deep : (i : ℕ) → i < length J.types → get_or depths i 0 ≡ depth (tree J.types i)) where
  -- an entry whose deepest part has depth d
  judged_type : (e : TypeEntry) (p : Bool) → parts_ok J.names (length J.types) e ≡ p → (d : ℕ) → (p ≡ true → depth (entry_tree (some e) (tree J.types)) ≡ suc d)
      → cond p (typed_of (type_word e) (set_word e) d) (Err 6) ≡ judged_w (w_type e) J
  unfolding judged_w ok_w entry_w new_depth type_ok ◌and◌
  judged_type e false h d f = sym (ap (λ (b : Bool). cond (b and leb (new_depth J e) 16) (Ok (Typed (type_word e) (set_word e) (new_depth J e))) (Err 6)) h)
  judged_type e true h d f =
      let z : new_depth J e ≡ suc d = ap depth (tree_new (types_earlier J.names ok) e (parts_earlier J.names (length J.types) e h)) ∙ f refl in
      typed_is (type_word e) (set_word e) d
      ∙ sym (ap (λ (b : Bool). cond (b and leb (new_depth J e) 16) (Ok (Typed (type_word e) (set_word e) (new_depth J e))) (Err 6)) h
      ∙ ap (λ (k : ℕ). cond (leb k 16) (Ok (Typed (type_word e) (set_word e) k)) (Err 6)) z)

  -- one part
  one_part : (w s a : ℕ) (y : Bool) → ltb a (length J.types) ≡ y → typed_of w s (part_depth depths (length J.types) a) ≡ cond y (typed_of w s (depth (tree J.types a))) (Err 6)
  unfolding part_depth
  one_part w s a true h =
      ap (λ (b : Bool). typed_of w s (cond b (get_or depths a 0) 255)) h ∙ ap (λ (k : ℕ). typed_of w s k) (deep a (ltb-true a (length J.types) h))
  one_part w s a false h = ap (λ (b : Bool). typed_of w s (cond b (get_or depths a 0) 255)) h ∙ typed_deep w s 255 (omega arith)

  two_parts : (w s a b : ℕ) (y z : Bool) → ltb a (length J.types) ≡ y → ltb b (length J.types) ≡ z
      → typed_of w s (two_depths depths (length J.types) a b) ≡ cond y (cond z (typed_of w s (max (depth (tree J.types a)) (depth (tree J.types b)))) (Err 6)) (Err 6)
  unfolding part_depth two_depths
  two_parts w s a b true true g h =
      ap (λ (k : ℕ). typed_of w s k)
      (ap₂ max (ap (λ (c : Bool). cond c (get_or depths a 0) 255) g ∙ deep a (ltb-true a (length J.types) g)) (ap (λ (c : Bool). cond c (get_or depths b 0) 255) h ∙ deep b (ltb-true b (length J.types) h)))
  two_parts w s a b true false g h =
      let q : part_depth depths (length J.types) b ≡ 255 = ap (λ (c : Bool). cond c (get_or depths b 0) 255) h in
      typed_deep w s _ (omega arith)
  two_parts w s a b false z g h =
      let q : part_depth depths (length J.types) a ≡ 255 = ap (λ (c : Bool). cond c (get_or depths a 0) 255) g in
      typed_deep w s _ (omega arith)

-- Tests joined
join_two : (p q : Bool) (x r : Judged) → cond p (cond q x r) r ≡ cond (p and q) x r
unfolding ◌and◌
join_two true q x r = refl
join_two false q x r = refl

join_three : (p q t : Bool) (x r : Judged) → cond p (cond q (cond t x r) r) r ≡ cond (p and q and t) x r
unfolding ◌and◌
join_three true true t x r = refl
join_three true false t x r = refl
join_three false q t x r = refl

join_set : (p o q t : Bool) (x r : Judged) → cond p (cond o (cond q (cond t x r) r) r) r ≡ cond (p and q and t and o) x r
unfolding ◌and◌
join_set false o q t x r = refl
join_set true true true true x r = refl
join_set true true true false x r = refl
join_set true true false t x r = refl
join_set true false true true x r = refl
join_set true false true false x r = refl
join_set true false false t x r = refl

join_key : (p z q : Bool) (x r : Judged) → cond p (cond z r (cond q x r)) r ≡ cond (p and q and not z) x r
unfolding ◌and◌
join_key false z q x r = refl
join_key true true true x r = refl
join_key true true false x r = refl
join_key true false true x r = refl
join_key true false false x r = refl

module _ (s : List ℕ) (J : Job) (ok : TypesOk J.names J.types) (depths : List ℕ) (deep : (i : ℕ) → i < length J.types → get_or depths i 0 ≡ depth (tree J.types i))
    (anc : List ℕ) (sets : (x : ℕ) → set_ok_by anc (length J.names) x ≡ set_ok J.names (of_word x)) where
  pub law_o_number : type_entry (byte_of o_number) s anc (length J.names) depths (length J.types) ≡ judged_w (written o_number (fields_from (operands o_number) s 1)) J
  unfolding type_entry type_by byte_of written operands fields_from declared_of declared parts_ok type_word set_word entry_tree depth
  law_o_number = judged_type J ok depths deep (e_num (field_at 1 s 1)) (declared J.names (field_at 1 s 1)) refl 0 (λ h. refl)

  pub law_o_pair : type_entry (byte_of o_pair) s anc (length J.names) depths (length J.types) ≡ judged_w (written o_pair (fields_from (operands o_pair) s 1)) J
  unfolding type_entry type_by byte_of written operands fields_from declared_of declared parts_ok type_word set_word entry_tree depth
  law_o_pair =
      let q = field_at 1 s 1 in
      let a = field_at 2 s 2 in
      let b = field_at 2 s 4 in
      let n = length J.types in
      ap (λ (x : Judged). cond (declared J.names q) x (Err 6)) (two_parts J ok depths deep (type_word (e_pair q a b)) 0 a b (ltb a n) (ltb b n) refl refl)
      ∙ join_three (declared J.names q) (ltb a n) (ltb b n) _ (Err 6)
      ∙ judged_type J ok depths deep (e_pair q a b) (declared J.names q and ltb a n and ltb b n) refl (max (depth (tree J.types a)) (depth (tree J.types b))) (λ h. refl)

  pub law_o_cell : type_entry (byte_of o_cell) s anc (length J.names) depths (length J.types) ≡ judged_w (written o_cell (fields_from (operands o_cell) s 1)) J
  unfolding type_entry type_by byte_of written operands fields_from declared_of declared parts_ok type_word set_word entry_tree depth
  law_o_cell =
      let q = field_at 1 s 1 in
      let a = field_at 2 s 2 in
      let n = length J.types in
      ap (λ (x : Judged). cond (declared J.names q) x (Err 6)) (one_part J ok depths deep (type_word (e_cell q a)) 0 a (ltb a n) refl)
      ∙ join_two (declared J.names q) (ltb a n) _ (Err 6)
      ∙ judged_type J ok depths deep (e_cell q a) (declared J.names q and ltb a n) refl (depth (tree J.types a)) (λ h. refl)

  pub law_o_function : type_entry (byte_of o_function) s anc (length J.names) depths (length J.types) ≡ judged_w (written o_function (fields_from (operands o_function) s 1)) J
  unfolding type_entry type_by function_of byte_of written operands fields_from declared_of declared parts_ok type_word set_word entry_tree depth
  law_o_function =
      let q = field_at 1 s 1 in
      let a = field_at 2 s 2 in
      let b = field_at 2 s 4 in
      let x = field_at 8 s 6 in
      let n = length J.types in
      ap₂ (λ (o : Bool) (y : Judged). cond (declared J.names q) (cond o y (Err 6)) (Err 6)) (sets x)
      (two_parts J ok depths deep (type_word (e_fn q a b (of_word x))) x a b (ltb a n) (ltb b n) refl refl)
      ∙ join_set (declared J.names q) (set_ok J.names (of_word x)) (ltb a n) (ltb b n) _ (Err 6)
      ∙ judged_type J ok depths deep (e_fn q a b (of_word x)) (declared J.names q and ltb a n and ltb b n and set_ok J.names (of_word x)) refl (max (depth (tree J.types a)) (depth (tree J.types b))) (λ h. refl)

  pub law_o_limit : type_entry (byte_of o_limit) s anc (length J.names) depths (length J.types) ≡ judged_w (written o_limit (fields_from (operands o_limit) s 1)) J
  unfolding type_entry type_by key_type_of byte_of written operands fields_from declared_of declared parts_ok type_word set_word entry_tree depth
  law_o_limit =
      let q = field_at 1 s 1 in
      let r = field_at 1 s 2 in
      join_key (declared J.names q) (eqb r 0) (declared J.names r) _ (Err 6)
      ∙ judged_type J ok depths deep (e_lim q r) (declared J.names q and declared J.names r and not (eqb r 0)) refl 0 (λ h. refl)

  pub law_o_grant : type_entry (byte_of o_grant) s anc (length J.names) depths (length J.types) ≡ judged_w (written o_grant (fields_from (operands o_grant) s 1)) J
  unfolding type_entry type_by key_type_of byte_of written operands fields_from declared_of declared parts_ok type_word set_word entry_tree depth
  law_o_grant =
      let q = field_at 1 s 1 in
      let r = field_at 1 s 2 in
      join_key (declared J.names q) (eqb r 0) (declared J.names r) _ (Err 6)
      ∙ judged_type J ok depths deep (e_grant q r) (declared J.names q and declared J.names r and not (eqb r 0)) refl 0 (λ h. refl)
