-- The result of each command from what is known of its operands: the clauses of `result_at`, with the operands' entries and effects in place of their numbers.
use Rattle.std.specs.Prelude.{ℕ, zero, suc, ◌+◌, ◌/◌, ◌%◌, Bool, false, cond, List, [], ◌∷◌, get_or, take, eqb}
use Rattle.order.specs.Effects.{of_word, pure}
use Rattle.syntax.specs.Types.{e_num, e_pair, e_cell, e_fn, e_lim}
use Rattle.syntax.specs.Commands.{Cmd, c_num, c_pair, c_app, c_asg, c_sum, c_test, c_grant, c_newkey, c_assoc, c_access, c_divide}
use Rattle.syntax.specs.Words.{entry_in}
use Rattle.syntax.specs.Reading.{most_depth}
use Rattle.typing.specs.Layout.{rekeyed}
use Rattle.typing.specs.Entries.{sub_in}
use Rattle.typing.specs.Numbered.{Result, makes, points, need_num, need_pair, need_cell, need_fn, need_lim, need_grant, need, key_in, keys_from}
use Rattle.names.specs.Ancestors.{below_by, eff_below_by, effects_by, touch_by, join_by, reduce_by, drop_by, raise_by}
use Rattle.rules.specs.Ops.{ops_by}
use Rattle.rules.specs.declared.Operand.{Operand}

-- the operand at place j of the slots
abbrev pub operand_at : List ℕ → List ℕ → List ℕ → ℕ → Operand
operand_at slots entries effects j = record { ty = get_or entries (get_or slots j 0) 0; effect = get_or effects (get_or slots j 0) 0 }

abbrev pub fits_by : List ℕ → List ℕ → List ℕ → ℕ → ℕ → Bool
fits_by anc types sets a t = sub_in (below_by anc) (effects_by anc) most_depth (entry_in types sets) a t

abbrev pub branches_fit : List ℕ → List ℕ → List ℕ → ℕ → ℕ → ℕ → Bool
branches_fit anc types sets a b t = cond (fits_by anc types sets a t) (fits_by anc types sets b t) false

abbrev pub number_by : Result
number_by = makes [] (e_num 0) pure

abbrev pub top_by : Result
top_by = makes [] (e_lim 0 1) pure

abbrev pub variable_by : List ℕ → ℕ → Result
variable_by vars v = points (get_or vars v 0) pure

abbrev pub pair_by : List ℕ → Operand → Operand → Result
pair_by anc x y = makes [] (e_pair 0 x.ty y.ty) (of_word (reduce_by anc (join_by x.effect y.effect)))

abbrev pub part_by : List ℕ → List ℕ → List ℕ → Operand → ℕ → Result
part_by anc types sets x i = need_pair (entry_in types sets x.ty) (λ q a b. points (cond (eqb i 1) a b) (of_word (reduce_by anc (touch_by q x.effect))))

abbrev pub function_by : ℕ → Operand → Result
function_by t x = makes [] (e_fn 0 t x.ty (of_word x.effect)) pure

abbrev pub apply_by : List ℕ → List ℕ → List ℕ → Operand → Operand → Result
apply_by anc types sets x y =
    need_fn (entry_in types sets x.ty)
    (λ q t u l. need 12 (fits_by anc types sets y.ty t) (points u (of_word (reduce_by anc (touch_by q (join_by l.set (join_by x.effect y.effect)))))))

abbrev pub cell_by : List ℕ → List ℕ → List ℕ → ℕ → Operand → Result
cell_by anc types sets t x = need 12 (fits_by anc types sets x.ty t) (makes [] (e_cell 0 t) (of_word x.effect))

abbrev pub assign_by : List ℕ → List ℕ → List ℕ → Operand → Operand → Result
assign_by anc types sets x y =
    need_cell (entry_in types sets x.ty)
    (λ q t. need 12 (fits_by anc types sets y.ty t) (points t (of_word (reduce_by anc (touch_by q (join_by x.effect y.effect))))))

abbrev pub read_by : List ℕ → List ℕ → List ℕ → Operand → Result
read_by anc types sets x = need_cell (entry_in types sets x.ty) (λ q t. points t (of_word (reduce_by anc (touch_by q x.effect))))

abbrev pub sum_by : List ℕ → List ℕ → List ℕ → Operand → Operand → Result
sum_by anc types sets x y =
    need_num (entry_in types sets x.ty)
    (λ p. need_num (entry_in types sets y.ty) (λ q. makes [] (e_num 0) (of_word (reduce_by anc (touch_by p (touch_by q (join_by x.effect y.effect)))))))

abbrev pub test_by : List ℕ → List ℕ → List ℕ → Operand → Operand → Operand → ℕ → Result
test_by anc types sets x y z t =
    need_num (entry_in types sets x.ty)
    (λ q. need 12 (fits_by anc types sets y.ty t) (need 12 (fits_by anc types sets z.ty t)
    (points t (of_word (reduce_by anc (touch_by q (join_by x.effect (join_by y.effect z.effect))))))))

-- the slots from place i on, n of them
unfoldable pub slots_from : List ℕ → ℕ → ℕ → List ℕ
slots_from slots i zero = []
slots_from slots i (suc n) = get_or slots i 0 ∷ slots_from slots (suc i) n

-- the keys from place j on, when their names so far are rs and the effect so far is s; the body stands at the fifth place from `at` on
abbrev pub keys_by : List ℕ → List ℕ → List ℕ → List ℕ → List ℕ → List ℕ → ℕ → List ℕ → ℕ → ℕ → Result
keys_by anc types sets slots entries effects at ks rs s =
    keys_from (ops_by anc []) (λ v. 0) (entry_in types sets) (λ a. get_or entries a 0) (λ a. of_word (get_or effects a 0)) ks (of_word rs) (of_word s)
    (λ ns t. need 13 (eff_below_by anc (operand_at slots entries effects (at + 4)).effect ns.set)
    (points (operand_at slots entries effects (at + 4)).ty (of_word (reduce_by anc (join_by t.set (operand_at slots entries effects (at + 4)).effect)))))

abbrev pub limit_by : List ℕ → List ℕ → List ℕ → List ℕ → List ℕ → List ℕ → ℕ → ℕ → Result
limit_by anc types sets slots entries effects at n =
    keys_by anc types sets slots entries effects at (take n (get_or slots at 0 ∷ get_or slots (at + 1) 0 ∷ get_or slots (at + 2) 0 ∷ get_or slots (at + 3) 0 ∷ [])) 0 0

abbrev pub grant_by : List ℕ → List ℕ → List ℕ → Operand → Operand → Result
grant_by anc types sets x y =
    need_grant (entry_in types sets x.ty) (λ q r. points y.ty (of_word (reduce_by anc (touch_by q (join_by x.effect (drop_by anc r y.effect))))))

abbrev pub new_key_by : List ℕ → List ℕ → List ℕ → List ℕ → ℕ → Operand → Operand → ℕ → Result
new_key_by anc types sets names r x y t =
    need_lim (entry_in types sets x.ty)
    (λ q u. need 11 (eqb u (get_or names r 0 % 256)) (need 12 (fits_by anc types sets y.ty t)
    (points t (of_word (reduce_by anc (touch_by q (join_by x.effect (raise_by r u y.effect))))))))

abbrev pub associate_by : List ℕ → List ℕ → List ℕ → Operand → Operand → Result
associate_by anc types sets x y =
    need_lim (entry_in types sets y.ty)
    (λ q r. makes [] (rekeyed r (entry_in types sets x.ty))
    (of_word (reduce_by anc (touch_by (key_in (entry_in types sets x.ty)) (touch_by q (join_by x.effect y.effect))))))

abbrev pub access_by : List ℕ → List ℕ → List ℕ → Operand → Operand → Operand → ℕ → Result
access_by anc types sets x y z t =
    need_lim (entry_in types sets x.ty)
    (λ q r. need 12 (fits_by anc types sets y.ty t) (need 12 (fits_by anc types sets z.ty t)
    (points t (of_word (reduce_by anc (touch_by q (join_by x.effect (join_by (drop_by anc r y.effect) z.effect))))))))

-- where n entries stand before
abbrev pub divide_by : List ℕ → List ℕ → List ℕ → Operand → Operand → ℕ → Result
divide_by anc types sets x y n =
    need_num (entry_in types sets x.ty)
    (λ p. need_num (entry_in types sets y.ty) (λ q. makes (e_num 0 ∷ []) (e_pair 0 n n) (of_word (reduce_by anc (touch_by p (touch_by q (join_by x.effect y.effect)))))))

abbrev pub spawn_by : List ℕ → Operand → Result
spawn_by anc x = need 16 (eff_below_by anc x.effect 0) number_by

-- the commands with two operands or more, by a head and the five places from `at` on; any other stands for a number
abbrev pub two_of : ℕ → ℕ → ℕ → ℕ → ℕ → ℕ → Cmd ℕ
two_of byte x a b c d =
    cond (eqb byte 0x33) (c_pair a b)
    (cond (eqb byte 0x36) (c_app a b)
    (cond (eqb byte 0x38) (c_asg a b)
    (cond (eqb byte 0x3A) (c_sum (eqb x 0) a b)
    (cond (eqb byte 0x3B) (c_test a b c d)
    (cond (eqb byte 0x3D) (c_grant a b)
    (cond (eqb byte 0x3E) (c_newkey (x % 256) (x / 256 % 256) a b c)
    (cond (eqb byte 0x3F) (c_assoc a b)
    (cond (eqb byte 0x40) (c_access a b c d)
    (cond (eqb byte 0x41) (c_divide a b)
    (c_num x))))))))))

abbrev pub two_in : List ℕ → ℕ → ℕ → Cmd ℕ
two_in slots w at = two_of (w % 256) (w / 256 % 4294967296) (get_or slots at 0) (get_or slots (at + 1) 0) (get_or slots (at + 2) 0) (get_or slots (at + 3) 0)
