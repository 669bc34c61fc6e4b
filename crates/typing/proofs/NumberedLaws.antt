-- Typing by numbers is typing by trees: each expression's entry has the tree that `Least` gives the expression, the effects are the same, the refusals are the same,
-- and the entries are those of `Layout`.
use Rattle.std.specs.Prelude.{◌≡◌, Bool, true, false, drop, take, ltb}
use Rattle.std.proofs.Math.Path.{refl, sym, ap, subst⁻¹}
use Rattle.std.proofs.Common.{◌∙◌, subst, arith, length-append, drop_of_length-le, ext_get_or, ltb-true, ltb-false}
use Prim.Native.Nat.{ℕ, zero, suc, ◌+◌, ◌-◌, ◌*◌, ◌≤◌, ◌<◌}
use mathlib.Core.List.Memᴰ
use mathlib.Core.List.{List, [], ◌∷◌, ◌++◌, map, append_assoc, append-nil, Memᴰ}
use Rattle.std.proofs.Math.Option.{Option, none, some, none-ne-some}
use Rattle.std.proofs.Math.ListN.{length, get_or, get_elem?, get_or-append}
use Rattle.std.proofs.lemmas.List.{length-map, get_or_at}
use Rattle.order.proofs.OrderLaws.{length_snoc}
use Rattle.order.specs.Effects.{Effect, pure, join}
use Rattle.order.proofs.EffectLaws.{within_wider}
use Rattle.syntax.specs.Types.{Ty, depth, TypeEntry, e_num, e_pair, e_cell, e_fn, e_lim, e_grant, tree}
use Rattle.syntax.proofs.TypeLaws.{tree_kept, tree_new}
use Rattle.syntax.specs.Commands.{Cmd, c_num, c_top, c_var, c_pair, c_part, c_fn, c_app, c_new, c_asg, c_read, c_sum, c_test, c_lim, c_grant, c_newkey, c_assoc, c_access, c_divide, c_spawn, map_cmd}
use Rattle.syntax.specs.Operands.{nth, plain, inner, children, uses_var, binds_name}
use Rattle.syntax.specs.Job.{Name, Job, uppers, up_of, source_of}
use Rattle.syntax.specs.Reading.{Refusal, most_names, most_depth}
use Rattle.syntax.specs.ReadLaws.{JobOk}
use Rattle.syntax.specs.ReadFormed.{CmdFormed}
use Rattle.syntax.proofs.ReadFormed.{nth_map, cmds_formed, job_formed, tree_depth}
use Rattle.syntax.specs.Tree.{Entry, tree_refusal}
use Rattle.syntax.proofs.Scope.{local_above}
use Rattle.syntax.specs.TreeFacts.{Ctx, TreeOk}
use Rattle.syntax.proofs.Context.{stands}
use Rattle.syntax.proofs.TreeExactly.{tree_ok}
use Rattle.typing.specs.Subtype.{sub_ty}
use Rattle.typing.specs.Least.{Typed, typed, untyped, var_type, type_at, get, types_to, types, type_of, first_untyped}
use Rattle.typing.specs.LayoutLaws.{made, most_each, declared}
use Rattle.typing.proofs.LayoutLaws.{points_few, new_few, declared_count}
use Rattle.typing.specs.Layout.{new_keys, var_entry, first_part, second_part, rekeyed, Points, new, old, points_to, point, layout_from, layout_of}
use Rattle.typing.specs.Tables.{effect_of, effect_in, layout_for}
use Rattle.typing.proofs.Filled.{types_to_length, seen, type_of_is, untyped_not, all_typed}
use Rattle.typing.proofs.Scoped.{ctx_type, ctx_var}
use Rattle.typing.specs.Entries.{sub_in}
use Rattle.typing.specs.Numbered.{Ops, Result, makes, points, wrong, need_num, need_pair, need_cell, need_fn, need_lim, need_grant, need, fits, keys_from, result_at, Sofar, Numbered, next, stop, settle, number_at, Whole, whole, halted, onto, number_all, start_of, numbering}
use Rattle.typing.proofs.EntryLaws.{sub_by_second}
use Rattle.typing.specs.NumberedOps.{Agree}
use Rattle.typing.proofs.NumberedOps.{agree_order}
use Rattle.typing.specs.NumberedTables.{EntryOk, ok_num, ok_pair, ok_cell, ok_fn, ok_lim, ok_grant, TableOk, TreeAt}
use Rattle.typing.proofs.NumberedTables.{part_low, table_earlier, table_snoc, local_lt, start_ok, start_kept, var_tree}
use Rattle.typing.proofs.NumberedStep.{Same, Match, m_made, m_old, m_no, Operand, matches}
use Rattle.typing.specs.NumberedLaws.{Fits, final_of, layout_in, whole_of}

-- Where an expression's type stands

-- a result and what the layout says of the same expression
data LayoutAgrees : Result → Points → Type 0 where
  l_new : {l : List TypeEntry} {x : TypeEntry} {s : Effect} → LayoutAgrees (makes l x s) (new l x)
  l_old : {i : ℕ} {s : Effect} → LayoutAgrees (points i s) (old i)
  l_no : {n : ℕ} {p : Points} → LayoutAgrees (wrong n) p

layout_need : (n : ℕ) (b : Bool) {r : Result} {p : Points} → LayoutAgrees r p → LayoutAgrees (need n b r) p
unfolding need
layout_need n true l = l
layout_need n false l = l_no

layout_num : (o : Option TypeEntry) (g : ℕ → Result) {p : Points} → ((q : ℕ) → LayoutAgrees (g q) p) → LayoutAgrees (need_num o g) p
unfolding need_num
layout_num none g f = l_no
layout_num (some (e_num q)) g f = f q
layout_num (some (e_pair q a b)) g f = l_no
layout_num (some (e_cell q a)) g f = l_no
layout_num (some (e_fn q a b s)) g f = l_no
layout_num (some (e_lim q r)) g f = l_no
layout_num (some (e_grant q r)) g f = l_no

layout_pair : (o : Option TypeEntry) (g : ℕ → ℕ → ℕ → Result) (h : Option TypeEntry → Points) → ((q a b : ℕ) → LayoutAgrees (g q a b) (h (some (e_pair q a b)))) → LayoutAgrees (need_pair o g) (h o)
unfolding need_pair
layout_pair none g h f = l_no
layout_pair (some (e_num q)) g h f = l_no
layout_pair (some (e_pair q a b)) g h f = f q a b
layout_pair (some (e_cell q a)) g h f = l_no
layout_pair (some (e_fn q a b s)) g h f = l_no
layout_pair (some (e_lim q r)) g h f = l_no
layout_pair (some (e_grant q r)) g h f = l_no

layout_cell : (o : Option TypeEntry) (g : ℕ → ℕ → Result) (h : Option TypeEntry → Points) → ((q a : ℕ) → LayoutAgrees (g q a) (h (some (e_cell q a)))) → LayoutAgrees (need_cell o g) (h o)
unfolding need_cell
layout_cell none g h f = l_no
layout_cell (some (e_num q)) g h f = l_no
layout_cell (some (e_pair q a b)) g h f = l_no
layout_cell (some (e_cell q a)) g h f = f q a
layout_cell (some (e_fn q a b s)) g h f = l_no
layout_cell (some (e_lim q r)) g h f = l_no
layout_cell (some (e_grant q r)) g h f = l_no

layout_fn : (o : Option TypeEntry) (g : ℕ → ℕ → ℕ → Effect → Result) (h : Option TypeEntry → Points) → ((q a b : ℕ) (s : Effect) → LayoutAgrees (g q a b s) (h (some (e_fn q a b s)))) → LayoutAgrees (need_fn o g) (h o)
unfolding need_fn
layout_fn none g h f = l_no
layout_fn (some (e_num q)) g h f = l_no
layout_fn (some (e_pair q a b)) g h f = l_no
layout_fn (some (e_cell q a)) g h f = l_no
layout_fn (some (e_fn q a b s)) g h f = f q a b s
layout_fn (some (e_lim q r)) g h f = l_no
layout_fn (some (e_grant q r)) g h f = l_no

layout_lim : (o : Option TypeEntry) (g : ℕ → ℕ → Result) (h : Option TypeEntry → Points) → ((q r : ℕ) → LayoutAgrees (g q r) (h (some (e_lim q r)))) → LayoutAgrees (need_lim o g) (h o)
unfolding need_lim
layout_lim none g h f = l_no
layout_lim (some (e_num q)) g h f = l_no
layout_lim (some (e_pair q a b)) g h f = l_no
layout_lim (some (e_cell q a)) g h f = l_no
layout_lim (some (e_fn q a b s)) g h f = l_no
layout_lim (some (e_lim q r)) g h f = f q r
layout_lim (some (e_grant q r)) g h f = l_no

layout_grant : (o : Option TypeEntry) (g : ℕ → ℕ → Result) {p : Points} → ((q r : ℕ) → LayoutAgrees (g q r) p) → LayoutAgrees (need_grant o g) p
unfolding need_grant
layout_grant none g f = l_no
layout_grant (some (e_num q)) g f = l_no
layout_grant (some (e_pair q a b)) g f = l_no
layout_grant (some (e_cell q a)) g f = l_no
layout_grant (some (e_fn q a b s)) g f = l_no
layout_grant (some (e_lim q r)) g f = l_no
layout_grant (some (e_grant q r)) g f = f q r

module _ (O : Ops) (var : ℕ → ℕ) (E : List TypeEntry) (of : ℕ → ℕ) (eff : ℕ → Effect) where
  layout_keys : (ks : List ℕ) (n s : Effect) (g : Effect → Effect → Result) {p : Points} → ((m t : Effect) → LayoutAgrees (g m t) p) → LayoutAgrees (keys_from O var (get_elem? E) of eff ks n s g) p
  unfolding keys_from
  layout_keys [] n s g f = f n s
  layout_keys (a ∷ ks) n s g {p} f = layout_lim (get_elem? E (of a)) _ (λ o. p) (λ q r. layout_keys ks (O.touch r n) (O.touch q (join (eff a) s)) g f)

  layout_at : (fin : ℕ → Effect) (k : Cmd ℕ) → ((c : ℕ) → Memᴰ c (children k) → fin c ≡ eff c) → LayoutAgrees (result_at O var (get_elem? E) of eff (length E) k) (points_to var fin E of k)
  unfolding result_at points_to children plain inner first_part second_part
  layout_at fin (c_num n) h = l_new
  layout_at fin c_top h = l_new
  layout_at fin (c_var v) h = l_old
  layout_at fin (c_pair a b) h = l_new
  layout_at fin (c_part a true) h = layout_pair (get_elem? E (of a)) _ (λ o. old (first_part o)) (λ q x y. l_old)
  layout_at fin (c_part a false) h = layout_pair (get_elem? E (of a)) _ (λ o. old (second_part o)) (λ q x y. l_old)
  layout_at fin (c_fn v t b) h = subst⁻¹ (λ s. LayoutAgrees (makes [] (e_fn 0 t (of b) (eff b)) pure) (new [] (e_fn 0 t (of b) s))) (h b (Memᴰ.head refl)) l_new
  layout_at fin (c_app f a) h = layout_fn (get_elem? E (of f)) _ (λ o. old (second_part o)) (λ q x y s. layout_need 12 _ l_old)
  layout_at fin (c_new t a) h = layout_need 12 _ l_new
  layout_at fin (c_asg a b) h = layout_cell (get_elem? E (of a)) _ (λ o. old (first_part o)) (λ q x. layout_need 12 _ l_old)
  layout_at fin (c_read a) h = layout_cell (get_elem? E (of a)) _ (λ o. old (first_part o)) (λ q x. l_old)
  layout_at fin (c_sum i a b) h = layout_num (get_elem? E (of a)) _ (λ p. layout_num (get_elem? E (of b)) _ (λ q. l_new))
  layout_at fin (c_test a b c t) h = layout_num (get_elem? E (of a)) _ (λ q. layout_need 12 _ (layout_need 12 _ l_old))
  layout_at fin (c_lim ks b) h = layout_keys ks pure pure _ (λ rs s. layout_need 13 _ l_old)
  layout_at fin (c_grant a b) h = layout_grant (get_elem? E (of a)) _ (λ q r. l_old)
  layout_at fin (c_newkey v r a b t) h = layout_lim (get_elem? E (of a)) _ (λ o. old t) (λ q u. layout_need 11 _ (layout_need 12 _ l_old))
  layout_at fin (c_assoc a b) h = layout_lim (get_elem? E (of b)) _ (λ o. new [] (rekeyed (first_part o) (get_elem? E (of a)))) (λ q r. l_new)
  layout_at fin (c_access a b c t) h = layout_lim (get_elem? E (of a)) _ (λ o. old t) (λ q r. layout_need 12 _ (layout_need 12 _ l_old))
  layout_at fin (c_divide a b) h = layout_num (get_elem? E (of a)) _ (λ p. layout_num (get_elem? E (of b)) _ (λ q. l_new))
  layout_at fin (c_spawn b) h = layout_need _ _ l_new

-- How many entries there are

-- the names that the first expressions bind: one expression more, and all of them
keys_next : (l : List (Cmd ℕ)) (e : ℕ) → length (new_keys (take (suc e) l)) ≤ length (new_keys (take e l)) + length (binds_name (nth l e))
unfolding new_keys nth
keys_next [] e = omega arith
keys_next (k ∷ l) zero = omega (arith, length-append (binds_name k) [])
keys_next (k ∷ l) (suc e) = omega (arith, length-append (binds_name k) (new_keys (take (suc e) l)), length-append (binds_name k) (new_keys (take e l)), keys_next l e)

keys_rest : (l : List (Cmd ℕ)) (e : ℕ) → length (new_keys l) ≤ length (new_keys (take e l)) + (length l - e)
unfolding new_keys
keys_rest l zero = omega (arith, new_few l)
keys_rest [] (suc e) = omega arith
keys_rest (k ∷ l) (suc e) = omega (arith, length-append (binds_name k) (new_keys l), length-append (binds_name k) (new_keys (take e l)), keys_rest l e)

-- What holds when e expressions are done

pub record Inv (J : Job) (e : ℕ) (σ : Sofar) : Type 0 where
  pub count_of : length σ.of ≡ e
  pub count_effects : length σ.effects ≡ e
  -- the declared types and the entries of 0x3E come first
  pub more : List TypeEntry
  pub extended : σ.entries ≡ (start_of J).entries ++ more
  pub few : length more + 3 * length (new_keys (take e J.cmds)) ≤ e * most_each
  pub table : TableOk (length J.types) (length (up_of (source_of J))) σ.entries
  -- each expression's entry has the expression's type, and its effect is the expression's
  pub each : (c : ℕ) → c < e → Operand (length (up_of (source_of J))) σ.entries (type_of (source_of J)) (λ a. get_or σ.of a 0) (λ a. get_or σ.effects a pure) c

-- what one expression comes to
pub data Stepped (J : Job) (e : ℕ) (σ : Sofar) (k : Cmd ℕ) : Numbered → Type 0 where
  went : (τ : Sofar) → Inv J (suc e) τ → point (points_to (var_entry J) (effect_in J) σ.entries (λ a. get_or σ.of a 0) k) (layout_in σ) ≡ layout_in τ → Stepped J e σ k (next τ)
  stopped : (n : ℕ) → type_of (source_of J) e ≡ untyped n → Stepped J e σ k (stop n)

operand_on : {N : ℕ} {E F : List TypeEntry} {tab : ℕ → Typed} {of ov : ℕ → ℕ} {eff ev : ℕ → Effect} (c : ℕ) → Operand N E tab of eff c
    → length E ≤ length F → tree F (of c) ≡ tree E (of c) → ov c ≡ of c → ev c ≡ eff c → Operand N F tab ov ev c
operand_on {of = of} c p h a b d = record { is = p.is ∙ rw (b, d, a); low = rw b (omega (arith, p.low)); small = rw d p.small }

-- one expression more, whose entry is i among the entries F
extend_inv : (J : Job) (e : ℕ) (σ : Sofar) → Inv J e σ → (F U : List TypeEntry) → F ≡ σ.entries ++ U → length U + 3 * length (binds_name (nth J.cmds e)) ≤ most_each → TableOk (length J.types) (length (up_of (source_of J))) F
    → {A : Ty} {i : ℕ} → TreeAt F A i → {s t : Effect} → Same (length (up_of (source_of J))) s t → type_of (source_of J) e ≡ typed A s
    → Inv J (suc e) (record { entries = F; of = σ.of ++ (i ∷ []); effects = σ.effects ++ (t ∷ []) })
extend_inv J e σ v F U q u ok {A} {i} p {s} {t} same g =
    record {
      count_of = length_snoc σ.of i ∙ ap suc v.count_of;
      count_effects = length_snoc σ.effects t ∙ ap suc v.count_effects;
      more = v.more ++ U;
      extended = q ∙ ap (λ l. l ++ U) v.extended ∙ append_assoc (start_of J).entries v.more U;
      few = omega (arith, length-append v.more U, v.few, keys_next J.cmds e);
      table = ok;
      each = λ c h. at c h (ltb c e) refl;
    }
  where
    N : ℕ
    N = length (up_of (source_of J))

    of : List ℕ
    of = σ.of ++ (i ∷ [])

    effects : List Effect
    effects = σ.effects ++ (t ∷ [])

    long : length σ.entries ≤ length F
    long = omega (arith, ap length q, length-append σ.entries U)

    old_one : (c : ℕ) → c < e → Operand N F (type_of (source_of J)) (λ a. get_or of a 0) (λ a. get_or effects a pure) c
    old_one c h =
        operand_on c (v.each c h) long (ap (λ l. tree l (get_or σ.of c 0)) q ∙ tree_kept (table_earlier v.table) U (get_or σ.of c 0) (v.each c h).low)
        (get_or-append σ.of (i ∷ []) 0 c (omega (arith, v.count_of))) (get_or-append σ.effects (t ∷ []) pure c (omega (arith, v.count_effects)))

    new_one : Operand N F (type_of (source_of J)) (λ a. get_or of a 0) (λ a. get_or effects a pure) e
    new_one =
        let x : get_or of e 0 ≡ i = get_or_at σ.of i [] 0 e v.count_of in
        let y : get_or effects e pure ≡ t = get_or_at σ.effects t [] pure e v.count_effects in
        record { is = g ∙ rw (x, y, p.is, same.is); low = rw x p.low; small = rw (y, ← same.is) same.low }

    at : (c : ℕ) → c < suc e → (b : Bool) → ltb c e ≡ b → Operand N F (type_of (source_of J)) (λ a. get_or of a 0) (λ a. get_or effects a pure) c
    at c h true z = old_one c (ltb-true c e z)
    at c h false z = let y : c ≡ e = omega (arith, ltb-false c e z) in subst⁻¹ (λ n. Operand N F (type_of (source_of J)) (λ a. get_or of a 0) (λ a. get_or effects a pure) n) y new_one

-- names with 0 and 1
pub up_length : (J : Job) → length (up_of (source_of J)) ≡ 2 + length J.names
unfolding source_of uppers
up_length J = omega (arith, length-map J.names (λ (x : Name). x.upper))

pub cmds_length : (J : Job) → length (source_of J).cmds ≡ length J.cmds
unfolding source_of
cmds_length J = length-map J.cmds (map_cmd (tree J.types))

cmd_at : (J : Job) (e : ℕ) → nth (source_of J).cmds e ≡ map_cmd (tree J.types) (nth J.cmds e)
unfolding source_of
cmd_at J e = nth_map (tree J.types) J.cmds e

var_used : (J : Job) (e x : ℕ) → Memᴰ x (uses_var (nth J.cmds e)) → nth (source_of J).cmds e ≡ c_var x
unfolding uses_var map_cmd
var_used J e x m = cmd_at J e ∙ at (nth J.cmds e) m
  where
    at : (k : Cmd ℕ) → Memᴰ x (uses_var k) → map_cmd (tree J.types) k ≡ c_var x
    at (c_num _) m = elim m [ ]
    at c_top m = elim m [ ]
    at (c_pair _ _) m = elim m [ ]
    at (c_part _ _) m = elim m [ ]
    at (c_fn _ _ _) m = elim m [ ]
    at (c_app _ _) m = elim m [ ]
    at (c_new _ _) m = elim m [ ]
    at (c_asg _ _) m = elim m [ ]
    at (c_read _) m = elim m [ ]
    at (c_sum _ _ _) m = elim m [ ]
    at (c_test _ _ _ _) m = elim m [ ]
    at (c_lim _ _) m = elim m [ ]
    at (c_grant _ _) m = elim m [ ]
    at (c_newkey _ _ _ _ _) m = elim m [ ]
    at (c_assoc _ _) m = elim m [ ]
    at (c_access _ _ _ _) m = elim m [ ]
    at (c_divide _ _) m = elim m [ ]
    at (c_spawn _) m = elim m [ ]
    at (c_var v) m = ap (λ y. c_var y) (sym (Memᴰ.eq_of_singleton m))

-- what is settled, by what trees and layout say
settled : (J : Job) (e : ℕ) (σ : Sofar) → Inv J e σ → {o : Typed} {r : Result} {p : Points} → Match (length J.types) (length (up_of (source_of J))) σ.entries o r → LayoutAgrees r p
    → type_of (source_of J) e ≡ o → points_to (var_entry J) (effect_in J) σ.entries (λ a. get_or σ.of a 0) (nth J.cmds e) ≡ p → Stepped J e σ (nth J.cmds e) (settle σ r)
unfolding settle point made
settled J e σ v (m_made {A = A} t w a s) (l_new {l = l} {x = x}) g q =
    went _
    (extend_inv J e σ v (σ.entries ++ (l ++ (x ∷ []))) (l ++ (x ∷ [])) refl (omega (arith, length_snoc l x, ap made q, points_few (var_entry J) (effect_in J) σ.entries (λ a. get_or σ.of a 0) (nth J.cmds e))) (subst (λ F. TableOk (length J.types) (length (up_of (source_of J))) F) (append_assoc σ.entries l (x ∷ [])) (table_snoc t w))
    (subst (λ F. TreeAt F A (length l + length σ.entries)) (append_assoc σ.entries l (x ∷ []))
    (record { is = ap (tree ((σ.entries ++ l) ++ (x ∷ []))) (at l) ∙ tree_new (table_earlier t) x (λ c p. part_low w p) ∙ sym a; low = omega (arith, length_snoc (σ.entries ++ l) x, at l) }))
    s g)
    (ap (λ z. point z (layout_in σ)) q)
  where
    at : (l : List TypeEntry) → length l + length σ.entries ≡ length (σ.entries ++ l)
    at l = omega (arith, length-append σ.entries l)
settled J e σ v (m_old {i = i} a s) l_old g q = went _ (extend_inv J e σ v σ.entries [] (sym (append-nil σ.entries)) (omega (arith, ap made q, points_few (var_entry J) (effect_in J) σ.entries (λ a. get_or σ.of a 0) (nth J.cmds e))) v.table a s g) (ap (λ z. point z (layout_in σ)) q)
settled J e σ v (m_no {n = n}) l_no g q = stopped n g

-- what all expressions come to, from a state on
data Outcome (J : Job) (l : List (Cmd ℕ)) (σ : Sofar) : Whole → Type 0 where
  ended : (τ : Sofar) → Inv J (length J.cmds) τ → layout_from (var_entry J) (effect_in J) l (layout_in σ) ≡ layout_in τ → Outcome J l σ (whole τ)
  broke : (n e : ℕ) → e < length J.cmds → ((c : ℕ) → c < e → (A : Ty) × (s : Effect) × (type_of (source_of J) c ≡ typed A s)) → type_of (source_of J) e ≡ untyped n
      → Outcome J l σ (halted (record { number = n; place = e }))

nth_seam : {T : Type 0} (p : List (Cmd T)) (k : Cmd T) (l : List (Cmd T)) → nth (p ++ (k ∷ l)) (length p) ≡ k
unfolding nth
nth_seam [] k l = refl
nth_seam (x ∷ p) k l = nth_seam p k l

-- the first expression without a type, by what each has
first_some : (l : List Typed) (i e p n : ℕ) → p ≡ i + e → e < length l → ((c : ℕ) → c < e → (A : Ty) × (s : Effect) × (get l c ≡ typed A s)) → get l e ≡ untyped n
    → first_untyped i l ≡ some (record { number = n; place = p })
unfolding first_untyped get
first_some [] i e p n q h f g = absurd (omega arith)
first_some (typed A s ∷ l) i zero p n q h f g = untyped_not (sym g)
first_some (untyped m ∷ l) i zero p n q h f g = let z : m ≡ n = cc in let y : i ≡ p = omega arith in λ j. some (record { number = z j; place = y j })
first_some (typed A s ∷ l) i (suc e) p n q h f g = first_some l (suc i) e p n (omega arith) (omega arith) (λ c k. f (suc c) (omega arith)) g
first_some (untyped m ∷ l) i (suc e) p n q h f g = untyped_not (f 0 (omega arith)).2

none_not : {r : Refusal} → none ≡ some r → ⊥
none_not {r} e = none-ne-some r e

types_length : (J : Job) → length (types (source_of J)) ≡ length J.cmds
unfolding types
types_length J = types_to_length (source_of J) (length (source_of J).cmds) ∙ cmds_length J

at_get : (J : Job) (e : ℕ) → get (types (source_of J)) e ≡ type_of (source_of J) e
unfolding type_of
at_get J e = refl

whole_at : (J : Job) (c : ℕ) → (A : Ty) × (s : Effect) × (type_of (source_of J) c ≡ typed A s) → (A : Ty) × (s : Effect) × (get (types (source_of J)) c ≡ typed A s)
whole_at J c z = (z.0, z.1, at_get J c ∙ z.2)

typed_at : (J : Job) (τ : Sofar) → Inv J (length J.cmds) τ → (c : ℕ) → c < length J.cmds → (A : Ty) × (s : Effect) × (get (types (source_of J)) c ≡ typed A s)
typed_at J τ i c h = whole_at J c (_, _, (i.each c h).is)

effect_at : (l : List Typed) (c : ℕ) → get_or (map effect_of l) c pure ≡ effect_of (get l c)
unfolding effect_of get
effect_at [] c = refl
effect_at (x ∷ l) zero = refl
effect_at (x ∷ l) (suc c) = effect_at l c

final_is : (J : Job) (τ : Sofar) → Inv J (length J.cmds) τ → layout_from (var_entry J) (effect_in J) J.cmds (layout_in (start_of J)) ≡ layout_in τ → τ ≡ final_of J
unfolding final_of layout_for layout_of start_of effect_of
final_is J τ i p = λ k. record { entries = (p' k).entries; of = (p' k).of; effects = effects k }
  where
    p' : layout_in τ ≡ layout_for J
    p' = sym p

    effects : τ.effects ≡ map effect_of (types (source_of J))
    effects =
        ext_get_or pure τ.effects (map effect_of (types (source_of J))) (omega (arith, i.count_effects, types_length J, length-map (types (source_of J)) effect_of))
        (λ c h. sym (effect_at (types (source_of J)) c ∙ ap effect_of (at_get J c ∙ (i.each c (omega (arith, i.count_effects))).is)))

module _ {J : Job} (j : JobOk J) (scoped : tree_refusal (source_of J) ≡ none) {O : Ops} (ag : Agree (up_of (source_of J)) O) where
  start_table : TableOk (length J.types) (length (up_of (source_of J))) (start_of J).entries
  start_table = subst⁻¹ (λ n. TableOk (length J.types) n (start_of J).entries) (up_length J) (start_ok j)

  pub inv_start : Inv J 0 (start_of J)
  unfolding start_of new_keys
  inv_start =
      record { count_of = refl; count_effects = refl; more = []; extended = sym (append-nil _); few = omega arith; table = start_table; each = λ c h. absurd (omega arith) }

  -- what stood in the table at the start stands there later
  later : {e : ℕ} {σ : Sofar} → Inv J e σ → {A : Ty} {i : ℕ} → TreeAt (start_of J).entries A i → TreeAt σ.entries A i
  later {σ = σ} v {A} {i} p =
      record {
        is = ap (λ l. tree l i) v.extended ∙ tree_kept (table_earlier start_table) v.more i p.low ∙ p.is;
        low = omega (arith, ap length v.extended, length-append (start_of J).entries v.more, p.low);
      }

  variable_at : (e x : ℕ) → e < length J.cmds → Memᴰ x (uses_var (nth J.cmds e)) → (A : Ty) × (var_type (source_of J) x ≡ some A) × TreeAt (start_of J).entries A (var_entry J x)
  variable_at e x h m = at (stands (source_of J) (job_formed J j) free.used e (omega (arith, cmds_length J)))
    where
      free : TreeOk (source_of J)
      free = (tree_ok (source_of J) (job_formed J j)).0 scoped

      at : (Γ : List Entry) × Ctx (source_of J) e Γ → (A : Ty) × (var_type (source_of J) x ≡ some A) × TreeAt (start_of J).entries A (var_entry J x)
      at (Γ, d) =
          let z = ctx_var (source_of J) (job_formed J j) free d (var_used J e x m) in
          let y : var_type (source_of J) x ≡ some z.0 = ctx_type (source_of J) (job_formed J j) free d z.1 in
          (z.0, y, var_tree j x z.0 y)

  subtypes : {e : ℕ} {σ : Sofar} → Inv J e σ → (a t : ℕ) → a < length σ.entries → t < length J.types
      → sub_in O.below O.eff_below most_depth (get_elem? σ.entries) a t ≡ sub_ty (up_of (source_of J)) (tree σ.entries a) (tree σ.entries t)
  subtypes {σ = σ} v a t h l =
      let p = later v (start_kept j t l) in
      sub_by_second v.table (get_elem? σ.entries) (λ i g. refl) (agree_order ag) most_depth a t h p.low (subst⁻¹ (λ A. depth A ≤ most_depth) p.is (tree_depth J.names j.types t l))

  pub step : (e : ℕ) → e < length J.cmds → (σ : Sofar) → Inv J e σ → Stepped J e σ (nth J.cmds e) (number_at O (var_entry J) σ (nth J.cmds e))
  unfolding number_at fits effect_in effect_of
  step e h σ v =
      settled J e σ v
      (matches (source_of J) ag J.types v.table (omega (arith, up_length J)) (λ t l. later v (start_kept j t l)) (get (types_to (source_of J) e)) (var_entry J)
      (λ a. get_or σ.of a 0) (λ a. get_or σ.effects a pure) (subtypes v) (nth J.cmds e)
      (record {
        operand = λ c m. before c (form.operand c m);
        type = λ t m. form.type_operand t m;
        name = λ r m. (local_above J.names r (form.bound_name_lem r m), omega (arith, local_lt J.names r (form.bound_name_lem r m), up_length J));
        variable = λ x m. let z = variable_at e x h m in (z.0, z.1, later v z.2);
      }))
      (layout_at O (var_entry J) σ.entries (λ a. get_or σ.of a 0) (λ a. get_or σ.effects a pure) (effect_in J) (nth J.cmds e) (λ c m. effect c (form.operand c m)))
      (type_of_is (source_of J) e (omega (arith, cmds_length J)) ∙ ap (λ k. type_at (source_of J) (get (types_to (source_of J) e)) k) (cmd_at J e))
      refl
    where
      form : CmdFormed J.names (length J.types) (length J.values) e (nth J.cmds e)
      form = cmds_formed j e

      before : (c : ℕ) → c < e → Operand (length (up_of (source_of J))) σ.entries (get (types_to (source_of J) e)) (λ a. get_or σ.of a 0) (λ a. get_or σ.effects a pure) c
      before c l = let p = v.each c l in record { is = seen (source_of J) e c (omega (arith, cmds_length J)) l ∙ p.is; low = p.low; small = p.small }

      effect : (c : ℕ) → c < e → effect_in J c ≡ get_or σ.effects c pure
      effect c l = ap effect_of (v.each c l).is

  at_cmd : (pre : List (Cmd ℕ)) (k : Cmd ℕ) (l : List (Cmd ℕ)) (e : ℕ) → J.cmds ≡ pre ++ (k ∷ l) → length pre ≡ e → (nth J.cmds e ≡ k) × (e < length J.cmds)
  at_cmd pre k l e q n = (ap (λ m. nth m e) q ∙ seam pre e n, omega (arith, ap length q, length-append pre (k ∷ l)))
    where
      seam : (p : List (Cmd ℕ)) (i : ℕ) → length p ≡ i → nth (p ++ (k ∷ l)) i ≡ k
      seam p i z = subst (λ x. nth (p ++ (k ∷ l)) x ≡ k) z (nth_seam p k l)

  -- the expressions from e on
  run : (l pre : List (Cmd ℕ)) (e : ℕ) → J.cmds ≡ pre ++ l → length pre ≡ e → (σ : Sofar) → Inv J e σ → Outcome J l σ (number_all O (var_entry J) e l σ)
  unfolding number_all layout_from onto
  run [] pre e q n σ v = let z : e ≡ length J.cmds = omega (arith, ap length (q ∙ append-nil pre)) in ended σ (subst (λ i. Inv J i σ) z v) refl
  run (k ∷ l) pre e q n σ v =
      let z = at_cmd pre k l e q n in
      at (number_at O (var_entry J) σ k) (subst (λ c. Stepped J e σ c (number_at O (var_entry J) σ c)) z.0 (step e z.1 σ v))
      (λ τ w. run l (pre ++ (k ∷ [])) (suc e) (q ∙ sym (append_assoc pre (k ∷ []) l)) (length_snoc pre k ∙ ap suc n) τ w)
    where
      on : {τ : Sofar} {w : Whole} → point (points_to (var_entry J) (effect_in J) σ.entries (λ a. get_or σ.of a 0) k) (layout_in σ) ≡ layout_in τ → Outcome J l τ w → Outcome J (k ∷ l) σ w
      on p (ended ρ i r) = ended ρ i (ap (layout_from (var_entry J) (effect_in J) l) p ∙ r)
      on p (broke m c h f g) = broke m c h f g

      at : (x : Numbered) → Stepped J e σ k x → ((τ : Sofar) → Inv J (suc e) τ → Outcome J l τ (number_all O (var_entry J) (suc e) l τ))
          → Outcome J (k ∷ l) σ (onto x e (λ τ. number_all O (var_entry J) (suc e) l τ))
      at x (went τ w p) f = on p (f τ w)
      at x (stopped m g) f = broke m e (at_cmd pre k l e q n).1 (λ c h. (_, _, (v.each c h).is)) g

  outcome : Outcome J J.cmds (start_of J) (numbering O J)
  unfolding numbering
  outcome = run J.cmds [] 0 refl refl (start_of J) inv_start

  -- typing by numbers gives the refusal that typing by trees gives, or the layout and the effects of all expressions
  pub numbering_is : numbering O J ≡ whole_of (first_untyped 0 (types (source_of J))) (final_of J)
  unfolding whole_of
  numbering_is = at (numbering O J) outcome
    where
      at : (w : Whole) → Outcome J J.cmds (start_of J) w → w ≡ whole_of (first_untyped 0 (types (source_of J))) (final_of J)
      at w (ended τ i p) = ap whole (final_is J τ i p) ∙ ap (λ o. whole_of o (final_of J)) (sym (all_typed (types (source_of J)) 0 (λ c h. typed_at J τ i c (omega (arith, types_length J)))))
      at w (broke n e h f g) = ap (λ o. whole_of o (final_of J)) (sym (first_some (types (source_of J)) 0 e e n (omega arith) (omega (arith, types_length J)) (λ c k. whole_at J c (f c k)) (at_get J e ∙ g)))

  -- the state when all are done, where all have types
  pub inv_final : first_untyped 0 (types (source_of J)) ≡ none → Inv J (length J.cmds) (final_of J)
  inv_final h = at (numbering O J) outcome
    where
      at : (w : Whole) → Outcome J J.cmds (start_of J) w → Inv J (length J.cmds) (final_of J)
      at w (ended τ i p) = subst (λ σ. Inv J (length J.cmds) σ) (final_is J τ i p) i
      at w (broke n e l f g) =
          absurd (none_not (sym h ∙ first_some (types (source_of J)) 0 e e n (omega arith) (omega (arith, types_length J)) (λ c k. whole_at J c (f c k)) (at_get J e ∙ g)))

  -- and on the way there
  pub inv_next : (e : ℕ) → e < length J.cmds → (σ τ : Sofar) → Inv J e σ → number_at O (var_entry J) σ (nth J.cmds e) ≡ next τ → Inv J (suc e) τ
  inv_next e h σ τ v q = at (number_at O (var_entry J) σ (nth J.cmds e)) (step e h σ v) q
    where
      at : (x : Numbered) → Stepped J e σ (nth J.cmds e) x → x ≡ next τ → Inv J (suc e) τ
      at x (went ρ w p) z = let y : ρ ≡ τ = cc in subst (λ r. Inv J (suc e) r) y w
      at x (stopped n g) z = absurd (let y : ◌≡◌ {A = ℕ} 0 1 = cc in omega arith)

-- What fits into the words of the tables

entry_wider : {D C N M n : ℕ} {x : TypeEntry} → EntryOk D N n x → D ≤ C → N ≤ M → EntryOk C M n x
entry_wider {M = M} (ok_num {q = q} a) h l = let u : q < M = omega arith in ok_num u
entry_wider {M = M} (ok_pair {q = q} a b c) h l = let u : q < M = omega arith in ok_pair u b c
entry_wider {C = C} {M = M} (ok_cell {q = q} {a = y} a b c) h l = let u : q < M = omega arith in let v : y < C = omega arith in ok_cell u b v
entry_wider {C = C} {M = M} (ok_fn {q = q} {a = y} a b c d e) h l = let u : q < M = omega arith in let v : y < C = omega arith in ok_fn u b v d (within_wider e l)
entry_wider {M = M} (ok_lim {q = q} {r = r} a b) h l = let u : q < M = omega arith in let v : r < M = omega arith in ok_lim u v
entry_wider {M = M} (ok_grant {q = q} {r = r} a b) h l = let u : q < M = omega arith in let v : r < M = omega arith in ok_grant u v

start_length : {J : Job} → JobOk J → length (start_of J).entries ≡ length J.types + 3 * length (new_keys J.cmds)
unfolding start_of declared
start_length {J} j = declared_count J

pub inv_fits : {J : Job} → JobOk J → {e : ℕ} {σ : Sofar} → e ≤ length J.cmds → Inv J e σ → Fits σ
inv_fits {J} j {e} {σ} h v =
    record {
      few = omega (arith, ap length v.extended, length-append (start_of J).entries v.more, v.few, start_length j, keys_rest J.cmds e, j.few_types, j.few_cmds);
      of = λ c l. (v.each c (omega (arith, v.count_of))).low;
      entry = λ i x g. entry_wider (v.table.each i x g) j.few_types (omega (arith, up_length J, j.few_names));
      effect = λ c l. within_wider {k = most_names} (v.each c (omega (arith, v.count_effects))).small (omega (arith, up_length J, j.few_names));
    }

-- Turn by turn: the next expression, and the end

drop_nth : (l : List (Cmd ℕ)) (e : ℕ) → e < length l → drop e l ≡ nth l e ∷ drop (suc e) l
unfolding nth
drop_nth [] e h = absurd (omega arith)
drop_nth (k ∷ l) zero h = refl
drop_nth (k ∷ l) (suc e) h = drop_nth l e (omega arith)

pub number_turn : (O : Ops) (var : ℕ → ℕ) (l : List (Cmd ℕ)) (e : ℕ) → e < length l → (σ : Sofar)
    → number_all O var e (drop e l) σ ≡ onto (number_at O var σ (nth l e)) e (λ τ. number_all O var (suc e) (drop (suc e) l) τ)
unfolding number_all
number_turn O var l e h σ = ap (λ m. number_all O var e m σ) (drop_nth l e h)

pub number_end : (O : Ops) (var : ℕ → ℕ) (l : List (Cmd ℕ)) (e : ℕ) → length l ≤ e → (σ : Sofar) → number_all O var e (drop e l) σ ≡ whole σ
unfolding number_all
number_end O var l e h σ = ap (λ m. number_all O var e m σ) (drop_of_length-le l h)

-- the keys of 0x3C need the touch alone
pub keys_same : (O P : Ops) → ((q : ℕ) (s : Effect) → O.touch q s ≡ P.touch q s) → (var ver : ℕ → ℕ) (at : ℕ → Option TypeEntry) (of : ℕ → ℕ) (eff : ℕ → Effect)
    → (ks : List ℕ) (n s : Effect) (f : Effect → Effect → Result) → keys_from O var at of eff ks n s f ≡ keys_from P ver at of eff ks n s f
unfolding keys_from
keys_same O P h var ver at of eff [] n s f = refl
keys_same O P h var ver at of eff (a ∷ ks) n s f =
    λ i. need_lim (at (of a)) (λ q r. (keys_same O P h var ver at of eff ks (O.touch r n) (O.touch q (join (eff a) s)) f ∙ (λ j. keys_from P ver at of eff ks (h r n j) (h q (join (eff a) s) j) f)) i)
