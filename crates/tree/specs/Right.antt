-- The passes over tables that hold a job find the refusal of the job.
use Rattle.std.specs.Prelude.{◌≡◌, Bool, ◌||◌, ◌≢◌, length, eqb, ltb}
use Rattle.std.proofs.Math.Path.{refl, sym, ap, ap₂, subst⁻¹}
use Rattle.std.proofs.Common.{◌∙◌, lt-ltb, le-ltb, ltb-true, eq-eqb, eqb-true}
use Prim.Native.Nat.{ℕ, zero, suc, ◌+◌, ◌*◌, ◌/◌, ◌%◌, ◌≤◌, ◌<◌}
use native.Mathlib.Omega.{arith}
use Rattle.std.proofs.Math.Bool.{true, false, cond}
use mathlib.Core.List.{List, map, flat_map, Memᴰ, append-nil}
use Rattle.std.proofs.Math.Option.{Option, none, some, none-ne-some}
use Rattle.std.proofs.Math.ListN.{get_or}
use Rattle.std.proofs.lemmas.List.{length-map}
use Rattle.std.specs.Int.Bits.{bit_or, or_zero_l}
use Rattle.std.proofs.lemmas.Bool.{eqb-false}
use Rattle.order.specs.Bools.{◌and◌}
use Rattle.order.proofs.Bools.{and_l, and_r}
use Rattle.order.specs.Sets.{bit, all_of}
use Rattle.order.proofs.SetLaws.{bool_ext, set_ext, bit_or_lem, →or_l, all_of→, →all_of}
use Rattle.syntax.specs.Types.{Ty, names_in, tree}
use Rattle.syntax.specs.Commands.{Cmd, map_cmd}
use Rattle.syntax.specs.Operands.{nth, types_of, uses_var, binds_var, binds_name}
use Rattle.syntax.specs.Job.{Name, Job, Src, source_of, value_of}
use Rattle.syntax.specs.Reading.{Refusal, declared, local_name}
use Rattle.syntax.specs.Words as words
use Rattle.syntax.specs.Tree.{Entry, vars_of, mem_b, uses_name, root, used_right, binds_new, ctx, name_in, in_scope, first_bad, or_else, numbered, lowest, tree_refusal}
use Rattle.syntax.proofs.Scope.{mem_b→, →mem_b}
use Rattle.syntax.specs.ReadLaws.{JobOk}
use Rattle.syntax.proofs.RowLaws.{uses_var_map}
use Rattle.syntax.proofs.ReadFormed.{types_of_map}
use Rattle.syntax.proofs.ReadFormed.{nth_map, tree_declared, cmds_formed}
use Rattle.uses.specs.Passes.{is_new, counts_by, right_count, type_place}
use Rattle.tree.specs.Passes.{host_vars, host_names, masks_by, scopes_by, operand_names, var_fits, is_scoped, scope_refusal, table_refusal}
use Rattle.tree.specs.Holds.{Holds}
use Rattle.uses.specs.Heads.{byte_of, byte_is, TypeAt, t_none, t_one, Sort, is_variable, is_function, is_key, is_plain, asked}
use Rattle.uses.specs.Uses.{bad_cong, right_is}
use Rattle.uses.specs.Binders.{new_right}
use Rattle.tree.specs.Masks.{masks_are}
use Rattle.tree.specs.Host.{host_vars_bit, host_vars_are, host_names_bit}
use Rattle.tree.specs.Scopes.{in_kind, scopes_are}

-- The variable that an expression uses

unfoldable fits_at : ℕ → ℕ → ℕ → Bool
fits_at b w x = cond (eqb b 0x32) (bit x (w / 256 % 256)) true

module _ (f : ℕ → Ty) (vs : List ℕ) (x : ℕ) (good : (n : ℕ) → n < 64 → bit x n ≡ mem_b n vs) where
  var_at_lem : {k : Cmd ℕ} → Sort k → ((v : ℕ) → Memᴰ v (uses_var k) → v < 64) → fits_at (byte_of k) (words.head_word k) x ≡ all_of (λ v. mem_b v vs) (uses_var k)
  unfolding fits_at byte_of words.head_word uses_var all_of
  var_at_lem (is_variable v) h =
      let k = h v (Memᴰ.head refl) in
      let z : (0x32 + 256 * v) / 256 % 256 ≡ v = omega arith in
      ap (bit x) z ∙ good v k ∙ at (mem_b v vs)
    where
      at : (b : Bool) → b ≡ cond b true false
      at true = refl
      at false = refl
  var_at_lem (is_function v t b) h = refl
  var_at_lem (is_key v r a b t) h = refl
  var_at_lem (is_plain p) h = rw p.no_variable (sym (ap (all_of (λ v. mem_b v vs)) p.uses_none))

  var_fits_lem : (k : Cmd ℕ) → ((v : ℕ) → Memᴰ v (uses_var k) → v < 64) → var_fits (words.head_word k) x ≡ all_of (λ v. mem_b v vs) (uses_var (map_cmd f k))
  unfolding var_fits fits_at
  var_fits_lem k h = ap (λ (b : ℕ). fits_at b (words.head_word k) x) (byte_is k) ∙ var_at_lem (asked k).sort h ∙ ap (all_of (λ v. mem_b v vs)) (sym (uses_var_map f k))

-- The type operand

type_is : (k : Cmd ℕ) → TypeAt (types_of k) (words.slots k) (type_place (words.head_word k % 256))
type_is k = subst⁻¹ (λ (b : ℕ). TypeAt (types_of k) (words.slots k) (type_place b)) (byte_is k) (asked k).type_at

-- all of a list's numbers are in a set, by the set of the list; 0 is in it anyway
within : (m x : ℕ) (l : List ℕ) (p : ℕ → Bool) → ((n : ℕ) → n ≢ 0 → bit m n ≡ mem_b n l) → ((n : ℕ) → Memᴰ n l → n < 64) → ((n : ℕ) → n < 64 → bit x n ≡ p n) → p 0 ≡ true
    → eqb (bit_or m x) x ≡ all_of p l
within m x l p hm hl hx hp = bool_ext (eqb (bit_or m x) x) (all_of p l) to from
  where
    to : eqb (bit_or m x) x ≡ true → all_of p l ≡ true
    to e = →all_of p l (λ n i. by n i (eqb n 0) refl)
      where
        by : (n : ℕ) → Memᴰ n l → (b : Bool) → eqb n 0 ≡ b → p n ≡ true
        by n i true z = ap p (eqb-true n 0 z) ∙ hp
        by n i false z =
            let in_m : bit m n ≡ true = hm n (eqb-false n 0 z) ∙ →mem_b n l i in
            sym (hx n (hl n i)) ∙ sym (ap (λ (y : ℕ). bit y n) (eqb-true (bit_or m x) x e)) ∙ bit_or_lem n m x ∙ →or_l (bit m n) (bit x n) in_m

    from : all_of p l ≡ true → eqb (bit_or m x) x ≡ true
    from e = eq-eqb (bit_or m x) x (set_ext (bit_or m x) x (λ n. bit_or_lem n m x ∙ by n (bit m n) refl))
      where
        here : (n : ℕ) → bit m n ≡ true → (b : Bool) → eqb n 0 ≡ b → bit x n ≡ true
        here n z true w = let y : n ≡ 0 = eqb-true n 0 w in ap (bit x) y ∙ hx 0 (omega arith) ∙ hp
        here n z false w = let i = mem_b→ n l (sym (hm n (eqb-false n 0 w)) ∙ z) in hx n (hl n i) ∙ all_of→ p e i

        by : (n : ℕ) (b : Bool) → bit m n ≡ b → (b || bit x n) ≡ bit x n
        by n true z = sym (here n z (eqb n 0) refl)
        by n false z = refl

zero_in : (Γ : List Entry) → name_in Γ 0 ≡ true
unfolding name_in
zero_in Γ = refl

-- Reading's conditions, as far as they are used

local_lt : (ds : List Name) (r : ℕ) → 2 + length ds ≤ 64 → local_name ds r ≡ true → r < 64
unfolding local_name declared
local_lt ds r h e = omega (arith, ltb-true r (2 + length ds) (and_r _ _ (and_l _ _ e)))

declared_lt : (ds : List Name) (r : ℕ) → 2 + length ds ≤ 64 → declared ds r ≡ true → r < 64
unfolding declared
declared_lt ds r h e = omega (arith, ltb-true r (2 + length ds) e)

none_bad : (p : ℕ → Bool) (n i j : ℕ) → first_bad p i n ≡ none → i ≤ j → j < i + n → p j ≡ true
unfolding first_bad
none_bad p zero i j e h k = absurd (omega arith)
none_bad p (suc n) i j e h k = at (p i) refl e (λ g l. none_bad p n (suc i) j g l (omega arith))
  where
    at : (b : Bool) → p i ≡ b → cond b (first_bad p (suc i) n) (some i) ≡ none → (first_bad p (suc i) n ≡ none → suc i ≤ j → p j ≡ true) → p j ≡ true
    at true z g f = if_same (eqb i j) refl
      where
        if_same : (c : Bool) → eqb i j ≡ c → p j ≡ true
        if_same true y = ap p (sym (eqb-true i j y)) ∙ z
        if_same false y = let w : i ≢ j = eqb-false i j y in f g (omega arith)
    at false z g f = absurd (none-ne-some i (sym g))

-- The job

module _ (J : Job) (ok : JobOk J) (heads slots names types sets : List ℕ)
    (holds : Holds J heads slots (length J.cmds) names (length J.names) types sets (length J.types) (length J.values)) where
  abbrev S : Src
  S = source_of J

  abbrev n : ℕ
  n = length J.cmds

  abbrev f : ℕ → Ty
  f = tree J.types

  cmds_is : S.cmds ≡ map (map_cmd f) J.cmds
  unfolding source_of
  cmds_is = refl

  size : length S.cmds ≡ n
  size = ap length cmds_is ∙ length-map J.cmds (map_cmd f)

  var : (e v : ℕ) → Memᴰ v (binds_var (nth J.cmds e)) → v < 64
  var e v m = ((cmds_formed ok e).bound_variable v m).1

  name : (e r : ℕ) → Memᴰ r (binds_name (nth J.cmds e)) → r < 64
  name e r m = local_lt J.names r ok.few_names ((cmds_formed ok e).bound_name_lem r m)

  eight : first_bad (right_count (counts_by heads slots n) n) 0 n ≡ first_bad (used_right S) 0 n
  unfolding used_right root source_of
  eight = bad_cong (right_count (counts_by heads slots n) n) (used_right S) n 0 (λ e h k. right_is J.cmds f heads slots holds.head holds.five holds.slot e (omega arith) ok.few_cmds)

  nine : first_bad (is_new heads) 0 n ≡ first_bad (binds_new S) 0 n
  unfolding binds_new source_of
  nine = bad_cong (is_new heads) (binds_new S) n 0 (λ e h k. new_right J.cmds f heads holds.head var name e (omega arith))

  -- 10, where 8 found nothing
  module _ (used : (e : ℕ) → e < n → used_right S e ≡ true) where
    abbrev Γ : ℕ → List Entry
    Γ e = ctx S n e

    vars_good : (e i : ℕ) → e < n → i < 64 → bit (get_or (scopes_by false heads slots n (host_vars (length J.values))) e 0) i ≡ mem_b i (vars_of (Γ e))
    unfolding in_kind source_of
    vars_good e i h k =
        (scopes_are S J.cmds f cmds_is ok.some_cmds ok.few_cmds used (λ p c m. (cmds_formed ok p).operand c m) false heads slots holds.head holds.five holds.slot var name
        (host_vars (length J.values))
        (λ v q. host_vars_bit (length J.values) v q ∙ ap (ltb v) (sym (length-map J.values (value_of J.types))) ∙ sym (host_vars_are S v)) e h).bits i k

    names_good : (e i : ℕ) → e < n → i < 64 → bit (get_or (scopes_by true heads slots n (host_names names (length J.names))) e 0) i ≡ name_in (Γ e) i
    unfolding in_kind source_of
    names_good e i h k =
        (scopes_are S J.cmds f cmds_is ok.some_cmds ok.few_cmds used (λ p c m. (cmds_formed ok p).operand c m) true heads slots holds.head holds.five holds.slot var name
        (host_names names (length J.names))
        (host_names_bit J.names ok.names ok.few_names names holds.name_word_lem S refl) e h).bits i k

    abbrev masks : List ℕ
    masks = masks_by types sets (length J.types)

    names_fit : (e : ℕ) → e < n → (x : ℕ) → ((i : ℕ) → i < 64 → bit x i ≡ name_in (Γ e) i)
        → eqb (bit_or (operand_names masks slots e (words.head_word (nth J.cmds e))) x) x ≡ all_of (name_in (Γ e)) (uses_name (map_cmd f (nth J.cmds e)))
    unfolding operand_names uses_name flat_map all_of
    names_fit e h x g = at (type_is (nth J.cmds e))
      where
        k : Cmd ℕ
        k = nth J.cmds e

        p : ℕ
        p = type_place (words.head_word (nth J.cmds e) % 256)

        at : TypeAt (types_of (nth J.cmds e)) (words.slots (nth J.cmds e)) (type_place (words.head_word (nth J.cmds e) % 256))
            → eqb (bit_or (cond (ltb p 5) (get_or masks (get_or slots (e * 5 + p) 0) 0) 0) x) x ≡ all_of (name_in (Γ e)) (flat_map names_in (types_of (map_cmd f (nth J.cmds e))))
        at (t_none z y) =
            let q : ltb p 5 ≡ false = le-ltb p 5 (omega (arith, y)) in
            rw q (eq-eqb (bit_or 0 x) x (or_zero_l x) ∙ sym (ap (λ (l : List Ty). all_of (name_in (Γ e)) (flat_map names_in l)) (types_of_map f (nth J.cmds e) ∙ ap (map f) z)))
        at (t_one t z y w) =
            let q : ltb p 5 ≡ true = lt-ltb p 5 y in
            let u : get_or slots (e * 5 + p) 0 ≡ t = holds.slot e p h y ∙ w in
            let v : t < length J.types = (cmds_formed ok e).type_operand t (subst⁻¹ (λ (l : List ℕ). Memᴰ t l) z (Memᴰ.head refl)) in
            rw (q, u)
            (within (get_or masks t 0) x (names_in (f t)) (name_in (Γ e))
            (λ i ne. masks_are J.names ok.few_names J.types ok.types ok.few_types types sets holds.type_word_lem holds.set_word_lem t i v ne)
            (λ i m. declared_lt J.names i ok.few_names (tree_declared J.names ok.types t i m)) g (zero_in (Γ e))
            ∙ sym (ap (all_of (name_in (Γ e))) (ap (flat_map names_in) (types_of_map f (nth J.cmds e) ∙ ap (map f) z) ∙ append-nil (names_in (f t)))))

    scoped_right : (e : ℕ) → e < n
        → is_scoped heads slots masks (scopes_by false heads slots n (host_vars (length J.values))) (scopes_by true heads slots n (host_names names (length J.names))) e ≡ in_scope S e
    unfolding is_scoped in_scope ◌and◌
    scoped_right e h =
        let vs = get_or (scopes_by false heads slots n (host_vars (length J.values))) e 0 in
        let ns = get_or (scopes_by true heads slots n (host_names names (length J.names))) e 0 in
        let code : nth S.cmds e ≡ map_cmd f (nth J.cmds e) = ap (λ (m : List (Cmd Ty)). nth m e) cmds_is ∙ nth_map f J.cmds e in
        ap (λ (w : ℕ). cond (var_fits w vs) (eqb (bit_or (operand_names masks slots e w) ns) ns) false) (holds.head e h)
        ∙ ap₂ (λ (a b : Bool). cond a b false) (var_fits_lem f (vars_of (Γ e)) vs (λ i k. vars_good e i h k) (nth J.cmds e) (λ v m. (cmds_formed ok e).used_variable v m)) (names_fit e h ns (λ i k. names_good e i h k))
        ∙ at (all_of (λ v. mem_b v (vars_of (Γ e))) (uses_var (map_cmd f (nth J.cmds e)))) (all_of (name_in (Γ e)) (uses_name (map_cmd f (nth J.cmds e))))
        ∙ ap (λ (k : Cmd Ty). all_of (λ v. mem_b v (vars_of (Γ e))) (uses_var k) and all_of (name_in (Γ e)) (uses_name k)) (sym code)
        ∙ ap (λ (g : ℕ). all_of (λ v. mem_b v (vars_of (ctx S g e))) (uses_var (nth S.cmds e)) and all_of (name_in (ctx S g e)) (uses_name (nth S.cmds e))) (sym size)
      where
        at : (a b : Bool) → cond a b false ≡ (a and b)
        at true b = refl
        at false b = refl

    ten : scope_refusal heads slots n names (length J.names) types sets (length J.types) (length J.values) ≡ numbered 10 (first_bad (in_scope S) 0 n)
    unfolding scope_refusal
    ten = ap (numbered 10) (bad_cong (is_scoped heads slots masks (scopes_by false heads slots n (host_vars (length J.values))) (scopes_by true heads slots n (host_names names (length J.names)))) (in_scope S) n 0 (λ e h k. scoped_right e (omega arith)))

  table_is : table_refusal heads slots n names (length J.names) types sets (length J.types) (length J.values) ≡ tree_refusal S
  unfolding table_refusal tree_refusal lowest numbered or_else
  table_is = by (first_bad (used_right S) 0 n) refl ∙ ap three (sym size)
    where
      last : Option Refusal
      last = scope_refusal heads slots n names (length J.names) types sets (length J.types) (length J.values)

      three : ℕ → Option Refusal
      three m = or_else (numbered 8 (first_bad (used_right S) 0 m)) (or_else (numbered 9 (first_bad (binds_new S) 0 m)) (numbered 10 (first_bad (in_scope S) 0 m)))

      by : (o : Option ℕ) → first_bad (used_right S) 0 n ≡ o
          → or_else (numbered 8 (first_bad (right_count (counts_by heads slots n) n) 0 n)) (or_else (numbered 9 (first_bad (is_new heads) 0 n)) last) ≡ three n
      by none e = ap₂ (λ (a b : Option ℕ). or_else (numbered 8 a) (or_else (numbered 9 b) last)) eight nine ∙ ap (λ (r : Option Refusal). or_else (numbered 8 (first_bad (used_right S) 0 n)) (or_else (numbered 9 (first_bad (binds_new S) 0 n)) r)) (ten (λ i h. none_bad (used_right S) n 0 i e (omega arith) (omega arith)))
      by (some i) e = ap₂ (λ (a b : Option ℕ). or_else (numbered 8 a) (or_else (numbered 9 b) last)) eight nine ∙ ap (λ (a : Option ℕ). or_else (numbered 8 a) (or_else (numbered 9 (first_bad (binds_new S) 0 n)) last)) e ∙ sym (ap (λ (a : Option ℕ). or_else (numbered 8 a) (or_else (numbered 9 (first_bad (binds_new S) 0 n)) (numbered 10 (first_bad (in_scope S) 0 n)))) e)

pub table_right : (J : Job) → JobOk J → (heads slots : List ℕ) (cmds : ℕ) (names : List ℕ) (nnames : ℕ) (types sets : List ℕ) (ntypes nvalues : ℕ) → Holds J heads slots cmds names nnames types sets ntypes nvalues
    → table_refusal heads slots cmds names nnames types sets ntypes nvalues ≡ tree_refusal (source_of J)
table_right J ok heads slots cmds names nnames types sets ntypes nvalues h =
    rw (h.cmds_are, h.names_are, h.types_are, h.values_are)
    (table_is J ok heads slots names types sets
    (record {
      cmds_are = refl;
      names_are = refl;
      types_are = refl;
      values_are = refl;
      head = h.head;
      five = h.five;
      slot = h.slot;
      name_word_lem = h.name_word_lem;
      type_word_lem = h.type_word_lem;
      set_word_lem = h.set_word_lem;
    }))
