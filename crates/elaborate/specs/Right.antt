-- The pass over the tables of a job that was read and is a tree in scope comes to what typing by numbers comes to.
use Rattle.std.specs.Prelude.{◌≡◌, refl, replicate, drop}
use Rattle.std.proofs.Math.Path.{sym, ap, subst}
use Rattle.std.proofs.Common.{◌∙◌}
use Prim.Native.Nat.{ℕ, zero, suc, ◌+◌, ◌*◌, ◌/◌, ◌%◌, ◌<◌, ◌≤◌}
use native.Mathlib.Omega.{arith}
use mathlib.Core.List.{List, [], ◌∷◌, ◌++◌, map, Memᴰ, append-nil, append_assoc}
use Rattle.std.proofs.Math.Option.{none}
use Rattle.std.proofs.Math.ListN.{length, get_or, get_elem?, set, length-append}
use Rattle.std.proofs.lemmas.List.{length-map, length-replicate}
use Rattle.order.specs.Effects.{Effect, pure}
use Rattle.syntax.specs.Types.{Ty, TypeEntry}
use Rattle.syntax.specs.Commands.{Cmd, c_fn, c_newkey, map_cmd, c_num, c_top, c_var, c_pair, c_part, c_app, c_new, c_asg, c_read, c_sum, c_test, c_lim, c_grant, c_assoc, c_access, c_divide, c_spawn}
use Rattle.syntax.specs.Operands.{nth, binds_var}
use Rattle.syntax.specs.Job.{Job, source_of}
use Rattle.syntax.specs.ReadLaws.{JobOk}
use Rattle.syntax.proofs.ReadFormed.{binds_var_map}
use Rattle.syntax.proofs.ReadFormed.{map_snoc, nth_map, cmds_formed, job_formed}
use Rattle.syntax.specs.Tree.{Entry, e_var, binds, tree_refusal}
use Rattle.syntax.specs.Scope.{VarIn, v_here}
use Rattle.syntax.proofs.Context.{var_twice}
use Rattle.syntax.proofs.TreeExactly.{tree_ok}
use Rattle.syntax.specs.Types.{tree}
use Rattle.syntax.proofs.RowLaws as rows
use Rattle.syntax.specs.RowLaws as rows_defs
use Rattle.syntax.specs.Words.{filled, name_words, type_word, set_word, type_words, set_words, value_words, head_words, slot_words, effect_words, code_in}
use Rattle.syntax.specs.WordLaws.{JobFits}
use Rattle.syntax.proofs.WordLaws.{zeros_at, filled_at, effect_back, filled_set, values_back, code_back}
use Rattle.typing.specs.Layout.{new_keys, key_entries, bound_vars, host_vars, var_entry}
use Rattle.syntax.specs.Loading.{most_entries}
use Rattle.typing.specs.Numbered.{Result, makes, points, wrong, result_at, Sofar, settle, number_at, next, Whole, whole, halted, onto, number_all, start_of, numbering}
use Rattle.typing.proofs.NumberedTables.{keys_length}
use Rattle.typing.specs.NumberedLaws.{Fits}
use Rattle.typing.proofs.NumberedLaws.{Inv, inv_start, inv_next, inv_fits, number_turn, number_end}
use Rattle.typing.proofs.NumberedWords.{words_back}
use Rattle.names.specs.Ancestors.{ancestors_by}
use Rattle.elaborate.specs.declared.Binder.{Binder}
use Rattle.elaborate.specs.declared.Binder.TheVariants.{Nothing, Function, NewKey}
use Rattle.std.proofs.Common.{Ok, Err}
use Rattle.elaborate.specs.Binders.{binder_by, binder_of, Bound, bound, hosts_from}
use Rattle.elaborate.specs.Pass.{Work, work, settled, refusal, Out, out, turn, result_by, typed_from, binders_by, after_binders, numbered_by, after, stored}
use Rattle.elaborate.specs.OpsLaws.{job_ops, agree}
use Rattle.elaborate.specs.BinderLaws.{bound_all, bound_all_lem, Keys, keys_all, sets_kept, entry_or, Binds, by_fn, by_key, Apart, vars_all, hosts_length, hosts_all, both}

-- Variables are bound once

unfoldable vars_by : Binder → List ℕ
vars_by Nothing = []
vars_by (Function v t) = v ∷ []
vars_by (NewKey v r) = v ∷ []

binds_mem : {x : ℕ} {b : Binder} → Binds x b → Memᴰ x (vars_by b)
unfolding vars_by
binds_mem by_fn = mathlib.Core.List.Memᴰ.head refl
binds_mem by_key = mathlib.Core.List.Memᴰ.head refl

vars_are : (k : Cmd ℕ) → vars_by (binder_of k) ≡ binds_var k
unfolding vars_by binder_of
vars_are k = at (rows.bound k)
  where
    at : {ps ts qs vs rs : List ℕ} → rows_defs.Bound ps ts qs vs rs → vars_by (binder_by ps ts qs rs) ≡ vs
    at rows_defs.bound_none = refl
    at rows_defs.bound_type = refl
    at rows_defs.bound_keys = refl

first_in : {x v : ℕ} (T : Ty) (Γ : List Entry) → Memᴰ x (v ∷ []) → VarIn x T (e_var v T ∷ Γ)
first_in {x} T Γ (mathlib.Core.List.Memᴰ.head e) = subst (λ (y : ℕ). VarIn x T (e_var y T ∷ Γ)) e v_here
first_in T Γ (mathlib.Core.List.Memᴰ.tail m) = absurd (mathlib.Core.List.Memᴰ.not-nil m)

var_in : (k : Cmd Ty) {x : ℕ} → Memᴰ x (binds_var k) → (T : Ty) × VarIn x T (binds k)
unfolding binds_var binds
var_in (c_num _) m = elim m [ ]
var_in c_top m = elim m [ ]
var_in (c_var _) m = elim m [ ]
var_in (c_pair _ _) m = elim m [ ]
var_in (c_part _ _) m = elim m [ ]
var_in (c_app _ _) m = elim m [ ]
var_in (c_new _ _) m = elim m [ ]
var_in (c_asg _ _) m = elim m [ ]
var_in (c_read _) m = elim m [ ]
var_in (c_sum _ _ _) m = elim m [ ]
var_in (c_test _ _ _ _) m = elim m [ ]
var_in (c_lim _ _) m = elim m [ ]
var_in (c_grant _ _) m = elim m [ ]
var_in (c_assoc _ _) m = elim m [ ]
var_in (c_access _ _ _ _) m = elim m [ ]
var_in (c_divide _ _) m = elim m [ ]
var_in (c_spawn _) m = elim m [ ]
var_in (c_fn v t b) m = (_, first_in _ _ m)
var_in (c_newkey v r a b t) m = (_, first_in _ _ m)

module _ {J : Job} (j : JobOk J) (scoped : tree_refusal (source_of J) ≡ none) where
  bound_in_lem : (i x : ℕ) → Binds x (binder_of (nth J.cmds i)) → (T : Ty) × VarIn x T (binds (nth (source_of J).cmds i))
  unfolding source_of
  bound_in_lem i x b =
      let k = nth J.cmds i in
      let m : Memᴰ x (binds_var (map_cmd (tree J.types) k)) = subst (λ (l : List ℕ). Memᴰ x l) (vars_are k ∙ sym (binds_var_map (tree J.types) k)) (binds_mem b) in
      subst (λ (c : Cmd Ty). (T : Ty) × VarIn x T (binds c)) (sym (nth_map (tree J.types) J.cmds i)) (var_in (map_cmd (tree J.types) k) m)

  apart : Apart J.cmds 64
  apart =
      record {
        low = λ i x b. ((cmds_formed j i).bound_variable x (subst (λ (l : List ℕ). Memᴰ x l) (vars_are (nth J.cmds i)) (binds_mem b))).1;
        once = λ i k x h b c. var_twice (source_of J) (job_formed J j) ((tree_ok (source_of J) (job_formed J j)).0 scoped) i k h (bound_in_lem i x b).1 (bound_in_lem k x c).1;
      }

-- The pass

-- the tables that a state of the typing stands for, by their lengths
abbrev pub work_of : ℕ → ℕ → ℕ → ℕ → Sofar → Work
work_of kt ks ko ke σ = work (length σ.entries) (filled kt 0 (type_words σ.entries)) (filled ks 0 (set_words σ.entries)) (filled ko 0 σ.of) (filled ke 0 (effect_words σ.effects))

-- what a pass and the typing come to
pub data Reached (J : Job) (kt ks ko ke : ℕ) : Out → Whole → Type 0 where
  r_whole : (σ : Sofar) → Inv J (length J.cmds) σ → Reached J kt ks ko ke (out (Ok tt) (work_of kt ks ko ke σ)) (whole σ)
  r_halted : (n e : ℕ) (w : Work) → Reached J kt ks ko ke (out (Err (refusal n e)) w) (halted (record { number = n; place = e }))

words_more : {A : Type 0} (f : A → ℕ) (k : ℕ) (T : List A) (x : A) → length T < k → set (filled k 0 (map f T)) (length T) (f x) ≡ filled k 0 (map f (T ++ (x ∷ [])))
words_more f k T x h = filled_set k (map f T) (length T) (f x) (omega (arith, length-map T f)) (sym (length-map T f)) ∙ ap (filled k 0) (sym (map_snoc f T x))

words_all : (f : TypeEntry → ℕ) (k : ℕ) (T l : List TypeEntry) → length T + length l ≤ k → stored (filled k 0 (map f T)) (length T) (map f l) ≡ filled k 0 (map f (T ++ l))
unfolding stored
words_all f k T [] h = ap (λ (z : List TypeEntry). filled k 0 (map f z)) (sym (append-nil T))
words_all f k T (x ∷ l) h =
    let e : length T + 1 ≡ length (T ++ (x ∷ [])) = omega (arith, length-append T (x ∷ [])) in
    ap (λ (t : List ℕ). stored t (length T + 1) (map f l)) (words_more f k T x (omega arith))
    ∙ ap (λ (n : ℕ). stored (filled k 0 (map f (T ++ (x ∷ [])))) n (map f l)) e
    ∙ words_all f k (T ++ (x ∷ [])) l (omega (arith, e))
    ∙ ap (λ (z : List TypeEntry). filled k 0 (map f z)) (append_assoc T (x ∷ []) l)

after_is : (n : ℕ) (l : List TypeEntry) → after n l ≡ length l + n
unfolding after
after_is n [] = omega arith
after_is n (x ∷ l) = let z : length l + (n + 1) ≡ suc (length l) + n = omega arith in after_is (n + 1) l ∙ z

module _ {J : Job} (j : JobOk J) (f : JobFits J) (scoped : tree_refusal (source_of J) ≡ none) (kn kt ks ko ke kv kh kp : ℕ)
    (long_types : most_entries ≤ kt) (long_sets : most_entries ≤ ks) (long_entries : 512 ≤ ko) (long_effects : 512 ≤ ke) where
  code : (e : ℕ) → code_in (filled kh 0 (head_words J)) (filled kp 0 (slot_words J)) e ≡ nth J.cmds e
  code e = code_back J j f kh kp e

  -- Binders

  few : length J.types + 3 * length (new_keys J.cmds) ≤ most_entries
  unfolding start_of
  few =
      omega (
        arith,
        (inv_fits j {e = 0} {σ = start_of J} (omega arith) (inv_start j scoped (agree kn j))).few,
        length-append J.types (key_entries (length J.types) (new_keys J.cmds)),
        keys_length (length J.types) (new_keys J.cmds),
      )

  abbrev hosted : List ℕ
  hosted = hosts_from (filled kv 0 (value_words J)) (length J.values) 0 (replicate 64 0)

  abbrev binders : Bound
  binders = binders_by (filled kv 0 (value_words J)) (filled kh 0 (head_words J)) (filled kp 0 (slot_words J)) (length J.types) (length J.values) (length J.cmds) (filled kt 0 (type_words J.types))

  as_commands : binders ≡ bound_all J.cmds (bound (length J.types) (filled kt 0 (type_words J.types)) hosted)
  unfolding binders_by
  as_commands = bound_all_lem (filled kh 0 (head_words J)) (filled kp 0 (slot_words J)) J.cmds 0 _ (λ i. let z : 0 + i ≡ i = omega arith in ap (code_in (filled kh 0 (head_words J)) (filled kp 0 (slot_words J))) z ∙ code i)

  layout : Keys kt (start_of J).entries binders
  unfolding start_of
  layout =
      subst (λ (x : Bound). Keys kt (J.types ++ key_entries (length J.types) (new_keys J.cmds)) x) (sym as_commands)
      (keys_all kt J.cmds J.types hosted (omega (arith, few)) (omega (arith, few)))

  host_var : (v : ℕ) → get_or hosted v 0 ≡ entry_or (host_vars 0 J.values) v 0
  host_var v =
      hosts_all (filled kv 0 (value_words J)) J.values 0 (replicate 64 0) v
      (λ k h e.
      let z : 0 + k ≡ k = omega arith in
      ap (λ (n : ℕ). get_or (filled kv 0 (value_words J)) n 0 / 256 % 65536) z ∙ (values_back J f kv k h e).0)
      (omega (arith, length-replicate {A = ℕ} 64 0, j.few_values))
      ∙ ap (entry_or (host_vars 0 J.values) v) (zeros_at 64 v)

  variables : (v : ℕ) → get_or binders.vars v 0 ≡ var_entry J v
  unfolding var_entry
  variables v =
      ap (λ (x : Bound). get_or x.vars v 0) as_commands
      ∙ vars_all J.cmds (length J.types) (filled kt 0 (type_words J.types)) hosted v (omega (arith, few)) (subst (λ (n : ℕ). Apart J.cmds n) (sym (hosts_length (filled kv 0 (value_words J)) (length J.values) 0 (replicate 64 0))) (apart j scoped))
      ∙ ap (entry_or (bound_vars (length J.types) J.cmds) v) (host_var v)
      ∙ sym (both J.cmds J.values (length J.types) v)

  -- Expressions

  module _ (vs : List ℕ) (var : (v : ℕ) → get_or vs v 0 ≡ var_entry J v) where
    abbrev result : ℕ → Sofar → Result
    result e σ = result_at (job_ops kn J) (var_entry J) (get_elem? σ.entries) (λ a. get_or σ.of a 0) (λ a. get_or σ.effects a pure) (length σ.entries) (nth J.cmds e)

    same_result : (e : ℕ) (σ : Sofar) → e ≤ length J.cmds → Inv J e σ
        → result_by (ancestors_by J.names) (filled kn 0 (name_words J)) vs (filled kh 0 (head_words J)) (filled kp 0 (slot_words J)) e (work_of kt ks ko ke σ) ≡ result e σ
    unfolding result_by job_ops
    same_result e σ h v =
        let g : Fits σ = inv_fits j h v in
        let n : length σ.entries % 65536 ≡ length σ.entries = omega (arith, g.few) in
        λ i. result_at (job_ops kn J) (λ x. var x i) (λ x. words_back σ g kt ks x i) (λ a. filled_at ko σ.of a i) (λ a. effect_back ke σ.effects a i) (n i) (code e i)

    effects_more : (e : ℕ) (σ : Sofar) → e < length J.cmds → Inv J e σ → (s : Effect) → set (filled ke 0 (effect_words σ.effects)) e s.set ≡ filled ke 0 (effect_words (σ.effects ++ (s ∷ [])))
    effects_more e σ h v s =
        ap (λ (n : ℕ). set (filled ke 0 (effect_words σ.effects)) n s.set) (sym v.count_effects) ∙ words_more (λ (x : Effect). x.set) ke σ.effects s (omega (arith, v.count_effects, j.few_cmds))

    makes_more : (e : ℕ) (σ : Sofar) → e < length J.cmds → Inv J e σ → (l : List TypeEntry) (x : TypeEntry) (s : Effect) → length (σ.entries ++ (l ++ (x ∷ []))) ≤ most_entries
        → settled (makes l x s) e (work_of kt ks ko ke σ) ≡
        work_of kt ks ko ke (record { entries = σ.entries ++ (l ++ (x ∷ [])); of = σ.of ++ ((length l + length σ.entries) ∷ []); effects = σ.effects ++ (s ∷ []) })
    unfolding settled
    makes_more e σ h v l x s room =
        let n = length-append σ.entries (l ++ (x ∷ [])) in
        let m = length-append l (x ∷ []) in
        let a : after (length σ.entries) l + 1 ≡ length (σ.entries ++ (l ++ (x ∷ []))) = omega (arith, after_is (length σ.entries) l, n, m) in
        let b : after (length σ.entries) l % 65536 ≡ length l + length σ.entries = omega (arith, after_is (length σ.entries) l, n, m, room) in
        let c = ap (λ (p : ℕ). set (filled ko 0 σ.of) e p) b ∙ filled_set ko σ.of e (length l + length σ.entries) (omega (arith, v.count_of, j.few_cmds)) (sym v.count_of) in
        let d = effects_more e σ h v s in
        λ i. work (a i) (words_all type_word kt σ.entries (l ++ (x ∷ [])) (omega (arith, n, room)) i) (words_all set_word ks σ.entries (l ++ (x ∷ [])) (omega (arith, n, room)) i) (c i) (d i)

    points_more : (e : ℕ) (σ : Sofar) → e < length J.cmds → Inv J e σ → (p : ℕ) (s : Effect)
        → settled (points p s) e (work_of kt ks ko ke σ) ≡ work_of kt ks ko ke (record { entries = σ.entries; of = σ.of ++ (p ∷ []); effects = σ.effects ++ (s ∷ []) })
    unfolding settled
    points_more e σ h v p s =
        let c = filled_set ko σ.of e p (omega (arith, v.count_of, j.few_cmds)) (sym v.count_of) in
        let d = effects_more e σ h v s in
        λ i. work (length σ.entries) (filled kt 0 (type_words σ.entries)) (filled ks 0 (set_words σ.entries)) (c i) (d i)

    one : (r : Result) (e : ℕ) (σ : Sofar) → e < length J.cmds → Inv J e σ → ((τ : Sofar) → settle σ r ≡ next τ → length τ.entries ≤ most_entries) → (go : Work → Out) (on : Sofar → Whole)
        → ((τ : Sofar) → settle σ r ≡ next τ → Reached J kt ks ko ke (go (work_of kt ks ko ke τ)) (on τ)) → Reached J kt ks ko ke (turn r e (work_of kt ks ko ke σ) go) (onto (settle σ r) e on)
    unfolding turn settle onto
    one (makes l x s) e σ h v room go on rec =
        let τ : Sofar = record { entries = σ.entries ++ (l ++ (x ∷ [])); of = σ.of ++ ((length l + length σ.entries) ∷ []); effects = σ.effects ++ (s ∷ []) } in
        subst (λ (w : Work). Reached J kt ks ko ke (go w) (on τ)) (sym (makes_more e σ h v l x s (room τ refl))) (rec τ refl)
    one (points p s) e σ h v room go on rec =
        let τ : Sofar = record { entries = σ.entries; of = σ.of ++ (p ∷ []); effects = σ.effects ++ (s ∷ []) } in
        subst (λ (w : Work). Reached J kt ks ko ke (go w) (on τ)) (sym (points_more e σ h v p s)) (rec τ refl)
    one (wrong n) e σ h v room go on rec = r_halted n e (work_of kt ks ko ke σ)

    abbrev passed_from : ℕ → ℕ → Work → Out
    passed_from m e w = typed_from (ancestors_by J.names) (filled kn 0 (name_words J)) vs (filled kh 0 (head_words J)) (filled kp 0 (slot_words J)) m e w

    all : (m e : ℕ) (σ : Sofar) → m + e ≡ length J.cmds → Inv J e σ
        → Reached J kt ks ko ke (passed_from m e (work_of kt ks ko ke σ)) (number_all (job_ops kn J) (var_entry J) e (drop e J.cmds) σ)
    unfolding typed_from number_at
    all zero e σ q v =
        let z : e ≡ length J.cmds = omega arith in
        subst (λ (w : Whole). Reached J kt ks ko ke (out (Ok tt) (work_of kt ks ko ke σ)) w) (sym (number_end (job_ops kn J) (var_entry J) J.cmds e (omega arith) σ)) (r_whole σ (subst (λ (n : ℕ). Inv J n σ) z v))
    all (suc m) e σ q v =
        let h : e < length J.cmds = omega arith in
        let z : suc e ≡ e + 1 = omega arith in
        subst (λ (w : Whole). Reached J kt ks ko ke (passed_from (suc m) e (work_of kt ks ko ke σ)) w) (sym (number_turn (job_ops kn J) (var_entry J) J.cmds e h σ))
        (subst (λ (r : Result). Reached J kt ks ko ke (turn r e (work_of kt ks ko ke σ) (λ w. passed_from m (e + 1) w)) (onto (settle σ (result e σ)) e (λ τ. number_all (job_ops kn J) (var_entry J) (suc e) (drop (suc e) J.cmds) τ)))
        (sym (same_result e σ (omega arith) v))
        (one (result e σ) e σ h v (λ τ y. (inv_fits j (omega arith) (inv_next j scoped (agree kn j) e h σ τ v y)).few) (λ w. passed_from m (e + 1) w) (λ τ. number_all (job_ops kn J) (var_entry J) (suc e) (drop (suc e) J.cmds) τ)
        (λ τ y. subst (λ (n : ℕ). Reached J kt ks ko ke (passed_from m n (work_of kt ks ko ke τ)) (number_all (job_ops kn J) (var_entry J) (suc e) (drop (suc e) J.cmds) τ)) z
        (all m (suc e) τ (omega arith) (inv_next j scoped (agree kn j) e h σ τ v y)))))

  -- from the tables that reading leaves, and none yet of entries and effects
  pub numbered_right : Reached J kt ks ko ke
      (numbered_by (ancestors_by J.names) (filled kn 0 (name_words J)) (filled kv 0 (value_words J)) (filled kh 0 (head_words J)) (filled kp 0 (slot_words J)) (length J.types) (length J.values) (length J.cmds)
      (filled kt 0 (type_words J.types)) (filled ks 0 (set_words J.types)) (filled ko 0 []) (filled ke 0 [])) (numbering (job_ops kn J) J)
  unfolding numbered_by after_binders numbering
  numbered_right =
      subst (λ (w : Work). Reached J kt ks ko ke (passed_from binders.vars variables (length J.cmds) 0 w) (numbering (job_ops kn J) J)) (sym start)
      (all binders.vars variables (length J.cmds) 0 (start_of J) (omega arith) (inv_start j scoped (agree kn j)))
    where
      start : work binders.count binders.types (filled ks 0 (set_words J.types)) (filled ko 0 []) (filled ke 0 []) ≡ work_of kt ks ko ke (start_of J)
      start = unfold start_of in λ i. work (layout.count i) (layout.types i) (sym (sets_kept ks J.types (length J.types) (new_keys J.cmds) (omega (arith, few))) i) (filled ko 0 []) (filled ke 0 [])
