-- Binders by the tables of a job: the type table with the entries of each 0x3E, and the entries of the variables.
use Rattle.std.specs.Prelude.{◌≡◌, ℕ, zero, suc, ◌+◌, ◌*◌, ◌/◌, ◌%◌, ◌<◌, ◌≤◌, Bool, true, false, cond, List, [], ◌∷◌, ◌++◌, map, ◌≢◌, length, get_or, set, eqb}
use Rattle.std.proofs.Math.Path.{refl}
use Rattle.std.proofs.Common.{sym, ap, ◌∙◌, subst, append_assoc, append-nil, length-append, length-set, get_or-set_same, get_or-set_other, ne_eqb, eqb-true}
use native.Mathlib.Omega.{arith}
use Rattle.std.proofs.Math.Option.{some}
use Rattle.std.proofs.lemmas.List.{length-map}
use Rattle.std.proofs.Math.ListN.{get_elem?}
use Rattle.std.proofs.lemmas.Bool.{eqb-false}
use Rattle.order.proofs.OrderLaws.{length_snoc}
use Rattle.syntax.specs.Types.{TypeEntry, e_pair, e_lim, e_grant}
use Rattle.syntax.specs.Commands.{Cmd}
use Rattle.syntax.proofs.RowLaws as rows
use Rattle.syntax.specs.RowLaws as rows_defs
use Rattle.syntax.specs.Operands.{nth}
use Rattle.syntax.specs.Words.{filled, type_bits, type_word, set_word, type_words, set_words, code_in}
use Rattle.syntax.specs.Job.{HostValue}
use Rattle.syntax.proofs.ReadFormed.{map_snoc}
use Rattle.syntax.proofs.WordLaws.{filled_set, filled_zero}
use Rattle.typing.specs.Layout.{new_keys, key_entries, Typing, typing, host_vars, keys_end, typings_of, bound_vars, entry_of}
use Rattle.typing.specs.NumberedTables.{with_key}
use Rattle.typing.proofs.NumberedTables.{key_split}
use Rattle.elaborate.specs.declared.Binder.{Binder}
use Rattle.elaborate.specs.declared.Binder.TheVariants.{Nothing, Function, NewKey}
use Rattle.elaborate.specs.Binders.{binder_by, binder_of, store_key, Bound, bound, bound_one, bound_from, hosts_from}

-- By commands

unfoldable pub bound_all : List (Cmd ℕ) → Bound → Bound
bound_all [] x = x
bound_all (k ∷ l) x = bound_all l (bound_one (binder_of k) x)

pub bound_all_lem : (heads slots : List ℕ) (l : List (Cmd ℕ)) (e : ℕ) (x : Bound) → ((i : ℕ) → code_in heads slots (e + i) ≡ nth l i) → bound_from heads slots (length l) e x ≡ bound_all l x
unfolding bound_from bound_all nth
bound_all_lem heads slots [] e x h = refl
bound_all_lem heads slots (k ∷ l) e x h =
    let z : e ≡ e + 0 = omega arith in
    let y : code_in heads slots e ≡ k = ap (code_in heads slots) z ∙ h 0 in
    bound_all_lem heads slots l (e + 1) (bound_one (binder_of (code_in heads slots e)) x) (λ i. let u : e + 1 + i ≡ e + suc i = omega arith in ap (code_in heads slots) u ∙ h (suc i))
    ∙ ap (λ (c : Cmd ℕ). bound_all l (bound_one (binder_of c) x)) y

-- what the layout has of a binder
unfoldable key_of : Binder → List ℕ → List ℕ
key_of Nothing l = l
key_of (Function v t) l = l
key_of (NewKey v r) l = r ∷ l

unfoldable var_of : Binder → ℕ → List Typing → List Typing
var_of Nothing n l = l
var_of (Function v t) n l = typing v t ∷ l
var_of (NewKey v r) n l = typing v (2 + n) ∷ l

unfoldable step_of : Binder → ℕ → ℕ
step_of Nothing n = n
step_of (Function v t) n = n
step_of (NewKey v r) n = 3 + n

keys_by_lem : (k : Cmd ℕ) (l : List (Cmd ℕ)) → new_keys (k ∷ l) ≡ key_of (binder_of k) (new_keys l)
unfolding new_keys key_of binder_of
keys_by_lem k l = at (rows.bound k)
  where
    at : {ps ts qs vs rs : List ℕ} → rows_defs.Bound ps ts qs vs rs → rs ++ new_keys l ≡ key_of (binder_by ps ts qs rs) (new_keys l)
    at rows_defs.bound_none = refl
    at rows_defs.bound_type = refl
    at rows_defs.bound_keys = refl

vars_by_lem : (n : ℕ) (k : Cmd ℕ) (l : List (Cmd ℕ)) → bound_vars n (k ∷ l) ≡ var_of (binder_of k) n (bound_vars (step_of (binder_of k) n) l)
unfolding bound_vars var_of step_of binder_of
vars_by_lem n k l = at (rows.bound k)
  where
    at : {ps ts qs vs rs : List ℕ} → rows_defs.Bound ps ts qs vs rs → typings_of n ps ts qs ++ bound_vars (keys_end n rs) l ≡ var_of (binder_by ps ts qs rs) n (bound_vars (step_of (binder_by ps ts qs rs) n) l)
    at rows_defs.bound_none = refl
    at rows_defs.bound_type = refl
    at rows_defs.bound_keys = refl

-- The entries of each 0x3E

-- entries with one more at the end, in the type table
word_more : (k : ℕ) (T : List TypeEntry) (x : TypeEntry) (i w : ℕ) → i ≡ length T → w ≡ type_word x → length T < k → set (filled k 0 (type_words T)) i w ≡ filled k 0 (type_words (T ++ (x ∷ [])))
word_more k T x i w e f h =
    ap (λ (y : ℕ). set (filled k 0 (type_words T)) i y) f
    ∙ filled_set k (type_words T) i (type_word x) (omega (arith, length-map T type_word)) (e ∙ sym (length-map T type_word))
    ∙ ap (filled k 0) (sym (map_snoc type_word T x))

key_length : (T : List TypeEntry) (r : ℕ) → length (with_key T r) ≡ length T + 3
key_length T r = omega (arith, length_snoc ((T ++ (e_lim 0 r ∷ [])) ++ (e_grant 0 r ∷ [])) (e_pair 0 (length T) (suc (length T))), length_snoc (T ++ (e_lim 0 r ∷ [])) (e_grant 0 r), length_snoc T (e_lim 0 r))

layout : (k : ℕ) (T : List TypeEntry) (r : ℕ) → length T + 3 ≤ k → length T + 3 ≤ 65536 → store_key (filled k 0 (type_words T)) (length T) r ≡ filled k 0 (type_words (with_key T r))
unfolding store_key type_word
layout k T r h small =
    let a = e_lim 0 r in
    let b = e_grant 0 r in
    let c = e_pair 0 (length T) (suc (length T)) in
    let p : length T % 65536 ≡ length T = omega arith in
    let q : (length T + 1) % 65536 ≡ suc (length T) = omega arith in
    let s : type_bits 0x11 0 (length T % 65536) ((length T + 1) % 65536) ≡ type_word c = λ i. type_bits 0x11 0 (p i) (q i) in
    ap (λ (l : List ℕ). set (set l (length T + 1) (type_bits 0x15 0 r 0)) (length T + 2) (type_bits 0x11 0 (length T % 65536) ((length T + 1) % 65536)))
    (word_more k T a (length T) (type_bits 0x14 0 r 0) refl refl (omega arith))
    ∙ ap (λ (l : List ℕ). set l (length T + 2) (type_bits 0x11 0 (length T % 65536) ((length T + 1) % 65536)))
    (word_more k (T ++ (a ∷ [])) b (length T + 1) (type_bits 0x15 0 r 0) (omega (arith, length_snoc T a)) refl (omega (arith, length_snoc T a)))
    ∙ word_more k ((T ++ (a ∷ [])) ++ (b ∷ [])) c (length T + 2) _ (omega (arith, length_snoc (T ++ (a ∷ [])) b, length_snoc T a)) s (omega (arith, length_snoc (T ++ (a ∷ [])) b, length_snoc T a))

-- the table and its count, when T stands in it
pub record Keys (k : ℕ) (U : List TypeEntry) (x : Bound) : Type 0 where
  pub types : x.types ≡ filled k 0 (type_words U)
  pub count : x.count ≡ length U

-- one binder, when the rest is known
module _ (k : ℕ) (l : List (Cmd ℕ)) (T : List TypeEntry) (vs : List ℕ)
    (rest : (U : List TypeEntry) (us : List ℕ) → length U + 3 * length (new_keys l) ≤ k → length U + 3 * length (new_keys l) ≤ 65536
    → Keys k (U ++ key_entries (length U) (new_keys l)) (bound_all l (bound (length U) (filled k 0 (type_words U)) us))) where
  more : (v r : ℕ) → length T + 3 * suc (length (new_keys l)) ≤ k → length T + 3 * suc (length (new_keys l)) ≤ 65536
      → Keys k (T ++ key_entries (length T) (r ∷ new_keys l)) (bound_all l (bound (length T + 3) (store_key (filled k 0 (type_words T)) (length T) r) (set vs v ((length T + 2) % 65536))))
  more v r p q =
      let us : List ℕ = set vs v ((length T + 2) % 65536) in
      let e : bound (length (with_key T r)) (filled k 0 (type_words (with_key T r))) us ≡ bound (length T + 3) (store_key (filled k 0 (type_words T)) (length T) r) us =
      λ i. bound (key_length T r i) (sym (layout k T r (omega arith) (omega arith)) i) us in
      subst (λ (U : List TypeEntry). Keys k U (bound_all l (bound (length T + 3) (store_key (filled k 0 (type_words T)) (length T) r) us))) (sym (key_split T r (new_keys l)))
      (subst (λ (x : Bound). Keys k (with_key T r ++ key_entries (length (with_key T r)) (new_keys l)) (bound_all l x)) e
      (rest (with_key T r) us (omega (arith, key_length T r)) (omega (arith, key_length T r))))

  keys_one : (b : Binder) → length T + 3 * length (key_of b (new_keys l)) ≤ k → length T + 3 * length (key_of b (new_keys l)) ≤ 65536
      → Keys k (T ++ key_entries (length T) (key_of b (new_keys l))) (bound_all l (bound_one b (bound (length T) (filled k 0 (type_words T)) vs)))
  unfolding key_of bound_one
  keys_one Nothing p q = rest T vs p q
  keys_one (Function v t) p q = rest T (set vs v t) p q
  keys_one (NewKey v r) p q = more v r p q

pub keys_all : (k : ℕ) (l : List (Cmd ℕ)) (T : List TypeEntry) (vs : List ℕ) → length T + 3 * length (new_keys l) ≤ k → length T + 3 * length (new_keys l) ≤ 65536
    → Keys k (T ++ key_entries (length T) (new_keys l)) (bound_all l (bound (length T) (filled k 0 (type_words T)) vs))
unfolding bound_all new_keys key_entries
keys_all k [] T vs h g = record { types = ap (λ (U : List TypeEntry). filled k 0 (type_words U)) (sym (append-nil T)); count = ap length (sym (append-nil T)) }
keys_all k (c ∷ l) T vs h g =
    subst (λ (rs : List ℕ). Keys k (T ++ key_entries (length T) rs) (bound_all l (bound_one (binder_of c) (bound (length T) (filled k 0 (type_words T)) vs)))) (sym (keys_by_lem c l))
    (keys_one k l T vs (λ U us p q. keys_all k l U us p q) (binder_of c)
    (subst (λ (rs : List ℕ). length T + 3 * length rs ≤ k) (keys_by_lem c l) h)
    (subst (λ (rs : List ℕ). length T + 3 * length rs ≤ 65536) (keys_by_lem c l) g))

-- the sets of the entries of 0x3E are none
key_sets : (k n : ℕ) (rs : List ℕ) (l : List ℕ) → length l + 3 * length rs ≤ k → filled k 0 (l ++ map set_word (key_entries n rs)) ≡ filled k 0 l
unfolding key_entries set_word
key_sets k n [] l h = ap (filled k 0) (append-nil l)
key_sets k n (r ∷ rs) l h =
    let a : length (l ++ (0 ∷ [])) ≡ suc (length l) = omega (arith, length-append l (0 ∷ [])) in
    let b : length ((l ++ (0 ∷ [])) ++ (0 ∷ [])) ≡ suc (suc (length l)) = omega (arith, length-append (l ++ (0 ∷ [])) (0 ∷ []), a) in
    let c : length (((l ++ (0 ∷ [])) ++ (0 ∷ [])) ++ (0 ∷ [])) ≡ suc (suc (suc (length l))) = omega (arith, length-append ((l ++ (0 ∷ [])) ++ (0 ∷ [])) (0 ∷ []), b) in
    ap (filled k 0) (split l (map set_word (key_entries (3 + n) rs)))
    ∙ key_sets k (3 + n) rs (((l ++ (0 ∷ [])) ++ (0 ∷ [])) ++ (0 ∷ [])) (omega (arith, c))
    ∙ filled_zero k ((l ++ (0 ∷ [])) ++ (0 ∷ [])) (omega (arith, b)) ∙ filled_zero k (l ++ (0 ∷ [])) (omega (arith, a)) ∙ filled_zero k l (omega arith)
  where
    split : (l m : List ℕ) → l ++ (0 ∷ 0 ∷ 0 ∷ m) ≡ (((l ++ (0 ∷ [])) ++ (0 ∷ [])) ++ (0 ∷ [])) ++ m
    split l m = simp append_assoc

pub sets_kept : (k : ℕ) (T : List TypeEntry) (n : ℕ) (rs : List ℕ) → length T + 3 * length rs ≤ k → filled k 0 (set_words (T ++ key_entries n rs)) ≡ filled k 0 (set_words T)
sets_kept k T n rs h = ap (filled k 0) (map_append T (key_entries n rs)) ∙ key_sets k n rs (set_words T) (omega (arith, length-map T set_word))
  where
    map_append : (A B : List TypeEntry) → map set_word (A ++ B) ≡ map set_word A ++ map set_word B
    map_append [] B = refl
    map_append (x ∷ A) B = ap (λ (l : List ℕ). set_word x ∷ l) (map_append A B)

-- The entries of the variables

-- the entry of the first of a list, or another
unfoldable pub entry_or : List Typing → ℕ → ℕ → ℕ
entry_or [] v d = d
entry_or (x ∷ l) v d = cond (eqb v x.var) x.entry (entry_or l v d)

or_append : (l m : List Typing) (v : ℕ) → entry_of (l ++ m) v ≡ entry_or l v (entry_of m v)
unfolding entry_of entry_or
or_append [] m v = refl
or_append (x ∷ l) m v = ap (λ (n : ℕ). cond (eqb v x.var) x.entry n) (or_append l m v)

-- x is bound by b
pub data Binds (x : ℕ) : Binder → Type 0 where
  by_fn : {t : ℕ} → Binds x (Function x t)
  by_key : {r : ℕ} → Binds x (NewKey x r)

-- what is not bound keeps its entry
unbound : (l : List (Cmd ℕ)) (n x d : ℕ) → ((i : ℕ) → Binds x (binder_of (nth l i)) → ⊥) → entry_or (bound_vars n l) x d ≡ d
unfolding bound_vars entry_or nth var_of
unbound [] n x d h = refl
unbound (k ∷ l) n x d h =
    ap (λ (m : List Typing). entry_or m x d) (vars_by_lem n k l) ∙ at (binder_of k) (h 0) (step_of (binder_of k) n) (λ m. unbound l m x d (λ i. h (suc i)))
  where
    at : (b : Binder) → (Binds x b → ⊥) → (s : ℕ) → ((m : ℕ) → entry_or (bound_vars m l) x d ≡ d) → entry_or (var_of b n (bound_vars s l)) x d ≡ d
    at Nothing g s r = r s
    at (Function v t) g s r = ap (λ (b : Bool). cond b t (entry_or (bound_vars s l) x d)) (ne_eqb x v (λ e. g (subst (λ (y : ℕ). Binds x (Function y t)) e by_fn))) ∙ r s
    at (NewKey v q) g s r = ap (λ (b : Bool). cond b (2 + n) (entry_or (bound_vars s l) x d)) (ne_eqb x v (λ e. g (subst (λ (y : ℕ). Binds x (NewKey y q)) e by_key))) ∙ r s

-- one variable is bound, and none of the later ones is the same
one_var : (l : List (Cmd ℕ)) (m : ℕ) (vs : List ℕ) (x t v : ℕ) → x < length vs → ((i : ℕ) → Binds x (binder_of (nth l i)) → ⊥)
    → entry_or (bound_vars m l) v (get_or (set vs x t) v 0) ≡ cond (eqb v x) t (entry_or (bound_vars m l) v (get_or vs v 0))
one_var l m vs x t v h g = at (eqb v x) refl
  where
    at : (b : Bool) → eqb v x ≡ b → entry_or (bound_vars m l) v (get_or (set vs x t) v 0) ≡ cond b t (entry_or (bound_vars m l) v (get_or vs v 0))
    at true e =
        let z : v ≡ x = eqb-true v x e in
        ap (λ (y : ℕ). entry_or (bound_vars m l) y (get_or (set vs x t) y 0)) z ∙ unbound l m x (get_or (set vs x t) x 0) g ∙ get_or-set_same vs x t 0 h
    at false e = ap (entry_or (bound_vars m l) v) (get_or-set_other vs x v t 0 (eqb-false v x e))

-- so is a part of all: each variable is below the table's length and bound once
pub record Apart (l : List (Cmd ℕ)) (room : ℕ) : Type 0 where
  pub low : (i x : ℕ) → Binds x (binder_of (nth l i)) → x < room
  pub once : (i j x : ℕ) → i < j → Binds x (binder_of (nth l i)) → Binds x (binder_of (nth l j)) → ⊥

apart_rest : {k : Cmd ℕ} {l : List (Cmd ℕ)} {room : ℕ} → Apart (k ∷ l) room → Apart l room
unfolding nth
apart_rest a = record { low = λ i x b. a.low (suc i) x b; once = λ i j x h b c. a.once (suc i) (suc j) x (omega arith) b c }

pub vars_all : (l : List (Cmd ℕ)) (n : ℕ) (ts vs : List ℕ) (v : ℕ) → n + 3 * length (new_keys l) ≤ 65536 → Apart l (length vs)
    → get_or (bound_all l (bound n ts vs)).vars v 0 ≡ entry_or (bound_vars n l) v (get_or vs v 0)
unfolding bound_all bound_vars entry_or nth new_keys
vars_all [] n ts vs v h a = refl
vars_all (k ∷ l) n ts vs v h a =
    at (binder_of k) (subst (λ (rs : List ℕ). n + 3 * length rs ≤ 65536) (keys_by_lem k l) h) (λ x b. a.low 0 x b) (λ x b i c. a.once 0 (suc i) x (omega arith) b c)
    (λ m us qs p q. vars_all l m us qs v p (subst (λ (r : ℕ). Apart l r) (sym q) (apart_rest a)))
    ∙ ap (λ (m : List Typing). entry_or m v (get_or vs v 0)) (sym (vars_by_lem n k l))
  where
    at : (b : Binder) → n + 3 * length (key_of b (new_keys l)) ≤ 65536 → ((x : ℕ) → Binds x b → x < length vs) → ((x : ℕ) → Binds x b → (i : ℕ) → Binds x (binder_of (nth l i)) → ⊥)
        → ((m : ℕ) (us qs : List ℕ) → m + 3 * length (new_keys l) ≤ 65536 → length qs ≡ length vs → get_or (bound_all l (bound m us qs)).vars v 0 ≡ entry_or (bound_vars m l) v (get_or qs v 0))
        → get_or (bound_all l (bound_one b (bound n ts vs))).vars v 0 ≡ entry_or (var_of b n (bound_vars (step_of b n) l)) v (get_or vs v 0)
    at Nothing p low once rec = unfold key_of bound_one var_of step_of in rec n ts vs p refl
    at (Function x t) p low once rec =
        unfold key_of bound_one var_of step_of in rec n ts (set vs x t) p (length-set vs x t) ∙ one_var l n vs x t v (low x by_fn) (once x by_fn)
    at (NewKey x r) p low once rec =
        unfold key_of bound_one var_of step_of in
        let z : (n + 2) % 65536 ≡ 2 + n = omega arith in
        let y : n + 3 ≡ 3 + n = omega arith in
        rec (n + 3) (store_key ts n r) (set vs x ((n + 2) % 65536)) (omega arith) (length-set vs x ((n + 2) % 65536))
        ∙ (λ i. entry_or (bound_vars (y i) l) v (get_or (set vs x (z i)) v 0)) ∙ one_var l (3 + n) vs x (2 + n) v (low x by_key) (once x by_key)

-- The host's variables

later : (hs : List (HostValue ℕ)) (j v d : ℕ) → v < j → entry_or (host_vars j hs) v d ≡ d
unfolding entry_or host_vars
later [] j v d h = refl
later (x ∷ hs) j v d h = let z : v ≢ j = λ e. omega arith in ap (λ (b : Bool). cond b x.ty (entry_or (host_vars (suc j) hs) v d)) (ne_eqb v j z) ∙ later hs (suc j) v d (omega arith)

pub hosts_length : (values : List ℕ) (n i : ℕ) (vs : List ℕ) → length (hosts_from values n i vs) ≡ length vs
unfolding hosts_from
hosts_length values zero i vs = refl
hosts_length values (suc n) i vs = hosts_length values n (i + 1) (set vs i (get_or values i 0 / 256 % 65536)) ∙ length-set vs i (get_or values i 0 / 256 % 65536)

pub hosts_all : (values : List ℕ) (hs : List (HostValue ℕ)) (i : ℕ) (vs : List ℕ) (v : ℕ) → ((k : ℕ) (h : HostValue ℕ) → get_elem? hs k ≡ some h → get_or values (i + k) 0 / 256 % 65536 ≡ h.ty)
    → i + length hs ≤ length vs → get_or (hosts_from values (length hs) i vs) v 0 ≡ entry_or (host_vars i hs) v (get_or vs v 0)
unfolding hosts_from entry_or host_vars
hosts_all values [] i vs v f h = refl
hosts_all values (x ∷ hs) i vs v f h =
    let w : ℕ = get_or values i 0 / 256 % 65536 in
    let z : i + 0 ≡ i = omega arith in
    let y : w ≡ x.ty = ap (λ (n : ℕ). get_or values n 0 / 256 % 65536) (sym z) ∙ f 0 x refl in
    let u : i + 1 ≡ suc i = omega arith in
    hosts_all values hs (i + 1) (set vs i w) v (λ k g e. let q : i + 1 + k ≡ i + suc k = omega arith in ap (λ (n : ℕ). get_or values n 0 / 256 % 65536) q ∙ f (suc k) g e) (omega (arith, length-set vs i w))
    ∙ (λ j. entry_or (host_vars (u j) hs) v (get_or (set vs i (y j)) v 0)) ∙ at (eqb v i) refl
  where
    at : (b : Bool) → eqb v i ≡ b → entry_or (host_vars (suc i) hs) v (get_or (set vs i x.ty) v 0) ≡ cond b x.ty (entry_or (host_vars (suc i) hs) v (get_or vs v 0))
    at true e = let z : v ≡ i = eqb-true v i e in later hs (suc i) v (get_or (set vs i x.ty) v 0) (omega arith) ∙ ap (λ (n : ℕ). get_or (set vs i x.ty) n 0) z ∙ get_or-set_same vs i x.ty 0 (omega arith)
    at false e = ap (entry_or (host_vars (suc i) hs) v) (get_or-set_other vs i v x.ty 0 (eqb-false v i e))

-- the bound variables before the host's
pub both : (l : List (Cmd ℕ)) (hs : List (HostValue ℕ)) (n : ℕ) (v : ℕ) → entry_of (bound_vars n l ++ host_vars 0 hs) v ≡ entry_or (bound_vars n l) v (entry_or (host_vars 0 hs) v 0)
unfolding entry_of entry_or
both l hs n v = or_append (bound_vars n l) (host_vars 0 hs) v ∙ ap (entry_or (bound_vars n l) v) (ap (λ (m : List Typing). entry_of m v) (sym (append-nil (host_vars 0 hs))) ∙ or_append (host_vars 0 hs) [] v)
