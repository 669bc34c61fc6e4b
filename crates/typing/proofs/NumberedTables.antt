-- Type tables as typing makes them: parts are earlier entries, the content of a cell and the argument of a function are declared types, names and sets are in their
-- bounds. The trees of such a table, and the entries of variables.
use Rattle.std.specs.Prelude.{◌≡◌, refl, ℕ, zero, suc, ◌+◌, ◌*◌, ◌≤◌, ◌<◌, Bool, true, false, cond, ◌≢◌, ◌⊎◌, eqb}
use Rattle.std.proofs.Common.{sym, ap, ◌∙◌, subst, arith, inl, inr}
use Rattle.std.proofs.Math.Path.{subst⁻¹}
use mathlib.Core.List.Memᴰ
use mathlib.Core.List.{List, [], ◌∷◌, ◌++◌, map, flat_map, append_assoc, append-nil, Memᴰ}
use Rattle.std.proofs.Math.Option.{Option, some, none-ne-some, some-injective}
use Rattle.std.proofs.Math.ListN.{length, length-append, get_elem?}
use borrow.Author.Tests.{eqb-true, eq-eqb, ne_eqb, ltb-true}
use Rattle.order.proofs.Bools.{and_l, and_r}
use Rattle.order.proofs.OrderLaws.{get_elem?_snoc, get_elem?_lt, length_snoc}
use Rattle.order.proofs.SetLaws.{all_of→}
use Rattle.order.specs.Effects.{Effect}
use Rattle.order.specs.EffectLaws.{Within}
use Rattle.order.proofs.EffectLaws.{within_names}
use Rattle.syntax.specs.Types.{Ty, pair, lim, grant, TypeEntry, e_num, e_pair, e_cell, e_fn, e_lim, e_grant, entry_tree, tree}
use Rattle.syntax.specs.TypeLaws.{Part, of_pair_1, of_pair_2, of_cell, of_fn_1, of_fn_2, Earlier}
use Rattle.syntax.proofs.TypeLaws.{tree_entry, tree_kept}
use Rattle.syntax.specs.Commands.{Cmd, map_cmd}
use Rattle.syntax.specs.Operands.{nth, types_of, binds_name}
use Rattle.syntax.specs.RowLaws.{Bound, bound_none, bound_type, bound_keys}
use Rattle.syntax.proofs.RowLaws.{binds_map, bound}
use Rattle.syntax.specs.Job.{Name, HostValue, Job, value_of, source_of}
use Rattle.syntax.specs.Reading.{declared, local_name, set_ok, parts_ok, host_value_ok}
use Rattle.syntax.specs.ReadLaws.{TypesOk, JobOk}
use Rattle.syntax.proofs.ReadLaws.{built_at}
use Rattle.syntax.proofs.ReadFormed.{entry_parts, types_earlier, declared_lt, cmds_formed}
use Rattle.syntax.specs.Tree.{Entry, e_var, e_name, entries_of, binds, bound_by, host_ctx}
use Rattle.syntax.specs.Scope.{VarIn, v_here, v_var, v_name}
use Rattle.syntax.proofs.Scope.{host_var}
use Rattle.typing.specs.Least.{type_in, var_type}
use Rattle.typing.specs.Layout.{new_keys, key_entries, Typing, host_vars, keys_end, typings_of, bound_vars, entry_of, var_entry}
use Rattle.typing.specs.Numbered.{key_in, start_of}
use Rattle.typing.specs.NumberedTables.{EntryOk, KeysAt, TableOk, TreeAt, at_key, at_none, ok_cell, ok_fn, ok_grant, ok_lim, ok_num, ok_pair, with_key}

-- parts are earlier entries
pub part_low : {D N n c : ℕ} {x : TypeEntry} → EntryOk D N n x → Part c x → c < n
part_low {D = D} {N = N} {n = n} {c = c} (ok_num {q = q} _) x6 = elim x6 [ ]
part_low {D = D} {N = N} {n = n} {c = c} (ok_lim {q = q} {r = r} _ _) x9 = elim x9 [ ]
part_low {D = D} {N = N} {n = n} {c = c} (ok_grant {q = q} {r = r} _ _) x10 = elim x10 [ ]
part_low (ok_pair q a b) of_pair_1 = a
part_low (ok_pair q a b) of_pair_2 = b
part_low (ok_cell q a d) of_cell = a
part_low (ok_fn q a d b s) of_fn_1 = a
part_low (ok_fn q a d b s) of_fn_2 = b

pub table_earlier : {D N : ℕ} {T : List TypeEntry} → TableOk D N T → Earlier T
table_earlier ok = record { part = λ i x e c p. part_low (ok.each i x e) p }

-- A table that grows

pub table_snoc : {D N : ℕ} {T : List TypeEntry} → TableOk D N T → {x : TypeEntry} → EntryOk D N (length T) x → TableOk D N (T ++ (x ∷ []))
table_snoc {D} {N} {T} ok {x} h = record { each = λ i y e. at i y (get_elem?_snoc T x i y e) }
  where
    at : (i : ℕ) (y : TypeEntry) → (get_elem? T i ≡ some y) ⊎ ((i ≡ length T) × (x ≡ y)) → EntryOk D N i y
    at i y (inl z) = ok.each i y z
    at i y (inr z) = subst⁻¹ (λ n. EntryOk D N n y) z.0 (subst (λ e. EntryOk D N (length T) e) z.1 h)

-- the key of an entry
pub key_low : {D N n : ℕ} (x : TypeEntry) → EntryOk D N n x → key_in (some x) < N
unfolding key_in
key_low (e_num q) (ok_num a) = a
key_low (e_pair q y z) (ok_pair a b c) = a
key_low (e_cell q y) (ok_cell a b c) = a
key_low (e_fn q y z s) (ok_fn a b c d e) = a
key_low (e_lim q y) (ok_lim a b) = a
key_low (e_grant q y) (ok_grant a b) = a

-- Declared types

pub set_lt : (ds : List Name) (s : Effect) → set_ok ds s ≡ true → Within (2 + length ds) s
unfolding set_ok declared
set_lt ds s h = within_names (2 + length ds) s (omega arith) (λ i m. ltb-true _ _ (all_of→ (declared ds) (and_l _ _ h) m))

parts_ok_lem : (ds : List Name) (D n : ℕ) → n ≤ D → (x : TypeEntry) → parts_ok ds n x ≡ true → EntryOk D (2 + length ds) n x
unfolding parts_ok
parts_ok_lem ds D n l (e_num q) h = ok_num (declared_lt ds q h)
parts_ok_lem ds D n l (e_pair q a b) h = ok_pair (declared_lt ds q (and_l _ _ (and_l _ _ h))) (ltb-true _ _ (and_r _ _ (and_l _ _ h))) (ltb-true _ _ (and_r _ _ h))
parts_ok_lem ds D n l (e_cell q a) h = let k = ltb-true a n (and_r _ _ h) in ok_cell (declared_lt ds q (and_l _ _ h)) k (omega arith)
parts_ok_lem ds D n l (e_fn q a b s) h =
    let k = ltb-true a n (and_r _ _ (and_l _ _ (and_l _ _ h))) in
    ok_fn (declared_lt ds q (and_l _ _ (and_l _ _ (and_l _ _ h)))) k (omega arith) (ltb-true _ _ (and_r _ _ (and_l _ _ h))) (set_lt ds s (and_r _ _ h))
parts_ok_lem ds D n l (e_lim q r) h = ok_lim (declared_lt ds q (and_l _ _ (and_l _ _ h))) (declared_lt ds r (and_r _ _ (and_l _ _ h)))
parts_ok_lem ds D n l (e_grant q r) h = ok_grant (declared_lt ds q (and_l _ _ (and_l _ _ h))) (declared_lt ds r (and_r _ _ (and_l _ _ h)))

pub declared_ok : (ds : List Name) {ts : List TypeEntry} → TypesOk ds ts → TableOk (length ts) (2 + length ds) ts
declared_ok ds {ts} b = record { each = λ i x e. let l : i ≤ length ts = omega (arith, get_elem?_lt ts i x e) in parts_ok_lem ds (length ts) i l x (entry_parts ds b i x e) }

-- The entries of 0x3E

pub keys_length : (n : ℕ) (rs : List ℕ) → length (key_entries n rs) ≡ 3 * length rs
unfolding key_entries
keys_length n [] = omega arith
keys_length n (r ∷ rs) = omega (arith, keys_length (3 + n) rs)

-- n entries stand before
three : {A : Type 0} (T : List A) (x y z : A) (l : List A) → T ++ (x ∷ y ∷ z ∷ l) ≡ (((T ++ (x ∷ [])) ++ (y ∷ [])) ++ (z ∷ [])) ++ l
three T x y z l = simp append_assoc

three_length : {A : Type 0} (T : List A) (x y z : A) → length (((T ++ (x ∷ [])) ++ (y ∷ [])) ++ (z ∷ [])) ≡ 3 + length T
three_length T x y z = omega (arith, length_snoc ((T ++ (x ∷ [])) ++ (y ∷ [])) z, length_snoc (T ++ (x ∷ [])) y, length_snoc T x)

pub key_split : (T : List TypeEntry) (r : ℕ) (rs : List ℕ) → T ++ key_entries (length T) (r ∷ rs) ≡ with_key T r ++ key_entries (length (with_key T r)) rs
unfolding key_entries
key_split T r rs =
    three T (e_lim 0 r) (e_grant 0 r) (e_pair 0 (length T) (suc (length T))) (key_entries (3 + length T) rs)
    ∙ ap (λ n. with_key T r ++ key_entries n rs) (sym (three_length T (e_lim 0 r) (e_grant 0 r) (e_pair 0 (length T) (suc (length T)))))

with_key_lem : {D N : ℕ} {T : List TypeEntry} → TableOk D N T → 0 < N → (r : ℕ) → r < N → TableOk D N (with_key T r)
with_key_lem {D} {N} {T} ok p r low =
    let X = e_lim 0 r in
    let Y = e_grant 0 r in
    let a : TableOk D N (T ++ (X ∷ [])) = table_snoc ok (ok_lim p low) in
    let b : TableOk D N ((T ++ (X ∷ [])) ++ (Y ∷ [])) = table_snoc a (ok_grant p low) in
    table_snoc b (ok_pair p (omega (arith, length_snoc (T ++ (X ∷ [])) Y, length_snoc T X)) (omega (arith, length_snoc (T ++ (X ∷ [])) Y, length_snoc T X)))

pub table_keys : {D N : ℕ} {T : List TypeEntry} → TableOk D N T → 0 < N → (rs : List ℕ) → ((r : ℕ) → Memᴰ r rs → r < N) → TableOk D N (T ++ key_entries (length T) rs)
table_keys {D} {N} {T} ok p [] h = unfold key_entries in subst⁻¹ (λ l. TableOk D N l) (append-nil T) ok
table_keys {D} {N} {T} ok p (r ∷ rs) h =
    subst⁻¹ (λ l. TableOk D N l) (key_split T r rs) (table_keys (with_key_lem ok p r (h r (Memᴰ.head refl))) p rs (λ x m. h x (Memᴰ.tail m)))

seam : {A : Type 0} (T : List A) (x : A) (l : List A) → get_elem? (T ++ (x ∷ l)) (length T) ≡ some x
seam [] x l = refl
seam (y ∷ T) x l = seam T x l

seam1 : {A : Type 0} (T : List A) (w x : A) (l : List A) → get_elem? (T ++ (w ∷ x ∷ l)) (suc (length T)) ≡ some x
seam1 [] w x l = refl
seam1 (y ∷ T) w x l = seam1 T w x l

seam2 : {A : Type 0} (T : List A) (v w x : A) (l : List A) → get_elem? (T ++ (v ∷ w ∷ x ∷ l)) (suc (suc (length T))) ≡ some x
seam2 [] v w x l = refl
seam2 (y ∷ T) v w x l = seam2 T v w x l

pub keys_at_lem : (T : List TypeEntry) (rs : List ℕ) → KeysAt (T ++ key_entries (length T) rs) (length T) rs
unfolding key_entries
keys_at_lem T [] = at_none
keys_at_lem T (r ∷ rs) = at_key (seam T _ _) (seam1 T _ _ _) (let h : 2 + length T ≡ suc (suc (length T)) = omega arith in rw h (seam2 T _ _ _ _)) (rest (keys_at_lem (with_key T r) rs))
  where
    rest : KeysAt (with_key T r ++ key_entries (length (with_key T r)) rs) (length (with_key T r)) rs
        → KeysAt (T ++ (e_lim 0 r ∷ e_grant 0 r ∷ e_pair 0 (length T) (suc (length T)) ∷ key_entries (3 + length T) rs)) (3 + length T) rs
    rest k =
        subst⁻¹ (λ l. KeysAt l (3 + length T) rs) (key_split T r rs)
        (subst (λ n. KeysAt (with_key T r ++ key_entries (length (with_key T r)) rs) n rs) (three_length T (e_lim 0 r) (e_grant 0 r) (e_pair 0 (length T) (suc (length T)))) k)

-- Variables

type_in_in : (Γ : List Entry) (x : ℕ) (A : Ty) → type_in Γ x ≡ some A → VarIn x A Γ
unfolding type_in
type_in_in [] x A e = absurd (none-ne-some A e)
type_in_in (e_var y B ∷ Γ) x A e = at (eqb x y) refl e (λ h. type_in_in Γ x A h)
  where
    at : (b : Bool) → eqb x y ≡ b → cond b (some B) (type_in Γ x) ≡ some A → (type_in Γ x ≡ some A → VarIn x A Γ) → VarIn x A (e_var y B ∷ Γ)
    at true z h f = subst (λ C. VarIn x A (e_var y C ∷ Γ)) (sym (some-injective B A h)) (subst (λ t. VarIn x A (e_var t A ∷ Γ)) (eqb-true x y z) v_here)
    at false z h f = v_var (f h)
type_in_in (e_name r ∷ Γ) x A e = v_name (type_in_in Γ x A e)

-- the last bound first
module _ (ts : List TypeEntry) {D N : ℕ} {E : List TypeEntry} (ok : TableOk D N E) (kept : (t : ℕ) → t < length ts → TreeAt E (tree ts t) t) (x : ℕ) where
  by_test : (b : Bool) {B : Ty} {i : ℕ} → TreeAt E B i → {o : Option Ty} {j : ℕ} → ((A : Ty) → o ≡ some A → TreeAt E A j) → (A : Ty) → cond b (some B) o ≡ some A → TreeAt E A (cond b i j)
  by_test true {B} {i} h f A e = subst (λ C. TreeAt E C i) (some-injective B A e) h
  by_test false h f A e = f A e

  key_tree : {n r : ℕ} → get_elem? E n ≡ some (e_lim 0 r) → get_elem? E (suc n) ≡ some (e_grant 0 r) → get_elem? E (2 + n) ≡ some (e_pair 0 n (suc n)) → TreeAt E (pair 0 (lim 0 r) (grant 0 r)) (2 + n)
  unfolding entry_tree
  key_tree {n} {r} a b c = record { is = tree_entry (table_earlier ok) (2 + n) (e_pair 0 n (suc n)) c ∙ rw (tree_entry (table_earlier ok) n (e_lim 0 r) a, tree_entry (table_earlier ok) (suc n) (e_grant 0 r) b); low = get_elem?_lt E (2 + n) _ c }

  bound_at : (l : List (Cmd ℕ)) (n : ℕ) → ((i t : ℕ) → Memᴰ t (types_of (nth l i)) → t < length ts) → KeysAt E n (new_keys l) → (Γ : List Entry) (L : List Typing)
      → ((A : Ty) → type_in Γ x ≡ some A → TreeAt E A (entry_of L x)) → (A : Ty) → type_in (bound_by (map (map_cmd (tree ts)) l) ++ Γ) x ≡ some A → TreeAt E A (entry_of (bound_vars n l ++ L) x)
  unfolding new_keys bound_vars bound_by binds type_in entry_of nth flat_map
  bound_at [] n t k Γ L f A e = f A e
  bound_at (c ∷ l) n t k Γ L f A e =
      one (new_keys l) (bound_by (map (map_cmd (tree ts)) l)) (bound_vars (keys_end n (binds_name c)) l) (bound c) (t 0) k (λ h. bound_at l (keys_end n (binds_name c)) (λ i. t (suc i)) h Γ L f) A (subst (λ Δ. type_in ((Δ ++ bound_by (map (map_cmd (tree ts)) l)) ++ Γ) x ≡ some A) (binds_map (tree ts) c) e)
    where
      one : (m : List ℕ) (Δ : List Entry) (M : List Typing) {ps us qs vs rs : List ℕ} → Bound ps us qs vs rs → ((u : ℕ) → Memᴰ u us → u < length ts) → KeysAt E n (rs ++ m)
          → (KeysAt E (keys_end n rs) m → (A : Ty) → type_in (Δ ++ Γ) x ≡ some A → TreeAt E A (entry_of (M ++ L) x))
          → (A : Ty) → type_in ((entries_of ps (map (tree ts) us) qs rs ++ Δ) ++ Γ) x ≡ some A → TreeAt E A (entry_of ((typings_of n ps us qs ++ M) ++ L) x)
      one m Δ M bound_none t k f A e = f k A e
      one m Δ M (bound_type {v = v} {t = u}) t k f A e = by_test (eqb x v) (kept u (t u (Memᴰ.head refl))) (f k) A e
      one m Δ M (bound_keys {v = v}) t (at_key p q w k) f A e = by_test (eqb x v) (key_tree p q w) (f k) A e

-- the host's variables, in order
host_at_lem : (hs : List (HostValue ℕ)) (v i x : ℕ) (h : HostValue ℕ) → x ≡ v + i → get_elem? hs i ≡ some h → entry_of (host_vars v hs) x ≡ h.ty
unfolding host_vars entry_of
host_at_lem [] v i x h e g = absurd (none-ne-some h g)
host_at_lem (k ∷ hs) v zero x h e g = let z : x ≡ v = omega arith in rw (eq-eqb x v z) (ap (λ y. y.ty) (some-injective k h g))
host_at_lem (k ∷ hs) v (suc i) x h e g = let z : x ≢ v = λ y. omega arith in rw (ne_eqb x v z) (host_at_lem hs (suc v) i x h (omega arith) g)

map_at : {A B : Type 0} (f : A → B) (l : List A) (i : ℕ) (b : B) → get_elem? (map f l) i ≡ some b → (a : A) × (get_elem? l i ≡ some a) × (f a ≡ b)
map_at f [] i b e = absurd (none-ne-some b e)
map_at f (x ∷ l) zero b e = (x, refl, some-injective (f x) b e)
map_at f (x ∷ l) (suc i) b e = map_at f l i b e

-- The start

new_name : (l : List (Cmd ℕ)) (r : ℕ) → Memᴰ r (new_keys l) → (i : ℕ) × Memᴰ r (binds_name (nth l i))
unfolding new_keys binds_name nth
new_name [] r m = absurd (Memᴰ.not-nil m)
new_name (k ∷ l) r m = at (Memᴰ.append_cases (binds_name k) m) (λ w. new_name l r w)
  where
    at : Memᴰ r (binds_name k) ⊎ Memᴰ r (new_keys l) → (Memᴰ r (new_keys l) → (i : ℕ) × Memᴰ r (binds_name (nth l i))) → (i : ℕ) × Memᴰ r (binds_name (nth (k ∷ l) i))
    at (inl w) f = (0, w)
    at (inr w) f = let z = f w in (suc z.0, z.1)

pub local_lt : (ds : List Name) (r : ℕ) → local_name ds r ≡ true → r < 2 + length ds
unfolding local_name
local_lt ds r h = declared_lt ds r (and_r _ _ (and_l _ _ h))

module _ {J : Job} (j : JobOk J) where
  pub start_ok : TableOk (length J.types) (2 + length J.names) (start_of J).entries
  unfolding start_of
  start_ok =
      table_keys (declared_ok J.names j.types) (omega arith) (new_keys J.cmds) (λ r m. let z = new_name J.cmds r m in local_lt J.names r ((cmds_formed j z.0).bound_name_lem r z.1))

  -- declared types are where they were
  pub start_kept : (t : ℕ) → t < length J.types → TreeAt (start_of J).entries (tree J.types t) t
  unfolding start_of
  start_kept t h =
      record { is = tree_kept (types_earlier J.names j.types) _ t h; low = omega (arith, length-append J.types (key_entries (length J.types) (new_keys J.cmds))) }

  value_low : (i : ℕ) (h : HostValue ℕ) → get_elem? J.values i ≡ some h → h.ty < length J.types
  unfolding host_value_ok
  value_low i h e = ltb-true _ _ (and_l _ _ (built_at _ j.values i h e))

  host_typing : (x : ℕ) (A : Ty) → type_in (host_ctx (source_of J)) x ≡ some A → TreeAt (start_of J).entries A (entry_of (host_vars 0 J.values) x)
  unfolding source_of value_of
  host_typing x A e = at (host_var (source_of J) (type_in_in (host_ctx (source_of J)) x A e))
    where
      at : (h : HostValue Ty) × (get_elem? (map (value_of J.types) J.values) x ≡ some h) × (h.ty ≡ A) → TreeAt (start_of J).entries A (entry_of (host_vars 0 J.values) x)
      at (h, p, q) =
          let z = map_at (value_of J.types) J.values x h p in
          let k : entry_of (host_vars 0 J.values) x ≡ z.0.ty = host_at_lem J.values 0 x x z.0 (omega arith) z.1 in
          subst⁻¹ (λ i. TreeAt (start_of J).entries A i) k (subst (λ B. TreeAt (start_of J).entries B z.0.ty) (ap (λ y. y.ty) z.2 ∙ q) (start_kept z.0.ty (value_low x z.0 z.1)))

  -- the entry of a variable has the variable's type
  pub var_tree : (x : ℕ) (A : Ty) → var_type (source_of J) x ≡ some A → TreeAt (start_of J).entries A (var_entry J x)
  unfolding var_type var_entry start_of source_of
  var_tree x A e =
      bound_at J.types start_ok start_kept x J.cmds (length J.types) (λ i t m. (cmds_formed j i).type_operand t m) (keys_at_lem J.types (new_keys J.cmds))
      (host_ctx (source_of J)) (host_vars 0 J.values) (host_typing x) A e
