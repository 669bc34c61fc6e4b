-- A job that is read is as its typing and its run rely on.
use Rattle.std.specs.Prelude.{◌≡◌, Bool, true, false, not, ◌⊎◌, length, take, drop, eqb, ltb, leb}
use Rattle.std.proofs.Math.Path.{refl, subst⁻¹}
use Rattle.std.proofs.Common.{sym, ap, ◌∙◌, subst, arith, true≢false, inl, inr, length-take, take-append-drop, lt-ltb, ltb-true, ltb-false, leb-true, eqb-true}
use Prim.Native.Nat.{ℕ, zero, suc, ◌+◌, ◌-◌, ◌≤◌, ◌<◌}
use Rattle.std.proofs.lemmas.Bool.{false≢true, eqb-false, not-true}
use mathlib.Core.List.Memᴰ
use mathlib.Core.List.{List, [], ◌∷◌, ◌++◌, map, Memᴰ}
use Rattle.std.proofs.Math.Option.{Option, none, some}
use Rattle.std.proofs.lemmas.List.{length-map}
use Rattle.std.proofs.Math.ListN.{get_elem?}
use Rattle.order.specs.Bools.{◌and◌, ◌or◌}
use Rattle.order.proofs.Bools.{and_l, and_r, or_cases, or_l, or_r, and2}
use Rattle.order.proofs.SetLaws.{all_of→}
use Rattle.order.specs.OrderLaws.{Proper}
use Rattle.order.proofs.OrderLaws.{proper_two, proper_snoc, get_elem?_append, get_elem?_lt, length_snoc}
use Rattle.order.specs.Effects.{Effect, names}
use Rattle.syntax.specs.Types.{Ty, num, pair, cell, fn, lim, grant, TypeEntry, e_num, e_pair, e_cell, e_fn, e_lim, e_grant, entry_tree, tree_in, tree, depth, names_in, by_type, on_num, on_cell, on_grant, on_lim}
use Rattle.syntax.specs.TypeLaws.{Part, of_pair_1, of_pair_2, of_cell, of_fn_1, of_fn_2, Earlier}
use Rattle.syntax.proofs.TypeLaws.{tree_entry, tree_kept}
use Rattle.syntax.specs.Commands.{Cmd, c_num, map_cmd}
pub use Rattle.syntax.proofs.RowLaws.{children_map, binds_var_map, binds_name_map, types_of_map}
use Rattle.syntax.specs.Operands.{nth, plain, inner, children, types_of, uses_var, binds_var, binds_name}
use Rattle.syntax.specs.Job.{Name, HostValue, Job, uppers, value_of, source_of}
use Rattle.syntax.specs.Reading.{most_depth, declared, set_ok, is_host, host_name, open_name, name_ok, parts_ok, type_ok, unkeyed_number, host_type_ok, host_value_ok, cmd_ok, read, reading}
use Rattle.syntax.specs.ReadLaws.{nothing, more, NamesOk, TypesOk, JobOk, with_cmds}
use Rattle.syntax.proofs.ReadLaws.{built_at, read_ok}
use Rattle.syntax.specs.WellRead.{HostTyped, ht_cell, ht_lim, ht_grant, WellRead}
use Rattle.syntax.specs.Formed.{ReducedTy, r_num, r_pair, r_cell, r_fn, r_lim, r_grant, Formed}
use Rattle.syntax.specs.ReadFormed.{CmdFormed}

-- Lists

pub map_snoc {ℓ ℓ'} : {A : Type ℓ} {B : Type ℓ'} (f : A → B) (l : List A) (a : A) → map f (l ++ (a ∷ [])) ≡ map f l ++ (f a ∷ [])
map_snoc f [] a = refl
map_snoc f (x ∷ l) a = ap (λ m. f x ∷ m) (map_snoc f l a)

-- the place of a member
pub mem_at : {A : Type 0} {a : A} {l : List A} → Memᴰ a l → (i : ℕ) × (get_elem? l i ≡ some a)
mem_at (Memᴰ.head h) = (0, ap some (sym h))
mem_at (Memᴰ.tail m) = let z = mem_at m in (suc z.0, z.1)

-- Names

-- a host name stays one when names are added
pub host_append : (ds es : List Name) (q : ℕ) → host_name ds q ≡ true → host_name (ds ++ es) q ≡ true
unfolding host_name is_host
host_append ds es q e = at (or_cases (eqb q 1) (leb 2 q and is_host (get_elem? ds (q - 2))) e)
  where
    longer : (o : Option Name) → get_elem? ds (q - 2) ≡ o → is_host o ≡ true → is_host (get_elem? (ds ++ es) (q - 2)) ≡ true
    longer none z h = absurd (false≢true h)
    longer (some d) z h = rw (get_elem?_append ds es (q - 2) d z) h

    at : (eqb q 1 ≡ true) ⊎ ((leb 2 q and is_host (get_elem? ds (q - 2))) ≡ true) → (eqb q 1 or (leb 2 q and is_host (get_elem? (ds ++ es) (q - 2)))) ≡ true
    at (inl z) = or_l _ _ z
    at (inr z) = or_r _ _ (and2 _ _ (and_l _ _ z) (longer (get_elem? ds (q - 2)) refl (and_r _ _ z)))

-- the upper name of a declared name: not 0, declared before it, and the host's where the name is
pub record UpperOk (ds : List Name) (d : Name) : Type 0 where
  pub some_upper : 0 < d.upper
  pub earlier : d.upper < 2 + length ds
  pub host_upper : d.host ≡ true → host_name ds d.upper ≡ true

pub upper_ok : (ds : List Name) (d : Name) → name_ok ds d ≡ true → UpperOk ds d
unfolding name_ok declared ◌or◌
upper_ok ds d e =
    let a = and_l (not (eqb d.upper 0) and ltb d.upper (2 + length ds)) (not d.host or host_name ds d.upper) e in
    let b = and_r (not (eqb d.upper 0) and ltb d.upper (2 + length ds)) (not d.host or host_name ds d.upper) e in
    record {
      some_upper = pos d.upper (eqb-false d.upper 0 (not-true (eqb d.upper 0) (and_l (not (eqb d.upper 0)) (ltb d.upper (2 + length ds)) a)));
      earlier = ltb-true d.upper (2 + length ds) (and_r (not (eqb d.upper 0)) (ltb d.upper (2 + length ds)) a);
      host_upper = λ h. host d.host h (host_name ds d.upper) b;
    }
  where
    pos : (n : ℕ) → (n ≡ 0 → ⊥) → 0 < n
    pos n h = omega arith

    host : (b : Bool) → b ≡ true → (c : Bool) → (not b or c) ≡ true → c ≡ true
    host true h c x = x
    host false h c x = absurd (false≢true h)

uppers_snoc : (ds : List Name) (d : Name) → uppers (ds ++ (d ∷ [])) ≡ uppers ds ++ (d.upper ∷ [])
unfolding uppers
uppers_snoc ds d = ap (λ m. 0 ∷ 1 ∷ m) (map_snoc (λ x. x.upper) ds d)

pub uppers_length : (ds : List Name) → length (uppers ds) ≡ 2 + length ds
unfolding uppers
uppers_length ds = omega (arith, length-map ds (λ (x : Name). x.upper))

pub names_proper : {ds : List Name} → NamesOk ds → Proper (uppers ds)
unfolding uppers
names_proper nothing = proper_two
names_proper (more {l} b d e) =
    let u = upper_ok l d e in subst⁻¹ (λ z. Proper z) (uppers_snoc l d) (proper_snoc (names_proper b) u.some_upper (omega (arith, uppers_length l, u.earlier)))

pub host_upper : {ds : List Name} → NamesOk ds → (i : ℕ) (d : Name) → get_elem? ds i ≡ some d → d.host ≡ true → host_name ds d.upper ≡ true
host_upper {ds} b i d e h =
    subst (λ l. host_name l d.upper ≡ true) (take-append-drop i ds) (host_append (take i ds) (drop i ds) d.upper ((upper_ok (take i ds) d (built_at name_ok b i d e)).host_upper h))

-- Declared types

-- the parts of entry i are earlier entries, and its names are declared
pub entry_parts : (ds : List Name) {ts : List TypeEntry} → TypesOk ds ts → (i : ℕ) (e : TypeEntry) → get_elem? ts i ≡ some e → parts_ok ds i e ≡ true
unfolding type_ok
entry_parts ds {ts} b i e h =
    let z : length (take i ts) ≡ i = omega (arith, length-take i ts, get_elem?_lt ts i e h) in subst (λ n. parts_ok ds n e ≡ true) z (and_l _ _ (built_at _ b i e h))

pub parts_earlier : (ds : List Name) (n : ℕ) (e : TypeEntry) → parts_ok ds n e ≡ true → (c : ℕ) → Part c e → c < n
unfolding parts_ok
parts_earlier ds n (e_num _) h c x3 = elim x3 [ ]
parts_earlier ds n (e_lim _ _) h c x5 = elim x5 [ ]
parts_earlier ds n (e_grant _ _) h c x6 = elim x6 [ ]
parts_earlier ds n (e_pair q a b) h c of_pair_1 = ltb-true c n (and_r _ _ (and_l _ _ h))
parts_earlier ds n (e_pair q a b) h c of_pair_2 = ltb-true c n (and_r _ _ h)
parts_earlier ds n (e_cell q a) h c of_cell = ltb-true c n (and_r _ _ h)
parts_earlier ds n (e_fn q a b p) h c of_fn_1 = ltb-true c n (and_r _ _ (and_l _ _ (and_l _ _ h)))
parts_earlier ds n (e_fn q a b p) h c of_fn_2 = ltb-true c n (and_r _ _ (and_l _ _ h))

pub types_earlier : (ds : List Name) {ts : List TypeEntry} → TypesOk ds ts → Earlier ts
types_earlier ds b = record { part = λ i x e. parts_earlier ds i x (entry_parts ds b i x e) }

-- the tree of an entry is made of the trees of its parts
pub tree_at : (ds : List Name) {ts : List TypeEntry} → TypesOk ds ts → (i : ℕ) (e : TypeEntry) → get_elem? ts i ≡ some e → tree ts i ≡ entry_tree (some e) (tree ts)
tree_at ds b i e h = tree_entry (types_earlier ds b) i e h

-- no declared type is deeper than 16
pub tree_depth : (ds : List Name) {ts : List TypeEntry} → TypesOk ds ts → (i : ℕ) → i < length ts → depth (tree ts i) ≤ most_depth
unfolding type_ok
tree_depth ds nothing i h = absurd (omega arith)
tree_depth ds (more {l} b e z) i h = at (ltb i (length l)) refl (λ k. tree_depth ds b i k)
  where
    at : (c : Bool) → ltb i (length l) ≡ c → (i < length l → depth (tree l i) ≤ most_depth) → depth (tree (l ++ (e ∷ [])) i) ≤ most_depth
    at true x s = let k = ltb-true i (length l) x in rw (tree_kept (types_earlier ds b) (e ∷ []) i k) (s k)
    at false x s = let k : i ≡ length l = omega (arith, ltb-false i (length l) x, length_snoc l e) in rw k (leb-true _ _ (and_r _ _ z))

pub declared_lt : (ds : List Name) (q : ℕ) → declared ds q ≡ true → q < 2 + length ds
unfolding declared
declared_lt ds q e = ltb-true q (2 + length ds) e

-- a written set has declared names alone
set_declared : (ds : List Name) (s : Effect) → set_ok ds s ≡ true → {n : ℕ} → Memᴰ n (names s) → declared ds n ≡ true
unfolding set_ok
set_declared ds s h m = all_of→ (declared ds) (and_l _ _ h) m

zero_declared : (ds : List Name) → declared ds 0 ≡ true
unfolding declared
zero_declared ds = lt-ltb 0 (2 + length ds) (omega arith)

two_declared : (ds : List Name) (q r : ℕ) → declared ds q ≡ true → declared ds r ≡ true → {n : ℕ} → Memᴰ n (q ∷ r ∷ []) → declared ds n ≡ true
two_declared ds q r x y {n} m = at (Memᴰ.cases_cons m)
  where
    at : (n ≡ q) ⊎ Memᴰ n (r ∷ []) → declared ds n ≡ true
    at (inl z) = rw z x
    at (inr z) = rw (Memᴰ.eq_of_singleton z) y

-- an entry's tree has the entry's own names, which are declared, and those of its parts
entry_tree_declared : (ds : List Name) (n : ℕ) (e : TypeEntry) → parts_ok ds n e ≡ true → (f : ℕ → Ty) → ((a : ℕ) → a < n → (x : ℕ) → Memᴰ x (names_in (f a)) → declared ds x ≡ true)
    → (x : ℕ) → Memᴰ x (names_in (entry_tree (some e) f)) → declared ds x ≡ true
unfolding entry_tree parts_ok names_in
entry_tree_declared ds n (e_num q) h f s x m = rw (Memᴰ.eq_of_singleton m) h
entry_tree_declared ds n (e_pair q a b) h f s x m = at (Memᴰ.cases_cons m)
  where
    part : Memᴰ x (names_in (f a)) ⊎ Memᴰ x (names_in (f b)) → declared ds x ≡ true
    part (inl z) = s a (ltb-true a n (and_r _ _ (and_l _ _ h))) x z
    part (inr z) = s b (ltb-true b n (and_r _ _ h)) x z

    at : (x ≡ q) ⊎ Memᴰ x (names_in (f a) ++ names_in (f b)) → declared ds x ≡ true
    at (inl z) = rw z (and_l _ _ (and_l _ _ h))
    at (inr z) = part (Memᴰ.append_cases (names_in (f a)) z)
entry_tree_declared ds n (e_cell q a) h f s x m = at (Memᴰ.cases_cons m)
  where
    at : (x ≡ q) ⊎ Memᴰ x (names_in (f a)) → declared ds x ≡ true
    at (inl z) = rw z (and_l _ _ h)
    at (inr z) = s a (ltb-true a n (and_r _ _ h)) x z
entry_tree_declared ds n (e_fn q a b p) h f s x m = at (Memᴰ.cases_cons m)
  where
    last : Memᴰ x (names_in (f b)) ⊎ Memᴰ x (names p) → declared ds x ≡ true
    last (inl z) = s b (ltb-true b n (and_r _ _ (and_l _ _ h))) x z
    last (inr z) = set_declared ds p (and_r _ _ h) z

    part : Memᴰ x (names_in (f a)) ⊎ Memᴰ x (names_in (f b) ++ names p) → declared ds x ≡ true
    part (inl z) = s a (ltb-true a n (and_r _ _ (and_l _ _ (and_l _ _ h)))) x z
    part (inr z) = last (Memᴰ.append_cases (names_in (f b)) z)

    at : (x ≡ q) ⊎ Memᴰ x (names_in (f a) ++ (names_in (f b) ++ names p)) → declared ds x ≡ true
    at (inl z) = rw z (and_l _ _ (and_l _ _ (and_l _ _ h)))
    at (inr z) = part (Memᴰ.append_cases (names_in (f a)) z)
entry_tree_declared ds n (e_lim q r) h f s x m = two_declared ds q r (and_l _ _ (and_l _ _ h)) (and_r _ _ (and_l _ _ h)) m
entry_tree_declared ds n (e_grant q r) h f s x m = two_declared ds q r (and_l _ _ (and_l _ _ h)) (and_r _ _ (and_l _ _ h)) m

levels_declared : (ds : List Name) {ts : List TypeEntry} → TypesOk ds ts → (f i : ℕ) (x : ℕ) → Memᴰ x (names_in (tree_in f (get_elem? ts) i)) → declared ds x ≡ true
unfolding tree_in entry_tree names_in
levels_declared ds b zero i x m = rw (Memᴰ.eq_of_singleton m) (zero_declared ds)
levels_declared ds {ts} b (suc f) i x m = at (get_elem? ts i) refl (λ a y w. levels_declared ds b f a y w) m
  where
    at : (o : Option TypeEntry) → get_elem? ts i ≡ o → ((a y : ℕ) → Memᴰ y (names_in (tree_in f (get_elem? ts) a)) → declared ds y ≡ true) → Memᴰ x (names_in (entry_tree o (tree_in f (get_elem? ts)))) → declared ds x ≡ true
    at none z s w = rw (Memᴰ.eq_of_singleton w) (zero_declared ds)
    at (some e) z s w = entry_tree_declared ds i e (entry_parts ds b i e z) (tree_in f (get_elem? ts)) (λ a u y v. s a y v) x w

-- every name in a declared type is declared
pub tree_declared : (ds : List Name) {ts : List TypeEntry} → TypesOk ds ts → (i x : ℕ) → Memᴰ x (names_in (tree ts i)) → declared ds x ≡ true
unfolding tree
tree_declared ds b i x m = levels_declared ds b (suc i) i x m

-- Types of host values

unkeyed : (ds : List Name) (q : ℕ) (A : Ty) → open_name ds q ≡ true → unkeyed_number A ≡ true → HostTyped ds (cell q A)
unfolding unkeyed_number on_num by_type
unkeyed ds q (num p) e h = subst⁻¹ (λ z. HostTyped ds (cell q (num z))) (eqb-true p 0 h) (ht_cell e)
unkeyed ds q (pair p A B) e h = absurd (false≢true h)
unkeyed ds q (cell p A) e h = absurd (false≢true h)
unkeyed ds q (fn p A B s) e h = absurd (false≢true h)
unkeyed ds q (lim p r) e h = absurd (false≢true h)
unkeyed ds q (grant p r) e h = absurd (false≢true h)

-- an open name that is not 0 is 1 or a host name
open_host : (ds : List Name) (r : ℕ) → open_name ds r ≡ true → not (eqb r 0) ≡ true → host_name ds r ≡ true
unfolding open_name
open_host ds r e h = at (or_cases (eqb r 0) (host_name ds r) e)
  where
    at : (eqb r 0 ≡ true) ⊎ (host_name ds r ≡ true) → host_name ds r ≡ true
    at (inl z) = absurd (true≢false (sym z ∙ not-true (eqb r 0) h))
    at (inr z) = z

pub host_open : (ds : List Name) (r : ℕ) → host_name ds r ≡ true → open_name ds r ≡ true
unfolding open_name
host_open ds r e = or_r (eqb r 0) (host_name ds r) e

pub zero_open : (ds : List Name) → open_name ds 0 ≡ true
unfolding open_name
zero_open ds = or_l (eqb 0 0) (host_name ds 0) refl

pub host_typed : {ds : List Name} {ts : List TypeEntry} → TypesOk ds ts → (t n : ℕ) → host_type_ok ds (tree ts t) n ≡ true → HostTyped ds (tree ts t)
unfolding tree tree_in entry_tree type_ok parts_ok host_type_ok on_cell by_type on_lim on_grant
host_typed {ds} {ts} b t n e = at (get_elem? ts t) (λ x z. and_l _ _ (built_at _ b t x z)) e
  where
    key : (q r : ℕ) → (declared ds q and declared ds r and not (eqb r 0)) ≡ true → (open_name ds q and open_name ds r and eqb n 0) ≡ true → (open_name ds q ≡ true) × (host_name ds r ≡ true)
    key q r x y = (and_l _ _ (and_l _ _ y), open_host ds r (and_r _ _ (and_l _ _ y)) (and_r _ _ x))

    at : (o : Option TypeEntry) → ((x : TypeEntry) → o ≡ some x → parts_ok ds (length (take t ts)) x ≡ true) → host_type_ok ds (entry_tree o (tree_in t (get_elem? ts))) n ≡ true → HostTyped ds (entry_tree o (tree_in t (get_elem? ts)))
    at none f h = absurd (false≢true h)
    at (some (e_num q)) f h = absurd (false≢true h)
    at (some (e_pair q x y)) f h = absurd (false≢true h)
    at (some (e_cell q x)) f h = unkeyed ds q (tree_in t (get_elem? ts) x) (and_l _ _ h) (and_r _ _ h)
    at (some (e_fn q x y s)) f h = absurd (false≢true h)
    at (some (e_lim q r)) f h = let z = key q r (f (e_lim q r) refl) h in ht_lim z.0 z.1
    at (some (e_grant q r)) f h = let z = key q r (f (e_grant q r) refl) h in ht_grant z.0 z.1

two : (ds : List Name) (q r : ℕ) → open_name ds q ≡ true → open_name ds r ≡ true → {n : ℕ} → Memᴰ n (q ∷ r ∷ []) → open_name ds n ≡ true
two ds q r x y {n} m = at (Memᴰ.cases_cons m)
  where
    at : (n ≡ q) ⊎ Memᴰ n (r ∷ []) → open_name ds n ≡ true
    at (inl z) = rw z x
    at (inr z) = rw (Memᴰ.eq_of_singleton z) y

pub host_names_lem : (ds : List Name) {T : Ty} → HostTyped ds T → {n : ℕ} → Memᴰ n (names_in T) → open_name ds n ≡ true
unfolding names_in
host_names_lem ds (ht_cell {q} x) m = two ds q 0 x (zero_open ds) m
host_names_lem ds (ht_lim {q} {r} x y) m = two ds q r x (host_open ds r y) m
host_names_lem ds (ht_grant {q} {r} x y) m = two ds q r x (host_open ds r y) m

-- Expressions

module _ {T U : Type 0} (f : T → U) where
  pub nth_map : (l : List (Cmd T)) (e : ℕ) → nth (map (map_cmd f) l) e ≡ map_cmd f (nth l e)
  unfolding nth map_cmd
  nth_map [] e = refl
  nth_map (k ∷ l) zero = refl
  nth_map (k ∷ l) (suc e) = nth_map l e

-- an expression's command is an entry of the list, or the number past its end
pub nth_at : {T : Type 0} (l : List (Cmd T)) (e : ℕ) → (get_elem? l e ≡ some (nth l e)) ⊎ (nth l e ≡ c_num 0)
unfolding nth
nth_at [] e = inr refl
nth_at (k ∷ l) zero = inl refl
nth_at (k ∷ l) (suc e) = nth_at l e

cmd_formed : (J : Job) (e : ℕ) (k : Cmd ℕ) → length J.cmds ≤ e → cmd_ok J k ≡ true → CmdFormed J.names (length J.types) (length J.values) e k
unfolding cmd_ok
cmd_formed J e k le h =
    let d = and_l _ _ h in
    let c = and_l _ _ d in
    let b = and_l _ _ c in
    record {
      operand = λ x m. earlier x (ltb-true _ _ (all_of→ _ (and_l _ _ b) m));
      type_operand = λ t m. ltb-true _ _ (all_of→ _ (and_r _ _ b) m);
      used_variable = λ v m. ltb-true _ _ (all_of→ _ (and_r _ _ c) m);
      bound_variable = λ v m. let z = all_of→ _ (and_r _ _ d) m in (leb-true _ _ (and_l _ _ z), ltb-true _ _ (and_r _ _ z));
      bound_name_lem = λ r m. all_of→ _ (and_r _ _ h) m;
    }
  where
    earlier : (x : ℕ) → x < length J.cmds → x < e
    earlier x z = omega arith

-- the number that stands past the end has no operands
past_formed : (ds : List Name) (types values e : ℕ) → CmdFormed ds types values e (c_num 0)
unfolding children plain inner types_of uses_var binds_var binds_name
past_formed ds types values e =
    record {
      operand = λ c m. absurd (Memᴰ.not-nil m);
      type_operand = λ t m. absurd (Memᴰ.not-nil m);
      used_variable = λ v m. absurd (Memᴰ.not-nil m);
      bound_variable = λ v m. absurd (Memᴰ.not-nil m);
      bound_name_lem = λ r m. absurd (Memᴰ.not-nil m);
    }

pub cmds_formed : {J : Job} → JobOk J → (e : ℕ) → CmdFormed J.names (length J.types) (length J.values) e (nth J.cmds e)
cmds_formed {J} j e = at (nth J.cmds e) (nth_at J.cmds e)
  where
    at : (k : Cmd ℕ) → (get_elem? J.cmds e ≡ some k) ⊎ (k ≡ c_num 0) → CmdFormed J.names (length J.types) (length J.values) e k
    at k (inl z) = cmd_formed (with_cmds J (take e J.cmds)) e k (omega (arith, length-take e J.cmds)) (built_at _ j.cmds e k z)
    at k (inr z) = subst⁻¹ (λ x. CmdFormed J.names (length J.types) (length J.values) e x) z (past_formed J.names (length J.types) (length J.values) e)

-- Host values

pub value_typed : {J : Job} → JobOk J → (h : HostValue Ty) → Memᴰ h (map (value_of J.types) J.values) → HostTyped J.names h.ty
unfolding value_of host_value_ok
value_typed {J} j h m = at (Memᴰ.of_map (value_of J.types) J.values m)
  where
    at : (x : HostValue ℕ) × Memᴰ x J.values × (value_of J.types x ≡ h) → HostTyped J.names h.ty
    at z =
        let y = mem_at z.1 in
        subst (λ v. HostTyped J.names v.ty) z.2 (host_typed j.types z.0.ty z.0.init (and_r _ _ (built_at _ j.values y.0 z.0 y.1)))

-- the sets of declared types are reduced
tree_reduced : (ds : List Name) {ts : List TypeEntry} → TypesOk ds ts → (f i : ℕ) → ReducedTy (uppers ds) (tree_in f (get_elem? ts) i)
unfolding tree_in entry_tree parts_ok set_ok
tree_reduced ds b zero i = r_num
tree_reduced ds {ts} b (suc f) i = at (get_elem? ts i) (λ e z. entry_parts ds b i e z) (λ a. tree_reduced ds b f a)
  where
    at : (o : Option TypeEntry) → ((e : TypeEntry) → o ≡ some e → parts_ok ds i e ≡ true) → ((a : ℕ) → ReducedTy (uppers ds) (tree_in f (get_elem? ts) a)) → ReducedTy (uppers ds) (entry_tree o (tree_in f (get_elem? ts)))
    at none p g = r_num
    at (some (e_num q)) p g = r_num
    at (some (e_pair q a b)) p g = r_pair (g a) (g b)
    at (some (e_cell q a)) p g = r_cell (g a)
    at (some (e_fn q a b s)) p g = r_fn (g a) (g b) (and_r _ _ (and_r _ _ (p (e_fn q a b s) refl)))
    at (some (e_lim q r)) p g = r_lim
    at (some (e_grant q r)) p g = r_grant

operand_is_reduced : (J : Job) → JobOk J → (e : ℕ) (T : Ty) → Memᴰ T (types_of (nth (map (map_cmd (tree J.types)) J.cmds) e)) → ReducedTy (uppers J.names) T
unfolding tree
operand_is_reduced J j e T m = at (Memᴰ.of_map (tree J.types) (types_of (nth J.cmds e)) (subst (λ l. Memᴰ T l) same_types m))
  where
    same_types : types_of (nth (map (map_cmd (tree J.types)) J.cmds) e) ≡ map (tree J.types) (types_of (nth J.cmds e))
    same_types = ap types_of (nth_map (tree J.types) J.cmds e) ∙ types_of_map (tree J.types) (nth J.cmds e)

    at : (t : ℕ) × Memᴰ t (types_of (nth J.cmds e)) × (tree J.types t ≡ T) → ReducedTy (uppers J.names) T
    at z = subst (λ A. ReducedTy (uppers J.names) A) z.2 (tree_reduced J.names j.types (suc z.0) z.0)

host_is_reduced : (ds : List Name) {up : List ℕ} {T : Ty} → HostTyped ds T → ReducedTy up T
host_is_reduced ds (ht_cell o) = r_cell r_num
host_is_reduced ds (ht_lim o h) = r_lim
host_is_reduced ds (ht_grant o h) = r_grant

-- The job as the rules see it

pub job_formed : (J : Job) → JobOk J → Formed (source_of J)
unfolding source_of
job_formed J j =
    record {
      some_expression = omega (arith, j.some_cmds, length-map J.cmds (map_cmd (tree J.types)));
      operand = λ e c m. (cmds_formed j e).operand c (rw (children_at e) at m);
      bound_variable = λ e v m. omega (arith, (cmds_formed j e).bound_variable v (rw (binds_var_at e) at m), length-map J.values (value_of J.types));
      bound_name_lem = λ e r m. (cmds_formed j e).bound_name_lem r (rw (binds_name_at e) at m);
      host_type = λ h m n w. host_names_lem J.names (value_typed j h m) w;
      operand_reduced = operand_is_reduced J j;
      host_reduced = λ h m. host_is_reduced J.names (value_typed j h m);
      proper = names_proper j.names;
    }
  where
    f : ℕ → Ty
    f = tree J.types

    children_at : (e : ℕ) → children (nth (map (map_cmd f) J.cmds) e) ≡ children (nth J.cmds e)
    children_at e = ap children (nth_map f J.cmds e) ∙ children_map f (nth J.cmds e)

    binds_var_at : (e : ℕ) → binds_var (nth (map (map_cmd f) J.cmds) e) ≡ binds_var (nth J.cmds e)
    binds_var_at e = ap binds_var (nth_map f J.cmds e) ∙ binds_var_map f (nth J.cmds e)

    binds_name_at : (e : ℕ) → binds_name (nth (map (map_cmd f) J.cmds) e) ≡ binds_name (nth J.cmds e)
    binds_name_at e = ap binds_name (nth_map f J.cmds e) ∙ binds_name_map f (nth J.cmds e)

pub job_well : (J : Job) → JobOk J → WellRead (source_of J)
unfolding source_of
job_well J j =
    record {
      proper = names_proper j.names;
      upper = host_upper j.names;
      value = value_typed j;
      few_names = omega (arith, j.few_names);
      few_values = omega (arith, j.few_values, length-map J.values (value_of J.types));
    }

pub read_formed : (s : List ℕ) (J : Job) → reading s ≡ read J → Formed (source_of J)
read_formed s J e = job_formed J (read_ok s J e)

pub read_well : (s : List ℕ) (J : Job) → reading s ≡ read J → WellRead (source_of J)
read_well s J e = job_well J (read_ok s J e)
