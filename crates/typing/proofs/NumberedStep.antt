-- Typing by numbers is typing by trees, for one expression: where its operands' entries have the trees that their types are, the result is the same.
use Rattle.std.specs.Prelude.{◌≡◌, ℕ, ◌≤◌, ◌<◌, Bool, cond}
use Rattle.std.proofs.Math.Path.{refl, sym, subst⁻¹}
use Rattle.std.proofs.Common.{ap, ◌∙◌, subst}
use native.Mathlib.Omega.{arith}
use Rattle.std.proofs.Math.Bool.{true, false}
use mathlib.Core.List.Memᴰ
use mathlib.Core.List.{List, [], ◌∷◌, Memᴰ, ◌++◌, append-nil}
use Rattle.std.proofs.Math.Option.{Option, some}
use Rattle.std.proofs.Math.ListN.{length, get_elem?}
use Rattle.order.proofs.OrderLaws.{get_elem?_some, length_snoc}
use Rattle.order.specs.Effects.{Effect, pure, touch, of_names, join, drop as dropped, raise, reduce}
use Rattle.order.specs.EffectLaws.{Within}
use Rattle.order.proofs.EffectLaws.{within_pure, reduce_within, drop_within, join_within, touch_within, join_pure, pure_join, join_swap, touch_join, join_touch, raise_within}
use Rattle.syntax.specs.Types.{Ty, num, pair, cell, fn, key_of, rekey, TypeEntry, e_num, e_pair, e_cell, e_fn, e_lim, e_grant, entry_tree, tree, by_type, on_cell, on_fn, on_grant, on_lim, on_num, on_pair}
use Rattle.syntax.proofs.TypeLaws.{tree_entry, tree_new}
use Rattle.syntax.specs.Commands.{Cmd, c_num, c_top, c_var, c_pair, c_part, c_fn, c_app, c_new, c_asg, c_read, c_sum, c_test, c_lim, c_grant, c_newkey, c_assoc, c_access, c_divide, c_spawn, map_cmd}
use Rattle.syntax.specs.Operands.{plain, inner, children, types_of, uses_var, binds_name}
use Rattle.syntax.specs.Job.{Src, up_of}
use Rattle.typing.specs.Subtype.{sub_ty}
use Rattle.typing.specs.Least.{Typed, typed, untyped, with, want_num, want_pair, want_cell, want_fn, want_lim, want_grant, require, var_type, of_var, keys_at, type_at}
use Rattle.typing.specs.Layout.{rekeyed}
use Rattle.typing.specs.Numbered.{Ops, Result, makes, points, wrong, need_num, need_pair, need_cell, need_fn, need_lim, need_grant, need, key_in, fits, keys_from, result_at}
use Rattle.typing.specs.NumberedOps.{Agree}
use Rattle.typing.specs.NumberedTables.{EntryOk, ok_num, ok_pair, ok_cell, ok_fn, ok_lim, ok_grant, TableOk, TreeAt}
use Rattle.typing.proofs.NumberedTables.{key_low, part_low, table_earlier, table_snoc}

-- One effect, worked out in two ways; its names are below N
pub record Same (N : ℕ) (s t : Effect) : Type 0 where
  pub is : s ≡ t
  pub low : Within N s

-- what typing by trees and typing by numbers come to for one expression, when the entries so far are E
pub data Match (D N : ℕ) (E : List TypeEntry) : Typed → Result → Type 0 where
  m_made : {l : List TypeEntry} {x : TypeEntry} {A : Ty} {s t : Effect} → TableOk D N (E ++ l) → EntryOk D N (length (E ++ l)) x → A ≡ entry_tree (some x) (tree (E ++ l)) → Same N s t
      → Match D N E (typed A s) (makes l x t)
  m_old : {i : ℕ} {A : Ty} {s t : Effect} → TreeAt E A i → Same N s t → Match D N E (typed A s) (points i t)
  m_no : {n : ℕ} → Match D N E (untyped n) (wrong n)

-- an operand: what the trees have of it is what the numbers have
pub record Operand (N : ℕ) (E : List TypeEntry) (tab : ℕ → Typed) (of : ℕ → ℕ) (eff : ℕ → Effect) (a : ℕ) : Type 0 where
  pub is : tab a ≡ typed (tree E (of a)) (eff a)
  pub low : of a < length E
  pub small : Within N (eff a)

-- Effects

module _ {up : List ℕ} {O : Ops} (ag : Agree up O) where
  same_touch : {q : ℕ} {s t : Effect} → q < length up → Same (length up) s t → Same (length up) (touch q s) (O.touch q t)
  same_touch {q} {s} {t} h e = record { is = sym (rw (← e.is) (ag.touch q s h e.low)); low = touch_within (length up) q s h e.low }

  same_reduce : {s t : Effect} → Same (length up) s t → Same (length up) (reduce up s) (O.reduce t)
  same_reduce {s} {t} e = record { is = sym (rw (← e.is) (ag.reduce s e.low)); low = reduce_within (length up) up s e.low }

  same_drop : {r : ℕ} {s t : Effect} → r < length up → Same (length up) s t → Same (length up) (dropped up r s) (O.drop r t)
  same_drop {r} {s} {t} h e = record { is = sym (rw (← e.is) (ag.drop r s h e.low)); low = drop_within (length up) up r s e.low }

  same_raise : {r u : ℕ} {s t : Effect} → r < length up → u < length up → Same (length up) s t → Same (length up) (raise r u s) (O.raise r u t)
  same_raise {r} {u} {s} {t} h k e = record { is = sym (rw (← e.is) (ag.raise r u s h k e.low)); low = raise_within (length up) r u s k e.low }

same_self : {N : ℕ} {s : Effect} → Within N s → Same N s s
same_self h = record { is = refl; low = h }

same_join : {N : ℕ} {s t u v : Effect} → Same N s t → Same N u v → Same N (join s u) (join t v)
same_join {N} {s} {t} {u} {v} a b = record { is = rw (a.is, b.is); low = join_within N s u a.low b.low }

-- what a key's name does to an entry
rekey_ok : {D N n m r : ℕ} (x : TypeEntry) → EntryOk D N n x → n ≤ m → r < N → EntryOk D N m (rekeyed r (some x))
unfolding rekeyed
rekey_ok (e_num q) (ok_num a) h l = ok_num l
rekey_ok {m = m} (e_pair q y z) (ok_pair a b c) h l = let u : y < m = omega arith in let v : z < m = omega arith in ok_pair l u v
rekey_ok {m = m} (e_cell q y) (ok_cell a b c) h l = let u : y < m = omega arith in ok_cell l u c
rekey_ok {m = m} (e_fn q y z s) (ok_fn a b c d e) h l = let u : y < m = omega arith in let v : z < m = omega arith in ok_fn l u c v e
rekey_ok (e_lim q y) (ok_lim a b) h l = ok_lim l b
rekey_ok (e_grant q y) (ok_grant a b) h l = ok_grant l b

rekey_tree : (r : ℕ) (x : TypeEntry) (f : ℕ → Ty) → rekey r (entry_tree (some x) f) ≡ entry_tree (some (rekeyed r (some x))) f
unfolding rekey entry_tree rekeyed
rekey_tree r (e_num q) f = refl
rekey_tree r (e_pair q y z) f = refl
rekey_tree r (e_cell q y) f = refl
rekey_tree r (e_fn q y z s) f = refl
rekey_tree r (e_lim q y) f = refl
rekey_tree r (e_grant q y) f = refl

key_tree : (x : TypeEntry) (f : ℕ → Ty) → key_of (entry_tree (some x) f) ≡ key_in (some x)
unfolding key_of entry_tree key_in
key_tree (e_num q) f = refl
key_tree (e_pair q y z) f = refl
key_tree (e_cell q y) f = refl
key_tree (e_fn q y z s) f = refl
key_tree (e_lim q y) f = refl
key_tree (e_grant q y) f = refl

-- One expression

module _ (S : Src) {O : Ops} (ag : Agree (up_of S) O) (ts : List TypeEntry) {E : List TypeEntry} (ok : TableOk (length ts) (length (up_of S)) E) (two : 1 < length (up_of S))
    (kept : (t : ℕ) → t < length ts → TreeAt E (tree ts t) t) (tab : ℕ → Typed) (var : ℕ → ℕ) (of : ℕ → ℕ) (eff : ℕ → Effect)
    (law : (a t : ℕ) → a < length E → t < length ts → fits O var (get_elem? E) of eff a t ≡ sub_ty (up_of S) (tree E a) (tree E t)) where
  abbrev D : ℕ
  D = length ts

  abbrev N : ℕ
  N = length (up_of S)

  abbrev M : Typed → Result → Type 0
  M o r = Match D N E o r

  -- one entry and no more
  m_new : {x : TypeEntry} {A : Ty} {s t : Effect} → EntryOk D N (length E) x → A ≡ entry_tree (some x) (tree E) → Same N s t → M (typed A s) (makes [] x t)
  m_new {x} {A} w a z =
      let e = sym (append-nil E) in
      m_made {l = []} (subst (λ F. TableOk D N F) e ok) (subst (λ F. EntryOk D N (length F) x) e w) (subst (λ F. A ≡ entry_tree (some x) (tree F)) e a) z

  -- a number, and a pair with both parts at it
  m_two : {s t : Effect} → Same N s t → M (typed (pair 0 (num 0) (num 0)) s) (makes (e_num 0 ∷ []) (e_pair 0 (length E) (length E)) t)
  unfolding entry_tree
  m_two z =
      let low : 0 < N = omega arith in
      let w : EntryOk D N (length E) (e_num 0) = ok_num low in
      let h : length E < length (E ++ (e_num 0 ∷ [])) = omega (arith, length_snoc E (e_num 0)) in
      let n : num 0 ≡ tree (E ++ (e_num 0 ∷ [])) (length E) = sym (tree_new (table_earlier ok) (e_num 0) (λ c p. part_low w p)) in
      m_made (table_snoc ok w) (ok_pair low h h) (λ i. pair 0 (n i) (n i)) z

  abbrev Op : ℕ → Type 0
  Op a = Operand N E tab of eff a

  zero_low : 0 < N
  zero_low = omega arith

  pure_low : Within N pure
  pure_low = within_pure N

  by_operand : {a : ℕ} → Op a → (f : Ty → Effect → Typed) {r : Result} → M (f (tree E (of a)) (eff a)) r → M (with (tab a) f) r
  unfolding with
  by_operand {a} p f {r} m = subst⁻¹ (λ o. M (with o f) r) p.is m

  by_need : (n : ℕ) (b c : Bool) → c ≡ b → {o : Typed} {r : Result} → M o r → M (require n b o) (need n c r)
  unfolding require need
  by_need n true c e {o} {r} m = subst⁻¹ (λ d. M o (need n d r)) e m
  by_need n false c e {o} {r} m = subst⁻¹ (λ d. M (untyped n) (need n d r)) e m_no

  by_entry_lem : {i : ℕ} → i < length E → (P : Ty → Option TypeEntry → Type 0) → ((x : TypeEntry) → EntryOk D N i x → P (entry_tree (some x) (tree E)) (some x)) → P (tree E i) (get_elem? E i)
  by_entry_lem {i} h P f = at (get_elem?_some E i h)
    where
      at : (x : TypeEntry) × (get_elem? E i ≡ some x) → P (tree E i) (get_elem? E i)
      at (x, z) = subst⁻¹ (λ o. P (tree E i) o) z (subst⁻¹ (λ A. P A (some x)) (tree_entry (table_earlier ok) i x z) (f x (ok.each i x z)))

  by_num : {i : ℕ} → i < length E → (f : ℕ → Typed) (g : ℕ → Result) → ((q : ℕ) → q < N → M (f q) (g q)) → M (want_num (tree E i) f) (need_num (get_elem? E i) g)
  unfolding want_num need_num entry_tree on_num by_type
  by_num {i} h f g k = by_entry_lem h (λ A o. M (want_num A f) (need_num o g)) go
    where
      go : (x : TypeEntry) → EntryOk D N i x → M (want_num (entry_tree (some x) (tree E)) f) (need_num (some x) g)
      go (e_num q) (ok_num a) = k q a
      go (e_pair q y z) p = m_no
      go (e_cell q y) p = m_no
      go (e_fn q y z s) p = m_no
      go (e_lim q r) p = m_no
      go (e_grant q r) p = m_no

  by_pair : {i : ℕ} → i < length E → (f : ℕ → Ty → Ty → Typed) (g : ℕ → ℕ → ℕ → Result) → ((q a b : ℕ) → q < N → a < length E → b < length E → M (f q (tree E a) (tree E b)) (g q a b))
      → M (want_pair (tree E i) f) (need_pair (get_elem? E i) g)
  unfolding want_pair need_pair entry_tree on_pair by_type
  by_pair {i} h f g k = by_entry_lem h (λ A o. M (want_pair A f) (need_pair o g)) go
    where
      go : (x : TypeEntry) → EntryOk D N i x → M (want_pair (entry_tree (some x) (tree E)) f) (need_pair (some x) g)
      go (e_num q) p = m_no
      go (e_pair q y z) (ok_pair a b c) = k q y z a (omega arith) (omega arith)
      go (e_cell q y) p = m_no
      go (e_fn q y z s) p = m_no
      go (e_lim q r) p = m_no
      go (e_grant q r) p = m_no

  by_cell : {i : ℕ} → i < length E → (f : ℕ → Ty → Typed) (g : ℕ → ℕ → Result) → ((q t : ℕ) → q < N → t < length E → t < D → M (f q (tree E t)) (g q t))
      → M (want_cell (tree E i) f) (need_cell (get_elem? E i) g)
  unfolding want_cell need_cell entry_tree on_cell by_type
  by_cell {i} h f g k = by_entry_lem h (λ A o. M (want_cell A f) (need_cell o g)) go
    where
      go : (x : TypeEntry) → EntryOk D N i x → M (want_cell (entry_tree (some x) (tree E)) f) (need_cell (some x) g)
      go (e_num q) p = m_no
      go (e_pair q y z) p = m_no
      go (e_cell q y) (ok_cell a b c) = k q y a (omega arith) c
      go (e_fn q y z s) p = m_no
      go (e_lim q r) p = m_no
      go (e_grant q r) p = m_no

  by_fn : {i : ℕ} → i < length E → (f : ℕ → Ty → Ty → Effect → Typed) (g : ℕ → ℕ → ℕ → Effect → Result)
      → ((q t u : ℕ) (s : Effect) → q < N → t < D → u < length E → Within N s → M (f q (tree E t) (tree E u) s) (g q t u s)) → M (want_fn (tree E i) f) (need_fn (get_elem? E i) g)
  unfolding want_fn need_fn entry_tree on_fn by_type
  by_fn {i} h f g k = by_entry_lem h (λ A o. M (want_fn A f) (need_fn o g)) go
    where
      go : (x : TypeEntry) → EntryOk D N i x → M (want_fn (entry_tree (some x) (tree E)) f) (need_fn (some x) g)
      go (e_num q) p = m_no
      go (e_pair q y z) p = m_no
      go (e_cell q y) p = m_no
      go (e_fn q y z s) (ok_fn a b c d e) = k q y z s a c (omega arith) e
      go (e_lim q r) p = m_no
      go (e_grant q r) p = m_no

  by_lim : {i : ℕ} → i < length E → (f : ℕ → ℕ → Typed) (g : ℕ → ℕ → Result) → ((q r : ℕ) → q < N → r < N → M (f q r) (g q r)) → M (want_lim (tree E i) f) (need_lim (get_elem? E i) g)
  unfolding want_lim need_lim entry_tree on_lim by_type
  by_lim {i} h f g k = by_entry_lem h (λ A o. M (want_lim A f) (need_lim o g)) go
    where
      go : (x : TypeEntry) → EntryOk D N i x → M (want_lim (entry_tree (some x) (tree E)) f) (need_lim (some x) g)
      go (e_num q) p = m_no
      go (e_pair q y z) p = m_no
      go (e_cell q y) p = m_no
      go (e_fn q y z s) p = m_no
      go (e_lim q r) (ok_lim a b) = k q r a b
      go (e_grant q r) p = m_no

  by_grant : {i : ℕ} → i < length E → (f : ℕ → ℕ → Typed) (g : ℕ → ℕ → Result) → ((q r : ℕ) → q < N → r < N → M (f q r) (g q r)) → M (want_grant (tree E i) f) (need_grant (get_elem? E i) g)
  unfolding want_grant need_grant entry_tree on_grant by_type
  by_grant {i} h f g k = by_entry_lem h (λ A o. M (want_grant A f) (need_grant o g)) go
    where
      go : (x : TypeEntry) → EntryOk D N i x → M (want_grant (entry_tree (some x) (tree E)) f) (need_grant (some x) g)
      go (e_num q) p = m_no
      go (e_pair q y z) p = m_no
      go (e_cell q y) p = m_no
      go (e_fn q y z s) p = m_no
      go (e_lim q r) p = m_no
      go (e_grant q r) (ok_grant a b) = k q r a b

  eff_of : {a : ℕ} → Op a → Same N (eff a) (eff a)
  eff_of p = same_self p.small

  here : {i : ℕ} → i < length E → TreeAt E (tree E i) i
  here h = record { is = refl; low = h }

  -- the type operand stands where it was declared; a comparison with it
  declared : {t : ℕ} → t < D → tree E t ≡ tree ts t
  declared {t} h = (kept t h).is

  by_sub_lem : {a t : ℕ} → Op a → t < D → {o : Typed} {r : Result} → M o r → M (require 12 (sub_ty (up_of S) (tree E (of a)) (tree ts t)) o) (need 12 (fits O var (get_elem? E) of eff (of a) t) r)
  by_sub_lem {a} {t} p h m = by_need 12 _ _ (law (of a) t p.low h ∙ ap (λ A. sub_ty (up_of S) (tree E (of a)) A) (declared h)) m

  by_part : {a t : ℕ} → Op a → t < D → {o : Typed} {r : Result} → M o r → M (require 12 (sub_ty (up_of S) (tree E (of a)) (tree E t)) o) (need 12 (fits O var (get_elem? E) of eff (of a) t) r)
  by_part {a} {t} p h m = by_need 12 _ _ (law (of a) t p.low h) m

  touch_low : {q : ℕ} {s : Effect} → q < N → Within N s → Within N (O.touch q s)
  touch_low {q} {s} h k = rw (ag.touch q s h k) (touch_within N q s h k)

  acc_names : (r : ℕ) (n m : Effect) → r < N → Within N n → join (O.touch r n) m ≡ join n (touch r m)
  acc_names r n m h k = ap (λ x. join x m) (ag.touch r n h k) ∙ touch_join r n m ∙ sym (join_touch r n m)

  acc_effect : (q : ℕ) (s t u : Effect) → q < N → Within N (join s t) → join (O.touch q (join s t)) u ≡ join t (touch q (join s u))
  acc_effect q s t u h k = ap (λ x. join x u) (ag.touch q (join s t) h k) ∙ touch_join q (join s t) u ∙ ap (touch q) (join_swap s t u) ∙ sym (join_touch q t (join s u))

  cast : {o : Typed} (g : Effect → Effect → Result) {m n s t : Effect} → m ≡ n → s ≡ t → M o (g n t) → M o (g m s)
  cast {o} g {m} {n} {s} {t} a b x = subst⁻¹ (λ k. M o (g k s)) a (subst⁻¹ (λ u. M o (g n u)) b x)

  -- the limit keys of 0x3C: n and t are what came before
  by_keys : (ks : List ℕ) → ((a : ℕ) → Memᴰ a ks → Op a) → (n t : Effect) → Within N n → Within N t → (f : List ℕ → Effect → Typed) (g : Effect → Effect → Result)
      → ((rs : List ℕ) (s : Effect) → Within N (of_names rs) → Within N s → M (f rs s) (g (join n (of_names rs)) (join t s)))
      → M (keys_at tab ks f) (keys_from O var (get_elem? E) of eff ks n t g)
  unfolding keys_at keys_from of_names
  by_keys [] p n t hn ht f g k = cast g (sym (join_pure n)) (sym (join_pure t)) (k [] pure pure_low pure_low)
  by_keys (a ∷ ks) p n t hn ht f g k =
      let o = p a (Memᴰ.head refl) in
      by_operand o _ (by_lim o.low _ _ (λ q r hq hr.
      by_keys ks (λ c m. p c (Memᴰ.tail m)) (O.touch r n) (O.touch q (join (eff a) t)) (touch_low hr hn) (touch_low hq (join_within N (eff a) t o.small ht)) _ g (λ rs s hs ht2.
      cast g (acc_names r n (of_names rs) hr hn) (acc_effect q (eff a) t s hq (join_within N (eff a) t o.small ht))
      (k (r ∷ rs) (touch q (join (eff a) s)) (touch_within N r (of_names rs) hr hs) (touch_within N q (join (eff a) s) hq (join_within N (eff a) s o.small ht2))))))

  same_key : {n : ℕ} (x : TypeEntry) → EntryOk D N n x → {s t : Effect} → Same N s t
      → Same N (reduce (up_of S) (touch (key_of (entry_tree (some x) (tree E))) s)) (O.reduce (O.touch (key_in (some x)) t))
  same_key x w {s} {t} e =
      subst⁻¹ (λ y. Same N (reduce (up_of S) (touch y s)) (O.reduce (O.touch (key_in (some x)) t))) (key_tree x (tree E)) (same_reduce ag (same_touch ag (key_low x w) e))

  -- what a command's operands are
  pub record Given (k : Cmd ℕ) : Type 0 where
    pub operand : (c : ℕ) → Memᴰ c (children k) → Op c
    pub type : (t : ℕ) → Memᴰ t (types_of k) → t < D
    pub name : (r : ℕ) → Memᴰ r (binds_name k) → (1 < r) × (r < N)
    pub variable : (x : ℕ) → Memᴰ x (uses_var k) → (A : Ty) × (var_type S x ≡ some A) × TreeAt E A (var x)

  pub matches : (k : Cmd ℕ) → Given k → M (type_at S tab (map_cmd (tree ts) k)) (result_at O var (get_elem? E) of eff (length E) k)
  unfolding children plain inner types_of binds_name uses_var map_cmd type_at result_at entry_tree of_var join
  matches (c_num n) h = m_new (ok_num zero_low) refl (same_self pure_low)
  matches c_top h = m_new (ok_lim zero_low two) refl (same_self pure_low)
  matches (c_var x) h = at (h.variable x (Memᴰ.head refl))
    where
      at : (A : Ty) × (var_type S x ≡ some A) × TreeAt E A (var x) → M (of_var (var_type S x)) (points (var x) pure)
      at (A, e, p) = subst⁻¹ (λ o. M (of_var o) (points (var x) pure)) e (m_old p (same_self pure_low))
  matches (c_pair a b) h =
      let p = h.operand a (Memᴰ.head refl) in
      let q = h.operand b (Memᴰ.tail (Memᴰ.head refl)) in
      by_operand p _ (by_operand q _ (
      m_new (ok_pair zero_low p.low q.low) refl (same_reduce ag (same_join (eff_of p) (eff_of q)))))
  matches (c_part a i) h =
      let p = h.operand a (Memᴰ.head refl) in
      by_operand p _ (by_pair p.low _ _ (λ q x y hq hx hy.
      m_old (picked i x y hx hy) (same_reduce ag (same_touch ag hq (eff_of p)))))
    where
      picked : (i : Bool) (x y : ℕ) → x < length E → y < length E → TreeAt E (cond i (tree E x) (tree E y)) (cond i x y)
      picked true x y hx hy = here hx
      picked false x y hx hy = here hy
  matches (c_fn v t b) h =
      let p = h.operand b (Memᴰ.head refl) in
      let l = h.type t (Memᴰ.head refl) in
      by_operand p _ (
      m_new (ok_fn zero_low (kept t l).low l p.low p.small) (ap (λ A. fn 0 A (tree E (of b)) (eff b)) (sym (declared l))) (same_self pure_low))
  matches (c_app f a) h =
      let p = h.operand f (Memᴰ.head refl) in
      let q = h.operand a (Memᴰ.tail (Memᴰ.head refl)) in
      by_operand p _ (by_operand q _ (by_fn p.low _ _ (λ k t u l hk ht hu hl.
      by_part q ht (m_old (here hu) (same_reduce ag (same_touch ag hk (same_join (same_self hl) (same_join (eff_of p) (eff_of q)))))))))
  matches (c_new t a) h =
      let p = h.operand a (Memᴰ.head refl) in
      let l = h.type t (Memᴰ.head refl) in
      by_operand p _ (by_sub_lem p l (m_new (ok_cell zero_low (kept t l).low l) (ap (λ A. cell 0 A) (sym (declared l))) (eff_of p)))
  matches (c_asg a b) h =
      let p = h.operand a (Memᴰ.head refl) in
      let q = h.operand b (Memᴰ.tail (Memᴰ.head refl)) in
      by_operand p _ (by_operand q _ (by_cell p.low _ _ (λ k t hk hl ht.
      by_part q ht (m_old (here hl) (same_reduce ag (same_touch ag hk (same_join (eff_of p) (eff_of q))))))))
  matches (c_read a) h =
      let p = h.operand a (Memᴰ.head refl) in
      by_operand p _ (by_cell p.low _ _ (λ k t hk hl ht. m_old (here hl) (same_reduce ag (same_touch ag hk (eff_of p)))))
  matches (c_sum i a b) h =
      let p = h.operand a (Memᴰ.head refl) in
      let q = h.operand b (Memᴰ.tail (Memᴰ.head refl)) in
      by_operand p _ (by_operand q _ (by_num p.low _ _ (λ k hk. by_num q.low _ _ (λ l hl.
      m_new (ok_num zero_low) refl (same_reduce ag (same_touch ag hk (same_touch ag hl (same_join (eff_of p) (eff_of q)))))))))
  matches (c_test a b c t) h =
      let p = h.operand a (Memᴰ.head refl) in
      let q = h.operand b (Memᴰ.tail (Memᴰ.head refl)) in
      let r = h.operand c (Memᴰ.tail (Memᴰ.tail (Memᴰ.head refl))) in
      let l = h.type t (Memᴰ.head refl) in
      by_operand p _ (by_operand q _ (by_operand r _ (by_num p.low _ _ (λ k hk. by_sub_lem q l (by_sub_lem r l (
      m_old (kept t l) (same_reduce ag (same_touch ag hk (same_join (eff_of p) (same_join (eff_of q) (eff_of r)))))))))))
  matches (c_lim ks b) h =
      let p = h.operand b (Memᴰ.append_left [] (Memᴰ.append_right ks (Memᴰ.head refl))) in
      by_keys ks (λ a m. h.operand a (Memᴰ.append_left [] (Memᴰ.append_left (b ∷ []) m))) pure pure pure_low pure_low _ _ (λ rs s hr hs.
      cast (λ n u. need 13 (O.eff_below (eff b) n) (points (of b) (O.reduce (join u (eff b))))) (pure_join (of_names rs)) (pure_join s)
      (by_operand p _ (by_need 13 _ _ (ag.eff_below (eff b) (of_names rs) p.small hr) (m_old (here p.low) (same_reduce ag (same_join (same_self hs) (eff_of p)))))))
  matches (c_grant a b) h =
      let p = h.operand a (Memᴰ.head refl) in
      let q = h.operand b (Memᴰ.tail (Memᴰ.head refl)) in
      by_operand p _ (by_operand q _ (by_grant p.low _ _ (λ k r hk hr.
      m_old (here q.low) (same_reduce ag (same_touch ag hk (same_join (eff_of p) (same_drop ag hr (eff_of q))))))))
  matches (c_newkey v r a b t) h =
      let p = h.operand a (Memᴰ.head refl) in
      let q = h.operand b (Memᴰ.tail (Memᴰ.head refl)) in
      let l = h.type t (Memᴰ.head refl) in
      let n = h.name r (Memᴰ.head refl) in
      by_operand p _ (by_operand q _ (by_lim p.low _ _ (λ k u hk hu.
      by_need 11 _ _ (ag.over r u n.0 n.1 hu) (by_sub_lem q l (
      m_old (kept t l) (same_reduce ag (same_touch ag hk (same_join (eff_of p) (same_raise ag n.1 hu (eff_of q))))))))))
  matches (c_assoc a b) h =
      let p = h.operand a (Memᴰ.head refl) in
      let q = h.operand b (Memᴰ.tail (Memᴰ.head refl)) in
      by_operand p _ (by_operand q _ (by_lim q.low _ _ (λ k r hk hr.
      by_entry_lem p.low (λ A o. M (typed (rekey r A) (reduce (up_of S) (touch (key_of A) (touch k (join (eff a) (eff b))))))
      (makes [] (rekeyed r o) (O.reduce (O.touch (key_in o) (O.touch k (join (eff a) (eff b)))))))
      (λ x w. m_new (rekey_ok x w (omega (arith, p.low)) hr) (rekey_tree r x (tree E)) (same_key x w (same_touch ag hk (same_join (eff_of p) (eff_of q))))))))
  matches (c_access a b c t) h =
      let p = h.operand a (Memᴰ.head refl) in
      let q = h.operand b (Memᴰ.tail (Memᴰ.head refl)) in
      let o = h.operand c (Memᴰ.tail (Memᴰ.tail (Memᴰ.head refl))) in
      let l = h.type t (Memᴰ.head refl) in
      by_operand p _ (by_operand q _ (by_operand o _ (by_lim p.low _ _ (λ k r hk hr. by_sub_lem q l (by_sub_lem o l (
      m_old (kept t l) (same_reduce ag (same_touch ag hk (same_join (eff_of p) (same_join (same_drop ag hr (eff_of q)) (eff_of o)))))))))))
  matches (c_divide a b) h =
      let p = h.operand a (Memᴰ.head refl) in
      let q = h.operand b (Memᴰ.tail (Memᴰ.head refl)) in
      by_operand p _ (by_operand q _ (by_num p.low _ _ (λ k hk. by_num q.low _ _ (λ l hl.
      m_two (same_reduce ag (same_touch ag hk (same_touch ag hl (same_join (eff_of p) (eff_of q)))))))))
  matches (c_spawn b) h =
      let p = h.operand b (Memᴰ.head refl) in
      by_operand p _ (by_need _ _ _ (ag.eff_below (eff b) pure p.small pure_low) (m_new (ok_num zero_low) refl (same_self pure_low)))
