-- The tests on entries are the tests on trees, where the levels are as many as one of the two trees is deep, for a table whose entries' parts are earlier entries.
use Rattle.std.specs.Prelude.{◌≡◌, Bool, List, length}
use Rattle.std.proofs.Math.Path.{refl}
use Rattle.std.proofs.Common.{◌∙◌, subst, arith}
use Prim.Native.Nat.{ℕ, zero, suc, ◌≤◌, ◌<◌}
use Rattle.std.proofs.Math.Option.{Option, some}
use Rattle.std.proofs.Math.ListN.{get_elem?}
use Rattle.std.proofs.Math.Dec.{eqb}
use Rattle.order.specs.Bools.{◌and◌}
use Rattle.order.proofs.OrderLaws.{get_elem?_some}
use Rattle.order.specs.Effects.{Effect, same_effect}
use Rattle.syntax.specs.Types.{Ty, num, pair, cell, fn, lim, grant, by_type, on_num, on_pair, on_cell, on_fn, on_lim, on_grant, depth, TypeEntry, e_num, e_pair, e_cell, e_fn, e_lim, e_grant, entry_tree, tree}
use Rattle.syntax.specs.TypeLaws.{Part, of_pair_1, of_pair_2, of_cell, of_fn_1, of_fn_2}
use Rattle.syntax.proofs.TypeLaws.{tree_entry}
use Rattle.typing.specs.Subtype.{same_ty, sub_ty, super_ty}
use Rattle.typing.specs.Entries.{if_num, if_pair, if_cell, if_fn, if_lim, if_grant, level_by, same_in, sub_in, super_in}
use Rattle.typing.specs.NumberedTables.{EntryOk, ok_num, ok_pair, ok_cell, ok_fn, ok_lim, ok_grant, TableOk}
use Rattle.typing.proofs.NumberedTables.{part_low, table_earlier}
use Rattle.typing.specs.EntryLaws.{Order}

part_depth_lem : (f : ℕ → Ty) {c : ℕ} {x : TypeEntry} → Part c x → depth (f c) < depth (entry_tree (some x) f)
unfolding entry_tree depth
part_depth_lem f of_pair_1 = omega arith
part_depth_lem f of_pair_2 = omega arith
part_depth_lem f of_cell = omega arith
part_depth_lem f of_fn_1 = omega arith
part_depth_lem f of_fn_2 = omega arith

depth_some : (A : Ty) → 0 < depth A
unfolding depth
depth_some (num q) = omega arith
depth_some (pair q A B) = omega arith
depth_some (cell q A) = omega arith
depth_some (fn q A B s) = omega arith
depth_some (lim q r) = omega arith
depth_some (grant q r) = omega arith

-- what the three tests say of entries a and b is what they say of the trees A and B
record Met (up : List ℕ) (same sub super : ℕ → ℕ → Bool) (a b : ℕ) (A B : Ty) : Type 0 where
  same_met : same a b ≡ same_ty A B
  sub_met : sub a b ≡ sub_ty up A B
  super_met : super a b ≡ super_ty up A B

record EntriesMet (up : List ℕ) (bl : ℕ → ℕ → Bool) (eb : Effect → Effect → Bool) (same sub super : ℕ → ℕ → Bool) (x y : Option TypeEntry) (A B : Ty) : Type 0 where
  same_met : level_by (λ p q. eqb p q) (λ s t. same_effect s t) same same same x y ≡ same_ty A B
  sub_met : level_by bl eb sub super same x y ≡ sub_ty up A B
  super_met : level_by (λ p q. bl q p) (λ s t. eb t s) super sub same x y ≡ super_ty up A B

module _ {N : ℕ} {up : List ℕ} {bl : ℕ → ℕ → Bool} {eb : Effect → Effect → Bool} (or : Order N up bl eb) (same sub super : ℕ → ℕ → Bool) (f : ℕ → Ty) where
  -- one level: the tests of entries x and y, where those of their parts are the tests on trees
  level : {D n m : ℕ} (x y : TypeEntry) → EntryOk D N n x → EntryOk D N m y
      → ((c e : ℕ) → Part c x → Part e y → Met up same sub super c e (f c) (f e)) → EntriesMet up bl eb same sub super (some x) (some y) (entry_tree (some x) f) (entry_tree (some y) f)
  unfolding level_by if_num if_pair if_cell if_fn if_lim if_grant same_ty sub_ty by_type on_num on_pair on_cell on_fn on_lim on_grant entry_tree
  level (e_num p) (e_num q) (ok_num u) (ok_num v) h = record { same_met = refl; sub_met = or.names p q u v; super_met = or.names q p v u }
  level (e_pair p a b) (e_pair q c d) (ok_pair u x y) (ok_pair v z w) h =
      let k = h a c of_pair_1 of_pair_1 in
      let l = h b d of_pair_2 of_pair_2 in
      record {
        same_met = λ i. eqb p q and k.same_met i and l.same_met i;
        sub_met = λ i. or.names p q u v i and k.sub_met i and l.sub_met i;
        super_met = λ i. or.names q p v u i and k.super_met i and l.super_met i;
      }
  level (e_cell p a) (e_cell q c) (ok_cell u x y) (ok_cell v z w) h =
      let k = h a c of_cell of_cell in
      record {
        same_met = λ i. eqb p q and k.same_met i;
        sub_met = λ i. or.names p q u v i and k.same_met i;
        super_met = λ i. or.names q p v u i and k.same_met i;
      }
  level (e_fn p a b s) (e_fn q c d t) (ok_fn u x y z g) (ok_fn v j l w r) h =
      let k = h a c of_fn_1 of_fn_1 in
      let o = h b d of_fn_2 of_fn_2 in
      record {
        same_met = λ i. eqb p q and k.same_met i and o.same_met i and same_effect s t;
        sub_met = λ i. or.names p q u v i and k.super_met i and o.sub_met i and or.sets s t g r i;
        super_met = λ i. or.names q p v u i and k.sub_met i and o.super_met i and or.sets t s r g i;
      }
  level (e_lim p r) (e_lim q s) (ok_lim u x) (ok_lim v y) h =
      record { same_met = refl; sub_met = λ i. or.names p q u v i and eqb r s; super_met = λ i. or.names q p v u i and eqb r s }
  level (e_grant p r) (e_grant q s) (ok_grant u x) (ok_grant v y) h =
      record { same_met = refl; sub_met = λ i. or.names p q u v i and eqb r s; super_met = λ i. or.names q p v u i and eqb r s }
  level (e_num p) (e_pair q c d) v w h = record { same_met = refl; sub_met = refl; super_met = refl }
  level (e_num p) (e_cell q c) v w h = record { same_met = refl; sub_met = refl; super_met = refl }
  level (e_num p) (e_fn q c d t) v w h = record { same_met = refl; sub_met = refl; super_met = refl }
  level (e_num p) (e_lim q t) v w h = record { same_met = refl; sub_met = refl; super_met = refl }
  level (e_num p) (e_grant q t) v w h = record { same_met = refl; sub_met = refl; super_met = refl }
  level (e_pair p a b) (e_num q) v w h = record { same_met = refl; sub_met = refl; super_met = refl }
  level (e_pair p a b) (e_cell q c) v w h = record { same_met = refl; sub_met = refl; super_met = refl }
  level (e_pair p a b) (e_fn q c d t) v w h = record { same_met = refl; sub_met = refl; super_met = refl }
  level (e_pair p a b) (e_lim q t) v w h = record { same_met = refl; sub_met = refl; super_met = refl }
  level (e_pair p a b) (e_grant q t) v w h = record { same_met = refl; sub_met = refl; super_met = refl }
  level (e_cell p a) (e_num q) v w h = record { same_met = refl; sub_met = refl; super_met = refl }
  level (e_cell p a) (e_pair q c d) v w h = record { same_met = refl; sub_met = refl; super_met = refl }
  level (e_cell p a) (e_fn q c d t) v w h = record { same_met = refl; sub_met = refl; super_met = refl }
  level (e_cell p a) (e_lim q t) v w h = record { same_met = refl; sub_met = refl; super_met = refl }
  level (e_cell p a) (e_grant q t) v w h = record { same_met = refl; sub_met = refl; super_met = refl }
  level (e_fn p a b s) (e_num q) v w h = record { same_met = refl; sub_met = refl; super_met = refl }
  level (e_fn p a b s) (e_pair q c d) v w h = record { same_met = refl; sub_met = refl; super_met = refl }
  level (e_fn p a b s) (e_cell q c) v w h = record { same_met = refl; sub_met = refl; super_met = refl }
  level (e_fn p a b s) (e_lim q t) v w h = record { same_met = refl; sub_met = refl; super_met = refl }
  level (e_fn p a b s) (e_grant q t) v w h = record { same_met = refl; sub_met = refl; super_met = refl }
  level (e_lim p r) (e_num q) v w h = record { same_met = refl; sub_met = refl; super_met = refl }
  level (e_lim p r) (e_pair q c d) v w h = record { same_met = refl; sub_met = refl; super_met = refl }
  level (e_lim p r) (e_cell q c) v w h = record { same_met = refl; sub_met = refl; super_met = refl }
  level (e_lim p r) (e_fn q c d t) v w h = record { same_met = refl; sub_met = refl; super_met = refl }
  level (e_lim p r) (e_grant q t) v w h = record { same_met = refl; sub_met = refl; super_met = refl }
  level (e_grant p r) (e_num q) v w h = record { same_met = refl; sub_met = refl; super_met = refl }
  level (e_grant p r) (e_pair q c d) v w h = record { same_met = refl; sub_met = refl; super_met = refl }
  level (e_grant p r) (e_cell q c) v w h = record { same_met = refl; sub_met = refl; super_met = refl }
  level (e_grant p r) (e_fn q c d t) v w h = record { same_met = refl; sub_met = refl; super_met = refl }
  level (e_grant p r) (e_lim q t) v w h = record { same_met = refl; sub_met = refl; super_met = refl }

-- A table T, and what reads its entries
module _ {D N : ℕ} {T : List TypeEntry} (ok : TableOk D N T) (at : ℕ → Option TypeEntry) (reads : (i : ℕ) → i < length T → at i ≡ get_elem? T i) {up : List ℕ} {bl : ℕ → ℕ → Bool} {eb : Effect → Effect → Bool} (or : Order N up bl eb) where
  -- two entries of the table, the second no deeper than d
  record Near (d a b : ℕ) : Type 0 where
    in_first : a < length T
    in_second : b < length T
    no_deeper : depth (tree T b) ≤ d

  near_part : {d a b : ℕ} → Near (suc d) a b → {x y : TypeEntry} → get_elem? T a ≡ some x → get_elem? T b ≡ some y → {c e : ℕ} → Part c x → Part e y → Near d c e
  near_part {d} {a} {b} n {x} {y} p q {c} {e} u v =
      let m = subst (λ A. depth A ≤ suc d) (tree_entry (table_earlier ok) b y q) n.no_deeper in
      record { in_first = omega (arith, n.in_first, part_low (ok.each a x p) u); in_second = omega (arith, n.in_second, part_low (ok.each b y q) v); no_deeper = omega (arith, part_depth_lem (tree T) v, m) }

  never : {X : Type 0} {a b : ℕ} → Near 0 a b → X
  never {b = b} n = absurd (omega (arith, n.no_deeper, depth_some (tree T b)))

  laws : (d a b : ℕ) → Near d a b → Met up (same_in d at) (λ x y. sub_in bl eb d at x y) (λ x y. super_in bl eb d at x y) a b (tree T a) (tree T b)
  unfolding same_in sub_in
  laws zero a b n = never n
  laws (suc d) a b n = go (get_elem?_some T a n.in_first) (get_elem?_some T b n.in_second) (λ c e m. laws d c e m)
    where
      go : (x : TypeEntry) × (get_elem? T a ≡ some x) → (y : TypeEntry) × (get_elem? T b ≡ some y)
          → ((c e : ℕ) → Near d c e → Met up (same_in d at) (λ x y. sub_in bl eb d at x y) (λ x y. super_in bl eb d at x y) c e (tree T c) (tree T e))
          → Met up (same_in (suc d) at) (λ x y. sub_in bl eb (suc d) at x y) (λ x y. super_in bl eb (suc d) at x y) a b (tree T a) (tree T b)
      go (x, p) (y, q) r =
          let z = level or (same_in d at) (λ c e. sub_in bl eb d at c e) (λ c e. super_in bl eb d at c e) (tree T) x y (ok.each a x p) (ok.each b y q) (λ c e u v. r c e (near_part n p q u v)) in
          let k : at a ≡ some x = reads a n.in_first ∙ p in
          let l : at b ≡ some y = reads b n.in_second ∙ q in
          rw (tree_entry (table_earlier ok) a x p, tree_entry (table_earlier ok) b y q) (record { same_met = rw (k, l) z.same_met; sub_met = rw (k, l) z.sub_met; super_met = rw (k, l) z.super_met })

  -- below, with as many levels as the second tree is deep
  pub sub_by_second : (d a b : ℕ) → a < length T → b < length T → depth (tree T b) ≤ d → sub_in bl eb d at a b ≡ sub_ty up (tree T a) (tree T b)
  sub_by_second d a b h k l = (laws d a b (record { in_first = h; in_second = k; no_deeper = l })).sub_met
