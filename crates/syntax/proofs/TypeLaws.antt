-- The trees of a type table whose entries' parts are earlier entries: what an entry's tree is made of, and that trees stay the same when entries are added at the end.
use Rattle.std.specs.Prelude.{◌≡◌, List, [], ◌∷◌, ◌++◌}
use Rattle.std.proofs.Math.Path.{refl, ap}
use Rattle.std.proofs.Common.{◌∙◌, arith}
use Prim.Native.Nat.{ℕ, zero, suc, ◌<◌}
use Rattle.std.proofs.Math.Option.{Option, none, some}
use Rattle.std.proofs.Math.ListN.{length, get_elem?}
use Rattle.order.proofs.OrderLaws.{get_elem?_append, get_elem?_seam, get_elem?_some}
use Rattle.syntax.specs.Types.{Ty, TypeEntry, e_num, e_pair, e_cell, e_fn, e_lim, e_grant, entry_tree, tree_in, tree}
use Rattle.syntax.specs.TypeLaws.{Earlier, Part, of_cell, of_fn_1, of_fn_2, of_pair_1, of_pair_2}

-- an entry's tree is decided by the trees of its parts
entry_tree_same : (x : TypeEntry) (f g : ℕ → Ty) → ((c : ℕ) → Part c x → f c ≡ g c) → entry_tree (some x) f ≡ entry_tree (some x) g
unfolding entry_tree
entry_tree_same (e_num q) f g s = refl
entry_tree_same (e_pair q a b) f g s = let u = s a of_pair_1 in let v = s b of_pair_2 in rw (u, v)
entry_tree_same (e_cell q a) f g s = let u = s a of_cell in rw u
entry_tree_same (e_fn q a b p) f g s = let u = s a of_fn_1 in let v = s b of_fn_2 in rw (u, v)
entry_tree_same (e_lim q r) f g s = refl
entry_tree_same (e_grant q r) f g s = refl

module _ {T : List TypeEntry} (ok : Earlier T) where
  -- more levels than i give the same tree
  levels : (f g i : ℕ) → i < f → i < g → tree_in f (get_elem? T) i ≡ tree_in g (get_elem? T) i
  unfolding tree_in entry_tree
  levels zero g i h k = absurd (omega arith)
  levels (suc f) zero i h k = absurd (omega arith)
  levels (suc f) (suc g) i h k = at (get_elem? T i) refl (λ c u v. levels f g c u v)
    where
      at : (o : Option TypeEntry) → get_elem? T i ≡ o → ((c : ℕ) → c < f → c < g → tree_in f (get_elem? T) c ≡ tree_in g (get_elem? T) c) → entry_tree o (tree_in f (get_elem? T)) ≡ entry_tree o (tree_in g (get_elem? T))
      at none z s = refl
      at (some x) z s = entry_tree_same x (tree_in f (get_elem? T)) (tree_in g (get_elem? T)) (λ c p. let u = ok.part i x z c p in s c (omega arith) (omega arith))

  -- the tree of an entry is made of the trees of its parts
  pub tree_entry : (i : ℕ) (x : TypeEntry) → get_elem? T i ≡ some x → tree T i ≡ entry_tree (some x) (tree T)
  unfolding tree tree_in
  tree_entry i x h =
      ap (λ o. entry_tree o (tree_in i (get_elem? T))) h ∙ entry_tree_same x (tree_in i (get_elem? T)) (tree T) (λ c p. let u = ok.part i x h c p in levels i (suc c) c u (omega arith))

  longer : (U : List TypeEntry) (f i : ℕ) → i < length T → tree_in f (get_elem? (T ++ U)) i ≡ tree_in f (get_elem? T) i
  unfolding tree_in
  longer U zero i h = refl
  longer U (suc f) i h = at (get_elem?_some T i h) (λ c u. longer U f c u)
    where
      at : (x : TypeEntry) × (get_elem? T i ≡ some x) → ((c : ℕ) → c < length T → tree_in f (get_elem? (T ++ U)) c ≡ tree_in f (get_elem? T) c)
          → entry_tree (get_elem? (T ++ U) i) (tree_in f (get_elem? (T ++ U))) ≡ entry_tree (get_elem? T i) (tree_in f (get_elem? T))
      at (x, z) s =
          rw (get_elem?_append T U i x z, z) (entry_tree_same x (tree_in f (get_elem? (T ++ U))) (tree_in f (get_elem? T)) (λ c p. let u = ok.part i x z c p in s c (omega arith)))

  -- trees stay the same when entries are added at the end
  pub tree_kept : (U : List TypeEntry) (i : ℕ) → i < length T → tree (T ++ U) i ≡ tree T i
  unfolding tree
  tree_kept U i h = longer U (suc i) i h

  -- the tree of a new last entry
  pub tree_new : (x : TypeEntry) → ((c : ℕ) → Part c x → c < length T) → tree (T ++ (x ∷ [])) (length T) ≡ entry_tree (some x) (tree T)
  unfolding tree tree_in
  tree_new x h =
      ap (λ o. entry_tree o (tree_in (length T) (get_elem? (T ++ (x ∷ []))))) (get_elem?_seam T x)
      ∙ entry_tree_same x (tree_in (length T) (get_elem? (T ++ (x ∷ [])))) (tree T) (λ c p. longer (x ∷ []) (length T) c (h c p) ∙ levels (length T) (suc c) c (h c p) (omega arith))
