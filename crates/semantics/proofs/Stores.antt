-- The store after a new function, pair, cell, or a new content.
use Rattle.std.specs.Prelude.{◌≡◌, ℕ, suc, List, [], ◌∷◌, ◌++◌, ◌⊎◌, length, set}
use Rattle.std.proofs.Common.{sym, ap, ◌∙◌, subst, arith, inl, inr, length-set}
use Rattle.std.proofs.Math.Option.{some, some-injective}
use Rattle.std.proofs.Math.ListN.{get_elem?}
use Rattle.order.proofs.OrderLaws.{get_elem?_snoc, get_elem?_set, get_elem?_append, get_elem?_at, length_snoc}
use Rattle.syntax.specs.Job.{Src}
use Rattle.semantics.specs.Machine.{Value, Two, Link, Closure}
use Rattle.semantics.specs.RuntimeTypes.{RTy}
use Rattle.semantics.specs.Invariant.{World, TwoTy, FnTy, Ext, Fits, PairOk, CellOk, FnOk, f_fn, StoreOk}
use Rattle.semantics.proofs.Growth.{fits_ext, pair_ext, cell_ext, fn_ext}
use Rattle.semantics.specs.Stores.{world}

module _ {S : Src} {W : World} {cells : List Value} {pairs : List Two} {fns : List Closure} (o : StoreOk S W cells pairs fns) where
  -- nothing new in the store, in a wider world
  pub store_wider : (k : List ℕ) (b : List Link) → Ext W (world W.pt W.ft W.ct k b) → StoreOk S (world W.pt W.ft W.ct k b) cells pairs fns
  store_wider k b x = record {
    plen = o.plen;
    ps = λ i a e. pair_ext x (o.ps i a e);
    clen = o.clen;
    cs = λ i a e. cell_ext x (o.cs i a e);
    flen = o.flen;
    fs = λ i a e. fn_ext x (o.fs i a e);
  }

  abbrev fn_world : FnTy → World
  fn_world t = world W.pt (W.ft ++ (t ∷ [])) W.ct W.keys W.links

  pub fn_extends : (t : FnTy) → Ext W (fn_world t)
  fn_extends t = record { pts = λ i a e. e; fts = get_elem?_append W.ft (t ∷ []); cts = λ i a e. e; ks = λ a b h. h; klen = omega arith; lks = λ i l e. e }

  pub add_fn : (t : FnTy) (x : Closure) → ((i : ℕ) → i ≡ length fns → FnOk S (fn_world t) (fns ++ (x ∷ [])) i t) → StoreOk S (fn_world t) cells pairs (fns ++ (x ∷ []))
  add_fn t x h = record {
    plen = o.plen;
    ps = λ i a e. pair_ext (fn_extends t) (o.ps i a e);
    clen = o.clen;
    cs = λ i a e. cell_ext (fn_extends t) (o.cs i a e);
    flen = length_snoc fns x ∙ ap suc o.flen ∙ sym (length_snoc W.ft t);
    fs = λ i a e. at i a (get_elem?_snoc W.ft t i a e);
  }
    where
      wider : (i : ℕ) (a : FnTy) → FnOk S (fn_world t) fns i a → FnOk S (fn_world t) (fns ++ (x ∷ [])) i a
      wider i a (f_fn e z h) = f_fn (get_elem?_append fns (x ∷ []) i _ e) z h

      at : (i : ℕ) (a : FnTy) → (get_elem? W.ft i ≡ some a) ⊎ ((i ≡ length W.ft) × (t ≡ a)) → FnOk S (fn_world t) (fns ++ (x ∷ [])) i a
      at i a (inl e) = wider i a (fn_ext (fn_extends t) (o.fs i a e))
      at i a (inr e) = subst (λ z. FnOk S (fn_world t) (fns ++ (x ∷ [])) i z) e.1 (h i (e.0 ∙ sym o.flen))

  abbrev pair_world : TwoTy → World
  pair_world t = world (W.pt ++ (t ∷ [])) W.ft W.ct W.keys W.links

  pub pair_extends : (t : TwoTy) → Ext W (pair_world t)
  pair_extends t = record { pts = get_elem?_append W.pt (t ∷ []); fts = λ i a e. e; cts = λ i a e. e; ks = λ a b h. h; klen = omega arith; lks = λ i l e. e }

  pub add_pair : (t : TwoTy) (x : Two) → Fits (pair_world t) x.one t.one → Fits (pair_world t) x.two t.two → StoreOk S (pair_world t) cells (pairs ++ (x ∷ [])) fns
  add_pair t x g h = record {
    plen = length_snoc pairs x ∙ ap suc o.plen ∙ sym (length_snoc W.pt t);
    ps = λ i a e. at i a (get_elem?_snoc W.pt t i a e);
    clen = o.clen;
    cs = λ i a e. cell_ext (pair_extends t) (o.cs i a e);
    flen = o.flen;
    fs = λ i a e. fn_ext (pair_extends t) (o.fs i a e);
  }
    where
      wider : (i : ℕ) (a : TwoTy) → PairOk (pair_world t) pairs i a → PairOk (pair_world t) (pairs ++ (x ∷ [])) i a
      wider i a q = record { at = q.at; found = get_elem?_append pairs (x ∷ []) i q.at q.found; one = q.one; two = q.two }

      at : (i : ℕ) (a : TwoTy) → (get_elem? W.pt i ≡ some a) ⊎ ((i ≡ length W.pt) × (t ≡ a)) → PairOk (pair_world t) (pairs ++ (x ∷ [])) i a
      at i a (inl e) = wider i a (pair_ext (pair_extends t) (o.ps i a e))
      at i a (inr e) = subst (λ z. PairOk (pair_world t) (pairs ++ (x ∷ [])) i z) e.1 (record { at = x; found = get_elem?_at pairs x i (e.0 ∙ sym o.plen); one = g; two = h })

  abbrev cell_world : RTy → World
  cell_world t = world W.pt W.ft (W.ct ++ (t ∷ [])) W.keys W.links

  pub cell_extends : (t : RTy) → Ext W (cell_world t)
  cell_extends t = record { pts = λ i a e. e; fts = λ i a e. e; cts = get_elem?_append W.ct (t ∷ []); ks = λ a b h. h; klen = omega arith; lks = λ i l e. e }

  pub add_cell : (t : RTy) (x : Value) → Fits W x t → StoreOk S (cell_world t) (cells ++ (x ∷ [])) pairs fns
  add_cell t x g = record {
    plen = o.plen;
    ps = λ i a e. pair_ext (cell_extends t) (o.ps i a e);
    clen = length_snoc cells x ∙ ap suc o.clen ∙ sym (length_snoc W.ct t);
    cs = λ i a e. at i a (get_elem?_snoc W.ct t i a e);
    flen = o.flen;
    fs = λ i a e. fn_ext (cell_extends t) (o.fs i a e);
  }
    where
      wider : (i : ℕ) (a : RTy) → CellOk (cell_world t) cells i a → CellOk (cell_world t) (cells ++ (x ∷ [])) i a
      wider i a q = record { at = q.at; found = get_elem?_append cells (x ∷ []) i q.at q.found; fits = q.fits }

      at : (i : ℕ) (a : RTy) → (get_elem? W.ct i ≡ some a) ⊎ ((i ≡ length W.ct) × (t ≡ a)) → CellOk (cell_world t) (cells ++ (x ∷ [])) i a
      at i a (inl e) = wider i a (cell_ext (cell_extends t) (o.cs i a e))
      at i a (inr e) = subst (λ z. CellOk (cell_world t) (cells ++ (x ∷ [])) i z) e.1 (record { at = x; found = get_elem?_at cells x i (e.0 ∙ sym o.clen); fits = fits_ext (cell_extends t) g })

  pub set_cell : (i : ℕ) (t : RTy) (x : Value) → get_elem? W.ct i ≡ some t → Fits W x t → StoreOk S W (set cells i x) pairs fns
  set_cell i t x e g = record { plen = o.plen; ps = o.ps; clen = length-set cells i x ∙ o.clen; cs = λ j a h. at j a h (o.cs j a h); flen = o.flen; fs = o.fs }
    where
      pick : (j : ℕ) (a : RTy) → get_elem? W.ct j ≡ some a → (q : CellOk W cells j a)
          → (get_elem? (set cells i x) j ≡ some q.at) ⊎ ((i ≡ j) × (get_elem? (set cells i x) j ≡ some x)) → CellOk W (set cells i x) j a
      pick j a h q (inl z) = record { at = q.at; found = z; fits = q.fits }
      pick j a h q (inr z) =
          let same : t ≡ a = some-injective t a (sym e ∙ ap (get_elem? W.ct) z.0 ∙ h) in
          record { at = x; found = z.1; fits = subst (λ y. Fits W x y) same g }

      at : (j : ℕ) (a : RTy) → get_elem? W.ct j ≡ some a → CellOk W cells j a → CellOk W (set cells i x) j a
      at j a h q = pick j a h q (get_elem?_set cells i x j q.at q.found)
