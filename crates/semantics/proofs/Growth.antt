-- What is well typed in a world stays so in a wider one.
use Rattle.std.specs.Prelude.{ℕ, List, ◌⊎◌, length}
use Rattle.std.proofs.Common.{inl, inr, le_trans, le_refl}
use Rattle.order.specs.Order.{Below}
use Rattle.order.specs.Effects.{Effect}
use Rattle.syntax.specs.Types.{Ty}
use Rattle.syntax.specs.Commands.{Cmd}
use Rattle.syntax.specs.Job.{Src}
use Rattle.syntax.specs.Tree.{Entry}
use Rattle.semantics.specs.Machine.{Kind, Value, Two, Bind, Closure, Frame, Control}
use Rattle.semantics.specs.RuntimeTypes.{RTy, RSub}
use Rattle.semantics.proofs.RuntimeTypes.{rsub_wider}
use Rattle.semantics.proofs.Chains.{chain_wider}
use Rattle.semantics.specs.Invariant.{World, TwoTy, FnTy, Ext, Typ, t_num, t_pair, t_cell, t_fn, t_lim, t_grant, Fits, On, on_zero, on_key, OnAll, Covers, Mono, EnvOk, eo_nil, eo_var, eo_name, Env, Held, hd_nil, hd_cons}
use Rattle.semantics.specs.Invariant.{FrameOk, fo_pair1, fo_pair2, fo_part1, fo_part2, fo_app1, fo_app2, fo_new, fo_read, fo_asg1, fo_asg2, fo_sum1, fo_sum2, fo_test, fo_lim, fo_grant, fo_newkey, fo_assoc1, fo_assoc2, fo_access, fo_divide1, fo_divide2}
use Rattle.semantics.specs.Invariant.{StackOk, so_nil, so_cons, ThreadOk, to_enter_lem, to_hand_lem, PairOk, CellOk, FnOk, f_fn}

pub ext_refl : (W : World) → Ext W W
ext_refl W = record { pts = λ i a e. e; fts = λ i a e. e; cts = λ i a e. e; ks = λ a b h. h; klen = le_refl (length W.keys); lks = λ i l e. e }

module _ {W X : World} (x : Ext W X) where
  pub sub_ext : {A B : RTy} → RSub W.keys A B → RSub X.keys A B
  sub_ext h = rsub_wider x.ks h

  typ_ext : {k : ℕ} {y : Kind} {T : RTy} → Typ W k y T → Typ X k y T
  typ_ext t_num = t_num
  typ_ext (t_pair e) = t_pair (x.pts _ _ e)
  typ_ext (t_cell e) = t_cell (x.cts _ _ e)
  typ_ext (t_fn e) = t_fn (x.fts _ _ e)
  typ_ext (t_lim h) = t_lim h
  typ_ext (t_grant h) = t_grant h

  pub fits_ext : {v : Value} {T : RTy} → Fits W v T → Fits X v T
  fits_ext f = record { exact = f.exact; typ = typ_ext f.typ; sub = sub_ext f.sub }

  pub on_ext : {l : List ℕ} {k : ℕ} → On W.keys l k → On X.keys l k
  on_ext (on_zero e) = on_zero e
  on_ext (on_key m b) = on_key m (x.ks _ _ b)

  all_ext : {l L : List ℕ} → OnAll W.keys l L → OnAll X.keys l L
  all_ext o = record { each = λ k m. on_ext (o.each k m) }

  pub covers_ext : {l : List ℕ} {μ : ℕ → ℕ} {s : Effect} → Covers W.keys l μ s → Covers X.keys l μ s
  covers_ext o = record { each = λ n m. on_ext (o.each n m) }

  held_ext : {l : List ℕ} {vs : List Value} {js : List ℕ} → Held W l vs js → Held X l vs js
  held_ext hd_nil = hd_nil
  held_ext (hd_cons f q h) = hd_cons (fits_ext f) (on_ext q) (held_ext h)

  either_ext : {l : List ℕ} {k j : ℕ} → On W.keys l k ⊎ Below W.keys k j → On X.keys l k ⊎ Below X.keys k j
  either_ext (inl z) = inl (on_ext z)
  either_ext (inr z) = inr (x.ks _ _ z)

  pub pair_ext : {ps : List Two} {i : ℕ} {t : TwoTy} → PairOk W ps i t → PairOk X ps i t
  pair_ext o = record { at = o.at; found = o.found; one = fits_ext o.one; two = fits_ext o.two }

  pub cell_ext : {cs : List Value} {i : ℕ} {t : RTy} → CellOk W cs i t → CellOk X cs i t
  cell_ext o = record { at = o.at; found = o.found; fits = fits_ext o.fits }

  mono_ext : {S : Src} {μ : ℕ → ℕ} → Mono S W.keys μ → Mono S X.keys μ
  mono_ext m = record { step = λ a u e. x.ks _ _ (m.step a u e) }

module _ {S : Src} {W X : World} (x : Ext W X) where
  pub env_ok_ext : {E : List Bind} {Γ : List Entry} → EnvOk S W E Γ → EnvOk S X E Γ
  env_ok_ext (eo_nil m p) = eo_nil (mono_ext x m) p
  env_ok_ext (eo_var o f) = eo_var (env_ok_ext o) (fits_ext x f)
  env_ok_ext (eo_name o f m p h) = eo_name (env_ok_ext o) f (mono_ext x m) p (le_trans h x.klen)

  pub env_ext : {e : ℕ} {E : List Bind} {Γ : List Entry} → Env S W e E Γ → Env S X e E Γ
  env_ext o = record { chain = chain_wider x.lks o.chain; ok = env_ok_ext o.ok }

  frame_ext : {k : Cmd Ty} {h : List Value} {e on : ℕ} {A B : RTy} → FrameOk S W k h e on A B → FrameOk S X k h e on A B
  frame_ext (fo_pair1 o h c) = fo_pair1 (env_ext o) h (covers_ext x c)
  frame_ext (fo_pair2 f) = fo_pair2 (fits_ext x f)
  frame_ext (fo_part1 o) = fo_part1 (on_ext x o)
  frame_ext (fo_part2 o) = fo_part2 (on_ext x o)
  frame_ext (fo_app1 o h c s q l) = fo_app1 (env_ext o) h (covers_ext x c) (sub_ext x s) (on_ext x q) (all_ext x l)
  frame_ext (fo_app2 f q l) = fo_app2 (fits_ext x f) (on_ext x q) (all_ext x l)
  frame_ext fo_new = fo_new
  frame_ext (fo_read q) = fo_read (on_ext x q)
  frame_ext (fo_asg1 o h c s q) = fo_asg1 (env_ext o) h (covers_ext x c) (sub_ext x s) (on_ext x q)
  frame_ext (fo_asg2 f q) = fo_asg2 (fits_ext x f) (on_ext x q)
  frame_ext (fo_sum1 o h c p q) = fo_sum1 (env_ext o) h (covers_ext x c) (on_ext x p) (on_ext x q)
  frame_ext (fo_sum2 f p q) = fo_sum2 (fits_ext x f) (on_ext x p) (on_ext x q)
  frame_ext (fo_test o h c y g d z q) = fo_test (env_ext o) h (covers_ext x c) y g (covers_ext x d) z (on_ext x q)
  frame_ext (fo_lim o r ks cl hd q h c u) = fo_lim (env_ext o) r ks (covers_ext x cl) (held_ext x hd) (on_ext x q) h (covers_ext x c) (covers_ext x u)
  frame_ext (fo_grant o h q c) = fo_grant (env_ext o) h (on_ext x q) (λ n m. either_ext x (c n m))
  frame_ext (fo_newkey o e f h s t q c u) = fo_newkey (env_ext o) e f h s t (on_ext x q) (λ n m z. on_ext x (c n m z)) (λ m. on_ext x (u m))
  frame_ext (fo_assoc1 o h c a q) = fo_assoc1 (env_ext o) h (covers_ext x c) (on_ext x a) (on_ext x q)
  frame_ext (fo_assoc2 f a q) = fo_assoc2 (fits_ext x f) (on_ext x a) (on_ext x q)
  frame_ext (fo_access o h c y g d z q) = fo_access (env_ext o) h (λ n m. either_ext x (c n m)) y g (covers_ext x d) z (on_ext x q)
  frame_ext (fo_divide1 o h c p q) = fo_divide1 (env_ext o) h (covers_ext x c) (on_ext x p) (on_ext x q)
  frame_ext (fo_divide2 f p q) = fo_divide2 (fits_ext x f) (on_ext x p) (on_ext x q)

  pub stack_ext : {fs : List Frame} {T : RTy} → StackOk S W fs T → StackOk S X fs T
  stack_ext so_nil = so_nil
  stack_ext (so_cons e s f k) = so_cons e (sub_ext x s) (frame_ext f) (stack_ext k)

  pub fn_ext : {cs : List Closure} {i : ℕ} {t : FnTy} → FnOk S W cs i t → FnOk S X cs i t
  fn_ext (f_fn e o h) = f_fn e (env_ext o) h

  -- a step of one thread leaves another thread well typed
  pub thread_ext : {c : Control} {e on : ℕ} {fs : List Frame} → ThreadOk S W c e on fs → ThreadOk S X c e on fs
  thread_ext (to_enter_lem o h c k) = to_enter_lem (env_ext o) h (covers_ext x c) (stack_ext k)
  thread_ext (to_hand_lem g k) = to_hand_lem (fits_ext x g) (stack_ext k)
