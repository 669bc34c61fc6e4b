-- What the rules give is in scope: in a context whose types are in scope, each type and effect that they give an expression has names of that context alone (Γ ⊢ e : τ; L has Γ ⊢ τ and Γ ⊢ L).
use Rattle.std.specs.Prelude.{◌≡◌, refl, ℕ, zero, suc, ◌<◌}
use Rattle.std.proofs.Math.Path.{subst⁻¹}
use Rattle.std.proofs.Common.{arith}
use mathlib.Core.List.Memᴰ
use mathlib.Core.List.{List, [], ◌∷◌, Memᴰ}
use Rattle.order.specs.Effects.{Effect}
use Rattle.syntax.specs.Types.{Ty, pair, cell, fn, lim, key_of}
use Rattle.syntax.specs.Commands.{Cmd, c_lim}
use Rattle.syntax.specs.Operands.{nth, plain, inner, children}
use Rattle.syntax.specs.Job.{Src, up_of}
use Rattle.syntax.specs.Formed.{Formed}
use Rattle.syntax.specs.Tree.{Entry, e_var, e_name, key_pair, names_of}
use Rattle.syntax.specs.WellScoped.{ScopedName, n_bound, ScopedType, w_num, w_pair, w_cell, w_fn, w_lim, w_grant, ScopedEffect}
use Rattle.syntax.proofs.ScopeLaws.{zero_scoped, one_scoped, wider_type, wider_effect, key_scoped, rekey_scoped, pure_scoped, join_scoped, touch_scoped, drop_scoped, raise_scoped}
use Rattle.typing.specs.Rules.{Lookup, l_here, l_var, l_name, Has, h_num, h_top, h_var, h_pair, h_part1, h_part2, h_fn, h_app, h_new, h_asg, h_read, h_sum, h_test, h_lim, h_grant, h_newkey, h_assoc, h_access, h_divide, h_spawn, h_sub, HasKeys, k_nil, k_cons}
use Rattle.typing.specs.RulesScoped.{ScopedContext, ScopedResult}

with_var : {Γ : List Entry} {x : ℕ} {T : Ty} → ScopedType Γ T → ScopedContext Γ → ScopedContext (e_var x T ∷ Γ)
unfolding names_of
with_var {Γ} {x} {T} t c = record { each = at }
  where
    at : (y : ℕ) (U : Ty) → Lookup (e_var x T ∷ Γ) y U → ScopedType (e_var x T ∷ Γ) U
    at y U l_here = wider_type (λ n m. m) t
    at y U (l_var n l) = wider_type (λ n m. m) (c.each y U l)

with_name : {Γ : List Entry} {r : ℕ} → ScopedContext Γ → ScopedContext (e_name r ∷ Γ)
unfolding names_of
with_name {Γ} {r} c = record { each = at }
  where
    at : (y : ℕ) (U : Ty) → Lookup (e_name r ∷ Γ) y U → ScopedType (e_name r ∷ Γ) U
    at y U (l_name l) = wider_type (λ n m. Memᴰ.tail m) (c.each y U l)

keys_scoped : {Γ : List Entry} {r : ℕ} → ScopedType (e_name r ∷ Γ) (key_pair r)
unfolding names_of
keys_scoped = w_pair zero_scoped (w_lim zero_scoped (n_bound (Memᴰ.head refl))) (w_grant zero_scoped (n_bound (Memᴰ.head refl)))

module _ {Γ : List Entry} where
  pair_in_lem : {q : ℕ} {A B : Ty} → ScopedType Γ (pair q A B) → ScopedType Γ A × ScopedType Γ B
  pair_in_lem (w_pair q a b) = (a, b)

  cell_in : {q : ℕ} {A : Ty} → ScopedType Γ (cell q A) → ScopedType Γ A
  cell_in (w_cell q a) = a

  fn_in : {q : ℕ} {A B : Ty} {s : Effect} → ScopedType Γ (fn q A B s) → ScopedType Γ B × ScopedEffect Γ s
  fn_in (w_fn q a b s) = (b, s)

  pub lim_in : {q r : ℕ} → ScopedType Γ (lim q r) → ScopedName Γ r
  lim_in (w_lim q r) = r

-- a job that is read: operands are earlier expressions
module _ (S : Src) (ok : Formed S) where
  -- what is known of the expressions before e
  abbrev IH : ℕ → Type 0
  IH e = (a : ℕ) → a < e → (Γ : List Entry) (T : Ty) (t : Effect) → Has S Γ a T t → ScopedContext Γ → ScopedResult Γ T t

  lt : {e a : ℕ} (k : Cmd Ty) → nth S.cmds e ≡ k → Memᴰ a (children k) → a < e
  lt {e} {a} k c m = ok.operand e a (subst⁻¹ (λ (k : Cmd Ty). Memᴰ a (children k)) c m)

  abbrev hd : {a : ℕ} {l : List ℕ} → Memᴰ a (a ∷ l)
  hd = Memᴰ.head refl

  in_keys : (b : ℕ) {a : ℕ} {ks : List ℕ} → Memᴰ a ks → Memᴰ a (children {T = Ty} (c_lim ks b))
  unfolding children plain inner
  in_keys b {ks = ks} m = Memᴰ.append_left [] (Memᴰ.append_left (b ∷ []) m)

  in_body : (ks : List ℕ) {b : ℕ} → Memᴰ b (children {T = Ty} (c_lim ks b))
  unfolding children plain inner
  in_body ks = Memᴰ.append_left [] (Memᴰ.append_right ks hd)

  keys : {Γ : List Entry} {e : ℕ} {ks rs : List ℕ} {s : Effect} → ((a : ℕ) → Memᴰ a ks → a < e) → IH e → HasKeys S Γ ks rs s → ScopedContext Γ → ScopedEffect Γ s
  unfolding key_of
  keys l ih k_nil g = pure_scoped
  keys l ih (k_cons x ks) g = let z = ih _ (l _ hd) _ _ _ x g in touch_scoped (key_scoped z.ty) (join_scoped z.eff (keys (λ a m. l a (Memᴰ.tail m)) ih ks g))

  at : {Γ : List Entry} {e : ℕ} {T : Ty} {t : Effect} → IH e → Has S Γ e T t → ScopedContext Γ → ScopedResult Γ T t
  unfolding children plain inner key_of names_of
  at ih (h_num c) g = record { ty = w_num zero_scoped; eff = pure_scoped }
  at ih (h_top c) g = record { ty = w_lim zero_scoped one_scoped; eff = pure_scoped }
  at ih (h_var {x = x} {T = T} c v) g = record { ty = g.each x T v; eff = pure_scoped }
  at ih (h_pair c x y) g =
      let z = ih _ (lt _ c hd) _ _ _ x g in let w = ih _ (lt _ c (Memᴰ.tail hd)) _ _ _ y g in
      record { ty = w_pair zero_scoped z.ty w.ty; eff = join_scoped z.eff w.eff }
  at ih (h_part1 c x) g = let z = ih _ (lt _ c hd) _ _ _ x g in record { ty = (pair_in_lem z.ty).0; eff = touch_scoped (key_scoped z.ty) z.eff }
  at ih (h_part2 c x) g = let z = ih _ (lt _ c hd) _ _ _ x g in record { ty = (pair_in_lem z.ty).1; eff = touch_scoped (key_scoped z.ty) z.eff }
  at ih (h_fn c o x) g =
      let z = ih _ (lt _ c hd) _ _ _ x (with_var o g) in
      record { ty = w_fn zero_scoped o (wider_type (λ n m. m) z.ty) (wider_effect (λ n m. m) z.eff); eff = pure_scoped }
  at ih (h_app c x y s) g =
      let z = ih _ (lt _ c hd) _ _ _ x g in let w = ih _ (lt _ c (Memᴰ.tail hd)) _ _ _ y g in let u = fn_in z.ty in
      record { ty = u.0; eff = touch_scoped (key_scoped z.ty) (join_scoped u.1 (join_scoped z.eff w.eff)) }
  at ih (h_new c o x s) g = let z = ih _ (lt _ c hd) _ _ _ x g in record { ty = w_cell zero_scoped o; eff = z.eff }
  at ih (h_asg c x y s) g =
      let z = ih _ (lt _ c hd) _ _ _ x g in let w = ih _ (lt _ c (Memᴰ.tail hd)) _ _ _ y g in
      record { ty = cell_in z.ty; eff = touch_scoped (key_scoped z.ty) (join_scoped z.eff w.eff) }
  at ih (h_read c x) g = let z = ih _ (lt _ c hd) _ _ _ x g in record { ty = cell_in z.ty; eff = touch_scoped (key_scoped z.ty) z.eff }
  at ih (h_sum c x y) g =
      let z = ih _ (lt _ c hd) _ _ _ x g in let w = ih _ (lt _ c (Memᴰ.tail hd)) _ _ _ y g in
      record { ty = w_num zero_scoped; eff = touch_scoped (key_scoped z.ty) (touch_scoped (key_scoped w.ty) (join_scoped z.eff w.eff)) }
  at ih (h_test c o x y y' s s') g =
      let z = ih _ (lt _ c hd) _ _ _ x g in let w = ih _ (lt _ c (Memᴰ.tail hd)) _ _ _ y g in let w' = ih _ (lt _ c (Memᴰ.tail (Memᴰ.tail hd))) _ _ _ y' g in
      record { ty = o; eff = touch_scoped (key_scoped z.ty) (join_scoped z.eff (join_scoped w.eff w'.eff)) }
  at ih (h_lim {b = b} {ks = ks} c x y w) g =
      let z = ih b (lt _ c (in_body ks)) _ _ _ y g in
      record { ty = z.ty; eff = join_scoped (keys (λ a m. lt _ c (in_keys b m)) ih x g) z.eff }
  at ih (h_grant {r = r} c x y) g =
      let z = ih _ (lt _ c hd) _ _ _ x g in let w = ih _ (lt _ c (Memᴰ.tail hd)) _ _ _ y g in
      record { ty = w.ty; eff = touch_scoped (key_scoped z.ty) (join_scoped z.eff (drop_scoped (up_of S) r w.eff)) }
  at ih (h_newkey {r = r} c o x p v fr y s) g =
      let z = ih _ (lt _ c hd) _ _ _ x g in let w = ih _ (lt _ c (Memᴰ.tail hd)) _ _ _ y (with_var keys_scoped (with_name g)) in
      record { ty = o; eff = touch_scoped (key_scoped z.ty) (join_scoped z.eff (raise_scoped r v w.eff)) }
  at ih (h_assoc c x y) g =
      let z = ih _ (lt _ c hd) _ _ _ x g in let w = ih _ (lt _ c (Memᴰ.tail hd)) _ _ _ y g in
      record { ty = rekey_scoped (lim_in w.ty) z.ty; eff = touch_scoped (key_scoped z.ty) (touch_scoped (key_scoped w.ty) (join_scoped z.eff w.eff)) }
  at ih (h_access {r = r} c o x y y' s s') g =
      let z = ih _ (lt _ c hd) _ _ _ x g in let w = ih _ (lt _ c (Memᴰ.tail hd)) _ _ _ y g in let w' = ih _ (lt _ c (Memᴰ.tail (Memᴰ.tail hd))) _ _ _ y' g in
      record { ty = o; eff = touch_scoped (key_scoped z.ty) (join_scoped z.eff (join_scoped (drop_scoped (up_of S) r w.eff) w'.eff)) }
  at ih (h_divide c x y) g =
      let z = ih _ (lt _ c hd) _ _ _ x g in let w = ih _ (lt _ c (Memᴰ.tail hd)) _ _ _ y g in
      record { ty = w_pair zero_scoped (w_num zero_scoped) (w_num zero_scoped); eff = touch_scoped (key_scoped z.ty) (touch_scoped (key_scoped w.ty) (join_scoped z.eff w.eff)) }
  at ih (h_spawn c x) g = record { ty = w_num zero_scoped; eff = pure_scoped }
  at ih (h_sub d s o u v) g = record { ty = o; eff = v }

  upto : (f e : ℕ) → e < f → (Γ : List Entry) (T : Ty) (t : Effect) → Has S Γ e T t → ScopedContext Γ → ScopedResult Γ T t
  upto zero e h Γ T t d g = absurd (omega arith)
  upto (suc f) e h Γ T t d g = at (λ a k Δ U u x y. upto f a (omega arith) Δ U u x y) d g

  -- every expression
  pub rules_scoped : {Γ : List Entry} {e : ℕ} {T : Ty} {t : Effect} → Has S Γ e T t → ScopedContext Γ → ScopedResult Γ T t
  rules_scoped {e = e} d g = upto (suc e) e (omega arith) _ _ _ d g
