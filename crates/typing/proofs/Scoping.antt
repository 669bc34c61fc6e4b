-- What stands in a context, and what is worked out. The types of a context's variables are in scope with reduced sets, so that what the rules give there is in scope (RulesScoped), and a new name is
-- fresh. The types and effects that are worked out have reduced sets. This stands before both directions of `Exactly`, which use it.
use Rattle.std.specs.Prelude.{◌≡◌, refl, ℕ, zero, suc, ◌<◌, Bool, true, false, cond, ◌⊎◌, length}
use Rattle.std.proofs.Common.{sym, ◌∙◌, subst, arith, inl, inr}
use mathlib.Core.List.Memᴰ
use mathlib.Core.List.{List, [], ◌∷◌, ◌++◌, Memᴰ}
use Rattle.order.proofs.OrderLaws.{get_elem?_mem}
use Rattle.order.specs.Effects.{Effect, pure, touch, join, reduced, reduce}
use Rattle.order.proofs.EffectLaws.{pure_reduced, reduce_reduced}
use Rattle.syntax.specs.Types.{Ty, pair, cell, fn, rekey}
use Rattle.syntax.specs.Commands.{Cmd, c_num, c_top, c_var, c_pair, c_part, c_fn, c_app, c_new, c_asg, c_read, c_sum, c_test, c_lim, c_grant, c_newkey, c_assoc, c_access, c_divide, c_spawn}
use Rattle.syntax.specs.Operands.{nth, plain, inner, types_of}
use Rattle.syntax.specs.Job.{Src, up_of}
use Rattle.syntax.specs.Reading.{host_name}
use Rattle.syntax.specs.Formed.{ReducedTy, r_num, r_pair, r_cell, r_fn, r_lim, r_grant, Formed}
use Rattle.syntax.specs.Tree.{Entry, binds, vars_of, names_of, host_ctx}
use Rattle.syntax.specs.WellScoped.{ScopedName, n_low, n_bound, w_pair, w_lim, w_grant}
use Rattle.syntax.specs.TreeFacts.{Ctx, x_root, x_plain, x_inner, TreeOk}
use Rattle.syntax.specs.Scope.{VarIn, v_here, v_var}
use Rattle.syntax.proofs.Scope.{varin_cases, varin_mem, name_right, host_mem, host_var, open_cases}
use Rattle.syntax.proofs.ScopeLaws.{zero_scoped, names_type, wider_type}
use Rattle.syntax.proofs.Context.{plain_lt, inner_lt, ctx_le, root_lt, ctx_uses, ctx_names, bound_apart, bound_above}
use Rattle.typing.specs.Least.{Typed, typed, var_type, keys_at, type_at, get, types_to, type_of}
use Rattle.typing.proofs.Scoped.{lookup_var, absent_of, ctx_type, ctx_var}
use Rattle.typing.specs.Rules.{Fresh}
use Rattle.typing.specs.RulesScoped.{ScopedContext}
use Rattle.typing.proofs.Filled.{seen, type_of_is, typed_ty, typed_eff, of_var_lem, by_with, by_require, by_num, by_pair, by_cell, by_fn, by_lim, by_grant}
use Rattle.typing.specs.Scoping.{GoodTy}

-- the type of a variable that a command binds
bind_good : {S : Src} (Γ : List Entry) (k : Cmd Ty) → ((T : Ty) → Memᴰ T (types_of k) → GoodTy S Γ T) → {x : ℕ} {T : Ty} → VarIn x T (binds k) → GoodTy S (binds k ++ Γ) T
unfolding binds types_of names_of vars_of
bind_good {S = S} Γ (c_num _) f {T = T} x5 = elim x5 [ ]
bind_good {S = S} Γ c_top f {T = T} x5 = elim x5 [ ]
bind_good {S = S} Γ (c_var _) f {T = T} x7 = elim x7 [ ]
bind_good {S = S} Γ (c_pair _ _) f {T = T} x9 = elim x9 [ ]
bind_good {S = S} Γ (c_part _ _) f {T = T} x10 = elim x10 [ ]
bind_good {S = S} Γ (c_fn y U b) f {T = T} (v_var v) = elim v [ ]
bind_good {S = S} Γ (c_app _ _) f {T = T} x12 = elim x12 [ ]
bind_good {S = S} Γ (c_new _ _) f {T = T} x13 = elim x13 [ ]
bind_good {S = S} Γ (c_asg _ _) f {T = T} x14 = elim x14 [ ]
bind_good {S = S} Γ (c_read _) f {T = T} x14 = elim x14 [ ]
bind_good {S = S} Γ (c_sum _ _ _) f {T = T} x17 = elim x17 [ ]
bind_good {S = S} Γ (c_test _ _ _ _) f {T = T} x19 = elim x19 [ ]
bind_good {S = S} Γ (c_lim _ _) f {T = T} x18 = elim x18 [ ]
bind_good {S = S} Γ (c_grant _ _) f {T = T} x19 = elim x19 [ ]
bind_good {S = S} Γ (c_assoc _ _) f {T = T} x20 = elim x20 [ ]
bind_good {S = S} Γ (c_access _ _ _ _) f {T = T} x23 = elim x23 [ ]
bind_good {S = S} Γ (c_divide _ _) f {T = T} x22 = elim x22 [ ]
bind_good {S = S} Γ (c_spawn _) f {T = T} x22 = elim x22 [ ]
bind_good Γ (c_fn y U b) f v_here = let z = f U (Memᴰ.head refl) in record { scoped = wider_type (λ n m. m) z.scoped; reduced = z.reduced }
bind_good Γ (c_newkey y r a b U) f v_here =
    record { scoped = w_pair zero_scoped (w_lim zero_scoped (n_bound (Memᴰ.head refl))) (w_grant zero_scoped (n_bound (Memᴰ.head refl))); reduced = r_pair r_lim r_grant }
bind_good Γ (c_newkey y r a b U) f (v_var v) = absurd (Memᴰ.not-nil (varin_mem v))

-- the types of the host's variables
module _ (S : Src) (ok : Formed S) where
  host_scoped : {n : ℕ} → (n < 2) ⊎ (host_name S.names n ≡ true) → ScopedName (host_ctx S) n
  host_scoped (inl h) = n_low h
  host_scoped {n} (inr h) = at (host_mem S h)
    where
      at : (n < 2) ⊎ Memᴰ n (names_of (host_ctx S)) → ScopedName (host_ctx S) n
      at (inl l) = n_low l
      at (inr m) = n_bound m

  pub host_type : {x : ℕ} {T : Ty} → VarIn x T (host_ctx S) → GoodTy S (host_ctx S) T
  host_type {x} v =
      let z = host_var S v in
      let m = get_elem?_mem S.values x z.0 z.1 in
      subst (λ U. GoodTy S (host_ctx S) U) z.2 (record { scoped = names_type z.0.ty (λ n w. host_scoped (open_cases S.names n (ok.host_type z.0 m n w))); reduced = ok.host_reduced z.0 m })

-- a job that is read, free of 8, 9 and 10
module _ (S : Src) (ok : Formed S) (tree : TreeOk S) where
  operand_good : {e : ℕ} {Γ : List Entry} → Ctx S e Γ → (T : Ty) → Memᴰ T (types_of (nth S.cmds e)) → GoodTy S Γ T
  operand_good {e} d T m = record { scoped = (ctx_uses S ok tree d).type_operand T m; reduced = ok.operand_reduced e T m }

  -- the types of variables
  var_good : {e : ℕ} {Γ : List Entry} → Ctx S e Γ → {x : ℕ} {T : Ty} → VarIn x T Γ → GoodTy S Γ T
  var_good x_root v = host_type S ok v
  var_good (x_plain m d) v = var_good d v
  var_good (x_inner {p = p} {Γ = Γ} m d) {x} {T} v = at (varin_cases (binds (nth S.cmds p)) v) (λ w. var_good d w)
    where
      at : VarIn x T (binds (nth S.cmds p)) ⊎ VarIn x T Γ → (VarIn x T Γ → GoodTy S Γ T) → GoodTy S (binds (nth S.cmds p) ++ Γ) T
      at (inl w) f = bind_good Γ (nth S.cmds p) (operand_good d) w
      at (inr w) f = let z = f w in record { scoped = wider_type (λ n m. name_right (binds (nth S.cmds p)) Γ m) z.scoped; reduced = z.reduced }

  pub ctx_scoped : {e : ℕ} {Γ : List Entry} → Ctx S e Γ → ScopedContext Γ
  ctx_scoped d = record { each = λ x T l. (var_good d (lookup_var l)).scoped }

  -- what the rule for a new key needs: the new name is fresh
  pub newkey_fresh : {e x r a b : ℕ} {T : Ty} {Γ : List Entry} → Ctx S e Γ → nth S.cmds e ≡ c_newkey x r a b T → Fresh (up_of S) Γ r
  unfolding binds names_of
  newkey_fresh {e} {r = r} {Γ = Γ} d c = record {
    types = (ctx_scoped d).each;
    local = above;
    proper = λ z. itself (ok.proper.down r r z);
    absent = absent_of r Γ (λ n m. bound_apart S ok tree own (ctx_names S ok d m));
  }
    where
      own : Memᴰ r (names_of (binds (nth S.cmds e)))
      own = rw c (Memᴰ.head refl)

      above : 1 < r
      above = bound_above S ok tree e own

      itself : ((r < r) × (0 < r)) ⊎ ((r ≡ r) × (r < 2)) → ⊥
      itself (inl z) = omega arith
      itself (inr z) = omega (arith, above)

-- The sets of what is worked out

-- a type whose sets are reduced, and a reduced effect
pub record Worked (up : List ℕ) (T : Ty) (s : Effect) : Type 0 where
  pub ty : ReducedTy up T
  pub eff : reduced up s ≡ true

module _ {up : List ℕ} where
  rekey_reduced : (k : ℕ) {T : Ty} → ReducedTy up T → ReducedTy up (rekey k T)
  unfolding rekey
  rekey_reduced k r_num = r_num
  rekey_reduced k (r_pair a b) = r_pair a b
  rekey_reduced k (r_cell a) = r_cell a
  rekey_reduced k (r_fn a b s) = r_fn a b s
  rekey_reduced k r_lim = r_lim
  rekey_reduced k r_grant = r_grant

  part_of : {q : ℕ} {A B : Ty} (i : Bool) → ReducedTy up (pair q A B) → ReducedTy up (cond i A B)
  part_of true (r_pair a b) = a
  part_of false (r_pair a b) = b

  content_of : {q : ℕ} {A : Ty} → ReducedTy up (cell q A) → ReducedTy up A
  content_of (r_cell a) = a

  result_of : {q : ℕ} {A B : Ty} {s : Effect} → ReducedTy up (fn q A B s) → ReducedTy up B
  result_of (r_fn a b s) = b

  worked : {T : Ty} (s : Effect) → ReducedTy up T → Worked up T (reduce up s)
  worked s t = record { ty = t; eff = reduce_reduced up s }

  no_effect : {T : Ty} → ReducedTy up T → Worked up T pure
  no_effect t = record { ty = t; eff = pure_reduced up }

  same : {A T : Ty} {s t : Effect} → typed A s ≡ typed T t → Worked up A s → Worked up T t
  same {T = T} {s = s} h d = subst (λ u. Worked up T u) (typed_eff h) (subst (λ U. Worked up U s) (typed_ty h) d)

  cast : {A B : Ty} → A ≡ B → ReducedTy up A → ReducedTy up B
  cast h d = subst (λ U. ReducedTy up U) h d

module _ (S : Src) (ok : Formed S) (tree : TreeOk S) where
  abbrev up : List ℕ
  up = up_of S

  -- what is known of the operands
  abbrev OperandIH : (ℕ → Typed) → List ℕ → Type 0
  OperandIH tab cs = (c : ℕ) → Memᴰ c cs → (T : Ty) (s : Effect) → tab c ≡ typed T s → Worked up T s

  keys : {X : Type 0} {T : Ty} {s : Effect} (tab : ℕ → Typed) (ks : List ℕ) (f : List ℕ → Effect → Typed) → keys_at tab ks f ≡ typed T s → ((rs : List ℕ) (t : Effect) → f rs t ≡ typed T s → X) → X
  unfolding keys_at
  keys tab [] f h g = g [] pure h
  keys tab (a ∷ ks) f h g = by_with (tab a) _ h (λ K t hk h. by_lim K _ h (λ q r hl h. keys tab ks _ h (λ rs u h. g (r ∷ rs) (touch q (join t u)) h)))

  abbrev hd : {A : Type 0} {a : A} {l : List A} → Memᴰ a (a ∷ l)
  hd = Memᴰ.head refl

  at : (tab : ℕ → Typed) {Γ : List Entry} {e : ℕ} (k : Cmd Ty) → nth S.cmds e ≡ k → OperandIH tab (plain k) → OperandIH tab (inner k) → ((T : Ty) → Memᴰ T (types_of k) → ReducedTy up T) → Ctx S e Γ
      → (T : Ty) (s : Effect) → type_at S tab k ≡ typed T s → Worked up T s
  unfolding type_at plain inner types_of
  at tab (c_num n) c p i o d T s h = same h (no_effect r_num)
  at tab c_top c p i o d T s h = same h (no_effect r_lim)
  at tab (c_var x) c p i o d T s h = let l = ctx_var S ok tree d c in same (of_var_lem (var_type S x) (ctx_type S ok tree d l.1) h) (no_effect (var_good S ok tree d (lookup_var l.1)).reduced)
  at tab (c_pair a b) c p i o d T s h =
      by_with (tab a) _ h (λ A t ha h. by_with (tab b) _ h (λ B u hb h. same h (worked _ (r_pair (p a hd A t ha).ty (p b (Memᴰ.tail hd) B u hb).ty))))
  at tab (c_part a j) c p i o d T s h = by_with (tab a) _ h (λ P t ha h. by_pair P _ h (λ q A B hp h. same h (worked _ (part_of j (cast hp (p a hd P t ha).ty)))))
  at tab (c_fn x A b) c p i o d T s h = by_with (tab b) _ h (λ U t hb h. let y = i b hd U t hb in same h (no_effect (r_fn (o A hd) y.ty y.eff)))
  at tab (c_app f a) c p i o d T s h =
      by_with (tab f) _ h (λ F t hf h. by_with (tab a) _ h (λ A u ha h. by_fn F _ h (λ q P U l hp h. by_require 12 _ _ h (λ w h. same h (worked _ (result_of (cast hp (p f hd F t hf).ty)))))))
  at tab (c_new U a) c p i o d T s h = by_with (tab a) _ h (λ A t ha h. by_require 12 _ _ h (λ w h. same h (record { ty = r_cell (o U hd); eff = (p a hd A t ha).eff })))
  at tab (c_asg a b) c p i o d T s h =
      by_with (tab a) _ h (λ C t ha h. by_with (tab b) _ h (λ A u hb h. by_cell C _ h (λ q U hc h. by_require 12 _ _ h (λ w h. same h (worked _ (content_of (cast hc (p a hd C t ha).ty)))))))
  at tab (c_read a) c p i o d T s h = by_with (tab a) _ h (λ C t ha h. by_cell C _ h (λ q U hc h. same h (worked _ (content_of (cast hc (p a hd C t ha).ty)))))
  at tab (c_sum j a b) c p i o d T s h =
      by_with (tab a) _ h (λ A t ha h. by_with (tab b) _ h (λ B u hb h. by_num A _ h (λ q hq h. by_num B _ h (λ r hr h. same h (worked _ r_num)))))
  at tab (c_test a b z U) c p i o d T s h =
      by_with (tab a) _ h (λ A t ha h. by_with (tab b) _ h (λ B u hb h. by_with (tab z) _ h (λ C v hz h.
      by_num A _ h (λ q hq h. by_require 12 _ _ h (λ w h. by_require 12 _ _ h (λ w' h. same h (worked _ (o U hd))))))))
  at tab (c_lim ks b) c p i o d T s h =
      keys tab ks _ h (λ rs t h. by_with (tab b) _ h (λ U u hb h. by_require 13 _ _ h (λ w h. same h (worked _ (p b (Memᴰ.append_right ks hd) U u hb).ty))))
  at tab (c_grant a b) c p i o d T s h =
      by_with (tab a) _ h (λ A t ha h. by_with (tab b) _ h (λ U u hb h. by_grant A _ h (λ q r hg h. same h (worked _ (p b (Memᴰ.tail hd) U u hb).ty))))
  at tab (c_newkey x r a b U) c p i o d T s h =
      by_with (tab a) _ h (λ A t ha h. by_with (tab b) _ h (λ B u hb h. by_lim A _ h (λ q v hl h. by_require 11 _ _ h (λ w h. by_require 12 _ _ h (λ w' h. same h (worked _ (o U hd)))))))
  at tab (c_assoc a b) c p i o d T s h =
      by_with (tab a) _ h (λ A t ha h. by_with (tab b) _ h (λ B u hb h. by_lim B _ h (λ q r hl h. same h (worked _ (rekey_reduced r (p a hd A t ha).ty)))))
  at tab (c_access a b z U) c p i o d T s h =
      by_with (tab a) _ h (λ A t ha h. by_with (tab b) _ h (λ B u hb h. by_with (tab z) _ h (λ C v hz h.
      by_lim A _ h (λ q r hl h. by_require 12 _ _ h (λ w h. by_require 12 _ _ h (λ w' h. same h (worked _ (o U hd))))))))
  at tab (c_divide a b) c p i o d T s h =
      by_with (tab a) _ h (λ A t ha h. by_with (tab b) _ h (λ B u hb h. by_num A _ h (λ q hq h. by_num B _ h (λ r hr h. same h (worked _ (r_pair r_num r_num))))))
  at tab (c_spawn b) c p i o d T s h = by_with (tab b) _ h (λ U t hb h. by_require _ _ _ h (λ w h. same h (no_effect r_num)))

  -- operands are earlier, so by the number of the expression
  upto : (f e : ℕ) {Γ : List Entry} → e < f → e < length S.cmds → Ctx S e Γ → (T : Ty) (s : Effect) → type_of S e ≡ typed T s → Worked up T s
  upto zero e h l d T s g = absurd (omega arith)
  upto (suc f) e {Γ} h l d T s g =
      at (get (types_to S e)) (nth S.cmds e) refl
      (λ c m U t y. upto f c (omega (arith, plain_lt S ok m)) (omega (arith, plain_lt S ok m)) (x_plain m d) U t (sym (seen S e c (omega arith) (plain_lt S ok m)) ∙ y))
      (λ c m U t y. upto f c (omega (arith, inner_lt S ok m)) (omega (arith, inner_lt S ok m)) (x_inner m d) U t (sym (seen S e c (omega arith) (inner_lt S ok m)) ∙ y))
      (λ U m. ok.operand_reduced e U m) d T s (sym (type_of_is S e l) ∙ g)

  -- what is worked out for an expression has reduced sets
  pub worked_out : {e : ℕ} {Γ : List Entry} → Ctx S e Γ → {T : Ty} {s : Effect} → type_of S e ≡ typed T s → Worked up T s
  worked_out {e} d {T} {s} g = upto (suc e) e (omega arith) (omega (arith, ctx_le S ok d, root_lt S ok)) d T s g
