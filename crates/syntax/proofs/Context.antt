-- Contexts: where each expression is used as is due, it stands in one context, which the walk up finds; so the test of number 10 holds exactly when its fact does. And what the facts of 8, 9 and 10
-- say of a context.
use Rattle.std.specs.Prelude.{◌≡◌, Bool, true, false, ◌≢◌, ◌⊎◌, eqb}
use Rattle.std.proofs.Math.Path.{refl, subst⁻¹}
use Rattle.std.proofs.Common.{sym, ap, ◌∙◌, subst, sub-one, inl, inr}
use Prim.Native.Nat.{ℕ, zero, suc, ◌+◌, ◌-◌, ◌≤◌, ◌<◌}
use native.Mathlib.Omega.{arith}
use mathlib.Core.List.Memᴰ
use mathlib.Core.List.{List, [], ◌∷◌, ◌++◌, flat_map, Memᴰ}
use Rattle.std.proofs.Math.Option.{some-injective}
use Rattle.std.proofs.Math.ListN.{length}
use borrow.Author.Tests.{eq-eqb, ne_eqb, eqb-true, eqb-false}
use Rattle.order.specs.Bools.{◌and◌}
use Rattle.order.proofs.Bools.{and_l, and_r, and2}
use Rattle.order.proofs.OrderLaws.{get_elem?_lt}
use Rattle.order.specs.Sets.{all_of}
use Rattle.order.proofs.SetLaws.{all_of→, →all_of}
use Rattle.syntax.specs.Types.{Ty, names_in}
use Rattle.syntax.specs.Commands.{Cmd}
use Rattle.syntax.specs.Operands.{nth, plain, inner, children, types_of, uses_var}
use Rattle.syntax.specs.Job.{HostValue, Src}
use Rattle.syntax.specs.Reading.{host_name}
use Rattle.syntax.specs.Formed.{Formed}
use Rattle.syntax.specs.Tree.{Entry, binds, vars_of, names_of, mem_b, uses_name, host_ctx, predecessor, root, uses, used_right, bound_by, parent, scope_in, ctx, name_in, in_scope}
use Rattle.syntax.specs.TreeFacts.{Ctx, x_root, x_plain, x_inner, Each, UsedAsDue, UsesOf, UsesInScope, TreeOk}
use Rattle.syntax.specs.Scope.{VarIn}
use Rattle.syntax.proofs.Scope.{mem_b→, →mem_b, count_mem, count_app, uses_mem, mem_uses, parent_is, varin_left, varin_right, varin_cases, name_cases, binds_var_lem, binds_name_lem, binds_once, bound_var_lem, var_bound, var_lt, name_lt, host_name_lem, host_var, local_above, local_not_host}
use Rattle.syntax.proofs.ScopeLaws.{type_names_lem, names_type, name_scoped, scoped_name}
use Rattle.syntax.proofs.TreeTests.{→used}
use Rattle.syntax.specs.Context.{Outer, o_bound, o_host}

outer_down : {S : Src} {e p n : ℕ} → e < p → Outer S p n → Outer S e n
outer_down h (o_host m) = o_host m
outer_down h (o_bound q k m) = o_bound q (omega arith) m

pub predecessor_lt : (n : ℕ) → 0 < n → predecessor n < n
unfolding predecessor
predecessor_lt zero h = absurd (omega arith)
predecessor_lt (suc n) h = omega arith

pub predecessor_minus : (n : ℕ) → n - 1 ≡ predecessor n
unfolding predecessor
predecessor_minus zero = refl
predecessor_minus (suc n) = sub-one (suc n)

predecessor_top : (n e : ℕ) → e < n → e ≤ predecessor n
unfolding predecessor
predecessor_top zero e h = absurd (omega arith)
predecessor_top (suc n) e h = omega arith

pub in_plain : {T : Type 0} (k : Cmd T) {c : ℕ} → Memᴰ c (plain k) → Memᴰ c (children k)
unfolding children
in_plain k m = Memᴰ.append_left (inner k) m

pub in_inner : {T : Type 0} (k : Cmd T) {c : ℕ} → Memᴰ c (inner k) → Memᴰ c (children k)
unfolding children
in_inner k m = Memᴰ.append_right (plain k) m

-- the names in a command's type operands
pub mem_flat : {T : Ty} {n : ℕ} {l : List Ty} → Memᴰ T l → Memᴰ n (names_in T) → Memᴰ n (flat_map names_in l)
unfolding flat_map
mem_flat {T = T} {n = n} {l = []} x5 m = elim x5 [ ]
mem_flat {n = n} {l = A ∷ l} (Memᴰ.head e) m = Memᴰ.append_left (flat_map names_in l) (subst (λ B. Memᴰ n (names_in B)) e m)
mem_flat {l = A ∷ l} (Memᴰ.tail w) m = Memᴰ.append_right (names_in A) (mem_flat w m)

flat_mem : {n : ℕ} (l : List Ty) → Memᴰ n (flat_map names_in l) → (T : Ty) × Memᴰ T l × Memᴰ n (names_in T)
unfolding flat_map
flat_mem [] m = absurd (Memᴰ.not-nil m)
flat_mem {n} (A ∷ l) m = at (Memᴰ.append_cases (names_in A) m) (λ w. flat_mem l w)
  where
    at : Memᴰ n (names_in A) ⊎ Memᴰ n (flat_map names_in l) → (Memᴰ n (flat_map names_in l) → (T : Ty) × Memᴰ T l × Memᴰ n (names_in T)) → (T : Ty) × Memᴰ T (A ∷ l) × Memᴰ n (names_in T)
    at (inl w) f = (A, Memᴰ.head refl, w)
    at (inr w) f = let z = f w in (z.0, Memᴰ.tail z.1, z.2)

-- a job that is read
module _ (S : Src) (ok : Formed S) where
  pub root_lt : root S < length S.cmds
  unfolding root
  root_lt = predecessor_lt (length S.cmds) ok.some_expression

  root_top : (e : ℕ) → e < length S.cmds → e ≤ root S
  unfolding root
  root_top e h = predecessor_top (length S.cmds) e h

  pub plain_lt : {p c : ℕ} → Memᴰ c (plain (nth S.cmds p)) → c < p
  plain_lt {p} {c} m = ok.operand p c (in_plain (nth S.cmds p) m)

  pub inner_lt : {p c : ℕ} → Memᴰ c (inner (nth S.cmds p)) → c < p
  inner_lt {p} {c} m = ok.operand p c (in_inner (nth S.cmds p) m)

  pub ctx_le : {e : ℕ} {Γ : List Entry} → Ctx S e Γ → e ≤ root S
  ctx_le x_root = omega arith
  ctx_le (x_plain m d) = omega (arith, plain_lt m, ctx_le d)
  ctx_le (x_inner m d) = omega (arith, inner_lt m, ctx_le d)

  -- what stands in a context stands among all that the job binds
  pub ctx_bound : {e : ℕ} {Γ : List Entry} {x : ℕ} {T : Ty} → Ctx S e Γ → VarIn x T Γ → VarIn x T (bound_by S.cmds ++ host_ctx S)
  ctx_bound x_root v = varin_right (bound_by S.cmds) v
  ctx_bound (x_plain m d) v = ctx_bound d v
  ctx_bound {x} {T} (x_inner {p = p} {Γ = Γ} m d) v = from (varin_cases (binds (nth S.cmds p)) v) (λ w. ctx_bound d w)
    where
      from : VarIn x T (binds (nth S.cmds p)) ⊎ VarIn x T Γ → (VarIn x T Γ → VarIn x T (bound_by S.cmds ++ host_ctx S)) → VarIn x T (bound_by S.cmds ++ host_ctx S)
      from (inl w) f = varin_left (host_ctx S) (bound_var_lem S.cmds p w)
      from (inr w) f = f w

  -- each name around e is bound outside of e
  pub ctx_names : {e n : ℕ} {Γ : List Entry} → Ctx S e Γ → Memᴰ n (names_of Γ) → Outer S e n
  ctx_names x_root m = o_host (host_name_lem S m)
  ctx_names (x_plain h d) m = outer_down (plain_lt h) (ctx_names d m)
  ctx_names {n} (x_inner {p = p} {c = c} {Γ = Γ} h d) m = from (name_cases (binds (nth S.cmds p)) Γ m) (λ w. ctx_names d w)
    where
      from : Memᴰ n (names_of (binds (nth S.cmds p))) ⊎ Memᴰ n (names_of Γ) → (Memᴰ n (names_of Γ) → Outer S p n) → Outer S c n
      from (inl w) f = o_bound p (inner_lt h) w
      from (inr w) f = outer_down (inner_lt h) (f w)

-- in which each expression is used as is due
module _ (S : Src) (ok : Formed S) (used : Each S (UsedAsDue S)) where
  -- number 8: all but the last are used once
  once : (e : ℕ) → e < root S → uses S.cmds e ≡ 1
  unfolding used_right
  once e h = let ne : e ≢ root S = λ z. omega arith in eqb-true (uses S.cmds e) 1 (rw (ne_eqb e (root S) ne) at (→used S e (used e (omega (arith, root_lt S ok)))))

  -- so every expression stands in a context
  pub stands : (e : ℕ) → e < length S.cmds → (Γ : List Entry) × Ctx S e Γ
  unfolding children
  stands e h = go (length S.cmds) e (omega arith) h
    where
      go : (f e : ℕ) → length S.cmds ≤ e + f → e < length S.cmds → (Γ : List Entry) × Ctx S e Γ
      go zero e g h = absurd (omega arith)
      go (suc f) e g h = at (eqb e (root S)) refl (λ c k l. go f c k l)
        where
          above : ((c : ℕ) → length S.cmds ≤ c + f → c < length S.cmds → (Γ : List Entry) × Ctx S c Γ) → (p : ℕ) → Memᴰ e (children (nth S.cmds p)) → (Γ : List Entry) × Ctx S e Γ
          above ih p m = by (ih p (omega (arith, ok.operand p e m)) (uses_mem S.cmds p e m).2) (Memᴰ.append_cases (plain (nth S.cmds p)) m)
            where
              by : (Γ : List Entry) × Ctx S p Γ → Memᴰ e (plain (nth S.cmds p)) ⊎ Memᴰ e (inner (nth S.cmds p)) → (Γ : List Entry) × Ctx S e Γ
              by z (inl w) = (z.0, x_plain w z.1)
              by z (inr w) = (binds (nth S.cmds p) ++ z.0, x_inner w z.1)

          at : (b : Bool) → eqb e (root S) ≡ b → ((c : ℕ) → length S.cmds ≤ c + f → c < length S.cmds → (Γ : List Entry) × Ctx S c Γ) → (Γ : List Entry) × Ctx S e Γ
          at true z ih = (host_ctx S, subst⁻¹ (λ (t : ℕ). Ctx S t (host_ctx S)) (eqb-true e (root S) z) x_root)
          at false z ih = let ne : e ≢ root S = eqb-false e (root S) z in let y = mem_uses S.cmds e (omega (arith, once e (omega (arith, root_top S ok e h)))) in above ih y.0 y.1

  -- the walk up finds the parent, and sees whether it came from the body
  up : (p c : ℕ) → c < root S → Memᴰ c (children (nth S.cmds p)) → parent S.cmds 0 c ≡ p
  up p c h m = parent_is S.cmds 0 p c (omega (arith, once c h)) m ∙ omega arith

  not_inner : (p c : ℕ) → c < root S → Memᴰ c (plain (nth S.cmds p)) → mem_b c (inner (nth S.cmds p)) ≡ false
  unfolding children
  not_inner p c h m = at (mem_b c (inner (nth S.cmds p))) refl
    where
      k : Cmd Ty
      k = nth S.cmds p

      two : Memᴰ c (inner k) → ⊥
      two w = omega (arith, once c h, (uses_mem S.cmds p c (in_plain k m)).1, count_app c (plain k) (inner k), count_mem c (plain k) m, count_mem c (inner k) w)

      at : (b : Bool) → mem_b c (inner k) ≡ b → mem_b c (inner k) ≡ false
      at true e = absurd (two (mem_b→ c (inner k) e))
      at false e = e

  -- so it gives the context
  pub ctx_is : {e : ℕ} {Γ : List Entry} → Ctx S e Γ → (f : ℕ) → root S ≤ e + f → ctx S f e ≡ Γ
  unfolding ctx scope_in
  ctx_is x_root zero h = refl
  ctx_is x_root (suc f) h = rw (eq-eqb (root S) (root S) refl)
  ctx_is (x_plain m d) zero h = absurd (omega (arith, plain_lt S ok m, ctx_le S ok d))
  ctx_is {e} (x_plain {p = p} m d) (suc f) h =
      let lt : e < root S = omega (arith, plain_lt S ok m, ctx_le S ok d) in
      let ne : e ≢ root S = λ z. omega arith in
      rw (ne_eqb e (root S) ne, up p e lt (in_plain (nth S.cmds p) m), not_inner p e lt m) (ctx_is d f (omega (arith, plain_lt S ok m)))
  ctx_is (x_inner m d) zero h = absurd (omega (arith, inner_lt S ok m, ctx_le S ok d))
  ctx_is {e} (x_inner {p = p} m d) (suc f) h =
      let lt : e < root S = omega (arith, inner_lt S ok m, ctx_le S ok d) in
      let ne : e ≢ root S = λ z. omega arith in
      rw (ne_eqb e (root S) ne, up p e lt (in_inner (nth S.cmds p) m), →mem_b e (inner (nth S.cmds p)) m) (ap (λ l. binds (nth S.cmds p) ++ l) (ctx_is d f (omega (arith, inner_lt S ok m))))

  -- an expression stands in one context
  pub ctx_one : {e : ℕ} {Γ Δ : List Entry} → Ctx S e Γ → Ctx S e Δ → Γ ≡ Δ
  ctx_one d f = sym (ctx_is d (root S) (omega arith)) ∙ ctx_is f (root S) (omega arith)

  -- number 10, in that context
  in_scope→ : (e : ℕ) (Γ : List Entry) → (all_of (λ v. mem_b v (vars_of Γ)) (uses_var (nth S.cmds e)) and all_of (name_in Γ) (uses_name (nth S.cmds e))) ≡ true → UsesOf S e Γ
  unfolding uses_name
  in_scope→ e Γ t = record {
    variable = λ v m. mem_b→ v (vars_of Γ) (all_of→ (λ v. mem_b v (vars_of Γ)) (and_l _ _ t) m);
    type_operand = λ T m. names_type T (λ n w. name_scoped Γ n (all_of→ (name_in Γ) (and_r _ _ t) (mem_flat m w)));
  }

  →in_scope : (e : ℕ) (Γ : List Entry) → UsesOf S e Γ → (all_of (λ v. mem_b v (vars_of Γ)) (uses_var (nth S.cmds e)) and all_of (name_in Γ) (uses_name (nth S.cmds e))) ≡ true
  unfolding uses_name
  →in_scope e Γ u =
      and2 _ _ (→all_of (λ v. mem_b v (vars_of Γ)) (uses_var (nth S.cmds e)) (λ v m. →mem_b v (vars_of Γ) (u.variable v m)))
      (→all_of (name_in Γ) (flat_map names_in (types_of (nth S.cmds e))) (λ n w. let z = flat_mem (types_of (nth S.cmds e)) w in scoped_name (type_names_lem (u.type_operand z.0 z.1) n z.2)))

  pub scope→ : (e : ℕ) → e < length S.cmds → in_scope S e ≡ true → UsesInScope S e
  unfolding in_scope
  scope→ e h t =
      let x = stands e h in
      record { context = x.0; stands = x.1; uses = in_scope→ e x.0 (subst (λ Δ. (all_of (λ v. mem_b v (vars_of Δ)) (uses_var (nth S.cmds e)) and all_of (name_in Δ) (uses_name (nth S.cmds e))) ≡ true) (ctx_is x.1 (length S.cmds) (omega (arith, root_lt S ok))) t) }

  pub →scope : {e : ℕ} {Γ : List Entry} → Ctx S e Γ → UsesOf S e Γ → in_scope S e ≡ true
  unfolding in_scope
  →scope {e} {Γ} d u =
      subst⁻¹ (λ Δ. (all_of (λ v. mem_b v (vars_of Δ)) (uses_var (nth S.cmds e)) and all_of (name_in Δ) (uses_name (nth S.cmds e))) ≡ true) (ctx_is d (length S.cmds) (omega (arith, root_lt S ok))) (→in_scope e Γ u)

-- a job that is read, free of 8, 9 and 10
module _ (S : Src) (ok : Formed S) (tree : TreeOk S) where
  -- number 10: what an expression uses is in the context in which it stands
  pub ctx_uses : {e : ℕ} {Γ : List Entry} → Ctx S e Γ → UsesOf S e Γ
  ctx_uses {e} d =
      let z = tree.scoped e (omega (arith, root_lt S ok, ctx_le S ok d)) in
      subst (λ Δ. UsesOf S e Δ) (ctx_one S ok tree.used z.stands d) z.uses

  -- number 9: each variable has one type in the whole job
  pub var_twice : (i j : ℕ) {x : ℕ} {T U : Ty} → i < j → VarIn x T (binds (nth S.cmds i)) → VarIn x U (binds (nth S.cmds j)) → ⊥
  var_twice i j {x} h v w = (tree.anew j (var_lt S.cmds j w)).variable i x h (binds_var_lem (nth S.cmds i) v) (binds_var_lem (nth S.cmds j) w)

  same_binder : (i j : ℕ) {x : ℕ} {T U : Ty} → VarIn x T (binds (nth S.cmds i)) → VarIn x U (binds (nth S.cmds j)) → T ≡ U
  same_binder i j {x} {T} {U} v w = at (eqb i j) refl
    where
      at : (b : Bool) → eqb i j ≡ b → T ≡ U
      at true e = binds_once (nth S.cmds j) (subst (λ (t : ℕ). VarIn x T (binds (nth S.cmds t))) (eqb-true i j e) v) w
      at false e = order i j (eqb-false i j e) (λ h. absurd (var_twice i j h v w)) (λ h. absurd (var_twice j i h w v))
        where
          order : (i j : ℕ) → i ≢ j → (i < j → T ≡ U) → (j < i → T ≡ U) → T ≡ U
          order zero zero ne f g = absurd (ne refl)
          order zero (suc j) ne f g = f (omega arith)
          order (suc i) zero ne f g = g (omega arith)
          order (suc i) (suc j) ne f g = order i j (λ e. ne (ap suc e)) (λ h. f (omega arith)) (λ h. g (omega arith))

  not_host : (i : ℕ) {x : ℕ} {T U : Ty} → VarIn x T (binds (nth S.cmds i)) → VarIn x U (host_ctx S) → ⊥
  not_host i {x} v w = let z = host_var S w in omega (arith, ok.bound_variable i x (binds_var_lem (nth S.cmds i) v), get_elem?_lt S.values x z.0 z.1)

  host_once : {x : ℕ} {T U : Ty} → VarIn x T (host_ctx S) → VarIn x U (host_ctx S) → T ≡ U
  host_once v w = let a = host_var S v in let b = host_var S w in sym a.2 ∙ ap (λ (h : HostValue Ty). h.ty) (some-injective a.0 b.0 (sym a.1 ∙ b.1)) ∙ b.2

  pub var_once : {x : ℕ} {T U : Ty} → VarIn x T (bound_by S.cmds ++ host_ctx S) → VarIn x U (bound_by S.cmds ++ host_ctx S) → T ≡ U
  var_once {x} {T} {U} v w = at (varin_cases (bound_by S.cmds) v) (varin_cases (bound_by S.cmds) w)
    where
      at : VarIn x T (bound_by S.cmds) ⊎ VarIn x T (host_ctx S) → VarIn x U (bound_by S.cmds) ⊎ VarIn x U (host_ctx S) → T ≡ U
      at (inl a) (inl b) = let y = var_bound S.cmds a in let z = var_bound S.cmds b in same_binder y.0 z.0 y.1 z.1
      at (inl a) (inr b) = let y = var_bound S.cmds a in absurd (not_host y.0 y.1 b)
      at (inr a) (inl b) = let z = var_bound S.cmds b in absurd (not_host z.0 z.1 a)
      at (inr a) (inr b) = host_once a b

  -- a name that e binds is not around e
  pub bound_apart : {e n r : ℕ} → Memᴰ r (names_of (binds (nth S.cmds e))) → Outer S e n → n ≢ r
  bound_apart {e} {n} {r} b (o_host h) z = local_not_host S.names r (ok.bound_name_lem e r (binds_name_lem (nth S.cmds e) b)) (subst (λ (t : ℕ). host_name S.names t ≡ true) z h)
  bound_apart {e} {n} {r} b (o_bound p h m) z = (tree.anew p (name_lt S.cmds p m)).name e r h (binds_name_lem (nth S.cmds e) b) (Memᴰ.cast (sym z) (binds_name_lem (nth S.cmds p) m))

  pub bound_above : (e : ℕ) {r : ℕ} → Memᴰ r (names_of (binds (nth S.cmds e))) → 1 < r
  bound_above e {r} b = local_above S.names r (ok.bound_name_lem e r (binds_name_lem (nth S.cmds e) b))
