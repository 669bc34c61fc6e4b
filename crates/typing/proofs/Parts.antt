-- A derivation for an expression holds one for each of its operands, in the operand's context; so a derivation for the last expression holds one for every expression. And what an expression with a
-- derivation uses is in scope.
use Rattle.std.specs.Prelude.{◌≡◌, ℕ, ◌⊎◌}
use Rattle.std.proofs.Math.Path.{refl, subst⁻¹}
use Rattle.std.proofs.Common.{ap, ◌∙◌, subst, inl, inr}
use mathlib.Core.List.Memᴰ
use mathlib.Core.List.{List, [], ◌∷◌, ◌++◌, Memᴰ}
use Rattle.order.specs.Effects.{Effect}
use Rattle.syntax.specs.Types.{Ty}
use Rattle.syntax.specs.Commands.{Cmd}
use Rattle.syntax.specs.Operands.{nth, plain, inner, types_of, uses_var}
use Rattle.syntax.specs.Job.{Src}
use Rattle.syntax.specs.Tree.{Entry, binds, vars_of, host_ctx, root}
use Rattle.syntax.specs.WellScoped.{ScopedType}
use Rattle.syntax.specs.TreeFacts.{Ctx, x_root, x_plain, x_inner, UsesOf}
use Rattle.syntax.proofs.Scope.{varin_mem}
use Rattle.typing.proofs.Scoped.{lookup_var}
use Rattle.typing.specs.Rules.{Has, h_num, h_top, h_var, h_pair, h_part1, h_part2, h_fn, h_app, h_new, h_asg, h_read, h_sum, h_test, h_lim, h_grant, h_newkey, h_assoc, h_access, h_divide, h_spawn, h_sub, HasKeys, k_nil, k_cons}
use Rattle.typing.specs.Parts.{Given}

given : {S : Src} {Γ : List Entry} {e : ℕ} {T : Ty} {s : Effect} → Has S Γ e T s → Given S Γ e
given d = record { ty = _; eff = _; has = d }

of_plain : {c : ℕ} {j k : Cmd Ty} → j ≡ k → Memᴰ c (plain j) → Memᴰ c (plain k)
of_plain {c} q m = subst (λ (k : Cmd Ty). Memᴰ c (plain k)) q m

of_inner : {c : ℕ} {j k : Cmd Ty} → j ≡ k → Memᴰ c (inner j) → Memᴰ c (inner k)
of_inner {c} q m = subst (λ (k : Cmd Ty). Memᴰ c (inner k)) q m

module _ {S : Src} {Γ : List Entry} where
  first : {c a : ℕ} {l : List ℕ} → Given S Γ a → (Memᴰ c l → Given S Γ c) → Memᴰ c (a ∷ l) → Given S Γ c
  first z f (Memᴰ.head e) = subst⁻¹ (λ (t : ℕ). Given S Γ t) e z
  first z f (Memᴰ.tail m) = f m

  last : {c : ℕ} → Memᴰ c [] → Given S Γ c
  last m = absurd (Memᴰ.not-nil m)

  one : {c a : ℕ} → Given S Γ a → Memᴰ c (a ∷ []) → Given S Γ c
  one x m = first x last m

  two : {c a b : ℕ} → Given S Γ a → Given S Γ b → Memᴰ c (a ∷ b ∷ []) → Given S Γ c
  two x y m = first x (first y last) m

  three : {c a b d : ℕ} → Given S Γ a → Given S Γ b → Given S Γ d → Memᴰ c (a ∷ b ∷ d ∷ []) → Given S Γ c
  three x y z m = first x (first y (first z last)) m

  keys : {c : ℕ} {ks rs : List ℕ} {s : Effect} → HasKeys S Γ ks rs s → Memᴰ c ks → Given S Γ c
  keys k_nil m = last m
  keys (k_cons x ks) m = first (given x) (λ w. keys ks w) m

  limit : {c b : ℕ} {ks rs : List ℕ} {s : Effect} → HasKeys S Γ ks rs s → Given S Γ b → Memᴰ c ks ⊎ Memᴰ c (b ∷ []) → Given S Γ c
  limit k x (inl m) = keys k m
  limit k x (inr m) = one x m

  -- the operands in which nothing new is in scope
  pub plain_part : {e c : ℕ} {T : Ty} {s : Effect} → Has S Γ e T s → Memᴰ c (plain (nth S.cmds e)) → Given S Γ c
  unfolding plain
  plain_part (h_num q) m = last (of_plain q m)
  plain_part (h_top q) m = last (of_plain q m)
  plain_part (h_var q l) m = last (of_plain q m)
  plain_part (h_pair q x y) m = two (given x) (given y) (of_plain q m)
  plain_part (h_part1 q x) m = one (given x) (of_plain q m)
  plain_part (h_part2 q x) m = one (given x) (of_plain q m)
  plain_part (h_fn q o x) m = last (of_plain q m)
  plain_part (h_app q x y s) m = two (given x) (given y) (of_plain q m)
  plain_part (h_new q o x s) m = one (given x) (of_plain q m)
  plain_part (h_asg q x y s) m = two (given x) (given y) (of_plain q m)
  plain_part (h_read q x) m = one (given x) (of_plain q m)
  plain_part (h_sum q x y) m = two (given x) (given y) (of_plain q m)
  plain_part (h_test q o x y z s t) m = three (given x) (given y) (given z) (of_plain q m)
  plain_part (h_lim {ks = ks} q k x w) m = limit k (given x) (Memᴰ.append_cases ks (of_plain q m))
  plain_part (h_grant q x y) m = two (given x) (given y) (of_plain q m)
  plain_part (h_newkey q o x u v f y s) m = one (given x) (of_plain q m)
  plain_part (h_assoc q x y) m = two (given x) (given y) (of_plain q m)
  plain_part (h_access q o x y z s t) m = three (given x) (given y) (given z) (of_plain q m)
  plain_part (h_divide q x y) m = two (given x) (given y) (of_plain q m)
  plain_part (h_spawn q x) m = one (given x) (of_plain q m)
  plain_part (h_sub d s o u v) m = plain_part d m

-- the body of a binder
pub inner_part : {S : Src} {Γ : List Entry} {e c : ℕ} {T : Ty} {s : Effect} → Has S Γ e T s → Memᴰ c (inner (nth S.cmds e)) → Given S (binds (nth S.cmds e) ++ Γ) c
unfolding inner binds
inner_part (h_num q) m = last (of_inner q m)
inner_part (h_top q) m = last (of_inner q m)
inner_part (h_var q l) m = last (of_inner q m)
inner_part (h_pair q x y) m = last (of_inner q m)
inner_part (h_part1 q x) m = last (of_inner q m)
inner_part (h_part2 q x) m = last (of_inner q m)
inner_part {S} {Γ} {c = c} (h_fn q o x) m = subst⁻¹ (λ (k : Cmd Ty). Given S (binds k ++ Γ) c) q (one (given x) (of_inner q m))
inner_part (h_app q x y s) m = last (of_inner q m)
inner_part (h_new q o x s) m = last (of_inner q m)
inner_part (h_asg q x y s) m = last (of_inner q m)
inner_part (h_read q x) m = last (of_inner q m)
inner_part (h_sum q x y) m = last (of_inner q m)
inner_part (h_test q o x y z s t) m = last (of_inner q m)
inner_part (h_lim q k x w) m = last (of_inner q m)
inner_part (h_grant q x y) m = last (of_inner q m)
inner_part {S} {Γ} {c = c} (h_newkey q o x u v f y s) m = subst⁻¹ (λ (k : Cmd Ty). Given S (binds k ++ Γ) c) q (one (given y) (of_inner q m))
inner_part (h_assoc q x y) m = last (of_inner q m)
inner_part (h_access q o x y z s t) m = last (of_inner q m)
inner_part (h_divide q x y) m = last (of_inner q m)
inner_part (h_spawn q x) m = last (of_inner q m)
inner_part (h_sub d s o u v) m = inner_part d m

-- every expression, by the way down from the last
pub everywhere : {S : Src} {U : Ty} {t : Effect} → Has S (host_ctx S) (root S) U t → {e : ℕ} {Γ : List Entry} → Ctx S e Γ → Given S Γ e
everywhere d x_root = given d
everywhere d (x_plain m x) = plain_part (everywhere d x).has m
everywhere d (x_inner m x) = inner_part (everywhere d x).has m

-- what an expression with a derivation uses is in its context: number 10
no_var : {X : Type 0} {x : ℕ} {j k : Cmd Ty} → j ≡ k → uses_var k ≡ [] → Memᴰ x (uses_var j) → X
no_var {x = x} q z m = absurd (Memᴰ.not-nil (subst (λ (l : List ℕ). Memᴰ x l) (ap uses_var q ∙ z) m))

no_type : {X : Type 0} {U : Ty} {j k : Cmd Ty} → j ≡ k → types_of k ≡ [] → Memᴰ U (types_of j) → X
no_type {U = U} q z m = absurd (Memᴰ.not-nil (subst (λ (l : List Ty). Memᴰ U l) (ap types_of q ∙ z) m))

one_type : {Γ : List Entry} {U T : Ty} {j k : Cmd Ty} → j ≡ k → types_of k ≡ T ∷ [] → ScopedType Γ T → Memᴰ U (types_of j) → ScopedType Γ U
one_type {Γ} {U} q z o m = subst⁻¹ (λ (A : Ty). ScopedType Γ A) (Memᴰ.eq_of_singleton (subst (λ (l : List Ty). Memᴰ U l) (ap types_of q ∙ z) m)) o

module _ {S : Src} {Γ : List Entry} where
  var_used : {e x : ℕ} {T : Ty} {s : Effect} → Has S Γ e T s → Memᴰ x (uses_var (nth S.cmds e)) → Memᴰ x (vars_of Γ)
  unfolding uses_var
  var_used (h_num q) m = no_var q refl m
  var_used (h_top q) m = no_var q refl m
  var_used {x = x} (h_var q l) m = subst⁻¹ (λ (y : ℕ). Memᴰ y (vars_of Γ)) (Memᴰ.eq_of_singleton (subst (λ (k : Cmd Ty). Memᴰ x (uses_var k)) q m)) (varin_mem (lookup_var l))
  var_used (h_pair q x y) m = no_var q refl m
  var_used (h_part1 q x) m = no_var q refl m
  var_used (h_part2 q x) m = no_var q refl m
  var_used (h_fn q o x) m = no_var q refl m
  var_used (h_app q x y s) m = no_var q refl m
  var_used (h_new q o x s) m = no_var q refl m
  var_used (h_asg q x y s) m = no_var q refl m
  var_used (h_read q x) m = no_var q refl m
  var_used (h_sum q x y) m = no_var q refl m
  var_used (h_test q o x y z s t) m = no_var q refl m
  var_used (h_lim q k x w) m = no_var q refl m
  var_used (h_grant q x y) m = no_var q refl m
  var_used (h_newkey q o x u v f y s) m = no_var q refl m
  var_used (h_assoc q x y) m = no_var q refl m
  var_used (h_access q o x y z s t) m = no_var q refl m
  var_used (h_divide q x y) m = no_var q refl m
  var_used (h_spawn q x) m = no_var q refl m
  var_used (h_sub d s o u v) m = var_used d m

  type_used : {e : ℕ} {T U : Ty} {s : Effect} → Has S Γ e T s → Memᴰ U (types_of (nth S.cmds e)) → ScopedType Γ U
  unfolding types_of
  type_used (h_num q) m = no_type q refl m
  type_used (h_top q) m = no_type q refl m
  type_used (h_var q l) m = no_type q refl m
  type_used (h_pair q x y) m = no_type q refl m
  type_used (h_part1 q x) m = no_type q refl m
  type_used (h_part2 q x) m = no_type q refl m
  type_used (h_fn q o x) m = one_type q refl o m
  type_used (h_app q x y s) m = no_type q refl m
  type_used (h_new q o x s) m = one_type q refl o m
  type_used (h_asg q x y s) m = no_type q refl m
  type_used (h_read q x) m = no_type q refl m
  type_used (h_sum q x y) m = no_type q refl m
  type_used (h_test q o x y z s t) m = one_type q refl o m
  type_used (h_lim q k x w) m = no_type q refl m
  type_used (h_grant q x y) m = no_type q refl m
  type_used (h_newkey q o x u v f y s) m = one_type q refl o m
  type_used (h_assoc q x y) m = no_type q refl m
  type_used (h_access q o x y z s t) m = one_type q refl o m
  type_used (h_divide q x y) m = no_type q refl m
  type_used (h_spawn q x) m = no_type q refl m
  type_used (h_sub d s o u v) m = type_used d m

  pub uses_of : {e : ℕ} {T : Ty} {s : Effect} → Has S Γ e T s → UsesOf S e Γ
  uses_of d = record { variable = λ x m. var_used d m; type_operand = λ U m. type_used d m }
