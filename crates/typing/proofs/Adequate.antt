-- What the table has, the rules give: where an expression of a job that is read and free of 8, 9 and 10 is typed, there is a derivation in its context.
use Rattle.std.specs.Prelude.{◌≡◌, refl, ℕ, zero, suc, ◌<◌, Bool, true, false, cond, length}
use Rattle.std.proofs.Common.{sym, ap, ◌∙◌, subst, arith, eqb-true}
use Rattle.std.proofs.lemmas.Bool.{false≢true}
use mathlib.Core.List.Memᴰ
use mathlib.Core.List.{List, [], ◌∷◌, ◌++◌, Memᴰ}
use Rattle.std.proofs.Math.Option.{Option, none, some}
use Rattle.std.proofs.Math.ListN.{get_elem?}
use Rattle.order.specs.Effects.{Effect, pure, touch, join, reduce}
use Rattle.order.proofs.EffectLaws.{below_reduce, eff_below→}
use Rattle.syntax.specs.Types.{Ty, pair}
use Rattle.syntax.specs.Commands.{Cmd, c_num, c_top, c_var, c_pair, c_part, c_fn, c_app, c_new, c_asg, c_read, c_sum, c_test, c_lim, c_grant, c_newkey, c_assoc, c_access, c_divide, c_spawn}
use Rattle.syntax.specs.Operands.{nth, plain, inner, types_of}
use Rattle.syntax.specs.Job.{Src, up_of}
use Rattle.syntax.specs.Formed.{Formed}
use Rattle.syntax.specs.Tree.{Entry, binds}
use Rattle.syntax.specs.WellScoped.{ScopedType}
use Rattle.syntax.proofs.ScopeLaws.{pure_scoped, reduce_scoped}
use Rattle.syntax.specs.TreeFacts.{Ctx, x_plain, x_inner, TreeOk}
use Rattle.syntax.proofs.Context.{plain_lt, inner_lt, ctx_le, root_lt, ctx_uses}
use Rattle.typing.specs.Rules.{Has, h_num, h_top, h_var, h_pair, h_part1, h_part2, h_fn, h_app, h_new, h_asg, h_read, h_sum, h_test, h_lim, h_grant, h_newkey, h_assoc, h_access, h_divide, h_spawn, h_sub, HasKeys, k_nil, k_cons}
use Rattle.typing.proofs.SubtypeLaws.{sub_refl, sub_ty→}
use Rattle.typing.specs.Least.{Typed, typed, is_upper, var_type, keys_at, type_at, get, types_to, type_of}
use Rattle.typing.proofs.Scoped.{ctx_type, ctx_var}
use Rattle.typing.specs.RulesScoped.{ScopedContext}
use Rattle.typing.proofs.RulesScoped.{lim_in, rules_scoped}
use Rattle.typing.proofs.Scoping.{ctx_scoped, newkey_fresh}
use Rattle.typing.proofs.Filled.{seen, type_of_is, typed_ty, typed_eff, of_var_lem, by_with, by_require, by_num, by_pair, by_cell, by_fn, by_lim, by_grant}

is_upper_lem : (o : Option ℕ) (u : ℕ) → is_upper o u ≡ true → o ≡ some u
unfolding is_upper
is_upper_lem none u e = absurd (false≢true e)
is_upper_lem (some w) u e = ap some (sym (eqb-true u w e))

module _ (S : Src) (ok : Formed S) (tree : TreeOk S) where
  same : {Γ : List Entry} {e : ℕ} {A T : Ty} {s t : Effect} → typed A s ≡ typed T t → Has S Γ e A s → Has S Γ e T t
  same {Γ} {e} {T = T} {s = s} h d = subst (λ (u : Effect). Has S Γ e T u) (typed_eff h) (subst (λ (U : Ty). Has S Γ e U s) (typed_ty h) d)

  cast : {Γ : List Entry} {e : ℕ} {A B : Ty} {s : Effect} → A ≡ B → Has S Γ e A s → Has S Γ e B s
  cast {Γ} {e} {s = s} h d = subst (λ (U : Ty). Has S Γ e U s) h d

  -- "Effects join and are then reduced": what the rule gives, which is in scope, comes below what is worked out
  less : {Γ : List Entry} {e : ℕ} {A T : Ty} {s t : Effect} → ScopedContext Γ → typed A (reduce (up_of S) s) ≡ typed T t → Has S Γ e A s → Has S Γ e T t
  less {A = A} {s = s} g h d = let z = rules_scoped S ok d g in same h (h_sub d (sub_refl A) z.ty (below_reduce ok.proper s) (reduce_scoped (up_of S) z.eff))

  part : {Γ : List Entry} {e a q : ℕ} {A B : Ty} {s : Effect} (i : Bool) → nth S.cmds e ≡ c_part a i → Has S Γ a (pair q A B) s → Has S Γ e (cond i A B) (touch q s)
  part true c d = h_part1 c d
  part false c d = h_part2 c d

  -- what is known of the operands
  abbrev OperandIH : (ℕ → Typed) → List Entry → List ℕ → Type 0
  OperandIH tab Γ l = (c : ℕ) → Memᴰ c l → (T : Ty) (s : Effect) → tab c ≡ typed T s → Has S Γ c T s

  keys : {X : Type 0} {T : Ty} {s : Effect} {Γ : List Entry} (tab : ℕ → Typed) (ks : List ℕ) → OperandIH tab Γ ks → (f : List ℕ → Effect → Typed) → keys_at tab ks f ≡ typed T s
      → ((rs : List ℕ) (t : Effect) → HasKeys S Γ ks rs t → f rs t ≡ typed T s → X) → X
  unfolding keys_at
  keys tab [] p f h g = g [] pure k_nil h
  keys tab (a ∷ ks) p f h g =
      by_with (tab a) _ h (λ K t hk h. by_lim K _ h (λ q r hl h.
      keys tab ks (λ c m. p c (Memᴰ.tail m)) _ h (λ rs u d h.
      g (r ∷ rs) (touch q (join t u)) (k_cons (cast hl (p a (Memᴰ.head refl) K t hk)) d) h)))

  at : (tab : ℕ → Typed) {Γ : List Entry} {e : ℕ} (k : Cmd Ty) → nth S.cmds e ≡ k → OperandIH tab Γ (plain k) → OperandIH tab (binds k ++ Γ) (inner k)
      → ((T : Ty) → Memᴰ T (types_of k) → ScopedType Γ T) → ScopedContext Γ → Ctx S e Γ → (T : Ty) (s : Effect) → type_at S tab k ≡ typed T s → Has S Γ e T s
  unfolding type_at plain inner binds types_of
  at tab (c_num n) c p i o g d T s h = same h (h_num c)
  at tab c_top c p i o g d T s h = same h (h_top c)
  at tab (c_var x) c p i o g d T s h = let l = ctx_var S ok tree d c in same (of_var_lem (var_type S x) (ctx_type S ok tree d l.1) h) (h_var c l.1)
  at tab (c_pair a b) c p i o g d T s h =
      by_with (tab a) _ h (λ A t ha h. by_with (tab b) _ h (λ B u hb h.
      less g h (h_pair c (p a (Memᴰ.head refl) A t ha) (p b (Memᴰ.tail (Memᴰ.head refl)) B u hb))))
  at tab (c_part a j) c p i o g d T s h =
      by_with (tab a) _ h (λ P t ha h. by_pair P _ h (λ q A B hp h.
      less g h (part j c (cast hp (p a (Memᴰ.head refl) P t ha)))))
  at tab (c_fn x A b) c p i o g d T s h = by_with (tab b) _ h (λ U t hb h. same h (h_fn c (o A (Memᴰ.head refl)) (i b (Memᴰ.head refl) U t hb)))
  at tab (c_app f a) c p i o g d T s h =
      by_with (tab f) _ h (λ F t hf h. by_with (tab a) _ h (λ A u ha h. by_fn F _ h (λ q P U l hp h. by_require 12 _ _ h (λ y h.
      less g h (h_app c (cast hp (p f (Memᴰ.head refl) F t hf)) (p a (Memᴰ.tail (Memᴰ.head refl)) A u ha) (sub_ty→ (up_of S) A P y))))))
  at tab (c_new U a) c p i o g d T s h =
      by_with (tab a) _ h (λ A t ha h. by_require 12 _ _ h (λ y h.
      same h (h_new c (o U (Memᴰ.head refl)) (p a (Memᴰ.head refl) A t ha) (sub_ty→ (up_of S) A U y))))
  at tab (c_asg a b) c p i o g d T s h =
      by_with (tab a) _ h (λ C t ha h. by_with (tab b) _ h (λ A u hb h. by_cell C _ h (λ q U hc h. by_require 12 _ _ h (λ y h.
      less g h (h_asg c (cast hc (p a (Memᴰ.head refl) C t ha)) (p b (Memᴰ.tail (Memᴰ.head refl)) A u hb) (sub_ty→ (up_of S) A U y))))))
  at tab (c_read a) c p i o g d T s h =
      by_with (tab a) _ h (λ C t ha h. by_cell C _ h (λ q U hc h.
      less g h (h_read c (cast hc (p a (Memᴰ.head refl) C t ha)))))
  at tab (c_sum j a b) c p i o g d T s h =
      by_with (tab a) _ h (λ A t ha h. by_with (tab b) _ h (λ B u hb h. by_num A _ h (λ q hq h. by_num B _ h (λ r hr h.
      less g h (h_sum c (cast hq (p a (Memᴰ.head refl) A t ha)) (cast hr (p b (Memᴰ.tail (Memᴰ.head refl)) B u hb)))))))
  at tab (c_test a b z U) c p i o g d T s h =
      by_with (tab a) _ h (λ A t ha h. by_with (tab b) _ h (λ B u hb h. by_with (tab z) _ h (λ C v hz h.
      by_num A _ h (λ q hq h. by_require 12 _ _ h (λ y h. by_require 12 _ _ h (λ y' h.
      less g h (h_test c (o U (Memᴰ.head refl)) (cast hq (p a (Memᴰ.head refl) A t ha)) (p b (Memᴰ.tail (Memᴰ.head refl)) B u hb)
      (p z (Memᴰ.tail (Memᴰ.tail (Memᴰ.head refl))) C v hz) (sub_ty→ (up_of S) B U y) (sub_ty→ (up_of S) C U y'))))))))
  at tab (c_lim ks b) c p i o g d T s h =
      keys tab ks (λ a m. p a (Memᴰ.append_left (b ∷ []) m)) _ h (λ rs t hk h. by_with (tab b) _ h (λ U u hb h. by_require 13 _ _ h (λ y h.
      less g h (h_lim c hk (p b (Memᴰ.append_right ks (Memᴰ.head refl)) U u hb) (eff_below→ (up_of S) u _ y)))))
  at tab (c_grant a b) c p i o g d T s h =
      by_with (tab a) _ h (λ A t ha h. by_with (tab b) _ h (λ U u hb h. by_grant A _ h (λ q r hg h.
      less g h (h_grant c (cast hg (p a (Memᴰ.head refl) A t ha)) (p b (Memᴰ.tail (Memᴰ.head refl)) U u hb)))))
  at tab (c_newkey x r a b U) c p i o g d T s h =
      by_with (tab a) _ h (λ A t ha h. by_with (tab b) _ h (λ B u hb h. by_lim A _ h (λ q v hl h. by_require 11 _ _ h (λ y h. by_require 12 _ _ h (λ y' h.
      less g h (h_newkey c (o U (Memᴰ.head refl)) (cast hl (p a (Memᴰ.head refl) A t ha)) (is_upper_lem (get_elem? (up_of S) r) v y) (lim_in (rules_scoped S ok (cast hl (p a (Memᴰ.head refl) A t ha)) g).ty)
      (newkey_fresh S ok tree d c) (i b (Memᴰ.head refl) B u hb) (sub_ty→ (up_of S) B U y')))))))
  at tab (c_assoc a b) c p i o g d T s h =
      by_with (tab a) _ h (λ A t ha h. by_with (tab b) _ h (λ B u hb h. by_lim B _ h (λ q r hl h.
      less g h (h_assoc c (p a (Memᴰ.head refl) A t ha) (cast hl (p b (Memᴰ.tail (Memᴰ.head refl)) B u hb))))))
  at tab (c_access a b z U) c p i o g d T s h =
      by_with (tab a) _ h (λ A t ha h. by_with (tab b) _ h (λ B u hb h. by_with (tab z) _ h (λ C v hz h.
      by_lim A _ h (λ q r hl h. by_require 12 _ _ h (λ y h. by_require 12 _ _ h (λ y' h.
      less g h (h_access c (o U (Memᴰ.head refl)) (cast hl (p a (Memᴰ.head refl) A t ha)) (p b (Memᴰ.tail (Memᴰ.head refl)) B u hb)
      (p z (Memᴰ.tail (Memᴰ.tail (Memᴰ.head refl))) C v hz) (sub_ty→ (up_of S) B U y) (sub_ty→ (up_of S) C U y'))))))))
  at tab (c_divide a b) c p i o g d T s h =
      by_with (tab a) _ h (λ A t ha h. by_with (tab b) _ h (λ B u hb h. by_num A _ h (λ q hq h. by_num B _ h (λ r hr h.
      less g h (h_divide c (cast hq (p a (Memᴰ.head refl) A t ha)) (cast hr (p b (Memᴰ.tail (Memᴰ.head refl)) B u hb)))))))
  at tab (c_spawn b) c p i o g d T s h =
      by_with (tab b) _ h (λ U t hb h. by_require _ _ _ h (λ y h.
      let x = p b (Memᴰ.head refl) U t hb in
      same h (h_spawn c (h_sub x (sub_refl U) (rules_scoped S ok x g).ty (eff_below→ (up_of S) t pure y) pure_scoped))))

  -- operands are earlier, so by the number of the expression
  upto : (f e : ℕ) {Γ : List Entry} → e < f → e < length S.cmds → Ctx S e Γ → (T : Ty) (s : Effect) → type_of S e ≡ typed T s → Has S Γ e T s
  upto zero e h l d T s g = absurd (omega arith)
  upto (suc f) e {Γ} h l d T s g =
      at (get (types_to S e)) (nth S.cmds e) refl
      (λ c m U t y. upto f c (omega (arith, plain_lt S ok m)) (omega (arith, plain_lt S ok m)) (x_plain m d) U t (sym (seen S e c (omega arith) (plain_lt S ok m)) ∙ y))
      (λ c m U t y. upto f c (omega (arith, inner_lt S ok m)) (omega (arith, inner_lt S ok m)) (x_inner m d) U t (sym (seen S e c (omega arith) (inner_lt S ok m)) ∙ y))
      (λ U m. (ctx_uses S ok tree d).type_operand U m) (ctx_scoped S ok tree d) d T s (sym (type_of_is S e l) ∙ g)

  -- every expression, in its context
  pub adequate : {e : ℕ} {Γ : List Entry} → Ctx S e Γ → {T : Ty} {s : Effect} → type_of S e ≡ typed T s → Has S Γ e T s
  adequate {e} d {T} {s} g = upto (suc e) e (omega arith) (omega (arith, ctx_le S ok d, root_lt S ok)) d T s g
