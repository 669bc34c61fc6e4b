-- What the rules give, the table has, and has it least: where there is a derivation for an expression in its context, the expression is typed, with a type and an
-- effect below those of the derivation.
use Rattle.std.specs.Prelude.{◌≡◌, ℕ, zero, suc, ◌<◌, Bool, cond, length}
use Rattle.std.proofs.Math.Path.{refl, ap, subst⁻¹}
use Rattle.std.proofs.Common.{◌∙◌, subst, arith}
use Rattle.std.proofs.Math.Bool.{true, false}
use mathlib.Core.List.Memᴰ
use mathlib.Core.List.{List, [], ◌∷◌, ◌++◌, Memᴰ}
use Rattle.std.proofs.Math.Option.{some}
use Rattle.std.proofs.Math.ListN.{get_elem?}
use borrow.Author.Tests.{eq-eqb}
use Rattle.order.specs.Order.{Below, here}
use Rattle.order.specs.Effects.{Effect, pure, touch, of_names, join, drop, raise, reduce, EffBelow}
use Rattle.order.proofs.EffectLaws.{eff_refl, eff_trans, eff_join_mono, eff_touch_mono, reduce_below, drop_mono, raise_mono, →eff_below}
use Rattle.syntax.specs.Types.{Ty, num, pair, cell, fn, lim, grant, by_type, on_num, on_pair, on_cell, on_fn, on_lim, on_grant, key_of, rekey}
use Rattle.syntax.specs.Commands.{Cmd, c_num, c_top, c_var, c_pair, c_part, c_fn, c_app, c_new, c_asg, c_read, c_sum, c_test, c_lim, c_grant, c_newkey, c_assoc, c_access, c_divide, c_spawn}
use Rattle.syntax.specs.Operands.{nth, plain, inner, types_of}
use Rattle.syntax.specs.Job.{Src, up_of}
use Rattle.syntax.specs.Formed.{ReducedTy, r_cell, r_fn, Formed}
use Rattle.syntax.specs.Tree.{Entry, binds}
use Rattle.syntax.specs.TreeFacts.{Ctx, x_plain, x_inner, TreeOk}
use Rattle.syntax.proofs.Context.{plain_lt, inner_lt, ctx_le, root_lt}
use Rattle.typing.specs.Subtype.{Sub, s_num, s_pair, s_cell, s_fn, s_lim, s_grant}
use Rattle.typing.specs.Rules.{Has, h_num, h_top, h_var, h_pair, h_part1, h_part2, h_fn, h_app, h_new, h_asg, h_read, h_sum, h_test, h_lim, h_grant, h_newkey, h_assoc, h_access, h_divide, h_spawn, h_sub, HasKeys, k_nil, k_cons}
use Rattle.typing.proofs.SubtypeLaws.{sub_refl, sub_trans, sub_key, sub_rekey, →sub_ty}
use Rattle.typing.specs.Least.{Typed, typed, with, want_num, want_pair, want_cell, want_fn, want_lim, want_grant, require, is_upper, var_type, of_var, keys_at, type_at, get, types_to, type_of}
use Rattle.typing.proofs.Scoped.{ctx_type}
use Rattle.typing.proofs.Scoping.{worked_out}
use Rattle.typing.proofs.Filled.{seen, type_of_is}
use Rattle.typing.specs.Minimal.{Least}

module _ (S : Src) (ok : Formed S) (tree : TreeOk S) where
  abbrev up : List ℕ
  up = up_of S

  -- the table when e is typed
  abbrev pre : ℕ → ℕ → Typed
  pre e = get (types_to S e)

  -- the order of effects
  tr : {s t u : Effect} → EffBelow up s t → EffBelow up t u → EffBelow up s u
  tr f g = eff_trans f g

  red : {s t : Effect} → EffBelow up s t → EffBelow up (reduce up s) t
  red {s} f = eff_trans (reduce_below up s) f

  tch : {p q : ℕ} {s t : Effect} → Below up p q → EffBelow up s t → EffBelow up (touch p s) (touch q t)
  tch b f = eff_touch_mono ok.proper b f

  jn : {s s' t t' : Effect} → EffBelow up s s' → EffBelow up t t' → EffBelow up (join s t) (join s' t')
  jn f g = eff_join_mono f g

  sr : (A : Ty) → Sub up A A
  sr A = sub_refl A

  -- when e is typed, its operand a has a type with reduced sets that is at most T, and an effect that is at most t
  data Known (e a : ℕ) (T : Ty) (t : Effect) : Type 0 where
    known : {A : Ty} {s : Effect} → pre e a ≡ typed A s → Sub up A T → EffBelow up s t → ReducedTy up A → Known e a T t

  -- an operand whose type is below a limit or grant key's is such a key, of the same name
  record AsLim (e a q r : ℕ) (t : Effect) : Type 0 where
    own : ℕ
    eff : Effect
    got : pre e a ≡ typed (lim own r) eff
    low : Below up own q
    under : EffBelow up eff t

  record AsGrant (e a q r : ℕ) (t : Effect) : Type 0 where
    own : ℕ
    eff : Effect
    got : pre e a ≡ typed (grant own r) eff
    low : Below up own q
    under : EffBelow up eff t

  as_lim_lem : {e a q r : ℕ} {t : Effect} → Known e a (lim q r) t → AsLim e a q r t
  as_lim_lem (known {s = s} h (s_lim {p = p} b i) u ra) = record { own = p; eff = s; got = h ∙ ap (λ (n : ℕ). typed (lim p n) s) i; low = b; under = u }

  as_grant_lem : {e a q r : ℕ} {t : Effect} → Known e a (grant q r) t → AsGrant e a q r t
  as_grant_lem (known {s = s} h (s_grant {p = p} b i) u ra) = record { own = p; eff = s; got = h ∙ ap (λ (n : ℕ). typed (grant p n) s) i; low = b; under = u }

  -- the keys of a limit: the same names, the effect below
  record LeastKeys (e : ℕ) (ks rs : List ℕ) (s : Effect) : Type 0 where
    eff : Effect
    got : (f : List ℕ → Effect → Typed) → keys_at (pre e) ks f ≡ f rs eff
    under : EffBelow up eff s

  no_keys : (e : ℕ) → LeastKeys e [] [] pure
  unfolding keys_at
  no_keys e = record { eff = pure; got = λ f. refl; under = eff_refl }

  key_least : {e a q r : ℕ} {s t : Effect} {ks rs : List ℕ} → AsLim e a q r s → LeastKeys e ks rs t → LeastKeys e (a ∷ ks) (r ∷ rs) (touch q (join s t))
  unfolding keys_at with want_lim on_lim by_type
  key_least {r = r} h k =
      record { eff = touch h.own (join h.eff k.eff); got = λ f. rw h.got (k.got (λ rs t. f (r ∷ rs) (touch h.own (join h.eff t)))); under = tch h.low (jn h.under k.under) }

  -- one lemma a command: e is typed by what its operands have
  module _ {e : ℕ} (lt : e < length S.cmds) where
    fix : type_of S e ≡ type_at S (pre e) (nth S.cmds e)
    fix = type_of_is S e lt

    -- a type operand
    written : {T : Ty} {k : Cmd Ty} → nth S.cmds e ≡ k → Memᴰ T (types_of k) → ReducedTy up T
    written {T} c m = ok.operand_reduced e T (subst⁻¹ (λ (k : Cmd Ty). Memᴰ T (types_of k)) c m)

    num_least : {n : ℕ} → nth S.cmds e ≡ c_num n → Least S e (num 0) pure
    unfolding type_at
    num_least c = record { ty = num 0; eff = pure; got = rw c at fix; sub = sr (num 0); under = eff_refl }

    top_least : nth S.cmds e ≡ c_top → Least S e (lim 0 1) pure
    unfolding type_at
    top_least c = record { ty = lim 0 1; eff = pure; got = rw c at fix; sub = sr (lim 0 1); under = eff_refl }

    var_least : {x : ℕ} {T : Ty} → nth S.cmds e ≡ c_var x → var_type S x ≡ some T → Least S e T pure
    unfolding type_at of_var
    var_least {T = T} c v = record { ty = T; eff = pure; got = rw (c, v) at fix; sub = sr T; under = eff_refl }

    pair_least : {a b : ℕ} {A B : Ty} {s t : Effect} → nth S.cmds e ≡ c_pair a b → Known e a A s → Known e b B t → Least S e (pair 0 A B) (join s t)
    unfolding type_at with
    pair_least c (known h x u ra) (known k y v rb) = record { ty = _; eff = _; got = rw (c, h, k) at fix; sub = s_pair here x y; under = red (jn u v) }

    part_least : {a q : ℕ} {A B : Ty} {s : Effect} (i : Bool) → nth S.cmds e ≡ c_part a i → Known e a (pair q A B) s → Least S e (cond i A B) (touch q s)
    unfolding type_at with want_pair on_pair by_type
    part_least true c (known h (s_pair r x y) u ra) = record { ty = _; eff = _; got = rw (c, h) at fix; sub = x; under = red (tch r u) }
    part_least false c (known h (s_pair r x y) u ra) = record { ty = _; eff = _; got = rw (c, h) at fix; sub = y; under = red (tch r u) }

    fn_least : {x b : ℕ} {T U : Ty} {s : Effect} → nth S.cmds e ≡ c_fn x T b → Known e b U s → Least S e (fn 0 T U s) pure
    unfolding type_at with
    fn_least {T = T} c (known h x u ra) = record { ty = _; eff = pure; got = rw (c, h) at fix; sub = s_fn here (sr T) x u; under = eff_refl }

    app_least : {f a q : ℕ} {A T U : Ty} {l s t : Effect} → nth S.cmds e ≡ c_app f a → Known e f (fn q T U l) s → Known e a A t → Sub up A T → Least S e U (touch q (join l (join s t)))
    unfolding type_at with want_fn require on_fn by_type
    app_least {A = A} {T = T} c (known h (s_fn r x y w) u (r_fn ra rb rs)) (known k v z rc) s =
        record { ty = _; eff = _; got = rw (c, h, k, →sub_ty ok.proper rc ra (sub_trans T (sub_trans A v s) x)) at fix; sub = y; under = red (tch r (jn w (jn u z))) }

    new_least : {a : ℕ} {A T : Ty} {s : Effect} → nth S.cmds e ≡ c_new T a → Known e a A s → Sub up A T → Least S e (cell 0 T) s
    unfolding type_at with require types_of
    new_least {A = A} {T = T} c (known h v u ra) s = record { ty = cell 0 T; eff = _; got = rw (c, h, →sub_ty ok.proper ra (written c (Memᴰ.head refl)) (sub_trans A v s)) at fix; sub = sr _; under = u }

    asg_least : {a b q : ℕ} {A T : Ty} {s t : Effect} → nth S.cmds e ≡ c_asg a b → Known e a (cell q T) s → Known e b A t → Sub up A T → Least S e T (touch q (join s t))
    unfolding type_at with want_cell require on_cell by_type
    asg_least {A = A} {T = T} c (known h (s_cell r x y) u (r_cell ra)) (known k v z rb) s =
        record { ty = _; eff = _; got = rw (c, h, k, →sub_ty ok.proper rb ra (sub_trans T (sub_trans A v s) y)) at fix; sub = x; under = red (tch r (jn u z)) }

    read_least : {a q : ℕ} {T : Ty} {s : Effect} → nth S.cmds e ≡ c_read a → Known e a (cell q T) s → Least S e T (touch q s)
    unfolding type_at with want_cell on_cell by_type
    read_least c (known h (s_cell r x y) u ra) = record { ty = _; eff = _; got = rw (c, h) at fix; sub = x; under = red (tch r u) }

    sum_least : {a b p q : ℕ} {i : Bool} {s t : Effect} → nth S.cmds e ≡ c_sum i a b → Known e a (num p) s → Known e b (num q) t → Least S e (num 0) (touch p (touch q (join s t)))
    unfolding type_at with want_num on_num by_type
    sum_least c (known h (s_num x) u ra) (known k (s_num y) z rb) = record { ty = num 0; eff = _; got = rw (c, h, k) at fix; sub = sr _; under = red (tch x (tch y (jn u z))) }

    test_least : {a b d q : ℕ} {B C T : Ty} {s t u : Effect} → nth S.cmds e ≡ c_test a b d T → Known e a (num q) s → Known e b B t → Known e d C u → Sub up B T → Sub up C T
        → Least S e T (touch q (join s (join t u)))
    unfolding type_at with want_num require types_of on_num by_type
    test_least {B = B} {C = C} {T = T} c (known h (s_num x) u ra) (known k v z rb) (known k' v' z' rc) s s' =
        let w = written c (Memᴰ.head refl) in
        record { ty = T; eff = _; got = rw (c, h, k, k', →sub_ty ok.proper rb w (sub_trans B v s), →sub_ty ok.proper rc w (sub_trans C v' s')) at fix; sub = sr T; under = red (tch x (jn u (jn z z'))) }

    lim_least : {b : ℕ} {ks rs : List ℕ} {T : Ty} {s t : Effect} → nth S.cmds e ≡ c_lim ks b → LeastKeys e ks rs s → Known e b T t → EffBelow up t (of_names rs) → Least S e T (join s t)
    unfolding type_at with require
    lim_least c k (known {A = A} {s = t₀} h x u ra) w = record { ty = A; eff = reduce up (join k.eff t₀); got = fix ∙ ap (type_at S (pre e)) c ∙ k.got _ ∙ rw (h, →eff_below ok.proper (tr u w)); sub = x; under = red (jn k.under u) }

    grant_least : {a b q r : ℕ} {T : Ty} {s t : Effect} → nth S.cmds e ≡ c_grant a b → AsGrant e a q r s → Known e b T t → Least S e T (touch q (join s (drop up r t)))
    unfolding type_at with want_grant on_grant by_type
    grant_least {r = r} c h (known k v z ra) = record { ty = _; eff = _; got = rw (c, h.got, k) at fix; sub = v; under = red (tch h.low (jn h.under (drop_mono ok.proper r z))) }

    newkey_least : {x r a b q u : ℕ} {B T : Ty} {s t : Effect} → nth S.cmds e ≡ c_newkey x r a b T → AsLim e a q u s → get_elem? up r ≡ some u → Known e b B t → Sub up B T
        → Least S e T (touch q (join s (raise r u t)))
    unfolding type_at with want_lim require is_upper types_of on_lim by_type
    newkey_least {r = r} {u = u} {B = B} {T = T} c h g (known k y z ra) s =
        record { ty = T; eff = _; got = rw (c, h.got, k, g, eq-eqb u u refl, →sub_ty ok.proper ra (written c (Memᴰ.head refl)) (sub_trans B y s)) at fix; sub = sr T; under = red (tch h.low (jn h.under (raise_mono ok.proper r g z))) }

    assoc_least : {a b q r : ℕ} {A : Ty} {s t : Effect} → nth S.cmds e ≡ c_assoc a b → Known e a A s → AsLim e b q r t → Least S e (rekey r A) (touch (key_of A) (touch q (join s t)))
    unfolding type_at with want_lim on_lim by_type
    assoc_least {r = r} c (known h x u ra) k = record { ty = _; eff = _; got = rw (c, h, k.got) at fix; sub = sub_rekey r x; under = red (tch (sub_key x) (tch k.low (jn u k.under))) }

    access_least : {a b d q r : ℕ} {B C T : Ty} {s t u : Effect} → nth S.cmds e ≡ c_access a b d T → AsLim e a q r s → Known e b B t → Known e d C u → Sub up B T → Sub up C T
        → Least S e T (touch q (join s (join (drop up r t) u)))
    unfolding type_at with want_lim require types_of on_lim by_type
    access_least {r = r} {B = B} {C = C} {T = T} c h (known k v z rb) (known k' v' z' rc) s s' =
        let w = written c (Memᴰ.head refl) in
        record { ty = T; eff = _; got = rw (c, h.got, k, k', →sub_ty ok.proper rb w (sub_trans B v s), →sub_ty ok.proper rc w (sub_trans C v' s')) at fix; sub = sr T; under = red (tch h.low (jn h.under (jn (drop_mono ok.proper r z) z'))) }

    divide_least : {a b p q : ℕ} {s t : Effect} → nth S.cmds e ≡ c_divide a b → Known e a (num p) s → Known e b (num q) t → Least S e (pair 0 (num 0) (num 0)) (touch p (touch q (join s t)))
    unfolding type_at with want_num on_num by_type
    divide_least c (known h (s_num x) u ra) (known k (s_num y) z rb) = record { ty = _; eff = _; got = rw (c, h, k) at fix; sub = sr _; under = red (tch x (tch y (jn u z))) }

    spawn_least : {b : ℕ} {T : Ty} → nth S.cmds e ≡ c_spawn b → Known e b T pure → Least S e (num 0) pure
    unfolding type_at with require
    spawn_least c (known h x u ra) = record { ty = num 0; eff = pure; got = rw (c, h, →eff_below ok.proper u) at fix; sub = sr (num 0); under = eff_refl }

  -- what is known of the expressions before e
  abbrev IH : ℕ → Type 0
  IH e = (a : ℕ) → a < e → (Γ : List Entry) (T : Ty) (t : Effect) → Has S Γ a T t → Ctx S a Γ → Least S a T t

  abbrev hd : {a : ℕ} {l : List ℕ} → Memᴰ a (a ∷ l)
  hd = Memᴰ.head refl

  -- an expression in its context
  module _ {e : ℕ} {Γ : List Entry} (l : e < length S.cmds) (ih : IH e) (g : Ctx S e Γ) where
    operand : {a : ℕ} {Δ : List Entry} {T : Ty} {t : Effect} → a < e → Ctx S a Δ → Has S Δ a T t → Known e a T t
    operand {a} h d x = let z = ih a h _ _ _ x d in known (seen S e a (omega (arith, l)) h ∙ z.got) z.sub z.under (worked_out S ok tree d z.got).ty

    of_plain : {a : ℕ} {T : Ty} {t : Effect} {k : Cmd Ty} → nth S.cmds e ≡ k → Memᴰ a (plain k) → Has S Γ a T t → Known e a T t
    of_plain {a} c m x = let w = subst⁻¹ (λ (k : Cmd Ty). Memᴰ a (plain k)) c m in operand (plain_lt S ok w) (x_plain w g) x

    of_inner : {a : ℕ} {T : Ty} {t : Effect} {k : Cmd Ty} → nth S.cmds e ≡ k → Memᴰ a (inner k) → Has S (binds k ++ Γ) a T t → Known e a T t
    of_inner {a} c m x = let w = subst⁻¹ (λ (k : Cmd Ty). Memᴰ a (inner k)) c m in operand (inner_lt S ok w) (subst (λ (k : Cmd Ty). Ctx S a (binds k ++ Γ)) c (x_inner w g)) x

    keys : {k : Cmd Ty} {ks rs : List ℕ} {s : Effect} → nth S.cmds e ≡ k → HasKeys S Γ ks rs s → ((a : ℕ) → Memᴰ a ks → Memᴰ a (plain k)) → LeastKeys e ks rs s
    keys c k_nil i = no_keys e
    keys c (k_cons x ks) i = key_least (as_lim_lem (of_plain c (i _ hd) x)) (keys c ks (λ a m. i a (Memᴰ.tail m)))

    at : {T : Ty} {t : Effect} → Has S Γ e T t → Least S e T t
    unfolding plain inner binds
    at (h_num c) = num_least l c
    at (h_top c) = top_least l c
    at (h_var c v) = var_least l c (ctx_type S ok tree g v)
    at (h_pair c x y) = pair_least l c (of_plain c hd x) (of_plain c (Memᴰ.tail hd) y)
    at (h_part1 c x) = part_least l true c (of_plain c hd x)
    at (h_part2 c x) = part_least l false c (of_plain c hd x)
    at (h_fn c o x) = fn_least l c (of_inner c hd x)
    at (h_app c x y s) = app_least l c (of_plain c hd x) (of_plain c (Memᴰ.tail hd) y) s
    at (h_new c o x s) = new_least l c (of_plain c hd x) s
    at (h_asg c x y s) = asg_least l c (of_plain c hd x) (of_plain c (Memᴰ.tail hd) y) s
    at (h_read c x) = read_least l c (of_plain c hd x)
    at (h_sum c x y) = sum_least l c (of_plain c hd x) (of_plain c (Memᴰ.tail hd) y)
    at (h_test c o x y z s s') = test_least l c (of_plain c hd x) (of_plain c (Memᴰ.tail hd) y) (of_plain c (Memᴰ.tail (Memᴰ.tail hd)) z) s s'
    at (h_lim {b = b} {ks = ks} c x y w) = lim_least l c (keys c x (λ a m. Memᴰ.append_left (b ∷ []) m)) (of_plain c (Memᴰ.append_right ks hd) y) w
    at (h_grant c x y) = grant_least l c (as_grant_lem (of_plain c hd x)) (of_plain c (Memᴰ.tail hd) y)
    at (h_newkey c o x p v fr y s) = newkey_least l c (as_lim_lem (of_plain c hd x)) p (of_inner c hd y) s
    at (h_assoc c x y) = assoc_least l c (of_plain c hd x) (as_lim_lem (of_plain c (Memᴰ.tail hd) y))
    at (h_access c o x y z s s') = access_least l c (as_lim_lem (of_plain c hd x)) (of_plain c (Memᴰ.tail hd) y) (of_plain c (Memᴰ.tail (Memᴰ.tail hd)) z) s s'
    at (h_divide c x y) = divide_least l c (of_plain c hd x) (of_plain c (Memᴰ.tail hd) y)
    at (h_spawn c x) = spawn_least l c (of_plain c hd x)
    at (h_sub {A = A} d s o u v) = let z = at d in record { ty = z.ty; eff = z.eff; got = z.got; sub = sub_trans A z.sub s; under = tr z.under u }

  -- operands are earlier, so by the number of the expression
  upto : (f e : ℕ) → e < f → e < length S.cmds → (Γ : List Entry) (T : Ty) (t : Effect) → Has S Γ e T t → Ctx S e Γ → Least S e T t
  upto zero e h l Γ T t d g = absurd (omega arith)
  upto (suc f) e h l Γ T t d g = at l (λ a k Δ U u x y. upto f a (omega arith) (omega arith) Δ U u x y) g d

  -- every expression, in its context
  pub minimal : {e : ℕ} {Γ : List Entry} → Ctx S e Γ → {U : Ty} {t : Effect} → Has S Γ e U t → Least S e U t
  minimal {e} x d = upto (suc e) e (omega arith) (omega (arith, ctx_le S ok x, root_lt S ok)) _ _ _ d x
