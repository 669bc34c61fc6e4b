-- Each step of a well-typed machine is a step to a well-typed one, done or no room.
use Rattle.std.specs.Prelude.{◌≡◌, Bool, true, false, cond, ◌≢◌, ◌⊎◌, eqb}
use Rattle.std.proofs.Math.Path.{refl, subst⁻¹}
use Rattle.std.proofs.Common.{sym, ◌∙◌, subst, inl, inr, eq-eqb, eqb-true, ltb-true}
use Prim.Native.Nat.{ℕ, zero, suc, ◌≤◌, ◌<◌}
use native.Mathlib.Omega.{arith}
use mathlib.Core.List.Memᴰ
use mathlib.Core.List.{List, [], ◌∷◌, ◌++◌, map, Memᴰ, append_assoc, append-nil}
use Rattle.std.proofs.Math.Option.{none, some}
use Rattle.std.proofs.Math.ListN.{length, get_elem?}
use Rattle.std.proofs.lemmas.Bool.{eqb-false}
use Rattle.order.proofs.Bools.{and_r}
use Rattle.order.specs.Order.{Below, bot, here, there}
use Rattle.order.proofs.OrderLaws.{below_append, below_le, get_elem?_seam, get_elem?_at, get_elem?_append, length_snoc}
use Rattle.order.specs.Sets.{members}
use Rattle.order.specs.Effects.{Effect, names, join, drop, raise}
use Rattle.order.proofs.EffectLaws.{drop_or, raise_off, raise_on}
use Rattle.syntax.specs.Types.{Ty, fn, key_of}
use Rattle.syntax.specs.Commands.{Cmd, c_lim}
use Rattle.syntax.specs.Operands.{evaluated}
use Rattle.syntax.specs.Job.{Src, up_of}
use Rattle.syntax.specs.Tree.{Entry, e_var, e_name, key_pair}
use Rattle.typing.specs.Subtype.{Sub}
use Rattle.typing.specs.FreeNames.{Free}
use Rattle.typing.proofs.Scoped.{scoped_free}
use Rattle.typing.specs.Rules.{Has, h_num, h_top, h_var, h_pair, h_part1, h_part2, h_fn, h_app, h_new, h_asg, h_read, h_sum, h_test, h_lim, h_grant, h_newkey, h_assoc, h_access, h_divide, h_spawn, h_sub, HasKeys, k_nil, k_cons, Fresh, code_of}
use Rattle.semantics.specs.Machine.{Kind, k_num, k_pair, k_fn, k_lim, k_grant, Value, unkeyed, Bind, b_var, b_name, Link, Frame, Control, Thread, Store, Machine, most_bindings}
use Rattle.semantics.specs.Keys.{enabled, add}
use Rattle.semantics.specs.Step
use Rattle.semantics.specs.Step.{Out, o_step, o_done, o_room, Plan, p_done, p_try, room, touch_all, settle, as_num, as_pair, as_fn, as_cell, as_lim, as_grant, found, bare, one, two}
use Rattle.semantics.specs.Step.{makes_pair, act_pair, part_of, act_part, act_fn, act_app, act_new, act_asg, act_read, act_sum, branch, act_test, limit_keys, keys_of, act_lim, act_grant, make_key, act_newkey, act_assoc, act_access, act_divide, act_spawn}
use Rattle.semantics.specs.Step.{variable, push, act, enter_at, enter_cmd, receive, hand_to, plan_on, plan, step}
use Rattle.semantics.specs.RuntimeTypes.{RTy, rnum, rpair, rcell, rfn, rlim, rgrant, Under, RSub, r_num, r_pair, r_cell, r_fn, r_lim, r_grant, rkey, rrekey, inst}
use Rattle.semantics.proofs.RuntimeTypes.{rsub_refl, rsub_trans, rsub_key, rsub_rekey, inst_rekey, inst_key, under_refl}
use Rattle.semantics.specs.Chains.{look, look_var, Chain, ch_cons}
use Rattle.semantics.proofs.Chains.{chain_le, chain_seek, chain_wider, seam, seam_next, length_two}
use Rattle.semantics.specs.Invariant.{TwoTy, FnTy, fty, World, world_of, Ext, Typ, t_num, t_pair, t_cell, t_fn, t_lim, t_grant, Fits, On, on_zero, on_key, OnAll, Covers, EnvOk, eo_var, eo_name, Env, Held, hd_nil, hd_cons, Rest, rest_here, rest_next}
use Rattle.semantics.specs.Invariant.{FrameOk, fo_pair1, fo_pair2, fo_part1, fo_part2, fo_app1, fo_app2, fo_new, fo_read, fo_asg1, fo_asg2, fo_sum1, fo_sum2, fo_test, fo_lim, fo_grant, fo_newkey, fo_assoc1, fo_assoc2, fo_access, fo_divide1, fo_divide2}
use Rattle.semantics.specs.Invariant.{StackOk, so_nil, so_cons, ThreadOk, to_enter_lem, to_hand_lem, FnOk, f_fn, StoreOk, KeysOk, Ok}
use Rattle.semantics.proofs.Growth.{ext_refl, fits_ext, on_ext, covers_ext, env_ok_ext, env_ext, stack_ext}
use Rattle.semantics.proofs.Enabled.{on_more, enabled_on, on_enabled, on_below, on_narrow, keys_snoc, on_under, add_new, add_old, on_name, covers_join_l, covers_join_r, covers_old, covers_touch, covers_map, map_covers}
use Rattle.semantics.proofs.Bindings.{fits_sub, inst_off, env_zero, env_one, env_mono, env_sub, env_lt, env_lookup, covers_below, covers_keys, mono_new, up_new}
use Rattle.semantics.specs.Stores.{world}
use Rattle.semantics.proofs.Stores.{store_wider, fn_extends, add_fn, pair_extends, add_pair, cell_extends, add_cell, set_cell}

-- from the world W a step leads into a wider one
pub data Good (S : Src) (W : World) : Out → Type 0 where
  g_step : {m : Machine} (k : Ok S m) → Ext W (world_of k.pt k.ft k.ct m.store) → Good S W (o_step m)
  g_done : Good S W o_done
  g_room : Good S W o_room

-- the keys are enabled
data AllOn (m : Machine) : List ℕ → Type 0 where
  no_key : AllOn m []
  and_key : {k : ℕ} {ks : List ℕ} → enabled m.store.keys m.thread.on k ≡ true → AllOn m ks → AllOn m (k ∷ ks)

-- the same of a plan: nothing is wrong, the keys that it touches are enabled, and where there is room it does well
data Sure (S : Src) (W : World) : Plan → Type 0 where
  sure_done : Sure S W p_done
  sure_try : {ks : List ℕ} {free : Bool} {m n : Machine} → AllOn m ks → (free ≡ true → Good S W (o_step n)) → Sure S W (p_try ks free m n)

settled : {S : Src} {W : World} {p : Plan} → Sure S W p → Good S W (settle p)
unfolding settle touch_all Step.touch room
settled sure_done = g_done
settled {S} {W} (sure_try {free = free} {m = m} {n = n} a h) = all a
  where
    all : {ks : List ℕ} → AllOn m ks → Good S W (touch_all ks m (room free (o_step n)))
    all no_key = at free h
      where
        at : (b : Bool) → (b ≡ true → Good S W (o_step n)) → Good S W (room b (o_step n))
        at true h = h refl
        at false h = g_room
    all (and_key e a) = rw e (all a)

kb_refl : {ks : List ℕ} {A : RTy} → RSub ks A A
kb_refl {A = A} = rsub_refl A

stack_sub : {S : Src} {W : World} {fs : List Frame} {A B : RTy} → RSub W.keys A B → StackOk S W fs B → StackOk S W fs A
stack_sub h so_nil = so_nil
stack_sub {B = B} h (so_cons e s f k) = so_cons e (rsub_trans B h s) f k

typ_rekey : {W : World} {k : ℕ} {y : Kind} {T : RTy} (j : ℕ) → Typ W k y T → Typ W j y (rrekey j T)
unfolding rrekey
typ_rekey j t_num = t_num
typ_rekey j (t_pair e) = t_pair e
typ_rekey j (t_cell e) = t_cell e
typ_rekey j (t_fn e) = t_fn e
typ_rekey j (t_lim h) = t_lim h
typ_rekey j (t_grant h) = t_grant h

typ_key : {W : World} {k : ℕ} {y : Kind} {T : RTy} → Typ W k y T → rkey T ≡ k
unfolding rkey
typ_key t_num = refl
typ_key (t_pair e) = refl
typ_key (t_cell e) = refl
typ_key (t_fn e) = refl
typ_key (t_lim h) = refl
typ_key (t_grant h) = refl

rest_none : {l : List ℕ} {n : ℕ} → Rest l n [] → get_elem? l n ≡ none
rest_none rest_here = refl
rest_none (rest_next r) = rest_none r

rest_some : {l r : List ℕ} {n a : ℕ} → Rest l n (a ∷ r) → get_elem? l n ≡ some a
rest_some rest_here = refl
rest_some (rest_next r) = rest_some r

rest_more : {l r : List ℕ} {n a : ℕ} → Rest l n (a ∷ r) → Rest l (suc n) r
rest_more rest_here = rest_next rest_here
rest_more (rest_next r) = rest_next (rest_more r)

abbrev val : ℕ → Kind → Value
val k x = record { key = k; kind = x }

-- everything below is about one store that is well typed
module _ (S : Src) (σ : Store) (pt : List TwoTy) (ft : List FnTy) (ct : List RTy) (ko : KeysOk σ.keys) (few : length σ.bindings ≤ most_bindings)
    (st : StoreOk S (world_of pt ft ct σ) σ.cells σ.pairs σ.functions) (ts : List Thread) where
  abbrev W : World
  W = world_of pt ft ct σ

  step_ok : {t : Thread} {us : List Thread} → ThreadOk S W t.control t.env t.on t.frames → Good S W (o_step (record { thread = t; store = σ; threads = us }))
  step_ok h = g_step (record { pt = pt; ft = ft; ct = ct; keys = ko; few = few; store = st; thread = h }) (ext_refl W)

  -- a machine of one thread over the store
  module _ (θ : Thread) where
    abbrev m : Machine
    m = record { thread = θ; store = σ; threads = ts }

    abbrev OnHere : ℕ → Type 0
    OnHere k = On σ.keys (members θ.on) k

    abbrev CoversHere : List Bind → Effect → Type 0
    CoversHere E s = Covers σ.keys (members θ.on) (look E) s

    abbrev Envs : List Bind → List Entry → Type 0
    Envs E Γ = Env S W θ.env E Γ

    abbrev Stack : RTy → Type 0
    Stack T = StackOk S W θ.frames T

    touch_ok : {k : ℕ} → OnHere k → enabled σ.keys θ.on k ≡ true
    touch_ok h = on_enabled ko θ.on h

    -- a key touched, or none
    one_key : {k : ℕ} → OnHere k → AllOn m (k ∷ [])
    one_key h = and_key (touch_ok h) no_key

    push_ok : (at : ℕ) {a : ℕ} {k : Cmd Ty} {E : List Bind} {Γ : List Entry} {A : Ty} {X U : RTy} {s : Effect}
        → code_of S at ≡ k → Envs E Γ → Has S Γ a A s → CoversHere E s → RSub σ.keys (inst (look E) A) X → FrameOk S W k [] θ.env θ.on X U → Stack U
        → Sure S W (push at a m)
    unfolding push
    push_ok at q o h c b g k = sure_try no_key (λ z. step_ok (to_enter_lem o h c (so_cons q b g k)))

    var_ok : (x : ℕ) {E : List Bind} {Γ : List Entry} {v : Value} {T : RTy}
        → Envs E Γ → look_var E x ≡ some v → Fits W v T → Stack T → Sure S W (variable x m)
    unfolding variable found
    var_ok x o z f k = let h : θ.env ≤ most_bindings = omega (arith, few, chain_le o.chain) in rw (chain_seek o.chain most_bindings h x ∙ z) (sure_try no_key (λ r. step_ok (to_hand_lem f k)))

    new_fn_ok : {x b : ℕ} {E : List Bind} {Γ : List Entry} {T U : Ty} {s : Effect}
        → Envs E Γ → Has S (e_var x T ∷ Γ) b U s → Stack (inst (look E) (fn 0 T U s)) → Sure S W (act_fn x b m)
    unfolding act_fn inst
    new_fn_ok {x = x} {b = b} {E = E} {Γ = Γ} {T = T} {U = U} {s = s} o h k =
        let t : FnTy = fty (inst (look E) T) (inst (look E) U) (map (look E) (names s)) in
        let w = fn_extends st t in
        sure_try no_key (λ z. g_step (record {
          pt = pt;
          ft = ft ++ (t ∷ []);
          ct = ct;
          keys = ko;
          few = few;
          store = add_fn st t (record { var = x; body = b; env = θ.env }) (λ i q. f_fn (get_elem?_at σ.functions _ i q) (env_ext w o) h);
          thread = to_hand_lem (record { exact = rfn 0 (inst (look E) T) (inst (look E) U) (map (look E) (names s)); typ = t_fn (get_elem?_at ft t (length σ.functions) st.flen); sub = r_fn bot kb_refl kb_refl under_refl })
              (stack_ext w k);
        }) w)

    enter_lim_ok : (at : ℕ) {b : ℕ} {E : List Bind} {Γ : List Entry} {ks rs : List ℕ} {T : Ty} {s t : Effect}
        → code_of S at ≡ c_lim ks b → Envs E Γ → HasKeys S Γ ks rs s → CoversHere E s
        → Has S Γ b T t → CoversHere E t → Covers σ.keys (map (look E) rs) (look E) t → Stack (inst (look E) T)
        → Sure S W (enter_at {T = Ty} at ks (c_lim ks b) m)
    unfolding enter_at act act_lim limit_keys keys_of inst
    enter_lim_ok at q o k_nil cl h c u k =
        sure_try no_key (λ z. step_ok (to_enter_lem o h (record { each = λ n w. on_narrow ko θ.on [] (c.each n w) (u.each n w) (env_lt ko o.ok n) }) k))
    enter_lim_ok at q o (k_cons {q = p} {s = s} {t = t} x ks) cl h c u k =
        let d = covers_old p (join s t) cl in
        push_ok at q o x (covers_join_l s t d) kb_refl
        (fo_lim o (rest_next rest_here) ks (covers_join_r s t d) hd_nil (covers_touch (env_zero o.ok) p (join s t) cl) h c u) k

    -- where an effect is covered but for the names below r, each of its names is covered, or its key lies below the one of r
    dropped_or : {E : List Bind} {Γ : List Entry} (r : ℕ) (t : Effect) → Envs E Γ → CoversHere E (drop (up_of S) r t)
        → (n : ℕ) → Memᴰ n (names t) → OnHere (look E n) ⊎ Below σ.keys (look E n) (look E r)
    dropped_or {E} r t o w n m = either (drop_or (up_of S) r t m)
      where
        either : Memᴰ n (names (drop (up_of S) r t)) ⊎ Below (up_of S) n r → OnHere (look E n) ⊎ Below σ.keys (look E n) (look E r)
        either (inl i) = inl (w.each n i)
        either (inr b) = inr (env_mono o.ok n r b)

    enter_ok : {a : ℕ} {E : List Bind} {Γ : List Entry} {T : Ty} {n : Effect}
        → Envs E Γ → Has S Γ a T n → CoversHere E n → Stack (inst (look E) T) → Sure S W (enter_cmd a (code_of S a) m)
    unfolding enter_cmd enter_at evaluated act bare act_spawn inst
    enter_ok o (h_num c) v k = rw c (sure_try no_key (λ z. step_ok (to_hand_lem (record { exact = rnum 0; typ = t_num; sub = r_num bot }) k)))
    enter_ok o (h_top c) v k = let p : 0 < 1 = omega arith in rw c (sure_try no_key (λ z. step_ok (to_hand_lem (record { exact = rlim 0 1; typ = t_lim p; sub = rw (env_one o.ok) (r_lim bot) }) k)))
    enter_ok o (h_var c l) v k = let z = env_lookup o.ok l in rw c (var_ok _ o z.1 z.2 k)
    enter_ok o (h_pair {s = s} {t = t} c x y) v k =
        rw c (push_ok _ c o x (covers_join_l s t v) kb_refl (fo_pair1 o y (covers_join_r s t v)) (stack_sub (r_pair bot kb_refl kb_refl) k))
    enter_ok o (h_part1 {q = q} {s = s} c x) v k = rw c (push_ok _ c o x (covers_old q s v) kb_refl (fo_part1 (covers_touch (env_zero o.ok) q s v)) k)
    enter_ok o (h_part2 {q = q} {s = s} c x) v k = rw c (push_ok _ c o x (covers_old q s v) kb_refl (fo_part2 (covers_touch (env_zero o.ok) q s v)) k)
    enter_ok o (h_fn c p x) v k = rw c (new_fn_ok o x k)
    enter_ok o (h_app {q = q} {l = l} {s = s} {t = t} c x y z) v k =
        let w = covers_old q (join l (join s t)) v in
        let r = covers_join_r l (join s t) w in
        rw c (push_ok _ c o x (covers_join_l s t r) kb_refl
        (fo_app1 o y (covers_join_r s t r) (env_sub o.ok z) (covers_touch (env_zero o.ok) q (join l (join s t)) v) (covers_map l (covers_join_l l (join s t) w))) k)
    enter_ok o (h_new c p x y) v k = rw c (push_ok _ c o x v (env_sub o.ok y) fo_new (stack_sub (r_cell bot kb_refl kb_refl) k))
    enter_ok o (h_asg {q = q} {s = s} {t = t} c x y z) v k =
        let w = covers_old q (join s t) v in
        rw c (push_ok _ c o x (covers_join_l s t w) kb_refl (fo_asg1 o y (covers_join_r s t w) (env_sub o.ok z) (covers_touch (env_zero o.ok) q (join s t) v)) k)
    enter_ok o (h_read {q = q} {s = s} c x) v k = rw c (push_ok _ c o x (covers_old q s v) kb_refl (fo_read (covers_touch (env_zero o.ok) q s v)) k)
    enter_ok o (h_sum {p = p} {q = q} {s = s} {t = t} c x y) v k =
        let u = covers_old p _ v in
        let w = covers_old q (join s t) u in
        rw c (push_ok _ c o x (covers_join_l s t w) kb_refl
        (fo_sum1 o y (covers_join_r s t w) (covers_touch (env_zero o.ok) p _ v) (covers_touch (env_zero o.ok) q (join s t) u)) (stack_sub (r_num bot) k))
    enter_ok o (h_test {q = q} {s = s} {t = t} {u = u} c p x y z a b) v k =
        let w = covers_old q (join s (join t u)) v in
        let r = covers_join_r s (join t u) w in
        rw c (push_ok _ c o x (covers_join_l s (join t u) w) kb_refl
        (fo_test o y (covers_join_l t u r) a z (covers_join_r t u r) b (covers_touch (env_zero o.ok) q (join s (join t u)) v)) k)
    enter_ok o (h_lim {rs = rs} {s = s} {t = t} c x y z) v k =
        rw c (enter_lim_ok _ c o x (covers_join_l s t v) y (covers_join_r s t v) (covers_keys ko rs o.ok z) k)
    enter_ok o (h_grant {q = q} {r = r} {s = s} {t = t} c x y) v k =
        let w = covers_old q (join s (drop (up_of S) r t)) v in
        rw c (push_ok _ c o x (covers_join_l s (drop (up_of S) r t) w) kb_refl
        (fo_grant o y (covers_touch (env_zero o.ok) q (join s (drop (up_of S) r t)) v) (dropped_or r t o (covers_join_r s (drop (up_of S) r t) w))) k)
    enter_ok {E = E} o (h_newkey {r = r} {q = q} {u = u} {s = s} {t = t} c p x a i b y z) v k =
        let w = covers_old q (join s (raise r u t)) v in
        let g = covers_join_r s (raise r u t) w in
        rw c (push_ok _ c o x (covers_join_l s (raise r u t) w) kb_refl
        (fo_newkey o a b y z (scoped_free b p) (covers_touch (env_zero o.ok) q (join s (raise r u t)) v) (λ n m h. g.each n (raise_off r u t m h))
        (λ m. on_name (look E) (env_zero o.ok) u (λ h. g.each u (raise_on r u t m h)))) k)
    enter_ok {E = E} o (h_assoc {q = q} {r = r} {A = A} {s = s} {t = t} c x y) v k =
        let u = covers_old (key_of A) _ v in
        let w = covers_old q (join s t) u in
        rw c (push_ok _ c o x (covers_join_l s t w) kb_refl
        (fo_assoc1 o y (covers_join_r s t w) (subst⁻¹ (λ i. OnHere i) (inst_key (look E) A) (covers_touch (env_zero o.ok) (key_of A) _ v)) (covers_touch (env_zero o.ok) q (join s t) u))
        (subst (λ i. Stack i) (inst_rekey (look E) r A) k))
    enter_ok o (h_access {q = q} {r = r} {s = s} {t = t} {u = u} c p x y z a b) v k =
        let w = covers_old q (join s (join (drop (up_of S) r t) u)) v in
        let g = covers_join_r s (join (drop (up_of S) r t) u) w in
        rw c (push_ok _ c o x (covers_join_l s (join (drop (up_of S) r t) u) w) kb_refl
        (fo_access o y (dropped_or r t o (covers_join_l (drop (up_of S) r t) u g)) a z (covers_join_r (drop (up_of S) r t) u g) b (covers_touch (env_zero o.ok) q (join s (join (drop (up_of S) r t) u)) v)) k)
    enter_ok o (h_divide {p = p} {q = q} {s = s} {t = t} c x y) v k =
        let u = covers_old p _ v in
        let w = covers_old q (join s t) u in
        rw c (push_ok _ c o x (covers_join_l s t w) kb_refl
        (fo_divide1 o y (covers_join_r s t w) (covers_touch (env_zero o.ok) p _ v) (covers_touch (env_zero o.ok) q (join s t) u)) (stack_sub (r_pair bot (r_num bot) (r_num bot)) k))
    enter_ok o (h_spawn c x) v k = rw c (sure_try no_key (λ z. step_ok (to_hand_lem (record { exact = rnum 0; typ = t_num; sub = r_num bot }) k)))
    enter_ok o (h_sub d x p u i) v k = enter_ok o d (covers_below ko o.ok v u) (stack_sub (env_sub o.ok x) k)

    part1_ok : {k q : ℕ} {x : Kind} {X A B : RTy} → RSub σ.keys X (rpair q A B) → Typ W k x X → OnHere q → Stack A → Sure S W (act_part true (val k x) m)
    unfolding act_part as_pair found part_of
    part1_ok (r_pair b y z) (t_pair {t = t} e) on k = let o = st.ps _ t e in rw o.found (sure_try (one_key (on_below ko on b)) (λ z. step_ok (to_hand_lem (fits_sub o.one y) k)))

    part2_ok : {k q : ℕ} {x : Kind} {X A B : RTy} → RSub σ.keys X (rpair q A B) → Typ W k x X → OnHere q → Stack B → Sure S W (act_part false (val k x) m)
    unfolding act_part as_pair found part_of
    part2_ok (r_pair b y z) (t_pair {t = t} e) on k = let o = st.ps _ t e in rw o.found (sure_try (one_key (on_below ko on b)) (λ r. step_ok (to_hand_lem (fits_sub o.two z) k)))

    makes_pair_lem : {ks : List ℕ} {v w : Value} {A B : RTy} → AllOn m ks → Fits W v A → Fits W w B → Stack (rpair 0 A B) → Sure S W (makes_pair ks v w m)
    makes_pair_lem {v = v} {w} {A} {B} on f g k =
        let t : TwoTy = record { one = A; two = B } in
        let x = pair_extends st t in
        sure_try on (λ z. g_step (record {
          pt = pt ++ (t ∷ []);
          ft = ft;
          ct = ct;
          keys = ko;
          few = few;
          store = add_pair st t (record { one = v; two = w }) (fits_ext x f) (fits_ext x g);
          thread = to_hand_lem (record { exact = rpair 0 A B; typ = t_pair (get_elem?_at pt t (length σ.pairs) st.plen); sub = kb_refl }) (stack_ext x k);
        }) x)

    pair_ok : {v w : Value} {A B : RTy} → Fits W v A → Fits W w B → Stack (rpair 0 A B) → Sure S W (act_pair v w m)
    unfolding act_pair
    pair_ok f g k = makes_pair_lem no_key f g k

    -- the function that the closure i stands for is called
    call_ok : {k q i : ℕ} {A B T U : RTy} {L M : List ℕ} {w : Value} → FnOk S W σ.functions i (fty A B M) → Below σ.keys k q → RSub σ.keys T A → RSub σ.keys B U → Under σ.keys M L
        → OnHere q → OnAll σ.keys (members θ.on) L → Fits W w T → Stack U → Sure S W (act_app (val k (k_fn i)) w m)
    unfolding act_app as_fn found look
    call_ok {w = w} (f_fn {x = x} {E = E} {Γ = Γ} {A = A} {s = s} e o h) b y z u on c g k = rw e (sure_try (one_key (on_below ko on b)) (λ q. g_step (record {
      pt = pt;
      ft = ft;
      ct = ct;
      keys = ko;
      few = room_left (ltb-true (length σ.bindings) most_bindings q);
      store = store_wider st σ.keys B' wx;
      thread = to_enter_lem inner h (covers_ext wx (map_covers s (on_under ko u c))) (stack_ext wx (stack_sub z k));
    }) wx))
      where
        l : Link
        l = record { bind = b_var x.var w; next = x.env }

        B' : List Link
        B' = σ.bindings ++ (l ∷ [])

        room_left : length σ.bindings < most_bindings → length B' ≤ most_bindings
        room_left z = omega (arith, z, length_snoc σ.bindings l)

        wx : Ext W (world pt ft ct σ.keys B')
        wx = record { pts = λ i a e. e; fts = λ i a e. e; cts = λ i a e. e; ks = λ a b h. h; klen = omega arith; lks = get_elem?_append σ.bindings (l ∷ []) }

        inner : Env S (world pt ft ct σ.keys B') (suc (length σ.bindings)) (b_var x.var w ∷ E) (e_var x.var A ∷ Γ)
        inner = record { chain = ch_cons (get_elem?_seam σ.bindings l) (chain_le o.chain) (chain_wider wx.lks o.chain); ok = eo_var (env_ok_ext wx o.ok) (fits_ext wx (fits_sub g y)) }

    app_ok : {k q : ℕ} {x : Kind} {X T U : RTy} {L : List ℕ} {w : Value}
        → RSub σ.keys X (rfn q T U L) → Typ W k x X → OnHere q → OnAll σ.keys (members θ.on) L → Fits W w T → Stack U → Sure S W (act_app (val k x) w m)
    app_ok (r_fn b y z u) (t_fn {f = i} {A = A} {B = B} {L = M} e) on c g k = call_ok (st.fs i (fty A B M) e) b y z u on c g k

    new_ok : {v : Value} {T : RTy} → Fits W v T → Stack (rcell 0 T) → Sure S W (act_new v m)
    unfolding act_new
    new_ok {v} {T} f k =
        let x = cell_extends st T in
        sure_try no_key (λ z. g_step (record {
          pt = pt;
          ft = ft;
          ct = ct ++ (T ∷ []);
          keys = ko;
          few = few;
          store = add_cell st T v f;
          thread = to_hand_lem (record { exact = rcell 0 T; typ = t_cell (get_elem?_at ct T (length σ.cells) st.clen); sub = kb_refl }) (stack_ext x k);
        }) x)

    read_ok : {k q : ℕ} {x : Kind} {X A : RTy} → RSub σ.keys X (rcell q A) → Typ W k x X → OnHere q → Stack A → Sure S W (act_read (val k x) m)
    unfolding act_read as_cell found
    read_ok (r_cell b y z) (t_cell {A = t} e) on k = let o = st.cs _ t e in rw o.found (sure_try (one_key (on_below ko on b)) (λ r. step_ok (to_hand_lem (fits_sub o.fits y) k)))

    asg_ok : {k q : ℕ} {x : Kind} {X A : RTy} {w : Value} → RSub σ.keys X (rcell q A) → Typ W k x X → OnHere q → Fits W w A → Stack A → Sure S W (act_asg (val k x) w m)
    unfolding act_asg as_cell found
    asg_ok {w = w} (r_cell b y z) (t_cell {A = t} e) on g k =
        let o = st.cs _ t e in
        rw o.found (sure_try (one_key (on_below ko on b)) (λ r. g_step (record {
          pt = pt;
          ft = ft;
          ct = ct;
          keys = ko;
          few = few;
          store = set_cell st _ t w e (fits_sub g z);
          thread = to_hand_lem g k;
        }) (ext_refl W)))

    sum_ok : (i : Bool) {k l p q : ℕ} {x y : Kind} {X Y : RTy}
        → RSub σ.keys X (rnum p) → Typ W k x X → OnHere p → RSub σ.keys Y (rnum q) → Typ W l y Y → OnHere q → Stack (rnum 0) → Sure S W (act_sum i (val k x) (val l y) m)
    unfolding act_sum as_num found
    sum_ok i (r_num a) t_num on (r_num b) t_num on' k =
        sure_try (and_key (touch_ok (on_below ko on a)) (one_key (on_below ko on' b))) (λ z. step_ok (to_hand_lem (record { exact = rnum 0; typ = t_num; sub = kb_refl }) k))

    divide_ok : {k l p q : ℕ} {x y : Kind} {X Y : RTy}
        → RSub σ.keys X (rnum p) → Typ W k x X → OnHere p → RSub σ.keys Y (rnum q) → Typ W l y Y → OnHere q → Stack (rpair 0 (rnum 0) (rnum 0)) → Sure S W (act_divide (val k x) (val l y) m)
    unfolding act_divide as_num found
    divide_ok (r_num a) t_num on (r_num b) t_num on' k = makes_pair_lem (and_key (touch_ok (on_below ko on a)) (one_key (on_below ko on' b))) a_number a_number k
      where
        a_number : {n : ℕ} → Fits W (unkeyed (k_num n)) (rnum 0)
        a_number = record { exact = rnum 0; typ = t_num; sub = kb_refl }

    test_ok : {k q b c : ℕ} {x : Kind} {X : RTy} {B C T : Ty} {E : List Bind} {Γ : List Entry} {s u : Effect}
        → RSub σ.keys X (rnum q) → Typ W k x X → OnHere q → Envs E Γ → Has S Γ b B s → CoversHere E s → Sub (up_of S) B T
        → Has S Γ c C u → CoversHere E u → Sub (up_of S) C T → Stack (inst (look E) T) → Sure S W (act_test b c (val k x) m)
    unfolding act_test as_num found branch
    test_ok {b = b} {c = c} (r_num a) (t_num {n = n}) on o h v y g w z k = sure_try (one_key (on_below ko on a)) (λ r. at n)
      where
        at : (n : ℕ) → Good S W (o_step (Step.entering (branch n b c) θ.env θ.on m))
        at zero = step_ok (to_enter_lem o g w (stack_sub (env_sub o.ok z) k))
        at (suc n) = step_ok (to_enter_lem o h v (stack_sub (env_sub o.ok y) k))

    -- limit keys in hand are limit keys, and may be touched
    held_keys : {vs : List Value} {js : List ℕ} → Held W (members θ.on) vs js → (f : List ℕ → Plan) → limit_keys vs f ≡ f js
    unfolding limit_keys as_lim found
    held_keys hd_nil f = refl
    held_keys (hd_cons {v = v} {j = j} {vs = vs} {js = js} g q h) f = first g.sub g.typ (λ i. limit_keys vs (λ is. f (i ∷ is))) ∙ held_keys h (λ is. f (j ∷ is))
      where
        first : {k q j : ℕ} {x : Kind} {X : RTy} → RSub σ.keys X (rlim q j) → Typ W k x X → (f : ℕ → Plan) → found (as_lim x) f ≡ f j
        first (r_lim b) (t_lim p) f = refl

    on_value : {v : Value} {A : RTy} → Fits W v A → OnHere (rkey A) → OnHere v.key
    on_value f a = subst (λ i. OnHere i) (typ_key f.typ) (on_below ko a (rsub_key f.sub))

    held_touch : {vs : List Value} {js : List ℕ} → Held W (members θ.on) vs js → AllOn m (keys_of vs)
    unfolding keys_of rkey
    held_touch hd_nil = no_key
    held_touch (hd_cons f q h) = and_key (touch_ok (on_value f q)) (held_touch h)

    limit_ok_lem : {b : ℕ} {E : List Bind} {Γ : List Entry} {js : List ℕ} {vs : List Value} {T : Ty} {t : Effect}
        → Envs E Γ → Held W (members θ.on) vs js → Has S Γ b T t → CoversHere E t → Covers σ.keys js (look E) t → Stack (inst (look E) T) → Sure S W (act_lim b vs m)
    unfolding act_lim
    limit_ok_lem {js = js} o hd h c u k =
        subst⁻¹ (λ r. Sure S W r) (held_keys hd _)
        (sure_try (held_touch hd) (λ z. step_ok (to_enter_lem o h (record { each = λ n w. on_narrow ko θ.on js (c.each n w) (u.each n w) (env_lt ko o.ok n) }) k)))

    grant_ok : {k q j b : ℕ} {x : Kind} {X : RTy} {T : Ty} {E : List Bind} {Γ : List Entry} {t : Effect}
        → RSub σ.keys X (rgrant q j) → Typ W k x X → OnHere q → Envs E Γ → Has S Γ b T t → ((n : ℕ) → Memᴰ n (names t) → OnHere (look E n) ⊎ Below σ.keys (look E n) j)
        → Stack (inst (look E) T) → Sure S W (act_grant b (val k x) m)
    unfolding act_grant as_grant found
    grant_ok {j = j} {E = E} {t = t} (r_grant b) (t_grant z) on o h c k = sure_try (one_key (on_below ko on b)) (λ q. step_ok (to_enter_lem o h (record { each = λ n w. more n (c n w) }) k))
      where
        -- the granted key is there, since a key below it is
        under : (n : ℕ) → Below σ.keys (look E n) j → (look E n ≡ 0) ⊎ (j ≤ look E n) → On σ.keys (members (add σ.keys j θ.on)) (look E n)
        under n e (inl q) = on_zero q
        under n e (inr q) = on_key (add_new σ.keys j θ.on (omega (arith, env_lt ko o.ok n))) e

        more : (n : ℕ) → OnHere (look E n) ⊎ Below σ.keys (look E n) j → On σ.keys (members (add σ.keys j θ.on)) (look E n)
        more n (inl e) = on_more (λ a w. add_old σ.keys j θ.on w) e
        more n (inr e) = under n e (below_le ko.proper e)

    assoc_ok : {k q j : ℕ} {x : Kind} {X A : RTy} {v : Value}
        → RSub σ.keys X (rlim q j) → Typ W k x X → OnHere q → Fits W v A → OnHere (rkey A) → Stack (rrekey j A) → Sure S W (act_assoc v (val k x) m)
    unfolding act_assoc as_lim found
    assoc_ok {j = j} (r_lim b) (t_lim z) on f a k =
        sure_try (and_key (touch_ok (on_value f a)) (one_key (on_below ko on b)))
        (λ q. (step_ok (to_hand_lem (record { exact = rrekey j f.exact; typ = typ_rekey j f.typ; sub = rsub_rekey j f.sub }) k)))

    -- 0x40: in the first branch the key asked for is enabled, and so is what lies below it
    access_ok : {k q j b c : ℕ} {x : Kind} {X : RTy} {B C T : Ty} {E : List Bind} {Γ : List Entry} {t u : Effect}
        → RSub σ.keys X (rlim q j) → Typ W k x X → OnHere q → Envs E Γ → Has S Γ b B t → ((n : ℕ) → Memᴰ n (names t) → OnHere (look E n) ⊎ Below σ.keys (look E n) j) → Sub (up_of S) B T
        → Has S Γ c C u → CoversHere E u → Sub (up_of S) C T → Stack (inst (look E) T) → Sure S W (act_access b c (val k x) m)
    unfolding act_access as_lim found
    access_ok {j = j} {b = b} {c = c} {E = E} (r_lim a) (t_lim p) on o h v y g w z k = sure_try (one_key (on_below ko on a)) (λ r. at (enabled σ.keys θ.on j) refl)
      where
        more : OnHere j → (n : ℕ) → OnHere (look E n) ⊎ Below σ.keys (look E n) j → OnHere (look E n)
        more i n (inl e) = e
        more i n (inr e) = on_below ko i e

        at : (t : Bool) → enabled σ.keys θ.on j ≡ t → Good S W (o_step (Step.entering (cond t b c) θ.env θ.on m))
        at true e = step_ok (to_enter_lem o h (record { each = λ n i. more (enabled_on σ.keys θ.on e) n (v n i) }) (stack_sub (env_sub o.ok y) k))
        at false e = step_ok (to_enter_lem o g w (stack_sub (env_sub o.ok z) k))

    newkey_ok : {k q j x r b u : ℕ} {z : Kind} {X : RTy} {B T : Ty} {E : List Bind} {Γ : List Entry} {t : Effect}
        → RSub σ.keys X (rlim q j) → Typ W k z X → j ≡ look E u → OnHere q → Envs E Γ → get_elem? (up_of S) r ≡ some u → Fresh (up_of S) Γ r
        → Has S (e_var x (key_pair r) ∷ e_name r ∷ Γ) b B t → Sub (up_of S) B T → Free r T
        → ((n : ℕ) → Memᴰ n (names t) → n ≢ r → OnHere (look E n)) → (Memᴰ r (names t) → OnHere (look E u))
        → Stack (inst (look E) T) → Sure S W (act_newkey x r b (val k z) m)
    unfolding act_newkey make_key as_lim found look inst
    newkey_ok {j = j} {x = x} {r = r} {b = b} {u = u} {T = T} {E = E} {Γ = Γ} {t = t} (r_lim d) (t_lim pos) ju on o e f h y free c cu k =
        sure_try (one_key (on_below ko on d)) (λ full. g_step (record {
          pt = pt ++ (tw ∷ []);
          ft = ft;
          ct = ct;
          keys = ko';
          few = room_left (ltb-true (suc (length σ.bindings)) most_bindings (and_r _ _ full));
          store = add_pair (store_wider st ks' B' wx) tw (record { one = unkeyed (k_lim K); two = unkeyed (k_grant K) })
              (record { exact = rlim 0 K; typ = t_lim pos_k; sub = kb_refl }) (record { exact = rgrant 0 K; typ = t_grant pos_k; sub = kb_refl });
          thread = to_enter_lem inner h (record { each = λ n w. at n w (eqb n r) refl }) (stack_sub (env_sub inner.ok y) (subst (λ a. StackOk S W' θ.frames a) (inst_off E r K T free) (stack_ext wx' k)));
        }) wx')
      where
        K : ℕ
        K = length σ.keys

        n : ℕ
        n = length σ.bindings

        tw : TwoTy
        tw = record { one = rlim 0 K; two = rgrant 0 K }

        ks' : List ℕ
        ks' = σ.keys ++ (j ∷ [])

        l1 : Link
        l1 = record { bind = b_name r K; next = θ.env }

        l2 : Link
        l2 = record { bind = b_var x (unkeyed (k_pair (length σ.pairs))); next = suc n }

        B' : List Link
        B' = σ.bindings ++ (l1 ∷ l2 ∷ [])

        W1 : World
        W1 = world pt ft ct ks' B'

        W' : World
        W' = world (pt ++ (tw ∷ [])) ft ct ks' B'

        jlt : j < length σ.keys
        jlt = rw ju (env_lt ko o.ok u)

        ko' : KeysOk ks'
        ko' = keys_snoc ko pos jlt

        room_left : suc n < most_bindings → length B' ≤ most_bindings
        room_left z = omega (arith, z, length_two σ.bindings l1 l2)

        pos_k : 0 < K
        pos_k = omega arith

        wx : Ext W W1
        wx = record { pts = λ i a e. e; fts = λ i a e. e; cts = λ i a e. e; ks = λ a b. below_append (j ∷ []); klen = omega (arith, length_snoc σ.keys j); lks = get_elem?_append σ.bindings (l1 ∷ l2 ∷ []) }

        wx' : Ext W W'
        wx' = record { pts = get_elem?_append pt (tw ∷ []); fts = λ i a e. e; cts = λ i a e. e; ks = wx.ks; klen = wx.klen; lks = wx.lks }

        o' : EnvOk S W' E Γ
        o' = env_ok_ext wx' o.ok

        kb : Below ks' K (look E u)
        kb = there (get_elem?_seam σ.keys j) (subst (λ a. Below ks' j a) ju here)

        named : EnvOk S W' (b_name r K ∷ E) (e_name r ∷ Γ)
        named = eo_name o' f (mono_new o' f e kb) (up_new r o' e (rw ju at pos) pos_k) (omega (arith, length_snoc σ.keys j))

        sb : RSub ks' (rpair 0 (rlim 0 K) (rgrant 0 K)) (inst (look (b_name r K ∷ E)) (key_pair r))
        sb = rw (eq-eqb r r refl) (r_pair bot (r_lim bot) (r_grant bot))

        fits : Fits W' (unkeyed (k_pair (length σ.pairs))) (inst (look (b_name r K ∷ E)) (key_pair r))
        fits = record { exact = rpair 0 (rlim 0 K) (rgrant 0 K); typ = t_pair (get_elem?_at pt tw (length σ.pairs) st.plen); sub = sb }

        one_more : Chain B' (suc n) (b_name r K ∷ E)
        one_more = ch_cons (seam σ.bindings l1 (l2 ∷ [])) (chain_le o.chain) (chain_wider wx.lks o.chain)

        inner : Env S W' (suc (suc n)) (b_var x (unkeyed (k_pair (length σ.pairs))) ∷ b_name r K ∷ E) (e_var x (key_pair r) ∷ e_name r ∷ Γ)
        inner = record { chain = ch_cons (seam_next σ.bindings l1 l2 []) (omega arith) one_more; ok = eo_var named fits }

        at : (i : ℕ) → Memᴰ i (names t) → (z : Bool) → eqb i r ≡ z → On ks' (members θ.on) (look (b_name r K ∷ E) i)
        at i w true z = rw z (on_below ko' (on_ext wx (cu (Memᴰ.cast (sym (eqb-true i r z)) w))) kb)
        at i w false z = rw z (on_ext wx (c i w (eqb-false i r z)))

  abbrev machine : Thread → Machine
  machine θ = record { thread = θ; store = σ; threads = ts }

  abbrev frame : ℕ → ℕ → ℕ → List Value → Frame
  frame at e on h = record { at = at; env = e; on = on; hand = h }

  -- the thread that a popped frame leaves
  abbrev popped : Control → ℕ → ℕ → List Frame → Thread
  popped c e on fs = record { control = c; env = e; on = on; frames = fs }

  held_snoc : {l : List ℕ} {vs : List Value} {js : List ℕ} {v : Value} {q j : ℕ} → Held W l vs js → Fits W v (rlim q j) → On σ.keys l q → Held W l (vs ++ (v ∷ [])) (js ++ (j ∷ []))
  held_snoc hd_nil f q = hd_cons f q hd_nil
  held_snoc (hd_cons g p h) f q = hd_cons g p (held_snoc h f q)

  -- the limit keys ws are in hand; the next is entered, or the limit acts
  keys_ok : (θ : Thread) (at n e on : ℕ) {b : ℕ} {fs : List Frame} {E : List Bind} {Γ : List Entry} {ks rest rs js : List ℕ} (vs ws : List Value) {T : Ty} {s t : Effect}
      → code_of S at ≡ c_lim ks b → Env S W e E Γ → Rest ks n rest → n ≡ length ws → HasKeys S Γ rest rs s → Covers σ.keys (members on) (look E) s → Held W (members on) ws js
      → Has S Γ b T t → Covers σ.keys (members on) (look E) t → Covers σ.keys (js ++ map (look E) rs) (look E) t → StackOk S W fs (inst (look E) T)
      → Sure S W (receive (code_of S) (get_elem? ks n) (frame at e on vs) ws fs (machine θ))
  unfolding receive act inst
  keys_ok θ at n e on {fs = fs} {E = E} {js = js} vs ws {t = t} q o r l k_nil cl hd h c u k =
      rw (rest_none r, q) (limit_ok_lem (popped θ.control e on fs) o hd h c (subst (λ i. Covers σ.keys i (look E) t) (append-nil js) u) k)
  keys_ok θ at n e on {ks = ks} vs ws q o r l (k_cons {q = p} {ks = rest} {s = s} {t = t} x more) cl hd h c u k =
      let d = covers_old p (join s t) cl in
      rw (rest_some r) (sure_try no_key (λ z. step_ok (to_enter_lem o x (covers_join_l s t d) (so_cons q kb_refl
      (fo_lim o (subst (λ i. Rest ks (suc i) rest) l (rest_more r)) more (covers_join_r s t d) hd (covers_touch (env_zero o.ok) p (join s t) cl) h c u) k))))

  -- a frame that a value of its type goes to
  receive_ok : (θ : Thread) (at : ℕ) {k : Cmd Ty} {h : List Value} {e on : ℕ} {A B : RTy} {fs : List Frame} (v : Value)
      → code_of S at ≡ k → FrameOk S W k h e on A B → Fits W v A → StackOk S W fs B
      → Sure S W (receive (code_of S) (get_elem? (evaluated k) (suc (length h))) (frame at e on h) (h ++ (v ∷ [])) fs (machine θ))
  unfolding receive evaluated act one two inst
  receive_ok θ at v q (fo_pair1 o h c) g k = sure_try no_key (λ z. step_ok (to_enter_lem o h c (so_cons q kb_refl (fo_pair2 g) k)))
  receive_ok θ at {fs = fs} v q (fo_pair2 {e = e} {on = on} f) g k = rw q (pair_ok (popped θ.control e on fs) f g k)
  receive_ok θ at {fs = fs} v q (fo_part1 {e = e} {on = on} p) g k = rw q (part1_ok (popped θ.control e on fs) g.sub g.typ p k)
  receive_ok θ at {fs = fs} v q (fo_part2 {e = e} {on = on} p) g k = rw q (part2_ok (popped θ.control e on fs) g.sub g.typ p k)
  receive_ok θ at v q (fo_app1 o h c y p l) g k = sure_try no_key (λ z. step_ok (to_enter_lem o h c (so_cons q y (fo_app2 g p l) k)))
  receive_ok θ at {fs = fs} v q (fo_app2 {e = e} {on = on} f p l) g k = rw q (app_ok (popped θ.control e on fs) f.sub f.typ p l g k)
  receive_ok θ at {fs = fs} v q (fo_new {e = e} {on = on}) g k = rw q (new_ok (popped θ.control e on fs) g k)
  receive_ok θ at {fs = fs} v q (fo_read {e = e} {on = on} p) g k = rw q (read_ok (popped θ.control e on fs) g.sub g.typ p k)
  receive_ok θ at v q (fo_asg1 o h c y p) g k = sure_try no_key (λ z. step_ok (to_enter_lem o h c (so_cons q y (fo_asg2 g p) k)))
  receive_ok θ at {fs = fs} v q (fo_asg2 {e = e} {on = on} f p) g k = rw q (asg_ok (popped θ.control e on fs) f.sub f.typ p g k)
  receive_ok θ at v q (fo_sum1 o h c p r) g k = sure_try no_key (λ z. step_ok (to_enter_lem o h c (so_cons q kb_refl (fo_sum2 g p r) k)))
  receive_ok θ at {fs = fs} v q (fo_sum2 {e = e} {on = on} {i = i} f p r) g k = rw q (sum_ok (popped θ.control e on fs) i f.sub f.typ p g.sub g.typ r k)
  receive_ok θ at {fs = fs} v q (fo_test {e = e} {on = on} o h c y i d z p) g k = rw q (test_ok (popped θ.control e on fs) g.sub g.typ p o h c y i d z k)
  receive_ok θ at v q (fo_lim {e = e} {on = on} {j = j} {E = E} {rs = rs} {js = js} {vs = vs} {t = t} o r ks cl hd p h c u) g k =
      keys_ok θ at (suc (length vs)) e on vs (vs ++ (v ∷ [])) q o r (sym (length_snoc vs v)) ks cl (held_snoc hd g p) h c
      (subst⁻¹ (λ l. Covers σ.keys l (look E) t) (append_assoc js (j ∷ []) (map (look E) rs)) u) k
  receive_ok θ at {fs = fs} v q (fo_grant {e = e} {on = on} o h p c) g k = rw q (grant_ok (popped θ.control e on fs) g.sub g.typ p o h c k)
  receive_ok θ at {fs = fs} v q (fo_newkey {e = e} {on = on} o a f h y i p c u) g k = rw q (newkey_ok (popped θ.control e on fs) g.sub g.typ refl p o a f h y i c u k)
  receive_ok θ at v q (fo_assoc1 o h c a p) g k = sure_try no_key (λ z. step_ok (to_enter_lem o h c (so_cons q kb_refl (fo_assoc2 g a p) k)))
  receive_ok θ at {fs = fs} v q (fo_assoc2 {e = e} {on = on} f a p) g k = rw q (assoc_ok (popped θ.control e on fs) g.sub g.typ p f a k)
  receive_ok θ at {fs = fs} v q (fo_access {e = e} {on = on} o h c y i d z p) g k = rw q (access_ok (popped θ.control e on fs) g.sub g.typ p o h c y i d z k)
  receive_ok θ at v q (fo_divide1 o h c p r) g k = sure_try no_key (λ z. step_ok (to_enter_lem o h c (so_cons q kb_refl (fo_divide2 g p r) k)))
  receive_ok θ at {fs = fs} v q (fo_divide2 {e = e} {on = on} f p r) g k = rw q (divide_ok (popped θ.control e on fs) f.sub f.typ p g.sub g.typ r k)

  hand_ok : (θ : Thread) {fs : List Frame} (v : Value) {T : RTy} → Fits W v T → StackOk S W fs T → Sure S W (hand_to (code_of S) v fs (machine θ))
  unfolding hand_to
  hand_ok θ v g so_nil = sure_done
  hand_ok θ v g (so_cons {f = f} q h o k) = rw q (receive_ok θ f.at v q o (fits_sub g h) k)

  thread_ok : (θ : Thread) {c : Control} → ThreadOk S W c θ.env θ.on θ.frames → Sure S W (plan_on (code_of S) c (machine θ))
  unfolding plan_on
  thread_ok θ (to_enter_lem o h c k) = enter_ok θ o h c k
  thread_ok θ (to_hand_lem {v = v} g k) = hand_ok θ v g k

pub sound : (S : Src) (m : Machine) (k : Ok S m) → Good S (world_of k.pt k.ft k.ct m.store) (step (code_of S) m)
unfolding step plan
sound S m o = settled (thread_ok S m.store o.pt o.ft o.ct o.keys o.few o.store m.threads m.thread o.thread)
