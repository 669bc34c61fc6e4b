-- The machine that starting a well-read and well-typed job gives is well typed.
use Rattle.std.specs.Prelude.{◌≡◌, Bool, cond, ◌≢◌, ◌⊎◌, get_or, eqb, leb}
use Rattle.std.proofs.Math.Path.{refl, subst, subst⁻¹}
use Rattle.std.proofs.Common.{sym, ap, ◌∙◌, inl, inr, ne_eqb, eqb-true, leb-true}
use Prim.Native.Nat.{ℕ, zero, suc, ◌+◌, ◌-◌, ◌≤◌, ◌<◌}
use native.Mathlib.Omega.{arith}
use Rattle.std.proofs.Math.Bool.{true, false}
use Rattle.std.proofs.lemmas.Bool.{false≢true, eqb-false}
use mathlib.Core.List.Memᴰ
use mathlib.Core.List.{List, [], ◌∷◌, ◌++◌, map, Memᴰ, append-nil}
use Rattle.std.proofs.Math.Option.{Option, none, some, none-ne-some, some-injective}
use Rattle.std.proofs.Math.ListN.{length, get_elem?}
use Rattle.order.specs.Bools.{◌and◌}
use Rattle.order.proofs.Bools.{and_l, and_r, or_cases}
use Rattle.order.specs.Order.{Below, bot, here, there}
use Rattle.order.proofs.OrderLaws.{below_append, get_elem?_seam, get_elem?_at, get_elem?_append, get_elem?_lt, length_snoc, proper_two}
use Rattle.order.specs.Sets.{members, set_of}
use Rattle.order.proofs.SetLaws.{set_of_mem}
use Rattle.order.specs.Effects.{Effect, names, EffBelow}
use Rattle.order.proofs.EffectLaws.{eff_each}
use Rattle.syntax.specs.Types.{Ty, num, cell, lim, grant, by_type, on_cell, on_lim, on_grant}
use Rattle.syntax.specs.Job.{Name, HostValue, Src, up_of, uppers}
use Rattle.syntax.specs.Reading.{is_host, host_name}
use Rattle.syntax.specs.Tree.{Entry, e_var, e_name, add_host, name_ctx, value_ctx, host_ctx, root, vars_of}
use Rattle.syntax.specs.WellRead.{HostTyped, ht_cell, ht_lim, ht_grant, WellRead}
use Rattle.typing.specs.Rules.{Has, Lookup, l_here, l_var, l_name, Fresh, Absent, a_nil, a_name}
use Rattle.semantics.specs.Machine.{Value, unkeyed, k_num, k_cell, k_lim, k_grant, Bind, b_var, b_name, Link}
use Rattle.semantics.specs.Start.{bind_to, Named, add_name, add_names, named, host_value, host_cell, Valued, add_values, key_named, valued, first_thread, first_store, start_of}
use Rattle.semantics.specs.Threads.{alone}
use Rattle.semantics.specs.RuntimeTypes.{RTy, rnum, rcell, rlim, rgrant, r_num, r_cell, r_lim, r_grant, inst}
use Rattle.semantics.specs.Chains.{look, base, Chain, ch_nil, ch_cons}
use Rattle.semantics.proofs.Chains.{chain_wider}
use Rattle.semantics.specs.Invariant.{World, Ext, Fits, t_num, t_cell, t_lim, t_grant, On, on_key, EnvOk, eo_nil, eo_var, eo_name, Env, StoreOk, KeysOk, to_enter_lem, so_nil, Ok}
use Rattle.semantics.proofs.Growth.{fits_ext, env_ok_ext}
use Rattle.semantics.proofs.Enabled.{keys_snoc}
use Rattle.semantics.proofs.Bindings.{look_off, look_on, env_zero, env_one, env_mono, env_lt, env_absent, mono_new, up_new}
use Rattle.semantics.specs.Stores.{world}
use Rattle.semantics.proofs.Stores.{store_wider, cell_extends, add_cell}

-- lists that grow at the end
get_d_off : (l : List ℕ) (a u : ℕ) → u ≢ length l → get_or (l ++ (a ∷ [])) u 0 ≡ get_or l u 0
get_d_off [] a zero h = absurd (h refl)
get_d_off [] a (suc u) h = refl
get_d_off (x ∷ l) a zero h = refl
get_d_off (x ∷ l) a (suc u) h = get_d_off l a u (λ e. h (ap suc e))

get_d_on : (l : List ℕ) (a : ℕ) → get_or (l ++ (a ∷ [])) (length l) 0 ≡ a
get_d_on [] a = refl
get_d_on (x ∷ l) a = get_d_on l a

-- a binding more, added to all that there are
chain_bind : (B : List Link) (b : Bind) {E : List Bind} → Chain B (length B) E → Chain (bind_to B b) (length (bind_to B b)) (b ∷ E)
unfolding bind_to
chain_bind B b {E} c =
    let l : Link = record { bind = b; next = length B } in
    subst⁻¹ (λ n. Chain (B ++ (l ∷ [])) n (b ∷ E)) (length_snoc B l) (ch_cons (get_elem?_seam B l) (omega arith) (chain_wider (get_elem?_append B (l ∷ [])) c))

bind_length : (B : List Link) (b : Bind) → length (bind_to B b) ≡ suc (length B)
unfolding bind_to
bind_length B b = length_snoc B _

bind_extends : (ct : List RTy) (ks : List ℕ) (B : List Link) (b : Bind) → Ext (world [] [] ct ks B) (world [] [] ct ks (bind_to B b))
unfolding bind_to
bind_extends ct ks B b = record { pts = λ i a e. e; fts = λ i a e. e; cts = λ i a e. e; ks = λ a b h. h; klen = omega arith; lks = get_elem?_append B _ }

key_extends : (ks : List ℕ) (j : ℕ) (B : List Link) (b : Bind) → Ext (world [] [] [] ks B) (world [] [] [] (ks ++ (j ∷ [])) (bind_to B b))
unfolding bind_to
key_extends ks j B b = record { pts = λ i a e. e; fts = λ i a e. e; cts = λ i a e. e; ks = λ a b. below_append (j ∷ []); klen = omega (arith, length_snoc ks j); lks = get_elem?_append B _ }

-- the names of a list of declarations have their upper names at their numbers
upper_at : (ds : List Name) (i : ℕ) (d : Name) → get_elem? ds i ≡ some d → get_elem? (map (λ d. d.upper) ds) i ≡ some d.upper
upper_at [] i d e = absurd (none-ne-some d e)
upper_at (x ∷ ds) zero d e = ap some (ap (λ (n : Name). n.upper) (some-injective x d e))
upper_at (x ∷ ds) (suc i) d e = upper_at ds i d e

upper_of : (S : Src) (i : ℕ) (d : Name) → get_elem? S.names i ≡ some d → get_elem? (up_of S) (suc (suc i)) ≡ some d.upper
unfolding uppers
upper_of S i d e = upper_at S.names i d e

-- a host name is 1 or declared as the host's
host_cases : (ds : List Name) (q : ℕ) → host_name ds q ≡ true → (q ≡ 1) ⊎ ((i : ℕ) × (d : Name) × (q ≡ suc (suc i)) × (get_elem? ds i ≡ some d) × (d.host ≡ true))
unfolding host_name is_host
host_cases ds q e = at (or_cases _ _ e)
  where
    declared_host : (o : Option Name) → get_elem? ds (q - 2) ≡ o → is_host o ≡ true → 2 ≤ q → (i : ℕ) × (d : Name) × (q ≡ suc (suc i)) × (get_elem? ds i ≡ some d) × (d.host ≡ true)
    declared_host none g h l = absurd (false≢true h)
    declared_host (some d) g h l = (q - 2, d, omega arith, g, h)

    at : (eqb q 1 ≡ true) ⊎ ((leb 2 q and is_host (get_elem? ds (q - 2))) ≡ true) → (q ≡ 1) ⊎ ((i : ℕ) × (d : Name) × (q ≡ suc (suc i)) × (get_elem? ds i ≡ some d) × (d.host ≡ true))
    at (inl h) = inl (eqb-true q 1 h)
    at (inr h) = inr (declared_host (get_elem? ds (q - 2)) refl (and_r _ _ h) (leb-true 2 q (and_l _ _ h)))

-- a variable in scope is listed
lookup_mem : {Γ : List Entry} {x : ℕ} {T : Ty} → Lookup Γ x T → Memᴰ x (vars_of Γ)
unfolding vars_of
lookup_mem l_here = Memᴰ.head refl
lookup_mem (l_var n l) = Memᴰ.tail (lookup_mem l)
lookup_mem (l_name l) = lookup_mem l

module _ (S : Src) (wr : WellRead S) where
  -- after i names: keys, bindings and context agree, and each host name so far has a key above 0
  record NamesAre (i : ℕ) (s : Named) (Γ : List Entry) : Type 0 where
    pub count : length s.of ≡ suc (suc i)
    pub few : length s.bindings ≤ i
    pub binds : List Bind
    pub ko : KeysOk s.keys
    pub env : Env S (world [] [] [] s.keys s.bindings) (length s.bindings) binds Γ
    pub same : (n : ℕ) → get_or s.of n 0 ≡ look binds n
    pub hosts : (k : ℕ) (d : Name) → get_elem? S.names k ≡ some d → d.host ≡ true → k < i → 0 < look binds (suc (suc k))
    pub absent : (u : ℕ) → suc i < u → Absent u Γ
    pub novar : (x : ℕ) (T : Ty) → Lookup Γ x T → ⊥

  -- a host name has a key above 0
  pos_name : (i : ℕ) (s : Named) (Γ : List Entry) → (o : NamesAre i s Γ) → (u : ℕ) → u < suc (suc i) → host_name S.names u ≡ true → 0 < look o.binds u
  pos_name i s Γ o u l e = at (host_cases S.names u e)
    where
      at : (u ≡ 1) ⊎ ((k : ℕ) × (d : Name) × (u ≡ suc (suc k)) × (get_elem? S.names k ≡ some d) × (d.host ≡ true)) → 0 < look o.binds u
      at (inl z) = rw (z, env_one o.env.ok) (omega arith)
      at (inr z) = subst⁻¹ (λ n. 0 < look o.binds n) z.2 (o.hosts z.0 z.1 z.3 z.4 (omega (arith, z.2)))

  add_host_lem : (i : ℕ) (d : Name) (s : Named) (Γ : List Entry) → get_elem? S.names i ≡ some d → d.host ≡ true → (o : NamesAre i s Γ)
      → NamesAre (suc i) (record { keys = s.keys ++ (get_or s.of d.upper 0 ∷ []); of = s.of ++ (length s.keys ∷ []); bindings = bind_to s.bindings (b_name (length s.of) (length s.keys)) })
      (e_name (suc (suc i)) ∷ Γ)
  add_host_lem i d s Γ e host o = record {
    count = length_snoc s.of K ∙ ap suc o.count;
    few = omega (arith, bind_length s.bindings (b_name (length s.of) K), o.few);
    binds = b_name n K ∷ E;
    ko = keys_snoc o.ko jpos jlt;
    env = subst⁻¹ (λ q. Env S (world [] [] [] ks' (bind_to s.bindings (b_name q K))) (length (bind_to s.bindings (b_name q K))) (b_name n K ∷ E) (e_name n ∷ Γ)) o.count
        (record { chain = chain_bind s.bindings (b_name n K) o.env.chain; ok = eo_name o' fresh (mono_new o' fresh up kb) (up_new n o' up pos_u (omega (arith, o.ko.two))) (omega (arith, length_snoc s.keys j)) });
    same = λ u. is_same u (eqb u n) refl;
    hosts = λ k c g h l. host_pos k c g h (eqb k i) refl l;
    absent = λ u l. a_name {r = n} (λ z. omega (arith, z, l)) (o.absent u (omega (arith, l)));
    novar = no_var;
  }
    where
      E : List Bind
      E = o.binds

      n : ℕ
      n = suc (suc i)

      K : ℕ
      K = length s.keys

      j : ℕ
      j = get_or s.of d.upper 0

      ju : j ≡ look E d.upper
      ju = o.same d.upper

      up : get_elem? (up_of S) n ≡ some d.upper
      up = upper_of S i d e

      low : ((d.upper < n) × (0 < d.upper)) ⊎ ((d.upper ≡ n) × (n < 2)) → d.upper < n
      low (inl z) = z.0
      low (inr z) = absurd (omega (arith, z.1))

      less : d.upper < n
      less = low (wr.proper.down n d.upper up)

      pos_u : 0 < look E d.upper
      pos_u = pos_name i s Γ o d.upper less (wr.upper i d e host)

      jpos : 0 < j
      jpos = rw ju pos_u

      jlt : j < length s.keys
      jlt = rw ju (env_lt o.ko o.env.ok d.upper)

      ks' : List ℕ
      ks' = s.keys ++ (j ∷ [])

      W' : World
      W' = world [] [] [] ks' (bind_to s.bindings (b_name n K))

      wx : Ext (world [] [] [] s.keys s.bindings) W'
      wx = key_extends s.keys j s.bindings (b_name n K)

      o' : EnvOk S W' E Γ
      o' = env_ok_ext wx o.env.ok

      kb : Below ks' K (look E d.upper)
      kb = there (get_elem?_seam s.keys j) (subst (λ a. Below ks' j a) ju here)

      fresh : Fresh (up_of S) Γ n
      fresh = record {
        types = λ x T l. absurd (o.novar x T l);
        local = omega arith;
        proper = λ z. absurd (omega (arith, less, some-injective _ _ (sym up ∙ z)));
        absent = o.absent n (omega arith);
      }

      is_same : (u : ℕ) (b : Bool) → eqb u n ≡ b → get_or (s.of ++ (K ∷ [])) u 0 ≡ look (b_name n K ∷ E) u
      is_same u true z =
          let q : u ≡ n = eqb-true u n z in
          ap (λ t. get_or (s.of ++ (K ∷ [])) t 0) (q ∙ sym o.count) ∙ get_d_on s.of K ∙ sym (look_on E n K) ∙ ap (look (b_name n K ∷ E)) (sym q)
      is_same u false z =
          let q : u ≢ n = eqb-false u n z in
          get_d_off s.of K u (λ w. q (w ∙ o.count)) ∙ o.same u ∙ sym (look_off E K u q)

      host_pos : (k : ℕ) (c : Name) → get_elem? S.names k ≡ some c → c.host ≡ true → (b : Bool) → eqb k i ≡ b → k < suc i → 0 < look (b_name n K ∷ E) (suc (suc k))
      host_pos k c g h true z l = let q : suc (suc k) ≡ n = ap (λ t. suc (suc t)) (eqb-true k i z) in rw (q, look_on E n K) (omega (arith, o.ko.two))
      host_pos k c g h false z l =
          let q : k ≢ i = eqb-false k i z in
          let y : suc (suc k) ≢ n = λ w. q (omega (arith, w)) in
          rw (look_off E K (suc (suc k)) y) (o.hosts k c g h (omega arith))

      no_var : (x : ℕ) (T : Ty) → Lookup (e_name n ∷ Γ) x T → ⊥
      no_var x T (l_name l) = o.novar x T l

  add_local : (i : ℕ) (d : Name) (s : Named) (Γ : List Entry) → get_elem? S.names i ≡ some d → d.host ≡ false → (o : NamesAre i s Γ)
      → NamesAre (suc i) (record { keys = s.keys; of = s.of ++ (0 ∷ []); bindings = s.bindings }) Γ
  add_local i d s Γ e local o = record {
    count = length_snoc s.of 0 ∙ ap suc o.count;
    few = omega (arith, o.few);
    binds = o.binds;
    ko = o.ko;
    env = o.env;
    same = λ u. is_same u (eqb u (suc (suc i))) refl;
    hosts = λ k c g h l. host_pos k c g h (eqb k i) refl l;
    absent = λ u l. o.absent u (omega (arith, l));
    novar = o.novar;
  }
    where
      is_same : (u : ℕ) (b : Bool) → eqb u (suc (suc i)) ≡ b → get_or (s.of ++ (0 ∷ [])) u 0 ≡ look o.binds u
      is_same u true z =
          let q : u ≡ suc (suc i) = eqb-true u (suc (suc i)) z in
          ap (λ t. get_or (s.of ++ (0 ∷ [])) t 0) (q ∙ sym o.count) ∙ get_d_on s.of 0 ∙ sym (ap (look o.binds) q ∙ env_absent o.env.ok (o.absent (suc (suc i)) (omega arith)) (omega arith))
      is_same u false z = get_d_off s.of 0 u (λ w. eqb-false u (suc (suc i)) z (w ∙ o.count)) ∙ o.same u

      host_pos : (k : ℕ) (c : Name) → get_elem? S.names k ≡ some c → c.host ≡ true → (b : Bool) → eqb k i ≡ b → k < suc i → 0 < look o.binds (suc (suc k))
      host_pos k c g h true z l =
          let q : c ≡ d = some-injective c d (sym g ∙ ap (get_elem? S.names) (eqb-true k i z) ∙ e) in
          absurd (false≢true (sym local ∙ ap (λ (x : Name). x.host) (sym q) ∙ h))
      host_pos k c g h false z l = let q : k ≢ i = eqb-false k i z in o.hosts k c g h (omega arith)

  add_name_lem : (i : ℕ) (d : Name) (s : Named) (Γ : List Entry) → get_elem? S.names i ≡ some d → NamesAre i s Γ → NamesAre (suc i) (add_name d s) (add_host (suc (suc i)) d Γ)
  unfolding add_name add_host
  add_name_lem i d s Γ e o = at d.host refl
    where
      at : (b : Bool) → d.host ≡ b
          → NamesAre (suc i)
          (cond b
          (record { keys = s.keys ++ (get_or s.of d.upper 0 ∷ []); of = s.of ++ (length s.keys ∷ []); bindings = bind_to s.bindings (b_name (length s.of) (length s.keys)) })
          (record { keys = s.keys; of = s.of ++ (0 ∷ []); bindings = s.bindings }))
          (cond b (e_name (suc (suc i)) ∷ Γ) Γ)
      at true h = add_host_lem i d s Γ e h o
      at false h = add_local i d s Γ e h o

  names_are : (i : ℕ) (ds : List Name) (s : Named) (Γ : List Entry) → ((k : ℕ) (d : Name) → get_elem? ds k ≡ some d → get_elem? S.names (k + i) ≡ some d) → NamesAre i s Γ
      → NamesAre (length ds + i) (add_names ds s) (name_ctx (suc (suc i)) ds Γ)
  unfolding add_names name_ctx
  names_are i [] s Γ e o = let z : i ≡ 0 + i = omega arith in subst (λ n. NamesAre n s Γ) z o
  names_are i (d ∷ ds) s Γ e o =
      let z : 0 + i ≡ i = omega arith in
      let y : length ds + suc i ≡ suc (length ds) + i = omega arith in
      subst (λ n. NamesAre n (add_names ds (add_name d s)) (name_ctx (suc (suc (suc i))) ds (add_host (suc (suc i)) d Γ))) y
      (names_are (suc i) ds (add_name d s) (add_host (suc (suc i)) d Γ) (λ k c g. let w : suc k + i ≡ k + suc i = omega arith in subst (λ n. get_elem? S.names n ≡ some c) w (e (suc k) c g))
      (add_name_lem i d s Γ (subst (λ n. get_elem? S.names n ≡ some d) z (e 0 d refl)) o))

  -- after the host values: a binding each, the cells of theirs typed, and keys as the names have them
  record ValuesAre (ks : List ℕ) (of : ℕ → ℕ) (b : ℕ) (s : Valued) (Γ : List Entry) : Type 0 where
    pub ct : List RTy
    pub binds : List Bind
    pub env : Env S (world [] [] ct ks s.bindings) (length s.bindings) binds Γ
    pub store : StoreOk S (world [] [] ct ks s.bindings) s.cells [] []
    pub same : (n : ℕ) → of n ≡ look binds n
    pub few : length s.bindings ≤ b

  module _ (ks : List ℕ) (of : ℕ → ℕ) (pos : (r : ℕ) → host_name S.names r ≡ true → 0 < of r) where
    -- a variable is bound to a value, in the world with the cells that it takes
    bind_value : (b x : ℕ) (B : List Link) (Γ : List Entry) (ct : List RTy) (cells : List Value) (E : List Bind) (v : Value) (T : Ty)
        → Chain B (length B) E → EnvOk S (world [] [] ct ks B) E Γ → StoreOk S (world [] [] ct ks B) cells [] [] → Fits (world [] [] ct ks B) v (inst (look E) T)
        → ((n : ℕ) → of n ≡ look E n) → length B ≤ b
        → ValuesAre ks of (suc b) (record { cells = cells; bindings = bind_to B (b_var x v) }) (e_var x T ∷ Γ)
    unfolding look
    bind_value b x B Γ ct cells E v T c o st f same few =
        let w = bind_extends ct ks B (b_var x v) in
        record {
          ct = ct;
          binds = b_var x v ∷ E;
          env = record { chain = chain_bind B (b_var x v) c; ok = eo_var (env_ok_ext w o) (fits_ext w f) };
          store = store_wider st ks (bind_to B (b_var x v)) w;
          same = same;
          few = omega (arith, bind_length B (b_var x v), few);
        }

    add_value_lem : (b x n : ℕ) (s : Valued) (Γ : List Entry) (T : Ty) → HostTyped S.names T → ValuesAre ks of b s Γ
        → ValuesAre ks of (suc b) (record { cells = s.cells ++ host_cell T n; bindings = bind_to s.bindings (b_var x (host_value of T (length s.cells))) }) (e_var x T ∷ Γ)
    unfolding host_cell host_value by_type on_cell on_lim on_grant inst
    add_value_lem b x n s Γ T (ht_cell {q = q} h) o =
        let w = cell_extends o.store (rnum 0) in
        bind_value b x s.bindings Γ (o.ct ++ (rnum 0 ∷ [])) (s.cells ++ (unkeyed (k_num n) ∷ [])) o.binds (record { key = of q; kind = k_cell (length s.cells) }) (cell q (num 0))
        o.env.chain (env_ok_ext w o.env.ok) (add_cell o.store (rnum 0) (unkeyed (k_num n)) (record { exact = rnum 0; typ = t_num; sub = r_num here }))
        (record { exact = rcell (of q) (rnum 0); typ = t_cell (get_elem?_at o.ct (rnum 0) (length s.cells) o.store.clen); sub = rw (o.same q, env_zero o.env.ok) (r_cell here (r_num here) (r_num here)) })
        o.same o.few
    add_value_lem b x n s Γ T (ht_lim {q = q} {r = r} h g) o =
        rw (append-nil s.cells)
        (bind_value b x s.bindings Γ o.ct s.cells o.binds (record { key = of q; kind = k_lim (of r) }) (lim q r) o.env.chain o.env.ok o.store
        (record { exact = rlim (of q) (of r); typ = t_lim (pos r g); sub = rw (o.same q, o.same r) (r_lim here) }) o.same o.few)
    add_value_lem b x n s Γ T (ht_grant {q = q} {r = r} h g) o =
        rw (append-nil s.cells)
        (bind_value b x s.bindings Γ o.ct s.cells o.binds (record { key = of q; kind = k_grant (of r) }) (grant q r) o.env.chain o.env.ok o.store
        (record { exact = rgrant (of q) (of r); typ = t_grant (pos r g); sub = rw (o.same q, o.same r) (r_grant here) }) o.same o.few)

    values_are : (b x : ℕ) (hs : List (HostValue Ty)) (s : Valued) (Γ : List Entry) → ((h : HostValue Ty) → Memᴰ h hs → HostTyped S.names h.ty) → ValuesAre ks of b s Γ
        → ValuesAre ks of (length hs + b) (add_values of x hs s) (value_ctx x hs Γ)
    unfolding add_values value_ctx
    values_are b x [] s Γ f o = let z : b ≡ 0 + b = omega arith in subst (λ n. ValuesAre ks of n s Γ) z o
    values_are b x (h ∷ hs) s Γ f o =
        let y : length hs + suc b ≡ suc (length hs) + b = omega arith in
        subst (λ n. ValuesAre ks of n (add_values of x (h ∷ hs) s) (value_ctx (suc x) hs (e_var x h.ty ∷ Γ))) y
        (values_are (suc b) (suc x) hs _ (e_var x h.ty ∷ Γ) (λ g m. f g (Memᴰ.tail m)) (add_value_lem b x h.init s Γ h.ty (f h (Memᴰ.head refl)) o))

  base_off : (n : ℕ) → n ≢ 1 → base n ≡ 0
  unfolding base
  base_off n h = rw (ne_eqb n 1 h)

  -- no name yet
  none_yet : NamesAre 0 (record { keys = 0 ∷ 1 ∷ []; of = 0 ∷ 1 ∷ []; bindings = [] }) []
  unfolding look base uppers vars_of
  none_yet = record {
    count = refl;
    few = omega arith;
    binds = [];
    ko = record { proper = proper_two; two = omega arith };
    env = record { chain = ch_nil; ok = eo_nil (record { step = mono }) (record { step = up }) };
    same = same;
    hosts = λ k d g h l. absurd (omega (arith, l));
    absent = λ u l. a_nil;
    novar = λ x T l. nothing x T l;
  }
    where
      mono : (a u : ℕ) → get_elem? (up_of S) a ≡ some u → Below (0 ∷ 1 ∷ []) (base a) (base u)
      mono zero u e = bot
      mono (suc zero) u e = subst (λ t. Below (0 ∷ 1 ∷ []) 1 (base t)) (some-injective 1 u e) here
      mono (suc (suc a)) u e = rw (base_off (suc (suc a)) (omega arith)) bot

      up : (a u : ℕ) → get_elem? (up_of S) a ≡ some u → (base a ≡ 0) ⊎ (0 < base u)
      up zero u e = inl refl
      up (suc zero) u e = inr (subst (λ t. 0 < base t) (some-injective 1 u e) (omega arith))
      up (suc (suc a)) u e = inl (base_off (suc (suc a)) (omega arith))

      same : (n : ℕ) → get_or (0 ∷ 1 ∷ []) n 0 ≡ base n
      same zero = refl
      same (suc zero) = refl
      same (suc (suc n)) = sym (base_off (suc (suc n)) (omega arith))

      nothing : (x : ℕ) (T : Ty) → Lookup [] x T → ⊥
      nothing x T l = Memᴰ.not-nil (lookup_mem l)

  names_done : NamesAre (length S.names) (named S) (name_ctx 2 S.names [])
  unfolding named
  names_done =
      let z : length S.names + 0 ≡ length S.names = omega arith in
      subst (λ n. NamesAre n (named S) (name_ctx 2 S.names [])) z
      (names_are 0 S.names _ [] (λ k d g. let y : k ≡ k + 0 = omega arith in subst (λ n. get_elem? S.names n ≡ some d) y g) none_yet)

  key_pos : (r : ℕ) → host_name S.names r ≡ true → 0 < key_named S r
  unfolding key_named
  key_pos r h = rw (names_done.same r) (pos_name (length S.names) (named S) (name_ctx 2 S.names []) names_done r (low (host_cases S.names r h)) h)
    where
      low : (r ≡ 1) ⊎ ((i : ℕ) × (d : Name) × (r ≡ suc (suc i)) × (get_elem? S.names i ≡ some d) × (d.host ≡ true)) → r < suc (suc (length S.names))
      low (inl z) = omega arith
      low (inr z) = omega (arith, z.2, get_elem?_lt S.names z.0 z.1 z.3)

  values_done : ValuesAre (named S).keys (key_named S) (length S.values + length S.names) (valued S) (host_ctx S)
  unfolding key_named valued host_ctx
  values_done = values_are (named S).keys (key_named S) key_pos (length S.names) 0 S.values _ (name_ctx 2 S.names []) wr.value (record {
    ct = [];
    binds = names_done.binds;
    env = names_done.env;
    store = record {
      plen = refl;
      ps = λ i t e. absurd (none-ne-some t e);
      clen = refl;
      cs = λ i t e. absurd (none-ne-some t e);
      flen = refl;
      fs = λ i t e. absurd (none-ne-some t e);
    };
    same = names_done.same;
    few = names_done.few;
  })

-- well read, typed, and with an effect below the rights: the start is well typed
pub start_ok : (S : Src) → WellRead S → {T : Ty} {s : Effect} → Has S (host_ctx S) (root S) T s → EffBelow (up_of S) s S.rights → Ok S (alone (start_of S) (first_thread S))
unfolding start_of first_thread first_store
start_ok S wr {T} {s} h u = record {
  pt = [];
  ft = [];
  ct = vs.ct;
  keys = (names_done S wr).ko;
  few = omega (arith, vs.few, wr.few_names, wr.few_values);
  store = vs.store;
  thread = to_enter_lem vs.env h (record { each = cov }) so_nil;
}
  where
    vs : ValuesAre S wr (named S).keys (key_named S) (length S.values + length S.names) (valued S) (host_ctx S)
    vs = values_done S wr

    cov : (n : ℕ) → Memᴰ n (names s) → On (named S).keys (members (set_of (map (key_named S) (names S.rights)))) (look vs.binds n)
    cov n m =
        let z = eff_each u n m in
        on_key (set_of_mem (Memᴰ.map (key_named S) z.1)) (subst⁻¹ (λ k. Below (named S).keys (look vs.binds n) k) (vs.same z.0) (env_mono vs.env.ok n z.0 z.2))
