-- What well-typed bindings give: the map from names to keys is monotone, and a variable in scope has a value of its type.
use Rattle.std.specs.Prelude.{◌≡◌, ℕ, ◌<◌, Bool, List, ◌∷◌, map, ◌≢◌, ◌⊎◌}
use Rattle.std.proofs.Math.Path.{refl, ap, subst}
use Rattle.std.proofs.Common.{sym, ◌∙◌, arith, inl, eq-eqb, ne_eqb, eqb-true}
use Rattle.std.proofs.Math.Bool.{true, false, cond}
use mathlib.Core.List.Memᴰ
use Rattle.std.proofs.Math.Option.{some, some-injective}
use Rattle.std.proofs.Math.Logic.{inr}
use Rattle.std.proofs.Math.ListN.{length, get_elem?}
use Rattle.std.proofs.Math.Dec.{eqb}
use Rattle.order.specs.Order.{Below, bot, here, there}
use Rattle.order.proofs.OrderLaws.{below_trans}
use Rattle.order.specs.Effects.{Effect, of_names, EffBelow}
use Rattle.order.proofs.EffectLaws.{eff_each, of_names_lem}
use Rattle.syntax.specs.Types.{Ty}
use Rattle.syntax.specs.Job.{Src, up_of}
use Rattle.syntax.specs.Tree.{Entry}
use Rattle.typing.specs.Subtype.{Sub}
use Rattle.typing.specs.Rules.{Lookup, l_here, l_var, l_name, Fresh, Absent, a_nil, a_var, a_name}
use Rattle.typing.specs.FreeNames.{Free}
use Rattle.typing.proofs.Scoped.{scoped_free}
use Rattle.semantics.specs.Machine.{Value, Bind, b_var, b_name}
use Rattle.semantics.specs.RuntimeTypes.{RTy, RSub, inst}
use Rattle.semantics.proofs.RuntimeTypes.{inst_same, inst_mono, rsub_trans}
use Rattle.semantics.specs.Chains.{look, look_var, base}
use Rattle.semantics.specs.Invariant.{World, Fits, on_key, Covers, Mono, Up, EnvOk, eo_nil, eo_var, eo_name, KeysOk}
use Rattle.semantics.proofs.Enabled.{on_below}

pub fits_sub : {W : World} {v : Value} {A B : RTy} → Fits W v A → RSub W.keys A B → Fits W v B
fits_sub {A = A} f h = record { exact = f.exact; typ = f.typ; sub = rsub_trans A f.sub h }

-- a name other than the one just bound
pub look_off : (E : List Bind) {r : ℕ} (k a : ℕ) → a ≢ r → look (b_name r k ∷ E) a ≡ look E a
unfolding look
look_off E {r} k a n = rw (ne_eqb a r n)

pub look_on : (E : List Bind) (r k : ℕ) → look (b_name r k ∷ E) r ≡ k
unfolding look
look_on E r k = rw (eq-eqb r r refl)

pub look_var_lem : (E : List Bind) (x : ℕ) (v : Value) → look (b_var x v ∷ E) ≡ look E
unfolding look
look_var_lem E x v = refl

-- a type free of the new name reads as before
pub inst_off : (E : List Bind) (r k : ℕ) (T : Ty) → Free r T → inst (look E) T ≡ inst (look (b_name r k ∷ E)) T
inst_off E r k T f = inst_same (look E) (look (b_name r k ∷ E)) T (λ n m. sym (look_off E k n (f.none n m)))

-- a name has one upper name
upper_same : (up : List ℕ) {r u a t : ℕ} → get_elem? up r ≡ some u → get_elem? up a ≡ some t → a ≡ r → t ≡ u
upper_same up {u = u} {t = t} e g z = some-injective t u (sym g ∙ ap (get_elem? up) z ∙ e)

module _ {S : Src} {W : World} where
  pub env_zero : {E : List Bind} {Γ : List Entry} → EnvOk S W E Γ → look E 0 ≡ 0
  unfolding look base
  env_zero (eo_nil m p) = refl
  env_zero (eo_var o f) = env_zero o
  env_zero (eo_name {r = r} o f m p h) = rw (ne_eqb 0 r (omega (arith, f.local))) (env_zero o)

  pub env_one : {E : List Bind} {Γ : List Entry} → EnvOk S W E Γ → look E 1 ≡ 1
  unfolding look base
  env_one (eo_nil m p) = refl
  env_one (eo_var o f) = env_one o
  env_one (eo_name {r = r} o f m p h) = rw (ne_eqb 1 r (omega (arith, f.local))) (env_one o)

  env_step : {E : List Bind} {Γ : List Entry} → EnvOk S W E Γ → Mono S W.keys (look E)
  env_step (eo_nil m p) = m
  env_step (eo_var {E = E} {x = x} {v = v} o f) = subst (λ μ. Mono S W.keys μ) (sym (look_var_lem E x v)) (env_step o)
  env_step (eo_name o f m p h) = m

  env_up : {E : List Bind} {Γ : List Entry} → EnvOk S W E Γ → Up S (look E)
  env_up (eo_nil m p) = p
  env_up (eo_var {E = E} {x = x} {v = v} o f) = subst (λ μ. Up S μ) (sym (look_var_lem E x v)) (env_up o)
  env_up (eo_name o f m p h) = p

  pub env_mono : {E : List Bind} {Γ : List Entry} → EnvOk S W E Γ → (a b : ℕ) → Below (up_of S) a b → Below W.keys (look E a) (look E b)
  env_mono {E} o a b bot = rw (env_zero o) bot
  env_mono {E} o a b here = here
  env_mono {E} o a b (there {u = u} e p) = below_trans ((env_step o).step a u e) (env_mono o u b p)

  pub env_sub : {E : List Bind} {Γ : List Entry} → EnvOk S W E Γ → {A B : Ty} → Sub (up_of S) A B → RSub W.keys (inst (look E) A) (inst (look E) B)
  env_sub {E} o h = inst_mono (up_of S) W.keys (look E) (env_mono o) h

  pub env_lt : KeysOk W.keys → {E : List Bind} {Γ : List Entry} → EnvOk S W E Γ → (n : ℕ) → look E n < length W.keys
  unfolding look base
  env_lt ok (eo_nil m p) n = zero_or (eqb n 1)
    where
      zero_or : (b : Bool) → cond b 1 0 < length W.keys
      zero_or true = ok.two
      zero_or false = omega (arith, ok.two)
  env_lt ok (eo_var o f) n = env_lt ok o n
  env_lt ok (eo_name {E = E} {r = r} {k = k} o f m p h) n = at (eqb n r) refl (env_lt ok o n)
    where
      at : (b : Bool) → eqb n r ≡ b → look E n < length W.keys → look (b_name r k ∷ E) n < length W.keys
      at true e z = rw e h
      at false e z = rw e z

  pub env_absent : {E : List Bind} {Γ : List Entry} → EnvOk S W E Γ → {a : ℕ} → Absent a Γ → 1 < a → look E a ≡ 0
  unfolding look base
  env_absent (eo_nil m p) {a} a_nil h = rw (ne_eqb a 1 (omega arith))
  env_absent (eo_var o f) (a_var n) h = env_absent o n h
  env_absent (eo_name {r = r} o f m p k) {a} (a_name z n) h = rw (ne_eqb a r z) (env_absent o n h)

  -- a variable in scope has a value of its type, read under the bindings
  pub env_lookup : {E : List Bind} {Γ : List Entry} {x : ℕ} {T : Ty} → EnvOk S W E Γ → Lookup Γ x T → (v : Value) × (look_var E x ≡ some v) × Fits W v (inst (look E) T)
  unfolding look_var
  env_lookup {x = x} {T = T} (eo_nil _ _) x10 = elim x10 [ ]
  env_lookup (eo_var {E = E} {x = x} {v = v} {T = T} o f) l_here = (v, rw (eq-eqb x x refl), rw look_var_lem f)
  env_lookup {x} (eo_var {E = E} {x = y} o f) (l_var n l) = let z = env_lookup o l in (z.0, rw (ne_eqb x y n) z.1, rw look_var_lem z.2)
  env_lookup {T} (eo_name {E = E} {r = r} {k = k} o f m p h) (l_name l) =
      let z = env_lookup o l in
      (z.0, z.1, subst (λ t. Fits W z.0 t) (inst_off E r k T (scoped_free f (f.types _ T l))) z.2)

  -- an effect below one that is covered is covered; one below the names rs is covered by their keys
  pub covers_below : KeysOk W.keys → {E : List Bind} {Γ : List Entry} {l : List ℕ} {s t : Effect} → EnvOk S W E Γ → Covers W.keys l (look E) t → EffBelow (up_of S) s t → Covers W.keys l (look E) s
  covers_below ko o c u = record { each = λ n m. let z = eff_each u n m in on_below ko (c.each z.0 z.1) (env_mono o n z.0 z.2) }

  pub covers_keys : KeysOk W.keys → {E : List Bind} {Γ : List Entry} {s : Effect} (rs : List ℕ) → EnvOk S W E Γ → EffBelow (up_of S) s (of_names rs) → Covers W.keys (map (look E) rs) (look E) s
  covers_keys ko {E} rs o u = covers_below ko o (record { each = λ n m. on_key (Memᴰ.map (look E) (of_names_lem rs m)) here }) u

  -- the map stays monotone when r gets a new key below its upper name's
  pub mono_new : {E : List Bind} {Γ : List Entry} {r u K : ℕ} → EnvOk S W E Γ → Fresh (up_of S) Γ r → get_elem? (up_of S) r ≡ some u → Below W.keys K (look E u)
      → Mono S W.keys (look (b_name r K ∷ E))
  unfolding look
  mono_new {E} {Γ} {r} {u} {K} o f e b = record { step = λ a t g. at a t g (eqb a r) refl (eqb t r) refl }
    where
      low : (a t : ℕ) → (look E a ≡ 0) ⊎ (0 < look E t) → t ≡ r → {k : ℕ} → Below W.keys (look E a) k
      low a t (inl z) y = rw z bot
      low a t (inr z) y = absurd (omega (arith, ap (look E) y, env_absent o f.absent f.local))

      at : (a t : ℕ) → get_elem? (up_of S) a ≡ some t → (x : Bool) → eqb a r ≡ x → (y : Bool) → eqb t r ≡ y → Below W.keys (look (b_name r K ∷ E) a) (look (b_name r K ∷ E) t)
      at a t g true x true y = absurd (f.proper (e ∙ ap some (sym (upper_same (up_of S) e g (eqb-true a r x)) ∙ eqb-true t r y)))
      at a t g true x false y = rw (x, y, upper_same (up_of S) e g (eqb-true a r x)) b
      at a t g false x true y = rw x (low a t ((env_up o).step a t g) (eqb-true t r y))
      at a t g false x false y = rw (x, y) ((env_step o).step a t g)

  pub up_new : {E : List Bind} {Γ : List Entry} (r : ℕ) {u K : ℕ} → EnvOk S W E Γ → get_elem? (up_of S) r ≡ some u → 0 < look E u → 0 < K → Up S (look (b_name r K ∷ E))
  unfolding look
  up_new {E} {Γ} r {u} {K} o e p q = record { step = λ a t g. at a t g (eqb a r) refl (eqb t r) refl }
    where
      at : (a t : ℕ) → get_elem? (up_of S) a ≡ some t → (x : Bool) → eqb a r ≡ x → (y : Bool) → eqb t r ≡ y → (look (b_name r K ∷ E) a ≡ 0) ⊎ (0 < look (b_name r K ∷ E) t)
      at a t g true x true y = inr (rw y q)
      at a t g true x false y = inr (rw (y, upper_same (up_of S) e g (eqb-true a r x)) p)
      at a t g false x true y = inr (rw y q)
      at a t g false x false y = rw (x, y) ((env_up o).step a t g)
