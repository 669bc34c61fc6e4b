-- What each act does, said apart from its plan, of every machine: which expression is entered next or which value is handed on, with which bindings and with which enabled keys. Safety alone would not
-- notice an act that enables too much.
use Rattle.std.specs.Prelude.{◌≡◌, true, false, ◌≢◌, length, set}
use Rattle.std.proofs.Math.Path.{refl, ap}
use Rattle.std.proofs.Common.{◌∙◌}
use Prim.Native.Nat.{ℕ, suc, ◌<◌}
use mathlib.Core.List.{List, [], ◌∷◌, ◌++◌, Memᴰ}
use Rattle.std.proofs.Math.Option.{none, some}
use Rattle.std.proofs.Math.ListN.{get_elem?}
use borrow.Author.Tests.{lt-ltb}
use Rattle.syntax.specs.Commands.{Cmd, c_app, c_asg, c_test, c_lim, c_grant, c_access}
use Rattle.syntax.specs.Operands.{evaluated}
use Rattle.semantics.specs.Machine.{Kind, k_num, k_pair, k_fn, k_cell, k_lim, k_grant, Value, b_var, Closure, Frame, enter, hand, Machine, most_bindings}
use Rattle.semantics.specs.Keys.{enabled, narrow, add}
use Rattle.semantics.specs.Step
use Rattle.semantics.specs.Step.{Out, o_step, o_stuck, o_denied, Plan, p_wrong, room, settle, handing, entering, with_cells, with_bindings, with_frames, as_num, as_fn, as_cell, as_lim, as_grant, found, one, two, branch, act_app, act_asg, act_test, limit_keys, keys_of, touch_all, act_lim, act_grant, act_access, act, enter_at, enter_cmd, resume, receive, hand_to, plan_on, plan, step}
use Rattle.semantics.proofs.Enabled.{narrow_none}
use Rattle.semantics.specs.ActLaws.{Stand, st_cons, st_nil}

stand_keys : {vs : List Value} {js : List ℕ} → Stand vs js → (g : List ℕ → Plan) → limit_keys vs g ≡ g js
unfolding limit_keys as_lim found
stand_keys st_nil g = refl
stand_keys (st_cons {j = j} {vs = vs} e s) g = rw e (stand_keys s (λ js. g (j ∷ js)))

touch_all_lem : (m : Machine) (vs : List Value) (o : Out) → ((v : Value) → Memᴰ v vs → enabled m.store.keys m.thread.on v.key ≡ true) → touch_all (keys_of vs) m o ≡ o
unfolding touch_all keys_of Step.touch
touch_all_lem m [] o h = refl
touch_all_lem m (v ∷ vs) o h = rw (h v (Memᴰ.head refl)) (touch_all_lem m vs o (λ w n. h w (Memᴰ.tail n)))

module _ {T : Type 0} (code : ℕ → Cmd T) where
  -- the next step of m is the act of the command k of the newest frame f, with the values vs, all in hand; fs are the frames below it
  pub record Acting (m : Machine) (k : Cmd T) (vs : List Value) (f : Frame) (fs : List Frame) : Type 0 where
    pub last : Value
    pub control : m.thread.control ≡ hand last
    pub frames : m.thread.frames ≡ (f ∷ fs)
    pub command : code f.at ≡ k
    pub whole : get_elem? (evaluated k) (suc (length f.hand)) ≡ none
    pub values : (f.hand ++ (last ∷ [])) ≡ vs

  -- "brings back its own bindings and enabled keys and .., all in hand, is popped and acts"
  pub acting : {m : Machine} {k : Cmd T} {vs : List Value} {f : Frame} {fs : List Frame} → Acting m k vs f fs → step code m ≡ settle (act k vs (resume f fs m))
  unfolding step plan plan_on hand_to receive
  acting {m} {k} {vs} {f} {fs} a = rw (a.control, a.frames, a.command, a.whole, a.values, a.command)

  -- "3C with no keys pushes none and enters its body with no key enabled"
  pub limit_none : (m : Machine) {e b : ℕ} → m.thread.control ≡ enter e → code e ≡ c_lim [] b → step code m ≡ o_step (entering b m.thread.env 0 m)
  unfolding step plan plan_on enter_cmd enter_at evaluated act act_lim limit_keys keys_of settle touch_all Step.touch room
  limit_none m h c = rw (h, c, narrow_none m.store.keys m.thread.on)

  -- 0x3C: the body is entered with exactly what the limit leaves of the frame's own enabled keys
  pub limit_body : {m : Machine} {b : ℕ} {ks js : List ℕ} {vs : List Value} {f : Frame} {fs : List Frame} → Acting m (c_lim ks b) vs f fs → Stand vs js
      → ((v : Value) → Memᴰ v vs → enabled m.store.keys f.on v.key ≡ true)
      → step code m ≡ o_step (entering b f.env (narrow m.store.keys f.on js) (with_frames m fs))
  unfolding act act_lim settle room
  limit_body {m} {vs = vs} {f = f} {fs = fs} a s h = acting a ∙ ap settle (stand_keys s _) ∙ touch_all_lem (resume f fs m) vs _ h

  -- 0x3D: with exactly what the frame had and the granted key
  pub grant_body : {m : Machine} {a b j : ℕ} {v : Value} {f : Frame} {fs : List Frame} → Acting m (c_grant a b) (v ∷ []) f fs → v.kind ≡ k_grant j
      → enabled m.store.keys f.on v.key ≡ true
      → step code m ≡ o_step (entering b f.env (add m.store.keys j f.on) (with_frames m fs))
  unfolding act one act_grant as_grant found settle touch_all Step.touch room
  grant_body a e h = acting a ∙ rw (e, h)

  -- 0x36: "a call uses the caller's enabled keys", the frame's own, and not those where the function was made
  pub call_body : {m : Machine} {a b i : ℕ} {v w : Value} {c : Closure} {f : Frame} {fs : List Frame} → Acting m (c_app a b) (v ∷ w ∷ []) f fs → v.kind ≡ k_fn i
      → enabled m.store.keys f.on v.key ≡ true → get_elem? m.store.functions i ≡ some c → length m.store.bindings < most_bindings
      → step code m ≡ o_step (entering c.body (suc (length m.store.bindings)) f.on (with_bindings (with_frames m fs) (m.store.bindings ++ (record { bind = b_var c.var w; next = c.env } ∷ []))))
  unfolding act two act_app as_fn found settle touch_all Step.touch room
  call_body {m} a e h g r = acting a ∙ rw (e, g, h, lt-ltb (length m.store.bindings) most_bindings r)

  -- 0x38 "hands on the assigned value"
  pub assign_hands : {m : Machine} {a b c : ℕ} {v w old : Value} {f : Frame} {fs : List Frame} → Acting m (c_asg a b) (v ∷ w ∷ []) f fs → v.kind ≡ k_cell c
      → enabled m.store.keys f.on v.key ≡ true → get_elem? m.store.cells c ≡ some old
      → step code m ≡ o_step (handing w (with_cells (resume f fs m) (set m.store.cells c w)))
  unfolding act two act_asg as_cell found settle touch_all Step.touch room
  assign_hands a e h g = acting a ∙ rw (e, g, h)

  -- 0x3B: the second operand for a number above 0, the third for 0, each with the frame's own enabled keys
  pub test_above : {m : Machine} {a b c n : ℕ} {t : T} {v : Value} {f : Frame} {fs : List Frame} → Acting m (c_test a b c t) (v ∷ []) f fs → v.kind ≡ k_num (suc n)
      → enabled m.store.keys f.on v.key ≡ true → step code m ≡ o_step (entering b f.env f.on (with_frames m fs))
  unfolding act one act_test as_num found branch settle touch_all Step.touch room
  test_above a e h = acting a ∙ rw (e, h)

  pub test_zero : {m : Machine} {a b c : ℕ} {t : T} {v : Value} {f : Frame} {fs : List Frame} → Acting m (c_test a b c t) (v ∷ []) f fs → v.kind ≡ k_num 0
      → enabled m.store.keys f.on v.key ≡ true → step code m ≡ o_step (entering c f.env f.on (with_frames m fs))
  unfolding act one act_test as_num found branch settle touch_all Step.touch room
  test_zero a e h = acting a ∙ rw (e, h)

  -- 0x40: a value that is no limit key is stuck
  pub access_stuck : {m : Machine} {a b c : ℕ} {t : T} {v : Value} {f : Frame} {fs : List Frame} → Acting m (c_access a b c t) (v ∷ []) f fs → ((j : ℕ) → v.kind ≢ k_lim j) → step code m ≡ o_stuck
  unfolding act one act_access as_lim found settle
  access_stuck {b = b} {c = c} {v = v} a h = acting a ∙ ap settle (at v.kind _ h)
    where
      at : (k : Kind) (g : ℕ → Plan) → ((j : ℕ) → k ≢ k_lim j) → found (as_lim k) g ≡ p_wrong
      at (k_num n) g h = refl
      at (k_pair n) g h = refl
      at (k_fn n) g h = refl
      at (k_cell n) g h = refl
      at (k_lim n) g h = absurd (h n refl)
      at (k_grant n) g h = refl

  -- "The key is touched": where the key that the limit key itself carries is not enabled, the step is denied, whatever it stands for
  pub access_denied : {m : Machine} {a b c j : ℕ} {t : T} {v : Value} {f : Frame} {fs : List Frame} → Acting m (c_access a b c t) (v ∷ []) f fs → v.kind ≡ k_lim j
      → enabled m.store.keys f.on v.key ≡ false → step code m ≡ o_denied
  unfolding act one act_access as_lim found settle touch_all Step.touch
  access_denied a e h = acting a ∙ rw (e, h)

  -- the first branch where the key that the limit key stands for is enabled, the second where it is not, each with the frame's own enabled keys
  pub access_second : {m : Machine} {a b c j : ℕ} {t : T} {v : Value} {f : Frame} {fs : List Frame} → Acting m (c_access a b c t) (v ∷ []) f fs → v.kind ≡ k_lim j
      → enabled m.store.keys f.on v.key ≡ true → enabled m.store.keys f.on j ≡ false → step code m ≡ o_step (entering c f.env f.on (with_frames m fs))
  unfolding act one act_access as_lim found settle touch_all Step.touch room
  access_second a e h g = acting a ∙ rw (e, h, g)

  pub access_first : {m : Machine} {a b c j : ℕ} {t : T} {v : Value} {f : Frame} {fs : List Frame} → Acting m (c_access a b c t) (v ∷ []) f fs → v.kind ≡ k_lim j
      → enabled m.store.keys f.on v.key ≡ true → enabled m.store.keys f.on j ≡ true → step code m ≡ o_step (entering b f.env f.on (with_frames m fs))
  unfolding act one act_access as_lim found settle touch_all Step.touch room
  access_first a e h g = acting a ∙ rw (e, h, g)
