-- What is enabled, exactly: no less than document 01's machine enables, and no more. Safety alone would not notice a machine that enables too much.
use Rattle.std.specs.Prelude.{◌≡◌, Bool, true, false, ◌↔◌, ◌≢◌, ◌⊎◌, length, eqb, ltb}
use Rattle.std.proofs.Math.Path.{refl}
use Rattle.std.proofs.Common.{sym, ap, ◌∙◌, subst, arith, inl, inr, eq-eqb, eqb-true, lt-ltb}
use Prim.Native.Nat.{ℕ, ◌^◌, ◌<◌}
use Rattle.std.proofs.lemmas.Bool.{false≢true, eqb-false}
use mathlib.Core.List.Memᴰ
use mathlib.Core.List.{List, [], ◌∷◌, map, Memᴰ}
use Rattle.std.specs.Int.Bits.{bit_or}
use Rattle.order.specs.Bools.{◌and◌, ◌or◌}
use Rattle.order.proofs.Bools.{and_l, and_r, and3}
use Rattle.order.specs.Order.{Below, here, below}
use Rattle.order.specs.OrderLaws.{Proper}
use Rattle.order.proofs.OrderLaws.{below_trans, below_zero, below→, →below}
use Rattle.order.specs.Sets.{bit, members, set_of, keep, some_of}
use Rattle.order.proofs.SetLaws.{or→, →or_l, →or_r, bit_or_lem, bit_pow, bit_zero, mem_bit, bit_mem, keep_mem, mem_keep, some_of→, →some_of, mem_set_of, set_of_mem}
use Rattle.order.specs.Effects.{pure, names}
use Rattle.order.proofs.EffectLaws.{eff_pure}
use Rattle.syntax.specs.Commands.{Cmd, c_num, c_access}
use Rattle.syntax.specs.Operands.{nth}
use Rattle.syntax.specs.Job.{Src}
use Rattle.syntax.specs.Tree.{root, predecessor}
use Rattle.syntax.specs.WellRead.{WellRead}
use Rattle.typing.specs.Rules.{h_num}
use Rattle.semantics.specs.Machine.{k_lim, Value, Frame, Control, enter, hand, Machine}
use Rattle.semantics.specs.Keys.{enabled, upto, narrow, add}
use Rattle.semantics.specs.Step.{Out, o_step, o_done, o_room, o_stuck, o_denied, entering, with_frames, step}
use Rattle.semantics.specs.Start.{named, key_named, first_thread, first_store, start_of}
use Rattle.semantics.specs.Invariant.{On, on_zero, on_key}
use Rattle.semantics.proofs.Enabled.{mem_upto, enabled_on}
use Rattle.semantics.proofs.Begin.{start_ok}
use Rattle.semantics.proofs.ActLaws.{Acting, access_first, access_second}
use Rattle.semantics.specs.KeyLaws.{BelowOne}

zero_enabled : (up : List ℕ) (on k : ℕ) → k ≡ 0 → enabled up on k ≡ true
unfolding enabled ◌or◌
zero_enabled up on k e = rw (eq-eqb k 0 e)

some_enabled : {up : List ℕ} → Proper up → (on k : ℕ) → BelowOne up k (members on) → enabled up on k ≡ true
unfolding enabled ◌or◌
some_enabled {up} ok on k z = at (eqb k 0) (→some_of (λ a. below up k a) z.1 (→below ok z.2))
  where
    at : (b : Bool) → some_of (λ a. below up k a) (members on) ≡ true → (b or some_of (λ a. below up k a) (members on)) ≡ true
    at true h = refl
    at false h = h

enabled_from : (up : List ℕ) (on k : ℕ) → enabled up on k ≡ true → (k ≡ 0) ⊎ BelowOne up k (members on)
enabled_from up on k e = at (enabled_on up on e)
  where
    at : On up (members on) k → (k ≡ 0) ⊎ BelowOne up k (members on)
    at (on_zero h) = inl h
    at (on_key {a = a} m b) = inr (a, m, b)

-- "A key is enabled when it is below an enabled one in the tree of keys"; "key 0, always enabled"
pub enabled_exactly : {up : List ℕ} → Proper up → (on k : ℕ) → (enabled up on k ≡ true) ↔ ((k ≡ 0) ⊎ BelowOne up k (members on))
enabled_exactly {up} ok on k = (enabled_from up on k, back)
  where
    back : (k ≡ 0) ⊎ BelowOne up k (members on) → enabled up on k ≡ true
    back (inl e) = zero_enabled up on k e
    back (inr z) = some_enabled ok on k z

-- what is below an enabled key is enabled
enabled_below : {up : List ℕ} → Proper up → (on : ℕ) {k a : ℕ} → enabled up on a ≡ true → Below up k a → enabled up on k ≡ true
enabled_below {up} ok on {k} {a} e b = at (enabled_from up on a e)
  where
    at : (a ≡ 0) ⊎ BelowOne up a (members on) → enabled up on k ≡ true
    at (inl z) = zero_enabled up on k (below_zero ok (subst (λ t. Below up k t) z b))
    at (inr z) = some_enabled ok on k (z.0, z.1, below_trans b z.2)

-- after a limit: "what is below both an old enabled key and one of its own"
pub limit_exactly : {up : List ℕ} → Proper up → (on : ℕ) (own : List ℕ) (k : ℕ) → k < length up
    → (enabled up (narrow up on own) k ≡ true) ↔ ((k ≡ 0) ⊎ ((enabled up on k ≡ true) × BelowOne up k own))
unfolding narrow
limit_exactly {up} ok on own k h = (λ e. to (enabled_from up (narrow up on own) k e), from)
  where
    test : ℕ → Bool
    test i = ltb 0 i and enabled up on i and some_of (λ a. below up i a) own

    kept : (a : ℕ) → Below up k a → test a ≡ true → (enabled up on k ≡ true) × BelowOne up k own
    kept a b t =
        let z = some_of→ (λ c. below up a c) own (and_r _ _ t) in
        (enabled_below ok on (and_r _ _ (and_l _ _ t)) b, (z.0, z.1, below_trans b (below→ up a z.0 z.2)))

    to : (k ≡ 0) ⊎ BelowOne up k (members (set_of (keep test (upto (length up))))) → (k ≡ 0) ⊎ ((enabled up on k ≡ true) × BelowOne up k own)
    to (inl e) = inl e
    to (inr z) = inr (kept z.0 z.2 (keep_mem test (upto (length up)) (mem_set_of (keep test (upto (length up))) z.1)).1)

    from : (k ≡ 0) ⊎ ((enabled up on k ≡ true) × BelowOne up k own) → enabled up (set_of (keep test (upto (length up)))) k ≡ true
    from (inl e) = zero_enabled up _ k e
    from (inr z) = at (eqb k 0) refl z.0 z.1
      where
        at : (b : Bool) → eqb k 0 ≡ b → enabled up on k ≡ true → BelowOne up k own → enabled up (set_of (keep test (upto (length up)))) k ≡ true
        at true q e w = zero_enabled up _ k (eqb-true k 0 q)
        at false q e w =
            let n : k ≢ 0 = eqb-false k 0 q in
            let t : test k ≡ true = and3 (ltb 0 k) (enabled up on k) (some_of (λ a. below up k a) own) (lt-ltb 0 k (omega arith)) e (→some_of (λ a. below up k a) w.1 (→below ok w.2)) in
            some_enabled ok _ k (k, set_of_mem (mem_keep test (mem_upto (length up) k h) t), here)

-- after a grant: what was enabled, and what is below the granted key
pub grant_exactly : {up : List ℕ} → Proper up → (j on k : ℕ) → j < length up → (enabled up (add up j on) k ≡ true) ↔ ((enabled up on k ≡ true) ⊎ Below up k j)
unfolding add
grant_exactly {up} ok j on k h = rw (lt-ltb j (length up) h) (λ e. to (enabled_from up (bit_or (2 ^ j) on) k e), from)
  where
    one_of_lem : (a : ℕ) → bit (bit_or (2 ^ j) on) a ≡ true → (a ≡ j) ⊎ Memᴰ a (members on)
    one_of_lem a e = at (or→ (bit (2 ^ j) a) (bit on a) (sym (bit_or_lem a (2 ^ j) on) ∙ e))
      where
        at : (bit (2 ^ j) a ≡ true) ⊎ (bit on a ≡ true) → (a ≡ j) ⊎ Memᴰ a (members on)
        at (inl z) = inl (eqb-true a j (sym (bit_pow j a) ∙ z))
        at (inr z) = inr (bit_mem on z)

    new : (a : ℕ) → Below up k a → (a ≡ j) ⊎ Memᴰ a (members on) → (enabled up on k ≡ true) ⊎ Below up k j
    new a b (inl e) = inr (subst (λ t. Below up k t) e b)
    new a b (inr m) = inl (some_enabled ok on k (a, m, b))

    to : (k ≡ 0) ⊎ BelowOne up k (members (bit_or (2 ^ j) on)) → (enabled up on k ≡ true) ⊎ Below up k j
    to (inl e) = inl (zero_enabled up on k e)
    to (inr z) = new z.0 z.2 (one_of_lem z.0 (mem_bit (bit_or (2 ^ j) on) z.1))

    old : (k ≡ 0) ⊎ BelowOne up k (members on) → enabled up (bit_or (2 ^ j) on) k ≡ true
    old (inl e) = zero_enabled up _ k e
    old (inr z) = some_enabled ok (bit_or (2 ^ j) on) k (z.0, bit_mem (bit_or (2 ^ j) on) (bit_or_lem z.0 (2 ^ j) on ∙ →or_r (bit (2 ^ j) z.0) (bit on z.0) (mem_bit on z.1)), z.2)

    from : (enabled up on k ≡ true) ⊎ Below up k j → enabled up (bit_or (2 ^ j) on) k ≡ true
    from (inl e) = old (enabled_from up on k e)
    from (inr b) = some_enabled ok (bit_or (2 ^ j) on) k (j, bit_mem (bit_or (2 ^ j) on) (bit_or_lem j (2 ^ j) on ∙ →or_l (bit (2 ^ j) j) (bit on j) (bit_pow j j ∙ eq-eqb j j refl)), b)

-- "with no key enabled": key 0 alone
pub nothing_exactly : (up : List ℕ) (k : ℕ) → (enabled up 0 k ≡ true) ↔ (k ≡ 0)
nothing_exactly up k = (λ e. to (enabled_from up 0 k e), zero_enabled up 0 k)
  where
    to : (k ≡ 0) ⊎ BelowOne up k (members 0) → k ≡ 0
    to (inl e) = e
    to (inr z) = absurd (false≢true (sym (bit_zero z.0) ∙ mem_bit 0 z.1))

-- at the start: what is below the key of a right. The tree of keys depends on the names alone, so that its form is that of a job with the same names that does nothing
idle : Src → Src
idle S = record { names = S.names; values = S.values; rights = pure; cmds = c_num 0 ∷ [] }

pub start_proper : (S : Src) → WellRead S → Proper (named S).keys
unfolding idle start_of first_thread first_store named nth root predecessor
start_proper S wr = (start_ok (idle S) quiet (h_num {n = 0} last) eff_pure).keys.proper
  where
    quiet : WellRead (idle S)
    quiet = record { proper = wr.proper; upper = wr.upper; value = wr.value; few_names = wr.few_names; few_values = wr.few_values }

    last : nth (idle S).cmds (root (idle S)) ≡ c_num 0
    last = refl

pub start_exactly : (S : Src) → WellRead S → (k : ℕ)
    → (enabled (named S).keys (first_thread S).on k ≡ true) ↔ ((k ≡ 0) ⊎ ((n : ℕ) × Memᴰ n (names S.rights) × Below (named S).keys k (key_named S n)))
unfolding first_thread
start_exactly S wr k = (λ e. to (enabled_from (named S).keys on k e), from)
  where
    on : ℕ
    on = set_of (map (key_named S) (names S.rights))

    Right : Type 0
    Right = (n : ℕ) × Memᴰ n (names S.rights) × Below (named S).keys k (key_named S n)

    to : (k ≡ 0) ⊎ BelowOne (named S).keys k (members on) → (k ≡ 0) ⊎ Right
    to (inl e) = inl e
    to (inr z) = let y = Memᴰ.of_map (key_named S) (names S.rights) (mem_set_of (map (key_named S) (names S.rights)) z.1) in inr (y.0, y.1, subst (λ t. Below (named S).keys k t) (sym y.2) z.2)

    from : (k ≡ 0) ⊎ Right → enabled (named S).keys on k ≡ true
    from (inl e) = zero_enabled (named S).keys on k e
    from (inr z) = some_enabled (start_proper S wr) on k (key_named S z.0, set_of_mem (Memᴰ.map (key_named S) z.1), z.2)

-- Which branch 0x40 takes

-- the expression that a step enters
towards : Out → ℕ
towards (o_step n) = at n.thread.control
  where
    at : Control → ℕ
    at (enter e) = e
    at (hand v) = 0
towards o_done = 0
towards o_room = 0
towards o_stuck = 0
towards o_denied = 0

module _ {T : Type 0} (code : ℕ → Cmd T) where
  -- 0x40: where the branches are two expressions (as in every job that is free of 8), the first exactly when the key is 0 or lies below an enabled one, and else the second
  pub access_exactly : {m : Machine} {a b c j : ℕ} {t : T} {v : Value} {f : Frame} {fs : List Frame} → Acting code m (c_access a b c t) (v ∷ []) f fs → v.kind ≡ k_lim j
      → enabled m.store.keys f.on v.key ≡ true → Proper m.store.keys → b ≢ c
      → ((step code m ≡ o_step (entering b f.env f.on (with_frames m fs))) ↔ ((j ≡ 0) ⊎ BelowOne m.store.keys j (members f.on)))
      × ((step code m ≡ o_step (entering c f.env f.on (with_frames m fs))) ↔ (((j ≡ 0) ⊎ BelowOne m.store.keys j (members f.on)) → ⊥))
  unfolding towards
  access_exactly {m} {b = b} {c = c} {j = j} {f = f} {fs = fs} a e h ok n =
      let x = enabled_exactly ok f.on j in (
        (λ z. x.0 (first (enabled m.store.keys f.on j) refl z), λ z. access_first code a e h (x.1 z)),
        (λ z w. n (sym (entered (sym z ∙ access_first code a e h (x.1 w)))), λ w. access_second code a e h (other (enabled m.store.keys f.on j) refl (λ z. w (x.0 z)))),
      )
    where
      Next : ℕ → Out
      Next i = o_step (entering i f.env f.on (with_frames m fs))

      entered : {i k : ℕ} → Next i ≡ Next k → i ≡ k
      entered z = ap towards z

      first : (t : Bool) → enabled m.store.keys f.on j ≡ t → step code m ≡ Next b → enabled m.store.keys f.on j ≡ true
      first true q z = q
      first false q z = absurd (n (entered (sym z ∙ access_second code a e h q)))

      other : (t : Bool) → enabled m.store.keys f.on j ≡ t → (enabled m.store.keys f.on j ≡ true → ⊥) → enabled m.store.keys f.on j ≡ false
      other true q w = absurd (w q)
      other false q w = q
