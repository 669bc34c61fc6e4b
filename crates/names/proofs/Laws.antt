-- Laws: by a table of ancestors, the tests and operations on names and effects are those of the order.
use Rattle.std.specs.Prelude.{◌≡◌, Bool, cond, ◌&&◌, ◌||◌, ◌≢◌, ◌⊎◌, get_or, eqb, ltb}
use Rattle.std.proofs.Math.Path.{refl, ap}
use Rattle.std.proofs.Common.{sym, ◌∙◌, subst, arith, true≢false, inl, inr}
use Prim.Native.Nat.{ℕ, ◌+◌, ◌^◌, ◌≤◌, ◌<◌}
use Rattle.std.proofs.Math.Bool.{true, false, not}
use Rattle.std.proofs.lemmas.Bool.{false≢true}
use mathlib.Core.List.{List, Memᴰ}
use Rattle.std.proofs.Math.ListN.{length, get_or-eq_default}
use Rattle.std.specs.Int.Bits.{bit_and, bit_or, bit_xor}
use borrow.Author.Tests.{lt-ltb, le-ltb, ltb-true, ltb-false, eq-eqb, ne_eqb, eqb-true, eqb-false, not-true}
use Rattle.order.specs.Bools.{◌and◌, ◌or◌}
use Rattle.order.proofs.Bools.{and_r}
use Rattle.order.specs.Order.{Below, bot, here, there, below}
use Rattle.order.specs.OrderLaws.{Proper}
use Rattle.order.proofs.OrderLaws.{get_elem?_lt, below→, below_self, below_bot, below_le, below_zero}
use Rattle.order.specs.Sets.{bit, members, set_of, keep, some_of, all_of}
use Rattle.order.proofs.SetLaws.{bool_ext, and→, →and, bit_or_lem, bit_zero, bit_pow, set_ext, keep_mem, mem_keep, some_of→, →some_of, all_of→, →all_of, mem_bit, bit_mem, set_of_bit, bit_set_of}
use Rattle.order.specs.Ranges.{range}
use Rattle.order.proofs.Ranges.{range_mem, mem_range, get_d_range, length_range}
use Rattle.order.specs.Effects.{of_word, names, reduced, set_names, set_touch, set_below, maximal, set_reduced, set_reduce, set_drop, set_raise}
use Rattle.order.proofs.NameSetLaws.{name_mem, mem_name, name_bit, bit_name, maximal→, →maximal, bit_raise}
use Rattle.syntax.specs.Job.{Name, uppers}
use Rattle.syntax.specs.Reading.{declared, host_name, set_ok, rights_ok}
use Rattle.names.specs.Ancestors.{at_or_above, ancestors_of, below_by, meets_by, eff_below_by, top_by, maximal_by, reduced_by, reduce_by, stays_by, drop_by, one_of, nonzero, touch_by, raise_by, declared_of, set_ok_by, rights_ok_by}
use Rattle.names.proofs.Bits.{bit_and_lem, bit_xor_lem, bit_nonzero, one_of_lem, some_bit, all_cong, keep_cong}
use Rattle.names.proofs.Tables.{uppers_length}

-- The table

-- what is at or above a name, of the names below 64
pub above_bit : (up : List ℕ) (a b : ℕ) → bit (at_or_above up a) b ≡ true → below up a b ≡ true
unfolding at_or_above
above_bit up a b e = (keep_mem (λ x. below up a x) (range 0 64) (bit_set_of (keep (λ x. below up a x) (range 0 64)) e)).1

pub bit_above : (up : List ℕ) (a b : ℕ) → b < 64 → below up a b ≡ true → bit (at_or_above up a) b ≡ true
unfolding at_or_above
bit_above up a b h e = set_of_bit (mem_keep (λ x. below up a x) (mem_range 0 64 b (omega arith) (omega arith)) e)

pub above_lt : (up : List ℕ) (a b : ℕ) → bit (at_or_above up a) b ≡ true → b < 64
unfolding at_or_above
above_lt up a b e = let z = range_mem 0 64 b (keep_mem (λ x. below up a x) (range 0 64) (bit_set_of (keep (λ x. below up a x) (range 0 64)) e)).0 in omega arith

pub table_length : (up : List ℕ) → length (ancestors_of up) ≡ 64
unfolding ancestors_of
table_length up = length_range (λ a. cond (ltb a (length up)) (at_or_above up a) 0) 0 64

table_at : (up : List ℕ) (a : ℕ) → a < 64 → get_or (ancestors_of up) a 0 ≡ cond (ltb a (length up)) (at_or_above up a) 0
unfolding ancestors_of
table_at up a h = get_d_range (λ x. cond (ltb x (length up)) (at_or_above up x) 0) 64 a 0 h

pub table_in : (up : List ℕ) (a : ℕ) → length up ≤ 64 → a < length up → get_or (ancestors_of up) a 0 ≡ at_or_above up a
table_in up a h k = table_at up a (omega arith) ∙ ap (λ (c : Bool). cond c (at_or_above up a) 0) (lt-ltb a (length up) k)

pub table_out : (up : List ℕ) (a : ℕ) → length up ≤ a → get_or (ancestors_of up) a 0 ≡ 0
table_out up a h = at (ltb a 64) refl
  where
    at : (c : Bool) → ltb a 64 ≡ c → get_or (ancestors_of up) a 0 ≡ 0
    at true e = table_at up a (ltb-true a 64 e) ∙ ap (λ (c : Bool). cond c (at_or_above up a) 0) (le-ltb a (length up) h)
    at false e = get_or-eq_default (ancestors_of up) 0 (omega (arith, table_length up, ltb-false a 64 e))

-- a number that is not in the tree is below itself alone
outside : {up : List ℕ} {a b : ℕ} → Below up a b → length up ≤ a → a ≢ 0 → a ≢ b → ⊥
outside bot h z n = z refl
outside here h z n = n refl
outside {up} (there {a = x} {u = y} g p) h z n = omega (arith, get_elem?_lt up x y g)

-- For the table `anc` of a proper tree of at most 64 names

module _ {up : List ℕ} (ok : Proper up) (few : length up ≤ 64) {anc : List ℕ} (table : anc ≡ ancestors_of up) where
  pub bit_entry : (a b : ℕ) → a ≢ 0 → a < length up → bit (get_or anc a 0) b ≡ below up a b
  bit_entry a b z h =
      ap (λ (t : List ℕ). bit (get_or t a 0) b) table ∙ ap (λ (x : ℕ). bit x b) (table_in up a few h)
      ∙ bool_ext (bit (at_or_above up a) b) (below up a b) (above_bit up a b) (λ e. bit_above up a b (small e) e)
    where
      small : below up a b ≡ true → b < 64
      small e = at (below_le ok (below→ up a b e))
        where
          at : (a ≡ 0) ⊎ (b ≤ a) → b < 64
          at (inl y) = absurd (z y)
          at (inr y) = omega arith

  pub below_by_lem : (a b : ℕ) → below_by anc a b ≡ below up a b
  unfolding below_by ◌or◌
  below_by_lem a b = at (eqb a 0) refl (eqb a b) refl (ltb a (length up)) refl
    where
      none : a ≢ 0 → a ≢ b → length up ≤ a → below up a b ≡ false
      none z y h = on (below up a b) refl
        where
          on : (c : Bool) → below up a b ≡ c → c ≡ false
          on true e = absurd (outside (below→ up a b e) h z y)
          on false e = refl

      at : (i : Bool) → eqb a 0 ≡ i → (j : Bool) → eqb a b ≡ j → (k : Bool) → ltb a (length up) ≡ k → (i or j or bit (get_or anc a 0) b) ≡ below up a b
      at true z j y k h = sym (ap (λ (x : ℕ). below up x b) (eqb-true a 0 z) ∙ below_bot up b)
      at false z true y k h = sym (ap (λ (x : ℕ). below up a x) (sym (eqb-true a b y)) ∙ below_self up a)
      at false z false y true h = bit_entry a b (eqb-false a 0 z) (ltb-true a (length up) h)
      at false z false y false h =
          let g : length up ≤ a = ltb-false a (length up) h in
          ap (λ (t : List ℕ). bit (get_or t a 0) b) table ∙ ap (λ (x : ℕ). bit x b) (table_out up a g) ∙ bit_zero b ∙ sym (none (eqb-false a 0 z) (eqb-false a b y) g)

  meets_by_lem : (t : ℕ) (n : ℕ) → n ≢ 0 → n < length up → meets_by anc t n ≡ some_of (λ m. below up n m) (set_names t)
  unfolding meets_by
  meets_by_lem t n z h = bool_ext (not (eqb x 0)) (some_of (λ m. below up n m) (set_names t)) to from
    where
      x : ℕ
      x = bit_and (get_or anc n 0) t

      at : (i : ℕ) → bit x i ≡ true → (bit (get_or anc n 0) i ≡ true) × (bit t i ≡ true)
      at i e = and→ (bit (get_or anc n 0) i) (bit t i) (sym (bit_and_lem i (get_or anc n 0) t) ∙ e)

      to : not (eqb x 0) ≡ true → some_of (λ m. below up n m) (set_names t) ≡ true
      to e = go (some_bit x (eqb-false x 0 (not-true (eqb x 0) e)))
        where
          go : (i : ℕ) × (bit x i ≡ true) → some_of (λ m. below up n m) (set_names t) ≡ true
          go w =
              let y = at w.0 w.1 in
              let b : below up n w.0 ≡ true = sym (bit_entry n w.0 z h) ∙ y.0 in
              →some_of (λ m. below up n m) (bit_name t y.1 (λ e. z (below_zero ok (subst (λ (i : ℕ). Below up n i) e (below→ up n w.0 b))))) b

      from : some_of (λ m. below up n m) (set_names t) ≡ true → not (eqb x 0) ≡ true
      from e =
          let w = some_of→ (λ m. below up n m) (set_names t) e in
          let y : bit x w.0 ≡ true = bit_and_lem w.0 (get_or anc n 0) t ∙ →and (bit (get_or anc n 0) w.0) (bit t w.0) (bit_entry n w.0 z h ∙ w.2) (name_bit t w.1).0 in
          ap not (ne_eqb x 0 (λ g. true≢false (sym y ∙ ap (λ (v : ℕ). bit v w.0) g ∙ bit_zero w.0)))

  pub eff_below_by_lem : (s t : ℕ) → ((n : ℕ) → bit s n ≡ true → n < length up) → eff_below_by anc s t ≡ set_below up s t
  unfolding eff_below_by set_below
  eff_below_by_lem s t f = all_cong (meets_by anc t) (λ n. some_of (λ m. below up n m) (set_names t)) (set_names s) (λ n m. let z = name_bit s m in meets_by_lem t n z.1 (f n z.0))

  maximal_by_lem : (s : ℕ) (n : ℕ) → bit s n ≡ true → n < length up → maximal_by anc s n ≡ maximal up s n
  unfolding maximal_by top_by
  maximal_by_lem s n g h = at (eqb n 0) refl
    where
      x : ℕ
      x = bit_and (get_or anc n 0) s

      zero_out : n ≡ 0 → maximal up s n ≡ false
      zero_out e = on (maximal up s n) refl
        where
          on : (c : Bool) → maximal up s n ≡ c → c ≡ false
          on true w = absurd ((maximal→ up s n w).0 e)
          on false w = refl

      bit_x : n ≢ 0 → (i : ℕ) → bit x i ≡ (below up n i && bit s i)
      bit_x z i = bit_and_lem i (get_or anc n 0) s ∙ ap (λ (b : Bool). b && bit s i) (bit_entry n i z h)

      to : n ≢ 0 → eqb x (2 ^ n) ≡ true → maximal up s n ≡ true
      to z e = →maximal up s n z (λ m w b. sym (eqb-true m n (sym (bit_pow n m) ∙ ap (λ (v : ℕ). bit v m) (sym (eqb-true x (2 ^ n) e)) ∙ bit_x z m ∙ →and (below up n m) (bit s m) b (mem_bit s w))))

      from : n ≢ 0 → maximal up s n ≡ true → eqb x (2 ^ n) ≡ true
      from z e = eq-eqb x (2 ^ n) (set_ext x (2 ^ n) (λ i. bool_ext (bit x i) (bit (2 ^ n) i) (left i) (right i)))
        where
          left : (i : ℕ) → bit x i ≡ true → bit (2 ^ n) i ≡ true
          left i b = let w = and→ (below up n i) (bit s i) (sym (bit_x z i) ∙ b) in bit_pow n i ∙ eq-eqb i n (sym ((maximal→ up s n e).1 i (bit_mem s w.1) w.0))

          right : (i : ℕ) → bit (2 ^ n) i ≡ true → bit x i ≡ true
          right i b =
              let w : i ≡ n = eqb-true i n (sym (bit_pow n i) ∙ b) in
              ap (bit x) w ∙ bit_x z n ∙ →and (below up n n) (bit s n) (below_self up n) g

      at : (c : Bool) → eqb n 0 ≡ c → cond c false (eqb x (2 ^ n)) ≡ maximal up s n
      at true e = sym (zero_out (eqb-true n 0 e))
      at false e = let z = eqb-false n 0 e in bool_ext (eqb x (2 ^ n)) (maximal up s n) (to z) (from z)

  pub reduced_by_lem : (s : ℕ) → ((n : ℕ) → bit s n ≡ true → n < length up) → reduced_by anc s ≡ set_reduced up s
  unfolding reduced_by set_reduced
  reduced_by_lem s f = all_cong (maximal_by anc s) (maximal up s) (members s) (λ n m. let b = mem_bit s m in maximal_by_lem s n b (f n b))

  pub reduce_by_lem : (s : ℕ) → ((n : ℕ) → bit s n ≡ true → n < length up) → reduce_by anc s ≡ set_reduce up s
  unfolding reduce_by set_reduce
  reduce_by_lem s f = ap set_of (keep_cong (maximal_by anc s) (maximal up s) (members s) (λ n m. let b = mem_bit s m in maximal_by_lem s n b (f n b)))

  pub drop_by_lem : (r : ℕ) (s : ℕ) → drop_by anc r s ≡ set_drop up r s
  unfolding drop_by set_drop stays_by
  drop_by_lem r s = ap set_of (keep_cong (stays_by anc r) (λ n. not (below up n r)) (set_names s) (λ n m. ap not (below_by_lem n r)))

-- Touch and raise

pub touch_by_lem : (q : ℕ) (s : ℕ) → q < 64 → touch_by q s ≡ set_touch q s
unfolding touch_by set_touch
touch_by_lem q s h = ap (λ (x : ℕ). cond (eqb q 0) s (bit_or x s)) (one_of_lem q h)

pub raise_by_lem : (r u : ℕ) (s : ℕ) → r < 64 → u < 64 → raise_by r u s ≡ set_raise r u s
unfolding raise_by
raise_by_lem r u s h k = set_ext (raise_by r u s) (set_raise r u s) (λ n. one n (bit (nonzero s) r) refl ∙ sym (bit_raise r u s n))
  where
    t : ℕ
    t = nonzero s

    -- the cases of a bit, as tests
    on : (x z e w : Bool) → (e ≡ true → (x && not z) ≡ true) → (w || cond e (not (x && not z)) (x && not z)) ≡ ((x && (not z && not e)) || (w && true))
    on true true true w f = absurd (false≢true (f refl))
    on true false true true f = refl
    on true false true false f = refl
    on false z true w f = absurd (false≢true (f refl))
    on true true false true f = refl
    on true true false false f = refl
    on true false false true f = refl
    on true false false false f = refl
    on false z false true f = refl
    on false z false false f = refl

    off : (x z e w : Bool) → (e ≡ true → (x && not z) ≡ false) → (x && not z) ≡ ((x && (not z && not e)) || (w && false))
    off true true e true f = refl
    off true true e false f = refl
    off true false true w f = absurd (true≢false (f refl))
    off true false false true f = refl
    off true false false false f = refl
    off false z e true f = refl
    off false z e false f = refl

    at_r : (n : ℕ) (c : Bool) → bit t r ≡ c → eqb n r ≡ true → (bit s n && not (eqb n 0)) ≡ c
    at_r n c e y = sym (bit_nonzero s n) ∙ ap (bit t) (eqb-true n r y) ∙ e

    one : (n : ℕ) (c : Bool) → bit t r ≡ c
        → bit (cond c (bit_or (one_of u) (bit_xor t (one_of r))) t) n ≡ ((bit s n && (not (eqb n 0) && not (eqb n r))) || (eqb n u && (bit s r && not (eqb r 0))))
    one n true e =
        simp (one_of_lem u k, one_of_lem r h, bit_or_lem, bit_xor_lem, bit_pow, bit_nonzero, (sym (bit_nonzero s r) ∙ e))
        (on (bit s n) (eqb n 0) (eqb n r) (eqb n u) (at_r n true e))
    one n false e = simp (bit_nonzero, (sym (bit_nonzero s r) ∙ e)) (off (bit s n) (eqb n 0) (eqb n r) (eqb n u) (at_r n false e))

-- Written sets

-- a test of all members of a set is one of its names, where 0 is no member or passes
all_named : (p : ℕ → Bool) (s : ℕ) → (bit s 0 ≡ true → p 0 ≡ true) → all_of p (members s) ≡ all_of p (set_names s)
all_named p s f = bool_ext _ _ (λ e. →all_of p (set_names s) (λ n m. all_of→ p e (name_mem s m).0)) (λ e. →all_of p (members s) (λ n m. at e n m (eqb n 0) refl))
  where
    at : all_of p (set_names s) ≡ true → (n : ℕ) → Memᴰ n (members s) → (c : Bool) → eqb n 0 ≡ c → p n ≡ true
    at e n m true z = let h : n ≡ 0 = eqb-true n 0 z in ap p h ∙ f (subst (λ (k : ℕ). bit s k ≡ true) h (mem_bit s m))
    at e n m false z = all_of→ p e (mem_name s m (eqb-false n 0 z))

module _ (ds : List Name) (ok : Proper (uppers ds)) (few : length ds ≤ 62) {anc : List ℕ} (table : anc ≡ ancestors_of (uppers ds)) where
  pub set_ok_by_lem : (s : ℕ) → set_ok_by anc (length ds) s ≡ set_ok ds (of_word s)
  unfolding set_ok_by set_ok declared_of declared ◌and◌ names reduced
  set_ok_by_lem s = at (all_of (declared ds) (members s)) refl ∙ ap (λ (c : Bool). c and set_reduced (uppers ds) s) (all_named (declared ds) s (λ b. lt-ltb 0 (2 + length ds) (omega arith)))
    where
      at : (c : Bool) → all_of (declared ds) (members s) ≡ c → (c and reduced_by anc s) ≡ (c and set_reduced (uppers ds) s)
      at true e = reduced_by_lem ok (omega (arith, uppers_length ds)) table s (λ n b. omega (arith, uppers_length ds, ltb-true n (2 + length ds) (all_of→ (declared ds) e (bit_mem s b))))
      at false e = refl

  pub rights_ok_by_lem : (s : ℕ) → rights_ok_by anc ds s ≡ rights_ok ds (of_word s)
  unfolding rights_ok_by rights_ok set_ok ◌and◌ names reduced set_reduced
  rights_ok_by_lem s = ap (λ (c : Bool). c and all_of (host_name ds) (members s)) (set_ok_by_lem s) ∙ at (set_ok ds (of_word s)) refl
    where
      at : (c : Bool) → set_ok ds (of_word s) ≡ c → (c and all_of (host_name ds) (members s)) ≡ (c and all_of (host_name ds) (set_names s))
      at true e = all_named (host_name ds) s (λ b. absurd ((maximal→ (uppers ds) s 0 (all_of→ (maximal (uppers ds) s) (and_r (all_of (declared ds) (set_names s)) (set_reduced (uppers ds) s) e) (bit_mem s b))).0 refl))
      at false e = refl
