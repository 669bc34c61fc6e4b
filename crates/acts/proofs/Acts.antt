-- What the acts come to, over plain variables.
use Prim.Native.Nat.{ℕ, zero, suc, ◌+◌, ◌%◌, ◌^◌, ◌<◌, ◌≤◌}
use mathlib.Core.Path.{◌≡◌, refl, sym, ◌∙◌, ap}
use mathlib.Core.Bool.{Bool, true, false, cond}
use mathlib.Core.List.{List, [], ◌∷◌, ◌++◌}
use native.Mathlib.Omega.{arith}
use native.Mathlib.Numerals.{add-one}
use borrow.Author.Tests.{lt-ltb, le-ltb}
use lib.Bits.{bit_or}
use lib.Dec.{ltb}
use Rattle.order.specs.Bools.{◌and◌}
use Rattle.semantics.specs.Machine.{k_num, k_pair, k_fn, k_cell, k_lim, k_grant, Value as SValue, unkeyed, Two as STwo, b_var, b_name, Link, Closure as SClosure, Machine as Clean}
use Rattle.semantics.specs.Keys.{enabled, add}
use Rattle.semantics.specs.Step.{Out, o_step, o_done, o_room, o_stuck, o_denied, Plan, room, touch, touch_all, settle, as_num, as_pair, as_fn, as_cell, as_lim, as_grant, found}
use Rattle.semantics.specs.Step.{part_of, act_pair, act_part, act_app, act_new, act_asg, act_read, branch, sum_n, act_sum, act_test, act_grant, make_key, act_newkey, act_assoc, act_access, quotient, remainder, act_divide}
use Rattle.table.specs.declared.Expr.{Expr}
use Rattle.store.specs.declared.Keys.{Keys}
use Rattle.store.specs.declared.Kind.{Kind}
use Rattle.store.specs.declared.Kind.TheVariants.{Number, Pair, Limit, Grant}
use Rattle.store.specs.declared.Value.{Value}
use Rattle.store.specs.Meaning.{keys_in, kind_in, value_in}
use Rattle.store.specs.Words.{cell_in, pair_in, function_in, link_in, up_in}
use Rattle.store.specs.Tables.{Put, Wrote, capped, list_of}
use Rattle.store.proofs.Laws.{list_length, list_get, list_beyond, list_extended, list_set, cap_below, cap_above, cap_more, cap_le}
use Rattle.acts.specs.declared.State.{State}
use Rattle.acts.specs.declared.Acted.{Acted}
use Rattle.acts.specs.declared.Answer.TheVariants.{Finished, NoRoom, Stuck, Denied}
use Rattle.acts.specs.View.{Tables, view}
use Rattle.acts.specs.Inner.{settled, acted, give, go, stop_of, go_of, unkeyed_of, unkeyed_number, put_cells, put_keys, put_pairs, put_bindings, Gave, Went}

-- a step that is not taken
module _ (self : State) (w : Tables) (o : Out) where
  pub is_stuck : {r : Acted} → r ≡ stop_of self Stuck → o ≡ o_stuck → acted r w ≡ settled (view self w) o
  is_stuck e f = simp (e, f)

  pub is_denied : {r : Acted} → r ≡ stop_of self Denied → o ≡ o_denied → acted r w ≡ settled (view self w) o
  is_denied e f = simp (e, f)

  pub is_full : {r : Acted} → r ≡ stop_of self NoRoom → o ≡ o_room → acted r w ≡ settled (view self w) o
  is_full e f = simp (e, f)

  pub is_done_lem : {r : Acted} → r ≡ stop_of self Finished → o ≡ o_done → acted r w ≡ settled (view self w) o
  is_done_lem e f = simp (e, f)

-- a step that is taken
module _ (m : Clean) (t : State) (w : Tables) (o : Out) where
  pub gave : (v : SValue) {r : Acted} → Gave t v r → o ≡ give v (view t w) → acted r w ≡ settled m o
  unfolding view
  gave v e f = simp (e.gives, e.means, f)

  pub gave_new : (k : Kind) (n : ℕ) {v : Value} {r : Acted} → v ≡ unkeyed_of k n → Gave t (value_in v) r → o ≡ give (unkeyed (kind_in k n)) (view t w) → acted r w ≡ settled m o
  gave_new k n {v} h e f = gave (value_in v) e (simp h f)

  pub goes : (e : Expr) (env : ℕ) (on : Keys) {r : Acted} → r ≡ go_of t e env on → o ≡ go e.0 env (keys_in on) (view t w) → acted r w ≡ settled m o
  unfolding view
  goes e env on h f = simp (h, f)

  pub went : {r : Acted} → Went r w o → acted r w ≡ settled m o
  went {r} h = simp (h.answer, h.gives)

abbrev more_pairs : State → State
more_pairs t = record { now = t.now; frames = t.frames; cells = t.cells; keys = t.keys; pairs = t.pairs + 1; functions = t.functions; bindings = t.bindings }

abbrev more_bindings : State → State
more_bindings t = record { now = t.now; frames = t.frames; cells = t.cells; keys = t.keys; pairs = t.pairs; functions = t.functions; bindings = t.bindings + 1 }

abbrev more_cells : State → State
more_cells t = record { now = t.now; frames = t.frames; cells = t.cells + 1; keys = t.keys; pairs = t.pairs; functions = t.functions; bindings = t.bindings }

abbrev more_all : State → ℕ → State
more_all t n = record { now = t.now; frames = t.frames; cells = t.cells; keys = t.keys + 1; pairs = t.pairs + 1; functions = t.functions; bindings = n }

cap_suc : (n most : ℕ) → n < most → capped (suc n) most ≡ suc n
cap_suc n most h = ap (λ (x : ℕ). capped x most) (sym (add-one n)) ∙ cap_more n most h ∙ add-one n

list_more : {A : Type 0} (at : List ℕ → ℕ → A) (a b : List ℕ) (n : ℕ) (x : A) → Wrote at a b n x → list_of at b (suc n) ≡ list_of at a n ++ (x ∷ [])
list_more at a b n x w = ap (list_of at b) (sym (add-one n)) ∙ list_extended at a b n x w

append_two : {A : Type 0} (l : List A) (a b : A) → (l ++ (a ∷ [])) ++ (b ∷ []) ≡ l ++ (a ∷ b ∷ [])
append_two [] a b = refl
append_two {A = A} (x ∷ l) a b = ap (λ (t : List A). x ∷ t) (append_two l a b)

-- key k is enabled
abbrev On : State → Tables → ℕ → Bool
On t w k = enabled (list_of up_in w.keys (capped t.keys 128)) (keys_in t.now.on) k

module _ (back : State) (w : Tables) where
  pub pair_made : (x y : SValue) (q : List ℕ) → back.pairs < 512 → Put pair_in 512 w.pairs q back.pairs (record { one = x; two = y }) →
      settle (act_pair x y (view back w)) ≡ give (unkeyed (k_pair back.pairs)) (view (more_pairs back) (put_pairs w q))
  unfolding view act_pair settle touch_all touch room
  pair_made x y q h p =
      rw (
        cap_below back.pairs 512 h,
        list_length pair_in w.pairs back.pairs,
        lt-ltb back.pairs 512 h,
        cap_more back.pairs 512 h,
        list_extended pair_in w.pairs q back.pairs _ (p.wrote h),
      )

  pub pair_full : (x y : SValue) → 512 ≤ back.pairs → settle (act_pair x y (view back w)) ≡ o_room
  unfolding view act_pair settle touch_all touch room
  pair_full x y h = rw (cap_above back.pairs 512 h, list_length pair_in w.pairs 512)

  module _ (x : SValue) {j : ℕ} {o : Bool} (hk : x.kind ≡ k_pair j) (ho : o ≡ On back w x.key) where
    pub part_denied : (i : Bool) {n : ℕ} → o ≡ false → n ≡ capped back.pairs 512 → j < n → settle (act_part i x (view back w)) ≡ o_denied
    unfolding view act_part as_pair found settle touch_all touch room
    part_denied i {n} h hn l = simp (hk, ← ho, h, ← hn, list_get pair_in w.pairs n j l)

    pub part_one : {i : Bool} {n : ℕ} {t : STwo} → i ≡ true → o ≡ true → n ≡ capped back.pairs 512 → j < n → t ≡ pair_in w.pairs j → settle (act_part i x (view back w)) ≡ give t.one (view back w)
    unfolding view act_part as_pair part_of found settle touch_all touch room
    part_one {i} {n} hi h hn l ht = rw (hk, ← hn, list_get pair_in w.pairs n j l, ← ho, h, hi, ← ht)

    pub part_two : {i : Bool} {n : ℕ} {t : STwo} → i ≡ false → o ≡ true → n ≡ capped back.pairs 512 → j < n → t ≡ pair_in w.pairs j → settle (act_part i x (view back w)) ≡ give t.two (view back w)
    unfolding view act_part as_pair part_of found settle touch_all touch room
    part_two {i} {n} hi h hn l ht = rw (hk, ← hn, list_get pair_in w.pairs n j l, ← ho, h, hi, ← ht)

  module _ (x y : SValue) {j : ℕ} {o : Bool} (hk : x.kind ≡ k_fn j) (ho : o ≡ On back w x.key) where
    pub app_denied : {n : ℕ} → o ≡ false → n ≡ capped back.functions 512 → j < n → settle (act_app x y (view back w)) ≡ o_denied
    unfolding view act_app as_fn found settle touch_all touch room
    app_denied {n} h hn l = simp (hk, ← ho, h, ← hn, list_get function_in w.functions n j l)

    pub app_full : {n : ℕ} → o ≡ true → n ≡ capped back.functions 512 → j < n → 1024 ≤ back.bindings → settle (act_app x y (view back w)) ≡ o_room
    unfolding view act_app as_fn found settle touch_all touch room
    app_full {n} h hn l b = simp (hk, ← ho, h, ← hn, list_get function_in w.functions n j l, cap_above back.bindings 1024 b, list_length link_in)

    pub app_made : {n : ℕ} {f : SClosure} (q : List ℕ) → o ≡ true → n ≡ capped back.functions 512 → j < n → back.bindings < 1024 → f ≡ function_in w.functions j →
        Put link_in 1024 w.bindings q back.bindings (record { bind = b_var f.var y; next = f.env }) →
        settle (act_app x y (view back w)) ≡ go f.body (back.bindings + 1) (keys_in back.now.on) (view (more_bindings back) (put_bindings w q))
    unfolding view act_app as_fn found settle touch_all touch room
    app_made {n} {f} q h hn l b hf p =
        let e : suc back.bindings ≡ back.bindings + 1 = omega arith in
        let r : settle (act_app x y (view back w)) ≡ go f.body (suc back.bindings) (keys_in back.now.on) (view (more_bindings back) (put_bindings w q)) =
        simp (
          hk,
          ← ho,
          h,
          ← hn,
          list_get function_in w.functions n j l,
          ← hf,
          list_length link_in,
          lt-ltb _ _ b,
          cap_more back.bindings 1024 b,
          list_extended link_in w.bindings q back.bindings _ (p.wrote b),
        ) in
        r ∙ ap (λ (z : ℕ). go f.body z (keys_in back.now.on) (view (more_bindings back) (put_bindings w q))) e

  pub cell_made : (x : SValue) (q : List ℕ) → back.cells < 256 → Put cell_in 256 w.cells q back.cells x →
      settle (act_new x (view back w)) ≡ give (unkeyed (k_cell back.cells)) (view (more_cells back) (put_cells w q))
  unfolding view act_new settle touch_all touch room
  cell_made x q h p =
      rw (
        cap_below back.cells 256 h,
        list_length cell_in w.cells back.cells,
        lt-ltb back.cells 256 h,
        cap_more back.cells 256 h,
        list_extended cell_in w.cells q back.cells _ (p.wrote h),
      )

  pub cell_full : (x : SValue) → 256 ≤ back.cells → settle (act_new x (view back w)) ≡ o_room
  unfolding view act_new settle touch_all touch room
  cell_full x h = rw (cap_above back.cells 256 h, list_length cell_in w.cells 256)

  pub part_lost : (x : SValue) (i : Bool) {j n : ℕ} → x.kind ≡ k_pair j → n ≡ capped back.pairs 512 → n ≤ j → settle (act_part i x (view back w)) ≡ o_stuck
  unfolding view act_part as_pair found settle touch_all touch room
  part_lost x i {j} {n} hk hn l = simp (hk, ← hn, list_beyond pair_in w.pairs n j l)

  pub app_lost : (x y : SValue) {j n : ℕ} → x.kind ≡ k_fn j → n ≡ capped back.functions 512 → n ≤ j → settle (act_app x y (view back w)) ≡ o_stuck
  unfolding view act_app as_fn found settle touch_all touch room
  app_lost x y {j} {n} hk hn l = simp (hk, ← hn, list_beyond function_in w.functions n j l)

  pub assign_lost : (x y : SValue) {j n : ℕ} → x.kind ≡ k_cell j → n ≡ capped back.cells 256 → n ≤ j → settle (act_asg x y (view back w)) ≡ o_stuck
  unfolding view act_asg as_cell found settle touch_all touch room
  assign_lost x y {j} {n} hk hn l = simp (hk, ← hn, list_beyond cell_in w.cells n j l)

  pub read_lost : (x : SValue) {j n : ℕ} → x.kind ≡ k_cell j → n ≡ capped back.cells 256 → n ≤ j → settle (act_read x (view back w)) ≡ o_stuck
  unfolding view act_read as_cell found settle touch_all touch room
  read_lost x {j} {n} hk hn l = simp (hk, ← hn, list_beyond cell_in w.cells n j l)

  module _ (x : SValue) {j : ℕ} {o : Bool} (hk : x.kind ≡ k_cell j) (ho : o ≡ On back w x.key) where
    pub assign_denied : (y : SValue) {n : ℕ} → o ≡ false → n ≡ capped back.cells 256 → j < n → settle (act_asg x y (view back w)) ≡ o_denied
    unfolding view act_asg as_cell found settle touch_all touch room
    assign_denied y {n} h hn l = simp (hk, ← ho, h, ← hn, list_get cell_in w.cells n j l)

    pub assigned : (y : SValue) (q : List ℕ) {n : ℕ} → o ≡ true → n ≡ capped back.cells 256 → j < n → Put cell_in 256 w.cells q j y →
        settle (act_asg x y (view back w)) ≡ give y (view back (put_cells w q))
    unfolding view act_asg as_cell found settle touch_all touch room
    assigned y q {n} h hn l p =
        let s : j < 256 = omega (arith, cap_le back.cells 256) in
        simp (hk, ← ho, h, ← hn, list_get cell_in w.cells n j l, list_set cell_in w.cells q n j y (p.wrote s) l)

    pub read_denied : {n : ℕ} → o ≡ false → n ≡ capped back.cells 256 → j < n → settle (act_read x (view back w)) ≡ o_denied
    unfolding view act_read as_cell found settle touch_all touch room
    read_denied {n} h hn l = simp (hk, ← ho, h, ← hn, list_get cell_in w.cells n j l)

    pub was_read : {n : ℕ} {v : SValue} → o ≡ true → n ≡ capped back.cells 256 → j < n → v ≡ cell_in w.cells j → settle (act_read x (view back w)) ≡ give v (view back w)
    unfolding view act_read as_cell found settle touch_all touch room
    was_read {n} h hn l hv = rw (hk, ← hn, list_get cell_in w.cells n j l, ← ho, h, ← hv)

  module _ (x r b : ℕ) (j : ℕ) where
    pub no_keys : 128 ≤ back.keys → settle (make_key [] x r b j (view back w)) ≡ o_room
    unfolding view make_key ◌and◌ settle touch_all touch room
    no_keys h = rw (cap_above back.keys 128 h, list_length up_in w.keys 128)

    pub no_pairs : 512 ≤ back.pairs → back.keys < 128 → settle (make_key [] x r b j (view back w)) ≡ o_room
    unfolding view make_key ◌and◌ settle touch_all touch room
    no_pairs h k = rw (cap_below back.keys 128 k, list_length up_in w.keys back.keys, lt-ltb back.keys 128 k, cap_above back.pairs 512 h, list_length pair_in w.pairs 512)

    pub no_bindings : 1023 ≤ back.bindings → back.keys < 128 → back.pairs < 512 → settle (make_key [] x r b j (view back w)) ≡ o_room
    unfolding view make_key ◌and◌ settle touch_all touch room
    no_bindings h k p =
        let q : 1024 ≤ suc (capped back.bindings 1024) = few h in
        rw (
          cap_below back.keys 128 k,
          list_length up_in w.keys back.keys,
          lt-ltb back.keys 128 k,
          cap_below back.pairs 512 p,
          list_length pair_in w.pairs back.pairs,
          lt-ltb back.pairs 512 p,
          list_length link_in w.bindings (capped back.bindings 1024),
          le-ltb _ _ q,
        )
      where
        few : 1023 ≤ back.bindings → 1024 ≤ suc (capped back.bindings 1024)
        few h = at (ltb back.bindings 1024)
          where
            at : (c : Bool) → 1024 ≤ suc (cond c back.bindings 1024)
            at true = omega arith
            at false = omega arith

    pub new_made : (keys pairs bs cs : List ℕ) (s t : ℕ) → s ≡ suc back.bindings → t ≡ suc s → back.keys < 128 → back.pairs < 512 → suc back.bindings < 1024 →
        Put up_in 128 w.keys keys back.keys j → Put pair_in 512 w.pairs pairs back.pairs (record { one = unkeyed (k_lim back.keys); two = unkeyed (k_grant back.keys) }) →
        Put link_in 1024 w.bindings bs back.bindings (record { bind = b_name r back.keys; next = back.now.env }) →
        Put link_in 1024 bs cs s (record { bind = b_var x (unkeyed (k_pair back.pairs)); next = s }) →
        settle (make_key [] x r b j (view back w)) ≡ go b t (keys_in back.now.on) (view (more_all back t) (put_bindings (put_pairs (put_keys w keys) pairs) cs))
    unfolding view make_key ◌and◌ settle touch_all touch room
    new_made keys pairs bs cs s t es et hk hp hb pk pp pb pc =
        let lb : back.bindings < 1024 = omega arith in
        let ls : s < 1024 = omega arith in
        let lc : suc back.bindings < 1024 = omega arith in
        let ct : capped (suc (suc back.bindings)) 1024 ≡ suc (suc back.bindings) = cap_suc (suc back.bindings) 1024 lc in
        let pv : Wrote link_in bs cs (suc back.bindings) (record { bind = b_var x (unkeyed (k_pair back.pairs)); next = suc back.bindings }) = rw es at (pc.wrote ls) in
        let gl : list_of link_in cs (suc (suc back.bindings)) ≡ list_of link_in w.bindings back.bindings
        ++ (record { bind = b_name r back.keys; next = back.now.env } ∷ record { bind = b_var x (unkeyed (k_pair back.pairs)); next = suc back.bindings } ∷ []) =
        list_more link_in bs cs (suc back.bindings) _ pv
        ∙ ap (λ (l : List Link). l ++ (record { bind = b_var x (unkeyed (k_pair back.pairs)); next = suc back.bindings } ∷ [])) (list_more link_in w.bindings bs back.bindings _ (pb.wrote lb))
        ∙ append_two (list_of link_in w.bindings back.bindings) (record { bind = b_name r back.keys; next = back.now.env }) (record { bind = b_var x (unkeyed (k_pair back.pairs)); next = suc back.bindings }) in
        rw (
          cap_below back.keys 128 hk,
          list_length up_in w.keys back.keys,
          lt-ltb back.keys 128 hk,
          cap_below back.pairs 512 hp,
          list_length pair_in w.pairs back.pairs,
          lt-ltb back.pairs 512 hp,
          cap_below back.bindings 1024 lb,
          list_length link_in w.bindings back.bindings,
          lt-ltb (suc back.bindings) 1024 lc,
          et,
          es,
          cap_more back.keys 128 hk,
          cap_more back.pairs 512 hp,
          list_extended up_in w.keys keys back.keys _ (pk.wrote hk),
          list_extended pair_in w.pairs pairs back.pairs _ (pp.wrote hp),
          ct,
          gl,
        )

pub branch_no : (n a b : ℕ) → n ≡ 0 → branch n a b ≡ b
unfolding branch
branch_no n a b e = rw e

pub branch_yes : (n a b : ℕ) → (n ≡ 0 → ⊥) → branch n a b ≡ a
unfolding branch
branch_yes zero a b e = absurd (e refl)
branch_yes (suc n) a b e = refl

-- a plan that is chosen
pub either : (d : Bool) (p q : Plan) {o : Out} → settle p ≡ o → settle q ≡ o → settle (cond d p q) ≡ o
either true p q h k = h
either false p q h k = k

pub by_first : (d : Bool) (p q : Plan) → d ≡ true → settle (cond d p q) ≡ settle p
by_first d p q e = rw e

pub by_second : (d : Bool) (p q : Plan) → d ≡ false → settle (cond d p q) ≡ settle q
by_second d p q e = rw e

-- the acts that read no table but that of the keys
module _ (back : State) (w : Tables) where
  module _ (i : Bool) (x y : SValue) {a b : ℕ} {o : Bool} (hx : x.kind ≡ k_num a) (hy : y.kind ≡ k_num b) (ho : o ≡ On back w x.key) where
    pub sum_first : o ≡ false → settle (act_sum i x y (view back w)) ≡ o_denied
    unfolding view act_sum as_num found settle touch_all touch room
    sum_first h = simp (hx, hy, ← ho, h)

    pub sum_second : {p : Bool} → o ≡ true → p ≡ On back w y.key → p ≡ false → settle (act_sum i x y (view back w)) ≡ o_denied
    unfolding view act_sum as_num found settle touch_all touch room
    sum_second h hp k = simp (hx, hy, ← ho, h, ← hp, k)

    pub summed : {p : Bool} {n : ℕ} → o ≡ true → p ≡ On back w y.key → p ≡ true → n ≡ sum_n i a b → settle (act_sum i x y (view back w)) ≡ give (unkeyed (k_num n)) (view back w)
    unfolding view act_sum as_num found settle touch_all touch room
    summed h hp k hn = simp (hx, hy, ← ho, h, ← hp, k, hn)

  module _ (x y : SValue) {a b : ℕ} {o : Bool} (hx : x.kind ≡ k_num a) (hy : y.kind ≡ k_num b) (ho : o ≡ On back w x.key) where
    pub divide_first : o ≡ false → settle (act_divide x y (view back w)) ≡ o_denied
    unfolding view act_divide as_num found settle touch_all touch room
    divide_first h = simp (hx, hy, ← ho, h)

    pub divide_second : {p : Bool} → o ≡ true → p ≡ On back w y.key → p ≡ false → settle (act_divide x y (view back w)) ≡ o_denied
    unfolding view act_divide as_num found settle touch_all touch room
    divide_second h hp k = simp (hx, hy, ← ho, h, ← hp, k)

    -- with both keys enabled it is the act of a pair of the two parts
    pub divided : {p : Bool} → o ≡ true → p ≡ On back w y.key → p ≡ true
        → settle (act_divide x y (view back w)) ≡ settle (act_pair (unkeyed_number (quotient a b)) (unkeyed_number (remainder a b)) (view back w))
    unfolding view act_pair act_divide as_num found settle touch_all touch room
    divided h hp k = simp (hx, hy, ← ho, h, ← hp, k)

  -- the parts as words
  pub parts_are : (a b : ℕ) {n m : ℕ} (u v : Value) → n ≡ quotient a b → m ≡ remainder a b → u ≡ unkeyed_of Number n → v ≡ unkeyed_of Number m
      → settle (act_pair (unkeyed_number (quotient a b)) (unkeyed_number (remainder a b)) (view back w)) ≡ settle (act_pair (value_in u) (value_in v) (view back w))
  parts_are a b u v hn hm hu hv = simp (hu, hv, hn, hm)

  module _ (b c : ℕ) (x : SValue) {n : ℕ} {o : Bool} (hx : x.kind ≡ k_num n) (ho : o ≡ On back w x.key) where
    pub test_denied : o ≡ false → settle (act_test b c x (view back w)) ≡ o_denied
    unfolding view act_test as_num found settle touch_all touch room
    test_denied h = simp (hx, ← ho, h)

    pub test_goes : {e : ℕ} → o ≡ true → branch n b c ≡ e → settle (act_test b c x (view back w)) ≡ go e back.now.env (keys_in back.now.on) (view back w)
    unfolding view act_test as_num found settle touch_all touch room
    test_goes h hb = simp (hx, ← ho, h, hb)

  module _ (b : ℕ) (x : SValue) {j : ℕ} {o : Bool} (hx : x.kind ≡ k_grant j) (ho : o ≡ On back w x.key) where
    pub grant_denied : o ≡ false → settle (act_grant b x (view back w)) ≡ o_denied
    unfolding view act_grant as_grant found settle touch_all touch room
    grant_denied h = simp (hx, ← ho, h)

    pub granted : (s : Keys) {k : ℕ} → o ≡ true → k ≡ j → keys_in s ≡ cond (ltb k (capped back.keys 128)) (bit_or (2 ^ k) (keys_in back.now.on)) (keys_in back.now.on) →
        settle (act_grant b x (view back w)) ≡ go b back.now.env (keys_in s) (view back w)
    unfolding view act_grant as_grant found add settle touch_all touch room
    granted s h hk hs = simp (hx, ← ho, h, hs, hk, list_length up_in)

  module _ (b c : ℕ) (x : SValue) {j : ℕ} {o : Bool} (hx : x.kind ≡ k_lim j) (ho : o ≡ On back w x.key) where
    pub access_denied : o ≡ false → settle (act_access b c x (view back w)) ≡ o_denied
    unfolding view act_access as_lim found settle touch_all touch room
    access_denied h = simp (hx, ← ho, h)

    -- p: whether the key k that it stands for is enabled
    pub access_yes : {p : Bool} {k : ℕ} → o ≡ true → k ≡ j → p ≡ On back w k → p ≡ true → settle (act_access b c x (view back w)) ≡ go b back.now.env (keys_in back.now.on) (view back w)
    unfolding view act_access as_lim found settle touch_all touch room
    access_yes h hk hp hb = let z = hp ∙ ap (On back w) hk in simp (hx, ← ho, h, ← z, hb)

    pub access_no : {p : Bool} {k : ℕ} → o ≡ true → k ≡ j → p ≡ On back w k → p ≡ false → settle (act_access b c x (view back w)) ≡ go c back.now.env (keys_in back.now.on) (view back w)
    unfolding view act_access as_lim found settle touch_all touch room
    access_no h hk hp hb = let z = hp ∙ ap (On back w) hk in simp (hx, ← ho, h, ← z, hb)

  module _ (x y : SValue) {j : ℕ} {o : Bool} (hy : y.kind ≡ k_lim j) (ho : o ≡ On back w x.key) where
    pub assoc_first : o ≡ false → settle (act_assoc x y (view back w)) ≡ o_denied
    unfolding view act_assoc as_lim found settle touch_all touch room
    assoc_first h = simp (hy, ← ho, h)

    pub assoc_second : {p : Bool} → o ≡ true → p ≡ On back w y.key → p ≡ false → settle (act_assoc x y (view back w)) ≡ o_denied
    unfolding view act_assoc as_lim found settle touch_all touch room
    assoc_second h hp k = simp (hy, ← ho, h, ← hp, k)

    pub associated : {p : Bool} {q : ℕ} → o ≡ true → p ≡ On back w y.key → p ≡ true → q ≡ j →
        settle (act_assoc x y (view back w)) ≡ give (record { key = q; kind = x.kind }) (view back w)
    unfolding view act_assoc as_lim found settle touch_all touch room
    associated h hp k hq = simp (hy, ← ho, h, ← hp, k, hq)

module _ (back : State) (w : Tables) (x r b : ℕ) (v : SValue) {j : ℕ} {o : Bool} (hk : v.kind ≡ k_lim j) (ho : o ≡ On back w v.key) where
  pub key_denied : o ≡ false → settle (act_newkey x r b v (view back w)) ≡ o_denied
  unfolding view act_newkey make_key as_lim found settle touch_all touch room
  key_denied h = simp (hk, ← ho, h)

  pub key_goes : o ≡ true → settle (act_newkey x r b v (view back w)) ≡ settle (make_key [] x r b j (view back w))
  unfolding view act_newkey make_key as_lim found settle touch_all touch room
  key_goes h = simp (hk, ← ho, h)

pub went_to : {r : Acted} {w : Tables} (m : Clean) (o : Out) {p : Out} → o ≡ p → Went r w p → acted r w ≡ settled m o
went_to m o e h = simp (e, h.answer, h.gives)

went_view :
    (self : State) (w : Tables) (b : Expr) (n : ℕ) (keys pairs cs : List ℕ) {t : Acted} → t ≡ go_of (more_all self n) b n self.now.on →
    go b.0 n (keys_in self.now.on) (view (more_all self n) (put_bindings (put_pairs (put_keys w keys) pairs) cs)) ≡ o_step (view t.state (put_bindings (put_pairs (put_keys w keys) pairs) cs))
unfolding view
went_view self w b n keys pairs cs e = simp e

pub made_all :
    (self : State) (w : Tables) (x r : ℕ) (b : Expr) (j : ℕ) (keys pairs bs cs : List ℕ) {l g p : Value} {t : Acted} →
    self.keys < 128 → self.pairs < 512 → suc self.bindings < 1024 →
    l ≡ unkeyed_of Limit self.keys → g ≡ unkeyed_of Grant self.keys → p ≡ unkeyed_of Pair self.pairs →
    Put up_in 128 w.keys keys self.keys j → Put pair_in 512 w.pairs pairs self.pairs (record { one = value_in l; two = value_in g }) →
    Put link_in 1024 w.bindings bs self.bindings (record { bind = b_name r self.keys; next = self.now.env }) →
    Put link_in 1024 bs cs (self.bindings + 1) (record { bind = b_var x (value_in p); next = self.bindings + 1 }) →
    t ≡ go_of (more_all self (self.bindings + 2)) b (self.bindings + 2) self.now.on →
    Went t (put_bindings (put_pairs (put_keys w keys) pairs) cs) (settle (make_key [] x r b.0 j (view self w)))
made_all self w x r b j keys pairs bs cs hk hp hb el eg ep pk pp pb pc et =
    let s1 : self.bindings + 1 ≡ suc self.bindings = omega arith in
    let s2 : self.bindings + 2 ≡ suc (self.bindings + 1) = omega arith in
    let m : self.keys % 256 ≡ self.keys = omega arith in
    let q = new_made self w x r b.0 j keys pairs bs cs (self.bindings + 1) (self.bindings + 2) s1 s2 hk hp hb pk (rw (el, eg, m) at pp) pb (rw ep at pc) in
    record { answer = ap (λ (a : Acted). a.answer) et; gives = q ∙ went_view self w b (self.bindings + 2) keys pairs cs et }
