-- Number 10: the scopes that are passed down from the last expression are those of the contexts, where each expression but the last is used once.
use Rattle.std.specs.Prelude.{◌≡◌, Bool, ◌||◌, ◌≢◌, set, replicate, eqb, ltb}
use Rattle.std.proofs.Math.Path.{refl, sym, ap, ap₂, subst⁻¹}
use Rattle.std.proofs.Common.{◌∙◌, subst, true≢false, get_or-set_other}
use Prim.Native.Nat.{ℕ, zero, suc, ◌+◌, ◌-◌, ◌*◌, ◌/◌, ◌%◌, ◌≤◌, ◌<◌}
use native.Mathlib.Omega.{arith}
use Rattle.std.proofs.Math.Bool.{true, false, cond}
use mathlib.Core.List.{List, [], ◌∷◌, ◌++◌, map, Memᴰ}
use Rattle.std.proofs.Math.ListN.{length, get_or, length-set, length-replicate}
use Rattle.std.proofs.lemmas.List.{length-map}
use Rattle.std.proofs.Math.Seq.{get_or-set_same}
use Rattle.std.specs.Int.Bits.{bit_or}
use borrow.Author.Tests.{lt-ltb, ltb-true, ltb-false, eq-eqb, ne_eqb, eqb-true, eqb-false}
use Rattle.order.specs.Sets.{bit, some_of}
use Rattle.order.proofs.SetLaws.{bit_or_lem}
use Rattle.syntax.specs.Types.{Ty}
use Rattle.syntax.specs.Commands.{Cmd, map_cmd}
use Rattle.syntax.specs.Operands.{nth, plain, inner, children, binds_var, binds_name}
use Rattle.syntax.specs.Words as words
use Rattle.syntax.specs.Job.{Src}
use Rattle.syntax.specs.Tree.{Entry, binds, vars_of, names_of, mem_b, count, host_ctx, predecessor, root, uses, used_right, parent, scope_in, ctx, name_in}
use Rattle.syntax.proofs.Scope.{count_mem, uses_mem, mem_uses, parent_is}
use Rattle.syntax.proofs.ReadFormed.{children_map}
use Rattle.syntax.proofs.ReadFormed.{nth_map}
use Rattle.names.specs.Ancestors.{one_of}
use Rattle.uses.specs.Passes.{arity_of, is_operand, is_body, bound_of}
use Rattle.tree.specs.Passes.{inherited_by, put_in, inherit_step, inherited_down, scopes_by}
use Rattle.uses.specs.Heads.{byte_of, byte_is, keys_of, op_at, operand_is, use_at, uses5, children_count, one_bit, Sort, is_variable, is_function, is_key, is_plain, asked}
use Rattle.uses.specs.Binders.{kind_of, kind_app, mem_b_app, Own, own, own_mem}

-- Operands by place

use_found : (o : Bool) (s c : ℕ) → 1 ≤ use_at o s c → (o ≡ true) × (s ≡ c)
unfolding use_at
use_found false s c h = absurd (omega arith)
use_found true s c h = (refl, at (eqb c s) refl h)
  where
    at : (b : Bool) → eqb c s ≡ b → 1 ≤ cond b 1 0 → s ≡ c
    at true e k = sym (eqb-true c s e)
    at false e k = absurd (omega arith)

-- a use is in one of the places
place_of : (b q : ℕ) (s : List ℕ) (c : ℕ) → 1 ≤ uses5 b q s c → (i : ℕ) × (i < 5) × (op_at b q i ≡ true) × (get_or s i 0 ≡ c)
unfolding uses5
place_of b q s c h = at4 (ltb 0 (u 4)) refl
  where
    u : ℕ → ℕ
    u i = use_at (op_at b q i) (get_or s i 0) c

    here : (i : ℕ) → i < 5 → ltb 0 (u i) ≡ true → (i : ℕ) × (i < 5) × (op_at b q i ≡ true) × (get_or s i 0 ≡ c)
    here i k e = let z = use_found (op_at b q i) (get_or s i 0) c (ltb-true 0 (u i) e) in (i, k, z.0, z.1)

    at0 : ltb 0 (u 4) ≡ false → ltb 0 (u 3) ≡ false → ltb 0 (u 2) ≡ false → ltb 0 (u 1) ≡ false → (i : ℕ) × (i < 5) × (op_at b q i ≡ true) × (get_or s i 0 ≡ c)
    at0 e4 e3 e2 e1 = here 0 (omega arith) (lt-ltb 0 (u 0) (omega (arith, h, ltb-false 0 (u 4) e4, ltb-false 0 (u 3) e3, ltb-false 0 (u 2) e2, ltb-false 0 (u 1) e1)))

    at1 : (x : Bool) → ltb 0 (u 1) ≡ x → ltb 0 (u 4) ≡ false → ltb 0 (u 3) ≡ false → ltb 0 (u 2) ≡ false → (i : ℕ) × (i < 5) × (op_at b q i ≡ true) × (get_or s i 0 ≡ c)
    at1 true e e4 e3 e2 = here 1 (omega arith) e
    at1 false e e4 e3 e2 = at0 e4 e3 e2 e

    at2 : (x : Bool) → ltb 0 (u 2) ≡ x → ltb 0 (u 4) ≡ false → ltb 0 (u 3) ≡ false → (i : ℕ) × (i < 5) × (op_at b q i ≡ true) × (get_or s i 0 ≡ c)
    at2 true e e4 e3 = here 2 (omega arith) e
    at2 false e e4 e3 = at1 (ltb 0 (u 1)) refl e4 e3 e

    at3 : (x : Bool) → ltb 0 (u 3) ≡ x → ltb 0 (u 4) ≡ false → (i : ℕ) × (i < 5) × (op_at b q i ≡ true) × (get_or s i 0 ≡ c)
    at3 true e e4 = here 3 (omega arith) e
    at3 false e e4 = at2 (ltb 0 (u 2)) refl e4 e

    at4 : (x : Bool) → ltb 0 (u 4) ≡ x → (i : ℕ) × (i < 5) × (op_at b q i ≡ true) × (get_or s i 0 ≡ c)
    at4 true e = here 4 (omega arith) e
    at4 false e = at3 (ltb 0 (u 3)) refl e

use_self : (c : ℕ) → use_at true c c ≡ 1
unfolding use_at
use_self c = rw (eq-eqb c c refl)

use_here : (b q : ℕ) (s : List ℕ) (i : ℕ) → i < 5 → op_at b q i ≡ true → 1 ≤ uses5 b q s (get_or s i 0)
unfolding uses5
use_here b q s i h o = at i h o
  where
    one : (x : Bool) (c : ℕ) → x ≡ true → use_at x c c ≡ 1
    one x c e = ap (λ (y : Bool). use_at y c c) e ∙ use_self c

    at : (j : ℕ) → j < 5 → op_at b q j ≡ true
        → 1 ≤ use_at (op_at b q 4) (get_or s 4 0) (get_or s j 0)
        + (use_at (op_at b q 3) (get_or s 3 0) (get_or s j 0) + (use_at (op_at b q 2) (get_or s 2 0) (get_or s j 0) + (use_at (op_at b q 1) (get_or s 1 0) (get_or s j 0) + use_at (op_at b q 0) (get_or s 0 0) (get_or s j 0))))
    at zero k e = omega (arith, one (op_at b q 0) (get_or s 0 0) e)
    at (suc zero) k e = omega (arith, one (op_at b q 1) (get_or s 1 0) e)
    at (suc (suc zero)) k e = omega (arith, one (op_at b q 2) (get_or s 2 0) e)
    at (suc (suc (suc zero))) k e = omega (arith, one (op_at b q 3) (get_or s 3 0) e)
    at (suc (suc (suc (suc zero)))) k e = omega (arith, one (op_at b q 4) (get_or s 4 0) e)
    at (suc (suc (suc (suc (suc j))))) k e = absurd (omega arith)

mem_count : (x : ℕ) (l : List ℕ) → 1 ≤ count x l → Memᴰ x l
unfolding count
mem_count x [] h = absurd (omega arith)
mem_count x (y ∷ l) h = at (eqb x y) refl h (λ k. mem_count x l k)
  where
    at : (b : Bool) → eqb x y ≡ b → 1 ≤ cond b 1 0 + count x l → (1 ≤ count x l → Memᴰ x l) → Memᴰ x (y ∷ l)
    at true e k f = mathlib.Core.List.Memᴰ.head (eqb-true x y e)
    at false e k f = mathlib.Core.List.Memᴰ.tail (f (omega arith))

pub child_place : (k : Cmd ℕ) → length (words.slots k) ≡ 5 → (c : ℕ) → Memᴰ c (children k) → (i : ℕ) × (i < 5) × (is_operand (words.head_word k) i ≡ true) × (get_or (words.slots k) i 0 ≡ c)
child_place k h c m =
    let z = place_of (byte_of k) (keys_of k) (words.slots k) c (omega (arith, children_count k h c, count_mem c (children k) m)) in
    (z.0, z.1, operand_is k z.0 ∙ z.2, z.3)

pub place_child : (k : Cmd ℕ) → length (words.slots k) ≡ 5 → (i : ℕ) → i < 5 → is_operand (words.head_word k) i ≡ true → Memᴰ (get_or (words.slots k) i 0) (children k)
place_child k h i l e =
    let c = get_or (words.slots k) i 0 in
    mem_count c (children k) (omega (arith, children_count k h c, use_here (byte_of k) (keys_of k) (words.slots k) i l (sym (operand_is k i) ∙ e)))

-- the operand in place i is the body where the head says so
unfoldable body_at : ℕ → ℕ → Bool
body_at b i = cond (eqb b 0x35) (eqb i 0) (cond (eqb b 0x3E) (eqb i 1) false)

body_at_lem : (f : ℕ → Ty) {k : Cmd ℕ} → Sort k → (i : ℕ) → op_at (byte_of k) (keys_of k) i ≡ true → count (get_or (words.slots k) i 0) (children k) ≤ 1 → mem_b (get_or (words.slots k) i 0) (inner (map_cmd f k)) ≡ body_at (byte_of k) i
unfolding op_at arity_of byte_of words.slots words.filled inner map_cmd children plain count body_at mem_b some_of
body_at_lem f (is_variable v) i o h = refl
body_at_lem f (is_function v t b) zero o h = rw (eq-eqb b b refl)
body_at_lem f (is_function v t b) (suc i) o h = absurd (omega (arith, ltb-true (suc i) 1 o))
body_at_lem f (is_key v r a b t) zero o h = at (eqb a b) refl
  where
    one : Bool → ℕ
    one y = cond y 1 0

    at : (x : Bool) → eqb a b ≡ x → cond (eqb a b) true false ≡ false
    at true e = absurd (omega (arith, h, ap one (eq-eqb a a refl), ap one e))
    at false e = rw e
body_at_lem f (is_key v r a b t) (suc zero) o h = rw (eq-eqb b b refl)
body_at_lem f (is_key v r a b t) (suc (suc i)) o h = absurd (omega (arith, ltb-true (suc (suc i)) 2 o))
body_at_lem f {k} (is_plain p) i o h = ap (mem_b (get_or (words.slots k) i 0)) (p.no_body f) ∙ sym (none (eqb (byte_of k) 0x35) (eqb (byte_of k) 0x3E) p.no_function p.no_key)
  where
    none : (x y : Bool) → x ≡ false → y ≡ false → cond x (eqb i 0) (cond y (eqb i 1) false) ≡ false
    none x y e d = rw (e, d)

pub body_is : (f : ℕ → Ty) (k : Cmd ℕ) (i : ℕ) → is_operand (words.head_word k) i ≡ true → count (get_or (words.slots k) i 0) (children k) ≤ 1 → mem_b (get_or (words.slots k) i 0) (inner (map_cmd f k)) ≡ is_body (words.head_word k) i
unfolding is_body body_at
body_is f k i o h = body_at_lem f (asked k).sort i (sym (operand_is k i) ∙ o) h ∙ ap (λ (b : ℕ). body_at b i) (sym (byte_is k))

-- A variable or a name in a scope

unfoldable pub in_kind : Bool → List Entry → ℕ → Bool
in_kind named Γ n = cond named (name_in Γ n) (mem_b n (vars_of Γ))

or_comm : (a b : Bool) → (a || b) ≡ (b || a)
or_comm true true = refl
or_comm true false = refl
or_comm false true = refl
or_comm false false = refl

in_own : (named : Bool) (Δ Γ : List Entry) {b : ℕ} → Own (kind_of named Δ) b → (n : ℕ) → n < 64 → in_kind named (Δ ++ Γ) n ≡ (in_kind named Γ n || eqb n b)
unfolding in_kind name_in kind_of
in_own named Δ Γ {b} o n h = at named (ap (mem_b n) (kind_app named Δ Γ) ∙ mem_b_app n (kind_of named Δ) (kind_of named Γ) ∙ ap (λ (x : Bool). x || mem_b n (kind_of named Γ)) (own_mem o n h) ∙ or_comm (eqb n b) (mem_b n (kind_of named Γ)))
  where
    low : (x y z : Bool) → y ≡ (z || eqb n b) → cond x true y ≡ (cond x true z || eqb n b)
    low true y z e = refl
    low false y z e = e

    at : (c : Bool) → mem_b n (kind_of c (Δ ++ Γ)) ≡ (mem_b n (kind_of c Γ) || eqb n b) → cond c (name_in (Δ ++ Γ) n) (mem_b n (vars_of (Δ ++ Γ))) ≡ (cond c (name_in Γ n) (mem_b n (vars_of Γ)) || eqb n b)
    at true e = low (ltb n 2) (mem_b n (names_of (Δ ++ Γ))) (mem_b n (names_of Γ)) e
    at false e = e

-- The job

module _ (S : Src) (l : List (Cmd ℕ)) (f : ℕ → Ty) (is : S.cmds ≡ map (map_cmd f) l) (some_cmd : 0 < length l) (few : length l ≤ 512)
    (used : (e : ℕ) → e < length l → used_right S e ≡ true)
    (operand : (e c : ℕ) → Memᴰ c (children (nth l e)) → c < e) where
  size : length S.cmds ≡ length l
  size = ap length is ∙ length-map l (map_cmd f)

  predecessor_is : (n : ℕ) → 0 < n → suc (predecessor n) ≡ n
  unfolding predecessor
  predecessor_is zero h = absurd (omega arith)
  predecessor_is (suc n) h = refl

  pub root_is : suc (root S) ≡ length l
  unfolding root
  root_is = predecessor_is (length S.cmds) (omega (arith, size)) ∙ size

  code_at : (e : ℕ) → nth S.cmds e ≡ map_cmd f (nth l e)
  code_at e = ap (λ (m : List (Cmd Ty)). nth m e) is ∙ nth_map f l e

  children_at : (e : ℕ) → children (nth S.cmds e) ≡ children (nth l e)
  children_at e = ap children (code_at e) ∙ children_map f (nth l e)

  once : (e : ℕ) → e < root S → uses S.cmds e ≡ 1
  unfolding used_right
  once e h = let ne : e ≢ root S = λ z. omega arith in eqb-true (uses S.cmds e) 1 (rw (ne_eqb e (root S) ne) at (used e (omega (arith, root_is))))

  never : uses S.cmds (root S) ≡ 0
  unfolding used_right
  never = eqb-true (uses S.cmds (root S)) 0 (rw (eq-eqb (root S) (root S) refl) at (used (root S) (omega (arith, root_is))))

  -- a parent of e: one that has it as an operand
  pub record Above (e p : ℕ) : Type 0 where
    pub has : Memᴰ e (children (nth S.cmds p))
    pub below_root : e < root S
    pub later : e < p
    pub in_job : p < length l
    pub found : parent S.cmds 0 e ≡ p

  pub above_is : (e p : ℕ) → Memᴰ e (children (nth l p)) → Above e p
  above_is e p m =
      let k : Memᴰ e (children (nth S.cmds p)) = subst⁻¹ (λ (x : List ℕ). Memᴰ e x) (children_at p) m in
      let u = uses_mem S.cmds p e k in
      let q : e < p = operand p e m in
      let r : p < length l = omega (arith, u.2, size) in
      let t : e < root S = omega (arith, root_is) in
      record { has = k; below_root = t; later = q; in_job = r; found = parent_is S.cmds 0 p e (omega (arith, once e t)) k ∙ omega arith }

  pub above : (e : ℕ) → e < root S → (p : ℕ) × Above e p
  above e h =
      let z = mem_uses S.cmds e (omega (arith, once e h)) in
      (z.0, above_is e z.0 (subst (λ (x : List ℕ). Memᴰ e x) (children_at z.0) z.1))

  -- the context by one step up, and by any number of steps that is enough
  step_up : (g e p : ℕ) → Above e p → ctx S (suc g) e ≡ scope_in e (nth S.cmds p) ++ ctx S g p
  unfolding ctx
  step_up g e p a = let ne : e ≢ root S = λ z. omega (arith, a.below_root) in rw (ne_eqb e (root S) ne, a.found)

  at_root : (g : ℕ) → ctx S g (root S) ≡ host_ctx S
  unfolding ctx
  at_root zero = refl
  at_root (suc g) = rw (eq-eqb (root S) (root S) refl)

  enough : (g h e : ℕ) → e ≤ root S → root S ≤ e + g → root S ≤ e + h → ctx S g e ≡ ctx S h e
  enough zero h e k a b = let z : e ≡ root S = omega arith in rw z (at_root zero ∙ sym (at_root h))
  enough (suc g) zero e k a b = let z : e ≡ root S = omega arith in rw z (at_root (suc g) ∙ sym (at_root zero))
  enough (suc g) (suc h) e k a b = at (eqb e (root S)) refl (λ p x y z. enough g h p x y z)
    where
      at : (x : Bool) → eqb e (root S) ≡ x → ((p : ℕ) → p ≤ root S → root S ≤ p + g → root S ≤ p + h → ctx S g p ≡ ctx S h p) → ctx S (suc g) e ≡ ctx S (suc h) e
      at true z ih = let y : e ≡ root S = eqb-true e (root S) z in rw y (at_root (suc g) ∙ sym (at_root (suc h)))
      at false z ih =
          let ne : e ≢ root S = eqb-false e (root S) z in
          let u = above e (omega arith) in
          let p = u.0 in
          step_up g e p u.1
          ∙ ap (λ (Γ : List Entry). scope_in e (nth S.cmds p) ++ Γ) (ih p (omega (arith, u.1.in_job, root_is)) (omega (arith, u.1.later)) (omega (arith, u.1.later)))
          ∙ sym (step_up h e p u.1)

  -- the context of an expression
  abbrev pub around : ℕ → List Entry
  around e = ctx S (length l) e

  around_up : (e p : ℕ) → Above e p → around e ≡ scope_in e (nth S.cmds p) ++ around p
  around_up e p a = enough (length l) (suc (length l)) e (omega (arith, a.below_root)) (omega (arith, root_is)) (omega (arith, root_is)) ∙ step_up (length l) e p a

  -- The scopes that are passed down

  module _ (named : Bool) (heads places : List ℕ)
      (head : (e : ℕ) → e < length l → get_or heads e 0 ≡ words.head_word (nth l e))
      (five : (e : ℕ) → e < length l → length (words.slots (nth l e)) ≡ 5)
      (slot : (e i : ℕ) → e < length l → i < 5 → get_or places (e * 5 + i) 0 ≡ get_or (words.slots (nth l e)) i 0)
      (var : (e v : ℕ) → Memᴰ v (binds_var (nth l e)) → v < 64)
      (name : (e r : ℕ) → Memᴰ r (binds_name (nth l e)) → r < 64) where
    -- a set has what is in scope at c
    pub record Good (c x : ℕ) : Type 0 where
      pub bits : (n : ℕ) → n < 64 → bit x n ≡ in_kind named (around c) n

    -- c is the last expression, or an operand in place j or after it
    data Done (j c : ℕ) : Type 0 where
      d_root : c ≡ root S → Done j c
      d_place : (q i : ℕ) → j ≤ q * 5 + i → i < 5 → q < length l → is_operand (get_or heads q 0) i ≡ true → get_or places (q * 5 + i) 0 ≡ c → Done j c

    down : (j c : ℕ) → (is_operand (get_or heads (j / 5) 0) (j % 5) ≡ true → get_or places j 0 ≡ c → ⊥) → Done j c → Done (suc j) c
    down j c f (d_root e) = d_root e
    down j c f (d_place q i le h k o s) = at (eqb (q * 5 + i) j) refl
      where
        at : (b : Bool) → eqb (q * 5 + i) j ≡ b → Done (suc j) c
        at true e =
            let z : q * 5 + i ≡ j = eqb-true (q * 5 + i) j e in
            let x : q ≡ j / 5 = omega arith in
            let y : i ≡ j % 5 = omega arith in
            absurd (f (sym (ap₂ (λ (a b : ℕ). is_operand (get_or heads a 0) b) x y) ∙ o) (ap (λ (a : ℕ). get_or places a 0) (sym z) ∙ s))
        at false e = let ne : q * 5 + i ≢ j = eqb-false (q * 5 + i) j e in d_place q i (omega arith) h k o s

    -- every expression has its place after those of its own operands
    has_place : (c j : ℕ) → c < length l → j < c * 5 + 5 → Done (suc j) c
    has_place c j h k = at (eqb c (root S)) refl
      where
        at : (b : Bool) → eqb c (root S) ≡ b → Done (suc j) c
        at true e = d_root (eqb-true c (root S) e)
        at false e =
            let ne : c ≢ root S = eqb-false c (root S) e in
            let u = above c (omega (arith, root_is)) in
            let q = u.0 in
            let z = child_place (nth l q) (five q u.1.in_job) c (subst (λ (x : List ℕ). Memᴰ c x) (children_at q) u.1.has) in
            d_place q z.0 (omega (arith, u.1.later)) z.1 u.1.in_job (ap (λ (w : ℕ). is_operand w z.0) (head q u.1.in_job) ∙ z.2) (slot q z.0 u.1.in_job z.1 ∙ z.3)

    -- what is passed to the operand in place i of p is its scope
    inherited_good : (p i x : ℕ) → p < length l → i < 5 → is_operand (get_or heads p 0) i ≡ true → Good p x → Good (get_or places (p * 5 + i) 0) (inherited_by named (get_or heads p 0) i x)
    unfolding inherited_by scope_in
    inherited_good p i x h k o g =
        let w = get_or heads p 0 in
        let c = get_or places (p * 5 + i) 0 in
        let sc : c ≡ get_or (words.slots (nth l p)) i 0 = slot p i h k in
        let op : is_operand (words.head_word (nth l p)) i ≡ true = ap (λ (w : ℕ). is_operand w i) (sym (head p h)) ∙ o in
        let m : Memᴰ c (children (nth l p)) = subst⁻¹ (λ (y : ℕ). Memᴰ y (children (nth l p))) sc (place_child (nth l p) (five p h) i k op) in
        let a = above_is c p m in
        let few : count (get_or (words.slots (nth l p)) i 0) (children (nth l p)) ≤ 1 =
        omega (arith, ap (λ (y : ℕ). count y (children (nth l p))) sc, ap (count c) (children_at p), (uses_mem S.cmds p c a.has).1, once c a.below_root) in
        let b : mem_b c (inner (nth S.cmds p)) ≡ is_body w i =
        ap₂ (λ (y : ℕ) (z : Cmd Ty). mem_b y (inner z)) sc (code_at p) ∙ body_is f (nth l p) i op few ∙ ap (λ (w : ℕ). is_body w i) (sym (head p h)) in
        record { bits = λ n q. body (is_body w i) n q ∙ sym (ap (λ (Γ : List Entry). in_kind named Γ n) (around_up c p a ∙ ap (λ (y : Bool). cond y (binds (nth S.cmds p)) [] ++ around p) b)) }
      where
        owns : Own (kind_of named (binds (nth S.cmds p))) (bound_of named (get_or heads p 0))
        owns =
            subst⁻¹ (λ (z : Cmd Ty). Own (kind_of named (binds z)) (bound_of named (get_or heads p 0))) (code_at p)
            (subst⁻¹ (λ (w : ℕ). Own (kind_of named (binds (map_cmd f (nth l p)))) (bound_of named w)) (head p h) (own f named (nth l p) (var p) (name p)))

        body : (y : Bool) (n : ℕ) → n < 64 → bit (cond y (bit_or x (one_of (bound_of named (get_or heads p 0)))) x) n ≡ in_kind named (cond y (binds (nth S.cmds p)) [] ++ around p) n
        body true n q =
            bit_or_lem n x (one_of (bound_of named (get_or heads p 0)))
            ∙ ap₂ (λ (u v : Bool). u || v) (g.bits n q) (one_bit (bound_of named (get_or heads p 0)) n q)
            ∙ sym (in_own named (binds (nth S.cmds p)) (around p) owns n q)
        body false n q = g.bits n q

    -- one place
    step : (j : ℕ) (sc : List ℕ) → j < length l * 5 → length sc ≡ 512 → ((c : ℕ) → c < length l → Done (suc j) c → Good c (get_or sc c 0))
        → (c : ℕ) → c < length l → Done j c → Good c (get_or (inherit_step named sc (get_or heads (j / 5) 0) (j % 5) (j / 5) (get_or places j 0)) c 0)
    unfolding inherit_step put_in
    step j sc h k inv c n d = at (is_operand (get_or heads (j / 5) 0) (j % 5)) refl
      where
        p : ℕ
        p = j / 5

        i : ℕ
        i = j % 5

        s : ℕ
        s = get_or places j 0

        x : ℕ
        x = inherited_by named (get_or heads p 0) i (get_or sc p 0)

        lt : p < length l
        lt = omega arith

        good : is_operand (get_or heads p 0) i ≡ true → Good s x
        good o =
            let z : p * 5 + i ≡ j = omega arith in
            subst (λ (y : ℕ). Good (get_or places y 0) x) z (inherited_good p i (get_or sc p 0) lt (omega arith) o (inv p lt (has_place p j lt (omega arith))))

        same : is_operand (get_or heads p 0) i ≡ true → c ≡ s → Good c (get_or (cond (ltb s 512) (set sc s x) sc) c 0)
        same o e =
            let q : c < 512 = omega arith in
            let y : get_or (set sc c x) c 0 ≡ x = get_or-set_same sc c x 0 (omega arith) in
            rw (← e, lt-ltb c 512 q, y) (subst⁻¹ (λ (t : ℕ). Good t x) e (good o))

        other : (b : Bool) → c ≢ s → Good c (get_or (cond b (set sc s x) sc) c 0)
        other true e = rw (get_or-set_other sc s c x 0 e) (inv c n (down j c (λ o z. e (sym z)) d))
        other false e = inv c n (down j c (λ o z. e (sym z)) d)

        by : is_operand (get_or heads p 0) i ≡ true → (b : Bool) → eqb c s ≡ b → Good c (get_or (cond (ltb s 512) (set sc s x) sc) c 0)
        by o true e = same o (eqb-true c s e)
        by o false e = other (ltb s 512) (eqb-false c s e)

        at : (b : Bool) → is_operand (get_or heads p 0) i ≡ b → Good c (get_or (cond b (cond (ltb s 512) (set sc s x) sc) sc) c 0)
        at true o = by o (eqb c s) refl
        at false o = inv c n (down j c (λ t z. true≢false (sym t ∙ o)) d)

    step_length : (sc : List ℕ) (w i e s : ℕ) → length (inherit_step named sc w i e s) ≡ length sc
    unfolding inherit_step put_in
    step_length sc w i e s = at (is_operand w i) (ltb s 512)
      where
        at : (o b : Bool) → length (cond o (cond b (set sc s (inherited_by named w i (get_or sc e 0))) sc) sc) ≡ length sc
        at true true = length-set sc s (inherited_by named w i (get_or sc e 0))
        at true false = refl
        at false b = refl

    all : (j : ℕ) (sc : List ℕ) → j ≤ length l * 5 → length sc ≡ 512 → ((c : ℕ) → c < length l → Done j c → Good c (get_or sc c 0))
        → (c : ℕ) → c < length l → Done 0 c → Good c (get_or (inherited_down named heads places j sc) c 0)
    unfolding inherited_down
    all zero sc h k inv c n d = inv c n d
    all (suc j) sc h k inv c n d =
        all j (inherit_step named sc (get_or heads (j / 5) 0) (j % 5) (j / 5) (get_or places j 0)) (omega arith)
        (step_length sc (get_or heads (j / 5) 0) (j % 5) (j / 5) (get_or places j 0) ∙ k) (λ b q e. step j sc (omega arith) k inv b q e) c n d

    pub scopes_are : (host : ℕ) → ((n : ℕ) → n < 64 → bit host n ≡ in_kind named (host_ctx S) n) → (c : ℕ) → c < length l → Good c (get_or (scopes_by named heads places (length l) host) c 0)
    unfolding scopes_by put_in
    scopes_are host g c h =
        let top : length l - 1 ≡ root S = omega (arith, root_is) in
        rw (lt-ltb (length l - 1) 512 (omega arith))
        (all (length l * 5) (set (replicate 512 0) (length l - 1) host) (omega arith) (length-set (replicate 512 0) (length l - 1) host ∙ length-replicate {A = ℕ} 512 0) (λ b q d. start b q d) c h (first (eqb c (root S)) refl))
      where
        start : (b : ℕ) → b < length l → Done (length l * 5) b → Good b (get_or (set (replicate 512 0) (length l - 1) host) b 0)
        start b q (d_root e) =
            let z : b ≡ length l - 1 = omega (arith, root_is) in
            let y : get_or (set (replicate 512 0) (length l - 1) host) (length l - 1) 0 ≡ host = get_or-set_same (replicate 512 0) (length l - 1) host 0 (omega (arith, length-replicate {A = ℕ} 512 0)) in
            let v : get_or (set (replicate 512 0) (length l - 1) host) b 0 ≡ host = ap (λ (t : ℕ). get_or (set (replicate 512 0) (length l - 1) host) t 0) z ∙ y in
            subst⁻¹ (λ (t : ℕ). Good b t) v (record { bits = λ n k. g n k ∙ ap (λ (Γ : List Entry). in_kind named Γ n) (sym (ap (ctx S (length l)) e ∙ at_root (length l))) })
        start b q (d_place r i le k m o s) = absurd (omega arith)

        first : (b : Bool) → eqb c (root S) ≡ b → Done 0 c
        first true e = d_root (eqb-true c (root S) e)
        first false e = weaker (has_place c 0 h (omega arith))
          where
            weaker : Done 1 c → Done 0 c
            weaker (d_root z) = d_root z
            weaker (d_place q i le k m o s) = d_place q i (omega arith) k m o s
